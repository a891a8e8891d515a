use Rattle.std.proofs.Common.{rules}
use Rattle.model.specs.Decoded.{starts_number}
use Rattle.model.proofs.fields.check_starts.Goals as goal

pub returns : goal.returns
unfolding starts_number
returns c = c.each.ensures _ (λ i r h p. search rules)
