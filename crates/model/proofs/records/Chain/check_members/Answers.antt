use Rattle.std.proofs.Common.{rules, ℕ, get_or}
use Rattle.model.specs.Widths.{partition_number_bits}
use Rattle.model.specs.Decoded.{large, members_large}
use Rattle.model.proofs.records.Chain.check_members.Goals as goal

pub returns : goal.returns
unfolding members_large
returns c = cc (c.each.ensures (λ (j : ℕ). large partition_number_bits (get_or c.args.self.members j 0)) (λ j r h p. search rules))
