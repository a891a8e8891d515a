use Rattle.std.proofs.Common.{rules}
use Rattle.sound.specs.Desk.{partners_in, partners_of}
use Rattle.sound.proofs.desk.partners_of.Goals as goal

pub returns : goal.returns
unfolding partners_of
returns c = let s = c.args.s.now in c.filled.ensures (λ j. partners_in s c.args.kind j s.head.exclusions) (λ j r h p. search rules)
