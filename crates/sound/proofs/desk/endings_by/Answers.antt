use Rattle.std.proofs.Common.{rules}
use Rattle.sound.specs.Desk.{completed_by, endings_of}
use Rattle.sound.proofs.desk.endings_by.Goals as goal

pub returns : goal.returns
unfolding endings_of
returns c = c.filled.ensures (completed_by c.args.s.now) (λ j r h p. search rules)
