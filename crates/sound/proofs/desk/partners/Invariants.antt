use mathlib.Core.Path.{◌≡◌}
use Rattle.sound.specs.Desk.{partners_in}
use Rattle.sound.proofs.desk.partners.Given as goal

abbrev pub invariant-loop-x : goal.invariant-loop-x
invariant-loop-x l = l.set ≡ partners_in l.s l.kind l.j l.x
