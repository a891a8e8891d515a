-- The sets are those of the partitions passed.
use mathlib.Core.Path.{◌≡◌}
use Rattle.judge.specs.Hosted.{sets_on}
use Rattle.judge.proofs.rooms.hosted.Given as goal

abbrev pub invariant-loop-i : goal.invariant-loop-i
invariant-loop-i l = l.sets ≡ sets_on l.modules l.i
