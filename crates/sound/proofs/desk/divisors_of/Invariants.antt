-- The rows before i are filled.
use Rattle.std.proofs.Common.{◌≡◌}
use Rattle.std.specs.Prelude.{replicate}
use Rattle.model.specs.Limits.{most_partitions}
use Rattle.lists.specs.Filled.{filled}
use Rattle.sound.specs.Desk.{divisors_with}
use Rattle.sound.proofs.desk.divisors_of.Given as goal

abbrev pub invariant-loop-i : goal.invariant-loop-i
invariant-loop-i l = l.all ≡ filled most_partitions l.i (divisors_with l.periods) (replicate most_partitions 0)
