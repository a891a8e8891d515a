use Rattle.std.proofs.Common.{◌≤◌}
use Rattle.builder_run.proofs.misses.Given as goal

-- there are no more misses than steps
abbrev pub invariant-loop-n : goal.invariant-loop-n
invariant-loop-n l = l.wrong ≤ l.n
