-- The measure of `search::attempts::attempt` and `over`: the partitions left, where going over one comes before trying a placement of it.
-- Assumes nothing.
use Prim.Native.Nat.{◌+◌, ◌-◌, ◌*◌}
use Rattle.search.proofs.Steps.{ByModule, ByStart}
use Rattle.search.proofs.attempts.+attempt_over.Given as goal

abbrev pub decreases-attempt : goal.decreases-attempt
decreases-attempt l = 2 * (64 - l.j)

abbrev pub decreases-over : goal.decreases-over
decreases-over l = 2 * (64 - l.j) + 1

abbrev pub invariant-over-loop-m : goal.invariant-over-loop-m
invariant-over-loop-m l = ByModule l.desk l.limit l.j l.initial.course l.course l.m

abbrev pub invariant-over-loop-t : goal.invariant-over-loop-t
invariant-over-loop-t l = ByStart l.desk l.limit l.j l.initial.course l.course l.m l.t
