-- The two ways on in `search::attempts::over`: to the next start, and behind the last one to the next module. Assumes nothing.
use native.Mathlib.Omega.{arith}
use Rattle.search.proofs.Steps.{turns, turns_last}
use Rattle.search.proofs.attempts.+attempt_over.Goals as goal

pub over-loop-t-preserved : goal.over-loop-t-preserved
over-loop-t-preserved t c = turns _ _ _ _ _ _ _ c.loop-t.invariant _ c.of-host.ensures.module (omega arith) _ c.in_ok-attempt.ensures

pub over-loop-m-preserved : goal.over-loop-m-preserved
over-loop-m-preserved t c =
    turns_last _ _ _ _ _ _ _ c.loop-t.invariant _ c.loop-m.invariant c.loop-m-test.true (omega arith)
