-- The first i placements stand over the zeros.
use Rattle.std.proofs.Common.{◌≡◌}
use Rattle.reader.specs.Plan.{with_placements}
use Rattle.reader.proofs.plan.write_plan.Given as goal

abbrev pub invariant-loop-i : goal.invariant-loop-i
invariant-loop-i l = l.d ≡ with_placements l.plan.modules l.plan.starts l.i l.initial.d
