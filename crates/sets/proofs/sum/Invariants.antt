-- What is summed and the sum over what is left make the whole.
use Rattle.std.proofs.Common.{◌≡◌, ◌+◌, ℕ, get_or}
use Rattle.std.specs.List.{sum_by}
use Rattle.sets.specs.Members.{sum_over}
use Rattle.sets.proofs.sum.Given as goal

abbrev pub invariant-loop-i : goal.invariant-loop-i
invariant-loop-i l = l.total + sum_by (λ (i : ℕ). get_or l.a i 0) l.i-iterator ≡ sum_over (λ (i : ℕ). get_or l.a i 0) l.x
