-- The records before i are not broken.
use Rattle.std.proofs.Common.{◌≡◌, ℕ, ◌<◌}
use Rattle.numbers.specs.Refusals.{number_of}
use Rattle.numbers.proofs.Passed.{Passed}
use Rattle.numbers.proofs.each.Given as goal

abbrev pub invariant-loop-i : goal.invariant-loop-i
invariant-loop-i g l =
    (f : ℕ → ℕ) → ((i : ℕ) (r : _) → i < l.n → goal.F-post g l.check i r → number_of r ≡ f i) → Passed f l.n l.i
