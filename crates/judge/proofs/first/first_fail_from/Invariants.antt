-- The first failing place from here on is the first of all.
use Rattle.std.proofs.Common.{◌≡◌, ℕ, ◌-◌, ◌≤◌, ◌<◌, Bool}
use Rattle.judge.specs.Places.{fails_from}
use Rattle.judge.proofs.first.first_fail_from.Given as goal

abbrev pub invariant-loop-i : goal.invariant-loop-i
invariant-loop-i g l =
    (p : ℕ → Bool) → ((i : ℕ) (b : _) → l.start ≤ i → i < l.n → goal.F-post g l.keeps i b → b ≡ p i)
    → fails_from p (l.n - l.i) l.i ≡ fails_from p (l.n - l.start) l.start
