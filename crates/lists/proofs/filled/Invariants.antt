-- The elements before i are filled.
use Rattle.std.proofs.Common.{◌≡◌, ℕ, ◌<◌}
use Rattle.lists.specs.Filled.{filled}
use Rattle.lists.proofs.filled.Given as goal

abbrev pub invariant-loop-i : goal.invariant-loop-i
invariant-loop-i g l =
    (f : ℕ → _) → ((i : ℕ) (x : _) → i < l.n → goal.F-post g l.make i x → x ≡ f i) → l.all ≡ filled g.row.N l.i f l.fn.rest
