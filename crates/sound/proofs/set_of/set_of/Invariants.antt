use Rattle.std.proofs.Common.{◌≡◌, ℕ, ◌<◌, Bool}
use Rattle.sets.specs.Members.{set_of}
use Rattle.sound.proofs.set_of.set_of.Given as goal

abbrev pub invariant-loop-i : goal.invariant-loop-i
invariant-loop-i g l = (f : ℕ → Bool) → ((i : ℕ) (b : _) → i < l.n → goal.F-post g l.keeps i b → b ≡ f i) → l.set ≡ set_of f l.i
