-- What is left answers for the whole.
use Rattle.std.proofs.Common.{◌≡◌, ℕ, ◌<◌, Bool, true, map}
use Rattle.sets.specs.Members.{places, member, each_in, every}
use Rattle.sets.proofs.all.Given as goal

abbrev pub invariant-loop-i : goal.invariant-loop-i
invariant-loop-i g l = (f : ℕ → Bool) → ((i : ℕ) (b : _) → i < places → member l.x i ≡ true → goal.F-post g l.keeps i b → b ≡ f i) → every (map f l.i-iterator) ≡ each_in f l.x
