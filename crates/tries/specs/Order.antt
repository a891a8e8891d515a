-- What it is to be a word over the placements, and which of two words stands first: document 01, "Order tries as dictionary words, a shorter
-- one before its own extensions." Stated without lists of words, so that `words` of Tries.antt can be held against it. Assumes nothing.
use Rattle.std.specs.Prelude.{◌≡◌, ℕ, ◌+◌}
use mathlib.Core.List.{List, [], ◌∷◌, Memᴰ}

module _ {A : Type 0} where
  -- "A partial plan places partitions 0 to j - 1": its placements are choices of the partitions j, j + 1, ..
  abbrev pub Over : (ℕ → List A) → ℕ → List A → Type 0
  Over choices j [] = Unit {0}
  Over choices j (a ∷ w) = Memᴰ a (choices j) × Over choices (j + 1) w

  -- a stands before b in a list
  pub data Earlier (a b : A) : List A → Type 0 where
    here : {x : A} {l : List A} → a ≡ x → Memᴰ b l → Earlier a b (x ∷ l)
    there : {x : A} {l : List A} → Earlier a b l → Earlier a b (x ∷ l)

  -- u stands before v in the dictionary, from partition j on: v goes on where u ends; or they begin alike, and the rest of u stands before
  -- the rest of v; or u begins with the earlier choice
  pub data Precedes (choices : ℕ → List A) : ℕ → List A → List A → Type 0 where
    shorter : {j : ℕ} {a : A} {v : List A} → Precedes choices j [] (a ∷ v)
    alike : {j : ℕ} {a : A} {u v : List A} → Precedes choices (j + 1) u v → Precedes choices j (a ∷ u) (a ∷ v)
    earlier : {j : ℕ} {a b : A} {u v : List A} → Earlier a b (choices j) → Precedes choices j (a ∷ u) (b ∷ v)

  -- each stands in the relation to all that come after it
  abbrev pub InOrder : (List A → List A → Type 0) → List (List A) → Type 0
  InOrder R [] = Unit {0}
  InOrder R (w ∷ ws) = ((v : List A) → Memᴰ v ws → R w v) × InOrder R ws
