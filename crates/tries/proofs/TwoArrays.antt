-- The memory of the code: two arrays, of modules and of starts. The search that the contracts of `over` and `attempt` cite gives the answer.
-- Assumes nothing.
use mathlib.Core.Path.{◌≡◌, refl, sym, ◌∙◌, ap, ap₂}
use mathlib.Core.Bool.{Bool, true, false, cond}
use mathlib.Core.List.{List, [], ◌∷◌, ◌++◌, Memᴰ}
use Prim.Native.Nat.{ℕ, zero, suc, ◌+◌, ◌≤◌, ◌<◌}
use native.Mathlib.Omega.{arith}
use native.Mathlib.Numerals.{add-one}
use lib.ListN.{length, take, set, get_or, length-set}
use lib.Seq.{take-suc-set, take-set-le, take-take, length-take-le, get_or-set_same}
use lib.Dec.{leb, ltb}
use Rattle.tries.specs.Tries.{Hereditary, answer}
use Rattle.tries.specs.Placements.{placements}
use Rattle.tries.specs.Code.{Standing, begun, rounds, attempt_of, search_of, pairs, placed, shown}
use Rattle.tries.proofs.Placements.{grid_mem}
use Rattle.tries.proofs.Bridge.{State, loop, grid_is, Keeps, attempt_s, search_s, view, search_answers}

abbrev pub Arrays : Type 0
Arrays = List ℕ × List ℕ

abbrev pub put : ℕ → ℕ × ℕ → Arrays → Arrays
put j a m = (set m.0 j a.0, set m.1 j a.1)

-- the first j placements
abbrev pub read : ℕ → Arrays → List (ℕ × ℕ)
read j m = placed j m.0 m.1

abbrev pub Fits : ℕ → Arrays → Type 0
Fits n m = (n ≤ length m.0) × (n ≤ length m.1)

pairs_append : (xs ys : List ℕ) (a b : ℕ) → length xs ≡ length ys → pairs (xs ++ (a ∷ [])) (ys ++ (b ∷ [])) ≡ pairs xs ys ++ ((a, b) ∷ [])
unfolding pairs
pairs_append [] [] a b e = refl
pairs_append [] (y ∷ ys) a b e = absurd (omega arith)
pairs_append (x ∷ xs) [] a b e = absurd (omega arith)
pairs_append (x ∷ xs) (y ∷ ys) a b e = ap {B = List (ℕ × ℕ)} (λ r. (x, y) ∷ r) (pairs_append xs ys a b (omega arith))

take_pairs : (j : ℕ) (xs ys : List ℕ) → take j (pairs xs ys) ≡ pairs (take j xs) (take j ys)
unfolding pairs
take_pairs zero xs ys = refl
take_pairs (suc j) [] ys = refl
take_pairs (suc j) (x ∷ xs) [] = refl
take_pairs (suc j) (x ∷ xs) (y ∷ ys) = ap {B = List (ℕ × ℕ)} (λ r. (x, y) ∷ r) (take_pairs j xs ys)

read_down : (j : ℕ) (m : Arrays) → read j m ≡ take j (read (j + 1) m)
read_down j m = sym (take_pairs j (take (j + 1) m.0) (take (j + 1) m.1) ∙ ap₂ pairs (take-take j (j + 1) m.0 (omega arith)) (take-take j (j + 1) m.1 (omega arith)))

pub arrays_keep : (n : ℕ) → Keeps n put read (Fits n)
arrays_keep n = record {
  fits = λ j a m l f. (rw length-set f.0, rw length-set f.1);
  none = λ m. (unfold pairs in refl);
  next = λ j a m l f. rw (add-one j) (ap₂ pairs (take-suc-set m.0 j a.0 (omega arith)) (take-suc-set m.1 j a.1 (omega arith))
      ∙ pairs_append (take j m.0) (take j m.1) a.0 a.1 (length-take-le j m.0 (omega arith) ∙ sym (length-take-le j m.1 (omega arith))));
  same = λ j a m l f. ap₂ pairs (take-set-le j m.0 j a.0 (omega arith)) (take-set-le j m.1 j a.1 (omega arith));
  down = λ j m m' e. read_down j m ∙ (ap (take j) e ∙ sym (read_down j m'));
}

-- the same with the two arrays as the memory
abbrev pub conv : Standing → State Arrays
conv o = record { is_found = o.found; is_stopped = o.stopped; made = o.tries; mem = (o.modules, o.starts) }

conv_rounds : (f : ℕ → Standing → Standing) (g : ℕ → State Arrays → State Arrays) → ((i : ℕ) (o : Standing) → conv (f i o) ≡ g i (conv o))
    → (n i : ℕ) (o : Standing) → conv (rounds f n i o) ≡ loop g n i (conv o)
unfolding rounds loop
conv_rounds f g h zero i o = refl
conv_rounds f g h (suc n) i o = go o.found o.stopped (conv_rounds f g h n (i + 1) (f i o) ∙ ap (loop g n (i + 1)) (h i o))
  where
    go : (c d : Bool) → conv (rounds f n (i + 1) (f i o)) ≡ loop g n (i + 1) (g i (conv o))
        → conv (cond c o (cond d o (rounds f n (i + 1) (f i o)))) ≡ cond c (conv o) (cond d (conv o) (loop g n (i + 1) (g i (conv o))))
    go true d e = refl
    go false true e = refl
    go false false e = e

abbrev pub judged : (List ℕ → List ℕ → ℕ → Bool) → Arrays → ℕ → Bool
judged fits m j = fits m.0 m.1 j

module _ (count modules : ℕ) (width : ℕ → ℕ) (fits : List ℕ → List ℕ → ℕ → Bool) (limit : ℕ) where
  conv_attempt : (next : Standing → Standing) (next_s : State Arrays → State Arrays) → ((o : Standing) → conv (next o) ≡ next_s (conv o))
      → (j m t : ℕ) (o : Standing) → conv (attempt_of count modules width fits limit next j m t o) ≡ attempt_s count put (judged fits) limit next_s j (m, t) (conv o)
  unfolding attempt_of attempt_s
  conv_attempt next next_s h j m t o =
      go (leb limit o.tries) (fits (set o.modules j m) (set o.starts j t) j) (ltb (j + 1) count) (h one)
    where
      over : Standing
      over = record { found = false; stopped = true; tries = o.tries; modules = o.modules; starts = o.starts }

      all : Standing
      all = record { found = true; stopped = false; tries = o.tries + 1; modules = set o.modules j m; starts = set o.starts j t }

      one : Standing
      one = begun (o.tries + 1) (set o.modules j m) (set o.starts j t)

      go : (c d e : Bool) → conv (next one) ≡ next_s (conv one)
          → conv (cond c over (cond d (cond e (next one) all) one)) ≡ cond c (conv over) (cond d (cond e (next_s (conv one)) (conv all)) (conv one))
      go true d e q = refl
      go false false e q = refl
      go false true true q = q
      go false true false q = refl

  conv_search : (r j : ℕ) (o : Standing) → conv (search_of count modules width fits limit r j o) ≡ search_s count put (placements modules width) (judged fits) limit r j (conv o)
  unfolding search_of search_s
  conv_search zero j o = refl
  conv_search (suc r) j o =
      conv_rounds _ (λ m. loop (λ t. try' (m, t)) (width j) 0)
      (λ m o. conv_rounds _ (λ t. try' (m, t)) (λ t o. conv_attempt (search_of count modules width fits limit r (j + 1)) (search_s count put (placements modules width) (judged fits) limit r (j + 1)) (conv_search r (j + 1)) j m t o) (width j) 0 o)
      modules 0 o
      ∙ grid_is try' (width j) modules 0 (conv o)
    where
      try' : ℕ × ℕ → State Arrays → State Arrays
      try' = attempt_s count put (judged fits) limit (search_s count put (placements modules width) (judged fits) limit r (j + 1)) j

  -- the search of the code gives the answer, where after sound placements its test says whether the plan with one more is sound
  pub code_answers : (sound : List (ℕ × ℕ) → Bool) → Hereditary sound
      → ((j : ℕ) (ms ts : List ℕ) → j < count → get_or ms j 0 < modules → get_or ts j 0 < width j → count ≤ length ms → count ≤ length ts
      → sound (placed j ms ts) ≡ true → fits ms ts j ≡ sound (placed (j + 1) ms ts))
      → (ms ts : List ℕ) → count ≤ length ms → count ≤ length ts
      → shown count (search_of count modules width fits limit count 0 (begun 0 ms ts)) ≡ answer count (placements modules width) sound limit
  unfolding shown view
  code_answers sound h law ms ts l k =
      ap (view count read) (conv_search count 0 (begun 0 ms ts))
      ∙ search_answers count put read (Fits count) (arrays_keep count) (placements modules width) (judged fits) sound
      (record { same = judges }) limit h (ms, ts) (l, k)
    where
      judges : (j : ℕ) (a : ℕ × ℕ) (m : Arrays) → j < count → Memᴰ a (placements modules width j) → Fits count m → sound (read j m) ≡ true
          → judged fits (put j a m) j ≡ sound (read (j + 1) (put j a m))
      judges j a m i q f s =
          let g = grid_mem (width j) modules 0 a q in
          law j (set m.0 j a.0) (set m.1 j a.1) i
          (rw (get_or-set_same m.0 j a.0 0 (omega arith)) (omega arith))
          (rw (get_or-set_same m.1 j a.1 0 (omega arith)) g.1)
          (rw length-set f.0) (rw length-set f.1)
          (ap sound ((arrays_keep count).same j a m i f) ∙ s)
