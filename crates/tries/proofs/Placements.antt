-- Which placements a partition has, and which words are over them. Assumes nothing.
use mathlib.Core.Path.{◌≡◌, refl, ap}
use mathlib.Core.List.Memᴰ
use mathlib.Core.List.{List, [], ◌∷◌, ◌++◌, map, Memᴰ}
use mathlib.Core.Logic.{◌⊎◌, inl, inr}
use Prim.Native.Nat.{ℕ, zero, suc, ◌+◌, ◌≤◌, ◌<◌}
use native.Mathlib.Omega.{arith}
use native.Mathlib.Decide.{ℕ_discrete}
use lib.ListN.{length, get_or}
use Rattle.tries.specs.Order.{Over}
use Rattle.tries.specs.Placements.{upward, grid, placements}
use Rattle.tries.specs.Code.{pairs}

upward_mem : (n i t : ℕ) → Memᴰ t (upward n i) → t < i + n
unfolding upward
upward_mem zero i t m = absurd (Memᴰ.not-nil m)
upward_mem (suc n) i t m = go (upward_mem n (i + 1) t) (Memᴰ.cases_cons m)
  where
    go : (Memᴰ t (upward n (i + 1)) → t < i + 1 + n) → (t ≡ i) ⊎ Memᴰ t (upward n (i + 1)) → t < i + suc n
    go f (inl e) = omega arith
    go f (inr m) = omega (arith, f m)

mem_upward : (n i t : ℕ) → i ≤ t → t < i + n → Memᴰ t (upward n i)
unfolding upward
mem_upward zero i t l h = absurd (omega arith)
mem_upward (suc n) i t l h = go (ℕ_discrete t i) (mem_upward n (i + 1) t)
  where
    go : Dec (t ≡ i) → (i + 1 ≤ t → t < i + 1 + n → Memᴰ t (upward n (i + 1))) → Memᴰ t (i ∷ upward n (i + 1))
    go (yes e) f = Memᴰ.head e
    go (no e) f = Memᴰ.tail (f (omega arith) (omega arith))

pub grid_mem : (w n i : ℕ) (a : ℕ × ℕ) → Memᴰ a (grid w n i) → (a.0 < i + n) × (a.1 < w)
unfolding grid
grid_mem w zero i a m = absurd (Memᴰ.not-nil m)
grid_mem w (suc n) i a m = go (grid_mem w n (i + 1) a) (Memᴰ.append_cases (map {B = ℕ × ℕ} (λ t. (i, t)) (upward w 0)) m)
  where
    row : (t : ℕ) × Memᴰ t (upward w 0) × ((i, t) ≡ a) → (a.0 < i + suc n) × (a.1 < w)
    row t = rw (← t.2) (omega arith, omega (arith, upward_mem w 0 t.0 t.1))

    go : (Memᴰ a (grid w n (i + 1)) → (a.0 < i + 1 + n) × (a.1 < w)) → Memᴰ a (map {B = ℕ × ℕ} (λ t. (i, t)) (upward w 0)) ⊎ Memᴰ a (grid w n (i + 1)) → (a.0 < i + suc n) × (a.1 < w)
    go f (inl m) = row (Memᴰ.of_map {B = ℕ × ℕ} (λ t. (i, t)) (upward w 0) m)
    go f (inr m) = let r = f m in (omega arith, r.1)

pub mem_grid : (w n i m t : ℕ) → i ≤ m → m < i + n → t < w → Memᴰ (m, t) (grid w n i)
unfolding grid
mem_grid w zero i m t l h k = absurd (omega arith)
mem_grid w (suc n) i m t l h k = go (ℕ_discrete i m) (λ a b. mem_grid w n (i + 1) m t a b k)
  where
    go : Dec (i ≡ m) → (i + 1 ≤ m → m < i + 1 + n → Memᴰ (m, t) (grid w n (i + 1)))
        → Memᴰ (m, t) (map {B = ℕ × ℕ} (λ t. (i, t)) (upward w 0) ++ grid w n (i + 1))
    go (yes e) f = rw e (Memᴰ.append_left _ (Memᴰ.map (λ (t : ℕ). (m, t)) (mem_upward w 0 t (omega arith) (omega arith))))
    go (no e) f = Memᴰ.append_right (map {B = ℕ × ℕ} (λ t. (i, t)) (upward w 0)) (f (omega arith) (omega arith))

-- where there are starts and modules there are placements
pub some_placement : (modules : ℕ) (width : ℕ → ℕ) (j : ℕ) → 0 < modules → 0 < width j → 0 < length (placements modules width j)
some_placement modules width j h k = go (placements modules width j) (mem_grid (width j) modules 0 0 0 (omega arith) (omega arith) k)
  where
    go : (l : List (ℕ × ℕ)) → Memᴰ (0, 0) l → 0 < length l
    go [] m = absurd (Memᴰ.not-nil m)
    go (a ∷ l) m = omega arith

-- the module and the start of the placements of a word
abbrev pub modules_of : List (ℕ × ℕ) → List ℕ
modules_of w = map (λ a. a.0) w

abbrev pub starts_of : List (ℕ × ℕ) → List ℕ
starts_of w = map (λ a. a.1) w

module _ (modules : ℕ) (width : ℕ → ℕ) where
  -- each placement of a word over the placements is in a module below `modules` with a start below the width
  pub over_bounds : (j : ℕ) (w : List (ℕ × ℕ)) → Over (placements modules width) j w
      → (i : ℕ) → i < length w → (get_or (modules_of w) i 0 < modules) × (get_or (starts_of w) i 0 < width (j + i))
  over_bounds j [] o i l = absurd (omega arith)
  over_bounds j (a ∷ w) o zero l =
      let g = grid_mem (width j) modules 0 a o.0 in
      let same : j + 0 ≡ j = omega arith in
      (omega arith, rw same g.1)
  over_bounds j (a ∷ w) o (suc i) l =
      let same : j + suc i ≡ j + 1 + i = omega arith in
      rw same (over_bounds (j + 1) w o.1 i (omega arith))

  -- and a word of such placements is over the placements
  pub bounds_over : (j : ℕ) (w : List (ℕ × ℕ))
      → ((i : ℕ) → i < length w → (get_or (modules_of w) i 0 < modules) × (get_or (starts_of w) i 0 < width (j + i))) → Over (placements modules width) j w
  bounds_over j [] h = tt
  bounds_over j (a ∷ w) h = (
    mem_grid (width j) modules 0 a.0 a.1 (omega arith) first.0 first.1,
    bounds_over (j + 1) w (λ i l. let same : j + suc i ≡ j + 1 + i = omega arith in rw same at (h (suc i) (omega arith))),
  )
    where
      first : (a.0 < 0 + modules) × (a.1 < width j)
      first =
          let f = h 0 (omega arith) in
          let same : j + 0 ≡ j = omega arith in
          let zero_more : 0 + modules ≡ modules = omega arith in
          (rw zero_more f.0, rw same at f.1)

-- two columns side by side, and a word taken apart into its columns
pub pairs_modules : (xs ys : List ℕ) → length xs ≡ length ys → modules_of (pairs xs ys) ≡ xs
unfolding pairs
pairs_modules [] ys e = refl
pairs_modules (x ∷ xs) [] e = absurd (omega arith)
pairs_modules (x ∷ xs) (y ∷ ys) e = ap {B = List ℕ} (λ r. x ∷ r) (pairs_modules xs ys (omega arith))

pub pairs_starts : (xs ys : List ℕ) → length xs ≡ length ys → starts_of (pairs xs ys) ≡ ys
unfolding pairs
pairs_starts [] [] e = refl
pairs_starts [] (y ∷ ys) e = absurd (omega arith)
pairs_starts (x ∷ xs) [] e = absurd (omega arith)
pairs_starts (x ∷ xs) (y ∷ ys) e = ap {B = List ℕ} (λ r. y ∷ r) (pairs_starts xs ys (omega arith))

pub length_pairs : (xs ys : List ℕ) → length xs ≡ length ys → length (pairs xs ys) ≡ length xs
unfolding pairs
length_pairs [] ys e = refl
length_pairs (x ∷ xs) [] e = absurd (omega arith)
length_pairs (x ∷ xs) (y ∷ ys) e = ap suc (length_pairs xs ys (omega arith))
