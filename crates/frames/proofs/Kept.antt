-- The partitions on a module, as the judge speaks of them, by number: they are a module in the sense of the frame.
-- Assumes nothing.
use mathlib.Core.Path.{◌≡◌, refl, ap, sym, ◌∙◌, subst}
use mathlib.Core.Bool.{Bool, true, false, cond, false≢true}
use mathlib.Core.List.{List, ◌∷◌}
use Prim.Native.Nat.{ℕ, zero, suc, ◌+◌, ◌≤◌, ◌<◌}
use native.Mathlib.Nat.{eq-or-lt_of_le}
use mathlib.Core.Logic.{◌⊎◌, inl, inr}
use native.Mathlib.Omega.{arith}
use Rattle.sets.specs.Members.{kept_from, kept}
use Rattle.frames.specs.Frame.{Part, In, here, there, All, Pairs, Fine, Before, Clear, Module}

first_or_later : {q p : Part} {ps : List Part} → In q (p ∷ ps) → (q ≡ p) ⊎ In q ps
first_or_later here = inl refl
first_or_later (there i) = inr i

module _ (on : ℕ → Bool) (part : ℕ → Part) where
  pub kept_yes : (i k : ℕ) → on i ≡ true → kept_from on part i (suc k) ≡ part i ∷ kept_from on part (suc i) k
  unfolding kept_from
  kept_yes i k e = ap (λ (b : Bool). cond b (part i ∷ kept_from on part (suc i) k) (kept_from on part (suc i) k)) e

  pub kept_no : (i k : ℕ) → on i ≡ false → kept_from on part i (suc k) ≡ kept_from on part (suc i) k
  unfolding kept_from
  kept_no i k e = ap (λ (b : Bool). cond b (part i ∷ kept_from on part (suc i) k) (kept_from on part (suc i) k)) e

  -- what holds of each on the module holds of all in the list
  from_all : (P : Part → Type 0) (k i : ℕ) → ((j : ℕ) → i ≤ j → j < i + k → on j ≡ true → P (part j)) → All P (kept_from on part i k)
  unfolding kept_from
  from_all P zero i h = tt
  from_all P (suc k) i h =
      go (on i) refl (from_all P k (suc i) (λ j l u e. h j (omega arith) (omega arith) e))
    where
      go : (b : Bool) → on i ≡ b → All P (kept_from on part (suc i) k)
          → All P (cond b (part i ∷ kept_from on part (suc i) k) (kept_from on part (suc i) k))
      go true e r = (h i (omega arith) (omega arith) e, r)
      go false e r = r

  -- and of each two
  from_pairs : (R : Part → Part → Type 0) (k i : ℕ)
      → ((j m : ℕ) → i ≤ j → j < m → m < i + k → on j ≡ true → on m ≡ true → R (part j) (part m))
      → Pairs R (kept_from on part i k)
  unfolding kept_from
  from_pairs R zero i h = tt
  from_pairs R (suc k) i h =
      go (on i) refl (from_pairs R k (suc i) (λ j m l x u e f. h j m (omega arith) x (omega arith) e f))
    where
      go : (b : Bool) → on i ≡ b → Pairs R (kept_from on part (suc i) k)
          → Pairs R (cond b (part i ∷ kept_from on part (suc i) k) (kept_from on part (suc i) k))
      go true e r = (
        from_all (R (part i)) k (suc i) (λ j l u f. h i j (omega arith) (omega arith) (omega arith) e f),
        r,
      )
      go false e r = r

  -- a partition on the module is in the list
  from_in : (k i j : ℕ) → i ≤ j → j < i + k → on j ≡ true → In (part j) (kept_from on part i k)
  unfolding kept_from
  from_in zero i j l u e = let z : ⊥ = omega arith in absurd z
  from_in (suc k) i j l u e = go (on i) refl (eq-or-lt_of_le l) (λ (x : suc i ≤ j). from_in k (suc i) j x (omega arith) e)
    where
      go : (b : Bool) → on i ≡ b → (i ≡ j) ⊎ (i < j) → (suc i ≤ j → In (part j) (kept_from on part (suc i) k))
          → In (part j) (cond b (part i ∷ kept_from on part (suc i) k) (kept_from on part (suc i) k))
      go true d (inl x) rec = subst (λ (m : ℕ). In (part m) (part i ∷ kept_from on part (suc i) k)) x here
      go true d (inr x) rec = there (rec x)
      go false d (inl x) rec = absurd (false≢true (sym d ∙ ap on x ∙ e))
      go false d (inr x) rec = rec x

  -- what holds of each on the module holds of all of them
  pub kept_all : (P : Part → Type 0) (N : ℕ) → ((j : ℕ) → j < N → on j ≡ true → P (part j)) → All P (kept on part N)
  kept_all P N h = from_all P N 0 (λ j l u e. h j (omega arith) e)

  pub kept_in : (N j : ℕ) → j < N → on j ≡ true → In (part j) (kept on part N)
  kept_in N j l e = from_in N 0 j (omega arith) (omega arith) e

  -- and a partition of the list is one on the module
  pub record Of (N : ℕ) (q : Part) : Type 0 where
    pub number : ℕ
    pub below : number < N
    pub hosted : on number ≡ true
    pub is : q ≡ part number

  out_of : (N k i : ℕ) {q : Part} → i + k ≡ N → In q (kept_from on part i k) → Of N q
  unfolding kept_from
  out_of N zero i e j = elim j [ ]
  out_of N (suc k) i {q} e j = go (on i) refl j (λ (h : In q (kept_from on part (suc i) k)). out_of N k (suc i) (omega arith) h)
    where
      first : on i ≡ true → (q ≡ part i) ⊎ In q (kept_from on part (suc i) k) → (In q (kept_from on part (suc i) k) → Of N q) → Of N q
      first d (inl h) rec = record { number = i; below = omega arith; hosted = d; is = h }
      first d (inr h) rec = rec h

      go : (b : Bool) → on i ≡ b → In q (cond b (part i ∷ kept_from on part (suc i) k) (kept_from on part (suc i) k))
          → (In q (kept_from on part (suc i) k) → Of N q) → Of N q
      go true d h rec = first d (first_or_later h) rec
      go false d h rec = rec h

  pub kept_of : (N : ℕ) {q : Part} → In q (kept on part N) → Of N q
  kept_of N j = out_of N N 0 (omega arith) j

  -- what the judge says of the partitions on one module: C3 of each and C2 of each two
  pub kept_module : (N : ℕ)
      → ((j : ℕ) → j < N → on j ≡ true → Fine (part j))
      → ((j m : ℕ) → j < m → m < N → on j ≡ true → on m ≡ true → Before (part j) (part m))
      → ((j m : ℕ) → j < m → m < N → on j ≡ true → on m ≡ true → Clear (part j) (part m))
      → Module (kept on part N)
  kept_module N f b c =
      record {
        fine = from_all Fine N 0 (λ j l u e. f j (omega arith) e);
        ascending = from_pairs Before N 0 (λ j m l x u e d. b j m x (omega arith) e d);
        apart = from_pairs Clear N 0 (λ j m l x u e d. c j m x (omega arith) e d);
      }
