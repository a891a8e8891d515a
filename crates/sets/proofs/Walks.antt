-- A loop `for i in sets::members(x)`. In its proof the iterator is the list of the members that are left, in ascending order.
-- Its invariant says of that list what holds of the whole: `sum_list`, `each_over` and `of_over` turn `in_order x`, with which the loop begins, into
-- `sum_over`, `each_in` and `members_of`. `turn_below` and `turn_member` say that each i is a member.
-- All go by `#[tactic(auto, using(..))]`, and `unfolding(sets::specs::Members::every)` where the loop asks something of each.
-- Assumes nothing.
use Rattle.std.proofs.Common.{◌≡◌, ◌∙◌, refl, sym, ap, arith, ℕ, zero, suc, ◌+◌, ◌<◌, ◌≤◌, Bool, true, false, cond, List, [], ◌∷◌, length, map, add-zero, subst}
use Rattle.std.specs.Iterator.{YieldsFirst, Yields}
use Rattle.std.specs.List.{sum_by}
use Rattle.std.proofs.lemmas.List.Sums.{sum_by-cons}
use Rattle.sets.specs.Members.{places, member, sum_below, kept_from, members_of, in_order, every, each_in, sum_over, lowest_of, without_lowest}
use Rattle.sets.proofs.Laws.{members_of_empty, members_walk}
use Rattle.sets.proofs.Passing.{sum_first, sum_same}

-- ---- the whole list
module _ {A : Type 0} (of : ℕ → A) where
  of_kept : (on : ℕ → Bool) (i k : ℕ) → map of (kept_from on (λ j. j) i k) ≡ kept_from on of i k
  unfolding kept_from
  of_kept on i zero = refl
  of_kept on i (suc k) = go (on i) (of_kept on (suc i) k)
    where
      go : (b : Bool) → map of (kept_from on (λ j. j) (suc i) k) ≡ kept_from on of (suc i) k
          → map of (cond b (i ∷ kept_from on (λ j. j) (suc i) k) (kept_from on (λ j. j) (suc i) k)) ≡ cond b (of i ∷ kept_from on of (suc i) k) (kept_from on of (suc i) k)
      go true e = ap (λ l. of i ∷ l) e
      go false e = e

  pub of_over : (x : ℕ) → map of (in_order x) ≡ members_of of x
  of_over x = of_kept (member x) 0 places

pub each_over : (f : ℕ → Bool) (x : ℕ) → every (map f (in_order x)) ≡ each_in f x
each_over f x = ap every (of_over f x)

sum_kept : (g : ℕ → ℕ) (on : ℕ → Bool) (i k : ℕ) → sum_by g (kept_from on (λ j. j) i k) ≡ sum_below (λ j. on (j + i)) (λ j. g (j + i)) k
unfolding kept_from
sum_kept g on i zero = unfold sum_below in refl
sum_kept g on i (suc k) = go (on i) refl (sum_kept g on (suc i) k) ∙ sym (sum_first k (λ j. on (j + i)) (λ j. g (j + i)))
  where
    first : 0 + i ≡ i
    first = omega arith

    moved : (j : ℕ) → j + suc i ≡ suc j + i
    moved j = omega arith

    go : (b : Bool) → on i ≡ b → sum_by g (kept_from on (λ j. j) (suc i) k) ≡ sum_below (λ j. on (j + suc i)) (λ j. g (j + suc i)) k
        → sum_by g (cond b (i ∷ kept_from on (λ j. j) (suc i) k) (kept_from on (λ j. j) (suc i) k))
        ≡ cond (on (0 + i)) (g (0 + i)) 0 + sum_below (λ j. on (suc j + i)) (λ j. g (suc j + i)) k
    go b p e =
        let others = sum_same k (λ j. on (j + suc i)) (λ j. on (suc j + i)) (λ j. g (j + suc i)) (λ j. g (suc j + i)) (λ j l. ap on (moved j)) (λ j l. ap g (moved j)) in
        rw (first, p) (step b (e ∙ others))
      where
        step : (b : Bool) → sum_by g (kept_from on (λ j. j) (suc i) k) ≡ sum_below (λ j. on (suc j + i)) (λ j. g (suc j + i)) k
            → sum_by g (cond b (i ∷ kept_from on (λ j. j) (suc i) k) (kept_from on (λ j. j) (suc i) k))
            ≡ cond b (g i) 0 + sum_below (λ j. on (suc j + i)) (λ j. g (suc j + i)) k
        step true e = sum_by-cons g i (kept_from on (λ j. j) (suc i) k) ∙ ap (λ n. g i + n) e
        step false e = e ∙ omega arith

pub sum_list : (g : ℕ → ℕ) (x : ℕ) → sum_by g (in_order x) ≡ sum_over g x
sum_list g x = sum_kept g (member x) 0 places ∙ sum_same places _ _ _ _ (λ i l. ap (member x) (add-zero i)) (λ i l. ap g (add-zero i))

few_kept : (on : ℕ → Bool) (i k : ℕ) → length (kept_from on (λ j. j) i k) ≤ k
unfolding kept_from
few_kept on i zero = omega arith
few_kept on i (suc k) = go (on i) (few_kept on (suc i) k)
  where
    go : (b : Bool) → length (kept_from on (λ j. j) (suc i) k) ≤ k
        → length (cond b (i ∷ kept_from on (λ j. j) (suc i) k) (kept_from on (λ j. j) (suc i) k)) ≤ suc k
    go true l = omega arith
    go false l = omega arith

pub list_small : (x : ℕ) → length (in_order x) ≤ places
list_small x = few_kept (member x) 0 places

-- ---- one turn: what comes is a member
abbrev Members : ℕ → List ℕ → Type 0
Members x [] = Unit {0}
Members x (i ∷ is) = ((i < places) × (member x i ≡ true)) × Members x is

kept_members : (x i k : ℕ) → i + k ≤ places → Members x (kept_from (member x) (λ j. j) i k)
unfolding kept_from
kept_members x i zero h = tt
kept_members x i (suc k) h = go (member x i) refl (kept_members x (suc i) k (omega arith))
  where
    go : (b : Bool) → member x i ≡ b → Members x (kept_from (member x) (λ j. j) (suc i) k)
        → Members x (cond b (i ∷ kept_from (member x) (λ j. j) (suc i) k) (kept_from (member x) (λ j. j) (suc i) k))
    go true y m = ((omega arith, y), m)
    go false z m = m

members_left : (x : ℕ) (s xs t : List ℕ) → Members x s → Yields (YieldsFirst (λ w. w)) s xs t → Members x t
members_left x s [] t m y = subst (Members x) y m
members_left x s (i ∷ xs) t m y = members_left x y.0 xs t (subst (Members x) y.1 m).1 y.2

-- of a walk that began at s, the list of the set x, and has given xs: t is what was left, and u what is left after i
module _ (x : ℕ) (s xs t : List ℕ) (i : ℕ) (u : List ℕ) where
  pub turn_in : s ≡ in_order x → Yields (YieldsFirst (λ w. w)) s xs t → t ≡ i ∷ u → (i < places) × (member x i ≡ true)
  turn_in begun given come =
      (subst (Members x) come (members_left x s xs t (subst (Members x) (sym begun) (kept_members x 0 places (omega arith))) given)).0

  pub turn_below : s ≡ in_order x → Yields (YieldsFirst (λ w. w)) s xs t → t ≡ i ∷ u → i < places
  turn_below begun given come = (turn_in begun given come).0

  pub turn_member : s ≡ in_order x → Yields (YieldsFirst (λ w. w)) s xs t → t ≡ i ∷ u → member x i ≡ true
  turn_member begun given come = (turn_in begun given come).1

-- the sum of what is left falls by what came
pub sum_turn : (g : ℕ → ℕ) {t u : List ℕ} {i : ℕ} → t ≡ i ∷ u → sum_by g t ≡ g i + sum_by g u
sum_turn g {t} {u} {i} come = rw come (sum_by-cons g i u)

-- what the code does at one turn
pub none_left : (x : ℕ) → x ≡ 0 → in_order x ≡ []
none_left x e = ap in_order e ∙ members_of_empty (λ i. i)

pub first_left : (x i y : ℕ) → (x ≡ 0 → ⊥) → x < 18446744073709551616 → i ≡ lowest_of x → y ≡ without_lowest x → in_order x ≡ i ∷ in_order y
first_left x i y some fits first others = rw (first, others) (members_walk x (omega arith) fits (λ i. i))
