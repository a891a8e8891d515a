-- What a call of the search means: which number it returns exactly when, with how many tries, and what its buffer holds. `found`, `none` and `stopped`
-- cannot be taken for one another. The call's contract (src/lib.rt) says that it returns `found_of` and leaves `buffer_after`. Assumes nothing.
use mathlib.Core.Path.{◌≡◌, refl, sym, ◌∙◌, ap}
use mathlib.Core.Bool.{Bool, true, false}
use mathlib.Core.List.{List, ◌++◌}
use mathlib.Core.Logic.{◌↔◌}
use Prim.Native.Nat.{ℕ, ◌<◌, ◌≤◌}
use native.Mathlib.Omega.{arith}
use lib.ListN.{length, drop}
use lib.Dec.{ltb, eqb}
use borrow.Author.Tests.{eq-eqb, ne_eqb, le-ltb, ltb-false}
use Rattle.numbers.specs.First.{broken, met_here, met_there, met_none}
use Rattle.numbers.specs.Numbers as numbers
use Rattle.model.specs.Decoded.{decoded_number}
use Rattle.model.specs.Fair.{Fair}
use Rattle.model.specs.declared.records.Sheet.{Sheet}
use Rattle.model.proofs.Fairness.{number_fair}
use Rattle.reader.specs.Plan.{plan_length, plan_bytes}
use Rattle.tries.specs.Tries.{Answer, found, absent, stopped}
use Rattle.sound.specs.Sound.{modules_in, starts_in}
use Rattle.search.specs.Answer.{answer_of, answered, written, refusal_of, found_of, buffer_after}
use Rattle.search.specs.Meaning.{FirstPlan, NoPlan, needed_of}
use Rattle.search.specs.declared.Found.{Found}
use Rattle.search.proofs.Theorems.{found_first, found_needed, absent_exactly, absent_needed, stopped_exactly, zero_budget_stops}

module _ (s : Sheet) (delays : List (List ℕ)) (budget : ℕ) (buffer : List ℕ) where
  abbrev N : ℕ
  N = s.head.partitions

  abbrev returned : Found
  returned = found_of s delays budget (length buffer)

  -- a call searches exactly when the sheet's number is 0 and the buffer is not shorter than a plan
  pub searches_exactly : (refusal_of s delays (length buffer) ≡ 0) ↔ ((decoded_number s delays ≡ 0) × (plan_length N ≤ length buffer))
  unfolding refusal_of
  searches_exactly = (
    λ e. (met_here _ _ e, long (ltb (length buffer) (plan_length N)) refl (met_there (decoded_number s delays) _ e)),
    λ h. met_none h.0 (ap (λ b. broken b numbers.buffer_too_short) (le-ltb (length buffer) (plan_length N) h.1)),
  )
    where
      long : (b : Bool) → ltb (length buffer) (plan_length N) ≡ b → broken b numbers.buffer_too_short ≡ 0 → plan_length N ≤ length buffer
      long true q e = absurd (omega arith)
      long false q e = ltb-false (length buffer) (plan_length N) q

  -- ---- a call that searches nothing says why, makes no try and leaves the buffer alone
  module _ (refused : refusal_of s delays (length buffer) ≡ 0 → ⊥) where
    test : eqb (refusal_of s delays (length buffer)) 0 ≡ false
    test = ne_eqb _ 0 refused

    pub refused_returns : returned ≡ record { number = refusal_of s delays (length buffer); tries = 0 }
    unfolding found_of
    refused_returns = ap {B = Found} (λ c. elim c [ true ↦ answered (answer_of s delays budget) | false ↦ record { number = refusal_of s delays (length buffer); tries = 0 } ]) test

    pub refused_leaves : buffer_after s delays budget buffer ≡ buffer
    unfolding buffer_after
    refused_leaves = ap {B = List ℕ} (λ c. elim c [ true ↦ written N (answer_of s delays budget) buffer | false ↦ buffer ]) test

  -- ---- a call that searches
  module _ (searching : refusal_of s delays (length buffer) ≡ 0) where
    fair : Fair s delays
    fair = number_fair s delays (searches_exactly.0 searching).0

    test' : eqb (refusal_of s delays (length buffer)) 0 ≡ true
    test' = eq-eqb _ 0 searching

    returns : returned ≡ answered (answer_of s delays budget)
    unfolding found_of
    returns = ap {B = Found} (λ c. elim c [ true ↦ answered (answer_of s delays budget) | false ↦ record { number = refusal_of s delays (length buffer); tries = 0 } ]) test'

    leaves : buffer_after s delays budget buffer ≡ written N (answer_of s delays budget) buffer
    unfolding buffer_after
    leaves = ap {B = List ℕ} (λ c. elim c [ true ↦ written N (answer_of s delays budget) buffer | false ↦ buffer ]) test'

    -- what an answer says, and what is then returned and left
    data Case : Type 0 where
      one : (w : List (ℕ × ℕ)) (k : ℕ) → answer_of s delays budget ≡ found w k → Case
      none : (k : ℕ) → answer_of s delays budget ≡ absent k → Case
      over : (k : ℕ) → answer_of s delays budget ≡ stopped k → Case

    case : Case
    case = go (answer_of s delays budget) refl
      where
        go : (a : Answer (ℕ × ℕ)) → answer_of s delays budget ≡ a → Case
        go (found w k) e = one w k e
        go (absent k) e = none k e
        go (stopped k) e = over k e

    returned_as : (a : Answer (ℕ × ℕ)) → answer_of s delays budget ≡ a → returned ≡ answered a
    returned_as a e = returns ∙ ap answered e

    number_as : (a : Answer (ℕ × ℕ)) → answer_of s delays budget ≡ a → returned.number ≡ (answered a).number
    number_as a e = ap (λ r. r.number) (returned_as a e)

    -- the three numbers differ
    not_one : {B : Type 0} (w : List (ℕ × ℕ)) (k n : ℕ) → answer_of s delays budget ≡ found w k → returned.number ≡ n → 0 < n → B
    not_one w k n e q h = let z = sym (number_as (found w k) e) ∙ q in absurd (omega arith)

    not_none : {B : Type 0} (k n : ℕ) → answer_of s delays budget ≡ absent k → returned.number ≡ n → (numbers.no_plan ≡ n → ⊥) → B
    not_none k n e q h = absurd (h (sym (number_as (absent k) e) ∙ q))

    not_over : {B : Type 0} (k n : ℕ) → answer_of s delays budget ≡ stopped k → returned.number ≡ n → (numbers.stopped ≡ n → ⊥) → B
    not_over k n e q h = absurd (h (sym (number_as (stopped k) e) ∙ q))

    -- 0 exactly when an accepted plan exists and the needed count is at most the budget
    pub found_exactly : (returned.number ≡ numbers.fine) ↔ ((NoPlan s delays → ⊥) × (needed_of s delays ≤ budget))
    found_exactly = (λ q. go q case, λ h. back h case)
      where
        go : returned.number ≡ numbers.fine → Case → (NoPlan s delays → ⊥) × (needed_of s delays ≤ budget)
        go q (one w k e) =
            let n = found_needed s delays fair budget k w e in
            let f = found_first s delays fair budget k w e in
            (λ none. none (modules_in w) (starts_in w) f.accepted, omega arith)
        go q (none k e) = not_none k numbers.fine e q (λ z. omega arith)
        go q (over k e) = not_over k numbers.fine e q (λ z. omega arith)

        back : (NoPlan s delays → ⊥) × (needed_of s delays ≤ budget) → Case → returned.number ≡ numbers.fine
        back h (one w k e) = number_as (found w k) e
        back h (none k e) = absurd (h.0 ((absent_exactly s delays fair budget k).0 e).0)
        back h (over k e) = absurd (let o = (stopped_exactly s delays fair budget k).0 e in omega arith)

    -- 26 exactly when no accepted plan exists at all and the needed count, that of all tries, is at most the budget
    pub none_exactly_when : (returned.number ≡ numbers.no_plan) ↔ (NoPlan s delays × (needed_of s delays ≤ budget))
    none_exactly_when = (λ q. go q case, λ h. back h case)
      where
        go : returned.number ≡ numbers.no_plan → Case → NoPlan s delays × (needed_of s delays ≤ budget)
        go q (one w k e) = not_one w k numbers.no_plan e q (omega arith)
        go q (none k e) = let n = absent_needed s delays fair budget k e in (((absent_exactly s delays fair budget k).0 e).0, omega arith)
        go q (over k e) = not_over k numbers.no_plan e q (λ z. omega arith)

        back : NoPlan s delays × (needed_of s delays ≤ budget) → Case → returned.number ≡ numbers.no_plan
        back h (one w k e) = absurd (let f = found_first s delays fair budget k w e in h.0 (modules_in w) (starts_in w) f.accepted)
        back h (none k e) = number_as (absent k) e
        back h (over k e) = absurd (let o = (stopped_exactly s delays fair budget k).0 e in omega arith)

    -- 27 exactly when the needed count exceeds the budget
    pub stopped_exactly_when : (returned.number ≡ numbers.stopped) ↔ (budget < needed_of s delays)
    stopped_exactly_when = (λ q. go q case, λ h. back h case)
      where
        go : returned.number ≡ numbers.stopped → Case → budget < needed_of s delays
        go q (one w k e) = not_one w k numbers.stopped e q (omega arith)
        go q (none k e) = not_none k numbers.stopped e q (λ z. omega arith)
        go q (over k e) = ((stopped_exactly s delays fair budget k).0 e).1

        back : budget < needed_of s delays → Case → returned.number ≡ numbers.stopped
        back h (one w k e) = absurd (let n = found_needed s delays fair budget k w e in omega arith)
        back h (none k e) = absurd (let n = absent_needed s delays fair budget k e in omega arith)
        back h (over k e) = number_as (stopped k) e

    -- "the number of tries made equal to the needed count" where that is at most the budget, and the budget where not
    pub tries_made : (needed_of s delays ≤ budget → returned.tries ≡ needed_of s delays) × (budget < needed_of s delays → returned.tries ≡ budget)
    tries_made = (λ h. within h case, λ h. beyond h case)
      where
        tries_as : (a : Answer (ℕ × ℕ)) → answer_of s delays budget ≡ a → returned.tries ≡ (answered a).tries
        tries_as a e = ap (λ r. r.tries) (returned_as a e)

        within : needed_of s delays ≤ budget → Case → returned.tries ≡ needed_of s delays
        within h (one w k e) = tries_as (found w k) e ∙ sym (found_needed s delays fair budget k w e).0
        within h (none k e) = tries_as (absent k) e ∙ sym (absent_needed s delays fair budget k e).0
        within h (over k e) = absurd (let o = (stopped_exactly s delays fair budget k).0 e in omega arith)

        beyond : budget < needed_of s delays → Case → returned.tries ≡ budget
        beyond h (one w k e) = absurd (let n = found_needed s delays fair budget k w e in omega arith)
        beyond h (none k e) = absurd (let n = absent_needed s delays fair budget k e in omega arith)
        beyond h (over k e) = tries_as (stopped k) e ∙ sym ((stopped_exactly s delays fair budget k).0 e).0

    -- 0 writes the first accepted plan at the front of the buffer, and later bytes keep their values
    pub found_writes : returned.number ≡ numbers.fine
        → (w : List (ℕ × ℕ)) × FirstPlan s delays w × (buffer_after s delays budget buffer ≡ plan_bytes (modules_in w) (starts_in w) N ++ drop (plan_length N) buffer)
    found_writes q = go case
      where
        go : Case → (w : List (ℕ × ℕ)) × FirstPlan s delays w × (buffer_after s delays budget buffer ≡ plan_bytes (modules_in w) (starts_in w) N ++ drop (plan_length N) buffer)
        go (one w k e) = (w, found_first s delays fair budget k w e, leaves ∙ ap (λ a. written N a buffer) e)
        go (none k e) = not_none k numbers.fine e q (λ z. omega arith)
        go (over k e) = not_over k numbers.fine e q (λ z. omega arith)

    -- "Every number but 0 leaves buffers .. as at entry"
    pub else_leaves : (returned.number ≡ numbers.fine → ⊥) → buffer_after s delays budget buffer ≡ buffer
    else_leaves ne = go case
      where
        go : Case → buffer_after s delays budget buffer ≡ buffer
        go (one w k e) = absurd (ne (number_as (found w k) e))
        go (none k e) = leaves ∙ ap (λ a. written N a buffer) e
        go (over k e) = leaves ∙ ap (λ a. written N a buffer) e

-- "A budget of 0 always stops."
pub zero_budget_returns : (s : Sheet) (delays : List (List ℕ)) (buffer : List ℕ) → refusal_of s delays (length buffer) ≡ 0
    → found_of s delays 0 (length buffer) ≡ record { number = numbers.stopped; tries = 0 }
zero_budget_returns s delays buffer searching =
    returned_as s delays 0 buffer searching (stopped 0) (zero_budget_stops s delays (fair s delays 0 buffer searching))
