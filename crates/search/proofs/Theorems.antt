-- What the search's answers mean: demand 2 of document 01, second half. First for the answer of the definition, for every sheet whose records are
-- fair and every budget; then for a call: which number it returns exactly when, with how many tries, and what its buffer holds.
-- Assumes nothing.
use mathlib.Core.Path.{◌≡◌, refl, sym, ◌∙◌}
use mathlib.Core.Bool.{Bool, true, false, true≢false}
use mathlib.Core.List.{List, drop_last, Memᴰ}
use mathlib.Core.Logic.{◌↔◌}
use mathlib.Core.Option.{none}
use Prim.Native.Nat.{ℕ, ◌<◌, ◌≤◌}
use native.Mathlib.Omega.{arith}
use lib.ListN.{length}
use Rattle.model.specs.Fair.{Fair}
use Rattle.model.specs.declared.records.Sheet.{Sheet}
use Rattle.tries.specs.Tries.{found, absent, stopped, first, accepted}
use Rattle.tries.specs.Order.{Over, Precedes, InOrder}
use Rattle.tries.proofs.Meaning.{FirstIn, found_iff, absent_iff, stopped_iff, found_try, found_least, none_iff, none_needs_all, absent_all, zero_stops, tries_iff, tries_ordered}
use Rattle.tries.proofs.Placements.{some_placement}
use Rattle.sound.specs.Sound.{sound, choices, starts_of, modules_in, starts_in}
use Rattle.sound.proofs.Hereditary.{hereditary}
use Rattle.search.specs.Answer.{answer_of, plan_of}
use Rattle.search.specs.Meaning.{FirstPlan, NoPlan, tries_of, needed_of}
use Rattle.search.proofs.Plans.{length_plan, word_accepted, accepted_sound, accepted_over}

-- ---- the answer of the definition
module _ (s : Sheet) (delays : List (List ℕ)) (fair : Fair s delays) where
  abbrev N : ℕ
  N = s.head.partitions

  -- "A try is a partial plan of length at least 1 whose part without the last placement is sound": the tries are exactly these, each once,
  -- "as dictionary words, a shorter one before its own extensions"
  pub tries_exactly : (w : List (ℕ × ℕ)) → Memᴰ w (tries_of s delays)
      ↔ (Over (choices s) 0 w × (1 ≤ length w) × (length w ≤ N) × (sound s delays (drop_last w) ≡ true))
  tries_exactly = tries_iff N (choices s) (sound s delays)

  pub tries_in_order : InOrder (Precedes (choices s) 0) (tries_of s delays)
  tries_in_order = tries_ordered N (choices s) (sound s delays)

  -- a plan that is found is the first accepted one
  pub found_first : (budget k : ℕ) (w : List (ℕ × ℕ)) → answer_of s delays budget ≡ found w k → FirstPlan s delays w
  unfolding answer_of
  found_first budget k w e =
      let f = found_least N (choices s) (sound s delays) (hereditary s delays) fair.head.some_partition budget k w e in
      record {
        length = f.1;
        accepted = word_accepted s delays fair w f.1 f.2;
        first = λ ms ts a. f.3 (plan_of N ms ts) (accepted_over s delays fair ms ts a) (length_plan N ms ts) (accepted_sound s delays fair ms ts a);
      }

  -- its number is that of the tries up to and including it
  pub found_count : (budget k : ℕ) (w : List (ℕ × ℕ)) → answer_of s delays budget ≡ found w k → FirstIn (accepted N (sound s delays)) (tries_of s delays) w k
  unfolding answer_of
  found_count budget k w e = found_try N (choices s) (sound s delays) (hereditary s delays) fair.head.some_partition budget k w e

  -- there is no first plan exactly when no accepted plan exists at all
  pub none_exactly : (first N (choices s) (sound s delays) ≡ none) ↔ NoPlan s delays
  none_exactly = (
    λ e ms ts a. true≢false (sym (accepted_sound s delays fair ms ts a)
        ∙ all_fail.0 e (plan_of N ms ts) (accepted_over s delays fair ms ts a) (length_plan N ms ts)),
    λ h. all_fail.1 λ w o l. fails h w l (sound s delays w) refl,
  )
    where
      all_fail : (first N (choices s) (sound s delays) ≡ none) ↔ ((w : List (ℕ × ℕ)) → Over (choices s) 0 w → length w ≡ N → sound s delays w ≡ false)
      all_fail = none_iff N (choices s) (sound s delays) (hereditary s delays) fair.head.some_partition

      fails : NoPlan s delays → (w : List (ℕ × ℕ)) → length w ≡ N → (c : Bool) → sound s delays w ≡ c → sound s delays w ≡ false
      fails h w l true e = absurd (h (modules_in w) (starts_in w) (word_accepted s delays fair w l e))
      fails h w l false e = e

  -- `absent` with the number k: no accepted plan exists, k is the number of all tries, and it is within the budget
  pub absent_exactly : (budget k : ℕ) → (answer_of s delays budget ≡ absent k) ↔ (NoPlan s delays × (length (tries_of s delays) ≡ k) × (k ≤ budget))
  unfolding answer_of
  absent_exactly budget k = (
    λ e. let a = (absent_iff N (choices s) (sound s delays) budget k).0 e in
        (none_exactly.0 a.0, (absent_all N (choices s) (sound s delays) (hereditary s delays) fair.head.some_partition budget k e).0, rw a.1 at a.2),
    λ h.
        let no-first = none_exactly.1 h.0 in
        let count = none_needs_all N (choices s) (sound s delays) (hereditary s delays) fair.head.some_partition no-first ∙ h.1 in
        (absent_iff N (choices s) (sound s delays) budget k).1 (no-first, count, rw count h.2),
  )

  -- `stopped` exactly when the needed count exceeds the budget
  pub stopped_exactly : (budget k : ℕ) → (answer_of s delays budget ≡ stopped k) ↔ ((budget ≡ k) × (budget < needed_of s delays))
  unfolding answer_of
  stopped_exactly budget k = stopped_iff N (choices s) (sound s delays) budget k

  -- "A budget of 0 always stops."
  pub zero_budget_stops : answer_of s delays 0 ≡ stopped 0
  unfolding answer_of
  zero_budget_stops = zero_stops N (choices s) (sound s delays) (hereditary s delays) fair.head.some_partition some
    where
      some : 0 < length (choices s 0)
      some = some_placement s.head.modules (starts_of s) 0 fair.head.some_module (omega arith)

  -- the number of tries is the needed count where the search was not stopped
  pub found_needed : (budget k : ℕ) (w : List (ℕ × ℕ)) → answer_of s delays budget ≡ found w k → (needed_of s delays ≡ k) × (k ≤ budget)
  unfolding answer_of
  found_needed budget k w e = let f = (found_iff N (choices s) (sound s delays) budget k w).0 e in (f.1, rw f.1 at f.2)

  pub absent_needed : (budget k : ℕ) → answer_of s delays budget ≡ absent k → (needed_of s delays ≡ k) × (k ≤ budget)
  unfolding answer_of
  absent_needed budget k e = let a = (absent_iff N (choices s) (sound s delays) budget k).0 e in (a.1, rw a.1 at a.2)
