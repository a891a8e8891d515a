-- Demand 2, the search: "first accepted plan in the stated order, or 'none' exactly when none exists, or 'stopped' exactly when the needed
-- count of tries exceeds the budget." On bytes, for every sheet that can be read, every budget and every buffer that a plan fits.
-- Assumes nothing.
use mathlib.Core.Path.{◌≡◌, sym, ◌∙◌, subst}
use mathlib.Core.Logic.{◌↔◌}
use mathlib.Core.List.{List, ◌++◌}
use Prim.Native.Nat.{ℕ, ◌≤◌, ◌<◌}
use lib.ListN.{length, drop}
use Rattle.numbers.specs.Numbers.{fine, no_plan, stopped}
use Rattle.layout.specs.Values.{sheet_of, delays_of}
use Rattle.reader.specs.Number.{sheet_number}
use Rattle.reader.specs.Plan.{plan_length, plan_bytes}
use Rattle.reader.proofs.Passing.{sheet_passes}
use Rattle.sound.specs.Sound.{modules_in, starts_in}
use Rattle.search.specs.Answer.{refusal_of}
use Rattle.search.specs.Meaning.{FirstPlan, NoPlan, needed_of}
use Rattle.search.specs.declared.Found.{Found}
use Rattle.search.proofs.Calls.{searches_exactly, found_exactly, none_exactly_when, stopped_exactly_when, tries_made, found_writes, else_leaves, zero_budget_returns}
use Rattle.ghozrembu.specs.Judged.{partitions_in}
use Rattle.ghozrembu.specs.FoundBytes.{found_bytes, buffer_found}
use Rattle.ghozrembu.proofs.SearchLaws.{found_same, kept_same}

-- how many tries an answer needs: those up to and including the first accepted plan, or all
abbrev pub needed_for : (sheet : List ℕ) → ℕ
needed_for sheet = needed_of (sheet_of sheet) (delays_of sheet)

-- no accepted plan exists at all
abbrev pub NoneExists : (sheet : List ℕ) → Type 0
NoneExists sheet = NoPlan (sheet_of sheet) (delays_of sheet)

module _ (sheet : List ℕ) (budget : ℕ) (buffer : List ℕ) (stands : sheet_number sheet ≡ 0) (room : plan_length (partitions_in sheet) ≤ length buffer) where
  searching : refusal_of (sheet_of sheet) (delays_of sheet) (length buffer) ≡ 0
  searching = (searches_exactly (sheet_of sheet) (delays_of sheet) budget buffer).1 (sheet_passes sheet stands, room)

  -- found exactly when an accepted plan exists and the needed count is at most the budget
  pub found_when : ((found_bytes sheet budget (length buffer)).number ≡ fine) ↔ ((NoneExists sheet → ⊥) × (needed_for sheet ≤ budget))
  found_when =
      subst (λ (r : Found). (r.number ≡ fine) ↔ ((NoneExists sheet → ⊥) × (needed_for sheet ≤ budget))) (found_same sheet budget (length buffer) stands)
      (found_exactly (sheet_of sheet) (delays_of sheet) budget buffer searching)

  -- none exactly when no accepted plan exists at all, and that took at most the budget of tries to know
  pub none_when : ((found_bytes sheet budget (length buffer)).number ≡ no_plan) ↔ (NoneExists sheet × (needed_for sheet ≤ budget))
  none_when =
      subst (λ (r : Found). (r.number ≡ no_plan) ↔ (NoneExists sheet × (needed_for sheet ≤ budget))) (found_same sheet budget (length buffer) stands)
      (none_exactly_when (sheet_of sheet) (delays_of sheet) budget buffer searching)

  -- stopped exactly when the needed count exceeds the budget
  pub stopped_when : ((found_bytes sheet budget (length buffer)).number ≡ stopped) ↔ (budget < needed_for sheet)
  stopped_when =
      subst (λ (r : Found). (r.number ≡ stopped) ↔ (budget < needed_for sheet)) (found_same sheet budget (length buffer) stands)
      (stopped_exactly_when (sheet_of sheet) (delays_of sheet) budget buffer searching)

  -- the tries are the needed count, or the budget where that exceeds it
  pub tries_are : (needed_for sheet ≤ budget → (found_bytes sheet budget (length buffer)).tries ≡ needed_for sheet)
      × (budget < needed_for sheet → (found_bytes sheet budget (length buffer)).tries ≡ budget)
  tries_are =
      subst (λ (r : Found). (needed_for sheet ≤ budget → r.tries ≡ needed_for sheet) × (budget < needed_for sheet → r.tries ≡ budget))
      (found_same sheet budget (length buffer) stands) (tries_made (sheet_of sheet) (delays_of sheet) budget buffer searching)

  -- found writes the first accepted plan, C1 to C8 over all ticks, and no accepted plan stands before it; later bytes keep their values
  pub found_plan : (found_bytes sheet budget (length buffer)).number ≡ fine
      → (w : List (ℕ × ℕ)) × FirstPlan (sheet_of sheet) (delays_of sheet) w
      × (buffer_found sheet budget buffer ≡ plan_bytes (modules_in w) (starts_in w) (partitions_in sheet) ++ drop (plan_length (partitions_in sheet)) buffer)
  found_plan =
      subst (λ (r : Found). r.number ≡ fine
      → (w : List (ℕ × ℕ)) × FirstPlan (sheet_of sheet) (delays_of sheet) w
      × (buffer_found sheet budget buffer ≡ plan_bytes (modules_in w) (starts_in w) (partitions_in sheet) ++ drop (plan_length (partitions_in sheet)) buffer))
      (found_same sheet budget (length buffer) stands)
      (λ q.
      let f = found_writes (sheet_of sheet) (delays_of sheet) budget buffer searching q in
      (f.0, f.1, sym (kept_same sheet budget buffer stands) ∙ f.2))

  -- nothing is written otherwise
  pub else_kept : ((found_bytes sheet budget (length buffer)).number ≡ fine → ⊥) → buffer_found sheet budget buffer ≡ buffer
  else_kept =
      subst (λ (r : Found). (r.number ≡ fine → ⊥) → buffer_found sheet budget buffer ≡ buffer) (found_same sheet budget (length buffer) stands)
      (λ n. sym (kept_same sheet budget buffer stands) ∙ else_leaves (sheet_of sheet) (delays_of sheet) budget buffer searching n)

-- "A budget of 0 always stops."
pub zero_stops : (sheet buffer : List ℕ) → sheet_number sheet ≡ 0 → plan_length (partitions_in sheet) ≤ length buffer
    → ◌≡◌ {A = Found} (found_bytes sheet 0 (length buffer)) (record { number = stopped; tries = 0 })
zero_stops sheet buffer stands room =
    sym (found_same sheet 0 (length buffer) stands)
    ∙ zero_budget_returns (sheet_of sheet) (delays_of sheet) buffer (searching sheet 0 buffer stands room)
