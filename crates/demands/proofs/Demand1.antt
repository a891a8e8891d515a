-- Demand 1: every call answers, each number exactly under its condition and in the order of document 01, "Numbers returned"; a refusal
-- leaves what was lent as at entry.
-- Assumes nothing.
use mathlib.Core.Path.{◌≡◌, refl, ap, ◌∙◌}
use mathlib.Core.Bool.{Bool, true, false}
use mathlib.Core.List.{List}
use lib.ListN.{length}
use borrow.Author.Tests.{ne_eqb}
use mathlib.Core.Logic.{◌⊎◌, inl, inr, ⊎_elim, ◌↔◌}
use Prim.Native.Nat.{ℕ, zero, suc, ◌<◌}
use native.Mathlib.Omega.{arith}
use Rattle.numbers.specs.First.{met, FirstIs}
use Rattle.reader.specs.Number.{sheet_number}
use Rattle.reader.specs.Plan.{plan_number}
use Rattle.reader.specs.Tests.{sheet_tests, plan_tests}
use Rattle.reader.proofs.Exactness.{sheet_number_is, is_sheet_number, plan_number_is, is_plan_number}
use Rattle.table.specs.Sound.{SoundTable, table_number}
use Rattle.table.proofs.Soundness.{number_sound, sound_number}
use Rattle.judge.specs.Verdict.{refused, or_next}
use Rattle.judge.specs.declared.Answer.{Answer}
use Rattle.judge.proofs.Stages.{or_pass, or_hit}
use Rattle.table.specs.Step.{step_number, unless, stepped}
use Rattle.table.specs.Moved.{Moved}
use Rattle.table.specs.declared.records.Position.{Position}
use Rattle.frames.specs.Frame.{Part}
use Rattle.builder.specs.Built.{returned, left}
use Rattle.search.specs.declared.Found.{Found}
use Rattle.search.specs.Answer.{answered, written}
use Rattle.ghozrembu.specs.Judged.{partitions_in, verdict_of, judged_bytes}
use Rattle.ghozrembu.specs.BuiltBytes.{parts_in, build_number, built_bytes, buffer_built}
use Rattle.ghozrembu.specs.FoundBytes.{refusal_in, answer_in, found_bytes, buffer_found}

-- the number of an answer, and where that is 0 of the next
next_number : (k : ℕ) (b : Answer) → (or_next (refused k) b).number ≡ met k b.number
unfolding met
next_number zero b = ap (λ (a : Answer). a.number) (or_pass (refused 0) b refl)
next_number (suc k) b = ap (λ (a : Answer). a.number) (or_hit (refused (suc k)) b (λ e. absurd (omega arith)))

module _ (sheet plan : List ℕ) where
  -- "Judge: sheet, 18, C1 to C8."
  pub judge_in_order : (judged_bytes sheet plan).number
      ≡ met (sheet_number sheet) (met (plan_number plan (partitions_in sheet)) (verdict_of sheet plan).number)
  unfolding judged_bytes
  judge_in_order = next_number _ _ ∙ ap (met (sheet_number sheet)) (next_number _ _)

-- ---- the builder
returned_number : (k : ℕ) (ps : List Part) → (returned k ps).number ≡ k
unfolding returned
returned_number zero ps = refl
returned_number (suc k) ps = refl

returned_length : (k : ℕ) (ps : List Part) → (k ≡ 0 → ⊥) → (returned k ps).length ≡ 0
unfolding returned
returned_length zero ps n = absurd (n refl)
returned_length (suc k) ps n = refl

left_as_it_was : (k : ℕ) (ps : List Part) (d : List ℕ) → (k ≡ 0 → ⊥) → left k ps d ≡ d
unfolding left
left_as_it_was zero ps d n = absurd (n refl)
left_as_it_was (suc k) ps d n = refl

module _ (sheet plan : List ℕ) (m : ℕ) (buffer : List ℕ) where
  -- "Builder: the same, then 20, 21, 22, 23.": `build_number` has that order
  pub build_in_order : (built_bytes sheet plan m buffer).number ≡ build_number sheet plan m (length buffer)
  unfolding built_bytes
  build_in_order = returned_number _ _

  -- a refusal leaves the buffer as at entry, and its length is 0
  pub build_refusal_keeps : ((built_bytes sheet plan m buffer).number ≡ 0 → ⊥)
      → (buffer_built sheet plan m buffer ≡ buffer) × ((built_bytes sheet plan m buffer).length ≡ 0)
  unfolding built_bytes buffer_built
  build_refusal_keeps n =
      let k : build_number sheet plan m (length buffer) ≡ 0 → ⊥ = λ z. n (build_in_order ∙ z) in
      (left_as_it_was _ (parts_in sheet plan m) buffer k, returned_length _ (parts_in sheet plan m) k)

-- ---- the search: a sheet that is refused, or a buffer that is too short, gives its number and no tries, and leaves the buffer as at entry
module _ (sheet : List ℕ) (budget : ℕ) (buffer : List ℕ) (refused-call : refusal_in sheet (length buffer) ≡ 0 → ⊥) where
  pub search_refusal : found_bytes sheet budget (length buffer) ≡ record { number = refusal_in sheet (length buffer); tries = 0 }
  unfolding found_bytes
  search_refusal =
      ap {B = Found} (λ (t : Bool). elim t [ true ↦ answered (answer_in sheet budget) | false ↦ record { number = refusal_in sheet (length buffer); tries = 0 } ])
      (ne_eqb (refusal_in sheet (length buffer)) 0 refused-call)

  pub search_refusal_keeps : buffer_found sheet budget buffer ≡ buffer
  unfolding buffer_found
  search_refusal_keeps =
      ap {B = List ℕ} (λ (t : Bool). elim t [ true ↦ written (partitions_in sheet) (answer_in sheet budget) buffer | false ↦ buffer ])
      (ne_eqb (refusal_in sheet (length buffer)) 0 refused-call)

-- ---- the step: "24, then 25" is `step_number`; a refusal leaves the position as at entry, and its partition is 0
refused_step : (k : ℕ) (q : Position) (m : Moved) → (k ≡ 0 → ⊥) → unless k q m ≡ record { number = k; partition = 0; position = q }
unfolding unless
refused_step zero q m n = absurd (n refl)
refused_step (suc k) q m n = refl

pub step_refusal_keeps : (table : List ℕ) (q : Position) → (step_number table q ≡ 0 → ⊥)
    → stepped table q ≡ record { number = step_number table q; partition = 0; position = q }
unfolding stepped
step_refusal_keeps table q n = refused_step _ q _ n

-- ---- each number exactly under its condition
-- of two numbers met in order, k is given exactly when the first is k, or the first is 0 and the second is k
pub met_exactly : (x y k : ℕ) → 0 < k → (met x y ≡ k) ↔ ((x ≡ k) ⊎ ((x ≡ 0) × (y ≡ k)))
unfolding met
met_exactly zero y k h = (λ e. inr (refl, e), λ w. ⊎_elim (λ e. absurd (omega arith)) (λ e. e.1) w)
met_exactly (suc x) y k h = (λ e. inl e, λ w. ⊎_elim (λ e. e) (λ e. absurd (omega (arith, e.0))) w)

-- 10 to 17: k is the first number met among all tests of the sheet in file order
pub sheet_number_exactly : (sheet : List ℕ) (k : ℕ) → 0 < k → (sheet_number sheet ≡ k) ↔ FirstIs (sheet_tests sheet) k
sheet_number_exactly sheet k h = (sheet_number_is sheet k h, is_sheet_number sheet k h)

-- 18
pub plan_number_exactly : (plan : List ℕ) (n k : ℕ) → 0 < k → (plan_number plan n ≡ k) ↔ FirstIs (plan_tests plan n) k
plan_number_exactly plan n k h = (plan_number_is plan n k h, is_plan_number plan n k h)

-- 24 of the table test, or else the bytes are a sound table
pub table_number_exactly : (table : List ℕ) → (table_number table ≡ 0) ↔ SoundTable table
table_number_exactly table = (number_sound table, sound_number table)
