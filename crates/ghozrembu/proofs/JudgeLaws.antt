-- The judge on bytes is the judge on the values that the bytes hold.
-- Assumes nothing.
use mathlib.Core.Path.{◌≡◌, refl, ap, sym, ◌∙◌}
use mathlib.Core.List.{List}
use Prim.Native.Nat.{ℕ, zero, suc, ◌≤◌}
use Rattle.numbers.specs.First.{met, met_here, met_there, met_stop, met_go}
use Rattle.model.specs.Limits.{most_partitions}
use Rattle.model.specs.Decoded.{decoded_number, starts_number}
use Rattle.model.specs.declared.records.Plan.{Plan}
use Rattle.model.specs.declared.records.Sheet.{Sheet}
use Rattle.layout.specs.Values.{sheet_of, delays_of}
use Rattle.reader.specs.Number.{Reading, sheet_number, sheet_read}
use Rattle.reader.specs.Plan.{PlanReading, plan_number, plan_of, plan_read}
use Rattle.reader.proofs.Outcome.{read_number, read_sheet, read_plan_number, read_plan_plan}
use Rattle.reader.proofs.Fits.{head_inside, head_zero_holds}
use Rattle.reader.proofs.Passing.{sheet_passes}
use Rattle.reader.proofs.Plans.{plan_passes}
use Rattle.judge.specs.Verdict.{refused, or_next, judged}
use Rattle.judge.proofs.Stages.{or_pass, or_stop, or_go}
use Rattle.ghozrembu.specs.Judged.{partitions_in, verdict_of, judged_bytes}

module _ (sheet plan : List ℕ) (e : sheet_number sheet ≡ 0) where
  pub partitions_room : partitions_in sheet ≤ most_partitions
  unfolding sheet_of
  partitions_room = (head_inside sheet (head_zero_holds sheet e)).partitions

  -- on what bytes hold, the sheet's numbers and 19 are 0
  pub judged_is_verdict : judged (sheet_of sheet) (delays_of sheet) (plan_of plan (partitions_in sheet)) ≡ verdict_of sheet plan
  unfolding judged verdict_of
  judged_is_verdict =
      or_pass (refused (decoded_number (sheet_of sheet) (delays_of sheet))) _ (sheet_passes sheet e)
      ∙ or_pass (refused (starts_number (plan_of plan (partitions_in sheet)) (partitions_in sheet))) _ (plan_passes plan (partitions_in sheet) partitions_room)

-- ---- reading both
pub sheet_first : (sheet plan : List ℕ) {r : Reading} → r ≡ sheet_read sheet → (r.number ≡ 0 → ⊥)
    → r.number ≡ met (sheet_number sheet) (plan_number plan (partitions_in sheet))
sheet_first sheet plan {r} e ne = met_stop r.number _ _ (read_number sheet e) ne

module _ (sheet plan : List ℕ) {r : Reading} (e : r ≡ sheet_read sheet) (z : r.number ≡ 0) where
  pub sheet_room : r.sheet.head.partitions ≤ most_partitions
  sheet_room = rw (read_sheet sheet e z) (partitions_room sheet plan (sym (read_number sheet e) ∙ z))

  module _ {q : PlanReading} (g : q ≡ plan_read plan r.sheet.head.partitions) where
    same : q ≡ plan_read plan (partitions_in sheet)
    same = g ∙ ap (λ (s : Sheet). plan_read plan s.head.partitions) (read_sheet sheet e z)

    pub both_number : q.number ≡ met (sheet_number sheet) (plan_number plan (partitions_in sheet))
    both_number = met_go r.number _ _ _ (read_number sheet e) z (read_plan_number plan (partitions_in sheet) same)

    pub both_plan : q.number ≡ 0 → q.plan ≡ plan_of plan (partitions_in sheet)
    both_plan = read_plan_plan plan (partitions_in sheet) same

module _ (sheet plan : List ℕ) {n : ℕ} (e : n ≡ met (sheet_number sheet) (plan_number plan (partitions_in sheet))) where
  -- a refusal by the sheet or the plan
  pub by_reading : (n ≡ 0 → ⊥) → refused n ≡ judged_bytes sheet plan
  unfolding judged_bytes met
  by_reading ne = ap refused e ∙ go (sheet_number sheet) (plan_number plan (partitions_in sheet)) (λ z. ne (e ∙ z))
    where
      go : (x y : ℕ) → (met x y ≡ 0 → ⊥) → refused (met x y) ≡ or_next (refused x) (or_next (refused y) (verdict_of sheet plan))
      go zero y ne = or_go {x = refused 0} refl refl (or_stop _ refl ne)
      go (suc x) y ne = or_stop _ refl ne

  -- the verdict on the values
  pub by_values : n ≡ 0 → {s : Sheet} {p : Plan} {d : List (List ℕ)} → s ≡ sheet_of sheet → p ≡ plan_of plan (partitions_in sheet) → d ≡ delays_of sheet
      → judged s d p ≡ judged_bytes sheet plan
  unfolding judged_bytes
  by_values z f g h =
      let w = sym e ∙ z in
      let sheet_stands = met_here (sheet_number sheet) _ w in
      or_go {x = refused (sheet_number sheet)} refl sheet_stands
      (or_go {x = refused (plan_number plan (partitions_in sheet))} refl (met_there (sheet_number sheet) _ w)
      (rw (f, g, h) (judged_is_verdict sheet plan sheet_stands)))
