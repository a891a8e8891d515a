-- Demand 2, the judge: "a plan is accepted exactly when constraints C1 to C8 hold, overlap judged over ALL ticks; else the first broken
-- constraint and place." On bytes, for every sheet and every plan.
-- Assumes nothing.
use mathlib.Core.Path.{◌≡◌, ap, sym, ◌∙◌, subst}
use mathlib.Core.List.{List}
use Prim.Native.Nat.{ℕ}
use Rattle.reader.specs.Number.{sheet_number}
use Rattle.reader.specs.Plan.{plan_number}
use Rattle.reader.proofs.Passing.{sheet_fair}
use Rattle.judge.specs.Verdict.{refused}
use Rattle.judge.specs.declared.Answer.{Answer}
use Rattle.judge.proofs.Parts.{runs}
use Rattle.judge.proofs.Theorems.{accepted_exactly, names_the_first}
use Rattle.judge.proofs.Stages.{or_pass}
use Rattle.numbers.specs.First.{met_here, met_there}
use Rattle.ghozrembu.specs.Judged.{partitions_in, verdict_of, judged_bytes}
use Rattle.demands.specs.Promises.{plan_in, Readable, Holds, NamesFirst}
use Rattle.demands.proofs.Demand1.{judge_in_order}

module _ (sheet plan : List ℕ) where
  -- where both can be read the answer is the verdict
  judged_verdict : Readable sheet plan → judged_bytes sheet plan ≡ verdict_of sheet plan
  unfolding judged_bytes
  judged_verdict r =
      or_pass (refused (sheet_number sheet)) _ r.sheet_stands
      ∙ or_pass (refused (plan_number plan (partitions_in sheet))) _ r.plan_stands

  -- accepted: both can be read, and C1 to C8 hold
  pub accepted_holds : (judged_bytes sheet plan).number ≡ 0 → Readable sheet plan × Holds sheet (plan_in sheet plan)
  unfolding verdict_of
  accepted_holds e =
      let w = sym (judge_in_order sheet plan) ∙ e in
      let r : Readable sheet plan = record { sheet_stands = met_here _ _ w; plan_stands = met_here _ _ (met_there _ _ w) } in
      (r, (accepted_exactly _ _ _ _ _ _ (runs _ _ (sheet_fair sheet r.sheet_stands))).0 (sym (ap (λ (a : Answer). a.number) (judged_verdict r)) ∙ e))

  -- and whatever can be read and keeps C1 to C8 is accepted
  pub holds_accepted : Readable sheet plan → Holds sheet (plan_in sheet plan) → (judged_bytes sheet plan).number ≡ 0
  unfolding verdict_of
  holds_accepted r h =
      ap (λ (a : Answer). a.number) (judged_verdict r) ∙ (accepted_exactly _ _ _ _ _ _ (runs _ _ (sheet_fair sheet r.sheet_stands))).1 h

  -- else the first broken constraint with its first place
  pub refused_names_first : Readable sheet plan → ((judged_bytes sheet plan).number ≡ 0 → ⊥)
      → NamesFirst sheet (plan_in sheet plan) (judged_bytes sheet plan)
  unfolding verdict_of
  refused_names_first r n =
      subst (NamesFirst sheet (plan_in sheet plan)) (sym (judged_verdict r))
      (names_the_first _ _ _ _ _ _ (runs _ _ (sheet_fair sheet r.sheet_stands)) (λ z. n (ap (λ (a : Answer). a.number) (judged_verdict r) ∙ z)))
