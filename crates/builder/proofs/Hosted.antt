-- What an accepted plan says of the partitions on one module: they are a module in the sense of the frame.
-- Assumes nothing.
use mathlib.Core.Path.{◌≡◌, ap, sym, ◌∙◌, subst}
use mathlib.Core.Bool.{false≢true}
use mathlib.Core.List.{List}
use Prim.Native.Nat.{ℕ, ◌≤◌, ◌<◌, ◌^◌}
use native.Mathlib.Decide.{ℕ_discrete, dec_lt}
use native.Mathlib.Omega.{arith}
use lib.ListN.{get_or}
use borrow.Author.Tests.{eqb-true}
use Rattle.numbers.specs.First.{none_met}
use Rattle.sets.specs.Members.{set_of}
use Rattle.sets.proofs.Laws.{no_member_past, members_of_set}
use Rattle.model.specs.Limits.{most_modules, most_partitions}
use Rattle.model.specs.Widths.{start_bits}
use Rattle.model.specs.None.{no_partition}
use Rattle.model.specs.Fair.{Fair}
use Rattle.model.specs.Decoded.{starts_number, large}
use Rattle.model.specs.Columns.{periods_of, budgets_of}
use Rattle.model.specs.declared.records.Partition.{Partition}
use Rattle.model.specs.declared.records.Sheet.{Sheet}
use Rattle.model.specs.declared.records.Plan.{Plan}
use Rattle.model.proofs.Fairness.{large_fits, number_fair}
use Rattle.model.proofs.ColumnLaws.{column_at}
use Rattle.judge.specs.declared.Answer.{Answer}
use Rattle.judge.specs.Constraints.{at, is_on}
use Rattle.judge.specs.Verdict.{Accepted, judged}
use Rattle.judge.proofs.Theorems.{sheet_refused, start_refused, judged_accepts_exactly}
use Rattle.frames.specs.Frame.{Fine, Module}
use Rattle.frames.proofs.Kept.{kept_module}
use Rattle.builder.specs.Parts.{part_at, parts_of}
use Rattle.builder.specs.Asked.{Timed}
use Rattle.builder.specs.Built.{parts_on}

-- a plan that the judge accepts
pub record Good (s : Sheet) (delays : List (List ℕ)) (p : Plan) : Type 0 where
  pub fair : Fair s delays
  pub starts : (i : ℕ) → i < s.head.partitions → at p.starts i < 2 ^ start_bits
  pub accepted : Accepted s delays (periods_of s) (budgets_of s) p.modules p.starts

pub good : (s : Sheet) (delays : List (List ℕ)) (p : Plan) → (judged s delays p).number ≡ 0 → Good s delays p
unfolding starts_number
good s delays p z =
    let number : Answer → ℕ = λ a. a.number in
    let d = none_of (λ ne. ne (sym (ap number (sheet_refused s delays p ne)) ∙ z)) in
    let t = none_of (λ ne. ne (sym (ap number (start_refused s delays p d ne)) ∙ z)) in
    let fair = number_fair s delays d in
    let starts : (i : ℕ) → i < s.head.partitions → at p.starts i < 2 ^ start_bits =
    λ i l. large_fits start_bits _ (none_met (λ (j : ℕ). large start_bits (at p.starts j)) s.head.partitions i t l)
    in
    record { fair = fair; starts = starts; accepted = (judged_accepts_exactly s delays p fair starts).0 z }
  where
    none_of : {k : ℕ} → ((k ≡ 0 → ⊥) → ⊥) → k ≡ 0
    none_of {k} n = go (ℕ_discrete k 0)
      where
        go : Dec (k ≡ 0) → k ≡ 0
        go (yes e) = e
        go (no ne) = absurd (n ne)

module _ (s : Sheet) (delays : List (List ℕ)) (p : Plan) (g : Good s delays p) where
  few : s.head.partitions ≤ most_partitions
  few = g.fair.head.inside.partitions

  module _ (i : ℕ) (l : i < s.head.partitions) where
    period_is : at (periods_of s) i ≡ (get_or s.partitions i no_partition).period
    period_is = column_at (λ (q : Partition). q.period) s.partitions s.head.partitions i l few

    budget_is : at (budgets_of s) i ≡ (get_or s.partitions i no_partition).budget
    budget_is = column_at (λ (q : Partition). q.budget) s.partitions s.head.partitions i l few

    pub period_fits : (1 ≤ at (periods_of s) i) × (at (periods_of s) i < 2 ^ 16)
    period_fits =
        let f = g.fair.partitions i l in
        omega (arith, period_is, f.some_budget, f.within, f.period)

    part_fine : Fine (part_at (periods_of s) (budgets_of s) p.starts i)
    part_fine =
        record {
          named = omega (arith, few);
          runs = omega (arith, budget_is, (g.fair.partitions i l).some_budget);
          within = g.accepted.three i l;
        }

  -- every partition is on a module
  pub on_a_module : (i : ℕ) → i < s.head.partitions → at p.modules i < most_modules
  on_a_module i l = omega (arith, g.accepted.one i l, g.fair.head.inside.modules)

  module _ (m : ℕ) where
    abbrev x : ℕ
    x = set_of (is_on p.modules m) s.head.partitions

    -- the partitions of the module's set are those that the plan has on it
    pub parts_are : parts_of (periods_of s) (budgets_of s) p.starts x ≡ parts_on s p m
    unfolding parts_on
    parts_are =
        members_of_set (is_on p.modules m) (part_at (periods_of s) (budgets_of s) p.starts) s.head.partitions few

    pub parts_timed : Timed (periods_of s) x
    parts_timed i e = go (dec_lt i s.head.partitions)
      where
        go : Dec (i < s.head.partitions) → (1 ≤ at (periods_of s) i) × (at (periods_of s) i < 2 ^ 16)
        go (yes l) = period_fits i l
        go (no l) =
            let u : s.head.partitions ≤ i = omega arith in
            absurd (false≢true (sym (no_member_past (is_on p.modules m) s.head.partitions i u) ∙ e))

    -- C3 of each and C2 of each two
    pub parts_hosted : Module (parts_on s p m)
    unfolding parts_on
    parts_hosted =
        kept_module (is_on p.modules m) (part_at (periods_of s) (budgets_of s) p.starts) s.head.partitions
        (λ j l e. part_fine j l)
        (λ j k h l e f. h)
        (λ j k h l e f. g.accepted.two j k h l (eqb-true _ _ e ∙ sym (eqb-true _ _ f)))

    -- the same of the columns and the set that the code has
    module _ {T B : List ℕ} {set : ℕ} (eT : T ≡ periods_of s) (eB : B ≡ budgets_of s) (eS : set ≡ x) where
      pub found_parts : parts_of T B p.starts set ≡ parts_on s p m
      found_parts =
          ap (λ (t : List ℕ). parts_of t B p.starts set) eT
          ∙ ap (λ (b : List ℕ). parts_of (periods_of s) b p.starts set) eB
          ∙ ap (parts_of (periods_of s) (budgets_of s) p.starts) eS
          ∙ parts_are

      pub found_timed : Timed T set
      found_timed = subst (λ (t : List ℕ). Timed t set) (sym eT) (subst (Timed (periods_of s)) (sym eS) parts_timed)

      pub found_hosted : Module (parts_of T B p.starts set)
      found_hosted = subst Module (sym found_parts) parts_hosted
