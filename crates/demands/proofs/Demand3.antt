-- Demand 3: "a dispatcher that names at every tick, for ever, the one partition whose execution covers it, or idle." From the sheet's and the
-- plan's bytes, through the table's bytes that the builder writes, to the dispatcher's answers.
-- Assumes nothing.
use mathlib.Core.Path.{◌≡◌, refl, ap, sym, ◌∙◌, subst}
use mathlib.Core.List.{List}
use Prim.Native.Nat.{ℕ}
use lib.ListN.{length, take}
use Rattle.numbers.specs.First.{met_here, met_none}
use Rattle.layout.specs.Values.{sheet_of, delays_of}
use Rattle.builder.specs.Built.{built_number, built_of}
use Rattle.builder.specs.Demand.{Does}
use Rattle.builder.specs.declared.Built.{Built}
use Rattle.builder.proofs.Theorems.{built_does}
use Rattle.ghozrembu.specs.Judged.{judged_bytes}
use Rattle.ghozrembu.specs.BuiltBytes.{build_number, built_bytes, buffer_built}
use Rattle.ghozrembu.proofs.BuildLaws.{value_number, value_built, value_buffer}
use Rattle.demands.specs.Promises.{plan_in, Readable}
use Rattle.demands.proofs.Demand1.{build_in_order}
use Rattle.demands.proofs.Demand2.{accepted_holds}

module _ (sheet plan : List ℕ) (m : ℕ) (buffer : List ℕ) where
  -- whenever the builder answers 0, the bytes that it wrote are a sound table, and stepped from the fresh position on they do what the plan
  -- says at every tick, for ever (`Does`: never refused; the position stays valid; the partition that covers the tick, or 64; each
  -- partition as often as its budget says in any run of answers)
  pub built_table_does : (built_bytes sheet plan m buffer).number ≡ 0
      → Does (sheet_of sheet) (plan_in sheet plan) m (take (built_bytes sheet plan m buffer).length (buffer_built sheet plan m buffer))
  unfolding build_number
  built_table_does e =
      let z : build_number sheet plan m (length buffer) ≡ 0 = sym (build_in_order sheet plan m buffer) ∙ e in
      let r : Readable sheet plan = (accepted_holds sheet plan (met_here (judged_bytes sheet plan).number _ z)).0 in
      let b = sym (met_none r.sheet_stands r.plan_stands) in
      let n : built_number (sheet_of sheet) (delays_of sheet) (plan_in sheet plan) m (length buffer) ≡ 0 = value_number sheet plan b m buffer refl refl refl refl ∙ z in
      subst (λ (k : ℕ). Does (sheet_of sheet) (plan_in sheet plan) m (take k (buffer_built sheet plan m buffer)))
      (ap (λ (x : Built). x.length) (value_built sheet plan b m buffer refl refl refl refl))
      (subst (λ (d : List ℕ). Does (sheet_of sheet) (plan_in sheet plan) m (take (built_of (sheet_of sheet) (delays_of sheet) (plan_in sheet plan) m buffer).length d))
      (value_buffer sheet plan b m buffer refl refl refl refl)
      (built_does (sheet_of sheet) (delays_of sheet) (plan_in sheet plan) m buffer n))
