-- The builder on bytes is the builder on the values that the bytes hold.
-- Assumes nothing.
use mathlib.Core.Path.{◌≡◌, ap, sym, ◌∙◌}
use mathlib.Core.List.{List}
use Prim.Native.Nat.{ℕ}
use lib.ListN.{length}
use Rattle.numbers.specs.First.{met, met_hit}
use Rattle.model.specs.declared.records.Plan.{Plan}
use Rattle.model.specs.declared.records.Sheet.{Sheet}
use Rattle.layout.specs.Values.{sheet_of, delays_of}
use Rattle.reader.specs.Number.{sheet_number}
use Rattle.reader.specs.Plan.{plan_number, plan_of}
use Rattle.judge.specs.declared.Answer.{Answer}
use Rattle.builder.specs.Built.{refused, built_number, built_of, buffer_of}
use Rattle.builder.proofs.Returned.{returned_refused, left_refused}
use Rattle.ghozrembu.specs.Judged.{partitions_in, judged_bytes}
use Rattle.ghozrembu.specs.BuiltBytes.{parts_in, build_number, built_bytes, buffer_built}
use Rattle.ghozrembu.proofs.JudgeLaws.{by_reading, by_values}

module _ (sheet plan : List ℕ) {n : ℕ} (e : n ≡ met (sheet_number sheet) (plan_number plan (partitions_in sheet))) (m : ℕ) (buffer : List ℕ) where
  -- a sheet or a plan that is refused gives its number
  module _ (ne : n ≡ 0 → ⊥) where
    refused_number : n ≡ build_number sheet plan m (length buffer)
    unfolding build_number
    refused_number =
        let a : n ≡ (judged_bytes sheet plan).number = ap (λ (x : Answer). x.number) (by_reading sheet plan e ne) in
        a ∙ sym (met_hit _ _ (λ z. ne (a ∙ z)))

    pub refused_built : refused n ≡ built_bytes sheet plan m buffer
    unfolding built_bytes
    refused_built = returned_refused n (parts_in sheet plan m) refused_number ne

    pub refused_buffer : buffer ≡ buffer_built sheet plan m buffer
    unfolding buffer_built
    refused_buffer = left_refused n (parts_in sheet plan m) refused_number ne buffer

  module _ (z : n ≡ 0) {s : Sheet} {p : Plan} {d : List (List ℕ)} (f : s ≡ sheet_of sheet) (g : p ≡ plan_of plan (partitions_in sheet)) (h : d ≡ delays_of sheet) where
    -- on the values the builder's number is that of the bytes
    pub value_number : built_number s d p m (length buffer) ≡ build_number sheet plan m (length buffer)
    unfolding built_number build_number
    value_number = rw (by_values sheet plan e z f g h, f, g)

    pub value_built : built_of s d p m buffer ≡ built_bytes sheet plan m buffer
    unfolding built_bytes
    value_built = rw (value_number, f, g)

    pub value_buffer : buffer_of s d p m buffer ≡ buffer_built sheet plan m buffer
    unfolding buffer_built
    value_buffer = rw (value_number, f, g)
