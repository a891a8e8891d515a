-- The search on bytes is the search on the values that the bytes hold.
-- Assumes nothing.
use mathlib.Core.Path.{◌≡◌, refl, ap, sym, ◌∙◌, subst}
use mathlib.Core.Bool.{Bool, true, false}
use mathlib.Core.List.{List}
use Prim.Native.Nat.{ℕ}
use lib.Dec.{eqb}
use lib.ListN.{length}
use borrow.Author.Tests.{ne_eqb}
use Rattle.numbers.specs.First.{met_hit}
use Rattle.model.specs.declared.records.Sheet.{Sheet}
use Rattle.layout.specs.Values.{sheet_of, delays_of}
use Rattle.reader.specs.Number.{Reading, sheet_number, sheet_read, delays_read}
use Rattle.reader.proofs.Outcome.{read_number, read_sheet, read_delays}
use Rattle.reader.proofs.Passing.{sheet_passes}
use Rattle.search.specs.Answer.{refusal_of, found_of, buffer_after, answered, written}
use Rattle.search.specs.declared.Found.{Found}
use Rattle.ghozrembu.specs.Judged.{partitions_in}
use Rattle.ghozrembu.specs.FoundBytes.{refusal_in, answer_in, found_bytes, buffer_found}

-- on what a sheet's bytes hold, the number of the decoded values is the bytes'
same_refusal : (sheet : List ℕ) (room : ℕ) → sheet_number sheet ≡ 0 → refusal_of (sheet_of sheet) (delays_of sheet) room ≡ refusal_in sheet room
unfolding refusal_of refusal_in
same_refusal sheet room e = rw (sheet_passes sheet e, e)

pub found_same : (sheet : List ℕ) (budget room : ℕ) → sheet_number sheet ≡ 0 → found_of (sheet_of sheet) (delays_of sheet) budget room ≡ found_bytes sheet budget room
unfolding found_of found_bytes
found_same sheet budget room e =
    ap {B = Found} (λ (k : ℕ). elim (eqb k 0) [ true ↦ answered (answer_in sheet budget) | false ↦ record { number = k; tries = 0 } ])
    (same_refusal sheet room e)

pub kept_same : (sheet : List ℕ) (budget : ℕ) (buffer : List ℕ) → sheet_number sheet ≡ 0
    → buffer_after (sheet_of sheet) (delays_of sheet) budget buffer ≡ buffer_found sheet budget buffer
unfolding buffer_after buffer_found
kept_same sheet budget buffer e =
    ap (λ (k : ℕ). elim (eqb k 0) [ true ↦ written (partitions_in sheet) (answer_in sheet budget) buffer | false ↦ buffer ])
    (same_refusal sheet (length buffer) e)

-- a sheet that is refused
module _ (sheet : List ℕ) {r : Reading} (e : r ≡ sheet_read sheet) (budget : ℕ) (buffer : List ℕ) where
  module _ (n : r.number ≡ 0 → ⊥) where
    refused_first : refusal_in sheet (length buffer) ≡ r.number
    unfolding refusal_in
    refused_first = met_hit _ _ (λ z. n (read_number sheet e ∙ z)) ∙ sym (read_number sheet e)

    refuses : eqb (refusal_in sheet (length buffer)) 0 ≡ false
    refuses = ne_eqb _ _ (λ z. n (sym refused_first ∙ z))

    pub refused_found : ◌≡◌ {A = Found} (record { number = r.number; tries = 0 }) (found_bytes sheet budget (length buffer))
    unfolding found_bytes
    refused_found =
        subst (λ (t : Bool). ◌≡◌ {A = Found} (record { number = r.number; tries = 0 }) (elim t [ true ↦ answered (answer_in sheet budget) | false ↦ record { number = refusal_in sheet (length buffer); tries = 0 } ]))
        (sym refuses) (ap {B = Found} (λ (k : ℕ). record { number = k; tries = 0 }) (sym refused_first))

    pub refused_kept : buffer ≡ buffer_found sheet budget buffer
    unfolding buffer_found
    refused_kept =
        subst (λ (t : Bool). buffer ≡ elim t [ true ↦ written (partitions_in sheet) (answer_in sheet budget) buffer | false ↦ buffer ])
        (sym refuses) refl

-- a sheet that is read
module _ (sheet : List ℕ) {s : Sheet} (e : ◌≡◌ {A = Reading} (record { number = 0; sheet = s }) (sheet_read sheet)) {d : List (List ℕ)} (before : List (List ℕ))
    (g : d ≡ delays_read sheet before) (budget : ℕ) where
  sheet_zero : sheet_number sheet ≡ 0
  sheet_zero = sym (read_number sheet e)

  delays_are : d ≡ delays_of sheet
  delays_are = g ∙ read_delays sheet e before refl

  pub value_found : (room : ℕ) → found_of s d budget room ≡ found_bytes sheet budget room
  value_found room = rw (read_sheet sheet e refl, delays_are) (found_same sheet budget room sheet_zero)

  pub value_kept : (buffer : List ℕ) → buffer_after s d budget buffer ≡ buffer_found sheet budget buffer
  value_kept buffer = rw (read_sheet sheet e refl, delays_are) (kept_same sheet budget buffer sheet_zero)
