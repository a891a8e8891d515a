-- What a call of the search returns and leaves in its buffer, way by way. Assumes nothing.
use mathlib.Core.Path.{◌≡◌, refl, sym, ◌∙◌, ap}
use mathlib.Core.Bool.{true, false}
use mathlib.Core.List.{List, ◌++◌}
use Prim.Native.Nat.{ℕ, zero, suc, ◌≤◌}
use native.Mathlib.Omega.{arith}
use lib.Dec.{eqb}
use lib.ListN.{length, drop, take}
use lib.Seq.{get_or-take, length-take-le}
use borrow.Author.Tests.{eq-eqb, ne_eqb}
use Rattle.numbers.specs.Numbers as numbers
use Rattle.numbers.specs.Refusals.{number}
use Rattle.numbers.specs.declared.Refusal.{Refusal}
use Rattle.numbers.proofs.Refused.{number_some}
use Rattle.model.specs.Limits.{most_partitions}
use Rattle.model.specs.declared.records.Sheet.{Sheet}
use Rattle.reader.specs.Plan.{plan_length, plan_bytes, with_placements}
use Rattle.tries.specs.Tries.{Answer, found, absent, stopped}
use Rattle.tries.specs.Code.{Standing, shown, placed}
use Rattle.tries.proofs.Placements.{pairs_modules, pairs_starts}
use Rattle.sound.specs.Sound.{modules_in, starts_in}
use Rattle.search.specs.Answer.{answer_of, answered, written, refusal_of, found_of, buffer_after}
use Rattle.search.specs.Standing.{Ran}
use Rattle.search.proofs.Calls.{searches_exactly}
use Rattle.model.specs.Fair.{Fair}
use Rattle.model.proofs.Fairness.{number_fair}
use Rattle.search.specs.declared.Found.{Found}
use Rattle.sound.proofs.Alike.{Alike}

-- the bytes of a plan read the first n placements only
placements_alike : (ms ts ms' ts' bytes : List ℕ) (n : ℕ) → Alike n ms ms' → Alike n ts ts' → with_placements ms ts n bytes ≡ with_placements ms' ts' n bytes
unfolding with_placements
placements_alike ms ts ms' ts' bytes zero a b = refl
placements_alike ms ts ms' ts' bytes (suc n) a b =
    rw (placements_alike ms ts ms' ts' bytes n (λ i l. a i (omega arith)) (λ i l. b i (omega arith)), a n (omega arith), b n (omega arith))

plan_written : (n : ℕ) (ms ts : List ℕ) → n ≤ length ms → n ≤ length ts
    → plan_bytes (modules_in (placed n ms ts)) (starts_in (placed n ms ts)) n ≡ plan_bytes ms ts n
unfolding plan_bytes
plan_written n ms ts l k =
    rw (pairs_modules (take n ms) (take n ts) same, pairs_starts (take n ms) (take n ts) same)
    (placements_alike (take n ms) (take n ts) ms ts _ n (λ i h. get_or-take n ms i 0 h) (λ i h. get_or-take n ts i 0 h))
  where
    same : length (take n ms) ≡ length (take n ts)
    same = length-take-le n ms l ∙ sym (length-take-le n ts k)

-- the three ends of a search
shown_found : (n : ℕ) (o : Standing) → o.found ≡ true → shown n o ≡ found (placed n o.modules o.starts) o.tries
unfolding shown
shown_found n o f = rw f

shown_stopped : (n : ℕ) (o : Standing) → o.found ≡ false → o.stopped ≡ true → shown n o ≡ stopped o.tries
unfolding shown
shown_stopped n o f g = rw (f, g)

shown_absent : (n : ℕ) (o : Standing) → o.found ≡ false → o.stopped ≡ false → shown n o ≡ absent o.tries
unfolding shown
shown_absent n o f g = rw (f, g)

module _ (s : Sheet) (delays : List (List ℕ)) (budget : ℕ) (buffer : List ℕ) where
  abbrev N : ℕ
  N = s.head.partitions

  -- what the contract says of a call that returns r and leaves `after`
  abbrev pub Says : Found → List ℕ → Type 0
  Says r after = (r ≡ found_of s delays budget (length buffer)) × (after ≡ buffer_after s delays budget buffer)

  -- ---- a call that searches nothing
  pub refused : (refusal : Refusal) → number refusal ≡ refusal_of s delays (length buffer) → Says (record { number = number refusal; tries = 0 }) buffer
  unfolding found_of buffer_after
  refused refusal e = (
    ap number_only e
        ∙ sym (ap {B = Found} (λ c. elim c [ true ↦ answered (answer_of s delays budget) | false ↦ number_only (refusal_of s delays (length buffer)) ]) test),
    sym (ap {B = List ℕ} (λ c. elim c [ true ↦ written N (answer_of s delays budget) buffer | false ↦ buffer ]) test),
  )
    where
      number_only : ℕ → Found
      number_only x = record { number = x; tries = 0 }

      test : eqb (refusal_of s delays (length buffer)) 0 ≡ false
      test = ap (λ y. eqb y 0) (sym e) ∙ ne_eqb (number refusal) 0 (number_some refusal)

  -- ---- a call that searches
  -- has a fair sheet, and room for a plan
  pub searching : 0 ≡ refusal_of s delays (length buffer) → Fair s delays × (plan_length N ≤ length buffer)
  searching e = let h = (searches_exactly s delays budget buffer).0 (sym e) in (number_fair s delays h.0, h.1)

  module _ (e : 0 ≡ refusal_of s delays (length buffer)) (o : Standing) (ran : Ran s delays budget o) where
    searches : (a : Answer (ℕ × ℕ)) → shown N o ≡ a → Says (answered a) (written N a buffer)
    unfolding found_of buffer_after
    searches a q = (
      ap answered is
          ∙ sym (ap {B = Found} (λ c. elim c [ true ↦ answered (answer_of s delays budget) | false ↦ record { number = refusal_of s delays (length buffer); tries = 0 } ]) test),
      ap (λ y. written N y buffer) is
          ∙ sym (ap {B = List ℕ} (λ c. elim c [ true ↦ written N (answer_of s delays budget) buffer | false ↦ buffer ]) test),
    )
      where
        is : a ≡ answer_of s delays budget
        is = sym q ∙ ran.answer

        test : eqb (refusal_of s delays (length buffer)) 0 ≡ true
        test = eq-eqb _ 0 (sym e)

    pub finds : o.found ≡ true → N ≤ most_partitions → (after : List ℕ) → after ≡ plan_bytes o.modules o.starts N ++ drop (plan_length N) buffer
        → Says (record { number = numbers.fine; tries = o.tries }) after
    finds f few after w =
        let says = searches (found (placed N o.modules o.starts) o.tries) (shown_found N o f) in
        let same = plan_written N o.modules o.starts (omega (arith, ran.modules)) (omega (arith, ran.starts)) in
        (says.0, w ∙ ap (λ x. x ++ drop (plan_length N) buffer) (sym same) ∙ says.1)

    module _ (f : o.found ≡ false) where
      pub halts : o.stopped ≡ true → Says (record { number = numbers.stopped; tries = o.tries }) buffer
      halts g = searches (stopped o.tries) (shown_stopped N o f g)

      pub lacks : o.stopped ≡ false → Says (record { number = numbers.no_plan; tries = o.tries }) buffer
      lacks g = searches (absent o.tries) (shown_absent N o f g)
