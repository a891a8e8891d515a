-- The search on bytes. Document 01, "Numbers returned": "Search: sheet, 23, then 26 or 27." Nothing here runs a search.
-- Assumes nothing.
use Rattle.std.specs.Prelude.{true, false, List, ℕ, ltb, eqb, length}
use Rattle.numbers.specs.First.{met, broken}
use Rattle.numbers.specs.Numbers.{buffer_too_short}
use Rattle.layout.specs.Values.{sheet_of, delays_of}
use Rattle.reader.specs.Number.{sheet_number}
use Rattle.reader.specs.Plan.{plan_length}
use Rattle.tries.specs.Tries.{Answer}
use Rattle.search.specs.Answer.{answer_of, answered, written}
use Rattle.search.specs.declared.Found.{Found}
use Rattle.ghozrembu.specs.Judged.{partitions_in}

-- 0, or the number of a call that searches nothing, of a lent buffer of `room` bytes
unfoldable pub refusal_in : (sheet : List ℕ) → (room : ℕ) → ℕ
refusal_in sheet room = met (sheet_number sheet) (broken (ltb room (plan_length (partitions_in sheet))) buffer_too_short)

-- the answer over all tries of the sheet
abbrev pub answer_in : (sheet : List ℕ) → (budget : ℕ) → Answer (ℕ × ℕ)
answer_in sheet budget = answer_of (sheet_of sheet) (delays_of sheet) budget

-- what is returned
unfoldable pub found_bytes : (sheet : List ℕ) → (budget room : ℕ) → Found
found_bytes sheet budget room =
    elim (eqb (refusal_in sheet room) 0) [
      | true ↦ answered (answer_in sheet budget)
      | false ↦ record { number = refusal_in sheet room; tries = 0 }
    ]

-- and what the buffer holds then
unfoldable pub buffer_found : (sheet : List ℕ) → (budget : ℕ) → (buffer : List ℕ) → List ℕ
buffer_found sheet budget buffer =
    elim (eqb (refusal_in sheet (length buffer)) 0) [
      | true ↦ written (partitions_in sheet) (answer_in sheet budget) buffer
      | false ↦ buffer
    ]
