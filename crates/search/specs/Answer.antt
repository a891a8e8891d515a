-- What the search answers: document 01, "The search and its tries" and "Numbers returned". Nothing here runs a search.
-- Assumes nothing.
use Rattle.std.specs.Prelude.{true, false, List, ◌++◌, ℕ, Result, ltb, eqb, length, drop}
use Rattle.numbers.specs.First.{met, broken}
use Rattle.numbers.specs.Numbers as numbers
use Rattle.numbers.specs.Refusals.{number_of}
use Rattle.numbers.specs.declared.Refusal.{Refusal}
use Rattle.lists.specs.Filled.{filled}
use Rattle.model.specs.Decoded.{decoded_number}
use Rattle.model.specs.declared.records.Sheet.{Sheet}
use Rattle.reader.specs.Plan.{plan_length, plan_bytes}
use Rattle.judge.specs.Constraints.{at}
use Rattle.tries.specs.Tries.{Answer, found, absent, stopped, answer}
use Rattle.sound.specs.Sound.{choices, sound, modules_in, starts_in}
use Rattle.search.specs.declared.Found.{Found}
use Rattle.search.specs.declared.Searched.{Searched}

-- what the code says in the two numbers: 0, or the number of a refusal, and the tries made
abbrev pub ended_as : {A : Type 0} → Result A Refusal → (tries : ℕ) → Found
ended_as outcome k = record { number = number_of outcome; tries = k }

abbrev pub found_as : Searched → Found
found_as r = ended_as r.outcome r.tries

-- the answer of the search over a sheet, with the number of tries made
unfoldable pub answer_of : Sheet → (delays : List (List ℕ)) → (budget : ℕ) → Answer (ℕ × ℕ)
answer_of s delays budget = answer s.head.partitions (choices s) (sound s delays) budget

-- the word of a plan of n partitions in two columns
unfoldable pub plan_of : ℕ → (ms ts : List ℕ) → List (ℕ × ℕ)
plan_of n ms ts = filled n n (λ i. (at ms i, at ts i)) (0, 0)

-- "0: .. found .."; "26: no plan exists"; "27: stopped"; with the number of tries made
abbrev pub answered : Answer (ℕ × ℕ) → Found
answered (found w k) = record { number = numbers.fine; tries = k }
answered (absent k) = record { number = numbers.no_plan; tries = k }
answered (stopped k) = record { number = numbers.stopped; tries = k }

-- "Found writes the plan. All that a call writes stands at the front of its lent buffer, and later bytes keep their values."
abbrev pub written : ℕ → Answer (ℕ × ℕ) → List ℕ → List ℕ
written n (found w k) buffer = plan_bytes (modules_in w) (starts_in w) n ++ drop (plan_length n) buffer
written n (absent k) buffer = buffer
written n (stopped k) buffer = buffer

-- "Search: sheet, 23, then 26 or 27": 0, or the number of a call that searches nothing
unfoldable pub refusal_of : Sheet → (delays : List (List ℕ)) → (room : ℕ) → ℕ
refusal_of s delays room = met (decoded_number s delays) (broken (ltb room (plan_length s.head.partitions)) numbers.buffer_too_short)

-- what a call returns that is lent `room` bytes
unfoldable pub found_of : Sheet → (delays : List (List ℕ)) → (budget room : ℕ) → Found
found_of s delays budget room =
    elim (eqb (refusal_of s delays room) 0) [
      | true ↦ answered (answer_of s delays budget)
      | false ↦ record { number = refusal_of s delays room; tries = 0 }
    ]

-- and what its buffer holds afterwards
unfoldable pub buffer_after : Sheet → (delays : List (List ℕ)) → (budget : ℕ) → List ℕ → List ℕ
buffer_after s delays budget buffer =
    elim (eqb (refusal_of s delays (length buffer)) 0) [
      | true ↦ written s.head.partitions (answer_of s delays budget) buffer
      | false ↦ buffer
    ]
