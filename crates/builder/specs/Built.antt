-- What the builder returns and writes.
-- Assumes nothing.
use Rattle.std.specs.Prelude.{Result, Ok, Err, List, ◌++◌, ℕ, zero, suc, ◌+◌, ◌*◌, leb, ltb, length, drop}
use Rattle.numbers.specs.Numbers.{fine, no_such_module, frame_too_large, too_many_slots, buffer_too_short}
use Rattle.numbers.specs.First.{broken, met}
use Rattle.numbers.specs.Refusals.{number}
use Rattle.numbers.specs.declared.Refusal.{Refusal}
use Rattle.sets.specs.Members.{kept}
use Rattle.model.specs.Columns.{periods_of, budgets_of}
use Rattle.model.specs.declared.records.Sheet.{Sheet}
use Rattle.model.specs.declared.records.Plan.{Plan}
use Rattle.judge.specs.Constraints.{is_on}
use Rattle.judge.specs.Verdict.{judged}
use Rattle.judge.specs.Answers.{failed_as}
use Rattle.judge.specs.declared.Failure.{Failure}
use Rattle.table.specs.Layout.{most_frame, most_slots, head_size, slot_size, table_bytes}
use Rattle.frames.specs.Frame.{Part, frame, slots_of}
use Rattle.builder.specs.Parts.{part_at}
use Rattle.builder.specs.declared.Built.{Built}

-- the partitions that a plan has on module m, in ascending order
unfoldable pub parts_on : Sheet → Plan → ℕ → List Part
parts_on s p m = kept (is_on p.modules m) (part_at (periods_of s) (budgets_of s) p.starts) s.head.partitions

-- how many bytes their table has: 5 + 6c
abbrev pub size_of : List Part → ℕ
size_of ps = head_size + slot_size * length (slots_of ps)

-- of a module's partitions and a buffer of n bytes: "21: F too large", "22: more than 1,024 slots", "23: the lent buffer is shorter .. than 5 + 6c"
unfoldable pub room_number : List Part → ℕ → ℕ
room_number ps n =
    met (broken (ltb most_frame (frame ps)) frame_too_large)
    (met (broken (ltb most_slots (length (slots_of ps))) too_many_slots)
    (broken (ltb n (size_of ps)) buffer_too_short))

-- "Builder: the same, then 20, 21, 22, 23." The same is the judge's; "20: module number not below M".
unfoldable pub built_number : Sheet → List (List ℕ) → Plan → ℕ → ℕ → ℕ
built_number s delays p m n =
    met (judged s delays p).number
    (met (broken (leb s.head.modules m) no_such_module)
    (room_number (parts_on s p m) n))

-- "the builder writes the table and returns its length"; "Numeric results are 0 where none is named above."
abbrev pub refused : ℕ → Built
refused k = record { number = k; length = 0 }

-- a length, or why there is no table
abbrev pub room_as : Result ℕ Refusal → Built
room_as (Ok n) = record { number = fine; length = n }
room_as (Err refusal) = refused (number refusal)

abbrev pub built_as : Result ℕ Failure → Built
built_as (Ok n) = record { number = fine; length = n }
built_as (Err failure) = refused (failed_as failure).number

unfoldable pub returned : ℕ → List Part → Built
returned zero ps = record { number = fine; length = size_of ps }
returned (suc k) ps = refused (suc k)

-- "All that a call writes stands at the front of its lent buffer, and later bytes keep their values."
-- "Every number but 0 leaves buffers and position as at entry."
unfoldable pub left : ℕ → List Part → List ℕ → List ℕ
left zero ps d = table_bytes (frame ps) (slots_of ps) ++ drop (size_of ps) d
left (suc k) ps d = d

-- what is returned, and what the buffer d holds then
abbrev pub built_of : Sheet → List (List ℕ) → Plan → ℕ → List ℕ → Built
built_of s delays p m d = returned (built_number s delays p m (length d)) (parts_on s p m)

abbrev pub buffer_of : Sheet → List (List ℕ) → Plan → ℕ → List ℕ → List ℕ
buffer_of s delays p m d = left (built_number s delays p m (length d)) (parts_on s p m) d
