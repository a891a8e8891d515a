-- The worked cases of document 01, "Sheet A and what follows from it", that are marked P: one table. Each row has the bytes of a sheet, what
-- is asked of it, and what document 01 says it gets. `proofs/Worked.antt` has the one statement about them.
-- Assumes nothing.
use Rattle.std.specs.Prelude.{List, [], ◌∷◌, ◌++◌, ℕ, ◌*◌, replicate, take}
use Rattle.judge.specs.declared.Answer.{Answer}
use Rattle.table.specs.Layout.{table_of, slots_in}
use Rattle.table.specs.Run.{answers}
use Rattle.table.specs.Step.{stepped}
use Rattle.table.specs.declared.records.Slot.{Slot}
use Rattle.ghozrembu.specs.Judged.{judged_bytes}
use Rattle.ghozrembu.specs.BuiltBytes.{built_bytes, buffer_built}
use Rattle.ghozrembu.specs.FoundBytes.{found_bytes, buffer_found}

-- "Sheet A, in hex: 10 82 00 00 00 00 C8 08 00 00 00 10 00 04 00 02 80 01 80 00 40 00 28"; the numbers in which its variants differ are
-- open: the bytes that hold K, the module's memory, most partitions, the two periods, and what follows
abbrev pub variant : (chains memory most period₀ : ℕ) → (period₁ : List ℕ) → (after : List ℕ) → List ℕ
variant chains memory most period₀ period₁ after =
    16 ∷ 130 ∷ 0 ∷ chains ∷ 0 ∷ 0 ∷ memory ∷ most ∷ 0 ∷ 0 ∷ 0 ∷ period₀ ∷ 0 ∷ 4 ∷ 0 ∷ 2 ∷ 128 ∷ [] ++ period₁ ++ 0 ∷ 64 ∷ 0 ∷ 40 ∷ [] ++ after

abbrev pub sheet_a : List ℕ
sheet_a = variant 0 200 8 16 (1 ∷ 128 ∷ []) []

-- module memory 20, and 19
abbrev pub memory20 : List ℕ
memory20 = variant 0 40 8 16 (1 ∷ 128 ∷ []) []

abbrev pub memory19 : List ℕ
memory19 = variant 0 38 8 16 (1 ∷ 128 ∷ []) []

-- most partitions 1
abbrev pub most1 : List ℕ
most1 = variant 0 200 4 16 (1 ∷ 128 ∷ []) []

-- chain 0, 1 added, with limit 7, and 6
abbrev pub chain7 : List ℕ
chain7 = variant 2 200 8 16 (1 ∷ 128 ∷ []) (0 ∷ 0 ∷ 28 ∷ 64 ∷ 2 ∷ [])

abbrev pub chain6 : List ℕ
chain6 = variant 2 200 8 16 (1 ∷ 128 ∷ []) (0 ∷ 0 ∷ 24 ∷ 64 ∷ 2 ∷ [])

-- periods 2 and 3
abbrev pub periods23 : List ℕ
periods23 = variant 0 200 8 8 (0 ∷ 192 ∷ []) []

-- a plan's bytes: both partitions on module 0, the second's start below 256, the first's below 16
abbrev pub starts : ℕ → ℕ → List ℕ
starts t u = 0 ∷ 0 ∷ 16 * t ∷ 0 ∷ u ∷ []

-- partition 1 on module 1
abbrev pub on_module1 : List ℕ
on_module1 = 0 ∷ 0 ∷ 1 ∷ 0 ∷ 1 ∷ []

-- what is asked: a verdict; a search; the table of module 0; steps of that table from the fresh position on
pub data Ask : Type 0 where
  judge : (plan : List ℕ) → Ask
  search : (budget : ℕ) → Ask
  build : (plan : List ℕ) → Ask
  steps : (plan : List ℕ) → (count : ℕ) → Ask

pub record Case : Type 0 where
  pub sheet : List ℕ
  pub ask : Ask
  pub got : List ℕ

-- number and places
abbrev numbers_of : Answer → List ℕ
numbers_of a = a.number ∷ a.first ∷ a.second ∷ []

-- number and tries, and then what a buffer of 5 bytes 255 holds, which is just long enough for a plan of two partitions
abbrev searched : List ℕ → ℕ → List ℕ
searched sheet budget =
    (found_bytes sheet budget 5).number ∷ (found_bytes sheet budget 5).tries ∷ buffer_found sheet budget (replicate 5 255)

-- the bytes of module 0's table, in a buffer of 35 zeros
abbrev table : List ℕ → List ℕ → List ℕ
table sheet plan = take (built_bytes sheet plan 0 (replicate 35 0)).length (buffer_built sheet plan 0 (replicate 35 0))

-- F, and each slot's start, length and partition
unfoldable pub listed : List Slot → List ℕ
listed [] = []
listed (x ∷ xs) = x.start ∷ x.length ∷ x.partition ∷ listed xs

-- what the definitions give
abbrev pub given : Case → List ℕ
given c =
    elim c.ask [
      | judge plan ↦ numbers_of (judged_bytes c.sheet plan)
      | search budget ↦ searched c.sheet budget
      | build plan ↦ (table_of (table c.sheet plan)).frame ∷ listed (slots_in (table c.sheet plan))
      | steps plan count ↦ answers (stepped (table c.sheet plan)) 0 count
    ]

abbrev pub cases : List Case
cases =
    record { sheet = sheet_a; ask = judge (starts 0 1); got = 0 ∷ 0 ∷ 0 ∷ [] }
    ∷ record { sheet = sheet_a; ask = judge (starts 0 2); got = 2 ∷ 0 ∷ 1 ∷ [] }
    ∷ record { sheet = sheet_a; ask = judge (starts 0 5); got = 0 ∷ 0 ∷ 0 ∷ [] }
    ∷ record { sheet = sheet_a; ask = judge (starts 3 0); got = 0 ∷ 0 ∷ 0 ∷ [] }
    ∷ record { sheet = sheet_a; ask = judge (starts 0 6); got = 2 ∷ 0 ∷ 1 ∷ [] }
    ∷ record { sheet = sheet_a; ask = judge (starts 0 7); got = 3 ∷ 1 ∷ 0 ∷ [] }
    ∷ record { sheet = sheet_a; ask = judge on_module1; got = 1 ∷ 1 ∷ 0 ∷ [] }
    ∷ record { sheet = memory20; ask = judge (starts 0 1); got = 0 ∷ 0 ∷ 0 ∷ [] }
    ∷ record { sheet = memory19; ask = judge (starts 0 1); got = 4 ∷ 0 ∷ 0 ∷ [] }
    ∷ record { sheet = most1; ask = judge (starts 0 1); got = 5 ∷ 0 ∷ 0 ∷ [] }
    ∷ record { sheet = chain7; ask = judge (starts 0 1); got = 0 ∷ 0 ∷ 0 ∷ [] }
    ∷ record { sheet = chain6; ask = judge (starts 0 1); got = 8 ∷ 0 ∷ 0 ∷ [] }
    ∷ record { sheet = sheet_a; ask = search 3; got = 0 ∷ 3 ∷ starts 0 1 }
    ∷ record { sheet = sheet_a; ask = search 2; got = 27 ∷ 2 ∷ replicate 5 255 }
    ∷ record { sheet = periods23; ask = search 8; got = 26 ∷ 8 ∷ replicate 5 255 }
    ∷ record { sheet = periods23; ask = search 7; got = 27 ∷ 7 ∷ replicate 5 255 }
    ∷ record {
      sheet = sheet_a;
      ask = build (starts 0 1);
      got = 12 ∷ 0 ∷ 1 ∷ 0 ∷ 1 ∷ 1 ∷ 1 ∷ 4 ∷ 1 ∷ 0 ∷ 7 ∷ 1 ∷ 1 ∷ 8 ∷ 1 ∷ 0 ∷ [];
    }
    ∷ record {
      sheet = sheet_a;
      ask = steps (starts 0 1) 12;
      got = 0 ∷ 1 ∷ 64 ∷ 64 ∷ 0 ∷ 64 ∷ 64 ∷ 1 ∷ 0 ∷ 64 ∷ 64 ∷ 64 ∷ [];
    }
    ∷ []
