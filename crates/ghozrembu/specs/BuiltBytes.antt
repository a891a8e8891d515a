-- The builder on bytes. Document 01, "Numbers returned": "Builder: the same, then 20, 21, 22, 23." (The same is the judge's.)
-- Assumes nothing.
use Rattle.std.specs.Prelude.{List, ℕ, leb, length}
use Rattle.numbers.specs.First.{met, broken}
use Rattle.numbers.specs.Numbers.{no_such_module}
use Rattle.layout.specs.Values.{sheet_of}
use Rattle.reader.specs.Plan.{plan_of}
use Rattle.frames.specs.Frame.{Part}
use Rattle.builder.specs.Built.{parts_on, room_number, returned, left}
use Rattle.builder.specs.declared.Built.{Built}
use Rattle.ghozrembu.specs.Judged.{partitions_in, judged_bytes}

-- the partitions that a plan has on module m
abbrev pub parts_in : (sheet plan : List ℕ) → ℕ → List Part
parts_in sheet plan m = parts_on (sheet_of sheet) (plan_of plan (partitions_in sheet)) m

-- of a lent buffer of n bytes
unfoldable pub build_number : (sheet plan : List ℕ) → (m n : ℕ) → ℕ
build_number sheet plan m n =
    met (judged_bytes sheet plan).number
    (met (broken (leb (sheet_of sheet).head.modules m) no_such_module)
    (room_number (parts_in sheet plan m) n))

-- what is returned, and what the buffer holds then
unfoldable pub built_bytes : (sheet plan : List ℕ) → (m : ℕ) → (buffer : List ℕ) → Built
built_bytes sheet plan m buffer = returned (build_number sheet plan m (length buffer)) (parts_in sheet plan m)

unfoldable pub buffer_built : (sheet plan : List ℕ) → (m : ℕ) → (buffer : List ℕ) → List ℕ
buffer_built sheet plan m buffer = left (build_number sheet plan m (length buffer)) (parts_in sheet plan m) buffer
