-- What the programs show of files that stand: the counts of a sheet, the head and the slots of a table, the budget of a search.
-- Assumes nothing.
use Rattle.std.specs.Prelude.{cond, List, ℕ, ◌+◌, ◌*◌, leb, ltb, eqb, length}
use Rattle.bits.specs.Field.{field_of}
use Rattle.layout.specs.Values.{head_of}
use Rattle.reader.specs.Number.{sheet_number, accepted}
use Rattle.table.specs.Layout.{head_size, slot_size, most_slots, table_of, slot_of, no_slot}
use Rattle.table.specs.declared.records.Slot.{Slot}
use Rattle.table.specs.declared.records.Table.{Table}
use Rattle.ghozrembu.specs.declared.looks.Counts.{Counts}

-- M and N of a sheet; zeros where it is refused
unfoldable pub counts_of : List ℕ → Counts
counts_of sheet =
    accepted (sheet_number sheet) (record { modules = (head_of sheet).modules; partitions = (head_of sheet).partitions })
    (record { modules = 0; partitions = 0 })

-- the head of a table; zeros where the bytes end before it
unfoldable pub table_at : List ℕ → Table
table_at b = cond (leb head_size (length b)) (table_of b) (record { frame = 0; slots = 0 })

-- slot i of a table; zeros where the bytes end before its end, or no table has it
unfoldable pub slot_at : List ℕ → ℕ → Slot
slot_at b i = cond (ltb i most_slots) (cond (leb (head_size + slot_size * (i + 1)) (length b)) (slot_of b i) no_slot) no_slot

-- "budget.bin (32 bits, most significant first; any other length means 0)"
unfoldable pub budget_of : List ℕ → ℕ
budget_of b = cond (eqb (length b) 4) (field_of b 0 16 * 65536 + field_of b 16 16) 0
