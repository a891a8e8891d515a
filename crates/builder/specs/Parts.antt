-- The partitions of a set, in ascending order, each with what the columns hold of it: periods T, budgets B and starts ts.
-- Assumes nothing.
use Rattle.std.specs.Prelude.{cond, List, ℕ, ltb}
use Rattle.sets.specs.Members.{members_of}
use Rattle.judge.specs.Constraints.{at}
use Rattle.table.specs.declared.records.Slot.{Slot}
use Rattle.frames.specs.Frame.{Part}

abbrev pub part_at : (T B ts : List ℕ) → ℕ → Part
part_at T B ts i = record { name = i; start = at ts i; period = at T i; budget = at B i }

abbrev pub parts_of : (T B ts : List ℕ) → ℕ → List Part
parts_of T B ts x = members_of (part_at T B ts) x

-- the earlier of the best so far and an execution that starts at `start`
abbrev pub nearer : Slot → ℕ → ℕ → ℕ → Slot
nearer best start length partition =
    cond (ltb start best.start) (record { start = start; length = length; partition = partition }) best
