-- What the builder's inner functions ask of a set of partitions, and what they find.
-- Assumes nothing.
use Rattle.std.specs.Prelude.{◌≡◌, true, List, ℕ, ◌≤◌, ◌<◌, ◌^◌, length}
use Rattle.sets.specs.Members.{member}
use Rattle.judge.specs.Constraints.{at}
use Rattle.table.specs.declared.records.Table.{Table}
use Rattle.table.specs.Layout.{most_frame, most_slots}
use Rattle.frames.specs.Frame.{Part, Module, frame, slots_of}
use Rattle.builder.specs.Parts.{parts_of}

-- each member's period is at least 1 and has 16 bits
abbrev pub Timed : List ℕ → ℕ → Type 0
Timed T x = (i : ℕ) → member x i ≡ true → (1 ≤ at T i) × (at T i < 2 ^ 16)

-- a number that is the frame as far as a table's field goes, and is too large where the frame is
pub record FrameFound (ps : List Part) (f : ℕ) : Type 0 where
  pub exact : f ≤ most_frame → f ≡ frame ps
  pub past : most_frame < f → most_frame < frame ps

-- partitions of an accepted plan's module whose frame and slots a table has room for
pub record Ready (T B ts : List ℕ) (x : ℕ) (t : Table) : Type 0 where
  pub timed : Timed T x
  pub hosted : Module (parts_of T B ts x)
  pub frame_is : t.frame ≡ frame (parts_of T B ts x)
  pub slots_are : t.slots ≡ length (slots_of (parts_of T B ts x))
  pub small : t.frame ≤ most_frame
  pub few : t.slots ≤ most_slots
