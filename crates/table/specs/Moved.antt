-- What one step comes to, of a table's bytes or of a list of slots.
-- Assumes nothing.
use Rattle.std.specs.Prelude.{ℕ}
use Rattle.table.specs.declared.records.Position.{Position}

-- its number, its answer and the position after it
pub record Moved : Type 0 where
  pub number : ℕ
  pub partition : ℕ
  pub position : Position
