-- `bits::field` meets its contract. The loop's invariant: v is what the first i bits spell.
-- Assumes nothing.
use mathlib.Core.Path.{◌≡◌}
use Rattle.bits.specs.Field.{field_of}
use Rattle.bits.proofs.field.Given as goal

abbrev pub invariant-loop-i : goal.invariant-loop-i
invariant-loop-i l = l.v ≡ field_of l.s l.at l.i
