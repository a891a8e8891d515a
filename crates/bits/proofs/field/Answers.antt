-- `bits::field` meets its contract. The loop's invariant: v is what the first i bits spell.
-- Assumes nothing.
use mathlib.Core.Path.{◌∙◌}
use Prim.Native.Nat.{◌<◌, ◌+◌, ◌^◌}
use native.Mathlib.Omega.{arith}
use Rattle.bits.specs.Field.{field_of, bit_of}
use Rattle.bits.proofs.Laws.{bit_below_two, field_next}
use Rattle.bits.proofs.Masks.{last_bit, bit_shifted_in}
use Rattle.bits.proofs.Turns.{room_for_a_bit}
use Rattle.bits.proofs.field.Goals as goal

pub loop-i-init : goal.loop-i-init
unfolding field_of
loop-i-init c = omega arith

pub loop-i-preserved : goal.loop-i-preserved
loop-i-preserved c = let bit : bit_of c.args.s.now (c.args.at + c.loop-i.i) < 2 = bit_below_two c.args.s.now (c.args.at + c.loop-i.i) in
    let l = c.loop-i in
    let a = c.args in
    let room : l.v < 2 ^ 31 = omega (arith, room_for_a_bit a.s.now a.at l.i (omega arith)) in
    rw (c.from.ensures, last_bit) (bit_shifted_in l.v _ room bit ∙ omega (arith, field_next a.s.now a.at l.i))
