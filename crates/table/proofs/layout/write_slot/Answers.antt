-- `table::layout::write_slot` meets its contract, by that of the field writer.
-- Assumes nothing.
use mathlib.Core.Path.{◌≡◌, ap, ◌∙◌}
use mathlib.Core.List.{List, ◌++◌}
use Prim.Native.Nat.{ℕ, ◌+◌, ◌*◌}
use native.Mathlib.Omega.{arith}
use lib.ListN.{take, drop}
use Rattle.bits.specs.Field.{put_field}
use Rattle.table.specs.Layout.{slot_bytes}
use Rattle.table.proofs.Packed.{slot_written}
use Rattle.table.proofs.layout.write_slot.Goals as goal

pub returns : goal.returns
returns c = let d = c.args.d.now in
    let x = c.args.x in
    let i = c.args.i in
    let k = 5 + 6 * i in
    let at : c.slot_bit-at.result ≡ 8 * k = omega (arith, c.slot_bit-at.ensures) in
    let on : k + 6 ≡ 5 + 6 * (i + 1) = omega arith in
    slot_written d k x
    (c.put-4.ensures
    ∙ ap (λ (s : List ℕ). put_field s (c.slot_bit-at.result + 46) 2 0)
    (c.put-3.ensures
    ∙ ap (λ (p : ℕ). put_field c.put-2.new.d (c.slot_bit-at.result + 40) 6 p) c.from.ensures
    ∙ ap (λ (s : List ℕ). put_field s (c.slot_bit-at.result + 40) 6 x.partition)
    (c.put-2.ensures ∙ ap (λ (s : List ℕ). put_field s (c.slot_bit-at.result + 24) 16 x.length) c.put.ensures))
    ∙ ap (λ (a : ℕ). put_field (put_field (put_field (put_field d a 24 x.start) (a + 24) 16 x.length) (a + 40) 6 x.partition) (a + 46) 2 0) at)
    (λ j. omega (arith, c.type_inv.d j)) (omega (arith, c.requires.i_lt_most_slots.1))
    c.requires.start_le_most_frame.0 c.requires.start_le_most_frame.1 c.requires.start_le_most_frame.2
    ∙ ap (λ (m : ℕ). take k d ++ slot_bytes x ++ drop m d) on
