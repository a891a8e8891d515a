-- `table::layout::write_head` meets its contract, by that of the field writer.
-- Assumes nothing.
use mathlib.Core.Path.{ap, ◌∙◌}
use mathlib.Core.List.{List}
use Prim.Native.Nat.{ℕ}
use native.Mathlib.Omega.{arith}
use Rattle.bits.specs.Field.{put_field}
use Rattle.table.proofs.Packed.{head_written}
use Rattle.table.proofs.layout.write_head.Goals as goal

pub returns : goal.returns
returns c = let d = c.args.d.now in
    let F = c.args.t.frame in
    let n = c.args.t.slots in
    head_written d F n
    (c.put-3.ensures ∙ ap (λ (s : List ℕ). put_field s 35 5 0) (c.put-2.ensures ∙ ap (λ (s : List ℕ). put_field s 24 11 n) c.put.ensures))
    (λ j. omega (arith, c.type_inv.d j)) c.requires.head_size_in_bounds c.requires.frame_le_most_frame.0 c.requires.frame_le_most_frame.1
