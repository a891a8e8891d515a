-- `bits::put` meets its contract. The loop's invariant: what is left to write gives the whole.
-- Assumes nothing.
use mathlib.Core.Path.{◌≡◌, ap, sym, ◌∙◌}
use Prim.Native.Nat.{ℕ, ◌-◌, ◌+◌, ◌/◌, ◌%◌}
use native.Mathlib.Omega.{arith}
use lib.ListN.{length-set, set, get_or}
use Rattle.bits.specs.Field.{put_field, put_bit, with_bit}
use Rattle.bits.proofs.Turns.{put_next}
use Rattle.bits.proofs.Masks.{last_bit}
use Rattle.bits.proofs.put.Goals as goal

pub loop-i-preserved : goal.loop-i-preserved
unfolding put_bit
loop-i-preserved c = let a = c.args in
    let q = (a.at + c.loop-i.i) / 8 in (
      length-set c.loop-i.d q c.with_bit.result ∙ c.loop-i.invariant.0,
      ap (λ (w : ℕ). put_field (set c.loop-i.d q w) (a.at + (c.loop-i.i + 1)) (a.n - (c.loop-i.i + 1)) a.v)
          (c.with_bit.ensures ∙ ap (with_bit (get_or c.loop-i.d q 0) (7 - (a.at + c.loop-i.i) % 8)) (last_bit _))
          ∙ sym (put_next c.loop-i.d a.at a.n a.v c.loop-i.i (omega arith)) ∙ c.loop-i.invariant.1,
    )

pub returns : goal.returns
unfolding put_field
returns c = let a = c.args in
    let z : a.n - c.loop-i.i ≡ 0 = omega arith in
    sym (ap (λ (j : ℕ). put_field c.loop-i.d (a.at + c.loop-i.i) j a.v) z) ∙ c.loop-i.invariant.1
