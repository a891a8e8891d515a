-- `bits::put` meets its contract. The loop's invariant: what is left to write gives the whole.
-- Assumes nothing.
use mathlib.Core.Path.{◌≡◌}
use Prim.Native.Nat.{◌-◌, ◌+◌}
use lib.ListN.{length}
use Rattle.bits.specs.Field.{put_field}
use Rattle.bits.proofs.put.Given as goal

abbrev pub invariant-loop-i : goal.invariant-loop-i
invariant-loop-i l = (length l.d ≡ length l.initial.d) × (put_field l.d (l.at + l.i) (l.n - l.i) l.v ≡ put_field l.initial.d l.at l.n l.v)
