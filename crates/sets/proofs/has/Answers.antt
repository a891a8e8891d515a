-- `sets::has` meets its contract: the shift and the mask give digit i.
-- Assumes nothing.
use mathlib.Core.Path.{ap}
use Prim.Native.Nat.{ℕ, ◌/◌, ◌^◌}
use lib.Bits.{and_mask}
use lib.Dec.{eqb}
use Rattle.sets.specs.Members.{member}
use Rattle.sets.proofs.has.Goals as goal

pub returns : goal.returns
unfolding member
returns c = ap (λ (d : ℕ). eqb d 1) (and_mask (c.args.x / 2 ^ c.args.i) 1)
