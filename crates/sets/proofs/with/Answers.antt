-- `sets::with` meets its contract: `|` with the bit of weight 2 ^ i.
-- Assumes nothing.
use mathlib.Core.Path.{ap, ◌∙◌}
use Prim.Native.Nat.{◌^◌}
use native.Mathlib.Nat.{one-mul}
use native.Mathlib.Omega.{arith}
use lib.Bits.{bit_or}
use lib.Dec.{lit<}
use lib.Pow.{shl_exact}
use Rattle.sets.proofs.Laws.{with_is_or}
use Rattle.sets.proofs.with.Goals as goal

pub returns : goal.returns
returns c = ap (bit_or c.args.x) (shl_exact {a = 1} 1 c.args.i 64 (lit< tt) (omega arith) ∙ one-mul (2 ^ c.args.i))
    ∙ with_is_or c.args.x c.args.i
