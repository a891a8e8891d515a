-- `euclid::lcm` meets its contract: the divisor is not 0, and the product of a part of a with b fits.
-- Assumes nothing.
use native.Mathlib.Omega.{arith}
use Rattle.euclid.proofs.Laws.{gcd_at_least_one}
use Rattle.euclid.proofs.lcm.Goals as goal

pub nonzero_div-result : goal.nonzero_div-result
nonzero_div-result c = omega (arith, c.gcd-g.ensures, gcd_at_least_one c.args.a c.args.b (omega arith))
