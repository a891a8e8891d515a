-- The greatest common divisor of two periods is at least 1 and no larger than a period.
use Rattle.std.proofs.Common.{arith}
use Rattle.euclid.proofs.Laws.{gcd_at_least_one, gcd_at_most_left}
use Rattle.judge.proofs.pairs.kept_clear.Goals as goal

pub overflow_cast-g : goal.overflow_cast-g
overflow_cast-g c = omega (arith, gcd_at_most_left c.from.result c.from-then-plan-i.result (omega arith))

pub clear-requires : goal.clear-requires
clear-requires c = omega (arith, gcd_at_least_one c.from.result c.from-then-plan-i.result (omega arith))
