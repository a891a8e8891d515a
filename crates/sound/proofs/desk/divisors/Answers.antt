use Rattle.std.proofs.Common.{rules}
use Rattle.euclid.specs.Euclid.{gcd_of}
use Rattle.judge.specs.Constraints.{at}
use Rattle.sound.proofs.desk.divisors.Goals as goal

pub returns : goal.returns
returns c = c.filled.ensures (λ j. gcd_of (at c.args.periods.now c.args.i) (at c.args.periods.now j)) (λ j r h p. search rules)
