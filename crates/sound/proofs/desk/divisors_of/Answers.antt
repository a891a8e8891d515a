use Rattle.std.proofs.Common.{arith, ◌≡◌, sym}
use Rattle.std.specs.Prelude.{replicate}
use Rattle.model.specs.Limits.{most_partitions}
use Rattle.lists.specs.Filled.{filled_none, filled_more}
use Rattle.sound.specs.Desk.{divisors_with, divisors_of}
use Rattle.sound.proofs.desk.divisors_of.Goals as goal

pub loop-i-init : goal.loop-i-init
loop-i-init c = sym (filled_none _ _ _)

pub loop-i-preserved : goal.loop-i-preserved
loop-i-preserved c =
    filled_more most_partitions c.loop-i.i (divisors_with c.args.periods.now) (replicate most_partitions 0) c.loop-i.invariant c.divisors.ensures
    (omega (arith, c.loop-i-test.true, c.requires.0))

pub returns : goal.returns
unfolding divisors_of
returns c = let last : c.loop-i.i ≡ c.args.n = omega arith in rw last at c.loop-i.invariant
