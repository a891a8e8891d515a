use Rattle.std.proofs.Common.{arith, ◌≡◌, sym}
use Rattle.lists.specs.Filled.{filled_none, filled_more}
use Rattle.lists.proofs.filled.Goals as goal

pub loop-i-init : goal.loop-i-init
loop-i-init g c = λ f h. sym (filled_none _ _ _)

pub loop-i-preserved : goal.loop-i-preserved
loop-i-preserved g c = λ f h. filled_more _ _ f _ (c.loop-i.invariant f h) (h _ _ c.loop-i-test.true c.make.ensures) (omega arith)

pub returns : goal.returns
returns g c = λ f h. let last : c.loop-i.i ≡ c.args.n = omega arith in rw last at (c.loop-i.invariant f h)
