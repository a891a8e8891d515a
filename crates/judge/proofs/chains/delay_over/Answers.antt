use Rattle.std.proofs.Common.{◌+◌, arith, ap, ◌∙◌}
use Rattle.judge.specs.Constraints.{chain_delay}
use Rattle.judge.proofs.Hops.{hops_start, hops_turn, hops_end}
use Rattle.judge.proofs.chains.delay_over.Goals as goal

pub loop-j-init : goal.loop-j-init
loop-j-init c = (omega arith, hops_start _ _ _ _ _ _)

pub loop-j-preserved : goal.loop-j-preserved
loop-j-preserved c = let l = c.loop-j in (
  omega arith,
  hops_turn _ _ _ _ _ _ l.j l.total (c.from.result + c.from-in-loop-j.result + c.from-in-loop-j-2.result) l.auto.j
      c.loop-j-test.true (rw (c.from.ensures, c.from-in-loop-j.ensures, c.from-in-loop-j-2.ensures, c.from-i.ensures, c.from-k.ensures)) l.invariant.1,
)

pub returns : goal.returns
returns c =
    let a = c.args in
    hops_end _ _ _ _ _ _ c.loop-j.j c.loop-j.total c.loop-j-test.false c.loop-j.invariant.1
    ∙ ap (chain_delay a.times.now.periods a.times.now.budgets a.delays.now a.modules.now a.chain.now.members) c.from-length.ensures
