use Rattle.std.proofs.Common.{◌∙◌, sym}
use Rattle.judge.proofs.Stages.{pair_pass, pair_hit, pair_none}
use Rattle.judge.proofs.pairs.check_pairs.Goals as goal

pub loop-i-preserved : goal.loop-i-preserved
loop-i-preserved c =
    pair_pass _ _ c.loop-i.i c.loop-i-test.true (sym c.in_default.is ∙ c.partner.ensures) c.loop-i.invariant

pub returns-in-Some : goal.returns-in-Some
returns-in-Some c = pair_hit _ _ 2 c.loop-i.i c.loop-i-test.true (sym c.in-Some.is ∙ c.partner.ensures) c.loop-i.invariant

pub returns : goal.returns
returns c = pair_none _ _ 2 c.loop-i.i c.loop-i-test.false c.loop-i.invariant
