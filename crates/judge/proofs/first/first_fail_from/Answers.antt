use Rattle.std.proofs.Common.{◌∙◌, sym}
use Rattle.judge.proofs.Places.{fails_hit, fails_pass, fails_end, found_some, found_none}
use Rattle.judge.proofs.first.first_fail_from.Goals as goal

pub loop-i-preserved : goal.loop-i-preserved
loop-i-preserved g c = λ p h. let says = h _ _ c.loop-i.auto.i c.loop-i-test.true c.keeps.ensures in
    fails_pass p _ _ c.loop-i-test.true (sym says ∙ c.if-not-keeps.false) (c.loop-i.invariant p h)

pub returns-then-not-keeps-clause-value : goal.returns-then-not-keeps-clause-value
returns-then-not-keeps-clause-value g c = λ p h. let says = h _ _ c.loop-i.auto.i c.loop-i-test.true c.keeps.ensures in
    found_some _ c.loop-i-test.true
    (fails_hit p _ _ c.loop-i-test.true (sym says ∙ c.if-not-keeps.true) (c.loop-i.invariant p h))

pub returns-clause-value : goal.returns-clause-value
returns-clause-value g c = λ p h. found_none _ c.loop-i-test.false (fails_end p _ _ c.loop-i-test.false (c.loop-i.invariant p h))
