use Rattle.std.proofs.Common.{arith, ◌≡◌, refl, sym, ◌∙◌}
use Rattle.sets.specs.Members.{sum_below}
use Rattle.sets.proofs.Laws.{set_joins, set_stays}
use Rattle.sound.proofs.set_of.set_of.Goals as goal
use Rattle.sound.proofs.set_of.set_of.Goals.{then-keeps, else-keeps}

pub loop-i-init : goal.loop-i-init
unfolding sum_below
loop-i-init g c = λ f h. refl

pub loop-i-preserved : goal.loop-i-preserved
loop-i-preserved g c = λ f h.
    let l = c.loop-i in
    let is = sym (h _ _ c.loop-i-test.true c.keeps.ensures) in
    elim c.if-keeps.branch [
      | then-keeps w ↦ w.set-is ∙ set_joins f l.i (l.invariant f h) (is ∙ w.if-keeps.true) w.with-set.ensures
      | else-keeps w ↦ w.set-is ∙ set_stays f l.i (l.invariant f h) (is ∙ w.if-keeps.false)
    ]

pub returns : goal.returns
returns g c = λ f h. let last : c.loop-i.i ≡ c.args.n = omega arith in rw last at (c.loop-i.invariant f h)
