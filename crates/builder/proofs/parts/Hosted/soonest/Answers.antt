use Rattle.std.proofs.Common.{arith, ◌∙◌}
use Rattle.sets.proofs.Walks.{turn_in}
use Rattle.judge.specs.Constraints.{at}
use Rattle.overlap.proofs.Residues.{gap_below}
use Rattle.builder.proofs.parts.Hosted.soonest.Goals as goal

pub gap-requires : goal.gap-requires
gap-requires c =
    let i = turn_in _ _ _ _ _ _ (c.into_iter-i-iterator.ensures.into_iter_gives ∙ c.members-i-items.ensures) c.loop-i.yielded_by c.in-Some.ensures.steps in
    (c.args.self.now.timed _ i.1).0

pub overflow_add-start : goal.overflow_add-start
overflow_add-start c =
    let i = turn_in _ _ _ _ _ _ (c.into_iter-i-iterator.ensures.into_iter_gives ∙ c.members-i-items.ensures) c.loop-i.yielded_by c.in-Some.ensures.steps in
    let time = c.args.self.now.timed _ i.1 in
    omega (arith, c.gap.ensures, gap_below (at c.args.self.now.times.now.periods c.in-Some.i) c.args.n (at c.args.self.now.plan.now.starts c.in-Some.i) time.0, time)
