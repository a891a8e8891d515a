use Rattle.std.proofs.Common.{arith, ◌∙◌}
use Rattle.sets.proofs.Walks.{turn_in}
use Rattle.builder.proofs.parts.Hosted.slot_count.Goals as goal

pub nonzero_div-count : goal.nonzero_div-count
nonzero_div-count c =
    let i = turn_in _ _ _ _ _ _ (c.into_iter-i-iterator.ensures.into_iter_gives ∙ c.members-i-items.ensures) c.loop-i.yielded_by c.in-Some.ensures.steps in
    let some = c.args.self.now.timed _ i.1 in
    omega (arith, some.0, c.from.ensures)
