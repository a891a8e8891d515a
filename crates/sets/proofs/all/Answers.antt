use Rattle.std.proofs.Common.{rules, ◌∙◌}
use Rattle.sets.specs.Members.{every}
use Rattle.sets.proofs.Walks.{turn_in}
use Rattle.sets.proofs.all.Goals as goal

pub keeps-requires : goal.keeps-requires
keeps-requires g c =
    let i = turn_in _ _ _ _ _ _ (c.into_iter-i-iterator.ensures.into_iter_gives ∙ c.members-i-items.ensures) c.loop-i.yielded_by c.in-Some.ensures.steps in
    c.requires _ i.0 i.1

pub returns-then-not-keeps : goal.returns-then-not-keeps
unfolding every
returns-then-not-keeps g c = λ f h.
    let i = turn_in _ _ _ _ _ _ (c.into_iter-i-iterator.ensures.into_iter_gives ∙ c.members-i-items.ensures) c.loop-i.yielded_by c.in-Some.ensures.steps in
    let is = h _ _ i.0 i.1 c.keeps.ensures in
    let left = c.loop-i.invariant f h in
    search rules

pub loop-i-preserved : goal.loop-i-preserved
unfolding every
loop-i-preserved g c = λ f h.
    let i = turn_in _ _ _ _ _ _ (c.into_iter-i-iterator.ensures.into_iter_gives ∙ c.members-i-items.ensures) c.loop-i.yielded_by c.in-Some.ensures.steps in
    let is = h _ _ i.0 i.1 c.keeps.ensures in
    let left = c.loop-i.invariant f h in
    search rules
