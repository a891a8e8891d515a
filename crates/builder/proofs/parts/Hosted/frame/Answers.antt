use Rattle.std.proofs.Common.{rules, ◌∙◌, ◌≡◌, arith, map, ◌∷◌}
use Rattle.sets.proofs.Walks.{turn_in}
use Rattle.euclid.proofs.Laws.{lcm_pos}
use Rattle.frames.specs.Frame.{All, frame_from, frame}
use Rattle.frames.proofs.Lcm.{Positive}
use Rattle.builder.specs.Parts.{part_at, parts_of}
use Rattle.builder.proofs.parts.Hosted.frame.Goals as goal

pub loop-i-preserved : goal.loop-i-preserved
unfolding frame_from
loop-i-preserved c =
    let T = c.args.self.now.times.now.periods in
    let l = c.loop-i in
    let j = c.in-Some.i in
    let i = turn_in _ _ _ _ _ _ (c.into_iter-i-iterator.ensures.into_iter_gives ∙ c.members-i-items.ensures) l.yielded_by c.in-Some.ensures.steps in
    let some = (c.args.self.now.timed _ i.1).0 in (
      omega (arith, c.lcm-f.ensures, lcm_pos l.f c.from-in-loop-i.result l.invariant.0 (omega (arith, some, c.from-in-loop-i.ensures))),
      λ B ts.
          let part = part_at T B ts in
          let left : All Positive (map part (j ∷ c.next.new.self)) × (frame_from l.f (map part (j ∷ c.next.new.self)) ≡ frame (parts_of T B ts c.args.self.now.set)) = rw c.in-Some.ensures.steps at (l.invariant.1 B ts) in
          (left.0.1, search rules),
    )
