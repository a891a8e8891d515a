-- The memories are cited by what they are and not by the call that gives them, so that an edit of that call meets the goal.
use Rattle.std.proofs.Common.{rules, ap, ◌∙◌}
use Rattle.judge.specs.Places.{first_fail}
use Rattle.judge.specs.Hosted.{memory_kept}
use Rattle.judge.specs.Verdict.{broken_at}
use Rattle.judge.proofs.rooms.check_memories.Goals as goal

pub returns : goal.returns
returns c =
    let s = c.args.s.now in
    c.check_memories_of.ensures
    ∙ ap (λ ms. broken_at 4 (first_fail (memory_kept s.modules ms c.args.sets.now) s.head.modules) s.head.modules) (search rules)
