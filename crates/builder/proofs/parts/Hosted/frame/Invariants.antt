-- f and the periods left make the frame of all.
use Rattle.std.proofs.Common.{◌≡◌, ℕ, ◌≤◌, List, map}
use Rattle.builder.specs.Parts.{part_at, parts_of}
use Rattle.frames.specs.Frame.{All, frame_from, frame}
use Rattle.frames.proofs.Lcm.{Positive}
use Rattle.builder.proofs.parts.Hosted.frame.Given as goal

abbrev pub invariant-loop-i : goal.invariant-loop-i
invariant-loop-i l =
    (1 ≤ l.f)
    × ((B ts : List ℕ) → All Positive (map (part_at l.self.times.now.periods B ts) l.i-iterator)
    × (frame_from l.f (map (part_at l.self.times.now.periods B ts) l.i-iterator) ≡ frame (parts_of l.self.times.now.periods B ts l.self.set)))
