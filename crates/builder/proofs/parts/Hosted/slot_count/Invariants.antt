-- The count and that of the partitions left make the whole; each partition left has room for a frame.
use Rattle.std.proofs.Common.{◌≡◌, ℕ, ◌+◌, ◌*◌, ◌/◌, ◌≤◌, ◌^◌, List, map, length}
use Rattle.builder.specs.Parts.{part_at, parts_of}
use Rattle.frames.specs.Frame.{Part, total}
use Rattle.builder.proofs.parts.Hosted.slot_count.Given as goal

abbrev pub invariant-loop-i : goal.invariant-loop-i
invariant-loop-i l =
    ((B ts : List ℕ) → l.count + total (λ (p : Part). l.frame / p.period) (map (part_at l.self.times.now.periods B ts) l.i-iterator)
    ≡ total (λ (p : Part). l.frame / p.period) (parts_of l.self.times.now.periods B ts l.self.set))
    × (l.count + length l.i-iterator * 2 ^ 24 ≤ 64 * 2 ^ 24)
