-- The best so far and the partitions left give the soonest of all.
use Rattle.std.proofs.Common.{◌≡◌, map}
use Rattle.builder.specs.Parts.{part_at, parts_of}
use Rattle.frames.specs.Next.{soonest, beyond}
use Rattle.builder.proofs.parts.Hosted.soonest.Given as goal

abbrev pub invariant-loop-i : goal.invariant-loop-i
invariant-loop-i l =
    soonest l.n l.best (map (part_at l.self.times.now.periods l.self.times.now.budgets l.self.plan.now.starts) l.i-iterator)
    ≡ soonest l.n (beyond l.frame) (parts_of l.self.times.now.periods l.self.times.now.budgets l.self.plan.now.starts l.self.set)
