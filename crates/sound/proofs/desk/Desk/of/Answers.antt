use Rattle.sound.proofs.Exact.{some_period}
use Rattle.sound.proofs.desk.Desk.of.Goals as goal

pub divisors_of-requires : goal.divisors_of-requires
divisors_of-requires c = let f = c.requires.fair in (f.head.inside.partitions, λ i l. rw c.of-times.ensures.periods (some_period _ _ f i l))
