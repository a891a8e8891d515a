-- The sets are those of the partitions passed.
use Rattle.std.proofs.Common.{refl}
use Rattle.judge.proofs.Hosting.{sets_none, sets_more}
use Rattle.judge.proofs.rooms.hosted.Goals as goal

pub loop-i-init : goal.loop-i-init
loop-i-init c = sets_none _

pub loop-i-preserved : goal.loop-i-preserved
loop-i-preserved c =
    sets_more _ c.loop-i.i _ c.with.result c.loop-i.invariant refl (c.requires.by_index _ c.loop-i-test.true) c.with.ensures
