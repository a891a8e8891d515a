-- `sets::without_lowest` meets its contract: x & (x - 1) takes the lowest member away.
-- Assumes nothing.
use Rattle.sets.proofs.Laws.{and_is_without_lowest}
use Rattle.sets.proofs.without_lowest.Goals as goal

pub returns : goal.returns
returns c = and_is_without_lowest c.args.x c.requires c.ranges.x.fits
