-- `sets::lowest` meets its contract: the trailing zeros, at most 64, are the lowest member.
-- Assumes nothing.
use Rattle.sets.proofs.Laws.{trailing_zeros_lowest}
use Rattle.sets.proofs.lowest.Goals as goal

pub returns : goal.returns
returns c = trailing_zeros_lowest c.args.x c.ranges.x.fits
