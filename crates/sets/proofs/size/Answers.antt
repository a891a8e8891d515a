-- `sets::size` meets its contract: the ones are the members.
-- Assumes nothing.
use Rattle.sets.proofs.Laws.{ones_are_size}
use Rattle.sets.proofs.size.Goals as goal

-- `sets::size` meets its contract: the ones are the members.
-- Assumes nothing.
pub returns : goal.returns
returns c = ones_are_size c.args.x c.ranges.x.fits
