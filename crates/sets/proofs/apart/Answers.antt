-- `sets::apart` meets its contract: `&` has no digit that both have.
-- Assumes nothing.
use Rattle.sets.proofs.Laws.{none_shared}
use Rattle.sets.proofs.apart.Goals as goal

-- `sets::apart` meets its contract: `&` has no digit that both have.
-- Assumes nothing.
pub returns : goal.returns
returns c = none_shared c.args.x c.args.y c.ranges.x.fits c.ranges.y.fits
