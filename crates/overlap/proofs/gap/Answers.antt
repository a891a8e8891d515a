-- `overlap::gap` meets its contract: one remainder, taken forward or back.
-- Assumes nothing.
use native.Mathlib.Omega.{arith}
use Rattle.overlap.proofs.Residues.{gap_forward, gap_none, gap_back}
use Rattle.overlap.proofs.gap.Goals as goal

pub returns-then-t-u : goal.returns-then-t-u
returns-then-t-u c = let a = c.args in gap_forward a.g a.t a.u c.requires (omega arith)

pub returns-then-x-eq0 : goal.returns-then-x-eq0
returns-then-x-eq0 c = let a = c.args in gap_none a.g a.t a.u c.requires (omega arith) c.if-x-eq0.true

pub returns-else-x-eq0 : goal.returns-else-x-eq0
returns-else-x-eq0 c = let a = c.args in gap_back a.g a.t a.u c.requires (omega arith) c.if-x-eq0.false
