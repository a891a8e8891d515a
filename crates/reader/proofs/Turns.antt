-- What the loops over chains rest on: where each chain stands, and what a turn passes or fills.
-- Assumes nothing.
use Rattle.numbers.specs.First.{first_start, first_hit, first_pass, first_end}
use Rattle.numbers.proofs.Refused.{number_some}
use Rattle.lists.specs.Filled.{filled_none, filled_more}
use Rattle.layout.proofs.Rooms.{chain_low}
use Rattle.layout.proofs.Standing.{chain_first, chain_next, chain_there}
use Rattle.reader.proofs.Fits.{chain_lead_fits, chain_fits}

pub ruleset passing = (first_start, first_hit, first_pass, first_end, number_some, chain_low, chain_first, chain_next, chain_lead_fits, chain_fits)

pub ruleset filling = (filled_none, filled_more, chain_low, chain_first, chain_next, chain_there)
