use mathlib.Core.Path.{sym}
use Rattle.model.proofs.Fairness.{number_fair}
use Rattle.search.proofs.run.check.Goals as goal

pub length_of-requires : goal.length_of-requires
length_of-requires c = (number_fair _ _ (sym c.in_ok-check_sheet.ensures)).head.inside.partitions
