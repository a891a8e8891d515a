-- A sheet's number, then a start's, stops it. Where the sheet's number is 0 the sheet is fair, which is what the constraints ask.
use Rattle.std.proofs.Common.{rules, sym}
use Rattle.model.proofs.Fairness.{number_fair}
use Rattle.judge.specs.Verdict.{judged}
use Rattle.judge.proofs.Stages.{or_refused, or_fine, or_failed}
use Rattle.judge.proofs.Parts.{ready, verdict_by}
use Rattle.judge.proofs.judge.Goals as goal

pub returns-in_err-check_sheet : goal.returns-in_err-check_sheet
unfolding judged
returns-in_err-check_sheet c = search (rules, or_refused c.in_err-check_sheet.field-0.0)

pub check_starts-requires : goal.check_starts-requires
check_starts-requires c = (number_fair _ _ (sym c.in_ok-check_sheet.ensures)).head.inside.partitions

pub returns-in_err-check_starts : goal.returns-in_err-check_starts
unfolding judged
returns-in_err-check_starts c = search (rules, or_fine, or_refused c.in_err-check_starts.field-0.0)

pub of-requires : goal.of-requires
of-requires c = (number_fair _ _ (sym c.in_ok-check_sheet.ensures)).head.inside.partitions

pub constraints-requires : goal.constraints-requires
constraints-requires c = ready _ _ (number_fair _ _ (sym c.in_ok-check_sheet.ensures)) c.of.ensures.periods

pub returns-in_err-constraints : goal.returns-in_err-constraints
unfolding judged
returns-in_err-constraints c = search (rules, or_fine, verdict_by, or_failed c.in_err-constraints.field-0.0)

pub returns : goal.returns
unfolding judged
returns c = search (rules, or_fine, verdict_by)
