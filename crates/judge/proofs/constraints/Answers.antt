-- C1 to C8 in order, each stopping where it is broken. Where C1 is kept, every module and partition that the later ones look up is there.
use Rattle.std.proofs.Common.{rules}
use Rattle.judge.specs.Verdict.{verdict}
use Rattle.judge.proofs.Hosting.{memory_by_sets, most_by_sets}
use Rattle.judge.proofs.Stages.{or_broken, or_kept}
use Rattle.judge.proofs.Parts.{all_on, both_placed_holds, chain_placed}
use Rattle.judge.proofs.constraints.Goals as goal

pub hosted-sets-requires-clause-by_index : goal.hosted-sets-requires-clause-by_index
hosted-sets-requires-clause-by_index c = all_on _ _ c.requires.fair _ c.in_ok-check_modules.ensures

pub check_module_exclusions-requires-clause-by_index : goal.check_module_exclusions-requires-clause-by_index
check_module_exclusions-requires-clause-by_index c = both_placed_holds _ _ c.requires.fair _ c.in_ok-check_modules.ensures

pub check_cabinet_exclusions-requires-clause-by_index : goal.check_cabinet_exclusions-requires-clause-by_index
check_cabinet_exclusions-requires-clause-by_index c = both_placed_holds _ _ c.requires.fair _ c.in_ok-check_modules.ensures

pub check_chains-requires-clause-by_index : goal.check_chains-requires-clause-by_index
check_chains-requires-clause-by_index c = chain_placed _ _ c.requires.fair _ c.in_ok-check_modules.ensures

pub returns-in_err-check_modules : goal.returns-in_err-check_modules
unfolding verdict
returns-in_err-check_modules c = search (rules, or_broken c.in_err-check_modules.field-0.0)

pub returns-in_err-check_pairs : goal.returns-in_err-check_pairs
unfolding verdict
returns-in_err-check_pairs c = search (rules, or_kept, or_broken c.in_err-check_pairs.field-0.0)

pub returns-in_err-check_periods : goal.returns-in_err-check_periods
unfolding verdict
returns-in_err-check_periods c = search (rules, or_kept, or_broken c.in_err-check_periods.field-0.0)

pub returns-in_err-check_memories : goal.returns-in_err-check_memories
unfolding verdict
returns-in_err-check_memories c = search (rules, or_kept, memory_by_sets, or_broken c.in_err-check_memories.field-0.0)

pub returns-in_err-check_most : goal.returns-in_err-check_most
unfolding verdict
returns-in_err-check_most c = search (rules, or_kept, memory_by_sets, most_by_sets, or_broken c.in_err-check_most.field-0.0)

pub returns-in_err-check_module_exclusions : goal.returns-in_err-check_module_exclusions
unfolding verdict
returns-in_err-check_module_exclusions c = search (rules, or_kept, memory_by_sets, most_by_sets, or_broken c.in_err-check_module_exclusions.field-0.0)

pub returns-in_err-check_cabinet_exclusions : goal.returns-in_err-check_cabinet_exclusions
unfolding verdict
returns-in_err-check_cabinet_exclusions c = search (rules, or_kept, memory_by_sets, most_by_sets, or_broken c.in_err-check_cabinet_exclusions.field-0.0)
