-- The first pair from here on is the first of all.
use mathlib.Core.Path.{◌≡◌}
use Rattle.judge.specs.Constraints.{c2}
use Rattle.judge.proofs.Stages.{pair, pair_from}
use Rattle.judge.proofs.pairs.check_pairs.Given as goal

abbrev pub invariant-loop-i : goal.invariant-loop-i
invariant-loop-i l =
    let f = c2 l.times.periods l.times.budgets l.plan.modules l.plan.starts in pair_from f l.n l.i ≡ pair f l.n
