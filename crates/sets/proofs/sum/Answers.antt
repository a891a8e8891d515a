use Rattle.std.proofs.Common.{arith, get_or, ◌^◌}
use Rattle.sets.proofs.Laws.{sum_over_at_most}
use Rattle.sets.proofs.Walks.{sum_turn}
use Rattle.sets.proofs.sum.Goals as goal

pub overflow_add-total : goal.overflow_add-total
overflow_add-total c =
    omega (
      arith,
      c.loop-i.invariant,
      c.from-total.ensures,
      sum_turn (λ i. get_or c.args.a.now i 0) c.in-Some.ensures.steps,
      sum_over_at_most (λ i. get_or c.args.a.now i 0) c.args.x (2 ^ 32) (λ i l. omega (arith, c.fits-a i)),
    )
