-- What is summed and the hops left make the chain's delay, and each hop is below 2 ^ 34.
use mathlib.Core.Path.{◌≡◌}
use Prim.Native.Nat.{◌+◌, ◌*◌, ◌^◌, ◌≤◌}
use Rattle.judge.specs.Constraints.{chain_delay}
use Rattle.judge.proofs.Hops.{hops_to}
use Rattle.judge.proofs.chains.delay_over.Given as goal

abbrev pub invariant-loop-j : goal.invariant-loop-j
invariant-loop-j l =
    (l.total ≤ l.j * 2 ^ 34)
    × (l.total + hops_to l.times.periods l.times.budgets l.delays l.modules l.chain.members l.length l.j ≡ chain_delay l.times.periods l.times.budgets l.delays l.modules l.chain.members l.length)
