-- The place is that of chain i, and the chains before it are not refused.
use Rattle.std.proofs.Common.{◌≡◌, ℕ, ◌≤◌, ◌*◌, length}
use Rattle.numbers.proofs.Passed.{Passed}
use Rattle.layout.specs.Layout.{chain_at}
use Rattle.reader.specs.Number.{chain_number}
use Rattle.reader.proofs.order.check_tail.Given as goal

abbrev pub invariant-loop-i : goal.invariant-loop-i
invariant-loop-i l =
    let b = l.body.bytes.now in
    let h = l.body.head in
    record {
      place : l.at ≡ chain_at b h l.i;
      there : l.at ≤ 8 * length b;
      passed : Passed (λ (k : ℕ). chain_number b h.partitions (chain_at b h k)) h.chains l.i;
    }
