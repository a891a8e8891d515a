-- The place is that of chain i, and the chains before it are filled.
use Rattle.std.proofs.Common.{◌≡◌}
use Rattle.layout.specs.Layout.{chain_at}
use Rattle.layout.specs.Values.{chains_by}
use Rattle.reader.proofs.decode.WholeSheet.records.Given as goal

abbrev pub invariant-loop-i : goal.invariant-loop-i
invariant-loop-i l =
    let b = l.self.body.bytes.now in
    let h = l.self.body.head in
    record { place : l.at ≡ chain_at b h l.i; filled : l.chains ≡ chains_by b h l.i }
