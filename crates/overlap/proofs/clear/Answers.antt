-- `overlap::clear` meets its contract: d is below g, so g - d is a number, and c <= g - d asks what d + c <= g asks.
-- Assumes nothing.
use mathlib.Core.Path.{sym, ◌∙◌}
use borrow.Author.Tests.{lt-leb}
use native.Mathlib.Omega.{arith}
use Rattle.overlap.proofs.Residues.{gap_at_most}
use Rattle.overlap.proofs.Answers.{second_decides, no_by_first}
use Rattle.overlap.proofs.clear.Goals as goal

pub overflow_sub-result : goal.overflow_sub-result
overflow_sub-result c = omega (arith, gap_at_most _ _ _ _ c.requires c.gap-d.ensures)

pub returns-then-b-d : goal.returns-then-b-d
returns-then-b-d c = let a = c.args in
    second_decides a.g a.t a.b a.u a.c c.requires c.gap-d.ensures (omega arith)

pub returns-else-b-d : goal.returns-else-b-d
returns-else-b-d c = let a = c.args in
    let e = c.gap-d.ensures in
    lt-leb _ _ (omega arith) ∙ sym (no_by_first a.g a.t a.b a.u a.c (omega arith))
