-- `search::run::run` meets its contract: a refusal, and the three ways in which a search ends. Each law is a pair: of the result and of the
-- buffer. Assumes nothing.
use mathlib.Core.Path.{refl}
use lib.Dec.{lit≤}
use borrow.Author.Rules.{rules}
use Rattle.search.proofs.Answers.{refused, searching, finds, halts, lacks}
use Rattle.search.proofs.Gives.{begins, ends}
use Rattle.search.proofs.run.run.Goals as goal

pub returns-in_err-check : goal.returns-in_err-check
returns-in_err-check c =
    let h = refused _ _ c.args.budget c.args.buffer.now _ c.in_err-check.ensures in
    record { value = search (rules, h.0); buffer_after = h.1 }

pub of-requires : goal.of-requires
of-requires c = record { fair = (searching _ _ c.args.budget c.args.buffer.now c.in_ok-check.ensures).0 }

pub over-requires : goal.over-requires
over-requires c = rw (c.of.ensures, c.requires) (begins _ _ (searching _ _ c.args.budget c.args.buffer.now c.in_ok-check.ensures).0 _ (lit≤ tt))

pub write_plan-requires : goal.write_plan-requires
write_plan-requires c =
    let h = searching _ _ c.args.budget c.args.buffer.now c.in_ok-check.ensures in
    (h.0.head.inside.partitions, h.1)

pub returns-in-Break-Found : goal.returns-in-Break-Found
returns-in-Break-Found c =
    let fair = (searching _ _ c.args.budget c.args.buffer.now c.in_ok-check.ensures).0 in
    let ran = ends _ _ fair _ _ _ (lit≤ tt) (lit≤ tt) _ (rw (c.of.ensures, c.requires, c.in-Break-Found.field-0-is) at c.in-Break-Found.ensures) in
    let h = finds _ _ _ _ c.in_ok-check.ensures _ ran refl fair.head.inside.partitions _ c.write_plan.ensures in
    record { value = h.0; buffer_after = h.1 }

pub returns-in-Break-Stopped : goal.returns-in-Break-Stopped
returns-in-Break-Stopped c =
    let fair = (searching _ _ c.args.budget c.args.buffer.now c.in_ok-check.ensures).0 in
    let ran = ends _ _ fair _ _ _ (lit≤ tt) (lit≤ tt) _ (rw (c.of.ensures, c.requires, c.in-Break-Stopped.field-0-is) at c.in-Break-Stopped.ensures) in
    let h = halts _ _ _ _ c.in_ok-check.ensures _ ran refl refl in
    record { value = h.0; buffer_after = h.1 }

pub returns-in-Continue : goal.returns-in-Continue
returns-in-Continue c =
    let fair = (searching _ _ c.args.budget c.args.buffer.now c.in_ok-check.ensures).0 in
    let ran = ends _ _ fair _ _ _ (lit≤ tt) (lit≤ tt) _ (rw (c.of.ensures, c.requires) at c.in-Continue.ensures) in
    let h = lacks _ _ _ _ c.in_ok-check.ensures _ ran refl refl in
    record { value = h.0; buffer_after = h.1 }
