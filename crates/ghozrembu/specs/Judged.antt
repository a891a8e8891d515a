-- The judge on bytes. Document 01, "Numbers returned": "Judge: sheet, 18, C1 to C8."
-- Assumes nothing.
use Rattle.std.specs.Prelude.{List, ℕ}
use Rattle.model.specs.Columns.{periods_of, budgets_of}
use Rattle.model.specs.declared.records.Plan.{Plan}
use Rattle.model.specs.declared.records.Sheet.{Sheet}
use Rattle.layout.specs.Values.{sheet_of, delays_of}
use Rattle.reader.specs.Number.{sheet_number}
use Rattle.reader.specs.Plan.{plan_number, plan_of}
use Rattle.judge.specs.Verdict.{refused, or_next, verdict}
use Rattle.judge.specs.declared.Answer.{Answer}

-- how many partitions the sheet has
abbrev pub partitions_in : List ℕ → ℕ
partitions_in sheet = (sheet_of sheet).head.partitions

-- C1 to C8 on what the bytes hold
unfoldable pub verdict_of : (sheet plan : List ℕ) → Answer
verdict_of sheet plan =
    let s : Sheet = sheet_of sheet in
    let p : Plan = plan_of plan s.head.partitions in
    verdict s (delays_of sheet) (periods_of s) (budgets_of s) p.modules p.starts

unfoldable pub judged_bytes : (sheet plan : List ℕ) → Answer
judged_bytes sheet plan =
    or_next (refused (sheet_number sheet))
    (or_next (refused (plan_number plan (partitions_in sheet)))
    (verdict_of sheet plan))
