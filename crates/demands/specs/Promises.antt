-- What the calls on bytes promise, in words that a planner can hold against document 01. Each is a statement; proofs/ shows that it holds
-- for every input. Assumes nothing.
use Rattle.std.specs.Prelude.{◌≡◌, List, ℕ}
use Rattle.model.specs.Columns.{periods_of, budgets_of}
use Rattle.model.specs.declared.records.Plan.{Plan}
use Rattle.layout.specs.Values.{sheet_of, delays_of}
use Rattle.reader.specs.Number.{sheet_number}
use Rattle.reader.specs.Plan.{plan_number, plan_of}
use Rattle.judge.specs.Verdict.{Accepted}
use Rattle.judge.specs.Meaning.{FirstBroken}
use Rattle.judge.specs.declared.Answer.{Answer}
use Rattle.ghozrembu.specs.Judged.{partitions_in}

-- the plan that a plan's bytes hold for a sheet's
abbrev pub plan_in : (sheet plan : List ℕ) → Plan
plan_in sheet plan = plan_of plan (partitions_in sheet)

-- the sheet and the plan can be read: none of 10 to 18 is met
pub record Readable (sheet plan : List ℕ) : Type 0 where
  pub sheet_stands : sheet_number sheet ≡ 0
  pub plan_stands : plan_number plan (partitions_in sheet) ≡ 0

-- C1 to C8 hold of a plan with these modules and starts, C2 over all ticks, however far on
abbrev pub Holds : (sheet : List ℕ) → Plan → Type 0
Holds sheet p = Accepted (sheet_of sheet) (delays_of sheet) (periods_of (sheet_of sheet)) (budgets_of (sheet_of sheet)) p.modules p.starts

-- the answer names the first broken constraint at its first place
abbrev pub NamesFirst : (sheet : List ℕ) → Plan → Answer → Type 0
NamesFirst sheet p a =
    FirstBroken (sheet_of sheet) (delays_of sheet) (periods_of (sheet_of sheet)) (budgets_of (sheet_of sheet)) p.modules p.starts a
