-- An answer's three numbers (document 01, "Numbers returned"): those of a broken constraint, of a failure and of a call's result.
-- Assumes nothing.
use Rattle.std.specs.Prelude.{Result, Ok, Err}
use Rattle.numbers.specs.Refusals.{number}
use Rattle.judge.specs.declared.Answer.{Answer}
use Rattle.judge.specs.declared.Broken.{Broken}
use Rattle.judge.specs.declared.Broken.TheVariants.{OffTheModules, Overlap, PastThePeriod, PastTheMemory, PastTheMost, SharedModule, SharedCabinet, PastTheLimit}
use Rattle.judge.specs.declared.Failure.{Failure}
use Rattle.judge.specs.declared.Failure.TheVariants as failures
use Rattle.judge.specs.Verdict.{accepted, refused}

-- a broken constraint, with its places in the order of `Places` (the second is 0 but for C2)
abbrev pub broken_as : Broken → Answer
broken_as (OffTheModules partition) = record { number = 1; first = partition; second = 0 }
broken_as (Overlap first second) = record { number = 2; first = first; second = second }
broken_as (PastThePeriod partition) = record { number = 3; first = partition; second = 0 }
broken_as (PastTheMemory m) = record { number = 4; first = m; second = 0 }
broken_as (PastTheMost m) = record { number = 5; first = m; second = 0 }
broken_as (SharedModule exclusion) = record { number = 6; first = exclusion; second = 0 }
broken_as (SharedCabinet exclusion) = record { number = 7; first = exclusion; second = 0 }
broken_as (PastTheLimit chain) = record { number = 8; first = chain; second = 0 }

-- an acceptance, or the constraint that is broken
abbrev pub verdict_of : {A : Type 0} → Result A Broken → Answer
verdict_of (Ok _) = accepted
verdict_of (Err broken) = broken_as broken

-- no verdict, for that reason, or a broken constraint
abbrev pub failed_as : Failure → Answer
failed_as (failures.Refused refusal) = refused (number refusal)
failed_as (failures.Broken broken) = broken_as broken

-- the answer of a call
abbrev pub answer_of : {A : Type 0} → Result A Failure → Answer
answer_of (Ok _) = accepted
answer_of (Err failure) = failed_as failure
