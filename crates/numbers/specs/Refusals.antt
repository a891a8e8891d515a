-- The number of each refusal, and that of an answer: 0 where it was given, else the refusal's. Assumes nothing.
use Rattle.std.specs.Prelude.{ℕ, Result, Ok, Err}
use Rattle.numbers.specs.declared.Refusal.{Refusal}
use Rattle.numbers.specs.declared.Refusal.TheVariants.{CutShort, WrongVersion, WrongCount, WrongDiagonal, WrongPartition, WrongExclusion, WrongChain, LeftOver, WrongPlan, TooLarge, NoSuchModule, FrameTooLarge, TooManySlots, BufferTooShort, WrongTable, WrongPosition, NoPlan, Stopped}
use Rattle.numbers.specs.Numbers.{fine, cut_short, wrong_version, wrong_count, wrong_diagonal, wrong_partition, wrong_exclusion, wrong_chain, left_over, wrong_plan, too_large, no_such_module, frame_too_large, too_many_slots, buffer_too_short, wrong_table, wrong_position, no_plan, stopped}

abbrev pub number : Refusal → ℕ
number CutShort = cut_short
number WrongVersion = wrong_version
number WrongCount = wrong_count
number WrongDiagonal = wrong_diagonal
number WrongPartition = wrong_partition
number WrongExclusion = wrong_exclusion
number WrongChain = wrong_chain
number LeftOver = left_over
number WrongPlan = wrong_plan
number TooLarge = too_large
number NoSuchModule = no_such_module
number FrameTooLarge = frame_too_large
number TooManySlots = too_many_slots
number BufferTooShort = buffer_too_short
number WrongTable = wrong_table
number WrongPosition = wrong_position
number NoPlan = no_plan
number Stopped = stopped

abbrev pub number_of : {A : Type 0} → Result A Refusal → ℕ
number_of (Ok _) = fine
number_of (Err refusal) = number refusal
