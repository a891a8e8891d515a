-- A refusal's number is not 0. (That it says which refusal it is: demands/proofs/Told.) Assumes nothing.
use Rattle.std.specs.Prelude.{◌≡◌}
use native.Mathlib.Omega.{arith}
use Rattle.numbers.specs.declared.Refusal.{Refusal}
use Rattle.numbers.specs.declared.Refusal.TheVariants.{CutShort, WrongVersion, WrongCount, WrongDiagonal, WrongPartition, WrongExclusion, WrongChain, LeftOver, WrongPlan, TooLarge, NoSuchModule, FrameTooLarge, TooManySlots, BufferTooShort, WrongTable, WrongPosition, NoPlan, Stopped}
use Rattle.numbers.specs.Refusals.{number}

pub number_some : (r : Refusal) → number r ≡ 0 → ⊥
number_some CutShort e = absurd (omega arith)
number_some WrongVersion e = absurd (omega arith)
number_some WrongCount e = absurd (omega arith)
number_some WrongDiagonal e = absurd (omega arith)
number_some WrongPartition e = absurd (omega arith)
number_some WrongExclusion e = absurd (omega arith)
number_some WrongChain e = absurd (omega arith)
number_some LeftOver e = absurd (omega arith)
number_some WrongPlan e = absurd (omega arith)
number_some TooLarge e = absurd (omega arith)
number_some NoSuchModule e = absurd (omega arith)
number_some FrameTooLarge e = absurd (omega arith)
number_some TooManySlots e = absurd (omega arith)
number_some BufferTooShort e = absurd (omega arith)
number_some WrongTable e = absurd (omega arith)
number_some WrongPosition e = absurd (omega arith)
number_some NoPlan e = absurd (omega arith)
number_some Stopped e = absurd (omega arith)
