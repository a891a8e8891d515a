-- The table of sheet A with starts 0 and 1, worked out: "F = 12, slots (0,1,0) (1,1,1) (4,1,0) (7,1,1) (8,1,0). Twelve steps answer
-- 0 1 64 64 0 64 64 1 0 64 64 64." Its bytes are stepped, as a dispatcher steps them.
-- Assumes nothing.
use mathlib.Core.Path.{◌≡◌, refl}
use mathlib.Core.List.{List, [], ◌∷◌}
use Rattle.bits.specs.Field.{field_of}
use Rattle.numbers.specs.First.{met, first_met}
use Rattle.euclid.specs.Euclid.{euclid}
use Rattle.overlap.specs.Overlap.{gap_of}
use Rattle.table.specs.declared.records.Slot.{Slot}
use Rattle.table.specs.Layout.{slots_bytes, table_bytes}
use Rattle.table.specs.Sound.{head_number, form_number, bound, slot_number, table_number}
use Rattle.table.specs.Step.{position_number, step_number, unless, stepped}
use Rattle.table.specs.Run.{reached, answers}
use Rattle.frames.specs.Frame.{Part, frame_from, frame, starting, slots_from, slots_of}
use Rattle.frames.specs.Next.{soonest, built_from, built}

abbrev parts : List Part
parts =
    record { name = 0; start = 0; period = 4; budget = 1 } ∷ record { name = 1; start = 1; period = 6; budget = 1 } ∷ []

abbrev slots : List Slot
slots =
    record { start = 0; length = 1; partition = 0 }
    ∷ record { start = 1; length = 1; partition = 1 }
    ∷ record { start = 4; length = 1; partition = 0 }
    ∷ record { start = 7; length = 1; partition = 1 }
    ∷ record { start = 8; length = 1; partition = 0 }
    ∷ []

pub frame_of_a : frame parts ≡ 12
unfolding frame_from euclid
frame_of_a = refl

pub slots_of_a : slots_of parts ≡ slots
unfolding frame_from euclid slots_from starting
slots_of_a = refl

-- slot by slot, as the builder finds them
pub built_a : built parts ≡ slots
unfolding frame_from euclid built_from soonest gap_of
built_a = refl

pub sound_a : table_number (table_bytes 12 slots) ≡ 0
unfolding slots_bytes table_number form_number head_number met first_met bound slot_number field_of
sound_a = refl

pub answers_of_a : answers (stepped (table_bytes 12 slots)) 0 12 ≡ 0 ∷ 1 ∷ 64 ∷ 64 ∷ 0 ∷ 64 ∷ 64 ∷ 1 ∷ 0 ∷ 64 ∷ 64 ∷ 64 ∷ []
unfolding answers reached stepped step_number unless position_number form_number head_number met slots_bytes field_of
answers_of_a = refl
