-- Demand 3 of the bytes of a module's table.
-- Assumes nothing.
use mathlib.Core.Path.{◌≡◌, ap, ◌∙◌}
use mathlib.Core.Bool.{true}
use mathlib.Core.List.{List}
use Prim.Native.Nat.{ℕ, ◌^◌, ◌*◌, ◌/◌, ◌≤◌, ◌<◌}
use native.Mathlib.Omega.{arith}
use lib.Dec.{eqb}
use lib.ListN.{length}
use Rattle.table.specs.declared.records.Slot.{Slot}
use Rattle.table.specs.declared.records.Position.{Position}
use Rattle.table.specs.Moved.{Moved}
use Rattle.table.specs.Layout.{most_frame, most_slots, table_of, slots_in, table_bytes}
use Rattle.table.specs.Slots.{Fit, moved}
use Rattle.table.specs.Sound.{SoundTable}
use Rattle.table.specs.Step.{stepped}
use Rattle.table.specs.Count.{up}
use Rattle.table.specs.Run.{answer, times}
use Rattle.table.proofs.Counting.{count_same}
use Rattle.table.proofs.Running.{taken_same, runs}
use Rattle.table.proofs.Bytes.{Small, frame_back, slots_back, sound_bytes}
use Rattle.frames.specs.Frame.{Part, In, All, Fine, Module, begins, execution, slots_of, frame}
use Rattle.frames.specs.Demand.{Demand}
use Rattle.frames.proofs.Parts.{look}
use Rattle.frames.proofs.Slots.{slots_sound, names, idles}
use Rattle.frames.proofs.Length.{slots_are}
use Rattle.frames.proofs.Answers.{only_one, named_exactly, named_at_least, named_at_most}

-- the period of a sheet has 16 bits
abbrev pub Short : Part → Type 0
Short p = p.period < 2 ^ 16

-- a module's slots fit a table, where its frame and their count do
pub module_fit : (ps : List Part) → All Fine ps → All Short ps → frame ps ≤ most_frame → length (slots_of ps) ≤ most_slots → Fit (frame ps) (slots_of ps)
module_fit ps fine short hF hc = record { frame = hF; count = hc; slots = slots_are Small ps small }
  where
    small : (p : Part) (m : ℕ) → In p ps → m < frame ps → begins p m ≡ true → Small (execution p m)
    small p m i h b =
        let f = look Fine i fine in
        let w : p.period < 2 ^ 16 = look Short i short in
        let l : m ≤ most_frame = omega arith in
        let k : p.budget < 2 ^ 16 = omega (arith, f.within) in
        (l, k, f.named)

module _ (ps : List Part) (M : Module ps) (fit : Fit (frame ps) (slots_of ps)) where
  abbrev b : List ℕ
  b = table_bytes (frame ps) (slots_of ps)

  -- the bytes of a module's slots are a sound table
  pub table_sound : SoundTable b
  table_sound = sound_bytes (frame ps) (slots_of ps) fit (slots_sound ps M)

  -- and a run of them is the run of the slots
  same_step : moved (table_of b).frame (slots_in b) ≡ moved (frame ps) (slots_of ps)
  same_step =
      ap (λ (F : ℕ). moved F (slots_in b)) (frame_back (frame ps) (slots_of ps) fit)
      ∙ ap (λ (xs : List Slot). moved (frame ps) xs) (slots_back (frame ps) (slots_of ps) fit)

  pub same_answer : (n : ℕ) → answer (stepped b) n ≡ answer (moved (frame ps) (slots_of ps)) n
  same_answer n =
      ap (λ (m : Moved). m.partition) (taken_same b table_sound n)
      ∙ ap (λ (go : Position → Moved). answer go n) same_step

  same_times : (name a L : ℕ) → times (stepped b) name a L ≡ times (moved (frame ps) (slots_of ps)) name a L
  same_times name a L =
      count_same _ (λ n. eqb (answer (moved (frame ps) (slots_of ps)) n) name) a L (λ n _ _. ap (λ (k : ℕ). eqb k name) (same_answer n))

  least : {p : Part} → In p ps → (a L : ℕ) → p.budget * (L / p.period) ≤ times (stepped b) p.name a L
  least {p} i a L = omega (arith, named_at_least ps M i a L, same_times p.name a L)

  most : {p : Part} → In p ps → (a L : ℕ) → times (stepped b) p.name a L ≤ p.budget * up L p.period
  most {p} i a L = omega (arith, named_at_most ps M i a L, same_times p.name a L)

  pub demand : Demand ps b
  demand =
      record {
        sound = table_sound;
        never_refused = λ n. (runs b table_sound n).number;
        valid = λ n. (runs b table_sound n).valid;
        named = λ n i c. same_answer n ∙ names ps M n i c;
        idles = λ n none. same_answer n ∙ idles ps M n none;
        only = λ n i j c d. only_one ps M n i j c d;
        exactly = λ i a. same_times _ a _ ∙ named_exactly ps M i a;
        at_least = λ i a L. least i a L;
        at_most = λ i a L. most i a L;
      }
