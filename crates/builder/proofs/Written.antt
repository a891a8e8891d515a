-- One turn of the loop that writes slots: the soonest execution is the next slot of the frame, and the rest follows from its end.
-- Assumes nothing.
use mathlib.Core.Path.{◌≡◌, ap, sym, ◌∙◌, subst}
use mathlib.Core.List.{List, [], ◌∷◌, ◌++◌}
use Prim.Native.Nat.{ℕ, suc, ◌+◌, ◌*◌, ◌-◌, ◌≤◌, ◌<◌}
use native.Mathlib.Decide.{dec_lt}
use native.Mathlib.Nat.{sub-zero}
use native.Mathlib.Numerals.{add-one}
use native.Mathlib.Omega.{arith}
use lib.ListN.{length, get_or, take, drop, length-append, length-drop}
use lib.Seq.{take-suc, drop-cons, length-take-le, take_all}
use Rattle.table.specs.declared.records.Slot.{Slot}
use Rattle.table.specs.declared.records.Table.{Table}
use Rattle.table.specs.Layout.{no_slot, head_size, slot_size, slot_bytes}
use Rattle.table.specs.Slots.{slot_at, end, Fit}
use Rattle.table.proofs.Bytes.{Small, part_bytes, part_length, slot_next}
use Rattle.sets.specs.Members.{places, member}
use Rattle.frames.specs.Frame.{Part, Module, slots_from, slots_of, frame}
use Rattle.frames.specs.Next.{soonest, beyond}
use Rattle.frames.proofs.Builder.{rest, Taken, one_more, no_more}
use Rattle.frames.proofs.Kept.{kept_all}
use Rattle.frames.proofs.Tables.{Short, module_fit}
use Rattle.builder.specs.Parts.{part_at, parts_of}
use Rattle.builder.specs.Asked.{Ready}

pub record Turn (ps : List Part) (M : Module ps) (n i : ℕ) (x : Slot) : Type 0 where
  pub before : take (i + 1) (slots_of ps) ≡ take i (slots_of ps) ++ (x ∷ [])
  pub after : rest ps M (end x) ≡ drop (i + 1) (slots_of ps)
  pub fits : end x ≤ frame ps
  pub small : Small x

module _ (ps : List Part) (M : Module ps) (fit : Fit (frame ps) (slots_of ps)) where
  taken : (n i : ℕ) (x : Slot) → i < length (slots_of ps) → rest ps M n ≡ drop i (slots_of ps) → Taken ps M n x → Turn ps M n i x
  taken n i x h e t =
      let w : x ∷ rest ps M (end x) ≡ slot_at (slots_of ps) i ∷ drop (suc i) (slots_of ps) = sym t.first ∙ e ∙ drop-cons (slots_of ps) i no_slot h in
      let same : x ≡ slot_at (slots_of ps) i = ap (λ (l : List Slot). get_or l 0 no_slot) w in
      record {
        before =
            ap (λ (k : ℕ). take k (slots_of ps)) (add-one i) ∙ take-suc (slots_of ps) i no_slot h
            ∙ ap (λ (y : Slot). take i (slots_of ps) ++ (y ∷ [])) (sym same);
        after = ap (λ (l : List Slot). drop 1 l) w ∙ ap (λ (k : ℕ). drop k (slots_of ps)) (sym (add-one i));
        fits = t.fits;
        small = subst Small (sym same) (fit.slots i h);
      }

  pub turn : (n i : ℕ) → i < length (slots_of ps) → n ≤ frame ps → rest ps M n ≡ drop i (slots_of ps)
      → Turn ps M n i (soonest n (beyond (frame ps)) ps)
  turn n i h l e = go (dec_lt (soonest n (beyond (frame ps)) ps).start (frame ps))
    where
      go : Dec ((soonest n (beyond (frame ps)) ps).start < frame ps) → Turn ps M n i (soonest n (beyond (frame ps)) ps)
      go (yes k) = taken n i (soonest n (beyond (frame ps)) ps) h e (one_more ps M n k)
      go (no k) =
          let u : frame ps ≤ (soonest n (beyond (frame ps)) ps).start = omega arith in
          let z : length (drop i (slots_of ps)) ≡ 0 = ap length (sym e ∙ no_more ps M n l u) in
          absurd (omega (arith, z, length-drop i (slots_of ps)))

-- what is left to write from tick n on
abbrev pub left_from : List Part → ℕ → List Slot
left_from ps n = slots_from ps n (frame ps - n)

-- at tick 0 all slots are
pub all_left : (ps : List Part) → left_from ps 0 ≡ slots_of ps
all_left ps = ap (slots_from ps 0) (sub-zero (frame ps))

-- the slots of a set that is ready fit a table
pub ready_fit : (T B ts : List ℕ) (x : ℕ) (t : Table) → Ready T B ts x t → Fit (frame (parts_of T B ts x)) (slots_of (parts_of T B ts x))
ready_fit T B ts x t r =
    let F = r.frame_is in
    let c = r.slots_are in
    module_fit (parts_of T B ts x) r.hosted.fine (kept_all (member x) (part_at T B ts) Short places (λ j l e. (r.timed j e).1))
    (omega (arith, r.small)) (omega (arith, r.few))

-- one turn, as the code has it: the slot found with the frame of the head
pub turned : (T B ts : List ℕ) (x : ℕ) (t : Table) (r : Ready T B ts x t) (n i : ℕ) (y : Slot) → i < t.slots → n ≤ t.frame
    → left_from (parts_of T B ts x) n ≡ drop i (slots_of (parts_of T B ts x)) → y ≡ soonest n (beyond t.frame) (parts_of T B ts x)
    → Turn (parts_of T B ts x) r.hosted n i y
turned T B ts x t r n i y h l e is =
    let ps = parts_of T B ts x in
    let F = r.frame_is in
    let c = r.slots_are in
    subst (Turn ps r.hosted n i) (sym (is ∙ ap (λ (f : ℕ). soonest n (beyond f) ps) F))
    (turn ps r.hosted (ready_fit T B ts x t r) n i (omega arith) (omega arith) e)

-- the buffer after i slots
abbrev pub written : List ℕ → List Slot → ℕ → List ℕ
written d xs i = part_bytes (take head_size d) (take i xs) ++ drop (head_size + slot_size * i) d

module _ (d : List ℕ) (xs : List Slot) (i : ℕ) (h : i ≤ length xs) (l : head_size + slot_size * i ≤ length d) where
  head_length : length (take head_size d) ≡ head_size
  head_length = length-take-le head_size d (omega arith)

  -- it is as long as it was
  pub written_length : {e : List ℕ} → e ≡ written d xs i → length e ≡ length d
  written_length w =
      ap length w
      ∙ length-append (part_bytes (take head_size d) (take i xs)) (drop (head_size + slot_size * i) d)
      ∙ omega (
        arith,
        part_length (take head_size d) (take i xs) head_length,
        length-take-le i xs h,
        length-drop (head_size + slot_size * i) d,
      )

  -- one slot more
  pub written_more : (x : Slot) (e : List ℕ) → e ≡ written d xs i → take (i + 1) xs ≡ take i xs ++ (x ∷ [])
      → take (head_size + slot_size * i) e ++ slot_bytes x ++ drop (head_size + slot_size * (i + 1)) e ≡ written d xs (i + 1)
  written_more x e w t =
      slot_next (take head_size d) i (take i xs) x d e head_length (length-take-le i xs h) w
      ∙ ap (λ (ys : List Slot). part_bytes (take head_size d) ys ++ drop (head_size + slot_size * (i + 1)) d) (sym t)

-- all of them
pub written_all : (d : List ℕ) (xs : List Slot) (i c : ℕ) → i ≡ c → c ≡ length xs
    → written d xs i ≡ part_bytes (take head_size d) xs ++ drop (head_size + slot_size * c) d
written_all d xs i c e n =
    ap (written d xs) e ∙ ap (λ (ys : List Slot). part_bytes (take head_size d) ys ++ drop (head_size + slot_size * c) d) (take_all c xs (omega arith))
