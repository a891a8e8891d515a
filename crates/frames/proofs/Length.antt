-- How many slots a frame has.
-- Assumes nothing.
use mathlib.Core.Path.{◌≡◌, refl, ap, sym, ◌∙◌}
use mathlib.Core.Bool.{Bool, true, false, cond, ◌&&◌}
use mathlib.Core.List.{List, [], ◌∷◌, ◌++◌}
use Prim.Native.Nat.{ℕ, zero, suc, ◌+◌, ◌*◌, ◌/◌, ◌≤◌, ◌<◌}
use native.Mathlib.Nat.{add-mod_right, mod-eq_of_lt, mul-one, div-mul_cancel, zero-add, not-suc-le-zero, le_of_suc-le-suc}
use native.Mathlib.Omega.{arith}
use lib.Dec.{leb, ltb, eqb}
use lib.ListN.{length, length-append}
use borrow.Author.Tests.{le-leb, lt-ltb, le-ltb, leb-true, eqb-true, eqb-false}
use Rattle.table.specs.Count.{one, count, Periodic}
use Rattle.table.specs.declared.records.Slot.{Slot}
use Rattle.table.specs.Slots.{slot_at}
use Rattle.frames.specs.Frame.{Part, In, here, there, All, Fine, begins, execution, starting, slots_from, slots_of, frame, total, slot_count}
use Rattle.table.proofs.Counting.{count_band, windows}
use Rattle.frames.proofs.Parts.{look}
use Rattle.frames.proofs.Lcm.{period_divides}

pub total_same : (g h : Part → ℕ) (ps : List Part) → ((p : Part) → In p ps → g p ≡ h p) → total g ps ≡ total h ps
unfolding total
total_same g h [] e = refl
total_same g h (p ∷ ps) e =
    let r = total_same g h ps (λ q i. e q (there i)) in
    omega (arith, r, e p here)

total_add : (g h : Part → ℕ) (ps : List Part) → total g ps + total h ps ≡ total (λ p. g p + h p) ps
unfolding total
total_add g h [] = refl
total_add g h (p ∷ ps) = omega (arith, total_add g h ps)

total_zero : (ps : List Part) → total (λ p. 0) ps ≡ 0
unfolding total
total_zero [] = refl
total_zero (p ∷ ps) = omega (arith, total_zero ps)

starting_length : (ps : List Part) (n : ℕ) → length (starting ps n) ≡ total (λ p. one (begins p n)) ps
unfolding starting total
starting_length [] n = refl
starting_length (p ∷ ps) n = go (begins p n) (starting_length ps n)
  where
    go : (b : Bool) → length (starting ps n) ≡ total (λ p. one (begins p n)) ps
        → length (cond b (execution p n ∷ starting ps n) (starting ps n)) ≡ one b + total (λ p. one (begins p n)) ps
    go true h = omega arith
    go false h = omega arith

from_length : (ps : List Part) (k n : ℕ) → length (slots_from ps n k) ≡ total (λ p. count (begins p) n k) ps
unfolding slots_from count
from_length ps zero n = sym (total_zero ps)
from_length ps (suc k) n =
    length-append (starting ps n) (slots_from ps (suc n) k)
    ∙ omega (arith, starting_length ps n, from_length ps k (suc n), total_add (λ p. one (begins p n)) (λ p. count (begins p) (suc n) k) ps)

-- within the period an execution begins at the start alone
begins_band : (s i : ℕ) → eqb i s ≡ (leb s i && ltb i (s + 1))
begins_band s i = go (eqb i s) refl
  where
    low : (b : Bool) → leb s i ≡ b → (i ≡ s → ⊥) → (b && ltb i (s + 1)) ≡ false
    low true e n = let l : s ≤ i = leb-true _ _ e in le-ltb i (s + 1) (omega arith)
    low false e n = refl

    go : (b : Bool) → eqb i s ≡ b → b ≡ (leb s i && ltb i (s + 1))
    go true e =
        let h : i ≡ s = eqb-true _ _ e in
        sym (ap (λ (t : Bool). t && ltb i (s + 1)) (le-leb s i (omega arith)) ∙ lt-ltb i (s + 1) (omega arith))
    go false e = sym (low (leb s i) refl (eqb-false _ _ e))

begins_once : (p : Part) → Fine p → count (begins p) 0 p.period ≡ 1
begins_once p f =
    count_band (begins p) p.period p.start 1 (omega (arith, f.within, f.runs))
    (λ i l. ap (λ (k : ℕ). eqb k p.start) (mod-eq_of_lt l) ∙ begins_band p.start i)

begins_round : (p : Part) → Periodic p.period (begins p)
begins_round p n = ap (λ (k : ℕ). eqb k p.start) (add-mod_right n p.period)

-- the slots are as many as the frame has periods, over all partitions
pub slots_length : (ps : List Part) → All Fine ps → length (slots_of ps) ≡ slot_count ps
slots_length ps f =
    from_length ps (frame ps) 0
    ∙ total_same (λ p. count (begins p) 0 (frame ps)) (λ p. frame ps / p.period) ps
    (λ p i.
    sym (ap (count (begins p) 0) (div-mul_cancel p.period (period_divides i)))
    ∙ windows (begins p) p.period (begins_round p) 0 (frame ps / p.period)
    ∙ ap (λ (k : ℕ). frame ps / p.period * k) (begins_once p (look Fine i f))
    ∙ mul-one (frame ps / p.period))

-- whatever holds of the slot of each execution that begins before the frame's end holds of every slot
abbrev AllSlots : (Slot → Type 0) → List Slot → Type 0
AllSlots P [] = Unit {0}
AllSlots P (x ∷ xs) = P x × AllSlots P xs

all_append : (P : Slot → Type 0) (xs ys : List Slot) → AllSlots P xs → AllSlots P ys → AllSlots P (xs ++ ys)
all_append P [] ys a b = b
all_append P (x ∷ xs) ys a b = (a.0, all_append P xs ys a.1 b)

all_starting : (P : Slot → Type 0) (ps : List Part) (n : ℕ) → ((p : Part) → In p ps → begins p n ≡ true → P (execution p n))
    → AllSlots P (starting ps n)
unfolding starting
all_starting P [] n h = tt
all_starting P (p ∷ ps) n h = go (begins p n) refl (all_starting P ps n (λ q i b. h q (there i) b))
  where
    go : (b : Bool) → begins p n ≡ b → AllSlots P (starting ps n) → AllSlots P (cond b (execution p n ∷ starting ps n) (starting ps n))
    go true e r = (h p here e, r)
    go false e r = r

all_from : (P : Slot → Type 0) (ps : List Part) (F k n : ℕ) → n + k ≡ F
    → ((p : Part) (m : ℕ) → In p ps → m < F → begins p m ≡ true → P (execution p m)) → AllSlots P (slots_from ps n k)
unfolding slots_from
all_from P ps F zero n e h = tt
all_from P ps F (suc k) n e h =
    all_append P (starting ps n) (slots_from ps (suc n) k)
    (all_starting P ps n (λ p i b. h p n i (omega arith) b))
    (all_from P ps F k (suc n) (omega arith) h)

all_at : (P : Slot → Type 0) (xs : List Slot) → AllSlots P xs → (i : ℕ) → i < length xs → P (slot_at xs i)
all_at P [] a i h = absurd (not-suc-le-zero h)
all_at P (x ∷ xs) a zero h = a.0
all_at P (x ∷ xs) a (suc i) h = all_at P xs a.1 i (le_of_suc-le-suc h)

pub slots_are : (P : Slot → Type 0) (ps : List Part)
    → ((p : Part) (m : ℕ) → In p ps → m < frame ps → begins p m ≡ true → P (execution p m))
    → (i : ℕ) → i < length (slots_of ps) → P (slot_at (slots_of ps) i)
slots_are P ps h i l = all_at P (slots_of ps) (all_from P ps (frame ps) (frame ps) 0 (zero-add (frame ps)) h) i l
