-- The slots of a module are a sound table, and the slot that holds a tick is that of the execution that covers it.
-- Assumes nothing.
use mathlib.Core.Path.{◌≡◌, refl, ap, sym, ◌∙◌, subst}
use mathlib.Core.Bool.{Bool, true, false, cond, true≢false}
use mathlib.Core.List.{List, [], ◌∷◌, ◌++◌}
use mathlib.Core.Logic.{◌⊎◌, inl, inr}
use Prim.Native.Nat.{ℕ, zero, suc, ◌+◌, ◌%◌, ◌≤◌, ◌<◌, ◌∣◌}
use native.Mathlib.Nat.{eq-or-lt_of_le, le_refl, mod-lt}
use native.Mathlib.Omega.{arith}
use lib.Dec.{leb}
use borrow.Author.Tests.{le-leb, lt-leb, leb-true, leb-false}
use Rattle.table.specs.declared.records.Slot.{Slot}
use Rattle.table.specs.Layout.{idle}
use Rattle.table.specs.Slots.{Sound, moved}
use Rattle.table.specs.Run.{answer}
use Rattle.frames.specs.Frame.{Part, In, All, Pairs, Fine, Clear, Module, CoversAt, begins, starting, slots_from, slots_of, frame}
use Rattle.table.proofs.Chain.{SoundFrom, unchain}
use Rattle.table.specs.Slots.{holding}
use Rattle.table.proofs.Walk.{answer_is}
use Rattle.frames.proofs.Lcm.{Positive, period_divides, frame_pos}
use Rattle.frames.proofs.Parts.{look, later, same, Alone, nobody, somebody, alone, ends_within, covers_of, covers_frame, frame_covers, begun_of}

pub positive : (ps : List Part) → All Fine ps → All Positive ps
positive [] f = tt
positive (p ∷ ps) f = (omega (arith, f.0.runs, f.0.within), positive ps f.1)

abbrev slots_after : List Part → ℕ → ℕ → List Slot → List Slot
slots_after ps n k r = r ++ slots_from ps (suc n) k

-- executions that begin at n or later begin at e or later
abbrev Free : List Part → ℕ → ℕ → Type 0
Free ps n e = (p : Part) (m : ℕ) → In p ps → n ≤ m → begins p m ≡ true → e ≤ m

module _ (ps : List Part) (fine : All Fine ps) (apart : Pairs Clear ps) where
  sound_from : (F k n e : ℕ) → ((p : Part) → In p ps → p.period ∣ F) → n + k ≡ F → e ≤ F → Free ps n e → SoundFrom F e (slots_from ps n k)
  unfolding slots_from
  sound_from F zero n e d z l free = l
  sound_from F (suc k) n e d z l free =
      go (alone ps fine apart n)
      (λ (e : ℕ) (l : e ≤ F) (g : Free ps (suc n) e). sound_from F k (suc n) e d (omega arith) l g)
    where
      go : Alone ps n → ((e : ℕ) → e ≤ F → Free ps (suc n) e → SoundFrom F e (slots_from ps (suc n) k))
          → SoundFrom F e (slots_after ps n k (starting ps n))
      go (nobody f s) rec =
          subst (λ (r : List Slot). SoundFrom F e (slots_after ps n k r)) (sym s)
          (rec e l (λ p m i h b. free p m i (omega arith) b))
      go (somebody p i b s) rec =
          subst (λ (r : List Slot). SoundFrom F e (slots_after ps n k r)) (sym s) (
            free p n i (le_refl n) b,
            (look Fine i fine).runs,
            rec (n + p.budget) (ends_within p n F (look Fine i fine) (d p i) b (omega arith))
                (λ q m j h c. later fine apart n m i j b c h),
          )

  -- the slot that holds tick t, where an execution of p covers it
  hold_yes : {p : Part} (m t : ℕ) → In p ps → begins p m ≡ true → m ≤ t → t < m + p.budget → (k n : ℕ) → n ≤ m → m < n + k
      → holding (slots_from ps n k) t ≡ p.name
  unfolding slots_from holding
  hold_yes m t i b l h zero n x y = let z : ⊥ = omega arith in absurd z
  hold_yes {p} m t i b l h (suc k) n x y =
      go (alone ps fine apart n) (eq-or-lt_of_le x) (λ (x : suc n ≤ m). hold_yes m t i b l h k (suc n) x (omega arith))
    where
      go : Alone ps n → (n ≡ m) ⊎ (n < m) → (suc n ≤ m → holding (slots_from ps (suc n) k) t ≡ p.name)
          → holding (slots_after ps n k (starting ps n)) t ≡ p.name
      go (nobody f s) (inl e) rec = absurd (true≢false (sym b ∙ ap (begins p) (sym e) ∙ f p i))
      go (nobody f s) (inr g) rec =
          subst (λ (r : List Slot). holding (slots_after ps n k r) t ≡ p.name) (sym s) (rec g)
      go (somebody q j c s) (inl e) rec =
          let w : p ≡ q = same fine apart n i j (ap (begins p) e ∙ b) c in
          let u = ap (λ (x : Part). x.budget) w in
          subst (λ (r : List Slot). holding (slots_after ps n k r) t ≡ p.name) (sym s)
          (ap (λ (t' : Bool). cond t' (holding (slots_from ps (suc n) k) t) (cond (leb n t) q.name idle)) (lt-leb (n + q.budget) t (omega arith))
          ∙ ap (λ (t' : Bool). cond t' q.name idle) (le-leb n t (omega arith))
          ∙ sym (ap (λ (x : Part). x.name) w))
      go (somebody q j c s) (inr g) rec =
          let u = later fine apart n m j i c b g in
          subst (λ (r : List Slot). holding (slots_after ps n k r) t ≡ p.name) (sym s)
          (ap (λ (t' : Bool). cond t' (holding (slots_from ps (suc n) k) t) (cond (leb n t) q.name idle)) (le-leb (n + q.budget) t (omega arith))
          ∙ rec g)

  -- and where none covers it
  hold_no : (t : ℕ) → ((p : Part) → In p ps → CoversAt p t → ⊥) → (k n : ℕ) → holding (slots_from ps n k) t ≡ idle
  unfolding slots_from holding
  hold_no t none zero n = refl
  hold_no t none (suc k) n = go (alone ps fine apart n) (hold_no t none k (suc n))
    where
      last : {q : Part} → In q ps → begins q n ≡ true → (b : Bool) → leb n t ≡ b → t < n + q.budget → cond b q.name idle ≡ idle
      last {q} j c true e l = absurd (none q j (covers_of q n t c (leb-true _ _ e) l))
      last j c false e l = refl

      held : {q : Part} → In q ps → begins q n ≡ true → (b : Bool) → leb (n + q.budget) t ≡ b → holding (slots_from ps (suc n) k) t ≡ idle
          → cond b (holding (slots_from ps (suc n) k) t) (cond (leb n t) q.name idle) ≡ idle
      held j c true e r = r
      held j c false e r = last j c (leb n t) refl (leb-false _ _ e)

      go : Alone ps n → holding (slots_from ps (suc n) k) t ≡ idle → holding (slots_after ps n k (starting ps n)) t ≡ idle
      go (nobody f s) rec = subst (λ (r : List Slot). holding (slots_after ps n k r) t ≡ idle) (sym s) rec
      go (somebody q j c s) rec =
          subst (λ (r : List Slot). holding (slots_after ps n k r) t ≡ idle) (sym s) (held j c (leb (n + q.budget) t) refl rec)

module _ (ps : List Part) (M : Module ps) where
  pub frame_least_one : 1 ≤ frame ps
  frame_least_one = frame_pos ps (positive ps M.fine)

  -- (1) the slots of a module are a sound table of its frame
  pub slots_sound : Sound (frame ps) (slots_of ps)
  slots_sound =
      unchain (frame ps) (slots_of ps) frame_least_one
      (sound_from ps M.fine M.apart (frame ps) (frame ps) 0 0 (λ p i. period_divides i) (omega arith) (omega arith) (λ p m i h b. omega arith))

  -- (2) the answer at every tick is the partition that covers it
  pub names : (n : ℕ) {p : Part} → In p ps → CoversAt p n → answer (moved (frame ps) (slots_of ps)) n ≡ p.name
  names n {p} i c =
      let F = frame ps in
      let f = look Fine i M.fine in
      let b = begun_of p (n % F) f (covers_frame p F n f (period_divides i) c) in
      let l : n % F < F = mod-lt n frame_least_one in
      answer_is F (slots_of ps) slots_sound n
      ∙ hold_yes ps M.fine M.apart b.from (n % F) i b.begun b.low b.high F 0 (omega arith) (omega (arith, b.low))

  -- and 64 where none covers it
  pub idles : (n : ℕ) → ((p : Part) → In p ps → CoversAt p n → ⊥) → answer (moved (frame ps) (slots_of ps)) n ≡ idle
  idles n none =
      let F = frame ps in
      answer_is F (slots_of ps) slots_sound n
      ∙ hold_no ps M.fine M.apart (n % F) (λ p i c. none p i (frame_covers p F n (look Fine i M.fine) (period_divides i) c)) F 0
