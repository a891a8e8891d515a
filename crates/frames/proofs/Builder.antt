-- Building slot by slot gives the slots of the frame.
-- Assumes nothing.
use mathlib.Core.Path.{◌≡◌, refl, ap, sym, ◌∙◌, subst}
use mathlib.Core.Bool.{Bool, true, false, cond, true≢false}
use mathlib.Core.List.{List, [], ◌∷◌, ◌++◌}
use Prim.Native.Nat.{ℕ, zero, suc, ◌+◌, ◌-◌, ◌%◌, ◌≤◌, ◌<◌, ◌∣◌}
use native.Mathlib.Nat.{add-mod_right, mod-eq_of_lt, mod-le, le_dest, le_refl, zero-add, add-zero, suc-add, add-suc, sub-zero}
use native.Mathlib.Omega.{arith}
use lib.Dec.{ltb, eqb}
use borrow.Author.Tests.{ltb-true, ltb-false, eqb-true, eq-eqb}
use Rattle.overlap.proofs.Residues.{gap_below, gap_leads, gap_is}
use Rattle.table.specs.declared.records.Slot.{Slot}
use Rattle.table.specs.Slots.{end}
use Rattle.frames.specs.Frame.{Part, In, here, there, All, Pairs, Fine, Clear, Module, begins, execution, starting, slots_from, slots_of, frame}
use Rattle.frames.specs.Next.{next, closer, soonest, beyond, built_from, built}
use Rattle.frames.proofs.Parts.{look, not_lt, later, same, self_later, Alone, nobody, somebody, alone, ends_within}
use Rattle.frames.proofs.Lcm.{period_divides}

module _ (p : Part) (n : ℕ) (f : Fine p) where
  inside : (1 ≤ p.period) × (p.start < p.period)
  inside = omega (arith, f.runs, f.within)

  pub next_begins : begins p (next p n) ≡ true
  next_begins = eq-eqb _ _ (gap_leads p.period n p.start inside.0 ∙ mod-eq_of_lt inside.1)

  pub next_from : n ≤ next p n
  next_from = omega arith

  pub next_within : next p n < n + p.period
  next_within = omega (arith, gap_below p.period n p.start inside.0)

  pub next_least : (m : ℕ) → begins p m ≡ true → n ≤ m → next p n ≤ m
  next_least m b l =
      let d = le_dest l in
      let e : (n + d.0) % p.period ≡ p.start % p.period =
      ap (λ (k : ℕ). k % p.period) d.1 ∙ eqb-true _ _ b ∙ sym (mod-eq_of_lt inside.1)
      in
      let g = gap_is p.period n p.start d.0 inside.0 e in
      omega (arith, g, mod-le d.0 p.period, d.1)

  -- an execution that begins within a period from n is the next
  pub next_is : (m : ℕ) → begins p m ≡ true → n ≤ m → m < n + p.period → next p n ≡ m
  next_is m b l h =
      let a = next_least m b l in
      let c : m ≤ next p n = not_lt (λ (k : next p n < m). lt_no (self_later p (next p n) m next_begins b k) next_from h) in
      omega arith
    where
      lt_no : next p n + p.period ≤ m → n ≤ next p n → m < n + p.period → ⊥
      lt_no x y z = omega arith

-- after its own execution at m the next is a period later
pub next_own : (p : Part) (m : ℕ) → Fine p → begins p m ≡ true → next p (m + p.budget) ≡ m + p.period
next_own p m f b =
    let r = f.runs in
    let w = f.within in
    next_is p (m + p.budget) f (m + p.period)
    (ap (λ (k : ℕ). eqb k p.start) (add-mod_right m p.period) ∙ b)
    (omega arith)
    (omega arith)

-- and another's next stays the same, as far as it
pub next_other : (p : Part) (n e : ℕ) → Fine p → n ≤ e → e ≤ next p n → next p e ≡ next p n
next_other p n e f l h =
    let k = next_within p n f in
    next_is p e f (next p n) (next_begins p n f) h (omega arith)

-- what the walk over the partitions finds
pub data Found (n : ℕ) (best : Slot) (ps : List Part) (x : Slot) : Type 0 where
  kept : x ≡ best → ((q : Part) → In q ps → best.start ≤ next q n) → Found n best ps x
  chosen : (p : Part) → In p ps → x ≡ execution p (next p n) → next p n < best.start → ((q : Part) → In q ps → next p n ≤ next q n)
      → Found n best ps x

least_more : {p : Part} {ps : List Part} (n b : ℕ) → b ≤ next p n → ((q : Part) → In q ps → b ≤ next q n)
    → (q : Part) → In q (p ∷ ps) → b ≤ next q n
least_more n b h f q here = h
least_more n b h f q (there i) = f q i

pub found : (n : ℕ) (best : Slot) (ps : List Part) → Found n best ps (soonest n best ps)
unfolding soonest
found n best [] = kept refl (λ q i. elim i [ ])
found n best (p ∷ ps) = go (ltb (next p n) best.start) refl (found n (closer n best p) ps)
  where
    go : (b : Bool) → ltb (next p n) best.start ≡ b
        → Found n (closer n best p) ps (soonest n (closer n best p) ps) → Found n best (p ∷ ps) (soonest n (closer n best p) ps)
    go true e (kept s g) =
        let w = ap (λ (b : Bool). cond b (execution p (next p n)) best) e in
        let l : next p n < best.start = ltb-true _ _ e in
        chosen p here (s ∙ w) l
        (least_more n (next p n) (le_refl _) (λ q i. subst (λ (x : Slot). x.start ≤ next q n) w (g q i)))
    go true e (chosen q i s h g) =
        let w = ap (λ (b : Bool). cond b (execution p (next p n)) best) e in
        let l : next p n < best.start = ltb-true _ _ e in
        let k : next q n < next p n = subst (λ (x : Slot). next q n < x.start) w h in
        chosen q (there i) s (omega arith) (least_more n (next q n) (omega arith) g)
    go false e (kept s g) =
        let w = ap (λ (b : Bool). cond b (execution p (next p n)) best) e in
        let l : best.start ≤ next p n = ltb-false _ _ e in
        kept (s ∙ w) (least_more n best.start l (λ q i. subst (λ (x : Slot). x.start ≤ next q n) w (g q i)))
    go false e (chosen q i s h g) =
        let w = ap (λ (b : Bool). cond b (execution p (next p n)) best) e in
        let l : best.start ≤ next p n = ltb-false _ _ e in
        let k : next q n < best.start = subst (λ (x : Slot). next q n < x.start) w h in
        chosen q (there i) s k (least_more n (next q n) (omega arith) g)

module _ (ps : List Part) (fine : All Fine ps) (apart : Pairs Clear ps) where
  -- ticks at which nothing begins are passed over
  skip : (j n k : ℕ) → ((p : Part) (m : ℕ) → In p ps → n ≤ m → m < n + j → begins p m ≡ true → ⊥)
      → slots_from ps n (j + k) ≡ slots_from ps (n + j) k
  unfolding slots_from
  skip zero n k h = ap (slots_from ps n) (zero-add k) ∙ ap (λ (i : ℕ). slots_from ps i k) (sym (add-zero n))
  skip (suc j) n k h =
      ap (slots_from ps n) (suc-add j k) ∙ go (alone ps fine apart n)
      ∙ skip j (suc n) k (λ p m i l u b. h p m i (omega arith) (omega arith) b)
      ∙ ap (λ (i : ℕ). slots_from ps i k) (suc-add n j ∙ sym (add-suc n j))
    where
      go : Alone ps n → (starting ps n ++ slots_from ps (suc n) (j + k)) ≡ slots_from ps (suc n) (j + k)
      go (nobody f s) = ap (λ (r : List Slot). r ++ slots_from ps (suc n) (j + k)) s
      go (somebody p i b s) = absurd (h p n i (le_refl n) (omega arith) b)

  -- the same up to a tick e before F
  skip_to : (n e F : ℕ) → n ≤ e → e ≤ F → ((p : Part) (m : ℕ) → In p ps → n ≤ m → m < e → begins p m ≡ true → ⊥)
      → slots_from ps n (F - n) ≡ slots_from ps e (F - e)
  skip_to n e F l u h =
      let a : F - n ≡ (e - n) + (F - e) = omega arith in
      let b : n + (e - n) ≡ e = omega arith in
      ap (slots_from ps n) a
      ∙ skip (e - n) n (F - e) (λ p m i x y c. h p m i x (omega arith) c)
      ∙ ap (λ (i : ℕ). slots_from ps i (F - e)) b

  first : {p : Part} (m k : ℕ) → In p ps → begins p m ≡ true → slots_from ps m (suc k) ≡ execution p m ∷ slots_from ps (suc m) k
  unfolding slots_from
  first {p} m k i b = go (alone ps fine apart m)
    where
      go : Alone ps m → (starting ps m ++ slots_from ps (suc m) k) ≡ execution p m ∷ slots_from ps (suc m) k
      go (nobody f s) = absurd (true≢false (sym b ∙ f p i))
      go (somebody q j c s) =
          ap (λ (r : List Slot). r ++ slots_from ps (suc m) k) s
          ∙ ap (λ (x : Part). execution x m ∷ slots_from ps (suc m) k) (same fine apart m j i c b)

  -- an execution that begins at m: its slot, and on from its end
  take_one : {p : Part} (m F : ℕ) → In p ps → p.period ∣ F → begins p m ≡ true → m < F
      → slots_from ps m (F - m) ≡ execution p m ∷ slots_from ps (m + p.budget) (F - (m + p.budget))
  take_one {p} m F i d b l =
      let f = look Fine i fine in
      let r = f.runs in
      let a : F - m ≡ suc (F - suc m) = omega arith in
      let u : m + p.budget ≤ F = ends_within p m F f d b l in
      ap (slots_from ps m) a ∙ first m (F - suc m) i b
      ∙ ap (λ (r : List Slot). execution p m ∷ r)
      (skip_to (suc m) (m + p.budget) F (omega arith) u
      (λ q k j x y c. no k x y (later fine apart m k i j b c x)))
    where
      no : (k : ℕ) → suc m ≤ k → k < m + p.budget → m + p.budget ≤ k → ⊥
      no k x y z = omega arith

module _ (ps : List Part) (M : Module ps) where
  -- what is left to write from tick n on
  abbrev pub rest : ℕ → List Slot
  rest n = slots_from ps n (frame ps - n)

  pub record Taken (n : ℕ) (x : Slot) : Type 0 where
    pub first : rest n ≡ x ∷ rest (end x)
    pub after : n < end x
    pub fits : end x ≤ frame ps

  -- one turn of the builder: a slot is found, and the rest follows from its end
  pub one_more : (n : ℕ) → (soonest n (beyond (frame ps)) ps).start < frame ps → Taken n (soonest n (beyond (frame ps)) ps)
  one_more n l = go _ refl l (found n (beyond (frame ps)) ps)
    where
      go : (x : Slot) → soonest n (beyond (frame ps)) ps ≡ x → x.start < frame ps → Found n (beyond (frame ps)) ps x → Taken n x
      go x e l (kept s g) =
          let h : x.start ≡ frame ps = ap (λ (y : Slot). y.start) s in
          let z : ⊥ = omega arith in
          absurd z
      go x e l (chosen p i s h g) =
          let f = look Fine i M.fine in
          let b = next_begins p n f in
          subst (Taken n) (sym s)
          (record {
            first =
                skip_to ps M.fine M.apart n (next p n) (frame ps) (next_from p n f) (omega arith)
                (λ q m j x y c. no m y (g q j) (next_least q n (look Fine j M.fine) m c x))
                ∙ take_one ps M.fine M.apart (next p n) (frame ps) i (period_divides i) b h;
            after = omega (arith, f.runs);
            fits = ends_within p (next p n) (frame ps) f (period_divides i) b h;
          })
        where
          no : {a c : ℕ} (m : ℕ) → m < a → a ≤ c → c ≤ m → ⊥
          no m x y z = omega arith

  -- and the last turn: nothing is left
  pub no_more : (n : ℕ) → n ≤ frame ps → frame ps ≤ (soonest n (beyond (frame ps)) ps).start → rest n ≡ []
  unfolding slots_from
  no_more n l u = go _ u (found n (beyond (frame ps)) ps)
    where
      go : (x : Slot) → frame ps ≤ x.start → Found n (beyond (frame ps)) ps x → rest n ≡ []
      go x u (kept s g) =
          let a : frame ps - frame ps ≡ 0 = omega arith in
          skip_to ps M.fine M.apart n (frame ps) (frame ps) l (le_refl _)
          (λ q m j y z c. no m z (g q j) (next_least q n (look Fine j M.fine) m c y))
          ∙ ap (slots_from ps (frame ps)) a
        where
          no : {a c : ℕ} (m : ℕ) → m < a → a ≤ c → c ≤ m → ⊥
          no m x y z = omega arith
      go x u (chosen p i s h g) =
          let e : x.start ≡ next p n = ap (λ (y : Slot). y.start) s in
          let z : ⊥ = omega arith in
          absurd z

  pub built_from_is : (k n : ℕ) → n ≤ frame ps → frame ps ≤ n + k → built_from (frame ps) ps k n ≡ rest n
  unfolding built_from slots_from
  built_from_is zero n l u =
      let a : frame ps - n ≡ 0 = omega arith in
      sym (ap (slots_from ps n) a)
  built_from_is (suc k) n l u = go (ltb (soonest n (beyond (frame ps)) ps).start (frame ps)) refl (λ e h x. built_from_is k e h x)
    where
      go : (b : Bool) → ltb (soonest n (beyond (frame ps)) ps).start (frame ps) ≡ b
          → ((e : ℕ) → e ≤ frame ps → frame ps ≤ e + k → built_from (frame ps) ps k e ≡ rest e)
          → elim b [ true ↦ soonest n (beyond (frame ps)) ps ∷ built_from (frame ps) ps k (end (soonest n (beyond (frame ps)) ps)) | false ↦ [] ] ≡ rest n
      go true e rec =
          let t = one_more n (ltb-true _ _ e) in
          let a = t.after in
          ap (λ (r : List Slot). soonest n (beyond (frame ps)) ps ∷ r) (rec (end (soonest n (beyond (frame ps)) ps)) t.fits (omega arith))
          ∙ sym t.first
      go false e rec = sym (no_more n l (ltb-false _ _ e))

  -- slot by slot, the table of the definition
  pub built_is : built ps ≡ slots_of ps
  built_is = built_from_is (frame ps) 0 (omega arith) (omega arith) ∙ ap (slots_from ps 0) (sub-zero (frame ps))
