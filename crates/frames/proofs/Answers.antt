-- What every tick is answered, and how often each partition is named.
-- Assumes nothing.
use mathlib.Core.Path.{◌≡◌, refl, ap, sym, ◌∙◌, subst}
use mathlib.Core.Bool.{Bool, true, false, ◌&&◌, false≢true}
use mathlib.Core.List.{List, [], ◌∷◌}
use mathlib.Core.Logic.{◌⊎◌, inl, inr}
use Prim.Native.Nat.{ℕ, ◌+◌, ◌*◌, ◌/◌, ◌%◌, ◌≤◌}
use native.Mathlib.Nat.{add-mod_right, mod-eq_of_lt}
use native.Mathlib.Omega.{arith}
use lib.Dec.{leb, ltb, eqb}
use borrow.Author.Tests.{le-leb, lt-ltb, leb-true, ltb-true, eq-eqb, ne_eqb}
use Rattle.table.specs.Count.{count, Periodic, up}
use Rattle.table.specs.Layout.{idle}
use Rattle.table.specs.Slots.{moved}
use Rattle.table.specs.Run.{answer, times}
use Rattle.frames.specs.Frame.{Part, In, here, there, All, Fine, Clear, Module, CoversAt, slots_of, frame}
use Rattle.table.proofs.Walk.{and_both}
use Rattle.table.proofs.Counting.{count_same, count_band, window, at_least, at_most}
use Rattle.frames.proofs.Parts.{look, meets, distinct, covers_mod, mod_covers}
use Rattle.frames.proofs.Slots.{names, idles}

-- the partition runs at tick n, as a test
abbrev pub runs : Part → ℕ → Bool
runs p n = leb p.start (n % p.period) && ltb (n % p.period) (p.start + p.budget)

pub runs_covers : (p : Part) (n : ℕ) → runs p n ≡ true → CoversAt p n
runs_covers p n e =
    let w = and_both (leb p.start (n % p.period)) (ltb (n % p.period) (p.start + p.budget)) e in
    mod_covers p n (leb-true _ _ w.0) (ltb-true _ _ w.1)

pub covers_runs : (p : Part) (n : ℕ) → Fine p → CoversAt p n → runs p n ≡ true
covers_runs p n f c =
    let w = covers_mod p n f c in
    ap (λ (t : Bool). t && ltb (n % p.period) (p.start + p.budget)) (le-leb _ _ w.0) ∙ lt-ltb _ _ w.1

pub runs_round : (p : Part) → Periodic p.period (runs p)
runs_round p n = ap (λ (k : ℕ). leb p.start k && ltb k (p.start + p.budget)) (add-mod_right n p.period)

pub runs_budget : (p : Part) → Fine p → count (runs p) 0 p.period ≡ p.budget
runs_budget p f =
    count_band (runs p) p.period p.start p.budget f.within
    (λ i l. ap (λ (k : ℕ). leb p.start k && ltb k (p.start + p.budget)) (mod-eq_of_lt l))

-- a partition that runs at tick n, or that none does
pub data Who (ps : List Part) (n : ℕ) : Type 0 where
  this : (p : Part) → In p ps → CoversAt p n → Who ps n
  none : ((p : Part) → In p ps → CoversAt p n → ⊥) → Who ps n

none_more : {p : Part} {ps : List Part} (n : ℕ) → (CoversAt p n → ⊥) → ((q : Part) → In q ps → CoversAt q n → ⊥)
    → (q : Part) → In q (p ∷ ps) → CoversAt q n → ⊥
none_more n b f q here = b
none_more n b f q (there i) = f q i

pub who : (ps : List Part) → All Fine ps → (n : ℕ) → Who ps n
who [] f n = none (λ p i. elim i [ ])
who (p ∷ ps) f n = go (runs p n) refl (who ps f.1 n)
  where
    go : (b : Bool) → runs p n ≡ b → Who ps n → Who (p ∷ ps) n
    go true e w = this p here (runs_covers p n e)
    go false e (this q i c) = this q (there i) c
    go false e (none g) = none (none_more n (λ c. false≢true (sym e ∙ covers_runs p n f.0 c)) g)

module _ (ps : List Part) (M : Module ps) where
  -- the whole of (2): at every tick one partition covers it and is the answer, or none does and the answer is 64
  pub told : (n : ℕ) → ((p : Part) × In p ps × CoversAt p n × (answer (moved (frame ps) (slots_of ps)) n ≡ p.name))
      ⊎ (((p : Part) → In p ps → CoversAt p n → ⊥) × (answer (moved (frame ps) (slots_of ps)) n ≡ idle))
  told n = go (who ps M.fine n)
    where
      go : Who ps n → ((p : Part) × In p ps × CoversAt p n × (answer (moved (frame ps) (slots_of ps)) n ≡ p.name))
          ⊎ (((p : Part) → In p ps → CoversAt p n → ⊥) × (answer (moved (frame ps) (slots_of ps)) n ≡ idle))
      go (this p i c) = inl (p, i, c, names ps M n i c)
      go (none f) = inr (f, idles ps M n f)

  -- no two cover one tick
  pub only_one : (n : ℕ) {p q : Part} → In p ps → In q ps → CoversAt p n → CoversAt q n → p ≡ q
  only_one n {p} {q} i j c d = go (meets M.apart i j)
    where
      go : (p ≡ q) ⊎ Clear p q → p ≡ q
      go (inl e) = e
      go (inr a) = absurd (a n c d)

  -- the answer is the partition's name exactly when it runs
  pub named_runs : (n : ℕ) {p : Part} → In p ps → eqb (answer (moved (frame ps) (slots_of ps)) n) p.name ≡ runs p n
  named_runs n {p} i = go (runs p n) refl (who ps M.fine n)
    where
      go : (b : Bool) → runs p n ≡ b → Who ps n → eqb (answer (moved (frame ps) (slots_of ps)) n) p.name ≡ b
      go true e w = eq-eqb _ _ (names ps M n i (runs_covers p n e))
      go false e (this q j c) =
          ne_eqb _ _
          (λ h.
          let w : q ≡ p = distinct M.ascending j i (sym (names ps M n j c) ∙ h) in
          let d : CoversAt p n = subst (λ (x : Part). CoversAt x n) w c in
          false≢true (sym e ∙ covers_runs p n (look Fine i M.fine) d))
      go false e (none f) =
          ne_eqb _ _
          (λ (h : answer (moved (frame ps) (slots_of ps)) n ≡ p.name).
          let l = (look Fine i M.fine).named in
          let z = idles ps M n f in
          omega arith)

  module _ {p : Part} (i : In p ps) where
    counted : (a L : ℕ) → times (moved (frame ps) (slots_of ps)) p.name a L ≡ count (runs p) a L
    counted a L = count_same _ (runs p) a L (λ n _ _. named_runs n i)

    -- (3) in any run of T answers it is named B times
    pub named_exactly : (a : ℕ) → times (moved (frame ps) (slots_of ps)) p.name a p.period ≡ p.budget
    named_exactly a =
        counted a p.period ∙ window (runs p) p.period (runs_round p) a ∙ runs_budget p (look Fine i M.fine)

    has_period : 1 ≤ p.period
    has_period = let f = look Fine i M.fine in omega (arith, f.runs, f.within)

    -- in any run of L answers at least B times for each whole period in L
    pub named_at_least : (a L : ℕ) → p.budget * (L / p.period) ≤ times (moved (frame ps) (slots_of ps)) p.name a L
    named_at_least a L =
        let h = at_least (runs p) p.period (runs_round p) has_period a L in
        let e = ap (λ (k : ℕ). k * (L / p.period)) (runs_budget p (look Fine i M.fine)) in
        omega (arith, counted a L, h, e)

    -- and at most B times for each period begun in L
    pub named_at_most : (a L : ℕ) → times (moved (frame ps) (slots_of ps)) p.name a L ≤ p.budget * up L p.period
    named_at_most a L =
        let h = at_most (runs p) p.period (runs_round p) has_period a L in
        let e = ap (λ (k : ℕ). k * up L p.period) (runs_budget p (look Fine i M.fine)) in
        omega (arith, counted a L, h, e)
