-- The partitions of a module: which execution begins or covers a tick.
-- Assumes nothing.
use mathlib.Core.Path.{◌≡◌, refl, ap, sym, ◌∙◌, subst}
use mathlib.Core.Bool.{Bool, true, false, cond}
use mathlib.Core.List.{List, [], ◌∷◌}
use mathlib.Core.Logic.{◌⊎◌, inl, inr}
use Prim.Native.Nat.{ℕ, ◌+◌, ◌*◌, ◌/◌, ◌%◌, ◌≤◌, ◌<◌, ◌∣◌}
use native.Mathlib.Nat.{div-add-mod', div-mul_cancel, mod-eq_of_lt, mod-mod_of_dvd, mul-add-mod_self_right, add-mul-mod_self_right, lt_of_mul-lt-mul_right, mul-le-mul_right, suc-mul, le_dest, lt_of_not-le, le_of_suc-le-suc}
use native.Mathlib.Omega.{arith}
use borrow.Author.Tests.{eqb-true, eq-eqb}
use Rattle.table.specs.declared.records.Slot.{Slot}
use Rattle.frames.specs.Frame.{Part, In, here, there, All, Pairs, Fine, Before, Clear, CoversAt, begins, execution, starting}

pub look : (P : Part → Type 0) {p : Part} {ps : List Part} → In p ps → All P ps → P p
look P here a = a.0
look P (there i) a = look P i a.1

pub not_lt : {a b : ℕ} → (a < b → ⊥) → b ≤ a
not_lt h = le_of_suc-le-suc (lt_of_not-le h)

-- two of a module are one, or apart
pub meets : {p q : Part} {ps : List Part} → Pairs Clear ps → In p ps → In q ps → (p ≡ q) ⊎ Clear p q
meets a here here = inl refl
meets {p} a here (there j) = inr (look (Clear p) j a.0)
meets {q = q} a (there i) here = inr (λ n x y. look (Clear q) i a.0 n y x)
meets a (there i) (there j) = meets a.1 i j

-- two of one name are one
pub distinct : {p q : Part} {ps : List Part} → Pairs Before ps → In p ps → In q ps → p.name ≡ q.name → p ≡ q
distinct a here here e = refl
distinct {p} {q} a here (there j) e =
    let l : p.name < q.name = look (Before p) j a.0 in
    let z : ⊥ = omega arith in
    absurd z
distinct {p} {q} a (there i) here e =
    let l : q.name < p.name = look (Before q) i a.0 in
    let z : ⊥ = omega arith in
    absurd z
distinct a (there i) (there j) e = distinct a.1 i j e

-- where an execution begins
pub place : (p : Part) (n : ℕ) → begins p n ≡ true → n / p.period * p.period + p.start ≡ n
place p n b =
    let e : n % p.period ≡ p.start = eqb-true _ _ b in
    omega (arith, div-add-mod' n p.period)

-- and the other way round: one begins at the start and after each period
pub begins_at : (p : Part) (m : ℕ) → Fine p → begins p (p.start + m * p.period) ≡ true
begins_at p m f =
    let h : p.start < p.period = omega (arith, f.within, f.runs) in
    eq-eqb _ _ (add-mul-mod_self_right p.start m p.period ∙ mod-eq_of_lt h)

-- what it covers
pub covers_of : (p : Part) (n t : ℕ) → begins p n ≡ true → n ≤ t → t < n + p.budget → CoversAt p t
covers_of p n t b l h =
    let e = place p n b in
    record { m = n / p.period; from = omega arith; to = omega arith }

-- the next execution of the same partition is a period away
pub self_later : (p : Part) (n m : ℕ) → begins p n ≡ true → begins p m ≡ true → n < m → n + p.period ≤ m
self_later p n m b c l =
    let T = p.period in
    let e = place p n b in
    let f = place p m c in
    let d : n / T < m / T = lt_of_mul-lt-mul_right T (omega arith) in
    omega (arith, mul-le-mul_right T d, suc-mul (n / T) T)

-- it ends within the frame
pub ends_within : (p : Part) (n F : ℕ) → Fine p → p.period ∣ F → begins p n ≡ true → n < F → n + p.budget ≤ F
ends_within p n F f d b l =
    let T = p.period in
    let e = place p n b in
    let g = div-mul_cancel T d in
    let k : n / T < F / T = lt_of_mul-lt-mul_right T (omega arith) in
    omega (arith, f.within, mul-le-mul_right T k, suc-mul (n / T) T)

module _ {ps : List Part} (fine : All Fine ps) (apart : Pairs Clear ps) where
  -- an execution ends before a later one begins
  pub later : {p q : Part} (n m : ℕ) → In p ps → In q ps → begins p n ≡ true → begins q m ≡ true → n < m → n + p.budget ≤ m
  later {p} {q} n m i j b c l = go (meets apart i j)
    where
      go : (p ≡ q) ⊎ Clear p q → n + p.budget ≤ m
      go (inl e) =
          let f = look Fine i fine in
          omega (arith, f.within, self_later p n m b (subst (λ (x : Part). begins x m ≡ true) (sym e) c) l)
      go (inr d) =
          not_lt
          (λ (h : m < n + p.budget).
          d m (covers_of p n m b (omega arith) h) (covers_of q m m c (omega arith) (omega (arith, (look Fine j fine).runs))))

  -- one execution begins at a tick, at most
  pub same : {p q : Part} (n : ℕ) → In p ps → In q ps → begins p n ≡ true → begins q n ≡ true → p ≡ q
  same {p} {q} n i j b c = go (meets apart i j)
    where
      go : (p ≡ q) ⊎ Clear p q → p ≡ q
      go (inl e) = e
      go (inr d) =
          absurd
          (d n (covers_of p n n b (omega arith) (omega (arith, (look Fine i fine).runs)))
          (covers_of q n n c (omega arith) (omega (arith, (look Fine j fine).runs))))

-- none begins at the tick, or one
pub data Alone (ps : List Part) (n : ℕ) : Type 0 where
  nobody : ((p : Part) → In p ps → begins p n ≡ false) → starting ps n ≡ [] → Alone ps n
  somebody : (p : Part) → In p ps → begins p n ≡ true → starting ps n ≡ execution p n ∷ [] → Alone ps n

nobody_more : {p : Part} {ps : List Part} (n : ℕ) → begins p n ≡ false → ((q : Part) → In q ps → begins q n ≡ false)
    → (q : Part) → In q (p ∷ ps) → begins q n ≡ false
nobody_more n b f q here = b
nobody_more n b f q (there i) = f q i

pub alone : (ps : List Part) → All Fine ps → Pairs Clear ps → (n : ℕ) → Alone ps n
unfolding starting
alone [] f a n = nobody (λ p i. elim i [ ]) refl
alone (p ∷ ps) f a n = go (begins p n) refl (alone ps f.1 a.1 n)
  where
    go : (b : Bool) → begins p n ≡ b → Alone ps n → Alone (p ∷ ps) n
    go true b (nobody g e) =
        somebody p here b
        (ap (λ (t : Bool). cond t (execution p n ∷ starting ps n) (starting ps n)) b ∙ ap (λ (r : List Slot). execution p n ∷ r) e)
    go true b (somebody q i c e) =
        absurd
        (look (Clear p) i a.0 n (covers_of p n n b (omega arith) (omega (arith, f.0.runs)))
        (covers_of q n n c (omega arith) (omega (arith, (look Fine i f.1).runs))))
    go false b (nobody g e) =
        nobody (nobody_more n b g) (ap (λ (t : Bool). cond t (execution p n ∷ starting ps n) (starting ps n)) b ∙ e)
    go false b (somebody q i c e) =
        somebody q (there i) c (ap (λ (t : Bool). cond t (execution p n ∷ starting ps n) (starting ps n)) b ∙ e)

-- covering by the tick's place in the period
pub covers_mod : (p : Part) (n : ℕ) → Fine p → CoversAt p n → (p.start ≤ n % p.period) × (n % p.period < p.start + p.budget)
covers_mod p n f a =
    let P = p.period in
    let w = f.within in
    let d = le_dest a.from in
    let i : d.0 < p.budget = omega (arith, d.1, a.to) in
    let e : n ≡ p.start + d.0 + a.m * P = omega (arith, d.1) in
    let r : n % P ≡ p.start + d.0 =
    ap (λ (k : ℕ). k % P) e ∙ add-mul-mod_self_right (p.start + d.0) a.m P ∙ mod-eq_of_lt {n = p.start + d.0} {m = P} (omega arith)
    in
    omega arith

pub mod_covers : (p : Part) (n : ℕ) → p.start ≤ n % p.period → n % p.period < p.start + p.budget → CoversAt p n
mod_covers p n l h =
    let e = div-add-mod' n p.period in
    record { m = n / p.period; from = omega arith; to = omega arith }

-- the tick's place in the frame is covered alike
pub covers_frame : (p : Part) (F n : ℕ) → Fine p → p.period ∣ F → CoversAt p n → CoversAt p (n % F)
covers_frame p F n f d a =
    let w = covers_mod p n f a in
    let e = mod-mod_of_dvd p.period n d in
    mod_covers p (n % F) (omega arith) (omega arith)

pub frame_covers : (p : Part) (F n : ℕ) → Fine p → p.period ∣ F → CoversAt p (n % F) → CoversAt p n
frame_covers p F n f d a =
    let w = covers_mod p (n % F) f a in
    let e = mod-mod_of_dvd p.period n d in
    mod_covers p n (omega arith) (omega arith)

-- the execution that covers a tick begins at or before it
pub record Begun (p : Part) (t : ℕ) : Type 0 where
  pub from : ℕ
  pub begun : begins p from ≡ true
  pub low : from ≤ t
  pub high : t < from + p.budget

pub begun_of : (p : Part) (t : ℕ) → Fine p → CoversAt p t → Begun p t
begun_of p t f a =
    let P = p.period in
    let w = covers_mod p t f a in
    let e = div-add-mod' t P in
    let h : p.start < P = omega (arith, f.within, f.runs) in
    let r : (t / P * P + p.start) % P ≡ p.start = mul-add-mod_self_right (t / P) P p.start ∙ mod-eq_of_lt h in
    record { from = t / P * P + p.start; begun = eq-eqb _ _ r; low = omega arith; high = omega arith }
