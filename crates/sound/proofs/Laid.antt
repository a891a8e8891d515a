-- What the inner functions ask holds: the desk of a fair sheet is laid, and each try can be tested. Assumes nothing.
use mathlib.Core.Path.{◌≡◌, sym, ◌∙◌, ap}
use mathlib.Core.Bool.{Bool, true}
use mathlib.Core.List.{List}
use Prim.Native.Nat.{ℕ, ◌+◌, ◌-◌, ◌≤◌, ◌<◌}
use native.Mathlib.Omega.{arith}
use native.Mathlib.Decide.{ℕ_discrete}
use lib.ListN.{length, set, length-set}
use lib.Seq.{get_or-set_same, get_or-set_other}
use Rattle.euclid.proofs.Laws.{gcd_at_least_one}
use Rattle.model.specs.Limits.{most_partitions}
use Rattle.model.specs.Fair.{Fair}
use Rattle.model.specs.Columns.{periods_of}
use Rattle.model.specs.declared.records.Sheet.{Sheet}
use lib.Dec.{eqb}
use borrow.Author.Tests.{eqb-true}
use Rattle.sets.specs.Members.{member}
use Rattle.sets.proofs.Laws.{in_set}
use Rattle.judge.specs.Constraints.{at, is_on}
use Rattle.judge.specs.Asked.{Placed}
use Rattle.judge.specs.Verdict.{chain_at}
use Rattle.sound.specs.Desk.{desk_of, last_of, held_on, admits_on, fits_where, fits_by}
use Rattle.sound.specs.declared.desk.Desk.{Desk}
use Rattle.sound.proofs.Partners.{partners_below}
use Rattle.sound.specs.Asked.{Askable, Testable, Laid, Ready}
use Rattle.sound.proofs.Alike.{Alike, held_alike, admits_alike}
use Rattle.sound.proofs.Exact.{some_period, budget_within, period_short}
use Rattle.sound.proofs.Tables.{ordered, divisor_at, partners_at, endings_at, member_at_most}

-- those on the module are before j
pub held_before : (ms : List ℕ) (m j held i : ℕ) → held ≡ held_on ms m j → member held i ≡ true → i < j
held_before ms m j held i e y = (in_set (is_on ms m) j i (ap (λ x. member x i) (sym e) ∙ y)).0

module _ (d : Desk) (ms : List ℕ) (j : ℕ) (r : Ready d ms j) where
  pub inside : j < most_partitions
  inside = omega (arith, r.laid.room, r.left)

  -- the partitions before j placed as they are, in a column as long
  pub ready_alike : (ms' : List ℕ) → length ms' ≡ length ms → ((i : ℕ) → i < j → at ms' i ≡ at ms i) → Ready d ms' j
  ready_alike ms' e same = record {
    laid = r.laid;
    left = r.left;
    long = omega (arith, r.long);
    placed = λ i l. rw (same i l) (r.placed i l);
  }

  module _ (m : ℕ) (h : m < d.sheet.head.modules) where
    -- it can be asked whether module m admits partition j
    pub askable : Askable d ms m j
    askable = record {
      inside = inside;
      on = omega (arith, r.laid.modules);
      placed = λ i l y. record { inside = l; on = omega (arith, r.placed i (r.laid.far j r.left i l y), r.laid.modules) };
    }

    -- partition j on module m, after those before it
    there : at (set ms j m) j ≡ m
    there = get_or-set_same ms j m 0 (omega (arith, r.long, r.left))

    before : Alike j ms (set ms j m)
    before i l = sym (get_or-set_other ms j i m 0 (λ e. omega arith))

    placed_too : (i : ℕ) → i < j + 1 → at (set ms j m) i < d.sheet.head.modules
    placed_too i l = go (ℕ_discrete i j)
      where
        go : Dec (i ≡ j) → at (set ms j m) i < d.sheet.head.modules
        go (no e) = let k : i < j = omega arith in rw (← before i k) (r.placed i k)
        go (yes e) = rw (e, there) h

    -- can be tested
    pub try_testable : Testable d (set ms j m) j
    try_testable = record {
      inside = inside;
      divisible = r.laid.divisors j r.left;
      placed = λ c l y.
          let ending = r.laid.endings j r.left c l y in
          record {
            inside = ending.inside;
            length = ending.length;
            placed = λ i k. on (at (chain_at d.sheet c).members i) (omega (arith, ending.largest i k));
          };
    }
      where
        on : (i : ℕ) → i < j + 1 → Placed (set ms j m) i
        on i k = record { inside = omega (arith, inside); on = omega (arith, placed_too i k, r.laid.modules) }

    -- and the partition after it placed
    pub next_ready : j + 1 < d.sheet.head.partitions → Ready d (set ms j m) (j + 1)
    next_ready l = record { laid = r.laid; left = l; long = omega (arith, length-set ms j m, r.long); placed = placed_too }

    -- what was asked of module m is what the try asks of partition j's module
    pub try_held : {held : ℕ} → held ≡ held_on ms m j → held ≡ held_on (set ms j m) (at (set ms j m) j) j
    try_held e = rw there (e ∙ held_alike ms (set ms j m) m j before)

    admitted_there : admits_on d ms m j
        ≡ admits_on d (set ms j m) (at (set ms j m) j) j
    admitted_there = rw there (admits_alike ms (set ms j m) m j before d (r.laid.far j r.left))

    pub try_fits : (ts : List ℕ) {fits admitted : Bool}
        → fits ≡ fits_where d admitted (set ms j m) ts j
        → admitted ≡ admits_on d ms m j → fits ≡ fits_by d (set ms j m) ts j
    try_fits ts f a =
        f
        ∙ ap (λ b. fits_where d b (set ms j m) ts j) (a ∙ admitted_there)

-- the desk of a fair sheet is laid
pub fair_laid : (s : Sheet) (delays : List (List ℕ)) → Fair s delays → Laid (desk_of s delays)
fair_laid s delays fair = record {
  room = fair.head.inside.partitions;
  modules = fair.head.inside.modules;
  within = budget_within s delays fair;
  short = period_short s delays fair;
  divisors = λ j l i h.
      rw (divisor_at (periods_of s) s.head.partitions i j fair.head.inside.partitions (omega arith) (omega (arith, l, fair.head.inside.partitions)))
      (gcd_at_least_one (at (periods_of s) i) (at (periods_of s) j) (some_period s delays fair i (omega arith)));
  far = λ j l i h y.
      let few = fair.head.inside.partitions in
      partners_below s 1 j (omega arith) (ordered s delays fair) i h (ap (λ x. member x i) (sym (partners_at s j few l 1)) ∙ y);
  endings = λ j l c h y.
      let on = in_set (λ c. eqb (last_of (chain_at s c)) j) s.head.chains c (ap (λ x. member x c) (sym (endings_at s j fair.head.inside.partitions l)) ∙ y) in
      let last = eqb-true (last_of (chain_at s c)) j on.1 in
      record {
        inside = omega (arith, on.0, fair.head.inside.chains);
        length = (fair.chains c on.0).most;
        largest = λ i k. rw (← last) (member_at_most (chain_at s c).members (chain_at s c).length i k);
      };
}

-- a start up to the last one, and one past it
pub among : (t last p b : ℕ) → last ≡ p - b → t ≤ last → t < p - b + 1
among t last p b e h = omega arith

pub past : (t last p b : ℕ) → last ≡ p - b → last < t → p - b + 1 ≤ t
past t last p b e h = omega arith
