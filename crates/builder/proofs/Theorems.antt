-- Demand 3 of what the builder builds, and its numbers one by one.
-- Assumes nothing.
use mathlib.Core.Path.{◌≡◌, ap, sym, ◌∙◌, subst}
use mathlib.Core.List.{List}
use Prim.Native.Nat.{ℕ, ◌≤◌}
use lib.Dec.{ltb, leb}
use lib.ListN.{length, take, drop}
use lib.Seq.{take_at}
use borrow.Author.Tests.{ltb-false, eqb-true, eq-eqb}
use Rattle.numbers.specs.Numbers.{no_such_module, too_many_slots}
use Rattle.numbers.specs.First.{broken, met_here, met_there}
use Rattle.model.specs.Columns.{periods_of, budgets_of}
use Rattle.model.specs.declared.records.Sheet.{Sheet}
use Rattle.model.specs.declared.records.Plan.{Plan}
use Rattle.judge.specs.Constraints.{is_on}
use Rattle.judge.specs.Verdict.{judged}
use Rattle.table.specs.Layout.{most_frame, most_slots, table_bytes}
use Rattle.table.specs.Slots.{Fit}
use Rattle.table.proofs.Numbers.{unbroken}
use Rattle.table.proofs.Bytes.{table_bytes_length}
use Rattle.frames.specs.Frame.{Part, In, CoversAt, frame, slots_of}
use Rattle.frames.specs.Demand.{Demand}
use Rattle.frames.proofs.Kept.{kept_all, kept_in, Of, kept_of}
use Rattle.frames.proofs.Tables.{Short, module_fit, demand}
use Rattle.builder.specs.Parts.{part_at}
use Rattle.builder.specs.Built.{parts_on, size_of, room_number, built_number, built_of, buffer_of}
use Rattle.builder.specs.Demand.{Hosts, Runs, Does}
use Rattle.builder.proofs.Hosted.{Good, good, period_fits, parts_hosted}
use Rattle.builder.proofs.Returned.{returned_built, left_built}

-- there is room where the number says so
pub record Room (ps : List Part) (n : ℕ) : Type 0 where
  pub frame_fits : frame ps ≤ most_frame
  pub slots_fit : length (slots_of ps) ≤ most_slots
  pub buffer_holds : size_of ps ≤ n

pub room_of : (ps : List Part) (n : ℕ) → room_number ps n ≡ 0 → Room ps n
unfolding room_number
room_of ps n z =
    let r = met_there _ _ z in
    record {
      frame_fits = ltb-false _ _ (unbroken (ltb most_frame (frame ps)) 20 (met_here _ _ z));
      slots_fit = ltb-false _ _ (unbroken (ltb most_slots (length (slots_of ps))) 21 (met_here _ _ r));
      buffer_holds = ltb-false _ _ (unbroken (ltb n (size_of ps)) 22 (met_there (broken (ltb most_slots (length (slots_of ps))) too_many_slots) _ r));
    }

module _ (s : Sheet) (delays : List (List ℕ)) (p : Plan) (m : ℕ) where
  -- a plan whose table is built is accepted, and there is room
  pub built_good : (n : ℕ) → built_number s delays p m n ≡ 0 → Good s delays p × Room (parts_on s p m) n
  unfolding built_number
  built_good n z = (
    good s delays p (met_here _ _ z),
    room_of (parts_on s p m) n (met_there (broken (leb s.head.modules m) no_such_module) _ (met_there (judged s delays p).number _ z)),
  )

  module _ (g : Good s delays p) (n : ℕ) (room : Room (parts_on s p m) n) where
    fit : Fit (frame (parts_on s p m)) (slots_of (parts_on s p m))
    unfolding parts_on
    fit =
        module_fit (parts_on s p m) (parts_hosted s delays p g m).fine
        (kept_all (is_on p.modules m) (part_at (periods_of s) (budgets_of s) p.starts) Short s.head.partitions (λ j l e. (period_fits s delays p g j l).1))
        room.frame_fits room.slots_fit

    whole : Demand (parts_on s p m) (table_bytes (frame (parts_on s p m)) (slots_of (parts_on s p m)))
    whole = demand (parts_on s p m) (parts_hosted s delays p g m) fit

    -- a partition on the module is one of its list
    listed : (i : ℕ) → Hosts s p m i → In (part_at (periods_of s) (budgets_of s) p.starts i) (parts_on s p m)
    unfolding parts_on
    listed i h = kept_in (is_on p.modules m) (part_at (periods_of s) (budgets_of s) p.starts) s.head.partitions i h.0 (eq-eqb _ _ h.1)

    -- and a partition of its list is on the module
    of_list : {q : Part} → In q (parts_on s p m) → Of (is_on p.modules m) (part_at (periods_of s) (budgets_of s) p.starts) s.head.partitions q
    unfolding parts_on
    of_list j = kept_of (is_on p.modules m) (part_at (periods_of s) (budgets_of s) p.starts) s.head.partitions j

    none : (t : ℕ) → ((i : ℕ) → Hosts s p m i → Runs s p m i t → ⊥) → (q : Part) → In q (parts_on s p m) → CoversAt q t → ⊥
    none t free q j c =
        let o = of_list j in
        free o.number (o.below, eqb-true _ _ o.hosted) (subst (λ (x : Part). CoversAt x t) o.is c)

    -- demand 3, of the bytes of the table
    pub does : Does s p m (table_bytes (frame (parts_on s p m)) (slots_of (parts_on s p m)))
    does =
        let w = whole in
        record {
          sound = w.sound;
          never_refused = w.never_refused;
          valid = w.valid;
          named = λ t i h c. w.named t (listed i h) c;
          idles = λ t free. w.idles t (none t free);
          only = λ t i k h l c d. sym (w.named t (listed i h) c) ∙ w.named t (listed k l) d;
          exactly = λ i h a. w.exactly (listed i h) a;
          at_least = λ i h a L. w.at_least (listed i h) a L;
          at_most = λ i h a L. w.at_most (listed i h) a L;
        }

  -- the bytes of the buffer that the length counts are the table
  pub built_bytes_is : (d : List ℕ) → built_number s delays p m (length d) ≡ 0
      → take (built_of s delays p m d).length (buffer_of s delays p m d) ≡ table_bytes (frame (parts_on s p m)) (slots_of (parts_on s p m))
  built_bytes_is d z =
      let ps = parts_on s p m in
      let l : (built_of s delays p m d).length ≡ size_of ps = ap (λ r. r.length) (sym (returned_built ps z)) in
      ap (λ (k : ℕ). take k (buffer_of s delays p m d)) l
      ∙ ap (take (size_of ps)) (sym (left_built ps z d))
      ∙ take_at (table_bytes (frame ps) (slots_of ps)) (drop (size_of ps) d) (size_of ps) (table_bytes_length (frame ps) (slots_of ps))

  -- Demand 3: whenever the builder builds, what it wrote does what the plan says.
  pub built_does : (d : List ℕ) → built_number s delays p m (length d) ≡ 0
      → Does s p m (take (built_of s delays p m d).length (buffer_of s delays p m d))
  built_does d z =
      let b = built_good (length d) z in
      subst (Does s p m) (sym (built_bytes_is d z)) (does b.0 (length d) b.1)
