-- The steps of the code's search over a course: the ways of one try, and of the two loops over the placements of partition j (`Tried` and `Going` of
-- crates/tries have them of any search). Assumes nothing.
use mathlib.Core.Path.{◌≡◌, refl, sym, ◌∙◌}
use mathlib.Core.List.{List}
use Prim.Native.Nat.{ℕ, ◌+◌, ◌-◌, ◌<◌, ◌≤◌}
use native.Mathlib.Omega.{arith}
use lib.ListN.{set}
use mathlib.Core.Bool.{Bool, true, false}
use Rattle.tries.specs.Code.{Standing}
use Rattle.tries.proofs.Tried as tried
use Rattle.tries.proofs.Going.{Rows, Cols, begin, enter, turn, done, leave, hit, halt}
use Rattle.sets.specs.Members.{places, member}
use Rattle.judge.specs.Constraints.{at}
use Rattle.sound.specs.declared.desk.Desk.{Desk}
use Rattle.sound.specs.Asked.{Ready}
use Rattle.sound.specs.Desk.{width_of, held_on, fits_by, fits_where}
use Rattle.sound.proofs.Laid.{ready_alike, try_held, try_fits}
use Rattle.sound.proofs.Alike.{Alike, held_alike, admits_alike}
use Rattle.search.specs.Standing.{TakenUp, Tried, Searched, under_way, ended}
use Rattle.search.specs.declared.attempts.Course.{Course}
use Rattle.search.specs.declared.attempts.Host.{Host}
use Rattle.search.specs.declared.attempts.End.{End}
use Rattle.search.specs.declared.attempts.End.TheVariants.{Found, Stopped}

-- what was asked of a module holds as long as the partitions before j stay where they are
pub taken_alike : (d : Desk) (ms ms' : List ℕ) (j : ℕ) (host : Host) → Alike j ms ms'
    → ((i : ℕ) → i < places → member (at d.far j) i ≡ true → i < j)
    → TakenUp d ms j host → TakenUp d ms' j host
taken_alike d ms ms' j host same far h = record {
  on = h.on;
  held = h.held ∙ held_alike ms ms' host.module j same;
  admitted = h.admitted ∙ admits_alike ms ms' host.module j same d far;
}

-- what a try asks of the module of partition j was asked of the module that is taken up
pub held_there : (d : Desk) (ms : List ℕ) (j : ℕ) (host : Host) → Ready d ms j → TakenUp d ms j host
    → host.held ≡ held_on (set ms j host.module) (at (set ms j host.module) j) j
held_there d ms j host ready up = try_held d ms j ready host.module up.on up.held

-- one try: partition j on the module of `host` with start t
module _ (d : Desk) (limit j t : ℕ) (course : Course) (host : Host) where
  abbrev placed : Course
  placed = record {
    plan = record { modules = set course.plan.modules j host.module; starts = set course.plan.starts j t };
    tries = course.tries + 1;
  }

  module _ (ready : Ready d course.plan.modules j) (up : TakenUp d course.plan.modules j host) (l : course.tries < limit) (fits : Bool)
      (e : fits ≡ fits_where d host.admitted placed.plan.modules placed.plan.starts j) where
    tested : fits ≡ fits_by d placed.plan.modules placed.plan.starts j
    tested = try_fits _ _ _ ready _ up.on _ e up.admitted

    pub fails : fits ≡ false → Tried d limit j host.module t (under_way course) (under_way placed)
    fails v = tried.fails _ _ _ _ _ _ _ _ _ _ _ _ _ l tested v

    pub finds : fits ≡ true → j + 1 ≡ d.sheet.head.partitions → Tried d limit j host.module t (under_way course) (ended Found placed)
    finds v q = tried.finds _ _ _ _ _ _ _ _ _ _ _ _ _ l tested v (omega arith)

    pub goes : (o : Standing) → fits ≡ true → (j + 1 ≡ d.sheet.head.partitions → ⊥) → Searched d limit (j + 1) (under_way placed) o
        → Tried d limit j host.module t (under_way course) o
    goes o v ne g = tried.goes _ _ _ _ _ _ _ _ _ _ _ _ _ l tested o v (omega (arith, ready.left)) g

-- ---- the two loops over the placements of partition j
module _ (d : Desk) (limit j : ℕ) where
  -- before module m: what is left gives what the search gives from `from`
  pub record ByModule (from c : Course) (m : ℕ) : Type 0 where
    pub rows : Rows d.sheet.head.partitions d.sheet.head.modules (width_of d) (fits_by d) limit j
        from.plan.modules from.plan.starts from.tries c.plan.modules c.plan.starts c.tries m

  -- before start t of module m: what is left gives what the tries of module m give from `from`
  pub record ByStart (from c : Course) (m t : ℕ) : Type 0 where
    pub cols : Cols d.sheet.head.partitions d.sheet.head.modules (width_of d) (fits_by d) limit j
        from.plan.modules from.plan.starts from.tries c.plan.modules c.plan.starts c.tries m t

  pub begins : (c : Course) → Ready d c.plan.modules j → ByModule c c 0
  begins c ready = record { rows = begin _ _ _ _ _ _ _ _ _ ready.left }

  pub enters : (c : Course) (m : ℕ) → ByStart c c m 0
  enters c m = record { cols = enter _ _ _ _ _ _ _ _ _ _ }

  pub ends : (from c : Course) (m : ℕ) → ByModule from c m → d.sheet.head.modules ≤ m → Searched d limit j (under_way from) (under_way c)
  ends from c m by h = done _ _ _ _ _ _ _ _ _ _ _ _ _ by.rows h

  module _ (begun c : Course) (m t : ℕ) (in_turn : ByStart begun c m t) where
    -- a try may be made
    pub still_taken_up : (host : Host) (from : Course) → Ready d from.plan.modules j → TakenUp d begun.plan.modules j host → TakenUp d c.plan.modules j host
    still_taken_up host from ready up = taken_alike d _ _ j host (λ i l. sym (in_turn.cols.kept.same i l)) (ready.laid.far j ready.left) up

    pub still_ready : (from : Course) → Ready d from.plan.modules j → ByModule from begun m → Ready d c.plan.modules j
    still_ready from ready by =
        ready_alike _ _ _ (ready_alike _ _ _ ready _ by.rows.kept.long by.rows.kept.same) _ in_turn.cols.kept.long in_turn.cols.kept.same

    -- behind the last start to the next module
    pub turns_last : (from : Course) → ByModule from begun m → m < d.sheet.head.modules → width_of d j ≤ t → ByModule from c (m + 1)
    turns_last from by h last = record { rows = leave _ _ _ _ _ _ _ _ _ _ _ _ _ by.rows h _ _ _ _ in_turn.cols last }

    module _ (on : ℕ) (same : on ≡ m) (l : t ≤ at d.times.periods j - at d.times.budgets j) where
      -- a try that ends nothing leads to the next start
      pub turns : (c' : Course) → Tried d limit j on t (under_way c) (under_way c') → ByStart begun c' m (t + 1)
      turns c' e = record { cols = turn _ _ _ _ _ _ _ _ _ _ _ _ _ _ in_turn.cols (omega arith) _ (rw same at e) refl refl }

      module _ (from : Course) (by : ByModule from begun m) (h : m < d.sheet.head.modules) where
        -- one that ends the search ends it over all placements
        pub breaks : (end : End) (c' : Course) → Tried d limit j on t (under_way c) (ended end c') → Searched d limit j (under_way from) (ended end c')
        breaks Found c' e = hit _ _ _ _ _ _ _ _ _ _ _ _ _ by.rows h _ _ _ _ in_turn.cols (omega arith) _ (rw same at e) refl
        breaks Stopped c' e = halt _ _ _ _ _ _ _ _ _ _ _ _ _ by.rows h _ _ _ _ in_turn.cols (omega arith) _ (rw same at e) refl
