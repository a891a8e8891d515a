-- What the code returns and leaves in what it was lent, as the standing of a search. Assumes nothing.
use Rattle.std.specs.Prelude.{true, false, List, ℕ, ◌+◌, ◌-◌, ◌≤◌, ◌<◌, ◌≡◌, length}
use Rattle.std.specs.declared.ops.ControlFlow.{ControlFlow}
use Rattle.std.specs.declared.ops.ControlFlow.TheVariants.{Continue, Break}
use Rattle.tries.specs.Code.{Standing, begun, attempt_of, search_of, shown}
use Rattle.sound.specs.Desk.{width_of, held_on, admits_on, fits_by}
use Rattle.sound.specs.declared.desk.Desk.{Desk}
use Rattle.model.specs.None.{no_plan}
use Rattle.model.specs.declared.records.Sheet.{Sheet}
use Rattle.search.specs.Answer.{answer_of}
use Rattle.model.specs.Limits.{most_partitions}
use Rattle.search.specs.declared.attempts.Course.{Course}
use Rattle.search.specs.declared.attempts.Host.{Host}
use Rattle.search.specs.declared.attempts.End.{End}
use Rattle.search.specs.declared.attempts.End.TheVariants.{Found, Stopped}

-- "The empty plan is sound."
abbrev pub nothing_placed : Course
nothing_placed = record { plan = no_plan; tries = 0 }

-- where a search stands that has not ended, and one that has
abbrev pub under_way : Course → Standing
under_way c = begun c.tries c.plan.modules c.plan.starts

abbrev pub ended : End → Course → Standing
ended Found c = record { found = true; stopped = false; tries = c.tries; modules = c.plan.modules; starts = c.plan.starts }
ended Stopped c = record { found = false; stopped = true; tries = c.tries; modules = c.plan.modules; starts = c.plan.starts }

abbrev pub standing : {A : Type 0} → ControlFlow End A → Course → Standing
standing (Continue _) c = under_way c
standing (Break e) c = ended e c

-- what is asked once of a module that is taken up for partition j
pub record TakenUp (d : Desk) (ms : List ℕ) (j : ℕ) (host : Host) : Type 0 where
  pub on : host.module < d.sheet.head.modules
  pub held : host.held ≡ held_on ms host.module j
  pub admitted : host.admitted ≡ admits_on d ms host.module j

-- `to` is where the search over the placements of partition j and of those after it ends that begins at `from`
abbrev pub Searched : Desk → (limit j : ℕ) → (from to : Standing) → Type 0
Searched d limit j from to =
    to ≡ search_of d.sheet.head.partitions d.sheet.head.modules (width_of d) (fits_by d) limit (d.sheet.head.partitions - j) j from

-- `to` is where the try of module m and start t for partition j ends
abbrev pub Tried : Desk → (limit j m t : ℕ) → (from to : Standing) → Type 0
Tried d limit j m t from to =
    to
    ≡ attempt_of d.sheet.head.partitions d.sheet.head.modules (width_of d) (fits_by d) limit
    (search_of d.sheet.head.partitions d.sheet.head.modules (width_of d) (fits_by d) limit (d.sheet.head.partitions - (j + 1)) (j + 1)) j m t from

-- what a search from partition 0 on gives: the answer, and columns as long as they were
pub record Ran (s : Sheet) (delays : List (List ℕ)) (budget : ℕ) (o : Standing) : Type 0 where
  pub answer : shown s.head.partitions o ≡ answer_of s delays budget
  pub modules : most_partitions ≤ length o.modules
  pub starts : most_partitions ≤ length o.starts
