-- The partitions of one module, their frame, and the slots of their frame table.
-- Assumes nothing.
use Rattle.std.specs.Prelude.{Bool, cond, List, [], ◌∷◌, ◌++◌, ℕ, zero, suc, ◌+◌, ◌/◌, ◌%◌, ◌≤◌, ◌<◌, eqb}
use Rattle.euclid.specs.Euclid.{lcm_of}
use Rattle.overlap.specs.Overlap.{Covers, Apart}
use Rattle.table.specs.declared.records.Slot.{Slot}

-- a partition with its start on the module
pub record Part : Type 0 where
  pub name : ℕ
  pub start : ℕ
  pub period : ℕ
  pub budget : ℕ

-- the partition is one of the list
pub data In (p : Part) : List Part → Type 0 where
  here : {ps : List Part} → In p (p ∷ ps)
  there : {q : Part} {ps : List Part} → In p ps → In p (q ∷ ps)

abbrev pub All : (Part → Type 0) → List Part → Type 0
All P [] = Unit {0}
All P (p ∷ ps) = P p × All P ps

-- every one with every later one
abbrev pub Pairs : (Part → Part → Type 0) → List Part → Type 0
Pairs R [] = Unit {0}
Pairs R (p ∷ ps) = All (R p) ps × Pairs R ps

-- what the sheet and C3 say of one partition
pub record Fine (p : Part) : Type 0 where
  pub named : p.name < 64
  pub runs : 1 ≤ p.budget
  pub within : p.start + p.budget ≤ p.period

abbrev pub Before : Part → Part → Type 0
Before p q = p.name < q.name

-- C2 of two partitions
abbrev pub Clear : Part → Part → Type 0
Clear p q = Apart p.start p.period p.budget q.start q.period q.budget

-- the partitions of a module in an accepted plan, in ascending order
pub record Module (ps : List Part) : Type 0 where
  pub fine : All Fine ps
  pub ascending : Pairs Before ps
  pub apart : Pairs Clear ps

-- an execution of p covers tick n
abbrev pub CoversAt : Part → ℕ → Type 0
CoversAt p n = Covers p.start p.period p.budget n

-- "The frame F of a module is the least common multiple of the periods on it, or 1 for an empty module":
-- f, and then one period after the other
unfoldable pub frame_from : ℕ → List Part → ℕ
frame_from f [] = f
frame_from f (p ∷ ps) = frame_from (lcm_of f p.period) ps

abbrev pub frame : List Part → ℕ
frame ps = frame_from 1 ps

-- an execution of p begins at tick n (the start is below the period: C3)
abbrev pub begins : Part → ℕ → Bool
begins p n = eqb (n % p.period) p.start

abbrev pub execution : Part → ℕ → Slot
execution p n = record { start = n; length = p.budget; partition = p.name }

-- the slots that begin at tick n: none, or one
unfoldable pub starting : List Part → ℕ → List Slot
starting [] n = []
starting (p ∷ ps) n = cond (begins p n) (execution p n ∷ starting ps n) (starting ps n)

-- the slots that begin at one of k ticks from n on
unfoldable pub slots_from : List Part → ℕ → ℕ → List Slot
slots_from ps n zero = []
slots_from ps n (suc k) = starting ps n ++ slots_from ps (suc n) k

-- "Slots are all executions that begin before F, by start, never merged"
abbrev pub slots_of : List Part → List Slot
slots_of ps = slots_from ps 0 (frame ps)

-- the sum of a number for each partition
unfoldable pub total : (Part → ℕ) → List Part → ℕ
total g [] = 0
total g (p ∷ ps) = g p + total g ps

-- how many slots a frame has: of each partition, one a period
abbrev pub slot_count : List Part → ℕ
slot_count ps = total (λ p. frame ps / p.period) ps
