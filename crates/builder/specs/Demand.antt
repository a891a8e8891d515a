-- Demand 3: "a module does what the plan says". Of a sheet, a plan, a module m and the bytes b of its table, by the partitions' own numbers.
-- Assumes nothing.
use Rattle.std.specs.Prelude.{◌≡◌, List, ℕ, ◌*◌, ◌/◌, ◌≤◌, ◌<◌}
use Rattle.numbers.specs.Numbers.{fine}
use Rattle.overlap.specs.Overlap.{Covers}
use Rattle.model.specs.Columns.{periods_of, budgets_of}
use Rattle.model.specs.declared.records.Sheet.{Sheet}
use Rattle.model.specs.declared.records.Plan.{Plan}
use Rattle.judge.specs.Constraints.{at}
use Rattle.table.specs.Layout.{idle, table_of, slots_in}
use Rattle.table.specs.Slots.{Valid}
use Rattle.table.specs.Sound.{SoundTable}
use Rattle.table.specs.Step.{stepped}
use Rattle.table.specs.Count.{up}
use Rattle.table.specs.Run.{reached, taken, answer, times}

module _ (s : Sheet) (p : Plan) (m : ℕ) where
  -- partition i is on module m
  abbrev pub Hosts : ℕ → Type 0
  Hosts i = (i < s.head.partitions) × (at p.modules i ≡ m)

  -- an execution of partition i covers tick n
  abbrev pub Runs : ℕ → ℕ → Type 0
  Runs i n = Covers (at p.starts i) (at (periods_of s) i) (at (budgets_of s) i) n

  pub record Does (b : List ℕ) : Type 0 where
    -- the bytes are a sound table
    pub sound : SoundTable b
    -- from a fresh start no step is ever refused
    pub never_refused : (n : ℕ) → (taken (stepped b) n).number ≡ fine
    -- the position never leaves the valid ones
    pub valid : (n : ℕ) → Valid (table_of b).frame (slots_in b) (reached (stepped b) n)
    -- at every tick n of an unbounded run the answer is the partition of the module whose execution covers n
    pub named : (n i : ℕ) → Hosts i → Runs i n → answer (stepped b) n ≡ i
    -- or 64 when none does
    pub idles : (n : ℕ) → ((i : ℕ) → Hosts i → Runs i n → ⊥) → answer (stepped b) n ≡ idle
    -- and at most one does
    pub only : (n i k : ℕ) → Hosts i → Hosts k → Runs i n → Runs k n → i ≡ k
    -- in any run of T answers, wherever it begins, a partition with period T and budget B is named exactly B times, whatever shares the module
    pub exactly : (i : ℕ) → Hosts i → (a : ℕ) → times (stepped b) i a (at (periods_of s) i) ≡ at (budgets_of s) i
    -- in any run of L answers at least B·(L div T) times
    pub at_least : (i : ℕ) → Hosts i → (a L : ℕ) → at (budgets_of s) i * (L / at (periods_of s) i) ≤ times (stepped b) i a L
    -- and at most B·(L divided by T, rounded up) times
    pub at_most : (i : ℕ) → Hosts i → (a L : ℕ) → times (stepped b) i a L ≤ at (budgets_of s) i * up L (at (periods_of s) i)
