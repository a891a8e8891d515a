-- Demand 3, of the partitions of one module and the bytes of a table: a dispatcher that runs the table does what the plan says.
-- Assumes nothing.
use Rattle.std.specs.Prelude.{◌≡◌, List, ℕ, ◌*◌, ◌/◌, ◌≤◌}
use Rattle.numbers.specs.Numbers.{fine}
use Rattle.table.specs.Layout.{idle, table_of, slots_in}
use Rattle.table.specs.Slots.{Valid}
use Rattle.table.specs.Sound.{SoundTable}
use Rattle.table.specs.Step.{stepped}
use Rattle.table.specs.Count.{up}
use Rattle.table.specs.Run.{reached, taken, answer, times}
use Rattle.frames.specs.Frame.{Part, In, CoversAt}

pub record Demand (ps : List Part) (b : List ℕ) : Type 0 where
  -- the bytes are a sound table
  pub sound : SoundTable b
  -- from a fresh start no step is ever refused
  pub never_refused : (n : ℕ) → (taken (stepped b) n).number ≡ fine
  -- the position never leaves the valid ones
  pub valid : (n : ℕ) → Valid (table_of b).frame (slots_in b) (reached (stepped b) n)
  -- at every tick n of an unbounded run the answer is the partition whose execution covers n
  pub named : (n : ℕ) {p : Part} → In p ps → CoversAt p n → answer (stepped b) n ≡ p.name
  -- or 64 when none does
  pub idles : (n : ℕ) → ((p : Part) → In p ps → CoversAt p n → ⊥) → answer (stepped b) n ≡ idle
  -- and at most one does
  pub only : (n : ℕ) {p q : Part} → In p ps → In q ps → CoversAt p n → CoversAt q n → p ≡ q
  -- in any run of T answers, wherever it begins, a partition with period T and budget B is named exactly B times
  pub exactly : {p : Part} → In p ps → (a : ℕ) → times (stepped b) p.name a p.period ≡ p.budget
  -- in any run of L answers at least B·(L div T) times
  pub at_least : {p : Part} → In p ps → (a L : ℕ) → p.budget * (L / p.period) ≤ times (stepped b) p.name a L
  -- and at most B·(L divided by T, rounded up) times
  pub at_most : {p : Part} → In p ps → (a L : ℕ) → times (stepped b) p.name a L ≤ p.budget * up L p.period
