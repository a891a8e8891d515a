-- What the search has at hand: what no placement changes, made once a search from the sheet, and the test of one try over it.
-- The contracts of the inner functions speak of these. That after sound placements the test says whether the plan with one more is sound is
-- proved (proofs/Judges.antt), so nothing here has to be believed. Assumes nothing.
use Rattle.std.specs.Prelude.{Bool, cond, max, not, ◌&&◌, List, [], ℕ, zero, suc, ◌+◌, ◌-◌, leb, eqb, get_or, replicate}
use Rattle.lists.specs.Filled.{filled}
use Rattle.sets.specs.Members.{set_of, size_of, sum_over, with_member, each_in, disjoint}
use Rattle.euclid.specs.Euclid.{gcd_of}
use Rattle.overlap.specs.Overlap.{clear_by}
use Rattle.model.specs.Limits.{most_partitions}
use Rattle.model.specs.Columns.{periods_of, budgets_of, memories_of}
use Rattle.model.specs.declared.records.Chain.{Chain}
use Rattle.model.specs.declared.records.Sheet.{Sheet}
use Rattle.judge.specs.Constraints.{at, is_on, chain_delay, module_at}
use Rattle.judge.specs.Verdict.{exclusion_at, chain_at}
use Rattle.sound.specs.declared.desk.Desk.{Desk}

-- place k of row i
abbrev pub cell : List (List ℕ) → ℕ → ℕ → ℕ
cell rows i k = at (get_or rows i []) k

-- the largest of the first n members
unfoldable pub largest : (members : List ℕ) → ℕ → ℕ
largest members zero = 0
largest members (suc n) = max (largest members n) (at members n)

-- a chain is complete when its largest member is placed
abbrev pub last_of : Chain → ℕ
last_of c = largest c.members c.length

-- the greatest common divisors of partition i's period with each of the column
abbrev pub divisors_with : (periods : List ℕ) → ℕ → List ℕ
divisors_with periods i = filled most_partitions most_partitions (λ j. gcd_of (at periods i) (at periods j)) 0

-- of each of the first n partitions
unfoldable pub divisors_of : (periods : List ℕ) → ℕ → List (List ℕ)
divisors_of periods n = filled most_partitions n (divisors_with periods) (replicate most_partitions 0)

-- exclusion x is of the given kind, and its second partition is j
unfoldable pub pairs_at : Sheet → (kind j x : ℕ) → Bool
pairs_at s kind j x = eqb (exclusion_at s x).second j && eqb (exclusion_at s x).kind kind

-- the first partitions of those of the first n exclusions that are so
unfoldable pub partners_in : Sheet → (kind j n : ℕ) → ℕ
partners_in s kind j zero = 0
partners_in s kind j (suc n) =
    cond (pairs_at s kind j n) (with_member (partners_in s kind j n) (exclusion_at s n).first) (partners_in s kind j n)

-- of each partition
unfoldable pub partners_of : Sheet → (kind : ℕ) → List ℕ
partners_of s kind = filled most_partitions s.head.partitions (λ j. partners_in s kind j s.head.exclusions) 0

-- the chains whose largest member is j
abbrev pub completed_by : Sheet → ℕ → ℕ
completed_by s j = set_of (λ c. eqb (last_of (chain_at s c)) j) s.head.chains

-- of each partition
unfoldable pub endings_of : Sheet → List ℕ
endings_of s = filled most_partitions s.head.partitions (completed_by s) 0

-- the desk of a sheet; an exclusion of kind 0 is from a module, of kind 1 from a cabinet
abbrev pub desk_of : Sheet → (delays : List (List ℕ)) → Desk
desk_of s delays =
    record {
      sheet = s;
      delays = delays;
      times = record { periods = periods_of s; budgets = budgets_of s };
      memories = memories_of s;
      divisors = divisors_of (periods_of s) s.head.partitions;
      apart = partners_of s 0;
      far = partners_of s 1;
      endings = endings_of s;
    }

-- the partitions before j on module m
abbrev pub held_on : (ms : List ℕ) → (m j : ℕ) → ℕ
held_on ms m j = set_of (is_on ms m) j

module _ (d : Desk) where
  -- how many starts partition j has: 0 to T - B
  abbrev pub width_of : ℕ → ℕ
  width_of j = at d.times.periods j - at d.times.budgets j + 1

  -- C5 and C4 of module m, on which the partitions of a set are
  unfoldable pub room_in : (m set : ℕ) → Bool
  room_in m set = leb (size_of set) (module_at d.sheet.modules m).most && leb (sum_over (at d.memories) set) (module_at d.sheet.modules m).memory

  -- C7 of partition i and one on module m
  unfoldable pub farther : (ms : List ℕ) → (m i : ℕ) → Bool
  farther ms m i = not (eqb (module_at d.sheet.modules (at ms i)).cabinet (module_at d.sheet.modules m).cabinet)

  -- module m admits partition j, whatever its start: C5, C4, C6 and C7
  unfoldable pub admits_on : (ms : List ℕ) → (m j : ℕ) → Bool
  admits_on ms m j =
      room_in m (with_member (held_on ms m j) j)
      && (disjoint (at d.apart j) (held_on ms m j)
      && each_in (farther ms m) (at d.far j))

  -- C2 of partitions i and j, which share a module
  abbrev pub clear_with : (ts : List ℕ) → (j i : ℕ) → Bool
  clear_with ts j i = clear_by (cell d.divisors i j) (at ts i) (at d.times.budgets i) (at ts j) (at d.times.budgets j)

  -- C8 of chain c
  unfoldable pub kept_at : (ms : List ℕ) → ℕ → Bool
  kept_at ms c =
      leb (chain_delay d.times.periods d.times.budgets d.delays ms (chain_at d.sheet c).members (chain_at d.sheet c).length) (chain_at d.sheet c).limit

  -- the module of partition j admits it, it is clear of those before it there, and the chains that it completes are kept
  unfoldable pub fits_where : (admitted : Bool) → (ms ts : List ℕ) → ℕ → Bool
  fits_where admitted ms ts j =
      admitted
      && (each_in (clear_with ts j) (held_on ms (at ms j) j)
      && each_in (kept_at ms) (at d.endings j))

  -- the placement of partition j fits those of the partitions before it
  abbrev pub fits_by : (ms ts : List ℕ) → ℕ → Bool
  fits_by ms ts j = fits_where (admits_on ms (at ms j) j) ms ts j
