-- The search as the code runs it: the plan stands in two columns, of modules and of starts, and `over` and `attempt` call each other. Their
-- contracts name these definitions; that this search gives `answer` is proved (proofs/TwoArrays.antt, `code_answers`). Assumes nothing.
use Rattle.std.specs.Prelude.{Bool, true, false, cond, List, [], ◌∷◌, ℕ, zero, suc, ◌+◌, take, set, leb, ltb}
use Rattle.tries.specs.Tries.{Answer, found, absent, stopped}

-- where the search stands: whether it has ended, the tries made, and the two columns of the plan
pub record Standing : Type 0 where
  pub found : Bool
  pub stopped : Bool
  pub tries : ℕ
  pub modules : List ℕ
  pub starts : List ℕ

-- k tries made, and no end yet
abbrev pub begun : ℕ → List ℕ → List ℕ → Standing
begun k ms ts = record { found = false; stopped = false; tries = k; modules = ms; starts = ts }

-- f at i, i + 1, .., n of them, until the search has ended: a loop
unfoldable pub rounds : (ℕ → Standing → Standing) → ℕ → ℕ → Standing → Standing
rounds f zero i o = o
rounds f (suc n) i o = cond o.found o (cond o.stopped o (rounds f n (i + 1) (f i o)))

-- a search for `count` partitions on `modules` modules, where partition j has `width j` starts; `fits ms ts j` tests the placement of partition j
-- after those of the partitions before it; at most `limit` tries are made
module _ (count modules : ℕ) (width : ℕ → ℕ) (fits : List ℕ → List ℕ → ℕ → Bool) (limit : ℕ) where
  -- one try: partition j is placed, and where that fits the plan is found, or `next` goes on with the partitions left
  -- "the next partition is taken up only from inside a try"
  unfoldable pub attempt_of : (Standing → Standing) → ℕ → ℕ → ℕ → Standing → Standing
  attempt_of next j m t o =
      let ms : List ℕ = set o.modules j m in
      let ts : List ℕ = set o.starts j t in
      cond (leb limit o.tries) (record { found = false; stopped = true; tries = o.tries; modules = o.modules; starts = o.starts })
      (cond (fits ms ts j)
      (cond (ltb (j + 1) count) (next (begun (o.tries + 1) ms ts))
      (record { found = true; stopped = false; tries = o.tries + 1; modules = ms; starts = ts }))
      (begun (o.tries + 1) ms ts))

  -- the search over the placements of partition j, with r partitions left: "by partition, module, then start, all ascending"
  unfoldable pub search_of : ℕ → ℕ → Standing → Standing
  search_of zero j o = o
  search_of (suc r) j o = rounds (λ m. rounds (λ t. attempt_of (search_of r (j + 1)) j m t) (width j) 0) modules 0 o

-- the placements of two columns, side by side
unfoldable pub pairs : List ℕ → List ℕ → List (ℕ × ℕ)
pairs [] ts = []
pairs (m ∷ ms) [] = []
pairs (m ∷ ms) (t ∷ ts) = (m, t) ∷ pairs ms ts

-- the first j placements of two columns
abbrev pub placed : ℕ → List ℕ → List ℕ → List (ℕ × ℕ)
placed j ms ts = pairs (take j ms) (take j ts)

-- the answer that a search of n partitions gives where it ends
unfoldable pub shown : ℕ → Standing → Answer (ℕ × ℕ)
shown n o =
    cond o.found (found (placed n o.modules o.starts) o.tries)
    (cond o.stopped (stopped o.tries) (absent o.tries))
