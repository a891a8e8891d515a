-- The placements of a partition in the order of its tries: document 01, "A placement gives a partition a module 0 to M - 1 and a start
-- 0 to T - B" and "Tries go by partition, module, then start, all ascending". A placement is a module and a start. Assumes nothing.
use Rattle.std.specs.Prelude.{List, [], ◌∷◌, ◌++◌, map, ℕ, zero, suc, ◌+◌}

-- i, i + 1, .., n of them
unfoldable pub upward : ℕ → ℕ → List ℕ
upward zero i = []
upward (suc n) i = i ∷ upward n (i + 1)

-- (i, 0), (i, 1), .., (i + 1, 0), ..: n rows of w
unfoldable pub grid : ℕ → ℕ → ℕ → List (ℕ × ℕ)
grid w zero i = []
grid w (suc n) i = map {B = ℕ × ℕ} (λ t. (i, t)) (upward w 0) ++ grid w n (i + 1)

-- the placements of partition j: each start below `width j`, in each module in turn
abbrev pub placements : (modules : ℕ) (width : ℕ → ℕ) → ℕ → List (ℕ × ℕ)
placements modules width j = grid (width j) modules 0
