-- The slots found one after the other: the next execution among the partitions, and on from its end.
-- Assumes nothing.
use Rattle.std.specs.Prelude.{true, false, cond, List, [], ◌∷◌, ℕ, zero, suc, ◌+◌, ltb}
use Rattle.overlap.specs.Overlap.{gap_of}
use Rattle.table.specs.declared.records.Slot.{Slot}
use Rattle.table.specs.Slots.{end}
use Rattle.frames.specs.Frame.{Part, execution, frame}

-- the first tick from n on at which an execution of p begins: n + (start + (period - n % period)) % period
abbrev pub next : Part → ℕ → ℕ
next p n = n + gap_of p.period n p.start

-- the earlier of the best so far and p's next execution
abbrev pub closer : ℕ → Slot → Part → Slot
closer n best p = cond (ltb (next p n) best.start) (execution p (next p n)) best

-- the best of all, one partition after the other
unfoldable pub soonest : ℕ → Slot → List Part → Slot
soonest n best [] = best
soonest n best (p ∷ ps) = soonest n (closer n best p) ps

-- no execution before F
abbrev pub beyond : ℕ → Slot
beyond F = record { start = F; length = 0; partition = 0 }

-- k slots at most, from tick n on
unfoldable pub built_from : ℕ → List Part → ℕ → ℕ → List Slot
built_from F ps zero n = []
built_from F ps (suc k) n =
    let x : Slot = soonest n (beyond F) ps in
    elim (ltb x.start F) [ true ↦ x ∷ built_from F ps k (end x) | false ↦ [] ]

abbrev pub built : List Part → List Slot
built ps = built_from (frame ps) ps (frame ps) 0
