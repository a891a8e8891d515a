-- The least common multiple, by Euclid, and the frame: every period divides it, and it divides whatever they all divide.
-- Assumes nothing.
use mathlib.Core.List.{List, [], ◌∷◌}
use Prim.Native.Nat.{ℕ, ◌≤◌, ◌∣◌}
use native.Mathlib.Nat.{dvd_refl, one-dvd, dvd_trans, le_of_dvd}
use native.Mathlib.Omega.{arith}
use Rattle.euclid.specs.Euclid.{lcm_of}
use Rattle.euclid.proofs.Laws.{lcm_left, lcm_right, lcm_pos, lcm_least}
use Rattle.frames.specs.Frame.{Part, In, here, there, All, frame_from, frame}

abbrev pub Positive : Part → Type 0
Positive p = 1 ≤ p.period

from_divides : (f : ℕ) (ps : List Part) → f ∣ frame_from f ps
unfolding frame_from
from_divides f [] = dvd_refl f
from_divides f (p ∷ ps) = dvd_trans f (lcm_left f p.period) (from_divides (lcm_of f p.period) ps)

from_pos : (f : ℕ) (ps : List Part) → 1 ≤ f → All Positive ps → 1 ≤ frame_from f ps
unfolding frame_from
from_pos f [] h a = h
from_pos f (p ∷ ps) h a = from_pos (lcm_of f p.period) ps (lcm_pos f p.period h a.0) a.1

from_period : {p : Part} (f : ℕ) {ps : List Part} → In p ps → p.period ∣ frame_from f ps
unfolding frame_from
from_period {p = p} f (here {ps = ps}) = dvd_trans p.period (lcm_right f p.period) (from_divides (lcm_of f p.period) ps)
from_period f (there {q = q} i) = from_period (lcm_of f q.period) i

from_least : (f : ℕ) (ps : List Part) (k : ℕ) → 1 ≤ f → All Positive ps → f ∣ k → All (λ p. p.period ∣ k) ps → frame_from f ps ∣ k
unfolding frame_from
from_least f [] k h a d e = d
from_least f (p ∷ ps) k h a d e =
    from_least (lcm_of f p.period) ps k (lcm_pos f p.period h a.0) a.1 (lcm_least f p.period h k d e.0) e.1

-- every period divides the frame
pub period_divides : {p : Part} {ps : List Part} → In p ps → p.period ∣ frame ps
period_divides i = from_period 1 i

pub frame_pos : (ps : List Part) → All Positive ps → 1 ≤ frame ps
frame_pos ps a = from_pos 1 ps (omega arith) a

-- the frame divides whatever all the periods divide, so it is the least
pub frame_least : (ps : List Part) (k : ℕ) → All Positive ps → All (λ p. p.period ∣ k) ps → frame ps ∣ k
frame_least ps k a e = from_least 1 ps k (omega arith) a (one-dvd k) e

-- it is at least what it was after some of the periods: the builder may stop at a number that is too large
pub frame_grows : (f : ℕ) (ps : List Part) → 1 ≤ f → All Positive ps → f ≤ frame_from f ps
frame_grows f ps h a = le_of_dvd (from_pos f ps h a) (from_divides f ps)

-- and at most any common multiple
pub frame_at_most : (ps : List Part) (k : ℕ) → 1 ≤ k → All Positive ps → All (λ p. p.period ∣ k) ps → frame ps ≤ k
frame_at_most ps k h a e = le_of_dvd h (frame_least ps k a e)
