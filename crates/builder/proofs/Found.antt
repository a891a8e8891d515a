-- The frame of a set of partitions as it is found: where the walk over them stops early, and where it ends.
-- Assumes nothing.
use mathlib.Core.Path.{◌≡◌}
use mathlib.Core.List.{List}
use Prim.Native.Nat.{ℕ, ◌≤◌, ◌<◌}
use native.Mathlib.Omega.{arith}
use Rattle.sets.specs.Members.{places, member}
use Rattle.table.specs.Layout.{most_frame}
use Rattle.frames.specs.Frame.{Part, All, frame_from, frame}
use Rattle.frames.proofs.Lcm.{Positive, frame_grows}
use Rattle.frames.proofs.Kept.{kept_all}
use Rattle.builder.specs.Parts.{part_at, parts_of}
use Rattle.builder.specs.Asked.{Timed, FrameFound}

-- the periods of a timed set are positive
pub timed_positive : (T B ts : List ℕ) (x : ℕ) → Timed T x → All Positive (parts_of T B ts x)
timed_positive T B ts x t = kept_all (member x) (part_at T B ts) Positive places (λ j l e. (t j e).0)

pub found_early : (ps rest : List Part) {f : ℕ} → All Positive rest → 1 ≤ f → frame_from f rest ≡ frame ps → most_frame < f → FrameFound ps f
found_early ps rest {f} pos h e l =
    let g = frame_grows f rest h pos in
    record { exact = λ k. absurd (omega arith); past = λ k. omega arith }

pub found_whole : (ps : List Part) {f : ℕ} → f ≡ frame ps → FrameFound ps f
found_whole ps e = record { exact = λ k. e; past = λ k. omega arith }
