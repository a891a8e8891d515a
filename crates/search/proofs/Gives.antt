-- The search that the code runs gives the answer of the definition. Assumes nothing.
use mathlib.Core.Path.{◌≡◌, sym, ◌∙◌}
use mathlib.Core.Bool.{true}
use mathlib.Core.List.{List}
use Prim.Native.Nat.{ℕ, suc, ◌+◌, ◌-◌, ◌<◌, ◌≤◌}
use native.Mathlib.Omega.{arith}
use native.Mathlib.Numerals.{add-one}
use lib.ListN.{length}
use Rattle.model.specs.Limits.{most_partitions}
use Rattle.model.specs.Fair.{Fair}
use Rattle.model.specs.declared.records.Sheet.{Sheet}
use Rattle.judge.specs.Constraints.{at}
use Rattle.tries.specs.Code.{Standing, begun, search_of, placed, shown}
use Rattle.tries.proofs.TwoArrays.{code_answers}
use Rattle.tries.proofs.Kept.{search_lengths}
use Rattle.sound.specs.Sound.{starts_of, sound}
use Rattle.search.specs.Answer.{answer_of}
use Rattle.sound.specs.Desk.{desk_of, fits_by}
use Rattle.sound.specs.Asked.{Ready}
use Rattle.search.specs.Standing.{Searched, Ran}
use Rattle.sound.proofs.Hereditary.{hereditary, placed_sound}
use Rattle.sound.proofs.Judges.{judges}
use Rattle.sound.proofs.Laid.{fair_laid}

module _ (s : Sheet) (delays : List (List ℕ)) (fair : Fair s delays) where
  abbrev N : ℕ
  N = s.head.partitions

  pub search_gives : (limit : ℕ) (ms ts : List ℕ) → N ≤ length ms → N ≤ length ts
      → shown N (search_of N s.head.modules (starts_of s) (fits_by (desk_of s delays)) limit N 0 (begun 0 ms ts)) ≡ answer_of s delays limit
  unfolding answer_of
  search_gives limit ms ts l k =
      code_answers N s.head.modules (starts_of s) (fits_by (desk_of s delays)) limit (sound s delays) (hereditary s delays) law ms ts l k
    where
      law : (j : ℕ) (ms ts : List ℕ) → j < N → at ms j < s.head.modules → at ts j < starts_of s j → N ≤ length ms → N ≤ length ts
          → sound s delays (placed j ms ts) ≡ true → fits_by (desk_of s delays) ms ts j ≡ sound s delays (placed (j + 1) ms ts)
      law j ms ts h on within l k e =
          judges s delays fair j ms ts h on within (sym (placed_sound s delays j ms ts (omega arith) (omega arith)) ∙ e)
          ∙ sym (rw add-one (placed_sound s delays (suc j) ms ts (omega arith) (omega arith)))

  -- ---- the search over the desk
  -- may begin
  pub begins : (ms : List ℕ) → most_partitions ≤ length ms → Ready (desk_of s delays) ms 0
  begins ms l = record {
    laid = fair_laid s delays fair;
    left = fair.head.some_partition;
    long = omega (arith, fair.head.inside.partitions);
    placed = λ i l. absurd (omega arith);
  }

  -- and gives the answer
  pub ends : (limit : ℕ) (ms ts : List ℕ) → most_partitions ≤ length ms → most_partitions ≤ length ts
      → (o : Standing) → Searched (desk_of s delays) limit 0 (begun 0 ms ts) o → Ran s delays limit o
  ends limit ms ts l q o same-o =
      let few = fair.head.inside.partitions in
      let none : N - 0 ≡ N = omega arith in
      let same = search_lengths N s.head.modules (starts_of s) (fits_by (desk_of s delays)) limit (N - 0) 0 (begun 0 ms ts) in
      rw same-o (record {
        answer = rw none (search_gives limit ms ts (omega arith) (omega arith));
        modules = omega (arith, same.modules);
        starts = omega (arith, same.starts);
      })
