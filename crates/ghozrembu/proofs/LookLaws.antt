-- A budget's four bytes are its two fields of 16 bits.
-- Assumes nothing.
use mathlib.Core.Path.{◌≡◌, ap}
use mathlib.Core.List.{List}
use Prim.Native.Nat.{ℕ, ◌+◌, ◌*◌, ◌<◌}
use native.Mathlib.Omega.{arith}
use lib.ListN.{length, get_or}
use Rattle.std.specs.Int.{w32, from_be_bytes}
use Rattle.bits.proofs.Laws.{field_in_two, field_of_byte}
use borrow.Author.Tests.{eq-eqb}
use Rattle.bits.specs.Field.{field_of}
use Rattle.ghozrembu.specs.Looks.{budget_of}

module _ (b : List ℕ) where
  -- two bytes are a field of 16 bits
  two_bytes : (i : ℕ) → ((i : ℕ) → get_or b i 0 < 256) → field_of b (8 * i) 16 ≡ get_or b i 0 * 256 + get_or b (i + 1) 0
  two_bytes i small =
      let next : 8 * i + 8 ≡ 8 * (i + 1) = omega arith in
      omega (
        arith,
        field_in_two b (8 * i) 8 8,
        field_of_byte b i (small i),
        ap (λ (p : ℕ). field_of b p 8) next,
        field_of_byte b (i + 1) (small (i + 1)),
      )

  pub budget_of_four : length b ≡ 4 → ((i : ℕ) → get_or b i 0 < 256) → {c : List ℕ} → c ≡ b → from_be_bytes w32 c ≡ budget_of b
  unfolding budget_of
  budget_of_four e small g = rw (g, eq-eqb (length b) 4 e) (omega (arith, two_bytes 0 small, two_bytes 2 small))
