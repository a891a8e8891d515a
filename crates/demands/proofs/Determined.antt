-- Each public call's contract determines its result and every lent byte and position: two outcomes that it allows coincide. A contract is an
-- equation with a definition, so one law serves every call; the lemmas below put it to each. Assumes nothing.
use mathlib.Core.Path.{◌≡◌, sym, ◌∙◌}
use mathlib.Core.List.{List}
use Prim.Native.Nat.{ℕ}
use lib.ListN.{length}
use Rattle.model.specs.Decoded.{decoded_number}
use Rattle.model.specs.declared.records.Plan.{Plan}
use Rattle.model.specs.declared.records.Sheet.{Sheet}
use Rattle.reader.specs.Number.{Reading, sheet_number, sheet_read, delays_read}
use Rattle.judge.specs.Verdict.{judged}
use Rattle.search.specs.Answer.{found_of, buffer_after}
use Rattle.builder.specs.Built.{built_of, buffer_of}
use Rattle.table.specs.Sound.{table_number}
use Rattle.table.specs.Step.{stepped}
use Rattle.table.specs.declared.records.Position.{Position}
use Rattle.judge.specs.declared.Answer.{Answer}
use Rattle.builder.specs.declared.Built.{Built}
use Rattle.search.specs.declared.Found.{Found}
use Rattle.ghozrembu.specs.Judged.{judged_bytes}
use Rattle.ghozrembu.specs.BuiltBytes.{built_bytes, buffer_built}
use Rattle.ghozrembu.specs.FoundBytes.{found_bytes, buffer_found}

-- what equals one thing is equal
pub determined : {A : Type 0} {x y : A} (z : A) → x ≡ z → y ≡ z → x ≡ y
determined z p q = p ∙ sym q

pub sheet_number_determined : (sheet : List ℕ) {x y : ℕ} → x ≡ sheet_number sheet → y ≡ sheet_number sheet → x ≡ y
sheet_number_determined sheet = determined (sheet_number sheet)

pub judge_determined : (sheet plan : List ℕ) {x y : Answer} → x ≡ judged_bytes sheet plan → y ≡ judged_bytes sheet plan → x ≡ y
judge_determined sheet plan = determined (judged_bytes sheet plan)

pub table_number_determined : (table : List ℕ) {x y : ℕ} → x ≡ table_number table → y ≡ table_number table → x ≡ y
table_number_determined table = determined (table_number table)

-- a call with something lent: what it returns, and what the lent thing holds
module _ {R D : Type 0} (f : R) (g : D) where
  pub record Outcome (r : R) (d : D) : Type 0 where
    pub returns : r ≡ f
    pub leaves : d ≡ g

  pub lent_determined : {x y : R} {d e : D} → Outcome x d → Outcome y e → (x ≡ y) × (d ≡ e)
  lent_determined p q = (determined f p.returns q.returns, determined g p.leaves q.leaves)

pub search_determined : (sheet : List ℕ) (budget : ℕ) (buffer : List ℕ) {x y : Found} {d e : List ℕ}
    → Outcome (found_bytes sheet budget (length buffer)) (buffer_found sheet budget buffer) x d
    → Outcome (found_bytes sheet budget (length buffer)) (buffer_found sheet budget buffer) y e → (x ≡ y) × (d ≡ e)
search_determined sheet budget buffer = lent_determined _ _

pub build_determined : (sheet plan : List ℕ) (m : ℕ) (buffer : List ℕ) {x y : Built} {d e : List ℕ}
    → Outcome (built_bytes sheet plan m buffer) (buffer_built sheet plan m buffer) x d
    → Outcome (built_bytes sheet plan m buffer) (buffer_built sheet plan m buffer) y e → (x ≡ y) × (d ≡ e)
build_determined sheet plan m buffer = lent_determined _ _

-- the lent step: number, partition, and the position afterwards
pub record StepOutcome (table : List ℕ) (q : Position) (number partition : ℕ) (after : Position) : Type 0 where
  pub numbered : number ≡ (stepped table q).number
  pub named : partition ≡ (stepped table q).partition
  pub moved : after ≡ (stepped table q).position

pub step_determined : (table : List ℕ) (q : Position) {n m a b : ℕ} {p r : Position} → StepOutcome table q n a p → StepOutcome table q m b r
    → (n ≡ m) × (a ≡ b) × (p ≡ r)
step_determined table q x y =
    (determined _ x.numbered y.numbered, determined _ x.named y.named, determined _ x.moved y.moved)

-- ---- the calls on decoded values
module _ (s : Sheet) (delays : List (List ℕ)) where
  pub decoded_number_determined : {x y : ℕ} → x ≡ decoded_number s delays → y ≡ decoded_number s delays → x ≡ y
  decoded_number_determined = determined (decoded_number s delays)

  pub decoded_judge_determined : (p : Plan) {x y : Answer} → x ≡ judged s delays p → y ≡ judged s delays p → x ≡ y
  decoded_judge_determined p = determined (judged s delays p)

  pub decoded_search_determined : (budget : ℕ) (buffer : List ℕ) {x y : Found} {d e : List ℕ}
      → Outcome (found_of s delays budget (length buffer)) (buffer_after s delays budget buffer) x d
      → Outcome (found_of s delays budget (length buffer)) (buffer_after s delays budget buffer) y e → (x ≡ y) × (d ≡ e)
  decoded_search_determined budget buffer = lent_determined _ _

  pub decoded_build_determined : (p : Plan) (m : ℕ) (buffer : List ℕ) {x y : Built} {d e : List ℕ}
      → Outcome (built_of s delays p m buffer) (buffer_of s delays p m buffer) x d
      → Outcome (built_of s delays p m buffer) (buffer_of s delays p m buffer) y e → (x ≡ y) × (d ≡ e)
  decoded_build_determined p m buffer = lent_determined _ _

-- ---- the reader, with its lent rows of delays
pub read_determined : (sheet : List ℕ) (rows : List (List ℕ)) {x y : Reading} {d e : List (List ℕ)}
    → Outcome (sheet_read sheet) (delays_read sheet rows) x d → Outcome (sheet_read sheet) (delays_read sheet rows) y e → (x ≡ y) × (d ≡ e)
read_determined sheet rows = lent_determined _ _
