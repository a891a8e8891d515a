-- A call's result in Rust is told by the numbers that its contract speaks of: two results that one contract allows are the same. So each
-- contract determines its result. Assumes nothing.
use Rattle.std.specs.Prelude.{◌≡◌, ◌≢◌, Bool, true, false, cond, Result, Ok, Err, List, [], ◌∷◌, ℕ, zero, suc, ◌-◌, ltb, leb, length, get_or}
use Rattle.std.proofs.Common.{refl, ap, sym, ◌∙◌}
use mathlib.Core.Bool.{true≢false}
use native.Mathlib.Decide.{ℕ_discrete}
use Rattle.numbers.specs.Numbers.{no_such_module, frame_too_large, too_many_slots, buffer_too_short}
use Rattle.numbers.specs.First.{broken, met, met_pass}
use Rattle.numbers.specs.Refusals.{number, number_of}
use Rattle.numbers.specs.declared.Refusal.{Refusal}
use Rattle.numbers.specs.declared.Refusal.TheVariants.{CutShort, WrongVersion, WrongCount, WrongDiagonal, WrongPartition, WrongExclusion, WrongChain, LeftOver, WrongPlan, TooLarge, NoSuchModule, FrameTooLarge, TooManySlots, BufferTooShort, WrongTable, WrongPosition, NoPlan, Stopped}
use Rattle.numbers.proofs.Refused.{number_some}
use Rattle.model.specs.declared.records.Sheet.{Sheet}
use Rattle.model.specs.declared.records.Plan.{Plan}
use Rattle.layout.specs.Values.{sheet_of}
use Rattle.reader.specs.Number.{Reading, reading_of}
use Rattle.reader.specs.Plan.{PlanReading, plan_reading_of}
use Rattle.judge.specs.declared.Answer.{Answer}
use Rattle.judge.specs.declared.Broken.{Broken}
use Rattle.judge.specs.declared.Broken.TheVariants.{OffTheModules, Overlap, PastThePeriod, PastTheMemory, PastTheMost, SharedModule, SharedCabinet, PastTheLimit}
use Rattle.judge.specs.declared.Failure.{Failure}
use Rattle.judge.specs.declared.Failure.TheVariants as failures
use Rattle.judge.specs.Answers.{broken_as, verdict_of, failed_as, answer_of}
use Rattle.judge.specs.Verdict.{judged}
use Rattle.judge.proofs.Stages.{broken_some}
use Rattle.table.specs.declared.records.Position.{Position}
use Rattle.table.specs.declared.records.Step.{Step}
use Rattle.table.specs.Layout.{most_frame, most_slots}
use Rattle.table.specs.Moved.{Moved}
use Rattle.table.specs.Step.{stepped_as}
use Rattle.search.specs.declared.Found.{Found}
use Rattle.search.specs.declared.Searched.{Searched}
use Rattle.search.specs.Answer.{found_as}
use Rattle.frames.specs.Frame.{Part, frame, slots_of}
use Rattle.builder.specs.declared.Built.{Built}
use Rattle.builder.specs.Built.{parts_on, size_of, room_number, built_number, returned, room_as, built_as, built_of}
use Rattle.builder.proofs.Returned.{failure_some}
use Rattle.ghozrembu.specs.Judged.{judged_bytes}
use Rattle.ghozrembu.specs.BuiltBytes.{parts_in, build_number, built_bytes}

-- ---- a refusal from its number, and what a constraint's number and places say
abbrev refusal_at : ℕ → Refusal
refusal_at n =
    get_or
    (CutShort ∷ WrongVersion ∷ WrongCount ∷ WrongDiagonal ∷ WrongPartition ∷ WrongExclusion ∷ WrongChain ∷ LeftOver ∷ WrongPlan
    ∷ TooLarge ∷ NoSuchModule ∷ FrameTooLarge ∷ TooManySlots ∷ BufferTooShort ∷ WrongTable ∷ WrongPosition ∷ NoPlan ∷ Stopped ∷ [])
    (n - 10) CutShort

refusal_back : (r : Refusal) → (refusal_at (number r) ≡ r) × (ltb (number r) 10 ≡ false)
refusal_back CutShort = (refl, refl)
refusal_back WrongVersion = (refl, refl)
refusal_back WrongCount = (refl, refl)
refusal_back WrongDiagonal = (refl, refl)
refusal_back WrongPartition = (refl, refl)
refusal_back WrongExclusion = (refl, refl)
refusal_back WrongChain = (refl, refl)
refusal_back LeftOver = (refl, refl)
refusal_back WrongPlan = (refl, refl)
refusal_back TooLarge = (refl, refl)
refusal_back NoSuchModule = (refl, refl)
refusal_back FrameTooLarge = (refl, refl)
refusal_back TooManySlots = (refl, refl)
refusal_back BufferTooShort = (refl, refl)
refusal_back WrongTable = (refl, refl)
refusal_back WrongPosition = (refl, refl)
refusal_back NoPlan = (refl, refl)
refusal_back Stopped = (refl, refl)

pub refusal_told : {a b : Refusal} → number a ≡ number b → a ≡ b
refusal_told {a} {b} e = sym (refusal_back a).0 ∙ ap refusal_at e ∙ (refusal_back b).0

abbrev broken_at : Answer → Broken
broken_at a =
    get_or
    (OffTheModules a.first ∷ Overlap a.first a.second ∷ PastThePeriod a.first ∷ PastTheMemory a.first ∷ PastTheMost a.first
    ∷ SharedModule a.first ∷ SharedCabinet a.first ∷ PastTheLimit a.first ∷ [])
    (a.number - 1) (OffTheModules 0)

broken_back : (b : Broken) → (broken_at (broken_as b) ≡ b) × (ltb (broken_as b).number 10 ≡ true)
broken_back (OffTheModules partition) = (refl, refl)
broken_back (Overlap first second) = (refl, refl)
broken_back (PastThePeriod partition) = (refl, refl)
broken_back (PastTheMemory m) = (refl, refl)
broken_back (PastTheMost m) = (refl, refl)
broken_back (SharedModule exclusion) = (refl, refl)
broken_back (SharedCabinet exclusion) = (refl, refl)
broken_back (PastTheLimit chain) = (refl, refl)

-- ---- a failure of the judge, from its answer
abbrev failure_at : Answer → Failure
failure_at a = cond (ltb a.number 10) (failures.Broken (broken_at a)) (failures.Refused (refusal_at a.number))

failure_back : (f : Failure) → failure_at (failed_as f) ≡ f
failure_back (failures.Refused r) = rw ((refusal_back r).1, (refusal_back r).0) refl
failure_back (failures.Broken b) = rw ((broken_back b).1, (broken_back b).0) refl

pub failure_told : {f g : Failure} → failed_as f ≡ failed_as g → f ≡ g
failure_told {f} {g} e = sym (failure_back f) ∙ ap failure_at e ∙ failure_back g

-- ---- the tests of a sheet and of a table
pub check_told : (x y : Result Unit Refusal) → number_of x ≡ number_of y → x ≡ y
check_told (Ok _) (Ok _) e = refl
check_told (Ok _) (Err s) e = absurd (number_some s (sym e))
check_told (Err r) (Ok _) e = absurd (number_some r e)
check_told (Err r) (Err s) e = ap Err (refusal_told e)

-- ---- the judge
abbrev number_in : Answer → ℕ
number_in a = a.number

pub judge_told : (x y : Result Unit Failure) → answer_of x ≡ answer_of y → x ≡ y
judge_told (Ok _) (Ok _) e = refl
judge_told (Ok _) (Err g) e = absurd (failure_some g (sym (ap number_in e)))
judge_told (Err f) (Ok _) e = absurd (failure_some f (ap number_in e))
judge_told (Err f) (Err g) e = ap Err (failure_told e)

-- ---- the search
pub search_told : (x y : Searched) → found_as x ≡ found_as y → x ≡ y
search_told x y e =
    let outcome = check_told x.outcome y.outcome (ap (λ (f : Found). f.number) e) in
    let tries = ap (λ (f : Found). f.tries) e in
    λ i. record { outcome = outcome i; tries = tries i }

-- ---- a step by value
pub step_told : (q : Position) (x y : Result Step Refusal) → stepped_as q x ≡ stepped_as q y → x ≡ y
step_told q (Ok s) (Ok t) e =
    let partition = ap (λ (m : Moved). m.partition) e in
    let position = ap (λ (m : Moved). m.position) e in
    λ i. Ok (record { partition = partition i; position = position i })
step_told q (Ok s) (Err r) e = absurd (number_some r (sym (ap (λ (m : Moved). m.number) e)))
step_told q (Err r) (Ok s) e = absurd (number_some r (ap (λ (m : Moved). m.number) e))
step_told q (Err r) (Err s) e = ap Err (refusal_told (ap (λ (m : Moved). m.number) e))

-- ---- the constraints
pub broken_told : {b c : Broken} → broken_as b ≡ broken_as c → b ≡ c
broken_told {b} {c} e = sym (broken_back b).0 ∙ ap broken_at e ∙ (broken_back c).0

pub verdict_told : (x y : Result Unit Broken) → verdict_of x ≡ verdict_of y → x ≡ y
verdict_told (Ok _) (Ok _) e = refl
verdict_told (Ok _) (Err c) e = absurd (broken_some c (sym (ap number_in e)))
verdict_told (Err b) (Ok _) e = absurd (broken_some b (ap number_in e))
verdict_told (Err b) (Err c) e = ap Err (broken_told e)

-- ---- a plan that is read
pub plan_read_told : (x y : Result Plan Refusal) → plan_reading_of x ≡ plan_reading_of y → x ≡ y
plan_read_told (Ok p) (Ok q) e = ap (λ (r : PlanReading). Ok r.plan) e
plan_read_told (Ok p) (Err r) e = absurd (number_some r (sym (ap (λ (q : PlanReading). q.number) e)))
plan_read_told (Err r) (Ok p) e = absurd (number_some r (ap (λ (q : PlanReading). q.number) e))
plan_read_told (Err r) (Err s) e = ap Err (refusal_told (ap (λ (q : PlanReading). q.number) e))

-- ---- a table that has room
pub room_told : (x y : Result ℕ Refusal) → room_as x ≡ room_as y → x ≡ y
room_told (Ok m) (Ok n) e = ap (λ (u : Built). Ok u.length) e
room_told (Ok m) (Err r) e = absurd (number_some r (sym (ap (λ (u : Built). u.number) e)))
room_told (Err r) (Ok m) e = absurd (number_some r (ap (λ (u : Built). u.number) e))
room_told (Err r) (Err s) e = ap Err (refusal_told (ap (λ (u : Built). u.number) e))

-- ---- a sheet that is read
pub read_told : (x y : Result Sheet Refusal) → reading_of x ≡ reading_of y → x ≡ y
read_told (Ok s) (Ok t) e = ap (λ (r : Reading). Ok r.sheet) e
read_told (Ok s) (Err r) e = absurd (number_some r (sym (ap (λ (q : Reading). q.number) e)))
read_told (Err r) (Ok s) e = absurd (number_some r (ap (λ (q : Reading). q.number) e))
read_told (Err r) (Err s) e = ap Err (refusal_told (ap (λ (q : Reading). q.number) e))

-- ---- the builder
-- a number that comes after the judge's is no constraint's
after_judge : (a b c d : Bool) {k : ℕ} → (k ≡ 0 → ⊥)
    → k ≡ met (broken a no_such_module) (met (broken b frame_too_large) (met (broken c too_many_slots) (broken d buffer_too_short))) → ltb k 10 ≡ false
unfolding met
after_judge true b c d ne e = rw e refl
after_judge false true c d ne e = rw e refl
after_judge false false true d ne e = rw e refl
after_judge false false false true ne e = rw e refl
after_judge false false false false ne e = absurd (ne e)

refused_at : (f : Failure) → ltb (failed_as f).number 10 ≡ false → f ≡ failures.Refused (refusal_at (failed_as f).number)
refused_at (failures.Refused r) e = ap failures.Refused (sym (refusal_back r).0)
refused_at (failures.Broken b) e = absurd (true≢false (sym (broken_back b).1 ∙ e))

-- of a judge's answer, whether the module is beyond the sheet's, its partitions and a buffer of n bytes
module _ (judge : Answer) (beyond : Bool) (ps : List Part) (n : ℕ) where
  abbrev built_k : ℕ
  built_k = met judge.number (met (broken beyond no_such_module) (room_number ps n))

  -- what the contract says of a result
  pub record Allowed (x : Result ℕ Failure) : Type 0 where
    pub built : built_as x ≡ returned built_k ps
    pub judged : judge.number ≢ 0 → answer_of x ≡ judge

  returned_number : (k : ℕ) → (returned k ps).number ≡ k
  unfolding returned
  returned_number zero = refl
  returned_number (suc k) = refl

  module _ (f : Failure) (p : Allowed (Err f)) where
    failed_number : (failed_as f).number ≡ built_k
    failed_number = ap (λ (u : Built). u.number) p.built ∙ returned_number built_k

    refused_accepted : judge.number ≡ 0 → f ≡ failures.Refused (refusal_at built_k)
    unfolding room_number
    refused_accepted z =
        refused_at f
        (after_judge beyond (ltb most_frame (frame ps)) (ltb most_slots (length (slots_of ps))) (ltb n (size_of ps)) (failure_some f) (failed_number ∙ met_pass _ _ z))
        ∙ ap (λ (k : ℕ). failures.Refused (refusal_at k)) failed_number

  pub built_told : (x y : Result ℕ Failure) → Allowed x → Allowed y → x ≡ y
  built_told (Ok a) (Ok b) p q = ap (λ (u : Built). Ok u.length) (p.built ∙ sym q.built)
  built_told (Ok a) (Err g) p q = absurd (failure_some g (sym (ap (λ (u : Built). u.number) (p.built ∙ sym q.built))))
  built_told (Err f) (Ok b) p q = absurd (failure_some f (ap (λ (u : Built). u.number) (p.built ∙ sym q.built)))
  built_told (Err f) (Err g) p q = ap Err (go (ℕ_discrete judge.number 0))
    where
      go : Dec (judge.number ≡ 0) → f ≡ g
      go (no ne) = failure_told (p.judged ne ∙ sym (q.judged ne))
      go (yes z) = refused_accepted f p z ∙ sym (refused_accepted g q z)

-- on bytes, and on decoded values
pub build_told : (sheet plan : List ℕ) (m : ℕ) (buffer : List ℕ) (x y : Result ℕ Failure)
    → built_as x ≡ built_bytes sheet plan m buffer → ((judged_bytes sheet plan).number ≢ 0 → answer_of x ≡ judged_bytes sheet plan)
    → built_as y ≡ built_bytes sheet plan m buffer → ((judged_bytes sheet plan).number ≢ 0 → answer_of y ≡ judged_bytes sheet plan) → x ≡ y
unfolding built_bytes build_number
build_told sheet plan m buffer x y b j c k =
    built_told (judged_bytes sheet plan) (leb (sheet_of sheet).head.modules m) (parts_in sheet plan m) (length buffer) x y
    (record { built = b; judged = j }) (record { built = c; judged = k })

pub decoded_build_told : (s : Sheet) (delays : List (List ℕ)) (p : Plan) (m : ℕ) (buffer : List ℕ) (x y : Result ℕ Failure)
    → built_as x ≡ built_of s delays p m buffer → ((judged s delays p).number ≢ 0 → answer_of x ≡ judged s delays p)
    → built_as y ≡ built_of s delays p m buffer → ((judged s delays p).number ≢ 0 → answer_of y ≡ judged s delays p) → x ≡ y
unfolding built_number
decoded_build_told s delays p m buffer x y b j c k =
    built_told (judged s delays p) (leb s.head.modules m) (parts_on s p m) (length buffer) x y (record { built = b; judged = j })
    (record { built = c; judged = k })
