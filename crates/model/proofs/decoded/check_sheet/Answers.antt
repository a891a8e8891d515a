use Rattle.std.proofs.Common.{rules, refl, ◌≡◌, ◌∙◌, ℕ}
use Rattle.numbers.specs.First.{met, met_stop, met_go}
use Rattle.numbers.specs.Refusals.{number}
use Rattle.numbers.specs.declared.Refusal.{Refusal}
use Rattle.numbers.proofs.Refused.{number_some}
use Rattle.model.specs.Decoded.{decoded_number, decoded_modules, decoded_delays, decoded_partitions, decoded_exclusions, decoded_chains}
use Rattle.model.proofs.decoded.check_sheet.Goals as goal

-- a part that is passed, and one that is refused
passed : {x y n : ℕ} → 0 ≡ x → n ≡ y → n ≡ met x y
passed e rest = met_go 0 _ _ _ e refl rest

refused : {x n : ℕ} (y : ℕ) (r : Refusal) → number r ≡ x → n ≡ number r → n ≡ met x y
refused y r e same = same ∙ met_stop _ _ _ e (number_some _)

pub returns-in_err-check : goal.returns-in_err-check
unfolding decoded_number
returns-in_err-check c = refused _ _ c.in_err-check.ensures (search rules)

pub returns-in_err-each : goal.returns-in_err-each
unfolding decoded_number decoded_modules
returns-in_err-each c = passed c.in_ok-check.ensures (refused _ _ (c.in_err-each.ensures _ (λ i r h p. search rules)) (search rules))

pub returns-in_err-each-2 : goal.returns-in_err-each-2
unfolding decoded_number decoded_modules decoded_delays
returns-in_err-each-2 c =
    passed c.in_ok-check.ensures (passed (c.in_ok-each.ensures _ (λ i r h p. search rules))
    (refused _ _ (c.in_err-each-2.ensures _ (λ i r h p. search rules)) (search rules)))

pub returns-in_err-each-3 : goal.returns-in_err-each-3
unfolding decoded_number decoded_modules decoded_delays decoded_partitions
returns-in_err-each-3 c =
    passed c.in_ok-check.ensures (passed (c.in_ok-each.ensures _ (λ i r h p. search rules)) (passed (c.in_ok-each-2.ensures _ (λ i r h p. search rules))
    (refused _ _ (c.in_err-each-3.ensures _ (λ i r h p. search rules)) (search rules))))

pub returns-in_err-each-4 : goal.returns-in_err-each-4
unfolding decoded_number decoded_modules decoded_delays decoded_partitions decoded_exclusions
returns-in_err-each-4 c =
    passed c.in_ok-check.ensures (passed (c.in_ok-each.ensures _ (λ i r h p. search rules)) (passed (c.in_ok-each-2.ensures _ (λ i r h p. search rules))
    (passed (c.in_ok-each-3.ensures _ (λ i r h p. search rules)) (refused _ _ (c.in_err-each-4.ensures _ (λ i r h p. search rules)) (search rules)))))

pub returns : goal.returns
unfolding decoded_number decoded_modules decoded_delays decoded_partitions decoded_exclusions decoded_chains
returns c =
    passed c.in_ok-check.ensures (passed (c.in_ok-each.ensures _ (λ i r h p. search rules)) (passed (c.in_ok-each-2.ensures _ (λ i r h p. search rules))
    (passed (c.in_ok-each-3.ensures _ (λ i r h p. search rules)) (passed (c.in_ok-each-4.ensures _ (λ i r h p. search rules)) (c.each-5.ensures _ (λ i r h p. search rules))))))
