-- `table::dispatcher::step_from` meets its contract: 24, then 25, then the step.
-- Assumes nothing.
use Rattle.std.proofs.Common.{rules, ◌≡◌, ◌∙◌, refl, ap, sym, List, ℕ}
use Rattle.numbers.specs.Refusals.{number}
use Rattle.numbers.proofs.Refused.{number_some}
use Rattle.table.specs.Sound.{form_number}
use Rattle.table.specs.Step.{refused, stepped, stepped_as}
use Rattle.table.proofs.Numbers.{valid, stepped_form, stepped_position, stepped_fine}
use Rattle.table.proofs.dispatcher.step_from.Goals as goal

pub returns-in_err-table : goal.returns-in_err-table
returns-in_err-table c =
    let same : stepped_as c.args.position c.from_residual.result ≡ refused (number c.in_err-table.field-0.0) c.args.position = search rules in
    same ∙ stepped_form _ _ c.in_err-table.ensures.number (number_some _)

pub returns-in_err-check_position : goal.returns-in_err-check_position
returns-in_err-check_position c =
    let t = c.in_ok-table.table in
    let q = c.args.position in
    let form : 0 ≡ form_number t.bytes.now = rw c.in_ok-table.ensures.same_bytes c.in_ok-table.ensures.number in
    let late = c.in_err-check_position.ensures _ c.pointed-slot.ensures in
    let same : stepped_as q c.from_residual-in_err-check_position.result ≡ refused (number c.in_err-check_position.field-0.0) q = search rules in
    same ∙ stepped_position _ q t.head t.formed form late (number_some _) ∙ ap (λ (b : List ℕ). stepped b q) c.in_ok-table.ensures.same_bytes

pub onward-position-requires-clause-tick : goal.onward-position-requires-clause-tick
onward-position-requires-clause-tick c = (valid _ _ _ (sym (c.in_ok-check_position.ensures _ c.pointed-slot.ensures))).tick

pub returns : goal.returns
returns c =
    let t = c.in_ok-table.table in
    let q = c.args.position in
    let form : 0 ≡ form_number t.bytes.now = rw c.in_ok-table.ensures.same_bytes c.in_ok-table.ensures.number in
    let fine = c.in_ok-check_position.ensures _ c.pointed-slot.ensures in
    let partition = c.named-partition.ensures _ _ c.pointed-slot.ensures in
    let position = c.onward-position.ensures _ _ c.pointed-slot.ensures in
    (λ i. record { number = 0; partition = partition i; position = position i })
    ∙ stepped_fine _ q t.head t.formed form fine refl ∙ ap (λ (b : List ℕ). stepped b q) c.in_ok-table.ensures.same_bytes
