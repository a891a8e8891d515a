use Rattle.std.proofs.Common.{rules, arith, ◌≡◌, ◌∙◌, refl}
use Rattle.numbers.specs.First.{first_start, first_hit, first_pass, first_end}
use Rattle.numbers.specs.Refusals.{number, number_of}
use Rattle.numbers.proofs.Refused.{number_some}
use Rattle.numbers.proofs.each.Goals as goal

pub loop-i-init : goal.loop-i-init
loop-i-init g c = λ f h. (omega arith, first_start f _)

pub loop-i-preserved : goal.loop-i-preserved
loop-i-preserved g c = λ f h. let inv = c.loop-i.invariant f h in
    (omega arith, first_pass f _ c.loop-i.i {x = 0} c.loop-i-test.true (h _ _ c.loop-i-test.true (c.in_ok-check.ensures)) refl inv.1)

pub returns-in_err-check : goal.returns-in_err-check
returns-in_err-check g c = λ f h. let inv = c.loop-i.invariant f h in
    let same : number_of c.from_residual.result ≡ number c.in_err-check.field-0.0 = search rules in
    same ∙ first_hit f _ c.loop-i.i c.loop-i-test.true (h _ _ c.loop-i-test.true (c.in_err-check.ensures)) (number_some _) inv.1

pub returns : goal.returns
returns g c = λ f h. let inv = c.loop-i.invariant f h in first_end f _ c.loop-i.i inv.0 c.loop-i-test.false inv.1
