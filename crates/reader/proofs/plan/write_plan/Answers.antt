-- The bytes that `fill` wrote are zeros, and the placements stand over them.
use Rattle.std.proofs.Common.{◌≡◌, ◌∙◌, ◌++◌, arith, replicate, drop, length, take}
use Rattle.std.proofs.lemmas.List.{length-take-le}
use Rattle.reader.specs.Plan.{plan_length}
use Rattle.reader.proofs.Plans.{plan_in_front}
use Rattle.reader.proofs.plan.write_plan.Goals as goal

pub returns : goal.returns
returns c =
    let last : c.loop-i.i ≡ c.args.n = omega arith in
    let room : length (take c.length_of.result c.args.d.now) ≡ c.length_of.result = length-take-le _ _ (omega arith) in
    let front : c.fill.new.self ++ drop c.length_of.result c.args.d.now ≡ replicate (plan_length c.args.n) 0 ++ drop (plan_length c.args.n) c.args.d.now =
    rw (c.fill.ensures.after (λ y p. p), room, c.length_of.ensures) in
    rw last at c.loop-i.invariant ∙ plan_in_front _ _ _ _ front
