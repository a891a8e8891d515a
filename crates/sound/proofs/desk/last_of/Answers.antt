-- The largest of the members is what `max` gives of them, and 0 stands where there is none.
use Rattle.std.proofs.Common.{rules, ◌≡◌, ◌≤◌, length, unwrap_or, ap, ◌∙◌}
use Rattle.std.specs.Prelude.{take, min}
use Rattle.std.proofs.lemmas.Iterator.{YieldsList-from_slice}
use Rattle.std.proofs.lemmas.Iterator.Consumers.{YieldsList-at, YieldsList-from_copied, reduce_from_yields_List}
use Rattle.sound.proofs.Tables.{largest_is, largest_within}
use Rattle.sound.proofs.desk.last_of.Goals as goal

pub returns : goal.returns
returns c =
    let chain = c.args.chain.now in
    let n = c.min-n.result in
    let few : n ≡ min chain.length (length chain.members) = search rules in
    let room : n ≤ length chain.members = search rules in
    let lent : c.iter.result.rest.now ≡ take n chain.members = search rules in
    let road = YieldsList-from_copied (YieldsList-at c.copied.ensures.source (YieldsList-from_slice _ lent)) in
    c.unwrap_or.ensures
    ∙ ap (λ most. unwrap_or most 0) (reduce_from_yields_List _ c.copied.result _ c.max.ensures.ran road)
    ∙ largest_is chain.members n room
    ∙ largest_within chain.members chain.length n few
