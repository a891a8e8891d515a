use Rattle.std.proofs.Common.{rules, ap, ◌∙◌}
use Rattle.lists.specs.Filled.{get_d_filled}
use Rattle.model.specs.Limits.{most_chains}
use Rattle.judge.specs.Constraints.{at}
use Rattle.judge.specs.Verdict.{chain_at}
use Rattle.sound.specs.Desk.{last_of}
use Rattle.sound.proofs.desk.endings_of.Goals as goal

pub endings_by-requires-clause-lasts : goal.endings_by-requires-clause-lasts
endings_by-requires-clause-lasts c =
    let s = c.args.s.now in
    λ x l. ap (λ lasts. at lasts x) (c.filled.ensures (λ x. last_of (chain_at s x)) (λ x r h p. search rules))
    ∙ get_d_filled most_chains s.head.chains (λ x. last_of (chain_at s x)) 0 0 x l c.requires.0
