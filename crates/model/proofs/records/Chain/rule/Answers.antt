use Rattle.std.proofs.Common.{rules}
use Rattle.model.specs.Rules.{member_rule, members_rule}
use Rattle.model.proofs.records.Chain.rule.Goals as goal

pub returns : goal.returns
unfolding members_rule
returns c = cc (c.each.ensures (member_rule c.args.n c.args.self.members) (λ j r h p. search rules))
