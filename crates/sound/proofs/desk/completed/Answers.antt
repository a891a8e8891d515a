use Rattle.std.specs.Prelude.{eqb}
use Rattle.std.proofs.Common.{rules}
use Rattle.judge.specs.Verdict.{chain_at}
use Rattle.sound.specs.Desk.{last_of}
use Rattle.sound.proofs.desk.completed.Goals as goal

pub returns : goal.returns
returns c = c.set_of.ensures (λ x. eqb (last_of (chain_at c.args.s.now x)) c.args.j) (λ x h l p. search (rules, c.requires.lasts x l))
