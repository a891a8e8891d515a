-- `euclid::gcd` meets its contract: a call of itself by the next of Euclid's steps.
-- Assumes nothing.
use mathlib.Core.Path.{sym, ◌∙◌, ap}
use Rattle.euclid.specs.Euclid.{gcd_of}
use Rattle.euclid.proofs.Steps.{gcd_zero, gcd_step}
use Rattle.euclid.proofs.+gcd.Goals as goal

pub returns-then-b-eq0 : goal.returns-then-b-eq0
returns-then-b-eq0 t c = sym (ap (gcd_of c.args.a) c.if-b-eq0.true ∙ gcd_zero c.args.a)

pub returns-else-b-eq0 : goal.returns-else-b-eq0
returns-else-b-eq0 t c = c.gcd.ensures ∙ sym (gcd_step c.args.a c.args.b c.if-b-eq0.false)
