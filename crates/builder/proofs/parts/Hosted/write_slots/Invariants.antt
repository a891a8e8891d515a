-- `builder::slots::write_slots` meets its contract. The invariant: the first i slots are written, and those from tick n on are left. The measure: the
-- slots left.
-- Assumes nothing.
use mathlib.Core.Path.{◌≡◌}
use Prim.Native.Nat.{◌≤◌}
use lib.ListN.{drop}
use Rattle.frames.specs.Frame.{slots_of}
use Rattle.builder.specs.Parts.{parts_of}
use Rattle.builder.proofs.Written.{left_from, written}
use Rattle.builder.proofs.parts.Hosted.write_slots.Given as goal

abbrev pub invariant-loop-i : goal.invariant-loop-i
invariant-loop-i l = (l.n ≤ l.t.frame) × (l.buffer ≡ written l.initial.buffer (slots_of (parts_of l.self.times.now.periods l.self.times.now.budgets l.self.plan.now.starts l.self.set)) l.i) × (left_from (parts_of l.self.times.now.periods l.self.times.now.budgets l.self.plan.now.starts l.self.set) l.n ≡ drop l.i (slots_of (parts_of l.self.times.now.periods l.self.times.now.budgets l.self.plan.now.starts l.self.set)))
