-- `builder::slots::write_slots` meets its contract. The invariant: the first i slots are written, and those from tick n on are left. The measure: the
-- slots left.
-- Assumes nothing.
use mathlib.Core.Path.{◌∙◌}
use Prim.Native.Nat.{◌<◌}
use native.Mathlib.Omega.{arith}
use Rattle.table.proofs.Bytes.{no_slot_yet}
use Rattle.frames.specs.Frame.{slots_of}
use Rattle.builder.specs.Parts.{parts_of}
use Rattle.builder.proofs.Written.{all_left, turned, written_more}
use Rattle.builder.proofs.parts.Hosted.write_slots.Goals as goal

pub loop-i-init : goal.loop-i-init
loop-i-init c = (omega arith, no_slot_yet c.args.buffer.now, all_left (parts_of c.args.self.now.times.now.periods c.args.self.now.times.now.budgets c.args.self.now.plan.now.starts c.args.self.now.set))

pub overflow_add-n : goal.overflow_add-n
overflow_add-n c =
    let a = c.args in
    let l = c.loop-i in
    let r = c.requires.ready in
    let b : l.i < a.t.slots = omega (arith, c.loop-i-test.true) in
    let t = turned a.self.now.times.now.periods a.self.now.times.now.budgets a.self.now.plan.now.starts a.self.now.set a.t r l.n l.i c.soonest-x.result b l.invariant.0 l.invariant.2 c.soonest-x.ensures in
    omega (arith, t.fits, r.frame_is, r.small)

pub write_slot-requires-clause-start_le_most_frame : goal.write_slot-requires-clause-start_le_most_frame
write_slot-requires-clause-start_le_most_frame c =
    let a = c.args in
    let l = c.loop-i in
    let r = c.requires.ready in
    let b : l.i < a.t.slots = omega (arith, c.loop-i-test.true) in
    let t = turned a.self.now.times.now.periods a.self.now.times.now.budgets a.self.now.plan.now.starts a.self.now.set a.t r l.n l.i c.soonest-x.result b l.invariant.0 l.invariant.2 c.soonest-x.ensures in
    t.small

pub loop-i-preserved : goal.loop-i-preserved
loop-i-preserved c =
    let a = c.args in
    let l = c.loop-i in
    let r = c.requires.ready in
    let b : l.i < a.t.slots = omega (arith, c.loop-i-test.true) in
    let t = turned a.self.now.times.now.periods a.self.now.times.now.budgets a.self.now.plan.now.starts a.self.now.set a.t r l.n l.i c.soonest-x.result b l.invariant.0 l.invariant.2 c.soonest-x.ensures in
    let xs = slots_of (parts_of a.self.now.times.now.periods a.self.now.times.now.budgets a.self.now.plan.now.starts a.self.now.set) in (
      omega (arith, t.fits, r.frame_is),
      c.write_slot.ensures
          ∙ written_more a.buffer.now xs l.i (omega (arith, r.slots_are)) (omega (arith, c.requires.slots_in_bounds)) c.soonest-x.result l.buffer l.invariant.1 t.before,
      t.after,
    )
