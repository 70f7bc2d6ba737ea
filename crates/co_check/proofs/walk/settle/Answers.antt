-- The steps that are left, from the first one on.
use Rattle.std.proofs.Common.{◌+◌, ◌-◌, ◌<◌, length, refl, ap, sym, ◌∙◌, arith}
use Rattle.co_program.specs.Indexed.{cursor_of}
use Rattle.co_check.proofs.Walking.{settle-first, settle-next}
use Rattle.co_check.proofs.walk.settle.Goals as goal

pub returns-then-not-quiet_step-clause-cursor : goal.returns-then-not-quiet_step-clause-cursor
returns-then-not-quiet_step-clause-cursor c =
    let s = c.args.script.now in
    let a = c.args.actor in
    let left = length (cursor_of s a c.args.cursor.now).left in
    let here = c.if-not-quiet_step.ensures.step in
    ap (cursor_of s a) here.0 ∙ (sym (here.2 (left + 1 - 0)) ∙ settle-first s a c.args.cursor.now left refl)

pub loop-init : goal.loop-init
loop-init c =
    let first = settle-first c.args.script.now c.args.actor c.args.cursor.now c.from-steps.result (c.from-steps.ensures ∙ c.acts_left.ensures) in
    let below : 0 < c.from-steps.result + 1 = omega arith in
    record {
      left = settle-next c.args.script.now c.args.actor c.args.cursor.now c.quiet_step.new.cursor (c.from-steps.result + 1) 0 _ c.quiet_step.new.next below c.if-not-quiet_step.ensures.step first;
      counted = omega (arith, c.if-not-quiet_step.ensures.counted);
    }

pub loop-preserved : goal.loop-preserved
loop-preserved c =
    let below : c.loop.counter < c.from-steps.result + 1 = omega arith in
    record {
      left = settle-next c.args.script.now c.args.actor c.loop.cursor c.quiet_step-in-loop.new.cursor (c.from-steps.result + 1) c.loop.counter _ c.quiet_step-in-loop.new.next below c.if-not-quiet_step-2.ensures.step c.loop.invariant.left;
      counted = omega (arith, c.if-not-quiet_step-2.ensures.counted, c.loop.invariant.counted);
    }
