-- The word is the first that is taken, or the others are tried.
use Rattle.std.proofs.Common.{refl}
use Rattle.std.specs.Prelude.{codes}
use Rattle.co_notes.specs.NoteForms.{reset_form, schedule_form, pick_form, end_form, run_forms, op_forms, op_form}
use Rattle.co_notes.proofs.Keywords.{chosen, passed}
use Rattle.co_notes.proofs.reading.operations.operation.Goals as goal

pub returns-then-option : goal.returns-then-option
unfolding op_forms run_forms
returns-then-option c =
    let n = c.args.names.now in
    chosen (op_forms n) (pick_form n) _ _ _ (codes "pick") _ _ _ (λ vs. refl) c.as_slice.ensures c.option.ensures c.if-option.true c.pick.ensures

pub returns-then-option-2 : goal.returns-then-option-2
unfolding op_forms run_forms
returns-then-option-2 c =
    let n = c.args.names.now in
    passed (op_form n) _ _ c.as_slice.result.now c.args.parts.now _ _ c.option.ensures c.if-option.false
    (chosen (op_forms n) (schedule_form n) _ _ _ (codes "schedule") _ _ _ (λ vs. refl) c.as_slice-else-option.ensures c.option-else-option.ensures c.if-option-2.true c.schedule.ensures)

pub returns-then-option-3 : goal.returns-then-option-3
unfolding op_forms run_forms
returns-then-option-3 c =
    let n = c.args.names.now in
    passed (op_form n) _ _ c.as_slice.result.now c.args.parts.now _ _ c.option.ensures c.if-option.false
    (passed (op_form n) _ _ c.as_slice-else-option.result.now c.option.new.self _ _ c.option-else-option.ensures c.if-option-2.false
    (chosen (op_forms n) (end_form n) _ _ _ (codes "end") _ _ _ (λ vs. refl) c.as_slice-else-option-2.ensures c.option-else-option-2.ensures c.if-option-3.true c.end.ensures))

pub returns-then-option-4 : goal.returns-then-option-4
unfolding op_forms run_forms
returns-then-option-4 c =
    let n = c.args.names.now in
    passed (op_form n) _ _ c.as_slice.result.now c.args.parts.now _ _ c.option.ensures c.if-option.false
    (passed (op_form n) _ _ c.as_slice-else-option.result.now c.option.new.self _ _ c.option-else-option.ensures c.if-option-2.false
    (passed (op_form n) _ _ c.as_slice-else-option-2.result.now c.option-else-option.new.self _ _ c.option-else-option-2.ensures c.if-option-3.false
    (chosen (op_forms n) (reset_form n) _ _ _ (codes "reset") _ _ _ (λ vs. refl) c.as_slice-else-option-3.ensures c.option-else-option-3.ensures c.if-option-4.true c.reset.ensures)))

pub returns-else-option-4 : goal.returns-else-option-4
returns-else-option-4 c =
    let n = c.args.names.now in
    passed (op_form n) _ _ c.as_slice.result.now c.args.parts.now _ _ c.option.ensures c.if-option.false
    (passed (op_form n) _ _ c.as_slice-else-option.result.now c.option.new.self _ _ c.option-else-option.ensures c.if-option-2.false
    (passed (op_form n) _ _ c.as_slice-else-option-2.result.now c.option-else-option.new.self _ _ c.option-else-option-2.ensures c.if-option-3.false
    (passed (op_form n) _ _ c.as_slice-else-option-3.result.now c.option-else-option-2.new.self _ _ c.option-else-option-3.ensures c.if-option-4.false
    c.short_operation.ensures)))
