-- The word is the first that is taken, or the others are tried.
use Rattle.std.proofs.Common.{List, Ok, refl, sym, ap}
use Rattle.std.specs.Prelude.{codes}
use Rattle.co_text.specs.Values.{Word}
use Rattle.co_object.specs.declared.PlainOp.TheVariants.{Stop, Pending}
use Rattle.co_object.specs.declared.CallOp.TheVariants.{Plain}
use Rattle.co_object.specs.declared.Op.{Op}
use Rattle.co_object.specs.declared.Op.TheVariants.{Call}
use Rattle.co_notes.specs.NoteForms.{reads_nothing, begin_form, adrain_form, drain_form, run_forms, op_forms, op_form}
use Rattle.co_notes.proofs.Keywords.{chosen, passed}
use Rattle.co_notes.proofs.reading.operations.short_operation.Goals as goal

pub returns-then-option : goal.returns-then-option
unfolding op_forms run_forms
returns-then-option c =
    let n = c.args.names.now in
    chosen (op_forms n) (begin_form n) _ _ _ (codes "begin") _ _ _ (λ vs. refl) c.as_slice.ensures c.option.ensures c.if-option.true c.begin.ensures

pub returns-then-option-2 : goal.returns-then-option-2
unfolding op_forms run_forms
returns-then-option-2 c =
    let n = c.args.names.now in
    let view : Op → Op × List Word = λ x. (x, c.option-else-option.new.self) in
    passed (op_form n) view (Ok c.plain.result) c.as_slice.result.now c.args.parts.now _ _ c.option.ensures c.if-option.false
    (chosen (op_forms n) (reads_nothing (Call (Plain Pending))) view (Ok c.plain.result) _ (codes "pending") _ _ _ (λ vs. refl) c.as_slice-else-option.ensures c.option-else-option.ensures c.if-option-2.true (ap (λ o. Ok (o, c.option-else-option.new.self)) (sym c.plain.ensures)))

pub returns-then-option-3 : goal.returns-then-option-3
unfolding op_forms run_forms
returns-then-option-3 c =
    let n = c.args.names.now in
    let view : Op → Op × List Word = λ x. (x, c.option-else-option-2.new.self) in
    passed (op_form n) view (Ok c.plain-then-option-3.result) c.as_slice.result.now c.args.parts.now _ _ c.option.ensures c.if-option.false
    (passed (op_form n) view (Ok c.plain-then-option-3.result) c.as_slice-else-option.result.now c.option.new.self _ _ c.option-else-option.ensures c.if-option-2.false
    (chosen (op_forms n) (reads_nothing (Call (Plain Stop))) view (Ok c.plain-then-option-3.result) _ (codes "stop") _ _ _ (λ vs. refl) c.as_slice-else-option-2.ensures c.option-else-option-2.ensures c.if-option-3.true (ap (λ o. Ok (o, c.option-else-option-2.new.self)) (sym c.plain-then-option-3.ensures))))

pub returns-then-option-4 : goal.returns-then-option-4
unfolding op_forms run_forms
returns-then-option-4 c =
    let n = c.args.names.now in
    passed (op_form n) _ _ c.as_slice.result.now c.args.parts.now _ _ c.option.ensures c.if-option.false
    (passed (op_form n) _ _ c.as_slice-else-option.result.now c.option.new.self _ _ c.option-else-option.ensures c.if-option-2.false
    (passed (op_form n) _ _ c.as_slice-else-option-2.result.now c.option-else-option.new.self _ _ c.option-else-option-2.ensures c.if-option-3.false
    (chosen (op_forms n) (adrain_form n) _ _ _ (codes "adrain") _ _ _ (λ vs. refl) c.as_slice-else-option-3.ensures c.option-else-option-3.ensures c.if-option-4.true c.async_drain.ensures)))

pub returns-then-option-5 : goal.returns-then-option-5
unfolding op_forms run_forms
returns-then-option-5 c =
    let n = c.args.names.now in
    passed (op_form n) _ _ c.as_slice.result.now c.args.parts.now _ _ c.option.ensures c.if-option.false
    (passed (op_form n) _ _ c.as_slice-else-option.result.now c.option.new.self _ _ c.option-else-option.ensures c.if-option-2.false
    (passed (op_form n) _ _ c.as_slice-else-option-2.result.now c.option-else-option.new.self _ _ c.option-else-option-2.ensures c.if-option-3.false
    (passed (op_form n) _ _ c.as_slice-else-option-3.result.now c.option-else-option-2.new.self _ _ c.option-else-option-3.ensures c.if-option-4.false
    (chosen (op_forms n) drain_form _ _ _ (codes "drain") _ _ _ (λ vs. refl) c.as_slice-else-option-4.ensures c.option-else-option-4.ensures c.if-option-5.true c.drain.ensures))))

pub returns-else-option-5 : goal.returns-else-option-5
returns-else-option-5 c =
    let n = c.args.names.now in
    passed (op_form n) _ _ c.as_slice.result.now c.args.parts.now _ _ c.option.ensures c.if-option.false
    (passed (op_form n) _ _ c.as_slice-else-option.result.now c.option.new.self _ _ c.option-else-option.ensures c.if-option-2.false
    (passed (op_form n) _ _ c.as_slice-else-option-2.result.now c.option-else-option.new.self _ _ c.option-else-option-2.ensures c.if-option-3.false
    (passed (op_form n) _ _ c.as_slice-else-option-3.result.now c.option-else-option-2.new.self _ _ c.option-else-option-3.ensures c.if-option-4.false
    (passed (op_form n) _ _ c.as_slice-else-option-4.result.now c.option-else-option-3.new.self _ _ c.option-else-option-4.ensures c.if-option-5.false
    c.operation_by_word.ensures))))
