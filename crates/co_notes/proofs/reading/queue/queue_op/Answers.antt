-- The word is the first that is taken, or none of the table.
use Rattle.std.proofs.Common.{refl}
use Rattle.std.specs.Prelude.{codes}
use Rattle.co_object.specs.declared.QOp.TheVariants as queue
use Rattle.co_notes.specs.NoteForms.{insert_form, remove_form, scan_form, direct_or, queue_forms, queue_form}
use Rattle.co_notes.proofs.Keywords.{chosen, passed, untaken, unmoved, none_next}
use Rattle.co_notes.proofs.reading.queue.queue_op.Goals as goal

pub returns-then-option : goal.returns-then-option
unfolding queue_forms
returns-then-option c =
    let n = c.args.names.now in
    chosen (queue_forms n) (insert_form n) _ _ _ (codes "insert") _ _ _ (λ vs. refl) c.as_slice.ensures c.option.ensures c.if-option.true c.insert.ensures

pub returns-then-option-2 : goal.returns-then-option-2
unfolding queue_forms
returns-then-option-2 c =
    let n = c.args.names.now in
    passed (queue_form n) _ _ c.as_slice.result.now c.args.parts.now _ _ c.option.ensures c.if-option.false
    (chosen (queue_forms n) (remove_form n) _ _ _ (codes "remove") _ _ _ (λ vs. refl) c.as_slice-else-option.ensures c.option-else-option.ensures c.if-option-2.true c.remove.ensures)

pub returns-then-option-3 : goal.returns-then-option-3
unfolding queue_forms
returns-then-option-3 c =
    let n = c.args.names.now in
    passed (queue_form n) _ _ c.as_slice.result.now c.args.parts.now _ _ c.option.ensures c.if-option.false
    (passed (queue_form n) _ _ c.as_slice-else-option.result.now c.option.new.self _ _ c.option-else-option.ensures c.if-option-2.false
    (chosen (queue_forms n) scan_form _ _ _ (codes "scan") _ _ _ (λ vs. refl) c.as_slice-else-option-2.ensures c.option-else-option-2.ensures c.if-option-3.true c.scan.ensures))

pub returns-then-option-4 : goal.returns-then-option-4
unfolding queue_forms
returns-then-option-4 c =
    let n = c.args.names.now in
    passed (queue_form n) _ _ c.as_slice.result.now c.args.parts.now _ _ c.option.ensures c.if-option.false
    (passed (queue_form n) _ _ c.as_slice-else-option.result.now c.option.new.self _ _ c.option-else-option.ensures c.if-option-2.false
    (passed (queue_form n) _ _ c.as_slice-else-option-2.result.now c.option-else-option.new.self _ _ c.option-else-option-2.ensures c.if-option-3.false
    (chosen (queue_forms n) (direct_or queue.PopDirect queue.Pop) _ _ _ (codes "pop") _ _ _ (λ vs. refl) c.as_slice-else-option-3.ensures c.option-else-option-3.ensures c.if-option-4.true c.direct_or.ensures)))

pub returns-then-option-5 : goal.returns-then-option-5
unfolding queue_forms
returns-then-option-5 c =
    let n = c.args.names.now in
    passed (queue_form n) _ _ c.as_slice.result.now c.args.parts.now _ _ c.option.ensures c.if-option.false
    (passed (queue_form n) _ _ c.as_slice-else-option.result.now c.option.new.self _ _ c.option-else-option.ensures c.if-option-2.false
    (passed (queue_form n) _ _ c.as_slice-else-option-2.result.now c.option-else-option.new.self _ _ c.option-else-option-2.ensures c.if-option-3.false
    (passed (queue_form n) _ _ c.as_slice-else-option-3.result.now c.option-else-option-2.new.self _ _ c.option-else-option-3.ensures c.if-option-4.false
    (chosen (queue_forms n) (direct_or queue.FreeDirect queue.Free) _ _ _ (codes "free") _ _ _ (λ vs. refl) c.as_slice-else-option-4.ensures c.option-else-option-4.ensures c.if-option-5.true c.direct_or-then-option-5.ensures))))

pub returns-else-option-5 : goal.returns-else-option-5
unfolding queue_forms
returns-else-option-5 c =
    let ws = c.args.parts.now in
    let e1 = unmoved _ ws ws _ _ refl c.option.ensures c.if-option.false in
    let e2 = unmoved _ ws _ _ _ e1 c.option-else-option.ensures c.if-option-2.false in
    let e3 = unmoved _ ws _ _ _ e2 c.option-else-option-2.ensures c.if-option-3.false in
    let e4 = unmoved _ ws _ _ _ e3 c.option-else-option-3.ensures c.if-option-4.false in
    none_next (queue_forms c.args.names.now) ws (
      untaken _ (codes "insert") ws ws _ _ c.as_slice.ensures refl c.option.ensures c.if-option.false,
      (
        untaken _ (codes "remove") ws _ _ _ c.as_slice-else-option.ensures e1 c.option-else-option.ensures c.if-option-2.false,
        (
          untaken _ (codes "scan") ws _ _ _ c.as_slice-else-option-2.ensures e2 c.option-else-option-2.ensures c.if-option-3.false,
          (
            untaken _ (codes "pop") ws _ _ _ c.as_slice-else-option-3.ensures e3 c.option-else-option-3.ensures c.if-option-4.false,
            (
              untaken _ (codes "free") ws _ _ _ c.as_slice-else-option-4.ensures e4 c.option-else-option-4.ensures c.if-option-5.false,
              tt,
            ),
          ),
        ),
      ),
    )
