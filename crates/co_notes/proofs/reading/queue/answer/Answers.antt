-- The word is the first that is taken, or none of the table.
use Rattle.std.proofs.Common.{List, Ok, refl}
use Rattle.std.specs.Prelude.{codes}
use Rattle.co_text.specs.Values.{Word}
use Rattle.co_object.specs.declared.QReply.{QReply}
use Rattle.co_object.specs.declared.QReply.TheVariants as answer
use Rattle.co_notes.specs.NoteForms.{reads_nothing, at_form, count_form, got_form, answer_forms, answer_form}
use Rattle.co_notes.proofs.Keywords.{chosen, passed, untaken, unmoved, none_next}
use Rattle.co_notes.proofs.reading.queue.answer.Goals as goal

pub returns-then-option : goal.returns-then-option
unfolding answer_forms
returns-then-option c =
    let n = c.args.names.now in
    chosen (answer_forms n) at_form _ _ _ (codes "at") _ _ _ (λ vs. refl) c.as_slice.ensures c.option.ensures c.if-option.true c.at.ensures

pub returns-then-option-2 : goal.returns-then-option-2
unfolding answer_forms
returns-then-option-2 c =
    let n = c.args.names.now in
    let view : QReply → QReply × List Word = λ x. (x, c.option-else-option.new.self) in
    passed (answer_form n) view (Ok answer.Off) c.as_slice.result.now c.args.parts.now _ _ c.option.ensures c.if-option.false
    (chosen (answer_forms n) (reads_nothing answer.Off) view (Ok answer.Off) _ (codes "off") _ _ _ (λ vs. refl) c.as_slice-else-option.ensures c.option-else-option.ensures c.if-option-2.true refl)

pub returns-then-option-3 : goal.returns-then-option-3
unfolding answer_forms
returns-then-option-3 c =
    let n = c.args.names.now in
    let view : QReply → QReply × List Word = λ x. (x, c.option-else-option-2.new.self) in
    passed (answer_form n) view (Ok answer.Missing) c.as_slice.result.now c.args.parts.now _ _ c.option.ensures c.if-option.false
    (passed (answer_form n) view (Ok answer.Missing) c.as_slice-else-option.result.now c.option.new.self _ _ c.option-else-option.ensures c.if-option-2.false
    (chosen (answer_forms n) (reads_nothing answer.Missing) view (Ok answer.Missing) _ (codes "missing") _ _ _ (λ vs. refl) c.as_slice-else-option-2.ensures c.option-else-option-2.ensures c.if-option-3.true refl))

pub returns-then-option-4 : goal.returns-then-option-4
unfolding answer_forms
returns-then-option-4 c =
    let n = c.args.names.now in
    passed (answer_form n) _ _ c.as_slice.result.now c.args.parts.now _ _ c.option.ensures c.if-option.false
    (passed (answer_form n) _ _ c.as_slice-else-option.result.now c.option.new.self _ _ c.option-else-option.ensures c.if-option-2.false
    (passed (answer_form n) _ _ c.as_slice-else-option-2.result.now c.option-else-option.new.self _ _ c.option-else-option-2.ensures c.if-option-3.false
    (chosen (answer_forms n) count_form _ _ _ (codes "count") _ _ _ (λ vs. refl) c.as_slice-else-option-3.ensures c.option-else-option-3.ensures c.if-option-4.true c.count.ensures)))

pub returns-then-option-5 : goal.returns-then-option-5
unfolding answer_forms
returns-then-option-5 c =
    let n = c.args.names.now in
    passed (answer_form n) _ _ c.as_slice.result.now c.args.parts.now _ _ c.option.ensures c.if-option.false
    (passed (answer_form n) _ _ c.as_slice-else-option.result.now c.option.new.self _ _ c.option-else-option.ensures c.if-option-2.false
    (passed (answer_form n) _ _ c.as_slice-else-option-2.result.now c.option-else-option.new.self _ _ c.option-else-option-2.ensures c.if-option-3.false
    (passed (answer_form n) _ _ c.as_slice-else-option-3.result.now c.option-else-option-2.new.self _ _ c.option-else-option-3.ensures c.if-option-4.false
    (chosen (answer_forms n) (got_form n) _ _ _ (codes "got") _ _ _ (λ vs. refl) c.as_slice-else-option-4.ensures c.option-else-option-4.ensures c.if-option-5.true c.got.ensures))))

pub returns-then-option-6 : goal.returns-then-option-6
unfolding answer_forms
returns-then-option-6 c =
    let n = c.args.names.now in
    let view : QReply → QReply × List Word = λ x. (x, c.option-else-option-5.new.self) in
    passed (answer_form n) view (Ok answer.Empty) c.as_slice.result.now c.args.parts.now _ _ c.option.ensures c.if-option.false
    (passed (answer_form n) view (Ok answer.Empty) c.as_slice-else-option.result.now c.option.new.self _ _ c.option-else-option.ensures c.if-option-2.false
    (passed (answer_form n) view (Ok answer.Empty) c.as_slice-else-option-2.result.now c.option-else-option.new.self _ _ c.option-else-option-2.ensures c.if-option-3.false
    (passed (answer_form n) view (Ok answer.Empty) c.as_slice-else-option-3.result.now c.option-else-option-2.new.self _ _ c.option-else-option-3.ensures c.if-option-4.false
    (passed (answer_form n) view (Ok answer.Empty) c.as_slice-else-option-4.result.now c.option-else-option-3.new.self _ _ c.option-else-option-4.ensures c.if-option-5.false
    (chosen (answer_forms n) (reads_nothing answer.Empty) view (Ok answer.Empty) _ (codes "empty") _ _ _ (λ vs. refl) c.as_slice-else-option-5.ensures c.option-else-option-5.ensures c.if-option-6.true refl)))))

pub returns-then-option-7 : goal.returns-then-option-7
unfolding answer_forms
returns-then-option-7 c =
    let n = c.args.names.now in
    let view : QReply → QReply × List Word = λ x. (x, c.option-else-option-6.new.self) in
    passed (answer_form n) view (Ok answer.Freed) c.as_slice.result.now c.args.parts.now _ _ c.option.ensures c.if-option.false
    (passed (answer_form n) view (Ok answer.Freed) c.as_slice-else-option.result.now c.option.new.self _ _ c.option-else-option.ensures c.if-option-2.false
    (passed (answer_form n) view (Ok answer.Freed) c.as_slice-else-option-2.result.now c.option-else-option.new.self _ _ c.option-else-option-2.ensures c.if-option-3.false
    (passed (answer_form n) view (Ok answer.Freed) c.as_slice-else-option-3.result.now c.option-else-option-2.new.self _ _ c.option-else-option-3.ensures c.if-option-4.false
    (passed (answer_form n) view (Ok answer.Freed) c.as_slice-else-option-4.result.now c.option-else-option-3.new.self _ _ c.option-else-option-4.ensures c.if-option-5.false
    (passed (answer_form n) view (Ok answer.Freed) c.as_slice-else-option-5.result.now c.option-else-option-4.new.self _ _ c.option-else-option-5.ensures c.if-option-6.false
    (chosen (answer_forms n) (reads_nothing answer.Freed) view (Ok answer.Freed) _ (codes "freed") _ _ _ (λ vs. refl) c.as_slice-else-option-6.ensures c.option-else-option-6.ensures c.if-option-7.true refl))))))

pub returns-else-option-7 : goal.returns-else-option-7
unfolding answer_forms
returns-else-option-7 c =
    let ws = c.args.parts.now in
    let e1 = unmoved _ ws ws _ _ refl c.option.ensures c.if-option.false in
    let e2 = unmoved _ ws _ _ _ e1 c.option-else-option.ensures c.if-option-2.false in
    let e3 = unmoved _ ws _ _ _ e2 c.option-else-option-2.ensures c.if-option-3.false in
    let e4 = unmoved _ ws _ _ _ e3 c.option-else-option-3.ensures c.if-option-4.false in
    let e5 = unmoved _ ws _ _ _ e4 c.option-else-option-4.ensures c.if-option-5.false in
    let e6 = unmoved _ ws _ _ _ e5 c.option-else-option-5.ensures c.if-option-6.false in
    none_next (answer_forms c.args.names.now) ws (
      untaken _ (codes "at") ws ws _ _ c.as_slice.ensures refl c.option.ensures c.if-option.false,
      (
        untaken _ (codes "off") ws _ _ _ c.as_slice-else-option.ensures e1 c.option-else-option.ensures c.if-option-2.false,
        (
          untaken _ (codes "missing") ws _ _ _ c.as_slice-else-option-2.ensures e2 c.option-else-option-2.ensures c.if-option-3.false,
          (
            untaken _ (codes "count") ws _ _ _ c.as_slice-else-option-3.ensures e3 c.option-else-option-3.ensures c.if-option-4.false,
            (
              untaken _ (codes "got") ws _ _ _ c.as_slice-else-option-4.ensures e4 c.option-else-option-4.ensures c.if-option-5.false,
              (
                untaken _ (codes "empty") ws _ _ _ c.as_slice-else-option-5.ensures e5 c.option-else-option-5.ensures c.if-option-6.false,
                (
                  untaken _ (codes "freed") ws _ _ _ c.as_slice-else-option-6.ensures e6 c.option-else-option-6.ensures c.if-option-7.false,
                  tt,
                ),
              ),
            ),
          ),
        ),
      ),
    )
