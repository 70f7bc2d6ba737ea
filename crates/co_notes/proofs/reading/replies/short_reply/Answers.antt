-- The word is the first that is taken, or the others are tried.
use Rattle.std.proofs.Common.{refl}
use Rattle.std.specs.Prelude.{codes}
use Rattle.co_object.specs.declared.Reply.TheVariants as reply
use Rattle.co_notes.specs.NoteForms.{reads_nothing, stopped_form, drained_form, valued_replies, reply_forms, reply_form}
use Rattle.co_notes.proofs.Keywords.{chosen, passed}
use Rattle.co_notes.proofs.reading.replies.short_reply.Goals as goal

pub returns-then-option : goal.returns-then-option
unfolding reply_forms valued_replies
returns-then-option c =
    let n = c.args.names.now in
    chosen (reply_forms n) (stopped_form n) _ _ _ (codes "stopped") _ _ _ (λ vs. refl) c.as_slice.ensures c.option.ensures c.if-option.true c.stopped.ensures

pub returns-then-option-2 : goal.returns-then-option-2
unfolding reply_forms valued_replies
returns-then-option-2 c =
    let n = c.args.names.now in
    passed (reply_form n) _ _ c.as_slice.result.now c.args.parts.now _ _ c.option.ensures c.if-option.false
    (chosen (reply_forms n) (reads_nothing reply.Hold) _ _ _ (codes "hold") _ _ _ (λ vs. refl) c.as_slice-else-option.ensures c.option-else-option.ensures c.if-option-2.true c.put.ensures)

pub returns-then-option-3 : goal.returns-then-option-3
unfolding reply_forms valued_replies
returns-then-option-3 c =
    let n = c.args.names.now in
    passed (reply_form n) _ _ c.as_slice.result.now c.args.parts.now _ _ c.option.ensures c.if-option.false
    (passed (reply_form n) _ _ c.as_slice-else-option.result.now c.option.new.self _ _ c.option-else-option.ensures c.if-option-2.false
    (chosen (reply_forms n) (drained_form n) _ _ _ (codes "drained") _ _ _ (λ vs. refl) c.as_slice-else-option-2.ensures c.option-else-option-2.ensures c.if-option-3.true c.drained.ensures))

pub returns-then-option-4 : goal.returns-then-option-4
unfolding reply_forms valued_replies
returns-then-option-4 c =
    let n = c.args.names.now in
    passed (reply_form n) _ _ c.as_slice.result.now c.args.parts.now _ _ c.option.ensures c.if-option.false
    (passed (reply_form n) _ _ c.as_slice-else-option.result.now c.option.new.self _ _ c.option-else-option.ensures c.if-option-2.false
    (passed (reply_form n) _ _ c.as_slice-else-option-2.result.now c.option-else-option.new.self _ _ c.option-else-option-2.ensures c.if-option-3.false
    (chosen (reply_forms n) (reads_nothing reply.No) _ _ _ (codes "no") _ _ _ (λ vs. refl) c.as_slice-else-option-3.ensures c.option-else-option-3.ensures c.if-option-4.true c.put-then-option-4.ensures)))

pub returns-then-option-5 : goal.returns-then-option-5
unfolding reply_forms valued_replies
returns-then-option-5 c =
    let n = c.args.names.now in
    passed (reply_form n) _ _ c.as_slice.result.now c.args.parts.now _ _ c.option.ensures c.if-option.false
    (passed (reply_form n) _ _ c.as_slice-else-option.result.now c.option.new.self _ _ c.option-else-option.ensures c.if-option-2.false
    (passed (reply_form n) _ _ c.as_slice-else-option-2.result.now c.option-else-option.new.self _ _ c.option-else-option-2.ensures c.if-option-3.false
    (passed (reply_form n) _ _ c.as_slice-else-option-3.result.now c.option-else-option-2.new.self _ _ c.option-else-option-3.ensures c.if-option-4.false
    (chosen (reply_forms n) (reads_nothing reply.Yes) _ _ _ (codes "yes") _ _ _ (λ vs. refl) c.as_slice-else-option-4.ensures c.option-else-option-4.ensures c.if-option-5.true c.put-then-option-5.ensures))))

pub returns-else-option-5 : goal.returns-else-option-5
returns-else-option-5 c =
    let n = c.args.names.now in
    passed (reply_form n) _ _ c.as_slice.result.now c.args.parts.now _ _ c.option.ensures c.if-option.false
    (passed (reply_form n) _ _ c.as_slice-else-option.result.now c.option.new.self _ _ c.option-else-option.ensures c.if-option-2.false
    (passed (reply_form n) _ _ c.as_slice-else-option-2.result.now c.option-else-option.new.self _ _ c.option-else-option-2.ensures c.if-option-3.false
    (passed (reply_form n) _ _ c.as_slice-else-option-3.result.now c.option-else-option-2.new.self _ _ c.option-else-option-3.ensures c.if-option-4.false
    (passed (reply_form n) _ _ c.as_slice-else-option-4.result.now c.option-else-option-3.new.self _ _ c.option-else-option-4.ensures c.if-option-5.false
    c.reply_by_word.ensures))))
