-- The word is the first that is taken, or the others are tried.
use Rattle.std.proofs.Common.{refl}
use Rattle.std.specs.Prelude.{codes}
use Rattle.co_notes.specs.NoteForms.{armed_form, go_form, ended_form, valued_replies, reply_forms, reply_form}
use Rattle.co_notes.proofs.Keywords.{chosen, passed}
use Rattle.co_notes.proofs.reading.replies.reply.Goals as goal

pub returns-then-option : goal.returns-then-option
unfolding reply_forms valued_replies
returns-then-option c =
    let n = c.args.names.now in
    chosen (reply_forms n) (armed_form n) _ _ _ (codes "armed") _ _ _ (λ vs. refl) c.as_slice.ensures c.option.ensures c.if-option.true c.armed.ensures

pub returns-then-option-2 : goal.returns-then-option-2
unfolding reply_forms valued_replies
returns-then-option-2 c =
    let n = c.args.names.now in
    passed (reply_form n) _ _ c.as_slice.result.now c.args.parts.now _ _ c.option.ensures c.if-option.false
    (chosen (reply_forms n) (go_form n) _ _ _ (codes "go") _ _ _ (λ vs. refl) c.as_slice-else-option.ensures c.option-else-option.ensures c.if-option-2.true c.go.ensures)

pub returns-then-option-3 : goal.returns-then-option-3
unfolding reply_forms valued_replies
returns-then-option-3 c =
    let n = c.args.names.now in
    passed (reply_form n) _ _ c.as_slice.result.now c.args.parts.now _ _ c.option.ensures c.if-option.false
    (passed (reply_form n) _ _ c.as_slice-else-option.result.now c.option.new.self _ _ c.option-else-option.ensures c.if-option-2.false
    (chosen (reply_forms n) (ended_form n) _ _ _ (codes "ended") _ _ _ (λ vs. refl) c.as_slice-else-option-2.ensures c.option-else-option-2.ensures c.if-option-3.true c.ended.ensures))

pub returns-else-option-3 : goal.returns-else-option-3
returns-else-option-3 c =
    let n = c.args.names.now in
    passed (reply_form n) _ _ c.as_slice.result.now c.args.parts.now _ _ c.option.ensures c.if-option.false
    (passed (reply_form n) _ _ c.as_slice-else-option.result.now c.option.new.self _ _ c.option-else-option.ensures c.if-option-2.false
    (passed (reply_form n) _ _ c.as_slice-else-option-2.result.now c.option-else-option.new.self _ _ c.option-else-option-2.ensures c.if-option-3.false
    c.short_reply.ensures))
