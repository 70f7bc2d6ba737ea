use Rattle.std.proofs.Common.{[], ◌∷◌, ◌++◌, codes, ap, ◌∙◌, append_assoc}
use Rattle.std.proofs.lemmas.Result.{on_ok_weaker}
use Rattle.co_text.specs.Lines.{spaced}
use Rattle.co_text.proofs.Spacing.{both_more}
use Rattle.co_notes.specs.NoteTexts.{queue_words, answer_words}
use Rattle.co_notes.proofs.note.print_queue_entry.Goals as goal

pub returns : goal.returns
returns c =
    let joined = append_assoc (queue_words c.args.op.now) (codes "=" ∷ []) (answer_words c.args.reply.now) in
    on_ok_weaker c.print_answer.result (λ e. both_more _ _ _ _ _ c.in_ok-print_asked_op.ensures e ∙ ap (λ ws. c.args.page.now ++ spaced ws) joined) c.print_answer.ensures
