use Rattle.std.proofs.Common.{[], ◌∷◌, ◌++◌, codes, ap, ◌∙◌, append_assoc}
use Rattle.std.proofs.lemmas.Result.{on_ok_weaker}
use Rattle.co_text.specs.Lines.{spaced}
use Rattle.co_text.proofs.Spacing.{both_more}
use Rattle.co_notes.specs.NoteTexts.{op_words, reply_words}
use Rattle.co_notes.proofs.note.print_call_entry.Goals as goal

pub returns : goal.returns
returns c =
    let joined = append_assoc (op_words c.args.op.now) (codes "=" ∷ []) (reply_words c.args.reply.now) in
    on_ok_weaker c.print_reply.result (λ e. both_more _ _ _ _ _ c.in_ok-print_call_op.ensures e ∙ ap (λ ws. c.args.page.now ++ spaced ws) joined) c.print_reply.ensures
