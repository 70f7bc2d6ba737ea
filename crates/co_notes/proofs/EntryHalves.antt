-- The words of an entry are those of its halves.
use Rattle.std.proofs.Common.{◌≡◌, ℕ, List, [], ◌∷◌, ◌++◌, codes, ap, ◌∙◌, append_assoc, append-nil}
use Rattle.co_object.specs.declared.AnyEntry.{AnyEntry}
use Rattle.co_object.specs.declared.AnyEntry.TheVariants.{Timer, Cpu, Own}
use Rattle.co_packed.specs.Halves.{op_in, reply_in}
use Rattle.co_text.specs.Lines.{spaced}
use Rattle.co_text.proofs.Spacing.{both_more}
use Rattle.co_notes.specs.NoteTexts.{op_words, queue_words, reply_words, answer_words, own_words, any_op_words, any_reply_words, entry_words}

halves-joined : (e : AnyEntry) → any_op_words (op_in e) ++ any_reply_words (reply_in e) ≡ entry_words e
halves-joined (Timer e) = append_assoc (op_words e.op) (codes "=" ∷ []) (reply_words e.reply)
halves-joined (Cpu e) = append_assoc (queue_words e.op) (codes "=" ∷ []) (answer_words e.reply)
halves-joined (Own e) = append-nil (own_words e.kind)

-- one half behind the other
pub halves_written : (old p1 p2 : List ℕ) (e : AnyEntry) → p1 ≡ old ++ spaced (any_op_words (op_in e)) → p2 ≡ p1 ++ spaced (any_reply_words (reply_in e)) → p2 ≡ old ++ spaced (entry_words e)
halves_written old p1 p2 e op reply = both_more old p1 p2 (any_op_words (op_in e)) (any_reply_words (reply_in e)) op reply ∙ ap (λ ws. old ++ spaced ws) (halves-joined e)
