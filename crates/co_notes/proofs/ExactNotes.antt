-- The notes of a place are read exactly from the words that they are written by.
use Rattle.std.proofs.Common.{◌≡◌, ℕ, Bool, true, List, [], ◌∷◌, ◌++◌, refl, ap, ◌∙◌, append_assoc}
use Rattle.std.specs.Prelude.{Ok, codes, decimal}
use Rattle.co_object.specs.declared.Op.{Op}
use Rattle.co_object.specs.declared.Reply.{Reply}
use Rattle.co_object.specs.declared.QOp.{QOp}
use Rattle.co_object.specs.declared.QReply.{QReply}
use Rattle.co_object.specs.declared.OwnKind.{OwnKind}
use Rattle.co_object.specs.declared.OwnKind.TheVariants.{NotHeld, HoldsLock, Holding, NotHolding}
use Rattle.co_object.specs.declared.AnyEntry.{AnyEntry}
use Rattle.co_object.specs.declared.AnyEntry.TheVariants as of
use Rattle.co_object.specs.declared.Place.{Place}
use Rattle.co_object.specs.declared.Place.TheVariants as place
use Rattle.co_program.specs.declared.Script.{Script}
use Rattle.co_text.specs.Fallible.{◌>>=◌}
use Rattle.co_text.specs.Values.{Word}
use Rattle.co_text.specs.Taking.{next}
use Rattle.co_notes.proofs.PartSplits.{AreParts}
use Rattle.co_notes.specs.declared.reading.names.Names.{Names}
use Rattle.co_notes.specs.declared.reading.values.Maker.{Maker}
use Rattle.co_notes.specs.declared.reading.notes.NumberedEntry.{NumberedEntry}
use Rattle.co_notes.specs.NoteTexts.{op_words, reply_words, queue_words, answer_words, own_words, note_words, shown_words}
use Rattle.co_notes.specs.NoteValues.{names_of, IsSmallScript, count64, maker, maker_is, own_kind}
use Rattle.co_notes.specs.NoteForms.{both, behind_literal, queue_forms, queue_form, answer_form, may_answer, answered_form, call_form, journal_form, note_form}
use Rattle.co_notes.specs.NoteFits.{IsLong, MakerFits, OpFits, ReplyFits, QueueFits, AnswerFits, ShownFits}
use Rattle.co_notes.proofs.Exact.{Exact, lit, one, two, two_told, such_exact, behind, words-append, reword, made-back, made-told, choice-told}
use Rattle.co_notes.proofs.ExactValues.{longs, kinds, kind_word}
use Rattle.co_notes.proofs.ExactActors.{makers, own_makers, maker_word}
use Rattle.co_notes.proofs.ExactOperations.{op_exact}
use Rattle.co_notes.proofs.ExactReplies.{reply_exact}
use Rattle.co_notes.proofs.ExactAnswers.{queue-tells, queue-back, queue-ink, answer_exact}

module _ (s : Script) (small : IsSmallScript s) where
  abbrev names : Names
  names = names_of s

  call_exact : Exact (λ p. OpFits s p.0 × ReplyFits s p.1) (λ p. op_words p.0 ++ codes "=" ∷ reply_words p.1) (call_form names)
  call_exact = two (op_exact s small) (behind (codes "=") refl (lit (codes "=") refl) (reply_exact s small))

  given_answer : Exact (AnswerFits s) (λ a. codes "=" ∷ answer_words a) (behind_literal (codes "=") (answer_form names))
  given_answer = behind (codes "=") refl (lit (codes "=") refl) (answer_exact s small)

  any_answer : Exact (λ p. QueueFits s p.0 × AnswerFits s p.1) (λ p. queue_words p.0 ++ codes "=" ∷ answer_words p.1) (answered_form (queue_form names) (answer_form names))
  any_answer = record {
    back = λ p ws h.
        ap (answered_form (queue_form names) (answer_form names)) (append_assoc (queue_words p.0) (codes "=" ∷ answer_words p.1) ws)
        ∙ (ap (λ z. z >>= λ a. behind_literal (codes "=") (answer_form names) a.1 >>= λ b. Ok ((a.0, b.0), b.1)) (queue-back s small p.0 (answer_words p.1 ++ ws) h.0)
        ∙ ap (λ z. z >>= λ b. Ok ((p.0, b.0), b.1)) (given_answer.back p.1 ws h.1));
    told = two_told (QueueFits s) (AnswerFits s) queue_words (λ a. codes "=" ∷ answer_words a) (queue_form names) (behind_literal (codes "=") (answer_form names)) (choice-told (QueueFits s) queue_words (queue_forms names) (queue-tells s small)) given_answer.told;
    ink = λ p h. words-append (queue_words p.0) (codes "=" ∷ answer_words p.1) (queue-ink s small p.0 h.0) (given_answer.ink p.1 h.1);
  }

  abbrev is_answered : QOp × QReply → Bool
  is_answered p = may_answer p.0 p.1

  journal_exact : Exact (λ p. (QueueFits s p.0 × AnswerFits s p.1) × (is_answered p ≡ true)) (λ p. queue_words p.0 ++ codes "=" ∷ answer_words p.1) (journal_form names)
  journal_exact = such_exact is_answered any_answer

  own-same : (k : OwnKind) → kind_word k ∷ [] ≡ own_words k
  own-same NotHeld = refl
  own-same HoldsLock = refl
  own-same Holding = refl
  own-same NotHolding = refl

  own_exact : Exact (λ k. Unit {0}) own_words (next own_kind)
  own_exact = reword (one kinds) own-same

  abbrev timer_parts : Exact (λ p. (IsLong p.0.0 × MakerFits s p.0.1.actor p.0.1.act) × (OpFits s p.1.0 × ReplyFits s p.1.1)) (λ p. decimal p.0.0 ∷ maker_word s small p.0.1 ∷ (op_words p.1.0 ++ codes "=" ∷ reply_words p.1.1)) (both (both (next count64) (next (maker names))) (call_form names))
  timer_parts = two (two (one longs) (one (makers s small))) call_exact

  abbrev wheel_parts : Exact (λ p. (IsLong p.0.0 × MakerFits s p.0.1.actor p.0.1.act) × ((QueueFits s p.1.0 × AnswerFits s p.1.1) × (may_answer p.1.0 p.1.1 ≡ true))) (λ p. decimal p.0.0 ∷ maker_word s small p.0.1 ∷ (queue_words p.1.0 ++ codes "=" ∷ answer_words p.1.1)) (both (both (next count64) (next (maker names))) (journal_form names))
  wheel_parts = two (two (one longs) (one (makers s small))) journal_exact

  abbrev own_parts : (a : ℕ) → Exact (λ p. (IsLong p.0.0 × (MakerFits s p.0.1.actor p.0.1.act × (p.0.1.actor ≡ a))) × Unit {0}) (λ p. decimal p.0.0 ∷ maker_word s small p.0.1 ∷ own_words p.1) (both (both (next count64) (next (maker_is names a))) (next own_kind))
  own_parts a = two (two (one longs) (one (own_makers s small a))) own_exact

  abbrev timer_notes : (ℕ × Maker) × (Op × Reply) → NumberedEntry
  timer_notes x = record { number = x.0.0; entry = of.Timer (record { actor = x.0.1.actor; act = x.0.1.act; op = x.1.0; reply = x.1.1 }) }

  abbrev wheel_notes : (ℕ × Maker) × (QOp × QReply) → NumberedEntry
  wheel_notes x = record { number = x.0.0; entry = of.Cpu (record { actor = x.0.1.actor; act = x.0.1.act; op = x.1.0; reply = x.1.1 }) }

  abbrev own_notes : (ℕ × Maker) × OwnKind → NumberedEntry
  own_notes x = record { number = x.0.0; entry = of.Own (record { actor = x.0.1.actor; act = x.0.1.act; kind = x.1 }) }

  abbrev note : ℕ → AnyEntry → NumberedEntry
  note k e = record { number = k; entry = e }

  note-back : (p : Place) (k : ℕ) (e : AnyEntry) (ws : List Word) → ShownFits s p (note k e) → note_form names p (note_words s k e ++ ws) ≡ Ok (note k e, ws)
  note-back (place.Timer i) k (of.Timer e) ws h = made-back timer_notes timer_parts ((k, record { actor = e.actor; act = e.act }), (e.op, e.reply)) ws ((h.0, h.1.0), h.1.1)
  note-back (place.Timer i) k (of.Cpu e) ws h = absurd h.1
  note-back (place.Timer i) k (of.Own e) ws h = absurd h.1
  note-back (place.Cpu c) k (of.Timer e) ws h = absurd h.1
  note-back (place.Cpu c) k (of.Cpu e) ws h = made-back wheel_notes wheel_parts ((k, record { actor = e.actor; act = e.act }), (e.op, e.reply)) ws ((h.0, h.1.0), h.1.1)
  note-back (place.Cpu c) k (of.Own e) ws h = absurd h.1
  note-back (place.Actor a) k (of.Timer e) ws h = absurd h.1
  note-back (place.Actor a) k (of.Cpu e) ws h = absurd h.1
  note-back (place.Actor a) k (of.Own e) ws h = made-back own_notes (own_parts a) ((k, record { actor = e.actor; act = e.act }), e.kind) ws ((h.0, h.1), tt)

  note-told : (p : Place) (ws : List Word) (x : NumberedEntry) (rest : List Word) → note_form names p ws ≡ Ok (x, rest) → ShownFits s p x × (ws ≡ shown_words s x ++ rest)
  note-told (place.Timer i) ws x rest h = made-told timer_notes timer_parts (λ y rest. ShownFits s (place.Timer i) y × (ws ≡ shown_words s y ++ rest)) ws rest (λ a f e. ((f.0.0, (f.0.1, f.1)), e)) x h
  note-told (place.Cpu c) ws x rest h = made-told wheel_notes wheel_parts (λ y rest. ShownFits s (place.Cpu c) y × (ws ≡ shown_words s y ++ rest)) ws rest (λ a f e. ((f.0.0, (f.0.1, f.1)), e)) x h
  note-told (place.Actor a) ws x rest h = made-told own_notes (own_parts a) (λ y rest. ShownFits s (place.Actor a) y × (ws ≡ shown_words s y ++ rest)) ws rest (λ b f e. ((f.0.0, f.0.1), e)) x h

  note-ink : (p : Place) (k : ℕ) (e : AnyEntry) → ShownFits s p (note k e) → AreParts (note_words s k e)
  note-ink (place.Timer i) k (of.Timer e) h = timer_parts.ink ((k, record { actor = e.actor; act = e.act }), (e.op, e.reply)) ((h.0, h.1.0), h.1.1)
  note-ink (place.Timer i) k (of.Cpu e) h = absurd h.1
  note-ink (place.Timer i) k (of.Own e) h = absurd h.1
  note-ink (place.Cpu c) k (of.Timer e) h = absurd h.1
  note-ink (place.Cpu c) k (of.Cpu e) h = wheel_parts.ink ((k, record { actor = e.actor; act = e.act }), (e.op, e.reply)) ((h.0, h.1.0), h.1.1)
  note-ink (place.Cpu c) k (of.Own e) h = absurd h.1
  note-ink (place.Actor a) k (of.Timer e) h = absurd h.1
  note-ink (place.Actor a) k (of.Cpu e) h = absurd h.1
  note-ink (place.Actor a) k (of.Own e) h = (own_parts a).ink ((k, record { actor = e.actor; act = e.act }), e.kind) ((h.0, h.1), tt)

  -- the notes of a place
  pub note_exact : (p : Place) → Exact (ShownFits s p) (shown_words s) (note_form names p)
  note_exact p = record { back = λ x ws h. note-back p x.number x.entry ws h; told = note-told p; ink = λ x h. note-ink p x.number x.entry h }
