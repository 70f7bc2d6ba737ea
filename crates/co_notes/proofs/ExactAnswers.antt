-- The operations on a queue, and what it answers, are read exactly from the words that they are written by.
use Rattle.std.proofs.Common.{◌≡◌, ℕ, List, [], ◌∷◌, ◌++◌, refl, ap, subst, ◌∙◌}
use Rattle.std.specs.Prelude.{Ok, codes}
use Rattle.co_object.specs.declared.QOp.{QOp}
use Rattle.co_object.specs.declared.QOp.TheVariants as queue
use Rattle.co_object.specs.declared.QReply.{QReply}
use Rattle.co_object.specs.declared.QReply.TheVariants as answer
use Rattle.co_program.specs.declared.Script.{Script}
use Rattle.co_text.specs.Values.{Word, is_word}
use Rattle.co_text.specs.Written.{units_word}
use Rattle.co_text.specs.Taking.{Read, next}
use Rattle.co_notes.proofs.PartSplits.{AreParts}
use Rattle.co_script.proofs.told.Steps.{cond-ok}
use Rattle.co_notes.specs.declared.reading.names.Names.{Names}
use Rattle.co_notes.specs.NoteTexts.{callout_word, arming_word, queue_words, answer_words}
use Rattle.co_notes.specs.NoteValues.{names_of, IsSmallScript, time_in_units, arming, callout_value}
use Rattle.co_notes.specs.NoteForms.{both, direct_or, queue_forms, queue_form, answer_forms, answer_form}
use Rattle.co_notes.specs.NoteFits.{IsTime, IsLong, IsCallout, QueueFits, AnswerFits}
use Rattle.co_notes.proofs.Exact.{Exact, lit, same_word, same_pair, one, two, made-back, Tells, tells-made, tells-nothing, EachTells, choice-told}
use Rattle.co_notes.proofs.ExactValues.{times, armings, counts}
use Rattle.co_notes.proofs.ExactNames.{callouts}

module _ (s : Script) (small : IsSmallScript s) where
  abbrev names : Names
  names = names_of s

  insert_exact : Exact (λ p. IsCallout s p.0 × (IsLong p.1.0 × IsTime p.1.1)) (λ p. callout_word p.0 ∷ arming_word p.1.0 ∷ units_word p.1.1 ∷ []) (both (next (callout_value names)) (both (next arming) (next time_in_units)))
  insert_exact = two (one (callouts s small)) (two (one armings) (one times))

  abbrev inserts : ℕ × (ℕ × ℕ) → QOp
  inserts x = queue.Insert x.0 x.1.0 x.1.1

  abbrev gots : ℕ × (ℕ × ℕ) → QReply
  gots x = answer.Got x.0 x.1.0 x.1.1

  -- one operation behind `direct`, else the other
  tells-direct : (k : Word) (direct other : QOp) → QueueFits s direct → QueueFits s other → ((rest : List Word) → k ∷ codes "direct" ∷ rest ≡ queue_words direct ++ rest) → ((rest : List Word) → k ∷ rest ≡ queue_words other ++ rest)
      → Tells (QueueFits s) queue_words k (direct_or direct other)
  tells-direct k direct other fits fits_other e f = record { told = told } where
    plain : (ws : List Word) (x : QOp) (rest : List Word) → ◌≡◌ {A = Read QOp} (Ok (other, ws)) (Ok (x, rest)) → QueueFits s x × (k ∷ ws ≡ queue_words x ++ rest)
    plain ws x rest h =
        let p = same_pair other x ws rest h in
        subst (λ (q : QOp). QueueFits s q × (k ∷ ws ≡ queue_words q ++ rest)) p.0 (fits_other, ap (λ r. k ∷ r) p.1 ∙ f rest)

    told : (ws : List Word) (x : QOp) (rest : List Word) → direct_or direct other ws ≡ Ok (x, rest) → QueueFits s x × (k ∷ ws ≡ queue_words x ++ rest)
    told [] x rest h = plain [] x rest h
    told (w ∷ ws) x rest h =
        cond-ok (QueueFits s x × (k ∷ w ∷ ws ≡ queue_words x ++ rest)) (is_word w (codes "direct")) (Ok (direct, ws)) (Ok (other, w ∷ ws)) (x, rest)
        (λ g l.
        let p = same_pair direct x ws rest l in
        subst (λ (q : QOp). QueueFits s q × (k ∷ w ∷ ws ≡ queue_words q ++ rest)) p.0 (fits, ap (λ v. k ∷ v ∷ ws) (same_word w (codes "direct") g) ∙ (ap (λ r. k ∷ codes "direct" ∷ r) p.1 ∙ e rest)))
        (λ l. plain (w ∷ ws) x rest l)
        h

  pub queue-tells : EachTells (QueueFits s) queue_words (queue_forms names)
  unfolding queue_forms
  queue-tells = (
    tells-made (QueueFits s) queue_words (codes "insert") inserts insert_exact (λ a h. (h.1, h.0)) (λ a rest. refl),
    (
      tells-made (QueueFits s) queue_words (codes "remove") (λ i. queue.Remove i) (one (callouts s small)) (λ a h. (tt, h)) (λ a rest. refl),
      (
        tells-made (QueueFits s) queue_words (codes "scan") (λ t. queue.Scan t) (one times) (λ a h. (h, tt)) (λ a rest. refl),
        (
          tells-direct (codes "pop") queue.PopDirect queue.Pop (tt, tt) (tt, tt) (λ rest. refl) (λ rest. refl),
          (
            tells-direct (codes "free") queue.FreeDirect queue.Free (tt, tt) (tt, tt) (λ rest. refl) (λ rest. refl),
            tt,
          ),
        ),
      ),
    ),
  )

  -- before `=`
  pub queue-back : (o : QOp) (ws : List Word) → QueueFits s o → queue_form names (queue_words o ++ codes "=" ∷ ws) ≡ Ok (o, codes "=" ∷ ws)
  unfolding queue_forms
  queue-back (queue.Insert i n t) ws h = made-back inserts insert_exact (i, (n, t)) (codes "=" ∷ ws) (h.1, h.0)
  queue-back (queue.Remove i) ws h = made-back (λ i. queue.Remove i) (one (callouts s small)) i (codes "=" ∷ ws) h.1
  queue-back (queue.Scan now) ws h = made-back (λ t. queue.Scan t) (one times) now (codes "=" ∷ ws) h.0
  queue-back queue.Pop ws h = refl
  queue-back queue.Free ws h = refl
  queue-back queue.PopDirect ws h = refl
  queue-back queue.FreeDirect ws h = refl

  pub queue-ink : (o : QOp) → QueueFits s o → AreParts (queue_words o)
  queue-ink (queue.Insert i n t) h = (lit (codes "insert") refl, insert_exact.ink (i, (n, t)) (h.1, h.0))
  queue-ink (queue.Remove i) h = (lit (codes "remove") refl, ((callouts s small).ink i h.1, tt))
  queue-ink (queue.Scan now) h = (lit (codes "scan") refl, (times.ink now h.0, tt))
  queue-ink queue.Pop h = (lit (codes "pop") refl, tt)
  queue-ink queue.Free h = (lit (codes "free") refl, tt)
  queue-ink queue.PopDirect h = (lit (codes "pop") refl, (lit (codes "direct") refl, tt))
  queue-ink queue.FreeDirect h = (lit (codes "free") refl, (lit (codes "direct") refl, tt))

  answer-tells : EachTells (AnswerFits s) answer_words (answer_forms names)
  unfolding answer_forms
  answer-tells = (
    tells-made (AnswerFits s) answer_words (codes "at") (λ t. answer.At t) (one times) (λ a h. (h, tt)) (λ a rest. refl),
    (
      tells-nothing (AnswerFits s) answer_words (codes "off") answer.Off (tt, tt) (λ rest. refl),
      (
        tells-nothing (AnswerFits s) answer_words (codes "missing") answer.Missing (tt, tt) (λ rest. refl),
        (
          tells-made (AnswerFits s) answer_words (codes "count") (λ k. answer.Count k) (one counts) (λ a h. (h, tt)) (λ a rest. refl),
          (
            tells-made (AnswerFits s) answer_words (codes "got") gots insert_exact (λ a h. (h.1, h.0)) (λ a rest. refl),
            (
              tells-nothing (AnswerFits s) answer_words (codes "empty") answer.Empty (tt, tt) (λ rest. refl),
              (
                tells-nothing (AnswerFits s) answer_words (codes "freed") answer.Freed (tt, tt) (λ rest. refl),
                tt,
              ),
            ),
          ),
        ),
      ),
    ),
  )

  answer-back : (a : QReply) (ws : List Word) → AnswerFits s a → answer_form names (answer_words a ++ ws) ≡ Ok (a, ws)
  unfolding answer_forms
  answer-back (answer.At t) ws h = made-back (λ t. answer.At t) (one times) t ws h.0
  answer-back answer.Off ws h = refl
  answer-back answer.Missing ws h = refl
  answer-back (answer.Count k) ws h = made-back (λ k. answer.Count k) (one counts) k ws h.0
  answer-back (answer.Got i n at) ws h = made-back gots insert_exact (i, (n, at)) ws (h.1, h.0)
  answer-back answer.Empty ws h = refl
  answer-back answer.Freed ws h = refl

  answer-ink : (a : QReply) → AnswerFits s a → AreParts (answer_words a)
  answer-ink (answer.At t) h = (lit (codes "at") refl, (times.ink t h.0, tt))
  answer-ink answer.Off h = (lit (codes "off") refl, tt)
  answer-ink answer.Missing h = (lit (codes "missing") refl, tt)
  answer-ink (answer.Count k) h = (lit (codes "count") refl, (counts.ink k h.0, tt))
  answer-ink (answer.Got i n at) h = (lit (codes "got") refl, insert_exact.ink (i, (n, at)) (h.1, h.0))
  answer-ink answer.Empty h = (lit (codes "empty") refl, tt)
  answer-ink answer.Freed h = (lit (codes "freed") refl, tt)

  pub answer_exact : Exact (AnswerFits s) answer_words (answer_form names)
  answer_exact = record { back = answer-back; told = choice-told (AnswerFits s) answer_words (answer_forms names) answer-tells; ink = answer-ink }
