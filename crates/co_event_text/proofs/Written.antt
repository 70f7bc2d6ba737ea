-- What each answer writes, for whatever events the queue stood.
use Rattle.std.proofs.Common.{◌≡◌, ℕ, zero, suc, ◌+◌, ◌<◌, ◌≤◌, List, ◌++◌, length, get_or, drop, refl, ap, sym, subst, ◌∙◌, arith, append_assoc}
use Rattle.std.specs.Prelude.{Result, Ok, Err, OnOk}
use Rattle.std.specs.declared.option.Option.TheVariants.{Some, None}
use Rattle.co_text.specs.Lines.{line_text, text}
use Rattle.co_text.proofs.Spacing.{text_append}
use Rattle.co_batch.specs.Answers.{answers}
use Rattle.co_batch.proofs.Answering.{answers_step, one_line}
use Rattle.co_event.specs.declared.Event.{Event}
use Rattle.co_event.specs.Events.{Events}
use Rattle.co_event.specs.Calls.{settle}
use Rattle.co_event.specs.EventTimers.{EventTimers}
use Rattle.co_event.specs.StandsFor.{StandsFor, Answers}
use Rattle.co_event.proofs.Standing.{sound-of}
use Rattle.co_event_text.specs.declared.command.EventCommand.{EventCommand}
use Rattle.co_event_text.specs.Answers.{answered, answering, event_lines, events_by, take_by, run_until, until_words}
use Rattle.co_event_text.specs.Written.{IsPageWritten}
use Rattle.co_event_text.proofs.Until.{ended, fewer-by, with-some}

-- what follows where it is not an error
pub on_ok : {X E : Type 0} (r : Result X E) (P Q : Type 0) → (P → Q) → OnOk r P → OnOk r Q
on_ok (Ok x) P Q f h = f h
on_ok (Err e) P Q f h = h

-- ---- an `until`

-- Behind some of its events: what is pending now, at most how many events are to come, and the text that is to come.
pub record Halfway (t : ℕ) (first page : List ℕ) (s : EventTimers) (e : Events) : Type 0 where
  pub now : Events
  pub most : ℕ
  pub stands : StandsFor s now
  pub enough : length now.pending ≤ most
  pub to_come : page ++ text (events_by t most now).1 ≡ first ++ text (run_until t e).1
  pub ends : (events_by t most now).0 ≡ (run_until t e).0

module _ (t : ℕ) (first page : List ℕ) (s u : EventTimers) (e : Events) where
  pub halfway-more : (then : List ℕ) (event : Event) (numbers : List ℕ) → Answers s u (take_by t) (Some event, numbers) → then ≡ page ++ text (event_lines event numbers) → Halfway t first page s e → Halfway t first then u e
  halfway-more then event numbers answer is h = at_most h.most h.enough h.to_come h.ends where
    now : Events
    now = h.now

    out : ((take_by t now).1 ≡ (Some event, numbers)) × StandsFor u (take_by t now).0
    out = answer.outcome now h.stands

    less : length (take_by t now).0.pending < length now.pending
    less = fewer-by t now event numbers (sound-of now h.stands.sound) out.0

    at_most : (most : ℕ) → length now.pending ≤ most → page ++ text (events_by t most now).1 ≡ first ++ text (run_until t e).1 → (events_by t most now).0 ≡ (run_until t e).0 → Halfway t first then u e
    at_most zero enough to_come ends = absurd (omega (arith, enough, less))
    at_most (suc most) enough to_come ends =
        let rest = events_by t most (take_by t now).0 in
        let more = with-some t (take_by t now) rest event numbers out.0 in
        record {
          now = (take_by t now).0;
          most = most;
          stands = out.1;
          enough = omega (arith, enough, less);
          to_come =
              ap (λ p. p ++ text rest.1) is
              ∙ append_assoc page (text (event_lines event numbers)) (text rest.1)
              ∙ ap (λ r. page ++ r) (sym (text_append (event_lines event numbers) rest.1))
              ∙ ap (λ a. page ++ text a.1) (sym more)
              ∙ to_come;
          ends = ap (λ a. a.0) (sym more) ∙ ends;
        }

  pub halfway-ended : (v : EventTimers) (then : List ℕ) (numbers : List ℕ) → Answers s u (take_by t) (None, numbers) → Answers {R = Unit {0}} u v (λ e. settle e t) tt → then ≡ page ++ line_text (until_words t) →
      Halfway t first page s e → (then ≡ first ++ text (run_until t e).1) × StandsFor v (run_until t e).0
  halfway-ended v then numbers answer settles is h =
      let out = answer.outcome h.now h.stands in
      let last = settles.outcome (take_by t h.now).0 out.1 in
      let end = ended t h.most h.now numbers out.0 in (
        one_line page then (until_words t) is ∙ ap (λ a. page ++ text a.1) (sym end) ∙ h.to_come,
        subst (λ (f : Events). StandsFor v f) (ap (λ a. a.0) (sym end) ∙ h.ends) last.1,
      )

-- ---- all commands

-- Behind some of the commands: what is pending now, and the text that is to come.
pub record SoFar (n : ℕ) (first page : List ℕ) (s : EventTimers) (all rest : List EventCommand) (e : Events) : Type 0 where
  pub now : Events
  pub stands : StandsFor s now
  pub to_come : page ++ text (answers answering n now rest) ≡ first ++ text (answers answering n e all)

pub so_far-more : (n : ℕ) (first page then : List ℕ) (s u : EventTimers) (cs : List EventCommand) (i : ℕ) (d c : EventCommand) (e : Events) →
    i < length cs → c ≡ get_or cs i d → IsPageWritten s u page then (answered c) → SoFar n first page s cs (drop i cs) e → SoFar n first then u cs (drop (i + 1) cs) e
so_far-more n first page then s u cs i d c e inside is written h =
    let out = written.outcome h.now h.stands in
    record {
      now = (answered c h.now).0;
      stands = out.1;
      to_come = answers_step answering n h.now (answered c h.now).0 cs i d c (first ++ text (answers answering n e cs)) page then h.to_come inside is out.0 refl;
    }
