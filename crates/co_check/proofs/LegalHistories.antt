-- Nothing is wrong with the histories of a report exactly where each is legal.
use Rattle.std.proofs.Common.{◌≡◌, ℕ, ◌==◌, Bool, true, false, List, [], ◌∷◌, ◌++◌, append_assoc, refl, ap, sym, subst, ◌∙◌, inl, inr}
use Rattle.std.specs.Prelude.{Option, Some, None}
use Rattle.std.proofs.lemmas.Bool.{cases_eq}
use Rattle.std.proofs.lemmas.List.Elements.{filter_map-append}
use Rattle.co_object.specs.declared.Entry.{Entry}
use Rattle.co_object.specs.declared.QEntry.{QEntry}
use Rattle.co_object.specs.declared.Op.{Op}
use Rattle.co_object.specs.declared.Op.TheVariants.{Call, Run}
use Rattle.co_object.specs.declared.QOp.{QOp}
use Rattle.co_object.specs.declared.QOp.TheVariants.{Insert, Remove, Scan, Pop, Free, PopDirect, FreeDirect}
use Rattle.co_object.specs.declared.Reply.{Reply}
use Rattle.co_object.specs.declared.QReply.{QReply}
use Rattle.co_object.specs.declared.Place.{Place}
use Rattle.co_object.specs.declared.Place.TheVariants as place
use Rattle.co_object.specs.declared.AnyEntry.{AnyEntry}
use Rattle.co_object.specs.declared.AnyEntry.TheVariants as of
use Rattle.co_object.specs.declared.Spec.{Spec}
use Rattle.co_object.specs.Actors.{Actors, cpu_actor, interrupt_actor}
use Rattle.co_object.specs.Callout.{opening, step}
use Rattle.co_object.specs.History.{IsLegal, May, next, reply_of, IsOfItsActor, server, cpu_of}
use Rattle.co_object.specs.Journal as journal
use Rattle.co_object.specs.Queue.{empty_queue}
use Rattle.co_object.proofs.Histories.{legal-snoc, legal-front, legal-last}
use Rattle.co_program.specs.declared.script.Script.{Script}
use Rattle.co_program.specs.Action.{spec_at}
use Rattle.co_program.specs.Runs.{actors_of, are_direct}
use Rattle.co_report.specs.declared.line.Line.{Line}
use Rattle.co_check.specs.declared.verdict.Unfit.{Unfit}
use Rattle.co_check.specs.declared.verdict.Verdict.{Verdict}
use Rattle.co_check.specs.declared.verdict.Verdict.TheVariants.{Legal}
use Rattle.co_check.specs.Laws.{AreLegal, HistoriesOfLegalReports, LegalHistoriesFit}
use Rattle.co_check.specs.Replay.{Bad, bad_or, first_bad, first_unfit, unfit_at, unfit_unless, is_reply, is_answer, may_serve, may_work, callout_unfit, queue_unfit, state_after, queue_after}
use Rattle.co_check.specs.Shown.{callout_entry_at, queue_entry_at, callout_history, cpu_journal}
use Rattle.co_check.specs.Verdict.{unless_bad, verdict_by_numbers}
use Rattle.co_check.proofs.SameValues.{equal, itself, reply-equal, reply-itself, answer-equal, answer-itself}
use Rattle.co_check.proofs.Taking.{callout-grows, journal-grows, callout-unmoved, journal-unmoved, own-callout, other-callout, no-callout, own-queue, other-queue, no-queue}

-- ---- one entry

actor-may : (may legal : Bool) → unfit_unless may legal ≡ None → may ≡ true
actor-may true legal h = refl
actor-may false legal h = cc

is-legal : (may legal : Bool) → unfit_unless may legal ≡ None → legal ≡ true
is-legal true true h = refl
is-legal true false h = cc
is-legal false legal h = cc

nothing : (may legal : Bool) → may ≡ true → legal ≡ true → unfit_unless may legal ≡ None
nothing true true h g = refl
nothing true false h g = cc
nothing false legal h g = cc

serves : (actors : Actors) (spec : Spec) (actor : ℕ) (op : Op) → may_serve actors spec actor op ≡ true → IsOfItsActor actors spec actor op
serves actors spec actor (Call op) h = tt
serves actors spec actor (Run op) h = equal actor (server actors spec (cpu_of op)) h

served : (actors : Actors) (spec : Spec) (actor : ℕ) (op : Op) → IsOfItsActor actors spec actor op → may_serve actors spec actor op ≡ true
served actors spec actor (Call op) h = refl
served actors spec actor (Run op) h = ap (λ n. n == server actors spec (cpu_of op)) h ∙ itself (server actors spec (cpu_of op))

works : (actors : Actors) (cpu actor : ℕ) (op : QOp) → may_work actors cpu actor op ≡ true → journal.IsOfItsActor actors cpu actor op
works actors cpu actor (Insert i n t) h = tt
works actors cpu actor (Remove i) h = tt
works actors cpu actor (Scan now) h = equal actor (journal.scanner actors cpu) h
works actors cpu actor Pop h = equal actor (cpu_actor actors cpu) h
works actors cpu actor Free h = equal actor (cpu_actor actors cpu) h
works actors cpu actor PopDirect h = equal actor (interrupt_actor actors cpu) h
works actors cpu actor FreeDirect h = equal actor (interrupt_actor actors cpu) h

worked : (actors : Actors) (cpu actor : ℕ) (op : QOp) → journal.IsOfItsActor actors cpu actor op → may_work actors cpu actor op ≡ true
worked actors cpu actor (Insert i n t) h = refl
worked actors cpu actor (Remove i) h = refl
worked actors cpu actor (Scan now) h = ap (λ n. n == journal.scanner actors cpu) h ∙ itself (journal.scanner actors cpu)
worked actors cpu actor Pop h = ap (λ n. n == cpu_actor actors cpu) h ∙ itself (cpu_actor actors cpu)
worked actors cpu actor Free h = ap (λ n. n == cpu_actor actors cpu) h ∙ itself (cpu_actor actors cpu)
worked actors cpu actor PopDirect h = ap (λ n. n == interrupt_actor actors cpu) h ∙ itself (interrupt_actor actors cpu)
worked actors cpu actor FreeDirect h = ap (λ n. n == interrupt_actor actors cpu) h ∙ itself (interrupt_actor actors cpu)

replied : (o : Option Reply) (given : Reply) → is_reply o given ≡ true → o ≡ Some given
replied None given h = cc
replied (Some reply) given h = ap Some (reply-equal reply given h)

reply-given : (o : Option Reply) (given : Reply) → o ≡ Some given → is_reply o given ≡ true
reply-given o given h = ap (λ x. is_reply x given) h ∙ reply-itself given

answered : (o : Option QReply) (given : QReply) → is_answer o given ≡ true → o ≡ Some given
answered None given h = cc
answered (Some reply) given h = ap Some (answer-equal reply given h)

answer-given : (o : Option QReply) (given : QReply) → o ≡ Some given → is_answer o given ≡ true
answer-given o given h = ap (λ x. is_answer x given) h ∙ answer-itself given

module _ (s : Script) where
  abbrev May_callout : ℕ → List Line → Entry → Type 0
  May_callout i above e = May (actors_of s) (spec_at s i) (state_after s above i) e

  abbrev May_queue : ℕ → List Line → QEntry → Type 0
  May_queue cpu above e = journal.May (actors_of s) cpu s.buckets (are_direct s) (queue_after s above cpu) e

  callout-may : (i : ℕ) (above : List Line) (e : Entry) → callout_unfit (actors_of s) (spec_at s i) (state_after s above i) e ≡ None → May_callout i above e
  callout-may i above e h =
      let may = may_serve (actors_of s) (spec_at s i) e.actor e.op in
      let legal = is_reply (reply_of (step (spec_at s i) (state_after s above i) e.op)) e.reply in
      (replied (reply_of (step (spec_at s i) (state_after s above i) e.op)) e.reply (is-legal may legal h), serves (actors_of s) (spec_at s i) e.actor e.op (actor-may may legal h))

  callout-fits : (i : ℕ) (above : List Line) (e : Entry) → May_callout i above e → callout_unfit (actors_of s) (spec_at s i) (state_after s above i) e ≡ None
  callout-fits i above e h =
      nothing (may_serve (actors_of s) (spec_at s i) e.actor e.op) (is_reply (reply_of (step (spec_at s i) (state_after s above i) e.op)) e.reply)
      (served (actors_of s) (spec_at s i) e.actor e.op h.1) (reply-given (reply_of (step (spec_at s i) (state_after s above i) e.op)) e.reply h.0)

  pub queue-may : (cpu : ℕ) (above : List Line) (e : QEntry) → queue_unfit (actors_of s) cpu s.buckets (are_direct s) (queue_after s above cpu) e ≡ None → May_queue cpu above e
  queue-may cpu above e h =
      let may = may_work (actors_of s) cpu e.actor e.op in
      let legal = is_answer (journal.reply_of (journal.step s.buckets (are_direct s) (queue_after s above cpu) e.op)) e.reply in
      (answered (journal.reply_of (journal.step s.buckets (are_direct s) (queue_after s above cpu) e.op)) e.reply (is-legal may legal h), works (actors_of s) cpu e.actor e.op (actor-may may legal h))

  queue-fits : (cpu : ℕ) (above : List Line) (e : QEntry) → May_queue cpu above e → queue_unfit (actors_of s) cpu s.buckets (are_direct s) (queue_after s above cpu) e ≡ None
  queue-fits cpu above e h =
      nothing (may_work (actors_of s) cpu e.actor e.op) (is_answer (journal.reply_of (journal.step s.buckets (are_direct s) (queue_after s above cpu) e.op)) e.reply)
      (worked (actors_of s) cpu e.actor e.op h.1) (answer-given (journal.reply_of (journal.step s.buckets (are_direct s) (queue_after s above cpu) e.op)) e.reply h.0)

  -- ---- one line more

  callout-same : (i : ℕ) (above : List Line) (l : Line) → callout_entry_at i l.place l.entry ≡ None → IsLegal (actors_of s) (spec_at s i) (callout_history i above) → IsLegal (actors_of s) (spec_at s i) (callout_history i (above ++ l ∷ []))
  callout-same i above l none h = subst (IsLegal (actors_of s) (spec_at s i)) (sym (callout-unmoved i above l none)) h

  queue-same : (cpu : ℕ) (above : List Line) (l : Line) → queue_entry_at cpu l.place l.entry ≡ None → journal.IsLegalQueue (actors_of s) cpu s.buckets (are_direct s) (cpu_journal cpu above) → journal.IsLegalQueue (actors_of s) cpu s.buckets (are_direct s) (cpu_journal cpu (above ++ l ∷ []))
  queue-same cpu above l none h = subst (journal.IsLegalQueue (actors_of s) cpu s.buckets (are_direct s)) (sym (journal-unmoved cpu above l none)) h

  no_own-callout : (i a : ℕ) (e : AnyEntry) → callout_entry_at i (place.Actor a) e ≡ None
  no_own-callout i a (of.Timer x) = refl
  no_own-callout i a (of.Cpu x) = refl
  no_own-callout i a (of.Own x) = refl

  no_own-queue : (i a : ℕ) (e : AnyEntry) → queue_entry_at i (place.Actor a) e ≡ None
  no_own-queue i a (of.Timer x) = refl
  no_own-queue i a (of.Cpu x) = refl
  no_own-queue i a (of.Own x) = refl

  module _ (above : List Line) (l : Line) (h : AreLegal s above) where
    by-callout : (i : ℕ) (e : Entry) → l.place ≡ place.Timer i → l.entry ≡ of.Timer e → May_callout i above e → AreLegal s (above ++ l ∷ [])
    by-callout i e p q may = record {
      callouts = λ j. elim (cases_eq j i) [
        | inl same ↦ subst (λ n. IsLegal (actors_of s) (spec_at s n) (callout_history n (above ++ l ∷ []))) (sym same) own
        | inr apart ↦ callout-same j above l (other-callout i j l e p q apart) (h.callouts j)
      ];
      cpus = λ cpu. queue-same cpu above l (no-queue cpu i l p) (h.cpus cpu);
    }
      where
        own : IsLegal (actors_of s) (spec_at s i) (callout_history i (above ++ l ∷ []))
        own = subst (IsLegal (actors_of s) (spec_at s i)) (sym (callout-grows i above l e (own-callout i l e p q)))
            (legal-snoc (next (spec_at s i)) (May (actors_of s) (spec_at s i)) (opening 0) (callout_history i above) e (h.callouts i) may)

    by-queue : (cpu : ℕ) (e : QEntry) → l.place ≡ place.Cpu cpu → l.entry ≡ of.Cpu e → May_queue cpu above e → AreLegal s (above ++ l ∷ [])
    by-queue cpu e p q may = record {
      callouts = λ i. callout-same i above l (no-callout i cpu l p) (h.callouts i);
      cpus = λ j. elim (cases_eq j cpu) [
        | inl same ↦ subst (λ n. journal.IsLegalQueue (actors_of s) n s.buckets (are_direct s) (cpu_journal n (above ++ l ∷ []))) (sym same) own
        | inr apart ↦ queue-same j above l (other-queue cpu j l e p q apart) (h.cpus j)
      ];
    }
      where
        own : journal.IsLegalQueue (actors_of s) cpu s.buckets (are_direct s) (cpu_journal cpu (above ++ l ∷ []))
        own = subst (journal.IsLegalQueue (actors_of s) cpu s.buckets (are_direct s)) (sym (journal-grows cpu above l e (own-queue cpu l e p q)))
            (legal-snoc (journal.next s.buckets (are_direct s)) (journal.May (actors_of s) cpu s.buckets (are_direct s)) empty_queue (cpu_journal cpu above) e (h.cpus cpu) may)

    by-none : ((i : ℕ) → callout_entry_at i l.place l.entry ≡ None) → ((cpu : ℕ) → queue_entry_at cpu l.place l.entry ≡ None) → AreLegal s (above ++ l ∷ [])
    by-none no_call no_queue = record {
      callouts = λ i. callout-same i above l (no_call i) (h.callouts i);
      cpus = λ cpu. queue-same cpu above l (no_queue cpu) (h.cpus cpu);
    }

    by-entry : (p : Place) (e : AnyEntry) → l.place ≡ p → l.entry ≡ e → unfit_at s above p e ≡ None → AreLegal s (above ++ l ∷ [])
    by-entry (place.Timer i) (of.Timer e) p q fit = by-callout i e p q (callout-may i above e fit)
    by-entry (place.Cpu cpu) (of.Cpu e) p q fit = by-queue cpu e p q (queue-may cpu above e fit)
    by-entry (place.Timer i) (of.Cpu e) p q fit = by-none (λ j. ap (λ x. callout_entry_at j x l.entry) p ∙ ap (callout_entry_at j (place.Timer i)) q) (λ j. no-queue j i l p)
    by-entry (place.Timer i) (of.Own e) p q fit = by-none (λ j. ap (λ x. callout_entry_at j x l.entry) p ∙ ap (callout_entry_at j (place.Timer i)) q) (λ j. no-queue j i l p)
    by-entry (place.Cpu cpu) (of.Timer e) p q fit = by-none (λ j. no-callout j cpu l p) (λ j. ap (λ x. queue_entry_at j x l.entry) p ∙ ap (queue_entry_at j (place.Cpu cpu)) q)
    by-entry (place.Cpu cpu) (of.Own e) p q fit = by-none (λ j. no-callout j cpu l p) (λ j. ap (λ x. queue_entry_at j x l.entry) p ∙ ap (queue_entry_at j (place.Cpu cpu)) q)
    by-entry (place.Actor a) e p q fit = by-none (λ j. ap (λ x. callout_entry_at j x l.entry) p ∙ no_own-callout j a l.entry) (λ j. ap (λ x. queue_entry_at j x l.entry) p ∙ no_own-queue j a l.entry)

  abbrev test : List Line → Line → Option Unfit
  test above l = unfit_at s above l.place l.entry

  none-here : (o : Option Unfit) (line : ℕ) (rest : Option Bad) → bad_or o line rest ≡ None → (o ≡ None) × (rest ≡ None)
  none-here None line rest h = (refl, h)
  none-here (Some cause) line rest h = cc

  legal-along : (above lines : List Line) → first_bad test above lines ≡ None → AreLegal s above → AreLegal s (above ++ lines)
  legal-along above [] fits h = subst (AreLegal s) (sym (append-nil above)) h where
    append-nil : (xs : List Line) → xs ++ [] ≡ xs
    append-nil [] = refl
    append-nil (x ∷ xs) = ap (λ ys. x ∷ ys) (append-nil xs)
  legal-along above (l ∷ ls) fits h =
      let both = none-here (test above l) l.line (first_bad test (above ++ l ∷ []) ls) fits in
      subst (AreLegal s) (append_assoc above (l ∷ []) ls) (legal-along (above ++ l ∷ []) ls both.1 (by-entry above l h l.place l.entry refl refl both.0))

  -- ---- a front of legal histories

  front : (above more : List Line) → AreLegal s (above ++ more) → AreLegal s above
  front above more h = record {
    callouts = λ i. legal-front (next (spec_at s i)) (May (actors_of s) (spec_at s i)) (opening 0) (callout_history i above) (callout_history i more)
        (subst (IsLegal (actors_of s) (spec_at s i)) (filter_map-append (λ (x : Line). callout_entry_at i x.place x.entry) above more) (h.callouts i));
    cpus = λ cpu. legal-front (journal.next s.buckets (are_direct s)) (journal.May (actors_of s) cpu s.buckets (are_direct s)) empty_queue (cpu_journal cpu above) (cpu_journal cpu more)
        (subst (journal.IsLegalQueue (actors_of s) cpu s.buckets (are_direct s)) (filter_map-append (λ (x : Line). queue_entry_at cpu x.place x.entry) above more) (h.cpus cpu));
  }

  fits-last : (above : List Line) (l : Line) → AreLegal s (above ++ l ∷ []) → (p : Place) (e : AnyEntry) → l.place ≡ p → l.entry ≡ e → unfit_at s above p e ≡ None
  fits-last above l h (place.Timer i) (of.Timer e) p q = callout-fits i above e
      (legal-last (next (spec_at s i)) (May (actors_of s) (spec_at s i)) (opening 0) (callout_history i above) e
      (subst (IsLegal (actors_of s) (spec_at s i)) (callout-grows i above l e (own-callout i l e p q)) (h.callouts i)))
  fits-last above l h (place.Cpu cpu) (of.Cpu e) p q = queue-fits cpu above e
      (legal-last (journal.next s.buckets (are_direct s)) (journal.May (actors_of s) cpu s.buckets (are_direct s)) empty_queue (cpu_journal cpu above) e
      (subst (journal.IsLegalQueue (actors_of s) cpu s.buckets (are_direct s)) (journal-grows cpu above l e (own-queue cpu l e p q)) (h.cpus cpu)))
  fits-last above l h (place.Timer i) (of.Cpu e) p q = refl
  fits-last above l h (place.Timer i) (of.Own e) p q = refl
  fits-last above l h (place.Cpu cpu) (of.Timer e) p q = refl
  fits-last above l h (place.Cpu cpu) (of.Own e) p q = refl
  fits-last above l h (place.Actor a) (of.Timer e) p q = refl
  fits-last above l h (place.Actor a) (of.Cpu e) p q = refl
  fits-last above l h (place.Actor a) (of.Own e) p q = refl

  fits-along : (above lines : List Line) → AreLegal s (above ++ lines) → first_bad test above lines ≡ None
  fits-along above [] h = refl
  fits-along above (l ∷ ls) h =
      let whole : AreLegal s ((above ++ l ∷ []) ++ ls) = subst (AreLegal s) (sym (append_assoc above (l ∷ []) ls)) h in
      ap (λ o. bad_or o l.line (first_bad test (above ++ l ∷ []) ls)) (fits-last above l (front (above ++ l ∷ []) ls whole) l.place l.entry refl refl) ∙ fits-along (above ++ l ∷ []) ls whole

none-legal : (s : Script) → AreLegal s []
none-legal s = record { callouts = λ i. tt; cpus = λ cpu. tt }

not-bad : (o : Option Bad) (later : Verdict) → unless_bad o later ≡ Legal → o ≡ None
not-bad None later h = refl
not-bad (Some bad) later h = cc

pub histories-legal : HistoriesOfLegalReports
histories-legal s lines end h = legal-along s [] lines (not-bad (first_unfit s lines) (verdict_by_numbers s lines end) h) (none-legal s)

pub legal-fit : LegalHistoriesFit
legal-fit s lines h = fits-along s [] lines h
