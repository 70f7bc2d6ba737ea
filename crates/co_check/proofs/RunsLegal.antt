-- The report of a run is legal.
use Rattle.std.proofs.Common.{◌≡◌, ℕ, zero, suc, ◌+◌, ◌<◌, ◌≤◌, ◌==◌, ◌||◌, Bool, true, false, cond, not, nat_lt, List, [], ◌∷◌, length, refl, ap, sym, subst, ◌∙◌, arith}
use Rattle.std.specs.Prelude.{Option, Some, None}
use Rattle.std.specs.List.{list_any, cons_option, range_with_len}
use Rattle.std.proofs.lemmas.Bool.Decides.{nat_tests}
use Rattle.std.proofs.lemmas.Option.{slice_get-get_or}
use Rattle.co_object.specs.declared.Entry.{Entry}
use Rattle.co_object.specs.declared.QEntry.{QEntry}
use Rattle.co_object.specs.declared.Note.{Note}
use Rattle.co_object.specs.declared.Place.{Place}
use Rattle.co_object.specs.declared.Place.TheVariants as place
use Rattle.co_object.specs.declared.AnyEntry.{AnyEntry}
use Rattle.co_object.specs.declared.AnyEntry.TheVariants as of
use Rattle.co_object.specs.History.{IsLegal}
use Rattle.co_object.specs.Journal.{IsLegalQueue}
use Rattle.co_program.specs.declared.script.Script.{Script}
use Rattle.co_program.specs.Action.{spec_at}
use Rattle.co_program.specs.Actors.{actor_count, all_actors}
use Rattle.co_program.specs.Places.{place_exists}
use Rattle.co_program.specs.Runs.{IsRunOf, actors_of, are_direct, notes_by, shown_histories}
use Rattle.co_report.specs.declared.line.Line.{Line}
use Rattle.co_check.specs.Astray.{by_actor, astray_of, is_unfinished, first_astray_of, or_later}
use Rattle.co_check.specs.Laws.{AreLegal}
use Rattle.co_check.specs.Lines.{AreLinesOf}
use Rattle.co_check.specs.Numbers.{number_at, first_misnumbered}
use Rattle.co_check.specs.Programs.{IsOfProgram}
use Rattle.co_check.specs.Runs.{Show, RunsAreLegal}
use Rattle.co_check.specs.Shown.{callout_entry_at, queue_entry_at, callout_history, cpu_journal}
use Rattle.co_check.specs.Verdict.{unless_bad, unless_astray, verdict_at_end, verdict_by_numbers, verdict_by_programs}
use Rattle.co_check.proofs.Counting.{none-bad}
use Rattle.co_check.proofs.LegalHistories.{legal-fit}
use Rattle.co_check.proofs.Nexts.{follows-then}
use Rattle.co_check.proofs.SeenNotes.{actor-seen}
use Rattle.co_check.proofs.Showing.{number-fine}

-- ---- places that are none of the script's

lower : (m n : ℕ) → nat_lt m n ≡ true → m < n
lower m n h = grind (arith, nat_tests)

apart-is : (m n : ℕ) → m < n → (m == n) ≡ false
apart-is m n h = grind (arith, nat_tests)

no-callout-there : (s : Script) (i : ℕ) (p : Place) (e : AnyEntry) → place_exists s p ≡ true → length s.timers ≤ i → callout_entry_at i p e ≡ None
no-callout-there s i (place.Timer j) (of.Timer e) exists past = ap (λ b. cond {A = Option Entry} b (Some e) None) (apart-is j i (omega (arith, lower j (length s.timers) exists)))
no-callout-there s i (place.Timer j) (of.Cpu e) exists past = refl
no-callout-there s i (place.Timer j) (of.Own e) exists past = refl
no-callout-there s i (place.Cpu j) (of.Timer e) exists past = refl
no-callout-there s i (place.Cpu j) (of.Cpu e) exists past = refl
no-callout-there s i (place.Cpu j) (of.Own e) exists past = refl
no-callout-there s i (place.Actor j) (of.Timer e) exists past = refl
no-callout-there s i (place.Actor j) (of.Cpu e) exists past = refl
no-callout-there s i (place.Actor j) (of.Own e) exists past = refl

no-queue-there : (s : Script) (i : ℕ) (p : Place) (e : AnyEntry) → place_exists s p ≡ true → s.cpus ≤ i → queue_entry_at i p e ≡ None
no-queue-there s i (place.Cpu j) (of.Cpu e) exists past = ap (λ b. cond {A = Option QEntry} b (Some e) None) (apart-is j i (omega (arith, lower j s.cpus exists)))
no-queue-there s i (place.Cpu j) (of.Timer e) exists past = refl
no-queue-there s i (place.Cpu j) (of.Own e) exists past = refl
no-queue-there s i (place.Timer j) (of.Timer e) exists past = refl
no-queue-there s i (place.Timer j) (of.Cpu e) exists past = refl
no-queue-there s i (place.Timer j) (of.Own e) exists past = refl
no-queue-there s i (place.Actor j) (of.Timer e) exists past = refl
no-queue-there s i (place.Actor j) (of.Cpu e) exists past = refl
no-queue-there s i (place.Actor j) (of.Own e) exists past = refl

no-callouts : (s : Script) (i : ℕ) (lines : List Line) → AreLinesOf s lines → length s.timers ≤ i → callout_history i lines ≡ []
no-callouts s i [] h past = refl
no-callouts s i (l ∷ ls) h past = ap (λ o. cons_option o (callout_history i ls)) (no-callout-there s i l.place l.entry h.0.place past) ∙ no-callouts s i ls h.1 past

no-queues : (s : Script) (i : ℕ) (lines : List Line) → AreLinesOf s lines → s.cpus ≤ i → cpu_journal i lines ≡ []
no-queues s i [] h past = refl
no-queues s i (l ∷ ls) h past = ap (λ o. cons_option o (cpu_journal i ls)) (no-queue-there s i l.place l.entry h.0.place past) ∙ no-queues s i ls h.1 past

higher : (m n : ℕ) → nat_lt m n ≡ false → n ≤ m
higher m n h = grind (arith, nat_tests)

legal : (s : Script) (lists : List (List Note)) (lines : List Line) → IsRunOf s lists → AreLinesOf s lines → Show lists lines → AreLegal s lines
legal s lists lines run of_script show = record {
  callouts = λ i. callout i (nat_lt i (length s.timers)) refl;
  cpus = λ cpu. queue cpu (nat_lt cpu s.cpus) refl;
}
  where
    callout : (i : ℕ) (b : Bool) → nat_lt i (length s.timers) ≡ b → IsLegal (actors_of s) (spec_at s i) (callout_history i lines)
    callout i true is = subst (IsLegal (actors_of s) (spec_at s i)) (sym (show.callouts i)) (run.callouts i (lower i (length s.timers) is))
    callout i false is = subst (IsLegal (actors_of s) (spec_at s i)) (sym (no-callouts s i lines of_script (higher i (length s.timers) is))) tt

    queue : (cpu : ℕ) (b : Bool) → nat_lt cpu s.cpus ≡ b → IsLegalQueue (actors_of s) cpu s.buckets (are_direct s) (cpu_journal cpu lines)
    queue cpu true is = subst (IsLegalQueue (actors_of s) cpu s.buckets (are_direct s)) (sym (show.cpus cpu)) (run.cpus cpu (lower cpu s.cpus is))
    queue cpu false is = subst (IsLegalQueue (actors_of s) cpu s.buckets (are_direct s)) (sym (no-queues s cpu lines of_script (higher cpu s.cpus is))) tt

-- ---- all actors

none-of : (wrong : ℕ → Option ℕ) (from n : ℕ) → ((a : ℕ) → a < from + n → wrong a ≡ None) → first_astray_of wrong (range_with_len from n) ≡ None
none-of wrong from zero fine = refl
none-of wrong from (suc n) fine = ap (λ o. or_later o (first_astray_of wrong (range_with_len (from + 1) n))) (fine from (omega arith)) ∙ none-of wrong (from + 1) n (λ a below. fine a (omega arith))

no-any : (p : ℕ → Bool) (from n : ℕ) → ((a : ℕ) → a < from + n → p a ≡ false) → list_any p (range_with_len from n) ≡ false
no-any p from zero fine = refl
no-any p from (suc n) fine = ap (λ b. b || list_any p (range_with_len (from + 1) n)) (fine from (omega arith)) ∙ no-any p (from + 1) n (λ a below. fine a (omega arith))

pub runs-legal : RunsAreLegal
runs-legal s lists lines end run of_script show =
    ap (λ o. unless_bad o (verdict_by_numbers s lines end)) (legal-fit s lines (legal s lists lines run of_script show))
    ∙ (ap (λ o. unless_bad o (verdict_by_programs s lines end)) numbers
    ∙ (ap (λ o. unless_astray o (verdict_at_end (list_any (is_unfinished s lines) (all_actors s)) end)) (none-of (astray_of s lines) 0 (actor_count s) (λ a below. (each a (omega arith)).0))
    ∙ ap (λ b. verdict_at_end b end) (no-any (is_unfinished s lines) 0 (actor_count s) (λ a below. ap not (each a (omega arith)).1))))
  where
    numbers : first_misnumbered lines ≡ None
    numbers = none-bad (number_at lines) lines (number-fine lists lines run.formed show)

    each : (a : ℕ) → a < actor_count s → IsOfProgram s a (by_actor s lines a)
    each a below = follows-then s (shown_histories lists) a (notes_by lists a) (by_actor s lines a)
        (actor-seen s lists lines run.formed of_script show a (notes_by lists a) (slice_get-get_or lists a [] (omega (arith, below, run.actors)))) (run.follow a below)
