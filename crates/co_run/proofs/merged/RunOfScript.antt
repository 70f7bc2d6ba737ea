-- Where the actors' programs are over and the service is closed, the notes are those of a run of the script.
use Rattle.std.proofs.Common.{◌≡◌, ℕ, zero, suc, ◌+◌, ◌*◌, ◌^◌, ◌<◌, ◌≤◌, ◌==◌, ◌⊎◌, inl, inr, Bool, true, false, cond, List, [], ◌∷◌, ◌++◌, map, length, refl, sym, ap, subst, ◌∙◌, arith}
use Rattle.std.specs.Prelude.{Option, Some, None, slice_get, slice_index_or}
use Rattle.std.specs.List.{AllByRecursion, cons_option, filter_map, find, range_with_len}
use Rattle.std.specs.Option.{option_map}
use Rattle.std.proofs.lemmas.Bool.Decides.{nat_tests}
use Rattle.std.proofs.lemmas.List.{length-map}
use Rattle.std.proofs.lemmas.List.Elements.{All-from_recursion, recursion_from_All}
use Rattle.std.proofs.lemmas.List.FromFn.{fill_by_all}
use Rattle.std.proofs.lemmas.Option.{slice_get-get_or}
use Rattle.co_object.specs.declared.note.AnyEntry.{AnyEntry}
use Rattle.co_object.specs.declared.note.AnyEntry.TheVariants as of
use Rattle.co_object.specs.declared.note.Entry.{Entry}
use Rattle.co_object.specs.declared.note.Note.{Note}
use Rattle.co_object.specs.declared.note.Place.{Place}
use Rattle.co_object.specs.declared.note.Place.TheVariants as at
use Rattle.co_object.specs.declared.note.QEntry.{QEntry}
use Rattle.co_object.specs.declared.queue.QReply.TheVariants.{Missing}
use Rattle.co_object.specs.History.{IsLegal}
use Rattle.co_object.specs.Journal.{IsLegalQueue}
use Rattle.co_object.specs.Lists.{IsWellFormed, all_notes_of, callout_history, cpu_journal, entry_at, notes_of}
use Rattle.co_program.specs.declared.script.Script.{Script}
use Rattle.co_program.specs.Action.{Nothing, action_for, spec_at}
use Rattle.co_program.specs.Actors.{actor_count, client_count}
use Rattle.co_program.specs.Cursor.{Cursor, start_of}
use Rattle.co_program.specs.Follows.{Follows, Histories, cursor_after, at_next_note}
use Rattle.co_program.specs.Places.{AllHavePlaces}
use Rattle.co_program.specs.Runs.{IsRunOf, actors_of, are_direct, shown_histories}
use Rattle.co_program.specs.Scripts.{IsScript}
use Rattle.co_world.proofs.basics.Prefixes.{Begins}
use Rattle.co_world.proofs.follows.SilentSteps.{at_next_nothing}
use Rattle.co_world.proofs.follows.Traces.{Trace}
use Rattle.co_service.specs.Closing.{AreAll, AreEnded, AreEndedCpus}
use Rattle.co_desk.specs.Name.{ServiceName}
use Rattle.co_desk.specs.Params.{actor_count as service_actors}
use Rattle.co_desk.specs.Seats.{IsShown}
use Rattle.co_desk.specs.Stories.{by, queue_by}
use Rattle.co_desk.specs.Views.{AreOf, PassesView, journal_seen, seen_of}
use Rattle.co_run.specs.Acting.{params_of}
use Rattle.co_run.specs.Going.{SeenBegins}
use Rattle.co_run.specs.Over.{AreOver, IsActorOver}
use Rattle.co_run.specs.Ran.{shown_cpus, shown_timers}
use Rattle.co_run.specs.Shown.{IsFoundThere}
use Rattle.co_run.specs.Told.{IsGathered}
use Rattle.co_run.proofs.merged.FinalPlaces.{all_filter, few_here, gathered_here, gathered_own, shown_here}

-- ---- lists

all_both : {X : Type 0} (P : X → Type 0) (xs ys : List X) → AllByRecursion P xs → AllByRecursion P ys → AllByRecursion P (xs ++ ys)
all_both P [] ys h k = k
all_both P (x ∷ xs) ys h k = (h.0, all_both P xs ys h.1 k)

begins_both : {X : Type 0} (xs ys : List X) → Begins xs (xs ++ ys)
begins_both [] ys = tt
begins_both (x ∷ xs) ys = (refl, begins_both xs ys)

back_map : {X : Type 0} (f : AnyEntry → Option X) (g : X → AnyEntry) (xs : List X) → ((x : X) → f (g x) ≡ Some x) → filter_map f (map g xs) ≡ xs
back_map f g [] h = refl
back_map f g (x ∷ xs) h = ap (λ o. cons_option o (filter_map f (map g xs))) (h x) ∙ ap (λ ys. x ∷ ys) (back_map f g xs h)

-- ---- what holds of all notes, holds of the history that they show

module _ (P : AnyEntry → Type 0) where
  abbrev IfThere : Option AnyEntry → Type 0
  IfThere None = Unit {0}
  IfThere (Some e) = P e

  found_at : (ns : List Note) (pos : ℕ) → AllByRecursion (λ (n : Note). P n.entry) ns → IfThere (entry_at ns pos)
  found_at [] pos all = tt
  found_at (n ∷ ns) pos all = at_test (n.pos == pos) (found_at ns pos all.1) where
    at_test : (b : Bool) → IfThere (entry_at ns pos) → IfThere (option_map (λ (note : Note). note.entry) (cond b (Some n) (find (λ (note : Note). note.pos == pos) ns)))
    at_test true rest = all.0
    at_test false rest = rest

  all_there : (o : Option AnyEntry) (es : List AnyEntry) → IfThere o → AllByRecursion P es → AllByRecursion P (cons_option o es)
  all_there None es h all = all
  all_there (Some e) es h all = (h, all)

  all_told : (ns : List Note) (at : List ℕ) → AllByRecursion (λ (n : Note). P n.entry) ns → AllByRecursion P (filter_map (entry_at ns) at)
  all_told ns [] all = tt
  all_told ns (pos ∷ at) all = all_there (entry_at ns pos) (filter_map (entry_at ns) at) (found_at ns pos all) (all_told ns at all)

found_all : (s : Script) (name : ServiceName) (place : Place) (a : ℕ) (qs : List PassesView) (lists : List (List Note)) → AreOver s name a qs lists → AllByRecursion (λ (n : Note). IsFoundThere n.entry) (all_notes_of place lists)
found_all s name place a [] [] over = tt
found_all s name place a (q ∷ qs) (ns ∷ lists) over =
    all_both (λ (n : Note). IsFoundThere n.entry) (notes_of place ns) (all_notes_of place lists) (all_filter (λ (n : Note). IsFoundThere n.entry) _ ns over.0.acting.shown.found) (found_all s name place (a + 1) qs lists over.1)
found_all s name place a [] (ns ∷ lists) over = absurd over
found_all s name place a (q ∷ qs) [] over = absurd over

found_back : (J : List QEntry) → AllByRecursion IsFoundThere (map of.Cpu J) → AllByRecursion (λ (e : QEntry). e.reply ≡ Missing → ⊥) J
found_back [] all = tt
found_back (e ∷ J) all = (all.0, found_back J all.1)

places_all : (s : Script) (name : ServiceName) (a : ℕ) (qs : List PassesView) (lists : List (List Note)) → AreOver s name a qs lists → AllHavePlaces s lists
places_all s name a [] [] over = tt
places_all s name a (q ∷ qs) (ns ∷ lists) over = (over.0.acting.shown.places, places_all s name (a + 1) qs lists over.1)
places_all s name a [] (ns ∷ lists) over = absurd over
places_all s name a (q ∷ qs) [] over = absurd over

-- ---- how many actors

pub same_count : (s : Script) → IsScript s → service_actors (params_of s) ≡ actor_count s
same_count s ok = at_version ok.version where
  at_version : (s.version ≡ 1) ⊎ (s.version ≡ 2) → service_actors (params_of s) ≡ actor_count s
  at_version (inl one) =
      let first : (s.version == 1) ≡ true = grind (arith, nat_tests, one) in
      let second : (s.version == 2) ≡ false = grind (arith, nat_tests, one) in
      rw first (rw second refl)
  at_version (inr two) =
      let first : (s.version == 1) ≡ false = grind (arith, nat_tests, two) in
      let second : (s.version == 2) ≡ true = grind (arith, nat_tests, two) in
      rw first (rw second (let e : client_count s + (s.cpus + s.cpus) ≡ client_count s + 2 * s.cpus = omega arith in e))

pub most_actors : (s : Script) → IsScript s → actor_count s ≤ 48
most_actors s ok = at_test (s.version == 2) where
  at_test : (b : Bool) → cond b (client_count s + 2 * s.cpus) (client_count s + s.cpus) ≤ 48
  at_test true = let k = ok.cpus.1 in let n = ok.few_clients in omega (arith, k, n)
  at_test false = let k = ok.cpus.1 in let n = ok.few_clients in omega (arith, k, n)

-- ---- the run

module _ (s : Script) (ok : IsScript s) (name : ServiceName) (qs : List PassesView) (lists : List (List Note)) (Hs : List (List Entry)) (Js : List (List QEntry)) (over : AreOver s name 0 qs lists)
    (count : length lists ≡ actor_count s) (timers : AreEnded (params_of s) qs Hs) (cpus : AreEndedCpus (params_of s) qs Js) where
  abbrev H : ℕ → List Entry
  H i = slice_index_or Hs i []

  abbrev J : ℕ → List QEntry
  J cpu = slice_index_or Js cpu []

  abbrev shown : Histories
  shown = shown_histories lists

  most : length lists ≤ 48
  most = let few = most_actors s ok in omega (arith, count, few)

  ours : service_actors (params_of s) ≡ length lists
  ours = same_count s ok ∙ sym count

  timer_seen : (i : ℕ) (K : List Entry) → slice_get Hs i ≡ Some K → AllByRecursion (λ q. IsShown by q.actor K (seen_of q i)) qs
  timer_seen i K is = recursion_from_All (λ q. IsShown by q.actor K (seen_of q i)) qs (timers.shown i K is)

  cpu_seen : (cpu : ℕ) (K : List QEntry) → slice_get Js cpu ≡ Some K → AllByRecursion (λ q. IsShown queue_by q.actor K (journal_seen q cpu)) qs
  cpu_seen cpu K is = recursion_from_All (λ q. IsShown queue_by q.actor K (journal_seen q cpu)) qs (cpus.shown cpu K is)

  timer_ours : (i : ℕ) (K : List Entry) → slice_get Hs i ≡ Some K → AllByRecursion (λ e. by e < length lists) K
  timer_ours i K is = subst (λ (n : ℕ). AllByRecursion (λ e. by e < n) K) ours (recursion_from_All (λ e. by e < service_actors (params_of s)) K (timers.final i K is).actors)

  cpu_ours : (cpu : ℕ) (K : List QEntry) → slice_get Js cpu ≡ Some K → AllByRecursion (λ e. queue_by e < length lists) K
  cpu_ours cpu K is = subst (λ (n : ℕ). AllByRecursion (λ e. queue_by e < n) K) ours (recursion_from_All (λ e. queue_by e < service_actors (params_of s)) K (cpus.final cpu K is).actors)

  timer_long : (a : ℕ) (q : PassesView) (ns : List Note) → IsActorOver s name a q ns → length q.timers ≡ length Hs
  timer_long a q ns o = o.acting.sized.timers ∙ sym timers.count

  cpu_long : (a : ℕ) (q : PassesView) (ns : List Note) → IsActorOver s name a q ns → length q.cpus ≡ length Js
  cpu_long a q ns o = o.acting.sized.cpus ∙ sym cpus.count

  timer_gathered : (i : ℕ) → IsGathered (at.Timer i) (map of.Timer (H i)) lists
  timer_gathered i = gathered_here of.Timer by (λ e. refl) s name (λ q. q.timers) (at.Timer i) i Hs (λ a q ns o. o.acting.shown.timers i) timer_long qs lists over most (timer_seen i) (timer_ours i)

  cpu_gathered : (cpu : ℕ) → IsGathered (at.Cpu cpu) (map of.Cpu (J cpu)) lists
  cpu_gathered cpu = gathered_here of.Cpu queue_by (λ e. refl) s name (λ q. q.cpus) (at.Cpu cpu) cpu Js (λ a q ns o. o.acting.shown.cpus cpu) cpu_long qs lists over most (cpu_seen cpu) (cpu_ours cpu)

  timer_few : (i : ℕ) → length (H i) < 2 ^ 63
  timer_few i =
      let few = few_here of.Timer by (λ e. refl) s name (λ q. q.timers) (at.Timer i) i Hs (λ a q ns o. o.acting.shown.timers i) timer_long qs lists over most (timer_seen i) (timer_ours i) in
      let long = length-map (H i) of.Timer in
      omega (arith, few, long)

  cpu_few : (cpu : ℕ) → length (J cpu) < 2 ^ 63
  cpu_few cpu =
      let few = few_here of.Cpu queue_by (λ e. refl) s name (λ q. q.cpus) (at.Cpu cpu) cpu Js (λ a q ns o. o.acting.shown.cpus cpu) cpu_long qs lists over most (cpu_seen cpu) (cpu_ours cpu) in
      let long = length-map (J cpu) of.Cpu in
      omega (arith, few, long)

  -- the lists show the final histories
  pub timer_is : (i : ℕ) → callout_history i lists ≡ H i
  timer_is i = ap (filter_map _) (timer_gathered i).shown ∙ back_map _ of.Timer (H i) (λ e. refl)

  pub cpu_is : (cpu : ℕ) → cpu_journal cpu lists ≡ J cpu
  cpu_is cpu = ap (filter_map _) (cpu_gathered cpu).shown ∙ back_map _ of.Cpu (J cpu) (λ e. refl)

  all_timers : (i : ℕ) → AllByRecursion (λ q. IsShown by q.actor (H i) (seen_of q i)) qs
  all_timers i = shown_here of.Timer by (λ e. refl) s name (λ q. q.timers) (at.Timer i) i Hs (λ a q ns o. o.acting.shown.timers i) timer_long qs lists over (timer_seen i)

  all_cpus : (cpu : ℕ) → AllByRecursion (λ q. IsShown queue_by q.actor (J cpu) (journal_seen q cpu)) qs
  all_cpus cpu = shown_here of.Cpu queue_by (λ e. refl) s name (λ q. q.cpus) (at.Cpu cpu) cpu Js (λ a q ns o. o.acting.shown.cpus cpu) cpu_long qs lists over (cpu_seen cpu)

  goes : (q : PassesView) → ((i : ℕ) → IsShown by q.actor (H i) (seen_of q i)) → ((cpu : ℕ) → IsShown queue_by q.actor (J cpu) (journal_seen q cpu)) → SeenBegins shown q
  goes q is of_cpus = record {
    timers = λ i. subst (Begins (seen_of q i)) (sym (is i).prefix.1 ∙ sym (timer_is i)) (begins_both (seen_of q i) (is i).prefix.0);
    cpus = λ cpu. subst (Begins (journal_seen q cpu)) (sym (of_cpus cpu).prefix.1 ∙ sym (cpu_is cpu)) (begins_both (journal_seen q cpu) (of_cpus cpu).prefix.0);
    few = λ i. subst (λ (K : List Entry). length K < 2 ^ 63) (sym (timer_is i)) (timer_few i);
    few_cpus = λ cpu. subst (λ (K : List QEntry). length K < 2 ^ 63) (sym (cpu_is cpu)) (cpu_few cpu);
  }

  follows : (a : ℕ) (q : PassesView) (ns : List Note) → IsActorOver s name a q ns → SeenBegins shown q → Follows s shown a ns
  follows a q ns o goes_on =
      let trace : Trace s shown a (record { cursor = o.cursor; notes = ns }) = o.acting.leads shown goes_on in
      let there : at_next_note s a (cursor_after s shown a (start_of s a) ns) ≡ o.cursor = trace.place ∙ at_next_nothing s a o.cursor o.over in
      record { each = trace.next; whole = subst (λ (c : Cursor). action_for s a c ≡ Nothing) (sym there) o.over }

  follows_from : (a : ℕ) (ps : List PassesView) (rest : List (List Note)) → AreOver s name a ps rest → ((i : ℕ) → AllByRecursion (λ q. IsShown by q.actor (H i) (seen_of q i)) ps) →
      ((cpu : ℕ) → AllByRecursion (λ q. IsShown queue_by q.actor (J cpu) (journal_seen q cpu)) ps) → (k : ℕ) → k < length rest → Follows s shown (a + k) (slice_index_or rest k [])
  follows_from a [] [] o is of_cpus k low = absurd (omega (arith, low))
  follows_from a (q ∷ ps) (ns ∷ rest) o is of_cpus zero low =
      let same : a ≡ a + 0 = omega arith in
      subst (λ (b : ℕ). Follows s shown b ns) same (follows a q ns o.0 (goes q (λ i. (is i).0) (λ cpu. (of_cpus cpu).0)))
  follows_from a (q ∷ ps) (ns ∷ rest) o is of_cpus (suc k) low =
      let same : a + 1 + k ≡ a + suc k = omega arith in
      subst (λ (b : ℕ). Follows s shown b (slice_index_or rest k [])) same (follows_from (a + 1) ps rest o.1 (λ i. (is i).1) (λ cpu. (of_cpus cpu).1) k (omega (arith, low)))
  follows_from a [] (ns ∷ rest) o is of_cpus k low = absurd o
  follows_from a (q ∷ ps) [] o is of_cpus k low = absurd o

  well_formed : (K : Place → List AnyEntry) → ((place : Place) → IsGathered place (K place) lists) → IsWellFormed lists
  well_formed K each = record {
    once = λ place pos low. (each place).once pos (let long = (each place).count in omega (arith, low, long));
    others = λ place pos high. (each place).others pos (let long = (each place).count in omega (arith, high, long));
    rising = λ place. (each place).rising;
  }

  content : Place → List AnyEntry
  content (at.Timer i) = map of.Timer (H i)
  content (at.Cpu cpu) = map of.Cpu (J cpu)
  content (at.Actor b) = map (λ (n : Note). n.entry) (notes_of (at.Actor b) (slice_index_or lists b []))

  each_place : (place : Place) → IsGathered place (content place) lists
  unfolding content
  each_place (at.Timer i) = timer_gathered i
  each_place (at.Cpu cpu) = cpu_gathered cpu
  each_place (at.Actor b) = gathered_own s name b qs lists over most

  timer_legal : (i : ℕ) → i < length s.timers → IsLegal (actors_of s) (spec_at s i) (callout_history i lists)
  timer_legal i low =
      let is = slice_get-get_or Hs i [] (let long = timers.count in omega (arith, low, long)) in
      subst (IsLegal (actors_of s) (spec_at s i)) (sym (timer_is i)) (timers.final i (H i) is).legal.legal

  cpu_legal : (cpu : ℕ) → cpu < s.cpus → IsLegalQueue (actors_of s) cpu s.buckets (are_direct s) (cpu_journal cpu lists)
  cpu_legal cpu low =
      let is = slice_get-get_or Js cpu [] (let long = cpus.count in omega (arith, low, long)) in
      subst (IsLegalQueue (actors_of s) cpu s.buckets (are_direct s)) (sym (cpu_is cpu)) (cpus.final cpu (J cpu) is).legal.legal

  pub run_is : IsRunOf s lists
  run_is = record {
    actors = count;
    places = places_all s name 0 qs lists over;
    formed = well_formed content each_place;
    callouts = timer_legal;
    cpus = cpu_legal;
    found = λ cpu low. subst (AllByRecursion (λ (e : QEntry). e.reply ≡ Missing → ⊥)) (sym (cpu_is cpu))
        (found_back (J cpu) (subst (AllByRecursion IsFoundThere) (cpu_gathered cpu).shown (all_told IsFoundThere (all_notes_of (at.Cpu cpu) lists) (range_with_len 0 (length (all_notes_of (at.Cpu cpu) lists))) (found_all s name (at.Cpu cpu) 0 qs lists over))));
    follow = λ a low. (let same : 0 + a ≡ a = omega arith in subst (λ (b : ℕ). Follows s shown b (slice_index_or lists a [])) same (follows_from 0 qs lists over all_timers all_cpus a (omega (arith, low, count))));
  }

  pub ran_timers : Hs ≡ shown_timers s lists
  ran_timers = fill_by_all (λ i. callout_history i lists) Hs (length s.timers) [] timers.count (λ i low. sym (timer_is i))

  pub ran_cpus : Js ≡ shown_cpus s lists
  ran_cpus = fill_by_all (λ cpu. cpu_journal cpu lists) Js s.cpus [] cpus.count (λ cpu low. sym (cpu_is cpu))

-- ---- the passes of all actors

over_lists : (s : Script) (name : ServiceName) (a : ℕ) (qs : List PassesView) (lists : List (List Note)) → AreOver s name a qs lists → length qs ≡ length lists
over_lists s name a [] [] over = refl
over_lists s name a (q ∷ qs) (ns ∷ lists) over = ap suc (over_lists s name (a + 1) qs lists over.1)
over_lists s name a [] (ns ∷ lists) over = absurd over
over_lists s name a (q ∷ qs) [] over = absurd over

over_of : (s : Script) (name : ServiceName) (a : ℕ) (qs : List PassesView) (lists : List (List Note)) → AreOver s name a qs lists → AllByRecursion (AreOf name (params_of s)) qs
over_of s name a [] [] over = tt
over_of s name a (q ∷ qs) (ns ∷ lists) over = (over.0.acting.of, over_of s name (a + 1) qs lists over.1)
over_of s name a [] (ns ∷ lists) over = absurd over
over_of s name a (q ∷ qs) [] over = absurd over

pub all_brought : (s : Script) → IsScript s → (name : ServiceName) (qs : List PassesView) (lists : List (List Note)) → AreOver s name 0 qs lists → length lists ≡ actor_count s → AreAll name (params_of s) qs
all_brought s ok name qs lists over count = record {
  count = over_lists s name 0 qs lists over ∙ (count ∙ sym (same_count s ok));
  of = All-from_recursion (AreOf name (params_of s)) qs (over_of s name 0 qs lists over);
}
