-- A service, its taking and its end together: what it leaves of the one actor's passes.
use Rattle.std.proofs.Common.{◌≡◌, ◌≢◌, ℕ, ◌+◌, ◌<◌, ◌≤◌, Bool, true, false, cond, ◌==◌, ◌&&◌, List, [], ◌∷◌, ◌++◌, length, nat_lt, refl, ap, sym, subst, ◌∙◌, arith, append-nil}
use Rattle.std.specs.List.{filter}
use Rattle.std.specs.declared.option.Option.{Option}
use Rattle.std.specs.declared.option.Option.TheVariants.{Some, None}
use Rattle.std.proofs.lemmas.Bool.Decides.{nat_tests}
use Rattle.std.proofs.lemmas.List.{get_or_past}
use Rattle.co_object.specs.declared.note.Entry.{Entry}
use Rattle.co_object.specs.declared.note.QEntry.{QEntry}
use Rattle.co_object.specs.declared.note.AnyEntry.TheVariants as of
use Rattle.co_object.specs.declared.note.Place.TheVariants as at
use Rattle.co_object.specs.declared.op.RunOp.TheVariants.{Pick, End}
use Rattle.co_object.specs.declared.queue.QOp.TheVariants.{Pop, Free}
use Rattle.co_object.specs.declared.queue.QReply.TheVariants.{Got, Empty, Freed}
use Rattle.co_object.specs.declared.reply.Reply.{Reply}
use Rattle.co_object.specs.declared.reply.Reply.TheVariants.{Go, Ended}
use Rattle.co_object.specs.declared.state.Arming.{Arming}
use Rattle.co_object.specs.declared.state.Run.TheVariants.{Idle, Running}
use Rattle.co_object.specs.declared.state.State.{State}
use Rattle.co_object.specs.Entries.{is_go}
use Rattle.co_object.specs.History.{state, state_of, reply_of}
use Rattle.co_object.specs.Journal as journal
use Rattle.co_object.specs.Queue.{Due, Queue}
use Rattle.co_object.specs.Serve.{pick_armed, is_due, go, end_run, ended, next_of}
use Rattle.co_object.specs.Stand.{is_idle}
use Rattle.co_object.proofs.Numbers.{same_itself}
use Rattle.co_desk.specs.Call.{Target, landing}
use Rattle.co_desk.specs.Outcomes.{queue_entry_by}
use Rattle.co_desk.specs.Params.{no_spec}
use Rattle.co_desk.specs.Services.{run_entry, next_target}
use Rattle.co_desk.specs.Views.{PassesView, seen_of, journal_seen}
use Rattle.co_single.specs.Acts.{IsFired, NothingWaits}
use Rattle.co_single.specs.Alarms.{alarm_of, arg_in, callout_seen, queue_in, gos, scan_times}
use Rattle.co_single.specs.Rest.{HasNoService, IsCalm, ArmingStands, nowhere, listed, due, come}
use Rattle.co_single.specs.Seen.{with_entry, with_entries, none_entries, taken_entries, ended_entries, AreSingle}
use Rattle.co_single.proofs.Calls.{AreAtCpus, GoesOn, goes_on, one_seen, journal_on}
use Rattle.co_single.proofs.Going.{gos-append, scans-append, others_of, all_of, state_after, may_last, legal_turns, queue_after}
use Rattle.co_single.proofs.Queues.{differs, numbers, placed_still}
use Rattle.co_single.proofs.Scanning.{callouts_stay, callout_still}

-- ---- the queue alone

-- the first of the queue is taken
pub record IsPopped (q : Queue) (i k time : ℕ) (v : Queue) : Type 0 where
  pub first : Due
  pub others : List Due
  pub is : q.expired ≡ first ∷ others
  pub number : first.i ≡ i
  pub queue : v ≡ record q { expired = others; serving = Some first }

popped_first : (q : Queue) (i k time : ℕ) (ds : List Due) → q.expired ≡ ds → journal.reply_of (Some (journal.pop_first q ds)) ≡ Some (Got i k time) → IsPopped q i k time (journal.pop_first q ds).0
popped_first q i k time [] is h = absurd (cc)
popped_first q i k time (d ∷ ds) is h = record { first = d; others = ds; is = is; number = cc; queue = refl }

popped : (q : Queue) (i k time : ℕ) (o : Option Due) → o ≡ None → journal.reply_of (journal.pop_unless q o) ≡ Some (Got i k time) → IsPopped q i k time (journal.queue_of (journal.pop_unless q o) q)
popped q i k time None is h = popped_first q i k time q.expired refl h
popped q i k time (Some d) is h = absurd (cc)

none_first : (q : Queue) (ds : List Due) → journal.reply_of (Some (journal.pop_first q ds)) ≡ Some Empty → (ds ≡ []) × ((journal.pop_first q ds).0 ≡ q)
none_first q [] h = (refl, refl)
none_first q (d ∷ ds) h = absurd (cc)

none_popped : (q : Queue) (o : Option Due) → o ≡ None → journal.reply_of (journal.pop_unless q o) ≡ Some Empty → (q.expired ≡ []) × (journal.queue_of (journal.pop_unless q o) q ≡ q)
none_popped q None is h = none_first q q.expired h
none_popped q (Some d) is h = absurd (cc)

abbrev behind : List Due → List Due
behind [] = []
behind (d ∷ ds) = ds

-- callout i's arming had come due, where it was the first of the queue
pub record IsFirst (q : Queue) (i : ℕ) (o : Option Arming) (others : List Due) : Type 0 where
  pub arming : Arming
  pub is : o ≡ Some arming
  pub none_stands : filter (λ w. w.i == i) q.content ≡ []
  pub none_come : filter (λ d. d.i == i) others ≡ []

come_first : (q : Queue) (i : ℕ) (first : Due) (others : List Due) → q.expired ≡ first ∷ others → first.i ≡ i → come q i ≡ first ∷ filter (λ d. d.i == i) others
come_first q i first others is number = ap (filter (λ (d : Due). d.i == i)) is ∙ ap (λ b. cond b (first ∷ filter (λ (d : Due). d.i == i) others) (filter (λ (d : Due). d.i == i) others)) (same_itself first.i i number)

first_of : (q : Queue) (i : ℕ) (first : Due) (others : List Due) → q.expired ≡ first ∷ others → first.i ≡ i → (o : Option Arming) → ArmingStands q i o → IsFirst q i o others
first_of q i first others is number o (nowhere s c) = let e = sym (come_first q i first others is number) ∙ c in absurd (cc)
first_of q i first others is number o (listed a l) = let e = sym (come_first q i first others is number) ∙ l.none_come in absurd (cc)
first_of q i first others is number o (due a h) = record {
  arming = a;
  is = refl;
  none_stands = h.none_stands;
  none_come = ap behind (sym (come_first q i first others is number) ∙ h.comes);
}

come_others : (q : Queue) (i j : ℕ) (first : Due) (others : List Due) → q.expired ≡ first ∷ others → first.i ≡ i → j ≢ i → filter (λ d. d.i == j) others ≡ come q j
come_others q i j first others is number other = sym (ap (filter (λ (d : Due). d.i == j)) is ∙ ap (λ b. cond b (first ∷ filter (λ (d : Due). d.i == j) others) (filter (λ (d : Due). d.i == j) others)) (differs first.i j (λ e. other (sym e ∙ number))))

-- ---- the callout alone

pub record IsPicked (s : State) (a : Arming) (taken : Reply) (v : State) : Type 0 where
  pub reply : taken ≡ Go a.func a.arg
  pub state_is : v ≡ record s { armed = None; run = Running a.n a.cpu }

picked_if : (s : State) (a : Arming) (taken : Reply) (b : Bool) → reply_of (cond b (Some (go (record s { armed = None }) a)) None) ≡ Some taken → IsPicked s a taken (state_of (cond b (Some (go (record s { armed = None }) a)) None) s)
picked_if s a taken true h = record { reply = (let e : Go a.func a.arg ≡ taken = cc in sym e); state_is = refl }
picked_if s a taken false h = absurd (cc)

picked_some : (s : State) (o : Option Arming) (a : Arming) (k time : ℕ) (taken : Reply) → o ≡ Some a → reply_of (pick_armed no_spec s o k 0 time) ≡ Some taken → IsPicked s a taken (state_of (pick_armed no_spec s o k 0 time) s)
picked_some s o a k time taken is h =
    subst (λ x. IsPicked s a taken (state_of (pick_armed no_spec s x k 0 time) s)) (sym is)
    (picked_if s a taken (is_due a k 0 time && is_idle s.run) (ap (λ x. reply_of (pick_armed no_spec s x k 0 time)) (sym is) ∙ h))

pub record IsOver (s : State) (reply : Reply) (v : State) : Type 0 where
  pub reply_is : reply ≡ Ended s.adrain (next_of s.armed 0) s.waiting
  pub state_is : v ≡ record s { run = Idle; waiting = false; adrain = None }

over_if : (s : State) (reply : Reply) (b : Bool) → reply_of (cond b (Some (ended s 0)) None) ≡ Some reply → IsOver s reply (state_of (cond b (Some (ended s 0)) None) s)
over_if s reply true h = record { reply_is = (let e : Ended s.adrain (next_of s.armed 0) s.waiting ≡ reply = cc in sym e); state_is = refl }
over_if s reply false h = absurd (cc)

over_some : (s : State) (m c k : ℕ) (reply : Reply) → reply_of (end_run s (Running m c) k 0) ≡ Some reply → IsOver s reply (state_of (end_run s (Running m c) k 0) s)
over_some s m c k reply h = over_if s reply (m == k && c == 0) h

landing_cpus : (p : PassesView) (act i : ℕ) (o : Option Target) (later : ℕ) → AreAtCpus (landing p act i o later)
landing_cpus p act i None later = tt
landing_cpus p act i (Some t) later = (tt, tt)

assoc : (a b c : List Entry) → (a ++ b) ++ c ≡ a ++ (b ++ c)
assoc [] b c = refl
assoc (x ∷ a) b c = ap (λ t. x ∷ t) (assoc a b c)

-- a callout past the last one is not armed
pub armed_below : (p : PassesView) (i : ℕ) (a : Arming) → (callout_seen p i).armed ≡ Some a → i < length p.timers
armed_below p i a is = go (nat_lt i (length p.timers)) refl where
  go : (b : Bool) → nat_lt i (length p.timers) ≡ b → i < length p.timers
  go true h = grind (arith, nat_tests, h)
  go false h =
      let past : length p.timers ≤ i = grind (arith, nat_tests, h) in
      let none : None ≡ Some a = sym (ap (λ H. (state no_spec H).armed) (get_or_past p.timers i [] past)) ∙ is in
      absurd (cc)

-- ---- nothing waits

module _ (n : ℕ) (p q : PassesView) (s : AreSingle n p) (t : AreSingle n q) (rest : HasNoService p) (act : ℕ) (is : q ≡ with_entries p (none_entries p act)) where
  abbrev none_turn : QEntry
  none_turn = queue_entry_by p act Pop Empty

  none_seen : journal_seen q 0 ≡ journal_seen p 0 ++ none_turn ∷ []
  none_seen = ap (λ v. journal_seen v 0) is ∙ journal_on p none_turn (let one = s.cpus in omega (arith, one))

  none_found : ((queue_in p).expired ≡ []) × (journal.queue_of (journal.pop (queue_in p)) (queue_in p) ≡ queue_in p)
  none_found = let legal = legal_turns n p q s t (none_turn ∷ []) none_seen in none_popped (queue_in p) (queue_in p).serving rest.serving legal.0.0

  none_queue : queue_in q ≡ queue_in p
  none_queue = queue_after n p q s t (none_turn ∷ []) none_seen ∙ none_found.1

  none_same : q.timers ≡ p.timers
  none_same = ap (λ v. v.timers) is

  pub is_idle_now : NothingWaits p q
  is_idle_now = record {
    nothing = ap numbers none_found.0;
    waiting = ap (λ (x : Queue). numbers x.expired) none_queue ∙ ap numbers none_found.0;
    callouts = callouts_stay p q none_same;
    time = record {
      scans = ap scan_times none_seen ∙ (scans-append (journal_seen p 0) (none_turn ∷ []) ∙ append-nil (scan_times (journal_seen p 0)));
      clock = ap (λ (x : Queue). x.last) none_queue;
    };
  }

  pub rests_idle : HasNoService q
  rests_idle = record {
    calm = λ j. subst IsCalm (sym (callout_still p q none_same j)) (rest.calm j);
    serving = ap (λ (x : Queue). x.serving) none_queue ∙ rest.serving;
    urgent = ap (λ (x : Queue). x.urgent) none_queue ∙ rest.urgent;
    placed = λ j. subst (λ v. ArmingStands v j (callout_seen q j).armed) (sym none_queue) (subst (λ x. ArmingStands (queue_in p) j x.armed) (sym (callout_still p q none_same j)) (rest.placed j));
  }

-- ---- the first that waits

module _ (n : ℕ) (p r q : PassesView) (s : AreSingle n p) (b : AreSingle n r) (t : AreSingle n q) (rest : HasNoService p) (act i k time : ℕ) (taken over : Reply) (later : ℕ)
    (begins : r ≡ with_entries p (taken_entries p act i k time taken)) (ends : q ≡ with_entries r (ended_entries r act i k over later)) where
  abbrev pop_turn : QEntry
  pop_turn = queue_entry_by p act Pop (Got i k time)

  abbrev free_turn : QEntry
  free_turn = queue_entry_by r act Free Freed

  abbrev pick_entry : Entry
  pick_entry = run_entry p act (Pick k 0 time) taken

  abbrev end_entry : Entry
  end_entry = run_entry r act (End k 0) over

  seen_between : journal_seen r 0 ≡ journal_seen p 0 ++ pop_turn ∷ []
  seen_between = ap (λ v. journal_seen v 0) begins ∙ journal_on p pop_turn (let one = s.cpus in omega (arith, one))

  took : IsPopped (queue_in p) i k time (journal.queue_of (journal.pop (queue_in p)) (queue_in p))
  took = let legal = legal_turns n p r s b (pop_turn ∷ []) seen_between in popped (queue_in p) i k time (queue_in p).serving rest.serving legal.0.0

  queue_between : queue_in r ≡ record (queue_in p) { expired = took.others; serving = Some took.first }
  queue_between = queue_after n p r s b (pop_turn ∷ []) seen_between ∙ took.queue

  first : IsFirst (queue_in p) i (callout_seen p i).armed took.others
  first = first_of (queue_in p) i took.first took.others took.is took.number (callout_seen p i).armed (rest.placed i)

  low : i < length p.timers
  low = armed_below p i first.arming first.is

  goes_between : GoesOn p i (pick_entry ∷ []) r
  goes_between = goes_on p r i (pick_entry ∷ []) low (ap (λ v. v.timers) begins)

  pick : IsPicked (callout_seen p i) first.arming taken (callout_seen r i)
  pick =
      let may = may_last n p r s b i (seen_of p i) pick_entry goes_between.here in
      subst (IsPicked (callout_seen p i) first.arming taken) (sym (state_after (seen_of p i) pick_entry (seen_of r i) goes_between.here))
      (picked_some (callout_seen p i) (callout_seen p i).armed first.arming k time taken first.is may.0)

  abbrev running : State
  running = record (callout_seen p i) { armed = None; run = Running first.arming.n first.arming.cpu }

  goes_end : GoesOn r i (end_entry ∷ []) q
  goes_end = goes_on r q i (end_entry ∷ []) (let count = goes_between.count in let l = low in omega (arith, count, l))
      (ap (λ v. v.timers) ends ∙ one_seen r i end_entry (ended_entries r act i k over later) (record {
        before = [];
        after = (at.Cpu 0, of.Cpu free_turn) ∷ landing r act i (next_target over) later;
        at_cpus = tt;
        at_cpus_too = (tt, landing_cpus r act i (next_target over) later);
        is = refl;
      }))

  is_over : IsOver running over (callout_seen q i)
  is_over =
      let may = may_last n r q b t i (seen_of r i) end_entry goes_end.here in
      subst (IsOver running over) (sym (state_after (seen_of r i) end_entry (seen_of q i) goes_end.here ∙ ap (λ (x : State). state_of (end_run x x.run k 0) x) pick.state_is))
      (over_some running first.arming.n first.arming.cpu k over (sym (ap (λ (x : State). reply_of (end_run x x.run k 0)) pick.state_is) ∙ may.0))

  abbrev rested : State
  rested = record (callout_seen p i) { armed = None; run = Idle; waiting = false; adrain = None }

  now : callout_seen q i ≡ rested
  now = is_over.state_is

  nothing_lands : landing r act i (next_target over) later ≡ []
  nothing_lands = ap (λ x. landing r act i (next_target x) later) is_over.reply_is

  seen_end : journal_seen q 0 ≡ journal_seen r 0 ++ free_turn ∷ []
  seen_end = ap (λ v. journal_seen v 0) (ends ∙ ap (λ l. with_entries r ((at.Timer i, of.Timer end_entry) ∷ (at.Cpu 0, of.Cpu free_turn) ∷ l)) nothing_lands)
      ∙ journal_on (with_entry r (at.Timer i) (of.Timer end_entry)) free_turn (let one = b.cpus in omega (arith, one))

  abbrev left : Queue
  left = record (queue_in p) { expired = took.others; serving = None }

  queue_end : queue_in q ≡ left
  queue_end = queue_after n r q b t (free_turn ∷ []) seen_end ∙ ap (λ v. journal.queue_of (journal.free v) v) queue_between

  -- the two entries together
  goes_both : GoesOn p i (pick_entry ∷ end_entry ∷ []) q
  goes_both = record {
    count = goes_end.count ∙ goes_between.count;
    here = goes_end.here ∙ (ap (λ l. l ++ end_entry ∷ []) goes_between.here ∙ assoc (seen_of p i) (pick_entry ∷ []) (end_entry ∷ []));
    others = λ j other. goes_end.others j other ∙ goes_between.others j other;
  }

  once : gos (pick_entry ∷ end_entry ∷ []) ≡ 1
  once =
      let first_goes : cond {A = ℕ} (is_go taken) 1 0 ≡ 1 = ap (λ x. cond {A = ℕ} (is_go x) 1 0) pick.reply in
      let then_not : cond {A = ℕ} (is_go over) 1 0 ≡ 0 = ap (λ x. cond {A = ℕ} (is_go x) 1 0) is_over.reply_is in
      omega (arith, first_goes, then_not)

  pub is_fired_now : IsFired p i (arg_in taken) q
  is_fired_now = record {
    waiting = ap numbers took.is ∙ (ap (λ y. y ∷ numbers took.others) took.number ∙ ap (λ l. i ∷ l) (sym (ap (λ (x : Queue). numbers x.expired) queue_end)));
    below = low;
    was = record { due = first.arming.due; arg = first.arming.arg };
    before = ap alarm_of first.is;
    arg_is = sym (ap arg_in pick.reply);
    alarm = ap (λ (x : State). alarm_of x.armed) now;
    made = ap (λ (x : State). x.made) now;
    fired = ap gos goes_both.here ∙ (gos-append (seen_of p i) (pick_entry ∷ end_entry ∷ []) ∙ ap (λ m. gos (seen_of p i) + m) once);
    others = others_of p q i (pick_entry ∷ end_entry ∷ []) goes_both;
    time = record {
      scans = ap scan_times seen_end ∙ (scans-append (journal_seen r 0) (free_turn ∷ []) ∙ (append-nil (scan_times (journal_seen r 0)) ∙ (ap scan_times seen_between ∙ (scans-append (journal_seen p 0) (pop_turn ∷ []) ∙ append-nil (scan_times (journal_seen p 0))))));
      clock = ap (λ (x : Queue). x.last) queue_end;
    };
  }

  pub rests_fired : HasNoService q
  rests_fired = record {
    calm = all_of (λ j x. IsCalm x) p q i (pick_entry ∷ end_entry ∷ []) goes_both
        (subst IsCalm (sym now) (let c = rest.calm i in record { live = c.live; run = refl; waiting = refl; adrain = refl; home = c.home; armed = tt }))
        (λ j other. rest.calm j);
    serving = ap (λ (x : Queue). x.serving) queue_end;
    urgent = ap (λ (x : Queue). x.urgent) queue_end ∙ rest.urgent;
    placed = all_of (λ j x. ArmingStands (queue_in q) j x.armed) p q i (pick_entry ∷ end_entry ∷ []) goes_both
        (subst (λ v. ArmingStands v i (callout_seen q i).armed) (sym queue_end) (subst (λ (x : State). ArmingStands left i x.armed) (sym now) (nowhere first.none_stands first.none_come)))
        (λ j other. subst (λ v. ArmingStands v j (callout_seen p j).armed) (sym queue_end)
        (placed_still (queue_in p) left j (callout_seen p j).armed refl (come_others (queue_in p) i j took.first took.others took.is took.number other) (omega arith) (rest.placed j)));
  }
