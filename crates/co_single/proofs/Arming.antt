-- Arming and disarming: what a call leaves of the one actor's passes.
use Rattle.std.proofs.Common.{◌≡◌, ℕ, ◌<◌, ◌^◌, ℤ, Bool, true, false, cond, ◌||◌, max, List, [], ◌∷◌, ◌++◌, length, refl, ap, sym, subst, ◌∙◌, arith, fold, append-nil}
use Rattle.std.specs.Prelude.{is_some}
use Rattle.std.specs.List.{AllByRecursion}
use Rattle.std.specs.declared.option.Option.{Option}
use Rattle.std.specs.declared.option.Option.TheVariants.{Some, None}
use Rattle.std.proofs.lemmas.List.Sums.{fold-append}
use Rattle.co_object.specs.declared.op.CallOp.{CallOp}
use Rattle.co_object.specs.declared.op.CallOp.TheVariants.{Plain}
use Rattle.co_object.specs.declared.op.PlainOp.TheVariants.{Reset, Stop}
use Rattle.co_object.specs.declared.op.Op.TheVariants.{Call}
use Rattle.co_object.specs.declared.reply.Reply.{Reply}
use Rattle.co_object.specs.declared.reply.Reply.TheVariants.{Armed, Stopped}
use Rattle.co_object.specs.declared.note.Entry.{Entry}
use Rattle.co_object.specs.declared.note.QEntry.{QEntry}
use Rattle.co_object.specs.declared.note.AnyEntry.TheVariants as of
use Rattle.co_object.specs.declared.note.Place.TheVariants as at
use Rattle.co_object.specs.declared.queue.QOp.TheVariants.{Insert, Remove}
use Rattle.co_object.specs.declared.queue.QReply.{QReply}
use Rattle.co_object.specs.declared.queue.QReply.TheVariants.{At, Off, Missing}
use Rattle.co_object.specs.declared.state.Arming.{Arming}
use Rattle.co_object.specs.declared.state.State.{State}
use Rattle.co_object.specs.Arm.{arm, code_of, is_picked}
use Rattle.co_object.specs.Stop.{stop, stop_code}
use Rattle.co_object.specs.Callout.{call}
use Rattle.co_object.specs.Entries.{is_go}
use Rattle.co_object.specs.Group.{group}
use Rattle.co_object.specs.History.{state}
use Rattle.co_object.specs.Journal as journal
use Rattle.co_object.specs.Machine.{IsLegalFrom}
use Rattle.co_object.specs.Queue.{Queue, holds, without}
use Rattle.co_object.specs.Stand.{off}
use Rattle.co_object.proofs.CallGroups.{entry_of, removal, unarmed_group, armed_group}
use Rattle.co_object.proofs.QueueChanges.{inserted}
use Rattle.co_desk.specs.Call.{call_entry}
use Rattle.co_desk.specs.Params.{spec_at}
use Rattle.co_desk.specs.Views.{PassesView, seen_of, journal_seen}
use Rattle.co_single.specs.Acts.{TimeStays, IsArmed, IsDisarmed}
use Rattle.co_single.specs.Alarms.{alarm_of, callout_seen, queue_in, gos, scan_times}
use Rattle.co_single.specs.Rest.{IsCalm, ArmingStands, nowhere, HasNoService}
use Rattle.co_single.specs.Seen.{with_entry, with_entries, AreSingle, AddsEntries, IsOfAct}
use Rattle.co_single.proofs.OfAct.{removal_of_act}
use Rattle.co_single.proofs.Calls.{reset_is, stop_is, calm_armed, calm_stopped, at_zero, off_calm, GoesOn, goes_on, one_seen, one_in_group, journal_on, cpus_still, with-append}
use Rattle.co_single.proofs.Going.{gos-append, scans-append, others_of, all_of, state_after, turned, MayTurn, may_last, legal_turns, queue_after}
use Rattle.co_single.proofs.Queues.{IsQuiet, IsOut, out_without, out_nowhere, nowhere_of, placed_out, placed_in, placed_beside, numbers}
use Rattle.co_single.proofs.Told.{no_lock}

-- the entry of what a call takes out of the queue
abbrev taken_out : (i actor act : ℕ) → Option Arming → List QEntry
taken_out i actor act None = []
taken_out i actor act (Some a) = (record { actor = actor; act = act; op = Remove i; reply = Off }) ∷ []

assoc : (a b c : List QEntry) → (a ++ b) ++ c ≡ a ++ (b ++ c)
assoc [] b c = refl
assoc (x ∷ a) b c = ap (λ t. x ∷ t) (assoc a b c)

quiet_scans : (i actor act : ℕ) (o : Option Arming) → scan_times (taken_out i actor act o) ≡ []
quiet_scans i actor act None = refl
quiet_scans i actor act (Some a) = refl

remove_is : (q : Queue) (i : ℕ) (b : Bool) → journal.reply_of (Some (cond b (without q i, Off) (q, Missing))) ≡ Some Off → (cond {A = Queue × QReply} b (without q i, Off) (q, Missing)).0 ≡ without q i
remove_is q i true h = refl
remove_is q i false h = cc

insert_is : (q : Queue) (x : Queue × QReply) (r : QReply) (b : Bool) → journal.reply_of (cond b None (Some x)) ≡ Some r → journal.queue_of (cond b None (Some x)) q ≡ x.0
insert_is q x r true h = cc
insert_is q x r false h = refl

-- after the removal callout i is nowhere
out_of : (p : PassesView) (i actor act : ℕ) (o : Option Arming) (K : List QEntry) → IsQuiet (queue_in p) → ArmingStands (queue_in p) i o → IsLegalFrom (turned p) (MayTurn p) (queue_in p) (taken_out i actor act o ++ K) → IsOut (queue_in p) i (fold (turned p) (queue_in p) (taken_out i actor act o)) × IsLegalFrom (turned p) (MayTurn p) (fold (turned p) (queue_in p) (taken_out i actor act o)) K
out_of p i actor act None K quiet placed legal = let none = nowhere_of (queue_in p) i placed in (out_nowhere (queue_in p) i quiet none.0 none.1, legal)
out_of p i actor act (Some a) K quiet placed legal =
    (subst (IsOut (queue_in p) i) (sym (remove_is (queue_in p) i (holds (queue_in p) i) legal.0.0)) (out_without (queue_in p) i quiet), legal.1)

-- the journal after the removal
module _ (p : PassesView) (i actor act : ℕ) (op : CallOp) (u : State) (time : ℕ) (one : length p.cpus ≡ 1) where
  abbrev removed : Option Arming → PassesView
  removed o = with_entries p (removal i actor act (Call op) u time (at_zero o))

  removed_seen : (o : Option Arming) → journal_seen (removed o) 0 ≡ journal_seen p 0 ++ taken_out i actor act o
  removed_seen None = sym (append-nil (journal_seen p 0))
  removed_seen (Some a) = journal_on p (record { actor = actor; act = act; op = Remove i; reply = Off }) (omega (arith, one))

  removed_cpus : (o : Option Arming) → length (removed o).cpus ≡ 1
  removed_cpus None = one
  removed_cpus (Some a) = cpus_still p (record { actor = actor; act = act; op = Remove i; reply = Off }) one

  -- with an Insert after the entry
  inserted_seen : (o : Option Arming) (e : Entry) (y : QEntry) → journal_seen (with_entries p (removal i actor act (Call op) u time (at_zero o) ++ (at.Timer i, of.Timer e) ∷ (at.Cpu 0, of.Cpu y) ∷ [])) 0 ≡ journal_seen p 0 ++ (taken_out i actor act o ++ y ∷ [])
  inserted_seen o e y =
      ap (λ v. journal_seen v 0) (with-append p (removal i actor act (Call op) u time (at_zero o)) ((at.Timer i, of.Timer e) ∷ (at.Cpu 0, of.Cpu y) ∷ []))
      ∙ (journal_on (with_entry (removed o) (at.Timer i) (of.Timer e)) y (let r = removed_cpus o in omega (arith, r))
      ∙ (ap (λ l. l ++ y ∷ []) (removed_seen o) ∙ assoc (journal_seen p 0) (taken_out i actor act o) (y ∷ [])))

  -- with nothing after it
  stopped_seen : (o : Option Arming) (e : Entry) → journal_seen (with_entries p (removal i actor act (Call op) u time (at_zero o) ++ (at.Timer i, of.Timer e) ∷ [])) 0 ≡ journal_seen p 0 ++ (taken_out i actor act o ++ [])
  stopped_seen o e =
      ap (λ v. journal_seen v 0) (with-append p (removal i actor act (Call op) u time (at_zero o)) ((at.Timer i, of.Timer e) ∷ []))
      ∙ (removed_seen o ∙ ap (λ l. journal_seen p 0 ++ l) (sym (append-nil (taken_out i actor act o))))

-- a call of the one actor: its entry goes on what is seen of its callout, with the answer that the callout gives
module _ (n : ℕ) (p q : PassesView) (s : AreSingle n p) (t : AreSingle n q) (rest : HasNoService p) (i act time : ℕ) (low : i < length p.timers) (op : CallOp) (reply : Reply)
    (is : q ≡ with_entries p (group i (call_entry p act op reply) (state (spec_at p.params i) (seen_of q i)) time)) where
  abbrev it : State
  it = callout_seen p i

  abbrev after : State
  after = state (spec_at p.params i) (seen_of q i)

  goes : GoesOn p i (call_entry p act op reply ∷ []) q
  goes = goes_on p q i (call_entry p act op reply ∷ []) low (ap (λ v. v.timers) is ∙ one_seen p i (call_entry p act op reply) (group i (call_entry p act op reply) after time) (one_in_group i p.actor act (Call op) after time reply))

  answered : (call it op).1 ≡ reply
  answered = let may = may_last n p q s t i (seen_of p i) (call_entry p act op reply) goes.here in let h = may.0 in cc

  now_is : callout_seen q i ≡ (call it op).0
  now_is = state_after (seen_of p i) (call_entry p act op reply) (seen_of q i) goes.here

  after_is : after ≡ (call it op).0
  after_is = ap (λ x. state x (seen_of q i)) (ap (λ x. spec_at x i) s.params ∙ no_lock n i) ∙ now_is

  quiet : IsQuiet (queue_in p)
  quiet = record { serving = rest.serving; urgent = rest.urgent }

  nothing_fired : is_go reply ≡ false → gos (seen_of q i) ≡ gos (seen_of p i)
  nothing_fired h = ap gos goes.here ∙ (gos-append (seen_of p i) (call_entry p act op reply ∷ []) ∙ (let c : cond {A = ℕ} (is_go reply) 1 0 ≡ 0 = ap (λ b. cond {A = ℕ} b 1 0) h in omega (arith, c)))

  -- the times stay, where the journal goes on with no scan
  time_stays : (K : List QEntry) (v : Queue) → journal_seen q 0 ≡ journal_seen p 0 ++ K → scan_times K ≡ [] → queue_in q ≡ v → v.last ≡ (queue_in p).last → TimeStays p q
  time_stays K v seen none is_v last = record {
    scans = ap scan_times seen ∙ (scans-append (journal_seen p 0) K ∙ (ap (λ l. scan_times (journal_seen p 0) ++ l) none ∙ append-nil (scan_times (journal_seen p 0))));
    clock = ap (λ (x : Queue). x.last) is_v ∙ last;
  }

-- an arming
module _ (n : ℕ) (p q : PassesView) (s : AreSingle n p) (t : AreSingle n q) (rest : HasNoService p) (i act time : ℕ) (low : i < length p.timers) (due prec arg : ℕ) (fresh : (callout_seen p i).made < 2 ^ 62) (reply : Reply)
    (is : q ≡ with_entries p (group i (call_entry p act (Plain (Reset due prec 0 arg None)) reply) (state (spec_at p.params i) (seen_of q i)) time)) where
  abbrev arm_op : CallOp
  arm_op = Plain (Reset due prec 0 arg None)

  abbrev arm_code : ℤ
  arm_code = code_of (is_some (callout_seen p i).armed || is_picked (callout_seen p i).run)

  abbrev arm_state : State
  arm_state = (arm (callout_seen p i) due prec 0 arg 0).0

  abbrev arm_arming : Arming
  arm_arming = record { n = (callout_seen p i).made; due = due; prec = prec; func = 0; arg = arg; cpu = 0 }

  abbrev arm_turn : QEntry
  arm_turn = record { actor = p.actor; act = act; op = Insert i (callout_seen p i).made due; reply = At time }

  abbrev arm_turns : List QEntry
  arm_turns = taken_out i p.actor act (callout_seen p i).armed ++ arm_turn ∷ []

  abbrev arm_out : Queue
  arm_out = fold (turned p) (queue_in p) (taken_out i p.actor act (callout_seen p i).armed)

  arm_goes : GoesOn p i (call_entry p act arm_op reply ∷ []) q
  arm_goes = goes n p q s t rest i act time low arm_op reply is

  arm_call : call (callout_seen p i) arm_op ≡ arm (callout_seen p i) due prec 0 arg 0
  arm_call = reset_is (callout_seen p i) (rest.calm i) due prec arg fresh

  arm_reply : reply ≡ Armed arm_code (callout_seen p i).made 0 (at_zero (callout_seen p i).armed)
  arm_reply = sym (answered n p q s t rest i act time low arm_op reply is) ∙ (ap (λ (x : State × Reply). x.1) arm_call ∙ ap (Armed arm_code (callout_seen p i).made 0) (off_calm (callout_seen p i) (rest.calm i)))

  arm_now : callout_seen q i ≡ arm_state
  arm_now = now_is n p q s t rest i act time low arm_op reply is ∙ ap (λ (x : State × Reply). x.0) arm_call

  arm_after : state (spec_at p.params i) (seen_of q i) ≡ arm_state
  arm_after = after_is n p q s t rest i act time low arm_op reply is ∙ ap (λ (x : State × Reply). x.0) arm_call

  arm_group : group i (call_entry p act arm_op reply) (state (spec_at p.params i) (seen_of q i)) time ≡ removal i p.actor act (Call arm_op) (state (spec_at p.params i) (seen_of q i)) time (at_zero (callout_seen p i).armed) ++ (at.Timer i, of.Timer (call_entry p act arm_op (Armed arm_code (callout_seen p i).made 0 (at_zero (callout_seen p i).armed)))) ∷ (at.Cpu 0, of.Cpu arm_turn) ∷ []
  arm_group =
      ap (λ r. group i (entry_of p.actor act (Call arm_op) r) (state (spec_at p.params i) (seen_of q i)) time) arm_reply
      ∙ armed_group i p.actor act (Call arm_op) (state (spec_at p.params i) (seen_of q i)) time arm_code (callout_seen p i).made 0 (at_zero (callout_seen p i).armed) arm_arming (Some 0)
      (ap (λ (x : State). x.armed) arm_after) (ap off arm_after ∙ off_calm arm_state (calm_armed (callout_seen p i) (rest.calm i) due prec arg))

  arm_seen : journal_seen q 0 ≡ journal_seen p 0 ++ arm_turns
  arm_seen = ap (λ v. journal_seen v 0) (is ∙ ap (with_entries p) arm_group) ∙ inserted_seen p i p.actor act arm_op (state (spec_at p.params i) (seen_of q i)) time s.cpus (callout_seen p i).armed (call_entry p act arm_op (Armed arm_code (callout_seen p i).made 0 (at_zero (callout_seen p i).armed))) arm_turn

  arm_is_out : IsOut (queue_in p) i arm_out × IsLegalFrom (turned p) (MayTurn p) arm_out (arm_turn ∷ [])
  arm_is_out = out_of p i p.actor act (callout_seen p i).armed (arm_turn ∷ []) (record { serving = rest.serving; urgent = rest.urgent }) (rest.placed i) (legal_turns n p q s t arm_turns arm_seen)

  arm_queue : queue_in q ≡ inserted arm_out i (callout_seen p i).made due
  arm_queue = queue_after n p q s t arm_turns arm_seen ∙ (fold-append (turned p) (queue_in p) (taken_out i p.actor act (callout_seen p i).armed) (arm_turn ∷ []) ∙ insert_is arm_out (inserted arm_out i (callout_seen p i).made due, At (max due arm_out.last)) (At time) (holds arm_out i) arm_is_out.1.0.0)

  arm_scans : scan_times arm_turns ≡ []
  arm_scans = scans-append (taken_out i p.actor act (callout_seen p i).armed) (arm_turn ∷ []) ∙ ap (λ l. l ++ []) (quiet_scans i p.actor act (callout_seen p i).armed)

  pub is_armed_now : IsArmed p i due arg q
  is_armed_now = record {
    alarm = ap (λ (x : State). alarm_of x.armed) arm_now;
    made = ap (λ (x : State). x.made) arm_now;
    fired = nothing_fired n p q s t rest i act time low arm_op reply is (ap is_go arm_reply);
    others = others_of p q i (call_entry p act arm_op reply ∷ []) arm_goes;
    time = time_stays n p q s t rest i act time low arm_op reply is arm_turns (inserted arm_out i (callout_seen p i).made due) arm_seen arm_scans arm_queue arm_is_out.0.last;
    waiting = ap (λ (x : Queue). numbers x.expired) arm_queue ∙ arm_is_out.0.waiting;
  }

  pub armed_adds : AddsEntries p act q
  armed_adds = record {
    entries = _;
    added = is;
    of_act = subst (AllByRecursion (IsOfAct p.actor act)) (sym arm_group) (removal_of_act i p.actor act (Call arm_op) (state (spec_at p.params i) (seen_of q i)) time (at_zero (callout_seen p i).armed) _ ((refl, refl), ((refl, refl), tt)));
  }

  pub rests_armed : HasNoService q
  rests_armed = record {
    calm = all_of (λ j x. IsCalm x) p q i (call_entry p act arm_op reply ∷ []) arm_goes (subst IsCalm (sym arm_now) (calm_armed (callout_seen p i) (rest.calm i) due prec arg)) (λ j other. rest.calm j);
    serving = ap (λ (x : Queue). x.serving) arm_queue ∙ arm_is_out.0.quiet.serving;
    urgent = ap (λ (x : Queue). x.urgent) arm_queue ∙ arm_is_out.0.quiet.urgent;
    placed = all_of (λ j x. ArmingStands (queue_in q) j x.armed) p q i (call_entry p act arm_op reply ∷ []) arm_goes
        (subst (λ v. ArmingStands v i (callout_seen q i).armed) (sym arm_queue) (subst (λ (x : State). ArmingStands (inserted arm_out i (callout_seen p i).made due) i x.armed) (sym arm_now) (placed_in (queue_in p) arm_out i (callout_seen p i).made due arm_is_out.0 arm_arming refl refl)))
        (λ j other. subst (λ v. ArmingStands v j (callout_seen p j).armed) (sym arm_queue) (placed_beside (queue_in p) arm_out i (callout_seen p i).made due arm_is_out.0 (λ k. (callout_seen p k).armed) rest.placed j other));
  }

-- a stop
module _ (n : ℕ) (p q : PassesView) (s : AreSingle n p) (t : AreSingle n q) (rest : HasNoService p) (i act time : ℕ) (low : i < length p.timers) (reply : Reply)
    (is : q ≡ with_entries p (group i (call_entry p act (Plain Stop) reply) (state (spec_at p.params i) (seen_of q i)) time)) where
  abbrev stop_reply : Reply
  stop_reply = Stopped (stop_code (callout_seen p i).run (is_some (callout_seen p i).armed)) (at_zero (callout_seen p i).armed)

  abbrev stop_turns : List QEntry
  stop_turns = taken_out i p.actor act (callout_seen p i).armed ++ []

  abbrev stop_out : Queue
  stop_out = fold (turned p) (queue_in p) (taken_out i p.actor act (callout_seen p i).armed)

  stop_goes : GoesOn p i (call_entry p act (Plain Stop) reply ∷ []) q
  stop_goes = goes n p q s t rest i act time low (Plain Stop) reply is

  stop_answer : reply ≡ stop_reply
  stop_answer = sym (answered n p q s t rest i act time low (Plain Stop) reply is) ∙ (ap (λ (x : State × Reply). x.1) (stop_is (callout_seen p i) (rest.calm i)) ∙ ap (Stopped (stop_code (callout_seen p i).run (is_some (callout_seen p i).armed))) (off_calm (callout_seen p i) (rest.calm i)))

  stop_now : callout_seen q i ≡ (stop (callout_seen p i)).0
  stop_now = now_is n p q s t rest i act time low (Plain Stop) reply is ∙ ap (λ (x : State × Reply). x.0) (stop_is (callout_seen p i) (rest.calm i))

  stop_group : group i (call_entry p act (Plain Stop) reply) (state (spec_at p.params i) (seen_of q i)) time ≡ removal i p.actor act (Call (Plain Stop)) (state (spec_at p.params i) (seen_of q i)) time (at_zero (callout_seen p i).armed) ++ (at.Timer i, of.Timer (call_entry p act (Plain Stop) stop_reply)) ∷ []
  stop_group = ap (λ r. group i (entry_of p.actor act (Call (Plain Stop)) r) (state (spec_at p.params i) (seen_of q i)) time) stop_answer ∙ unarmed_group i p.actor act (Call (Plain Stop)) (state (spec_at p.params i) (seen_of q i)) time stop_reply refl

  stop_seen : journal_seen q 0 ≡ journal_seen p 0 ++ stop_turns
  stop_seen = ap (λ v. journal_seen v 0) (is ∙ ap (with_entries p) stop_group) ∙ stopped_seen p i p.actor act (Plain Stop) (state (spec_at p.params i) (seen_of q i)) time s.cpus (callout_seen p i).armed (call_entry p act (Plain Stop) stop_reply)

  stop_is_out : IsOut (queue_in p) i stop_out
  stop_is_out = (out_of p i p.actor act (callout_seen p i).armed [] (record { serving = rest.serving; urgent = rest.urgent }) (rest.placed i) (legal_turns n p q s t stop_turns stop_seen)).0

  stop_queue : queue_in q ≡ stop_out
  stop_queue = queue_after n p q s t stop_turns stop_seen ∙ fold-append (turned p) (queue_in p) (taken_out i p.actor act (callout_seen p i).armed) []

  stop_scans : scan_times stop_turns ≡ []
  stop_scans = ap scan_times (append-nil (taken_out i p.actor act (callout_seen p i).armed)) ∙ quiet_scans i p.actor act (callout_seen p i).armed

  pub is_disarmed_now : IsDisarmed p i q
  is_disarmed_now = record {
    alarm = ap (λ (x : State). alarm_of x.armed) stop_now;
    made = ap (λ (x : State). x.made) stop_now;
    fired = nothing_fired n p q s t rest i act time low (Plain Stop) reply is (ap is_go stop_answer);
    others = others_of p q i (call_entry p act (Plain Stop) reply ∷ []) stop_goes;
    time = time_stays n p q s t rest i act time low (Plain Stop) reply is stop_turns stop_out stop_seen stop_scans stop_queue stop_is_out.last;
    waiting = ap (λ (x : Queue). numbers x.expired) stop_queue ∙ stop_is_out.waiting;
  }

  pub disarmed_adds : AddsEntries p act q
  disarmed_adds = record {
    entries = _;
    added = is;
    of_act = subst (AllByRecursion (IsOfAct p.actor act)) (sym stop_group) (removal_of_act i p.actor act (Call (Plain Stop)) (state (spec_at p.params i) (seen_of q i)) time (at_zero (callout_seen p i).armed) _ ((refl, refl), tt));
  }

  pub rests_disarmed : HasNoService q
  rests_disarmed = record {
    calm = all_of (λ j x. IsCalm x) p q i (call_entry p act (Plain Stop) reply ∷ []) stop_goes (subst IsCalm (sym stop_now) (calm_stopped (callout_seen p i) (rest.calm i))) (λ j other. rest.calm j);
    serving = ap (λ (x : Queue). x.serving) stop_queue ∙ stop_is_out.quiet.serving;
    urgent = ap (λ (x : Queue). x.urgent) stop_queue ∙ stop_is_out.quiet.urgent;
    placed = all_of (λ j x. ArmingStands (queue_in q) j x.armed) p q i (call_entry p act (Plain Stop) reply ∷ []) stop_goes
        (subst (λ v. ArmingStands v i (callout_seen q i).armed) (sym stop_queue) (subst (λ (x : State). ArmingStands stop_out i x.armed) (sym stop_now) (nowhere stop_is_out.none_stands stop_is_out.none_come)))
        (λ j other. subst (λ v. ArmingStands v j (callout_seen p j).armed) (sym stop_queue) (placed_out (queue_in p) stop_out i (λ k. (callout_seen p k).armed) stop_is_out rest.placed j other));
  }
