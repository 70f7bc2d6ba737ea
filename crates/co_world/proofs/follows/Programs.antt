-- Every schedule leaves each actor with notes that lead to its place in its program.
use Rattle.std.proofs.Common.{◌≡◌, ℕ, ◌≤◌, Bool, true, false, cond, List, [], ◌∷◌, ◌++◌, refl, sym, ap, subst, ◌∙◌, arith, Option, Some, None, ltb-false}
use Rattle.std.specs.Prelude.{⊤, is_some, nat_lt}
use Rattle.co_object.specs.declared.State.{State}
use Rattle.co_object.specs.declared.Reply.{Reply}
use Rattle.co_object.specs.declared.Op.{Op}
use Rattle.co_object.specs.declared.Op.TheVariants.{Call, Run}
use Rattle.co_object.specs.declared.CallOp.{CallOp}
use Rattle.co_object.specs.declared.RunOp.{RunOp}
use Rattle.co_object.specs.declared.QReply.{QReply}
use Rattle.co_object.specs.declared.QReply.TheVariants.{Off, Missing}
use Rattle.co_object.specs.declared.QOp.{QOp}
use Rattle.co_object.specs.declared.QOp.TheVariants.{Insert, Remove, Scan, Pop, Free, PopDirect, FreeDirect}
use Rattle.co_object.specs.declared.Entry.{Entry}
use Rattle.co_object.specs.declared.QEntry.{QEntry}
use Rattle.co_object.specs.declared.Note.{Note}
use Rattle.co_object.specs.declared.OwnKind.{OwnKind}
use Rattle.co_object.specs.Stand.{off}
use Rattle.co_object.specs.Group.{off_of}
use Rattle.co_object.specs.History.{state, next, state_of}
use Rattle.co_object.specs.Callout.{call, step as callout_step}
use Rattle.co_object.specs.Queue.{Queue as TimerQueue}
use Rattle.co_object.specs.Journal.{remove, step as queue_step}
use Rattle.co_program.specs.declared.Script.{Script}
use Rattle.co_program.specs.Cursor.{Cursor, start_of}
use Rattle.co_program.specs.Action.{Action, Nothing, Silent, Take, Asks, action_for, spec_at, scans_first}
use Rattle.co_program.specs.declared.Asked.{Asked}
use Rattle.co_program.specs.declared.Asked.TheVariants.{Callout, Queue, Itself}
use Rattle.co_program.specs.Follows.{Histories, at_next_note, scan_count}
use Rattle.co_world.specs.declared.turn.Why.{Why}
use Rattle.co_world.specs.declared.turn.Why.TheVariants.{Tick}
use Rattle.co_world.specs.World.{World, Actor, Timer, Cpu, open_world, histories_of}
use Rattle.co_world.specs.Blocked.{blocked, waits_for}
use Rattle.co_world.specs.Step.{notes_down, enters, enters_journal, landed, note_of, note_of_cpu, note_of_own, are_direct, callout_answers, queue_answers, world_answers, removed_from, removed_first, asked_whole, is_in_section, makes_action, goes_on_in_section, stepped, step}
use Rattle.co_world.specs.Walk.{run}
use Rattle.co_world.proofs.basics.Updates.{at_updated, at_choice, from_updated, updated_here}
use Rattle.co_world.proofs.basics.Prefixes.{Begins, begins_front, begins_last, begins_whole, Each}
use Rattle.co_world.proofs.follows.SilentSteps.{at_next_silent, at_next_take, at_next_nothing}
use Rattle.co_world.proofs.follows.Traces.{Trace, Extends, IsTraced, traced_down, traced_place, states_entered}
use Rattle.co_world.proofs.follows.WholeCalls.{NoneRemoved, none_step}
use Rattle.co_world.specs.Laws.{NoneMissing, FinishedFollow, reached}
use Rattle.co_program.specs.Follows.{cursor_after}
use Rattle.co_world.proofs.follows.DueNotes.{own_made, OffIsRemoved, callout_made, queue_made, remove_made, IsWithin, within_due, removed_off, due_removed}

-- ---- what H knows after a note it knew before

extends_enters : (H : Histories) (w : World) (i : ℕ) (after : State) (e : Entry) → Extends H (enters w i after e) → Extends H w
extends_enters H w i after e x = record {
  timers = from_updated (λ k (timer : Timer). Begins timer.history (H.timers k)) w.timers i
      (record (w.timers i) { state = after; history = (w.timers i).history ++ e ∷ [] }) x.timers
      (begins_front (w.timers i).history (e ∷ []) (H.timers i));
  cpus = x.cpus;
}

landed_history : (H : Histories) (w : World) (cpu : ℕ) (op : QOp) → ((j : ℕ) → Begins ((landed w cpu op) j).history (H.timers j)) → (j : ℕ) → Begins (w.timers j).history (H.timers j)
landed_history H w cpu (Insert i n t) x =
    from_updated (λ k (timer : Timer). Begins timer.history (H.timers k)) w.timers i (record (w.timers i) { stand = cpu }) x (λ h. h)
landed_history H w cpu (Remove i) x = x
landed_history H w cpu (Scan now) x = x
landed_history H w cpu Pop x = x
landed_history H w cpu Free x = x
landed_history H w cpu PopDirect x = x
landed_history H w cpu FreeDirect x = x

extends_journal : (H : Histories) (w : World) (cpu : ℕ) (q : TimerQueue) (e : QEntry) → Extends H (enters_journal w cpu q e) → Extends H w
extends_journal H w cpu q e x = record {
  timers = landed_history H w cpu e.op x.timers;
  cpus = from_updated (λ k (one : Cpu). Begins one.journal (H.cpus k)) w.cpus cpu
      (record { queue = q; journal = (w.cpus cpu).journal ++ e ∷ [] }) x.cpus
      (begins_front (w.cpus cpu).journal (e ∷ []) (H.cpus cpu));
}

extends_down : (s : Script) (H : Histories) (w : World) (a : ℕ) (listed : Bool) (note : Note) → Extends H (notes_down s w a listed note) → Extends H w
extends_down s H w a listed note x = record { timers = x.timers; cpus = x.cpus }

extends_callout : (s : Script) (H : Histories) (w : World) (a act i : ℕ) (op : Op) (outcome : Option (State × Reply)) → Extends H (callout_answers s w a act i op outcome) → Extends H w
extends_callout s H w a act i op None x = x
extends_callout s H w a act i op (Some outcome) x =
    let e : Entry = record { actor = a; act = act; op = op; reply = outcome.1 } in
    extends_enters H w i outcome.0 e (extends_down s H (enters w i outcome.0 e) a (is_some (off outcome.0)) (note_of w i e) x)

extends_queue : (s : Script) (H : Histories) (w : World) (a act cpu : ℕ) (op : QOp) (outcome : Option (TimerQueue × QReply)) → Extends H (queue_answers s w a act cpu op outcome) → Extends H w
extends_queue s H w a act cpu op None x = x
extends_queue s H w a act cpu op (Some outcome) x =
    let e : QEntry = record { actor = a; act = act; op = op; reply = outcome.1 } in
    extends_journal H w cpu outcome.0 e (extends_down s H (enters_journal w cpu outcome.0 e) a false (note_of_cpu w cpu e) x)

extends_answered : (s : Script) (H : Histories) (w : World) (a act : ℕ) (asked : Asked) → Extends H (world_answers s w a act asked) → Extends H w
extends_answered s H w a act (Callout i op) x = extends_callout s H w a act i op (callout_step (spec_at s i) (w.timers i).state op) x
extends_answered s H w a act (Queue cpu op) x = extends_queue s H w a act cpu op (queue_step s.buckets (are_direct s) (w.cpus cpu).queue op) x
extends_answered s H w a act (Itself kind) x = extends_down s H w a false (note_of_own s w a act kind) x

extends_due : (s : Script) (H : Histories) (w : World) (a : ℕ) (due : Action) → Extends H (makes_action s w a due) → Extends H w
extends_due s H w a (Asks act asked) x = extends_answered s H w a act asked x
extends_due s H w a Nothing x = x
extends_due s H w a (Silent to) x = x
extends_due s H w a (Take held to) x = x

extends_choice : (H : Histories) (b : Bool) (x y w : World) → (Extends H x → Extends H w) → (Extends H y → Extends H w) → Extends H (cond b x y) → Extends H w
extends_choice H true x y w f g h = f h
extends_choice H false x y w f g h = g h

extends_on : (s : Script) (H : Histories) (w : World) (a : ℕ) → Extends H (goes_on_in_section s w a) → Extends H w
extends_on s H w a =
    extends_choice H (is_in_section w (w.actors a).cursor) (makes_action s w a (action_for s a (w.actors a).cursor)) w w
    (extends_due s H w a (action_for s a (w.actors a).cursor)) (λ x. x)

-- ---- the entries that a world just made stand in H

entered_begins : (H : Histories) (w : World) (i : ℕ) (after : State) (e : Entry) → Extends H (enters w i after e) → Begins ((w.timers i).history ++ e ∷ []) (H.timers i)
entered_begins H w i after e x =
    subst (λ (timer : Timer). Begins timer.history (H.timers i)) (updated_here w.timers i (record (w.timers i) { state = after; history = (w.timers i).history ++ e ∷ [] })) (x.timers i)

journal_begins : (H : Histories) (w : World) (cpu : ℕ) (q : TimerQueue) (e : QEntry) → Extends H (enters_journal w cpu q e) → Begins ((w.cpus cpu).journal ++ e ∷ []) (H.cpus cpu)
journal_begins H w cpu q e x =
    subst (λ (one : Cpu). Begins one.journal (H.cpus cpu)) (updated_here w.cpus cpu (record { queue = q; journal = (w.cpus cpu).journal ++ e ∷ [] })) (x.cpus cpu)

landed_states : (s : Script) (w : World) (cpu : ℕ) (op : QOp) → ((j : ℕ) → (w.timers j).state ≡ state (spec_at s j) (w.timers j).history) → (j : ℕ) → ((landed w cpu op) j).state ≡ state (spec_at s j) ((landed w cpu op) j).history
landed_states s w cpu (Insert i n t) x j =
    at_updated (λ k (timer : Timer). timer.state ≡ state (spec_at s k) timer.history) w.timers i (record (w.timers i) { stand = cpu }) j (x i) (x j)
landed_states s w cpu (Remove i) x j = x j
landed_states s w cpu (Scan now) x j = x j
landed_states s w cpu Pop x j = x j
landed_states s w cpu Free x j = x j
landed_states s w cpu PopDirect x j = x j
landed_states s w cpu FreeDirect x j = x j

-- ---- an answer to what is due keeps the traces

-- the reply's off is the CPU from which the call has just removed the callout
abbrev IsRight : Op → Option ℕ → Option (State × Reply) → Type 0
IsRight op removed None = ⊤
IsRight op removed (Some outcome) = OffIsRemoved op outcome.1 removed

right_run : (op : RunOp) (removed : Option ℕ) (outcome : Option (State × Reply)) → IsRight (Run op) removed outcome
right_run op removed None = tt
right_run op removed (Some outcome) = tt

traced_callout : (s : Script) (H : Histories) (w : World) (a act i : ℕ) (op : Op) (outcome : Option (State × Reply)) →
    callout_step (spec_at s i) (w.timers i).state op ≡ outcome → action_for s a (w.actors a).cursor ≡ Asks act (Callout i op) → IsTraced s H w →
    IsRight op (w.actors a).cursor.removed outcome →
    Extends H (callout_answers s w a act i op outcome) → IsTraced s H (callout_answers s w a act i op outcome)
traced_callout s H w a act i op None steps is traced right x = traced
traced_callout s H w a act i op (Some outcome) steps is traced right x =
    let e : Entry = record { actor = a; act = act; op = op; reply = outcome.1 } in
    let after : next (spec_at s i) (w.timers i).state e ≡ outcome.0 = ap (λ (o : Option (State × Reply)). state_of o (w.timers i).state) steps in
    let entered : IsTraced s H (enters w i outcome.0 e) = record { states = states_entered s w i outcome.0 e traced.states after; traces = traced.traces } in
    traced_down s H (enters w i outcome.0 e) a (is_some (off outcome.0)) (note_of w i e) entered
    (callout_made s H w a act i op outcome is steps (traced.states i)
    (entered_begins H w i outcome.0 e (extends_down s H (enters w i outcome.0 e) a (is_some (off outcome.0)) (note_of w i e) x))
    right)

traced_journal : (s : Script) (H : Histories) (w : World) (cpu : ℕ) (q : TimerQueue) (e : QEntry) → IsTraced s H w → IsTraced s H (enters_journal w cpu q e)
traced_journal s H w cpu q e traced = record { states = landed_states s w cpu e.op traced.states; traces = traced.traces }

traced_queue : (s : Script) (H : Histories) (w : World) (a act cpu : ℕ) (op : QOp) (outcome : Option (TimerQueue × QReply)) →
    action_for s a (w.actors a).cursor ≡ Asks act (Queue cpu op) → IsTraced s H w → scans_first (w.actors a).cursor ≤ scan_count (w.cpus cpu).journal →
    Extends H (queue_answers s w a act cpu op outcome) → IsTraced s H (queue_answers s w a act cpu op outcome)
traced_queue s H w a act cpu op None is traced scanned x = traced
traced_queue s H w a act cpu op (Some outcome) is traced scanned x =
    let e : QEntry = record { actor = a; act = act; op = op; reply = outcome.1 } in
    traced_down s H (enters_journal w cpu outcome.0 e) a false (note_of_cpu w cpu e) (traced_journal s H w cpu outcome.0 e traced)
    (queue_made s H w a act cpu op outcome.1 is scanned
    (journal_begins H w cpu outcome.0 e (extends_down s H (enters_journal w cpu outcome.0 e) a false (note_of_cpu w cpu e) x)))

traced_own : (s : Script) (H : Histories) (w : World) (a act : ℕ) (kind : OwnKind) → action_for s a (w.actors a).cursor ≡ Asks act (Itself kind) → IsTraced s H w → IsTraced s H (world_answers s w a act (Itself kind))
traced_own s H w a act kind is traced = traced_down s H w a false (note_of_own s w a act kind) traced (own_made s H w a act kind is)

-- ---- the Scans that a Pop waits for have come

not_some : (b : Bool) (why : Why) → cond b (Some why) None ≡ None → b ≡ false
not_some true why h = cc
not_some false why h = refl

scans_came : (m n : ℕ) (why : Why) → cond (nat_lt m n) (Some why) None ≡ None → n ≤ m
scans_came m n why h = let f : nat_lt m n ≡ false = not_some (nat_lt m n) why h in omega (arith, ltb-false m n f)

-- ---- a call, with the Remove before it

abbrev pub NoneIsMissing : Histories → Type 0
NoneIsMissing H = (cpu : ℕ) → Each (λ e. e.reply ≡ Missing → ⊥) (H.cpus cpu)

traced_call : (s : Script) (H : Histories) (w : World) (a act i : ℕ) (op : CallOp) (off : Option ℕ) → off_of (call (w.timers i).state op).1 ≡ off →
    NoneIsMissing H → action_for s a (w.actors a).cursor ≡ Asks act (Callout i (Call op)) → (w.actors a).cursor.removed ≡ None → IsTraced s H w →
    Extends H (world_answers s (removed_from s w a act i off) a act (Callout i (Call op))) → IsTraced s H (world_answers s (removed_from s w a act i off) a act (Callout i (Call op)))
traced_call s H w a act i op None off_is found is none traced x =
    traced_callout s H w a act i (Call op) (Some (call (w.timers i).state op)) refl is traced (off_is ∙ sym none) x
traced_call s H w a act i op (Some cpu) off_is found is none traced x =
    let e : QEntry = record { actor = a; act = act; op = Remove i; reply = (remove (w.cpus cpu).queue i).1 } in
    let q : TimerQueue = (remove (w.cpus cpu).queue i).0 in
    let c : Cursor = (w.actors a).cursor in
    let w' : World = removed_from s w a act i (Some cpu) in
    let before : Extends H w' = extends_answered s H w' a act (Callout i (Call op)) x in
    let journal : Begins ((w.cpus cpu).journal ++ e ∷ []) (H.cpus cpu) =
    journal_begins H w cpu q e (extends_down s H (enters_journal w cpu q e) a false (note_of_cpu w cpu e) before) in
    let off : (remove (w.cpus cpu).queue i).1 ≡ Off =
    removed_off (w.cpus cpu).queue i (begins_last (λ (x : QEntry). x.reply ≡ Missing → ⊥) (w.cpus cpu).journal e (H.cpus cpu) journal (found cpu)) in
    let removed : IsTraced s H w' =
    traced_down s H (enters_journal w cpu q e) a false (note_of_cpu w cpu e) (traced_journal s H w cpu q e traced)
    (remove_made s H w a act i cpu op (remove (w.cpus cpu).queue i).1 is none off) in
    let there : w'.actors a ≡ record { cursor = record c { removed = Some cpu }; notes = (w.actors a).notes ++ note_of_cpu w cpu e ∷ [] } =
    updated_here w.actors a (record { cursor = record c { removed = Some cpu }; notes = (w.actors a).notes ++ note_of_cpu w cpu e ∷ [] }) in
    traced_callout s H w' a act i (Call op) (Some (call (w.timers i).state op)) refl
    (subst (λ (actor : Actor). action_for s a actor.cursor ≡ Asks act (Callout i (Call op))) (sym there) (due_removed s a c (Some cpu) act (Callout i (Call op)) is))
    removed
    (off_is ∙ sym (ap (λ (actor : Actor). actor.cursor.removed) there))
    x

-- ---- a section

traced_asked : (s : Script) (H : Histories) (w : World) (a act : ℕ) (asked : Asked) → NoneIsMissing H →
    action_for s a (w.actors a).cursor ≡ Asks act asked → (w.actors a).cursor.removed ≡ None → waits_for s w (w.actors a).cursor (Asks act asked) ≡ None → IsTraced s H w →
    Extends H (asked_whole s w a act asked) → IsTraced s H (asked_whole s w a act asked)
traced_asked s H w a act (Callout i (Call op)) found is none free traced x =
    traced_call s H w a act i op (off_of (call (w.timers i).state op).1) refl found is none traced x
traced_asked s H w a act (Callout i (Run op)) found is none free traced x =
    traced_callout s H w a act i (Run op) (callout_step (spec_at s i) (w.timers i).state (Run op)) refl is traced
    (right_run op (w.actors a).cursor.removed (callout_step (spec_at s i) (w.timers i).state (Run op))) x
traced_asked s H w a act (Queue cpu op) found is none free traced x =
    traced_queue s H w a act cpu op (queue_step s.buckets (are_direct s) (w.cpus cpu).queue op) is traced
    (scans_came (scan_count (w.cpus cpu).journal) (scans_first (w.actors a).cursor) (Tick cpu) free) x
traced_asked s H w a act (Itself kind) found is none free traced x = traced_own s H w a act kind is traced

traced_due : (s : Script) (H : Histories) (w : World) (a : ℕ) (due : Action) → action_for s a (w.actors a).cursor ≡ due → IsWithin due → scans_first (w.actors a).cursor ≡ 0 → IsTraced s H w →
    Extends H (makes_action s w a due) → IsTraced s H (makes_action s w a due)
traced_due s H w a (Asks act (Callout i (Run op))) is within zero_scans traced x =
    traced_callout s H w a act i (Run op) (callout_step (spec_at s i) (w.timers i).state (Run op)) refl is traced
    (right_run op (w.actors a).cursor.removed (callout_step (spec_at s i) (w.timers i).state (Run op))) x
traced_due s H w a (Asks act (Queue cpu op)) is within zero_scans traced x =
    traced_queue s H w a act cpu op (queue_step s.buckets (are_direct s) (w.cpus cpu).queue op) is traced (omega arith) x
traced_due s H w a (Asks act (Callout i (Call op))) is within zero_scans traced x = absurd within
traced_due s H w a (Asks act (Itself kind)) is within zero_scans traced x = absurd within
traced_due s H w a Nothing is within zero_scans traced x = absurd within
traced_due s H w a (Silent to) is within zero_scans traced x = absurd within
traced_due s H w a (Take held to) is within zero_scans traced x = absurd within

traced_on : (s : Script) (H : Histories) (w : World) (a : ℕ) → IsTraced s H w → Extends H (goes_on_in_section s w a) → IsTraced s H (goes_on_in_section s w a)
traced_on s H w a traced =
    at_choice (λ (w' : World). Extends H w' → IsTraced s H w') (is_in_section w (w.actors a).cursor) (makes_action s w a (action_for s a (w.actors a).cursor)) w
    (λ e. traced_due s H w a (action_for s a (w.actors a).cursor) refl (within_due s w a (w.actors a).cursor e).0 (within_due s w a (w.actors a).cursor e).1 traced)
    (λ e x. traced)

-- ---- a step

traced_stepped : (s : Script) (H : Histories) (w : World) (a : ℕ) (due : Action) → NoneIsMissing H → action_for s a (w.actors a).cursor ≡ due → (w.actors a).cursor.removed ≡ None →
    waits_for s w (w.actors a).cursor due ≡ None → IsTraced s H w → Extends H (stepped s w a due) → IsTraced s H (stepped s w a due)
traced_stepped s H w a Nothing found is none free traced x = traced
traced_stepped s H w a (Silent to) found is none free traced x = traced_place s H w a to traced (at_next_silent s a (w.actors a).cursor to is)
traced_stepped s H w a (Take held to) found is none free traced x = traced_place s H w a to traced (at_next_take s a (w.actors a).cursor to held is)
traced_stepped s H w a (Asks act asked) found is none free traced x =
    traced_on s H (asked_whole s w a act asked) a (traced_asked s H w a act asked found is none free traced (extends_on s H (asked_whole s w a act asked) a x)) x

is_none : (o : Option Why) → is_some o ≡ false → o ≡ None
is_none None h = refl
is_none (Some why) h = cc

traced_step : (s : Script) (H : Histories) (w : World) (a : ℕ) → NoneIsMissing H → NoneRemoved w → IsTraced s H w → Extends H (step s w a) → IsTraced s H (step s w a)
traced_step s H w a found none traced =
    at_choice (λ (w' : World). Extends H w' → IsTraced s H w') (is_some (blocked s w a)) w (stepped s w a (action_for s a (w.actors a).cursor))
    (λ e x. traced)
    (λ e. traced_stepped s H w a (action_for s a (w.actors a).cursor) found refl (none a) (is_none (blocked s w a) e) traced)

extends_removed : (s : Script) (H : Histories) (w : World) (a act i : ℕ) (off : Option ℕ) → Extends H (removed_from s w a act i off) → Extends H w
extends_removed s H w a act i None x = x
extends_removed s H w a act i (Some cpu) x = extends_answered s H w a act (Queue cpu (Remove i)) x

extends_first : (s : Script) (H : Histories) (w : World) (a act : ℕ) (asked : Asked) → Extends H (removed_first s w a act asked) → Extends H w
extends_first s H w a act (Callout i (Call op)) x = extends_removed s H w a act i (off_of (call (w.timers i).state op).1) x
extends_first s H w a act (Callout i (Run op)) x = x
extends_first s H w a act (Queue cpu op) x = x
extends_first s H w a act (Itself kind) x = x

extends_stepped : (s : Script) (H : Histories) (w : World) (a : ℕ) (due : Action) → Extends H (stepped s w a due) → Extends H w
extends_stepped s H w a Nothing x = x
extends_stepped s H w a (Silent to) x = record { timers = x.timers; cpus = x.cpus }
extends_stepped s H w a (Take held to) x = record { timers = x.timers; cpus = x.cpus }
extends_stepped s H w a (Asks act asked) x =
    extends_first s H w a act asked (extends_answered s H (removed_first s w a act asked) a act asked (extends_on s H (asked_whole s w a act asked) a x))

extends_step : (s : Script) (H : Histories) (w : World) (a : ℕ) → Extends H (step s w a) → Extends H w
extends_step s H w a =
    extends_choice H (is_some (blocked s w a)) w (stepped s w a (action_for s a (w.actors a).cursor)) w (λ x. x) (extends_stepped s H w a (action_for s a (w.actors a).cursor))

extends_run : (s : Script) (H : Histories) (schedule : List ℕ) (w : World) → Extends H (run s w schedule) → Extends H w
extends_run s H [] w x = x
extends_run s H (a ∷ schedule) w x = extends_step s H w a (extends_run s H schedule (step s w a) x)

traced_run : (s : Script) (H : Histories) (schedule : List ℕ) (w : World) → NoneIsMissing H → NoneRemoved w → IsTraced s H w → Extends H (run s w schedule) → IsTraced s H (run s w schedule)
traced_run s H [] w found none traced x = traced
traced_run s H (a ∷ schedule) w found none traced x =
    traced_run s H schedule (step s w a) found (none_step s w a none) (traced_step s H w a found none traced (extends_run s H schedule (step s w a) x)) x

traced_open : (s : Script) (H : Histories) → IsTraced s H (open_world s)
traced_open s H = record { states = λ i. refl; traces = λ a. record { next = tt; place = refl } }

extends_itself : (w : World) → Extends (histories_of w) w
extends_itself w = record { timers = λ i. begins_whole (w.timers i).history; cpus = λ cpu. begins_whole (w.cpus cpu).journal }

pub traced_reached : (s : Script) (schedule : List ℕ) → NoneMissing s (reached s schedule) → IsTraced s (histories_of (reached s schedule)) (reached s schedule)
traced_reached s schedule found =
    let w : World = reached s schedule in
    traced_run s (histories_of w) schedule (open_world s) found (λ a. refl) (traced_open s (histories_of w)) (extends_itself w)

-- where no Remove was answered Missing, an actor that has finished has notes that follow its program
pub finished_follow : (s : Script) (schedule : List ℕ) → NoneMissing s (reached s schedule) → FinishedFollow s (reached s schedule)
finished_follow s schedule found a finished =
    let w : World = reached s schedule in
    let H : Histories = histories_of w in
    let trace : Trace s H a (w.actors a) = (traced_reached s schedule found).traces a in
    let there : at_next_note s a (cursor_after s H a (start_of s a) (w.actors a).notes) ≡ (w.actors a).cursor = trace.place ∙ at_next_nothing s a (w.actors a).cursor finished in
    record { each = trace.next; whole = subst (λ (c : Cursor). action_for s a c ≡ Nothing) (sym there) finished }
