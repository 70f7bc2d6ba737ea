-- Where an answer leaves the actor and the others.
use Rattle.std.proofs.Common.{◌≡◌, ℕ, ◌⊎◌, Bool, true, false, List, [], ◌∷◌, refl, ◌∙◌, Option, Some, None}
use Rattle.std.specs.Prelude.{is_some}
use Rattle.co_object.specs.declared.State.{State}
use Rattle.co_object.specs.declared.Reply.{Reply}
use Rattle.co_object.specs.declared.Reply.TheVariants.{Armed, Wait}
use Rattle.co_object.specs.declared.Op.{Op}
use Rattle.co_object.specs.declared.Op.TheVariants.{Call, Run as Serve}
use Rattle.co_object.specs.declared.CallOp.{CallOp}
use Rattle.co_object.specs.declared.Entry.{Entry}
use Rattle.co_object.specs.Stand.{off}
use Rattle.co_object.specs.Group.{off_of}
use Rattle.co_object.specs.Callout.{step as callout_step}
use Rattle.co_object.specs.Queue.{Queue as TimerQueue}
use Rattle.co_lock.specs.declared.held.Held.{Held}
use Rattle.co_program.specs.declared.Script.{Script}
use Rattle.co_program.specs.declared.Role.{Role}
use Rattle.co_program.specs.Stages.{Stage, Ready, Waiting, Popping, Picking, Locking, Beginning, Unlocking, Firing, Releasing, Ending, Freeing, Drained}
use Rattle.co_program.specs.declared.InService.{InService}
use Rattle.co_program.specs.Cursor.{Cursor}
use Rattle.co_program.specs.declared.PendingInsert.{PendingInsert}
use Rattle.co_program.specs.Action.{Action, Nothing, Silent, Take, Asks, action_for, spec_at}
use Rattle.co_program.specs.declared.Asked.{Asked}
use Rattle.co_program.specs.declared.Asked.TheVariants.{Callout, Queue, Itself}
use Rattle.co_program.specs.Advance.{act_over, call_made, advance_callout}
use Rattle.co_world.specs.World.{World}
use Rattle.co_world.specs.Step.{enters, note_of, note_of_own, callout_answers}
use Rattle.co_world.proofs.kept.Invariant.{states_of, queues_of, cursors_of}
use Rattle.co_world.proofs.basics.Changes.{note_at}
use Rattle.co_world.proofs.basics.Actions.{IsAction}
use Rattle.co_object.specs.Callout.{call}
use Rattle.co_world.proofs.kept.Stages.{place}
use Rattle.co_object.specs.declared.QOp.{QOp}
use Rattle.co_object.specs.declared.QOp.TheVariants.{Insert, Remove, Scan, Pop, Free, PopDirect, FreeDirect}
use Rattle.co_object.specs.declared.QReply.{QReply}
use Rattle.co_object.specs.declared.QReply.TheVariants.{Got}
use Rattle.co_object.specs.declared.QEntry.{QEntry}
use Rattle.co_program.specs.declared.Task.{Task}
use Rattle.co_program.specs.declared.Act.{Act}
use Rattle.co_program.specs.Action.{draining}
use Rattle.co_program.specs.Advance.{advance_queue, tail_of, popped, freed}
use Rattle.co_world.specs.Step.{enters_journal, note_of_cpu, are_direct}
use Rattle.co_world.proofs.kept.Invariant.{IsBetween}
use Rattle.co_object.specs.declared.RunOp.{RunOp}
use Rattle.co_object.specs.Journal as journal
use Rattle.co_program.specs.Action.{firing}
use Rattle.co_world.specs.Step.{world_answers, queue_answers, removed_from, is_in_section, makes_action, goes_on_in_section}
use Rattle.co_world.proofs.basics.Actions.{picks, opens, ends}
use Rattle.co_world.specs.Step.{removed_first}
use Rattle.co_world.proofs.basics.Updates.{cond_kept}
use Rattle.co_world.proofs.basics.Actions.{asks, drains, waits, fires, serves}
use Rattle.co_world.proofs.kept.Stages.{is_acting}
use Rattle.co_object.specs.declared.Reply.TheVariants.{NotArmed, Stopped, Done, Drained as IsDrained, Hold, Go, Ended, NoHandler, Worn, Busy, Yes, No, Live, Retired, InUse, Skip}
use Rattle.co_program.specs.Advance.{service_picked, service_begun, service_ended}

-- ---- stages after an answer

pub draining_between : (v : InService) (acts : List Act) → IsBetween (draining v acts)
draining_between v [] = tt
draining_between v (act ∷ acts) = tt

pub firing_between : (v : InService) (held : Option Held) (acts : List Act) → IsBetween (firing v held acts)
firing_between v held (act ∷ acts) = tt
firing_between v None [] = tt
firing_between v (Some held) [] = tt

called_between : (d : Cursor) (i : ℕ) (listed : Bool) (op : Op) (reply : Reply) → IsBetween (act_over d d.stage).stage → IsBetween (call_made d i listed op reply).stage
called_between d i true op (NotArmed code) h = h
called_between d i true op NoHandler h = h
called_between d i true op Worn h = h
called_between d i true op (Stopped code gone) h = h
called_between d i true op (IsDrained code gone) h = h
called_between d i true op Busy h = h
called_between d i true op Yes h = h
called_between d i true op No h = h
called_between d i true op Done h = h
called_between d i true op (Go func arg) h = h
called_between d i true op Hold h = h
called_between d i true op Skip h = h
called_between d i true op (Ended drain next woke) h = h
called_between d i true op Live h = h
called_between d i true op Retired h = h
called_between d i true op (InUse armed serviced) h = h
called_between d i true op (Armed code n cpu gone) h = h
called_between d i true op (Wait n took gone) h = tt
called_between d i false op (NotArmed code) h = h
called_between d i false op NoHandler h = h
called_between d i false op Worn h = h
called_between d i false op (Stopped code gone) h = h
called_between d i false op (IsDrained code gone) h = h
called_between d i false op Busy h = h
called_between d i false op Yes h = h
called_between d i false op No h = h
called_between d i false op Done h = h
called_between d i false op (Go func arg) h = h
called_between d i false op Hold h = h
called_between d i false op Skip h = h
called_between d i false op (Ended drain next woke) h = h
called_between d i false op Live h = h
called_between d i false op Retired h = h
called_between d i false op (InUse armed serviced) h = h
called_between d i false op (Armed code n cpu gone) h = h
called_between d i false op (Wait n took gone) h = tt

module _ (s : Script) (role : Role) (left : List Task) (number now : ℕ) (held : Option Held) (removed : Option ℕ) (parcel : Option PendingInsert) where
  abbrev at : Stage → Cursor
  at stage = place left number now held stage removed parcel

  over_between : (stage : Stage) → is_acting stage ≡ true → IsBetween (act_over (at stage) stage).stage
  over_between Ready h = tt
  over_between (Waiting n took) h = tt
  over_between (Firing v acts) h = firing_between v held (tail_of acts)
  over_between (Drained v acts) h = draining_between v (tail_of acts)
  over_between (Popping act) h = cc
  over_between (Picking v) h = cc
  over_between (Locking v) h = cc
  over_between (Beginning v) h = cc
  over_between (Unlocking v acts) h = cc
  over_between (Releasing v) h = cc
  over_between (Ending v) h = cc
  over_between (Freeing v drain next) h = cc

  pub call_between : (stage : Stage) (act i : ℕ) (op : CallOp) (listed : Bool) (reply : Reply) → IsAction s role (at stage) stage (Asks act (Callout i (Call op))) → IsBetween (advance_callout s (at stage) i listed (Call op) reply stage).stage
  call_between stage act i op listed reply (asks task more j x is own) = called_between (at stage) i listed (Call op) reply (over_between stage refl)
  call_between stage act i op listed reply (drains j more is free) = called_between (at stage) i listed (Call op) reply (over_between stage refl)
  call_between stage act i op listed reply (waits n took free) = called_between (at stage) i listed (Call op) reply (over_between stage refl)
  call_between stage act i op listed reply (fires v x acts j p) = called_between (at stage) i listed (Call op) reply (over_between stage refl)
  call_between stage act i op listed reply (serves v x acts j p) = called_between (at stage) i listed (Call op) reply (over_between stage refl)

  -- a turn of a service leaves what is on its way
  pub run_parcel : (stage : Stage) (act i : ℕ) (op : RunOp) (listed : Bool) (reply : Reply) → IsAction s role (at stage) stage (Asks act (Callout i (Serve op))) → (advance_callout s (at stage) i listed (Serve op) reply stage).parcel ≡ parcel
  run_parcel stage act i op listed reply (picks v) = picked_parcel reply where
    picked_parcel : (r : Reply) → (service_picked s (at (Picking v)) v r).parcel ≡ parcel
    picked_parcel (Go func arg) = refl
    picked_parcel r = refl
  run_parcel stage act i op listed reply (opens v) = begun_parcel reply where
    begun_parcel : (r : Reply) → (service_begun s (at (Beginning v)) v r).parcel ≡ parcel
    begun_parcel (Go func arg) = refl
    begun_parcel r = refl
  run_parcel stage act i op listed reply (ends v) = ended_parcel reply where
    ended_parcel : (r : Reply) → (service_ended (at (Ending v)) v r).parcel ≡ parcel
    ended_parcel (Ended drain next woke) = refl
    ended_parcel r = refl

-- an actor that has nothing on its way, or stands between two steps
abbrev pub IsReady : Cursor → Type 0
IsReady d = (d.parcel ≡ None) ⊎ IsBetween d.stage

popped_parcel : (d : Cursor) (reply : QReply) (stage : Stage) → (popped d reply stage).parcel ≡ d.parcel
popped_parcel d (Got i n time) (Popping act) = refl
popped_parcel d (Got i n time) stage = refl
popped_parcel d reply (Popping act) = refl
popped_parcel d reply stage = refl

pub advance_ready : (s : Script) (d : Cursor) (cpu : ℕ) (op : QOp) (reply : QReply) → d.parcel ≡ None → IsBetween d.stage → (advance_queue s d cpu op reply).parcel ≡ None
advance_ready s d cpu (Insert i n t) reply empty between = refl
advance_ready s d cpu (Remove i) reply empty between = empty
advance_ready s d cpu (Scan now) reply empty between = empty
advance_ready s d cpu Pop reply empty between = popped_parcel d reply d.stage ∙ empty
advance_ready s d cpu PopDirect reply empty between = popped_parcel d reply d.stage ∙ empty
advance_ready s d cpu Free reply empty between = go d.stage between where
  go : (stage : Stage) → IsBetween stage → (freed s d stage).parcel ≡ None
  go (Freeing v drain next) h = absurd h
  go stage h = empty
advance_ready s d cpu FreeDirect reply empty between = go d.stage between where
  go : (stage : Stage) → IsBetween stage → (freed s d stage).parcel ≡ None
  go (Freeing v drain next) h = absurd h
  go stage h = empty

-- ---- the cursors of others

pub callout_else : (s : Script) (w : World) (a act i : ℕ) (op : Op) (o : Option (State × Reply)) (b : ℕ) → (b ≡ a → ⊥) → cursors_of (callout_answers s w a act i op o) b ≡ cursors_of w b
callout_else s w a act i op None b other = refl
callout_else s w a act i op (Some o) b other =
    let made : Entry = record { actor = a; act = act; op = op; reply = o.1 } in (note_at s (enters w i o.0 made) a (is_some (off o.0)) (note_of w i made)).else b other

pub queue_else : (s : Script) (w : World) (a act cpu : ℕ) (op : QOp) (o : Option (TimerQueue × QReply)) (b : ℕ) → (b ≡ a → ⊥) → cursors_of (queue_answers s w a act cpu op o) b ≡ cursors_of w b
queue_else s w a act cpu op None b other = refl
queue_else s w a act cpu op (Some o) b other =
    let made : QEntry = record { actor = a; act = act; op = op; reply = o.1 } in (note_at s (enters_journal w cpu o.0 made) a false (note_of_cpu w cpu made)).else b other

pub answered_else : (s : Script) (w : World) (a act : ℕ) (asked : Asked) (b : ℕ) → (b ≡ a → ⊥) → cursors_of (world_answers s w a act asked) b ≡ cursors_of w b
answered_else s w a act (Callout i op) b other = callout_else s w a act i op (callout_step (spec_at s i) (states_of w i) op) b other
answered_else s w a act (Queue cpu op) b other = queue_else s w a act cpu op (journal.step s.buckets (are_direct s) (queues_of w cpu) op) b other
answered_else s w a act (Itself kind) b other = (note_at s w a false (note_of_own s w a act kind)).else b other

removed_else : (s : Script) (w : World) (a act i : ℕ) (o : Option ℕ) (b : ℕ) → (b ≡ a → ⊥) → cursors_of (removed_from s w a act i o) b ≡ cursors_of w b
removed_else s w a act i None b other = refl
removed_else s w a act i (Some cpu) b other = answered_else s w a act (Queue cpu (Remove i)) b other

pub first_else : (s : Script) (w : World) (a act : ℕ) (asked : Asked) (b : ℕ) → (b ≡ a → ⊥) → cursors_of (removed_first s w a act asked) b ≡ cursors_of w b
first_else s w a act (Callout i (Call op)) b other = removed_else s w a act i (off_of (call (states_of w i) op).1) b other
first_else s w a act (Callout i (Serve op)) b other = refl
first_else s w a act (Queue cpu op) b other = refl
first_else s w a act (Itself kind) b other = refl

pub makes_else : (s : Script) (w : World) (a : ℕ) (due : Action) (b : ℕ) → (b ≡ a → ⊥) → cursors_of (makes_action s w a due) b ≡ cursors_of w b
makes_else s w a (Asks act asked) b other = answered_else s w a act asked b other
makes_else s w a Nothing b other = refl
makes_else s w a (Silent to) b other = refl
makes_else s w a (Take held to) b other = refl

pub goes_else : (s : Script) (w : World) (a b : ℕ) → (b ≡ a → ⊥) → cursors_of (goes_on_in_section s w a) b ≡ cursors_of w b
goes_else s w a b other = cond_kept (λ (x : World). cursors_of x b ≡ cursors_of w b) (is_in_section w (cursors_of w a)) (makes_action s w a (action_for s a (cursors_of w a))) w (makes_else s w a (action_for s a (cursors_of w a)) b other) refl
