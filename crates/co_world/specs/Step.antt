-- One step of one actor.
use Rattle.std.specs.Prelude.{ℕ, ◌-◌, Bool, true, false, ◌==◌, ◌||◌, is_some, if◌then◌else◌, [], ◌∷◌, ◌++◌, length, Option, Some, None}
use Rattle.co_object.specs.declared.State.{State}
use Rattle.co_object.specs.declared.Reply.{Reply}
use Rattle.co_object.specs.declared.Op.{Op}
use Rattle.co_object.specs.declared.Op.TheVariants.{Call}
use Rattle.co_object.specs.declared.QOp.{QOp}
use Rattle.co_object.specs.declared.QOp.TheVariants.{Insert, Remove}
use Rattle.co_object.specs.declared.QReply.{QReply}
use Rattle.co_object.specs.declared.OwnKind.{OwnKind}
use Rattle.co_object.specs.declared.Entry.{Entry}
use Rattle.co_object.specs.declared.QEntry.{QEntry}
use Rattle.co_object.specs.declared.Note.{Note}
use Rattle.co_object.specs.declared.Place.TheVariants as place
use Rattle.co_object.specs.declared.AnyEntry.TheVariants as entry
use Rattle.co_object.specs.Stand.{off}
use Rattle.co_object.specs.Group.{off_of}
use Rattle.co_object.specs.Callout.{call, step as callout_step}
use Rattle.co_object.specs.Queue.{Queue as TimerQueue}
use Rattle.co_object.specs.Lists.{notes_of}
use Rattle.co_object.specs.Journal.{step as queue_step}
use Rattle.co_program.specs.declared.Script.{Script}
use Rattle.co_program.specs.Stages.{Stage, Picking, Freeing}
use Rattle.co_program.specs.Cursor.{Cursor}
use Rattle.co_program.specs.declared.PendingInsert.{PendingInsert}
use Rattle.co_program.specs.Action.{Action, Nothing, Silent, Take, Asks, action_for, spec_at}
use Rattle.co_program.specs.declared.Asked.{Asked}
use Rattle.co_program.specs.declared.Asked.TheVariants.{Callout, Queue, Itself}
use Rattle.co_program.specs.Advance.{advance}
pub use Rattle.co_program.specs.Runs.{are_direct}
use Rattle.co_world.specs.declared.turn.Turn.{Turn}
use Rattle.co_world.specs.declared.turn.Turn.TheVariants.{Notes, Blocked, Finished}
use Rattle.co_world.specs.declared.turn.Why.{Why}
use Rattle.co_world.specs.World.{Timer, World, updated, with_timer, with_cpu, with_actor, with_cursor}
use Rattle.co_world.specs.Blocked.{blocked}

-- ---- one note

-- the actor makes a note, and goes on in its program; listed is whether the callout stands in a queue now
abbrev pub notes_down : Script → World → ℕ → Bool → Note → World
notes_down s w a listed note =
    let actor = w.actors a in
    with_actor w a (record actor { cursor = advance s actor.cursor listed note.place note.entry; notes = actor.notes ++ note ∷ [] })

-- an entry in a callout's history, which leaves this state
abbrev pub enters : World → ℕ → State → Entry → World
enters w i state made = with_timer w i (record (w.timers i) { state = state; history = (w.timers i).history ++ made ∷ [] })

abbrev pub note_of : World → ℕ → Entry → Note
note_of w i made = record { place = place.Timer i; pos = length (w.timers i).history; entry = entry.Timer made }

-- a callout answers
abbrev pub callout_answers : Script → World → ℕ → ℕ → ℕ → Op → Option (State × Reply) → World
callout_answers s w a act i op None = w
callout_answers s w a act i op (Some outcome) =
    let made : Entry = record { actor = a; act = act; op = op; reply = outcome.1 } in
    notes_down s (enters w i outcome.0 made) a (is_some (off outcome.0)) (note_of w i made)

-- a callout stands where it was inserted
abbrev pub landed : World → ℕ → QOp → ℕ → Timer
landed w cpu (Insert i n t) = updated w.timers i (record (w.timers i) { stand = cpu })
landed w cpu op = w.timers

-- an entry in a CPU's journal, which leaves this queue
abbrev pub enters_journal : World → ℕ → TimerQueue → QEntry → World
enters_journal w cpu queue made =
    record (with_cpu w cpu (record { queue = queue; journal = (w.cpus cpu).journal ++ made ∷ [] })) { timers = landed w cpu made.op }

abbrev pub note_of_cpu : World → ℕ → QEntry → Note
note_of_cpu w cpu made = record { place = place.Cpu cpu; pos = length (w.cpus cpu).journal; entry = entry.Cpu made }

-- a CPU's queue answers
abbrev pub queue_answers : Script → World → ℕ → ℕ → ℕ → QOp → Option (TimerQueue × QReply) → World
queue_answers s w a act cpu op None = w
queue_answers s w a act cpu op (Some outcome) =
    let made : QEntry = record { actor = a; act = act; op = op; reply = outcome.1 } in
    notes_down s (enters_journal w cpu outcome.0 made) a false (note_of_cpu w cpu made)

abbrev pub note_of_own : Script → World → ℕ → ℕ → OwnKind → Note
note_of_own s w a act kind = record {
  place = place.Actor a;
  pos = length (notes_of (place.Actor a) (w.actors a).notes);
  entry = entry.Own (record { actor = a; act = act; kind = kind });
}

abbrev pub own_note : Script → World → ℕ → ℕ → OwnKind → World
own_note s w a act kind = notes_down s w a false (note_of_own s w a act kind)

abbrev pub world_answers : Script → World → ℕ → ℕ → Asked → World
world_answers s w a act (Callout i op) = callout_answers s w a act i op (callout_step (spec_at s i) (w.timers i).state op)
world_answers s w a act (Queue cpu op) = queue_answers s w a act cpu op (queue_step s.buckets (are_direct s) (w.cpus cpu).queue op)
world_answers s w a act (Itself kind) = own_note s w a act kind

-- ---- one section

-- a call that takes an arming out of a queue removes it there first
abbrev pub removed_from : Script → World → ℕ → ℕ → ℕ → Option ℕ → World
removed_from s w a act i None = w
removed_from s w a act i (Some cpu) = world_answers s w a act (Queue cpu (Remove i))

abbrev pub removed_first : Script → World → ℕ → ℕ → Asked → World
removed_first s w a act (Callout i (Call op)) = removed_from s w a act i (off_of (call (w.timers i).state op).1)
removed_first s w a act asked = w

-- what an actor asks, with the Remove before it
abbrev pub asked_whole : Script → World → ℕ → ℕ → Asked → World
asked_whole s w a act asked = world_answers s (removed_first s w a act asked) a act asked

abbrev pub is_within_service : Stage → Bool
is_within_service (Picking v) = true
is_within_service (Freeing v drain next) = true
is_within_service stage = false

-- an arming that is Listed where its callout stands: nothing moves
abbrev pub lands_here : World → Option PendingInsert → Bool
lands_here w None = false
lands_here w (Some p) = (w.timers p.i).stand == p.cpu

-- what comes next belongs to the same section: a Pick after its Pop, a Free after its End, an Insert where the callout stands
abbrev pub is_in_section : World → Cursor → Bool
is_in_section w c = is_within_service c.stage || lands_here w c.parcel

abbrev pub makes_action : Script → World → ℕ → Action → World
makes_action s w a (Asks act asked) = world_answers s w a act asked
makes_action s w a action = w

abbrev pub goes_on_in_section : Script → World → ℕ → World
goes_on_in_section s w a = let c = (w.actors a).cursor in if is_in_section w c then makes_action s w a (action_for s a c) else w

-- ---- one step

abbrev pub stepped : Script → World → ℕ → Action → World
stepped s w a Nothing = w
stepped s w a (Silent to) = with_cursor w a to
stepped s w a (Take held to) = with_cursor w a to
stepped s w a (Asks act asked) = goes_on_in_section s (asked_whole s w a act asked) a

-- a blocked step changes nothing, nor does one of an actor that has finished
abbrev pub step : Script → World → ℕ → World
step s w a = if is_some (blocked s w a) then w else stepped s w a (action_for s a (w.actors a).cursor)

abbrev pub turn_at : Script → World → ℕ → Option Why → Action → Turn
turn_at s w a (Some why) action = Blocked why
turn_at s w a None Nothing = Finished
turn_at s w a None action = Notes (length ((step s w a).actors a).notes - length (w.actors a).notes)

-- what the step answers
abbrev pub turn_of : Script → World → ℕ → Turn
turn_of s w a = turn_at s w a (blocked s w a) (action_for s a (w.actors a).cursor)
