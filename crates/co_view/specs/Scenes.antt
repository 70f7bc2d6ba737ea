-- What is known of each callout while its notes come: whether it is armed, waits for its lock, and is in service.
use Rattle.std.specs.Prelude.{ℕ, Bool, true, false, List, Option, Some, None, slice_get, slice_set, if◌then◌else◌}
use Rattle.co_object.specs.declared.PlainOp.TheVariants.{Stop}
use Rattle.co_object.specs.declared.CallOp.{CallOp}
use Rattle.co_object.specs.declared.CallOp.TheVariants.{Plain}
use Rattle.co_object.specs.declared.RunOp.TheVariants.{Pick, End}
use Rattle.co_object.specs.declared.Op.{Op}
use Rattle.co_object.specs.declared.Op.TheVariants.{Call, Run}
use Rattle.co_object.specs.declared.Reply.{Reply}
use Rattle.co_object.specs.declared.Reply.TheVariants as reply
use Rattle.co_object.specs.declared.Entry.{Entry}
use Rattle.co_object.specs.declared.AnyEntry.{AnyEntry}
use Rattle.co_object.specs.declared.AnyEntry.TheVariants as of
use Rattle.co_object.specs.declared.Place.{Place}
use Rattle.co_object.specs.declared.Place.TheVariants as place
use Rattle.co_report.specs.declared.line.Line.{Line}
use Rattle.co_view.specs.declared.scene.Watch.{Watch}

-- nothing has come
abbrev pub quiet : Watch
quiet = record { armed = false; waits = false; serviced = false; since = 0; waiter = 0; waited = 0 }

-- a call's reply says whether it is armed after it
abbrev pub armed_by_call : Bool → Reply → Bool
armed_by_call was (reply.Armed code n cpu off) = true
armed_by_call was (reply.Stopped code off) = false
armed_by_call was (reply.Wait n took off) = false
armed_by_call was (reply.Drained code off) = false
armed_by_call was r = was

-- what is taken for service is armed no more
abbrev pub stays_armed : Bool → Op → Reply → Bool
stays_armed was (Call op) r = armed_by_call was r
stays_armed was (Run (Pick n cpu at)) r = false
stays_armed was (Run op) r = was

-- a reset that is heard, and a stop, cancel what waits for its lock
abbrev pub waits_by_call : Bool → CallOp → Reply → Bool
waits_by_call was op (reply.Armed code n cpu off) = false
waits_by_call was op (reply.NotArmed code) = false
waits_by_call was (Plain Stop) (reply.Stopped code off) = false
waits_by_call was op r = was

abbrev pub is_hold : Reply → Bool
is_hold reply.Hold = true
is_hold r = false

abbrev pub waits_by : Bool → Op → Reply → Bool
waits_by was (Call op) r = waits_by_call was op r
waits_by was (Run (Pick n cpu at)) r = is_hold r
waits_by was (Run op) r = false

abbrev pub serviced_by : Bool → Op → Bool
serviced_by was (Run (Pick n cpu at)) = true
serviced_by was (Run (End n cpu)) = false
serviced_by was op = was

-- the step of the pick
abbrev pub since_by : ℕ → ℕ → Op → ℕ
since_by was step (Run (Pick n cpu at)) = step
since_by was step op = was

-- a drain begins to wait
abbrev pub is_wait : Reply → Bool
is_wait (reply.Wait n took off) = true
is_wait r = false

-- a callout behind an entry, which is that of this step
abbrev pub watched : ℕ → Watch → Entry → Watch
watched step w e = record {
  armed = stays_armed w.armed e.op e.reply;
  waits = waits_by w.waits e.op e.reply;
  serviced = serviced_by w.serviced e.op;
  since = since_by w.since step e.op;
  waiter = if is_wait e.reply then e.actor else w.waiter;
  waited = if is_wait e.reply then step else w.waited;
}

-- all callouts, by their numbers; one that there is not is quiet
abbrev pub watch_or : Option Watch → Watch
watch_or (Some w) = w
watch_or None = quiet

abbrev pub watch_of : List Watch → ℕ → Watch
watch_of scene i = watch_or (slice_get scene i)

-- and behind a note
abbrev pub scene_behind : ℕ → List Watch → Place → AnyEntry → List Watch
scene_behind step scene (place.Timer i) (of.Timer e) = slice_set scene i (watched step (watch_of scene i) e)
scene_behind step scene p entry = scene

abbrev pub scene_after : ℕ → List Watch → Option Line → List Watch
scene_after step scene (Some l) = scene_behind step scene l.place l.entry
scene_after step scene None = scene
