-- The text of `trace`: Chrome's trace format, where a step is a microsecond. Each event but the first begins behind a comma.
use Rattle.std.specs.Prelude.{ℕ, ◌+◌, ◌*◌, ◌&&◌, ◌||◌, not, Bool, true, false, List, [], ◌∷◌, ◌++◌, codes, decimal, flat_map, length}
use Rattle.std.specs.List.{range_with_len}
use Rattle.co_object.specs.declared.RunOp.TheVariants.{Pick, Begin, End}
use Rattle.co_object.specs.declared.Op.{Op}
use Rattle.co_object.specs.declared.Op.TheVariants.{Call, Run}
use Rattle.co_object.specs.declared.Reply.{Reply}
use Rattle.co_object.specs.declared.Reply.TheVariants as reply
use Rattle.co_object.specs.declared.Entry.{Entry}
use Rattle.co_object.specs.declared.AnyEntry.{AnyEntry}
use Rattle.co_object.specs.declared.AnyEntry.TheVariants as of
use Rattle.co_object.specs.declared.Place.{Place}
use Rattle.co_object.specs.declared.Place.TheVariants as place
use Rattle.co_program.specs.declared.script.Script.{Script}
use Rattle.co_program.specs.Actors.{actor_count}
use Rattle.co_grammar.specs.Spelling.{actor_word}
use Rattle.co_report.specs.declared.line.Line.{Line}
use Rattle.co_object.specs.Lists.{act_of, actor_of}
use Rattle.co_view.specs.declared.scene.Watch.{Watch}
use Rattle.co_view.specs.Scenes.{stays_armed, watch_of}
use Rattle.co_view.specs.Words.{note_text}

-- ---- the parts of an event

-- a lane, and when
abbrev pub at_text : (lane step : ℕ) → List ℕ
at_text lane step = decimal lane ++ (codes ",\"ts\":" ++ decimal step)

-- a bar of a callout's lane begins
abbrev pub begin_text : (lane step : ℕ) → List ℕ → List ℕ
begin_text lane step name = codes ",\n{\"ph\":\"B\",\"pid\":1,\"tid\":" ++ (at_text lane step ++ (codes ",\"name\":\"" ++ (name ++ codes "\"}")))

-- and ends
abbrev pub end_text : (lane step : ℕ) → List ℕ
end_text lane step = codes ",\n{\"ph\":\"E\",\"pid\":1,\"tid\":" ++ (at_text lane step ++ codes "}")

-- what is there where a test passes
abbrev pub text_if : Bool → List ℕ → List ℕ
text_if true text = text
text_if false text = []

-- `#N` and what it is doing
abbrev pub arming_text : ℕ → List ℕ → List ℕ
arming_text n doing = 35 ∷ (decimal n ++ doing)

-- ---- the lane `armed` of a callout, whose number is even

abbrev pub armed_begin : (i step : ℕ) → Reply → List ℕ
armed_begin i step (reply.Armed code n cpu off) = begin_text (2 * i) step (arming_text n (codes " on CPU " ++ decimal cpu))
armed_begin i step r = []

abbrev pub is_armed_reply : Reply → Bool
is_armed_reply (reply.Armed code n cpu off) = true
is_armed_reply r = false

-- a bar ends where the arming goes, or another takes its place
abbrev pub ends_armed : Watch → Entry → Bool
ends_armed w e = w.armed && (is_armed_reply e.reply || not (stays_armed w.armed e.op e.reply))

abbrev pub armed_text : (i step : ℕ) → Watch → Entry → List ℕ
armed_text i step w e = text_if (ends_armed w e) (end_text (2 * i) step) ++ armed_begin i step e.reply

-- ---- the lane `in service`, whose number is odd

abbrev pub doing_word : Reply → List ℕ
doing_word reply.Hold = codes " waits for its lock"
doing_word reply.Skip = codes " skipped"
doing_word r = codes " in service"

abbrev pub service_begin : (i step : ℕ) → Op → Reply → List ℕ
service_begin i step (Run (Pick n cpu at)) r = begin_text (2 * i + 1) step (arming_text n (doing_word r))
service_begin i step (Run (Begin n cpu)) r = begin_text (2 * i + 1) step (arming_text n (doing_word r))
service_begin i step op r = []

abbrev pub is_run : Op → Bool
is_run (Run op) = true
is_run (Call op) = false

abbrev pub service_text : (i step : ℕ) → Watch → Entry → List ℕ
service_text i step w e = text_if (w.serviced && is_run e.op) (end_text (2 * i + 1) step) ++ service_begin i step e.op e.reply

-- ---- the arrow from a drain's wait to the end that wakes it

abbrev pub flow_text : List ℕ → (i n actor step : ℕ) → List ℕ
flow_text head i n actor step = (head ++ decimal i) ++ (codes "." ++ (decimal n ++ (codes "\",\"pid\":2,\"tid\":" ++ (at_text actor step ++ codes "}"))))

abbrev pub wait_text : (i actor step : ℕ) → Reply → List ℕ
wait_text i actor step (reply.Wait n took off) = flow_text (codes ",\n{\"ph\":\"s\",\"cat\":\"drain\",\"name\":\"drain\",\"id\":\"") i n actor step
wait_text i actor step r = []

abbrev pub wakes : Reply → Bool
wakes (reply.Ended drain next woke) = woke
wakes r = false

abbrev pub wake_text : (i actor step : ℕ) → Op → Reply → List ℕ
wake_text i actor step (Run (End n cpu)) r = text_if (wakes r) (flow_text (codes ",\n{\"ph\":\"f\",\"bp\":\"e\",\"cat\":\"drain\",\"name\":\"drain\",\"id\":\"") i n actor step)
wake_text i actor step op r = []

-- ---- a note

-- what happens to its callout
abbrev pub callout_text : (i step : ℕ) → Watch → Entry → List ℕ
callout_text i step w e = armed_text i step w e ++ (service_text i step w e ++ (wait_text i e.actor step e.reply ++ wake_text i e.actor step e.op e.reply))

abbrev pub effect_text : (step : ℕ) → List Watch → Place → AnyEntry → List ℕ
effect_text step scene (place.Timer i) (of.Timer e) = callout_text i step (watch_of scene i) e
effect_text step scene p entry = []

-- its event in its actor's lane: the words, the line of the report and the act
abbrev pub note_event : (step : ℕ) → Line → List ℕ
note_event step l = codes ",\n{\"ph\":\"X\",\"pid\":2,\"tid\":" ++ (at_text (actor_of l.entry) step
    ++ (codes ",\"dur\":1,\"name\":\"" ++ (note_text l.place l.entry
    ++ (codes "\",\"args\":{\"line\":" ++ (decimal l.line ++ (codes ",\"act\":" ++ (decimal (act_of l.entry) ++ codes "}}")))))))

abbrev pub trace_events : (step : ℕ) → List Watch → Line → List ℕ
trace_events step scene l = note_event step l ++ effect_text step scene l.place l.entry

-- ---- the names of the lanes

abbrev pub lane_head : (process lane : ℕ) → List ℕ
lane_head process lane = codes ",\n{\"ph\":\"M\",\"name\":\"thread_name\",\"pid\":" ++ (decimal process ++ (codes ",\"tid\":" ++ (decimal lane ++ codes ",\"args\":{\"name\":\"")))

abbrev pub timer_lane : (i lane : ℕ) → List ℕ → List ℕ
timer_lane i lane what = lane_head 1 lane ++ (codes "timer " ++ (decimal i ++ (what ++ codes "\"}}")))

abbrev pub timer_lanes : ℕ → List ℕ
timer_lanes i = timer_lane i (2 * i) (codes " armed") ++ timer_lane i (2 * i + 1) (codes " in service")

abbrev pub actor_lane : Script → ℕ → List ℕ
actor_lane s a = lane_head 2 a ++ (actor_word s a ++ codes "\"}}")

abbrev pub opening_text : List ℕ
opening_text = codes "{\"traceEvents\":[\n{\"ph\":\"M\",\"name\":\"process_name\",\"pid\":1,\"args\":{\"name\":\"callouts\"}},\n{\"ph\":\"M\",\"name\":\"process_name\",\"pid\":2,\"args\":{\"name\":\"actors\"}}"

abbrev pub head_text : Script → List ℕ
head_text s = opening_text ++ (flat_map timer_lanes (range_with_len 0 (length s.timers)) ++ flat_map (actor_lane s) (range_with_len 0 (actor_count s)))
