-- What the passes of a service's one actor say of its callouts and of its clock.
use Rattle.std.specs.Prelude.{ℕ, ◌+◌, ◌==◌, List, [], ◌∷◌, length, map, if◌then◌else◌}
use Rattle.std.specs.List.{filter}
use Rattle.std.specs.declared.option.Option.{Option}
use Rattle.std.specs.declared.option.Option.TheVariants.{Some, None}
use Rattle.std.specs.Prelude.{not, nat_le}
use Rattle.co_object.specs.declared.note.Entry.{Entry}
use Rattle.co_object.specs.declared.note.QEntry.{QEntry}
use Rattle.co_object.specs.declared.queue.QOp.{QOp}
use Rattle.co_object.specs.declared.queue.QOp.TheVariants.{Insert, Remove, Scan, Pop, Free, PopDirect, FreeDirect}
use Rattle.co_object.specs.declared.reply.Reply.{Reply}
use Rattle.co_object.specs.declared.reply.Reply.TheVariants.{Go}
use Rattle.co_object.specs.declared.state.Arming.{Arming}
use Rattle.co_object.specs.declared.state.State.{State}
use Rattle.co_object.specs.Entries.{is_go}
use Rattle.co_object.specs.History.{state}
use Rattle.co_object.specs.Journal.{queue}
use Rattle.co_object.specs.Queue.{Queue}
use Rattle.co_desk.specs.Params.{directs, no_spec}
use Rattle.co_desk.specs.Views.{PassesView, seen_of, journal_seen}

-- an arming that stands
pub record Alarm : Type 0 where
  pub due : ℕ
  pub arg : ℕ

abbrev pub alarm_of : Option Arming → Option Alarm
alarm_of None = None
alarm_of (Some a) = Some (record { due = a.due; arg = a.arg })

-- callout i after what is seen of it, and the timer queue of the one CPU
abbrev pub callout_seen : PassesView → ℕ → State
callout_seen p i = state no_spec (seen_of p i)

abbrev pub queue_in : PassesView → Queue
queue_in p = queue 256 (directs p.params) (journal_seen p 0)

-- how many callouts there are
abbrev pub callout_count : PassesView → ℕ
callout_count p = length p.timers

-- callout i's arming, where one stands
abbrev pub alarm_at : PassesView → ℕ → Option Alarm
alarm_at p i = alarm_of (callout_seen p i).armed

-- how many armings of callout i were made so far
abbrev pub made_at : PassesView → ℕ → ℕ
made_at p i = (callout_seen p i).made

-- how often a function was to run, by these entries
abbrev pub gos : List Entry → ℕ
gos [] = 0
gos (e ∷ es) = (if is_go e.reply then 1 else 0) + gos es

-- how often callout i fired so far
abbrev pub fired_at : PassesView → ℕ → ℕ
fired_at p i = gos (seen_of p i)

-- how often all callouts of these histories fired
abbrev pub all_gos : List (List Entry) → ℕ
all_gos [] = 0
all_gos (H ∷ Hs) = gos H + all_gos Hs

abbrev pub scanned_before : QOp → List ℕ → List ℕ
scanned_before (Scan now) times = now ∷ times
scanned_before (Insert i n t) times = times
scanned_before (Remove i) times = times
scanned_before Pop times = times
scanned_before Free times = times
scanned_before PopDirect times = times
scanned_before FreeDirect times = times

-- the times of a CPU's scans, in order
abbrev pub scan_times : List QEntry → List ℕ
scan_times [] = []
scan_times (e ∷ es) = scanned_before e.op (scan_times es)

abbrev pub scan_times_of : PassesView → List ℕ
scan_times_of p = scan_times (journal_seen p 0)

-- the time of the last scan, as the timer queue keeps it
abbrev pub last_scan : PassesView → ℕ
last_scan p = (queue_in p).last

-- the callouts that have come due and are not served yet, in order
abbrev pub waiting_of : PassesView → List ℕ
waiting_of p = map (λ d. d.i) (queue_in p).expired

-- these callouts without i
abbrev pub but : ℕ → List ℕ → List ℕ
but i js = filter (λ j. not (j == i)) js

-- how often i stands in a list
abbrev pub times_in : ℕ → List ℕ → ℕ
times_in i [] = 0
times_in i (j ∷ js) = (if j == i then 1 else 0) + times_in i js

-- 1 of an arming that is due by this time, and else 0
abbrev pub due_once : Option Alarm → ℕ → ℕ
due_once None clock = 0
due_once (Some a) clock = if nat_le a.due clock then 1 else 0

-- the argument with which a function is to run
abbrev pub arg_in : Reply → ℕ
arg_in (Go func arg) = arg
arg_in _ = 0
