-- The sleep queue with a clock: each sleeper has a timer, and a tick ends the sleeps whose time is up.
use Rattle.std.specs.Prelude.{ℕ, ◌==◌, not, nat_le, max, pos, List, [], ◌∷◌, if◌then◌else◌}
use Rattle.std.specs.List.{count_by, filter_map, range_with_len}
use Rattle.std.specs.declared.option.Option.{Option}
use Rattle.std.specs.declared.option.Option.TheVariants.{Some, None}
use Rattle.co_sbt.specs.Time.{sat_add, from_ticks}
use Rattle.co_sleepq.specs.declared.op.SleepOp.TheVariants as op
use Rattle.co_sleepq.specs.declared.reply.SleepReply.{SleepReply}
use Rattle.co_sleepq.specs.declared.reply.SleepReply.TheVariants.{Began, Asleep}
use Rattle.co_sleepq.specs.Sleepers.{Sleepers, opening}
use Rattle.co_sleepq.specs.Queue.{step}
use Rattle.co_sleepq.specs.Ticks.{is_late, is_out}
use Rattle.co_sleepq.specs.Timers.{hz}
use Rattle.co_batch_text.specs.declared.sleep.command.SleepCommand.{SleepCommand}
use Rattle.co_batch_text.specs.declared.sleep.command.SleepCommand.TheVariants.{Sleep, Wakeup, WakeupOne, Awake, Tick}

-- sleep s is to end at this time
pub record SleepAlarm : Type 0 where
  pub due : ℕ
  pub s : ℕ

pub record Clocked : Type 0 where
  pub queue : Sleepers
  -- the time of the last tick
  pub now : ℕ
  -- each sleeper's timer
  pub alarms : ℕ → Option SleepAlarm

abbrev pub clock_opening : Clocked
clock_opening = record { queue = opening; now = 0; alarms = λ _. None }

pub data Answer : Type 0 where
  Told : SleepReply → Answer
  -- how many sleeps ended, and how many timers came late
  Ticked : (out late : ℕ) → Answer

-- sleeper i's timer is now this one
abbrev pub with_alarm : ℕ → Option SleepAlarm → (ℕ → Option SleepAlarm) → ℕ → Option SleepAlarm
with_alarm i alarm alarms j = if j == i then alarm else alarms j

abbrev pub alarms_after : SleepReply → (i timo now : ℕ) → (ℕ → Option SleepAlarm) → ℕ → Option SleepAlarm
alarms_after (Began s) i timo now alarms = if timo == 0 then alarms else with_alarm i (Some (record { due = sat_add now (from_ticks (pos timo) hz); s = s })) alarms
alarms_after _ i timo now alarms = alarms

abbrev pub stopped_by : SleepReply → ℕ → (ℕ → Option SleepAlarm) → ℕ → Option SleepAlarm
stopped_by Asleep i alarms = alarms
stopped_by _ i alarms = with_alarm i None alarms

abbrev pub alarm_in : Option SleepAlarm → ℕ → Option ℕ
alarm_in None now = None
alarm_in (Some a) now = if nat_le a.due now then Some a.s else None

abbrev pub alarm_left : Option SleepAlarm → ℕ → Option SleepAlarm
alarm_left None now = None
alarm_left (Some a) now = if nat_le a.due now then None else Some a

-- the queue after these timeouts, and its replies
abbrev pub time_outs : Sleepers → List ℕ → Sleepers × List SleepReply
time_outs q [] = (q, [])
time_outs q (s ∷ ss) = let one = step q (op.Timeout s) in let rest = time_outs one.0 ss in (rest.0, one.1 ∷ rest.1)

-- what a tick of so many sleepers leaves and answers
abbrev pub tick_answered : (sleepers : ℕ) → Clocked → ℕ → Clocked × Answer
tick_answered sleepers c time =
    let now = max c.now time in
    let due = filter_map (λ i. alarm_in (c.alarms i) now) (range_with_len 0 sleepers) in
    let out = time_outs c.queue due in
    (record { queue = out.0; now = now; alarms = λ i. alarm_left (c.alarms i) now }, Ticked (count_by is_out out.1) (count_by is_late out.1))

-- the state after a command and its answer
abbrev pub obey : (sleepers : ℕ) → Clocked → SleepCommand → Clocked × Answer
obey sleepers c (Sleep i chan timo) =
    let told = step c.queue (op.Sleep i chan (not (timo == 0))) in
    (record c { queue = told.0; alarms = alarms_after told.1 i timo c.now c.alarms }, Told told.1)
obey sleepers c (Wakeup chan) = let told = step c.queue (op.Wakeup chan) in (record c { queue = told.0 }, Told told.1)
obey sleepers c (WakeupOne chan) = let told = step c.queue (op.WakeupOne chan) in (record c { queue = told.0 }, Told told.1)
obey sleepers c (Awake i) = let told = step c.queue (op.Awake i) in (record c { alarms = stopped_by told.1 i c.alarms }, Told told.1)
obey sleepers c (Tick time) = tick_answered sleepers c time
