-- The passes of a sleep queue's one actor stand for the sleep queue with a clock.
use Rattle.std.specs.Prelude.{◌≡◌, ℕ, ◌+◌, ◌≤◌, List, [], max}
use Rattle.std.specs.declared.option.Option.{Option}
use Rattle.std.specs.declared.option.Option.TheVariants.{Some, None}
use Rattle.co_desk.specs.Views.{PassesView}
use Rattle.co_single.specs.Alarms.{alarm_at, last_scan, made_at, waiting_of}
use Rattle.co_single.specs.Alarms as single
use Rattle.co_single.specs.Rest.{HasNoService}
use Rattle.co_single.specs.Seen.{AreSingle}
use Rattle.co_sleepq.specs.History.{state}
use Rattle.co_sleepq.specs.Views.{SleepPassesView}
use Rattle.co_batch_text.specs.Ends.{AreServed, IsServed, IsUnderWay}
use Rattle.co_batch_text.specs.Sleep.Clock.{SleepAlarm, Answer, Told, Ticked, Clocked, clock_opening, obey}
use Rattle.co_batch_text.specs.Sleep.Ends.{sleep_served}
use Rattle.co_batch_text.specs.declared.sleep.command.SleepCommand.{SleepCommand}
use Rattle.co_batch_text.specs.declared.sleep.command.SleepCommand.TheVariants.{Sleep, Wakeup, WakeupOne, Awake, Tick}
use Rattle.co_batch_text.specs.declared.sleep.said.Said.{Said}
use Rattle.co_batch_text.specs.declared.sleep.said.Said.TheVariants as said

-- the passes of the one actor of a service of so many timers, between two calls
pub record IsBetweenCalls (n : ℕ) (p : PassesView) : Type 0 where
  pub single : AreSingle n p
  pub rest : HasNoService p

-- a sleeper's timer as the service keeps it
abbrev pub as_alarm : Option SleepAlarm → Option single.Alarm
as_alarm None = None
as_alarm (Some a) = Some (record { due = a.due; arg = a.s })

-- the passes of the one actor stand for this sleep queue with a clock, of n sleepers
pub record IsMatched (n : ℕ) (c : Clocked) (p : SleepPassesView) : Type 0 where
  pub quiet : IsBetweenCalls n p.service
  pub none : waiting_of p.service ≡ []
  pub queue : state p.seen ≡ c.queue
  pub clock : last_scan p.service ≡ c.now
  pub alarms : (i : ℕ) → alarm_at p.service i ≡ as_alarm (c.alarms i)

-- a command leaves what it leaves of the queue with a clock; its scan, if it is a tick, and as many functions called as it counts
pub record IsObeyed (n : ℕ) (c : Clocked) (x : SleepCommand) (p q : SleepPassesView) : Type 0 where
  pub matched : IsMatched n (obey n c x).0 q
  pub served : IsServed sleep_served n c p.service x (obey n c x).0 q.service
  pub made : (i : ℕ) → made_at q.service i ≤ made_at p.service i + 1

-- what a command came to, as an answer
abbrev pub answer_of : Said → Answer
answer_of (said.Told r) = Told r
answer_of (said.Ticked t) = Ticked t.out t.late

-- what the clock shows after a command
abbrev pub now_after : ℕ → SleepCommand → ℕ
now_after now (Tick t) = max now t
now_after now (Sleep i chan timo) = now
now_after now (Wakeup chan) = now
now_after now (WakeupOne chan) = now
now_after now (Awake i) = now

-- commands, one after the other, from the opening on
pub record AreObeyed (n : ℕ) (xs : List SleepCommand) (p q : SleepPassesView) : Type 0 where
  pub quiet : IsBetweenCalls n q.service
  pub served : AreServed sleep_served n clock_opening p.service xs q.service

-- so many commands were obeyed: the queue with a clock as it is then, and what is to come ends as all of it does
pub record IsObeying (n : ℕ) (xs : List SleepCommand) (i now : ℕ) (p q : SleepPassesView) (page written : List ℕ) : Type 0 where
  pub c : Clocked
  pub matched : IsMatched n c q
  pub time : c.now ≡ now
  pub made : (j : ℕ) → made_at q.service j ≤ i
  pub way : IsUnderWay sleep_served n clock_opening p.service page xs i c q.service written
