-- Lists of calls, and the events after them.
use Rattle.std.specs.Prelude.{ℕ, ◌<◌, List, All}
use Rattle.std.specs.List.{fold}
use Rattle.co_sbt.specs.Time.{IsTime}
use Rattle.co_object.specs.Machine.{IsLegalFrom}
use Rattle.co_event.specs.Events.{Events, no_events, deadline}
use Rattle.co_event.specs.Calls.{arm, stop, take, settle}

pub data Call : Type 0 where
  Arm : (i due prec : ℕ) → Call
  Stop : (i : ℕ) → Call
  Take : Call
  Settle : (now : ℕ) → Call

abbrev pub after : Events → Call → Events
after e (Arm i due prec) = (arm e i due prec).0
after e (Stop i) = (stop e i).0
after e Take = (take e).0
after e (Settle now) = (settle e now).0

-- a callout is armed for a time, and the clock runs on to a time before each deadline
abbrev pub May : Events → Call → Type 0
May e (Arm i due prec) = IsTime due
May e (Settle now) = IsTime now × All (λ w. now < deadline w) e.pending
May e call = Unit {0}

-- the events after a list of calls
abbrev pub events : List Call → Events
events calls = fold after no_events calls

abbrev pub AreLegal : List Call → Type 0
AreLegal calls = IsLegalFrom after May no_events calls
