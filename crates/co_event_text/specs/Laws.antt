-- Laws of the text.
use Rattle.std.specs.Prelude.{◌≡◌, ℕ, false}
use Rattle.co_event.specs.Events.{Events, next_moment}
use Rattle.co_event.specs.Sound.{AreSound}
use Rattle.co_event_text.specs.Answers.{comes_by, run_until}

-- behind an `until` no moment comes by its time
abbrev pub EachUntilTakesAll : Type 0
EachUntilTakesAll = (t : ℕ) (e : Events) → AreSound e → comes_by t (next_moment (run_until t e).0) ≡ false
