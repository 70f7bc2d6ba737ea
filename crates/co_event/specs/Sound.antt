-- What holds of events after every list of calls.
use Rattle.std.specs.Prelude.{ℕ, ◌≤◌, ◌==◌, All}
use Rattle.std.specs.List.{count_by}
use Rattle.co_event.specs.Events.{Events, deadline}

pub record AreSound (e : Events) : Type 0 where
  -- each callout is pending at most once
  pub once : (i : ℕ) → count_by (λ w. w.i == i) e.pending ≤ 1
  -- no window ends before now
  pub ahead : All (λ w. e.now ≤ deadline w) e.pending
  -- each window begins no later than it ends
  pub windows : All (λ w. w.due ≤ deadline w) e.pending
  -- the last take is past
  pub taken : e.last ≤ e.now
