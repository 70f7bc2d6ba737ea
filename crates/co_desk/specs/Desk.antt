-- What a desk keeps: its wheel is what its books say.
use Rattle.std.specs.Prelude.{◌≡◌, ℕ, true, Bool, false, List, [], length}
use Rattle.std.specs.List.{count_by}
use Rattle.std.specs.declared.option.Option.{Option}
use Rattle.std.specs.declared.option.Option.TheVariants.{Some, None}
use Rattle.co_life.specs.Rule.{capped}
use Rattle.co_object.specs.declared.alone.Alone.{Alone}
use Rattle.co_object.specs.declared.note.Entry.{Entry}
use Rattle.co_object.specs.declared.note.QEntry.{QEntry}
use Rattle.co_object.specs.declared.queue.QOp.{QOp}
use Rattle.co_object.specs.declared.queue.QOp.TheVariants.{Scan}
use Rattle.co_object.specs.History.{state}
use Rattle.co_object.specs.Stand.{is_free_at, off}
use Rattle.co_wheel.specs.Callouts.{callout}
use Rattle.co_wheel.specs.Cpu.{Cpu}
use Rattle.co_wheel.specs.Turns.{Shows, Takes, Turn}
use Rattle.co_desk.specs.declared.params.Params.{Params}
use Rattle.co_desk.specs.Params.{spec_at, directs}
use Rattle.co_desk.specs.Books.{BooksView, history_at}
use Rattle.co_desk.specs.May.{queue_at_desk}

-- callout i after a history
abbrev pub alone_after : Params → ℕ → List Entry → Alone
alone_after p i H = record { spec = spec_at p i; state = state (spec_at p i) H }

-- a record stands where its history does, and its state is the history's
abbrev pub StandsAs : Params → ℕ → Option Alone → Option (List Entry) → Type 0
StandsAs p i None None = Unit {0}
StandsAs p i None (Some H) = ⊥
StandsAs p i (Some a) None = ⊥
StandsAs p i (Some a) (Some H) = a ≡ alone_after p i H

-- a callout's service and its listed arming are at this CPU
pub record IsAtCpu (cpu : ℕ) (a : Alone) : Type 0 where
  pub runs : is_free_at a.state.run cpu ≡ true
  pub listed : (at : ℕ) → off a.state ≡ Some at → at ≡ cpu

abbrev pub IsHere : ℕ → Option Alone → Type 0
IsHere cpu None = Unit {0}
IsHere cpu (Some a) = IsAtCpu cpu a

abbrev pub is_scan : QOp → Bool
is_scan (Scan now) = true
is_scan _ = false

-- how many Scans a journal has
abbrev pub scans_in : List QEntry → ℕ
scans_in J = count_by (λ e. is_scan e.op) J

-- the wheel's numbers are the books'
pub record HasNumbersOf (w : Cpu) (b : BooksView) : Type 0 where
  pub cpu : w.callouts.cpu ≡ b.cpu
  pub size : length w.callouts.here ≡ length b.timers
  pub buckets : w.timers.buckets ≡ b.params.buckets
  pub direct : w.timers.direct ≡ directs b.params

-- the callouts at a wheel are what their histories say
pub record MatchesBooks (w : Cpu) (b : BooksView) : Type 0 where
  pub each : (i : ℕ) → StandsAs b.params i (callout w.callouts i) (history_at b i)
  pub here : (i : ℕ) → IsHere b.cpu (callout w.callouts i)

-- the plain queue after the journal still takes these turns, and the wheel shows the queue after them
pub record Owes (turns : List Turn) (w : Cpu) (b : BooksView) : Type 0 where
  pub takes : Takes b.params.buckets (directs b.params) turns (queue_at_desk b) (Shows w)

pub record IsDesk (w : Cpu) (b : BooksView) (scans : ℕ) : Type 0 where
  pub of : HasNumbersOf w b
  pub stand : MatchesBooks w b
  pub shown : Owes [] w b
  pub counted : scans ≡ capped (scans_in b.journal)
