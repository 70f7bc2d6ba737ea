-- What a run does to the service.
use Rattle.std.specs.Prelude.{◌≡◌, ℕ, ◌+◌, ◌≤◌, List}
use Rattle.co_kq.specs.Kevents.{Kevents, expirations}
use Rattle.co_kq.specs.Numbers.{KqView}
use Rattle.co_service.specs.Closing.{ClosingView}
use Rattle.co_batch_text.specs.Ends.{Served, IsServed, EndsBatch}
use Rattle.co_batch_text.specs.Kq.Answers.{answering}
use Rattle.co_batch_text.specs.Kq.Commands.{kq_language}
use Rattle.co_batch_text.specs.declared.kq.command.KqCommand.{KqCommand}
use Rattle.co_batch_text.specs.declared.kq.command.KqCommand.TheVariants.{Add, Delete, Tick, Events}

-- the number that a tick is answered with, and else 0
abbrev pub count_of : Kevents → KqCommand → ℕ
count_of s (Add ident value unit oneshot) = 0
count_of s (Delete ident) = 0
count_of s (Tick t) = expirations s t
count_of s (Events most) = 0

abbrev pub kq_served : Served KqCommand Kevents
kq_served = record { language = kq_language; answering = answering; counted = λ _ s c. count_of s c }

-- one command
pub record IsAnswered (v : KqView) (c : KqCommand) (w : KqView) : Type 0 where
  pub served : IsServed kq_served v.room v.list v.passes c w.list w.passes
  pub work : w.work ≤ v.work + 1
  pub room : w.room ≡ v.room

-- the end of the service that answered these bytes
abbrev pub EndsRun : List ℕ → ClosingView → Type 0
EndsRun bytes closing = EndsBatch kq_served bytes closing
