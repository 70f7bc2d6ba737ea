-- Which plain queues the code's queue of a CPU stands for, and how it answers as they do.
use Rattle.std.specs.Prelude.{◌≡◌, ℕ, ◌<◌, Bool, false, is_some, List, Option, Some, None}
use Rattle.co_object.specs.declared.QOp.{QOp}
use Rattle.co_object.specs.declared.QOp.TheVariants.{Insert}
use Rattle.co_object.specs.declared.QReply.{QReply}
use Rattle.co_object.specs.Queue.{Queue}
use Rattle.co_object.specs.Journal.{step}
use Rattle.co_queue.specs.Timers.{empty_timers}
use Rattle.co_queue.specs.StandsFor.{StandsFor}
use Rattle.co_check.specs.declared.cpu.CpuQueue.{CpuQueue}

abbrev pub empty_cpu : (callouts buckets : ℕ) → List Bool → CpuQueue
empty_cpu callouts buckets direct = record { queue = empty_timers callouts buckets direct; serving = false; directing = false }

-- the plain queue has what the code's has, and serves where it does
pub record ShowsQueue (q : Queue) (cpu : CpuQueue) : Type 0 where
  pub timers : StandsFor cpu.queue q
  pub serving : cpu.serving ≡ is_some q.serving
  pub directing : cpu.directing ≡ is_some q.directing

-- the plain queue answers so, and is then the one after; an operation that is not possible has no answer
abbrev pub IsOutcome : Option (Queue × QReply) → Option QReply → CpuQueue → Type 0
IsOutcome None reply after = reply ≡ None
IsOutcome (Some outcome) reply after = (reply ≡ Some outcome.1) × ShowsQueue outcome.0 after

pub record Answers (before : CpuQueue) (op : QOp) (reply : Option QReply) (after : CpuQueue) : Type 0 where
  pub size : after.queue.size ≡ before.queue.size
  pub buckets : after.queue.buckets ≡ before.queue.buckets
  pub direct : after.queue.direct ≡ before.queue.direct
  pub outcome : (q : Queue) → ShowsQueue q before → IsOutcome (step before.queue.buckets before.queue.direct q op) reply after

-- the callout that is inserted has a number below the size
abbrev pub NamesCallout : ℕ → QOp → Type 0
NamesCallout size (Insert i n t) = i < size
NamesCallout size op = Unit {0}
