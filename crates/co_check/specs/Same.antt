-- Whether two operations, two replies and so on are the same.
use Rattle.std.specs.Prelude.{ℕ, Bool, true, false, ◌==◌, ◌&&◌, Option, Some, None}
use Rattle.std.specs.Ordering.{int_eq}
use Rattle.co_object.specs.declared.Next.{Next}
use Rattle.co_object.specs.declared.PlainOp.{PlainOp}
use Rattle.co_object.specs.declared.PlainOp.TheVariants.{Reset, Schedule, Stop, AsyncDrain, Active, Pending, Deactivate, Init, Retire}
use Rattle.co_object.specs.declared.CallOp.{CallOp}
use Rattle.co_object.specs.declared.CallOp.TheVariants.{Plain, DrainTry}
use Rattle.co_object.specs.declared.RunOp.{RunOp}
use Rattle.co_object.specs.declared.RunOp.TheVariants.{Pick, Begin, End}
use Rattle.co_object.specs.declared.Op.{Op}
use Rattle.co_object.specs.declared.Op.TheVariants.{Call, Run}
use Rattle.co_object.specs.declared.Reply.{Reply}
use Rattle.co_object.specs.declared.Reply.TheVariants as reply
use Rattle.co_object.specs.declared.QOp.{QOp}
use Rattle.co_object.specs.declared.QOp.TheVariants as queue
use Rattle.co_object.specs.declared.QReply.{QReply}
use Rattle.co_object.specs.declared.QReply.TheVariants as answer
use Rattle.co_object.specs.declared.OwnKind.{OwnKind}
use Rattle.co_object.specs.declared.OwnKind.TheVariants.{NotHeld, HoldsLock, Holding, NotHolding}

abbrev pub same_truth : Bool → Bool → Bool
same_truth true true = true
same_truth false false = true
same_truth a b = false

abbrev pub same_number : Option ℕ → Option ℕ → Bool
same_number None None = true
same_number (Some a) (Some b) = a == b
same_number a b = false

abbrev pub same_next : Option Next → Option Next → Bool
same_next None None = true
same_next (Some a) (Some b) = a.n == b.n && a.cpu == b.cpu && a.due == b.due
same_next a b = false

-- ---- callouts

abbrev pub same_plain : PlainOp → PlainOp → Bool
same_plain (Reset due prec func arg cpu) (Reset due' prec' func' arg' cpu') = due == due' && prec == prec' && func == func' && arg == arg' && same_number cpu cpu'
same_plain (Schedule due prec cpu) (Schedule due' prec' cpu') = due == due' && prec == prec' && same_number cpu cpu'
same_plain Stop Stop = true
same_plain (AsyncDrain func) (AsyncDrain func') = func == func'
same_plain Active Active = true
same_plain Pending Pending = true
same_plain Deactivate Deactivate = true
same_plain Init Init = true
same_plain Retire Retire = true
same_plain a b = false

abbrev pub same_run : RunOp → RunOp → Bool
same_run (Pick n cpu at) (Pick n' cpu' at') = n == n' && cpu == cpu' && at == at'
same_run (Begin n cpu) (Begin n' cpu') = n == n' && cpu == cpu'
same_run (End n cpu) (End n' cpu') = n == n' && cpu == cpu'
same_run a b = false

abbrev pub same_call : CallOp → CallOp → Bool
same_call (Plain a) (Plain b) = same_plain a b
same_call (DrainTry took) (DrainTry took') = same_truth took took'
same_call a b = false

abbrev pub same_op : Op → Op → Bool
same_op (Call a) (Call b) = same_call a b
same_op (Run a) (Run b) = same_run a b
same_op a b = false

abbrev pub same_reply : Reply → Reply → Bool
same_reply (reply.Armed code n cpu off) (reply.Armed code' n' cpu' off') = int_eq code code' && n == n' && cpu == cpu' && same_number off off'
same_reply (reply.NotArmed code) (reply.NotArmed code') = int_eq code code'
same_reply reply.NoHandler reply.NoHandler = true
same_reply reply.Worn reply.Worn = true
same_reply (reply.Stopped code off) (reply.Stopped code' off') = int_eq code code' && same_number off off'
same_reply (reply.Wait n took off) (reply.Wait n' took' off') = n == n' && same_truth took took' && same_number off off'
same_reply (reply.Drained code off) (reply.Drained code' off') = int_eq code code' && same_number off off'
same_reply reply.Busy reply.Busy = true
same_reply reply.Yes reply.Yes = true
same_reply reply.No reply.No = true
same_reply reply.Done reply.Done = true
same_reply reply.Live reply.Live = true
same_reply reply.Retired reply.Retired = true
same_reply (reply.InUse armed serviced) (reply.InUse armed' serviced') = same_truth armed armed' && same_truth serviced serviced'
same_reply (reply.Go func arg) (reply.Go func' arg') = func == func' && arg == arg'
same_reply reply.Hold reply.Hold = true
same_reply reply.Skip reply.Skip = true
same_reply (reply.Ended drain next woke) (reply.Ended drain' next' woke') = same_number drain drain' && same_next next next' && same_truth woke woke'
same_reply a b = false

-- ---- timer queues

abbrev pub same_queue_op : QOp → QOp → Bool
same_queue_op (queue.Insert i n t) (queue.Insert i' n' t') = i == i' && n == n' && t == t'
same_queue_op (queue.Remove i) (queue.Remove i') = i == i'
same_queue_op (queue.Scan now) (queue.Scan now') = now == now'
same_queue_op queue.Pop queue.Pop = true
same_queue_op queue.Free queue.Free = true
same_queue_op queue.PopDirect queue.PopDirect = true
same_queue_op queue.FreeDirect queue.FreeDirect = true
same_queue_op a b = false

abbrev pub same_answer : QReply → QReply → Bool
same_answer (answer.At t) (answer.At t') = t == t'
same_answer answer.Off answer.Off = true
same_answer answer.Missing answer.Missing = true
same_answer (answer.Count k) (answer.Count k') = k == k'
same_answer (answer.Got i n at) (answer.Got i' n' at') = i == i' && n == n' && at == at'
same_answer answer.Empty answer.Empty = true
same_answer answer.Freed answer.Freed = true
same_answer a b = false

-- ---- an actor's own notes

abbrev pub same_kind : OwnKind → OwnKind → Bool
same_kind NotHeld NotHeld = true
same_kind HoldsLock HoldsLock = true
same_kind Holding Holding = true
same_kind NotHolding NotHolding = true
same_kind a b = false
