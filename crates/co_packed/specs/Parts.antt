-- What kinds and numbers stand for: places, operations, replies and entries.
use Rattle.std.specs.Prelude.{ℕ, true, false}
use Rattle.std.specs.declared.option.Option.TheVariants.{Some, None}
use Rattle.co_object.specs.declared.note.AnyEntry.{AnyEntry}
use Rattle.co_object.specs.declared.note.AnyEntry.TheVariants as entries
use Rattle.co_object.specs.declared.note.Place.{Place}
use Rattle.co_object.specs.declared.note.Place.TheVariants as places
use Rattle.co_object.specs.declared.op.CallOp.TheVariants.{Plain, DrainTry}
use Rattle.co_object.specs.declared.op.Op.{Op}
use Rattle.co_object.specs.declared.op.Op.TheVariants.{Call, Run}
use Rattle.co_object.specs.declared.op.PlainOp.TheVariants as plain
use Rattle.co_object.specs.declared.op.RunOp.TheVariants as runs
use Rattle.co_object.specs.declared.queue.QOp.{QOp}
use Rattle.co_object.specs.declared.queue.QOp.TheVariants as queues
use Rattle.co_object.specs.declared.queue.QReply.{QReply}
use Rattle.co_object.specs.declared.queue.QReply.TheVariants as answers
use Rattle.co_object.specs.declared.reply.Next.{Next}
use Rattle.co_object.specs.declared.reply.Reply.{Reply}
use Rattle.co_object.specs.declared.reply.Reply.TheVariants as replies
use Rattle.co_packed.specs.declared.kinds.Answer.{Answer}
use Rattle.co_packed.specs.declared.kinds.Answer.TheVariants.{Armed, ArmedOff, NotArmed, NoHandler, Worn, Stopped, StoppedOff, Wait, WaitOff, WaitTook, WaitTookOff, Drained, DrainedOff, Busy, Yes, No, Done, Go, Hold, Skip, Ended, EndedWoke, EndedDrain, EndedDrainWoke, EndedNext, EndedNextWoke, EndedNextDrain, EndedNextDrainWoke, Live, Retired, InUse, InUseArmed, InUseServiced, InUseBoth}
use Rattle.co_packed.specs.declared.kinds.Kind.{Kind}
use Rattle.co_packed.specs.declared.kinds.Kind.TheVariants.{Reset, ResetOn, Schedule, ScheduleOn, Stop, AsyncDrain, Active, Pending, Deactivate, Init, Retire, Drain, DrainTook, Pick, Begin, End}
use Rattle.co_packed.specs.declared.kinds.QAnswer.{QAnswer}
use Rattle.co_packed.specs.declared.kinds.QAnswer.TheVariants.{At, Off, Missing, Count, Got, Empty, Freed}
use Rattle.co_packed.specs.declared.kinds.QKind.{QKind}
use Rattle.co_packed.specs.declared.kinds.QKind.TheVariants.{Insert, Remove, Scan, Pop, Free, PopDirect, FreeDirect}
use Rattle.co_packed.specs.declared.kinds.Sort.{Sort}
use Rattle.co_packed.specs.declared.kinds.Sort.TheVariants as sorts
use Rattle.co_packed.specs.declared.kinds.Whose.{Whose}
use Rattle.co_packed.specs.declared.kinds.Whose.TheVariants as kinds_of
use Rattle.co_packed.specs.declared.words.OpWords.{OpWords}
use Rattle.co_packed.specs.declared.words.ReplyWords.{ReplyWords}

abbrev pub place_of : Whose → ℕ → Place
place_of kinds_of.Timer number = places.Timer number
place_of kinds_of.Cpu number = places.Cpu number
place_of kinds_of.Actor number = places.Actor number

-- an operation on a callout
abbrev pub op_of : Kind → OpWords → Op
op_of Reset w = Call (Plain (plain.Reset w.time w.prec w.number w.word None))
op_of ResetOn w = Call (Plain (plain.Reset w.time w.prec w.number w.word (Some w.cpu)))
op_of Schedule w = Call (Plain (plain.Schedule w.time w.prec None))
op_of ScheduleOn w = Call (Plain (plain.Schedule w.time w.prec (Some w.cpu)))
op_of Stop w = Call (Plain plain.Stop)
op_of AsyncDrain w = Call (Plain (plain.AsyncDrain w.number))
op_of Active w = Call (Plain plain.Active)
op_of Pending w = Call (Plain plain.Pending)
op_of Deactivate w = Call (Plain plain.Deactivate)
op_of Init w = Call (Plain plain.Init)
op_of Retire w = Call (Plain plain.Retire)
op_of Drain w = Call (DrainTry false)
op_of DrainTook w = Call (DrainTry true)
op_of Pick w = Run (runs.Pick w.word w.cpu w.time)
op_of Begin w = Run (runs.Begin w.word w.cpu)
op_of End w = Run (runs.End w.word w.cpu)

-- the arming that moves to another CPU
abbrev pub next_of : ReplyWords → Next
next_of w = record { n = w.word; cpu = w.number; due = w.time }

-- a callout's reply
abbrev pub reply_of : Answer → ReplyWords → Reply
reply_of Armed w = replies.Armed w.code w.word w.number None
reply_of ArmedOff w = replies.Armed w.code w.word w.number (Some w.off)
reply_of NotArmed w = replies.NotArmed w.code
reply_of NoHandler w = replies.NoHandler
reply_of Worn w = replies.Worn
reply_of Stopped w = replies.Stopped w.code None
reply_of StoppedOff w = replies.Stopped w.code (Some w.off)
reply_of Wait w = replies.Wait w.word false None
reply_of WaitOff w = replies.Wait w.word false (Some w.off)
reply_of WaitTook w = replies.Wait w.word true None
reply_of WaitTookOff w = replies.Wait w.word true (Some w.off)
reply_of Drained w = replies.Drained w.code None
reply_of DrainedOff w = replies.Drained w.code (Some w.off)
reply_of Busy w = replies.Busy
reply_of Yes w = replies.Yes
reply_of No w = replies.No
reply_of Done w = replies.Done
reply_of Go w = replies.Go w.number w.word
reply_of Hold w = replies.Hold
reply_of Skip w = replies.Skip
reply_of Ended w = replies.Ended None None false
reply_of EndedWoke w = replies.Ended None None true
reply_of EndedDrain w = replies.Ended (Some w.off) None false
reply_of EndedDrainWoke w = replies.Ended (Some w.off) None true
reply_of EndedNext w = replies.Ended None (Some (next_of w)) false
reply_of EndedNextWoke w = replies.Ended None (Some (next_of w)) true
reply_of EndedNextDrain w = replies.Ended (Some w.off) (Some (next_of w)) false
reply_of EndedNextDrainWoke w = replies.Ended (Some w.off) (Some (next_of w)) true
reply_of Live w = replies.Live
reply_of Retired w = replies.Retired
reply_of InUse w = replies.InUse false false
reply_of InUseArmed w = replies.InUse true false
reply_of InUseServiced w = replies.InUse false true
reply_of InUseBoth w = replies.InUse true true

-- an operation on a CPU's timer queue
abbrev pub queue_op_of : QKind → OpWords → QOp
queue_op_of Insert w = queues.Insert w.number w.word w.time
queue_op_of Remove w = queues.Remove w.number
queue_op_of Scan w = queues.Scan w.time
queue_op_of Pop w = queues.Pop
queue_op_of Free w = queues.Free
queue_op_of PopDirect w = queues.PopDirect
queue_op_of FreeDirect w = queues.FreeDirect

-- the queue's reply
abbrev pub queue_reply_of : QAnswer → ReplyWords → QReply
queue_reply_of At w = answers.At w.time
queue_reply_of Off w = answers.Off
queue_reply_of Missing w = answers.Missing
queue_reply_of Count w = answers.Count w.number
queue_reply_of Got w = answers.Got w.number w.word w.time
queue_reply_of Empty w = answers.Empty
queue_reply_of Freed w = answers.Freed

-- an entry by this actor in this act
abbrev pub entry_of : Sort → ℕ → ℕ → OpWords → ReplyWords → AnyEntry
entry_of (sorts.Timer kind answer) actor act op reply = entries.Timer (record { actor = actor; act = act; op = op_of kind op; reply = reply_of answer reply })
entry_of (sorts.Cpu kind answer) actor act op reply = entries.Cpu (record { actor = actor; act = act; op = queue_op_of kind op; reply = queue_reply_of answer reply })
entry_of (sorts.Own kind) actor act op reply = entries.Own (record { actor = actor; act = act; kind = kind })
