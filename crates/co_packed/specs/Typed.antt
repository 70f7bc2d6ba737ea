-- What their types say of the values of a note: numbers, times and codes are in range.
use Rattle.std.specs.Prelude.{ℕ, ℤ, pos, negsuc, ◌^◌, ◌<◌, IfSome}
use Rattle.co_sbt.specs.Time.{IsTime}
use Rattle.co_object.specs.declared.op.PlainOp.TheVariants.{Reset, Schedule}
use Rattle.co_object.specs.declared.op.CallOp.TheVariants.{Plain}
use Rattle.co_object.specs.declared.op.RunOp.TheVariants.{Pick, Begin, End}
use Rattle.co_object.specs.declared.op.Op.{Op}
use Rattle.co_object.specs.declared.op.Op.TheVariants.{Call, Run}
use Rattle.co_object.specs.declared.reply.Reply.{Reply}
use Rattle.co_object.specs.declared.reply.Reply.TheVariants as reply
use Rattle.co_object.specs.declared.queue.QOp.{QOp}
use Rattle.co_object.specs.declared.queue.QOp.TheVariants as queue
use Rattle.co_object.specs.declared.queue.QReply.{QReply}
use Rattle.co_object.specs.declared.queue.QReply.TheVariants as answer
use Rattle.co_object.specs.declared.note.AnyEntry.{AnyEntry}
use Rattle.co_object.specs.declared.note.AnyEntry.TheVariants as of

abbrev pub IsLong : ℕ → Type 0
IsLong n = n < 2 ^ 64

abbrev pub IsCode : ℤ → Type 0
IsCode (pos n) = n < 2 ^ 31
IsCode (negsuc n) = n < 2 ^ 31

abbrev pub OpTyped : Op → Type 0
OpTyped (Call (Plain (Reset due prec func arg cpu))) = (IsTime due × IsTime prec) × IsLong arg
OpTyped (Call (Plain (Schedule due prec cpu))) = IsTime due × IsTime prec
OpTyped (Run (Pick n cpu at)) = IsLong n × IsTime at
OpTyped (Run (Begin n cpu)) = IsLong n
OpTyped (Run (End n cpu)) = IsLong n
OpTyped op = Unit {0}

abbrev pub ReplyTyped : Reply → Type 0
ReplyTyped (reply.Armed code n cpu off) = IsCode code × IsLong n
ReplyTyped (reply.NotArmed code) = IsCode code
ReplyTyped (reply.Stopped code off) = IsCode code
ReplyTyped (reply.Wait n took off) = IsLong n
ReplyTyped (reply.Drained code off) = IsCode code
ReplyTyped (reply.Go func arg) = IsLong arg
ReplyTyped (reply.Ended drain next woke) = IfSome next (λ x. IsLong x.n × IsTime x.due)
ReplyTyped r = Unit {0}

abbrev pub QueueTyped : QOp → Type 0
QueueTyped (queue.Insert i n t) = IsLong n × IsTime t
QueueTyped (queue.Scan now) = IsTime now
QueueTyped op = Unit {0}

abbrev pub AnswerTyped : QReply → Type 0
AnswerTyped (answer.At t) = IsTime t
AnswerTyped (answer.Count k) = k < 2 ^ 32
AnswerTyped (answer.Got i n at) = IsLong n × IsTime at
AnswerTyped r = Unit {0}

abbrev pub EntryTyped : AnyEntry → Type 0
EntryTyped (of.Timer e) = IsLong e.act × (OpTyped e.op × ReplyTyped e.reply)
EntryTyped (of.Cpu e) = IsLong e.act × (QueueTyped e.op × AnswerTyped e.reply)
EntryTyped (of.Own e) = IsLong e.act
