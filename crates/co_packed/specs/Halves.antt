-- The operation and the reply of an entry of any history, each by itself.
use Rattle.co_object.specs.declared.note.AnyEntry.{AnyEntry}
use Rattle.co_object.specs.declared.note.AnyEntry.TheVariants as entries
use Rattle.co_packed.specs.declared.halves.AnyOp.{AnyOp}
use Rattle.co_packed.specs.declared.halves.AnyOp.TheVariants as ops
use Rattle.co_packed.specs.declared.halves.AnyReply.{AnyReply}
use Rattle.co_packed.specs.declared.halves.AnyReply.TheVariants as replies

abbrev pub op_in : AnyEntry → AnyOp
op_in (entries.Timer e) = ops.Timer e.op
op_in (entries.Cpu e) = ops.Cpu e.op
op_in (entries.Own e) = ops.Own e.kind

abbrev pub reply_in : AnyEntry → AnyReply
reply_in (entries.Timer e) = replies.Timer e.reply
reply_in (entries.Cpu e) = replies.Cpu e.reply
reply_in (entries.Own e) = replies.Own
