-- The notes that a report of a script may have: their values fit their types, what they name exists in the script, and an
-- operation on a queue has an answer of its own.
use Rattle.std.specs.Prelude.{◌≡◌, ℕ, ◌<◌, true}
use Rattle.co_object.specs.declared.Op.{Op}
use Rattle.co_object.specs.declared.Reply.{Reply}
use Rattle.co_object.specs.declared.QOp.{QOp}
use Rattle.co_object.specs.declared.QReply.{QReply}
use Rattle.co_object.specs.declared.AnyEntry.{AnyEntry}
use Rattle.co_object.specs.declared.AnyEntry.TheVariants as of
use Rattle.co_object.specs.declared.Place.{Place}
use Rattle.co_object.specs.declared.Place.TheVariants as place
pub use Rattle.co_sbt.specs.Time.{IsTime}
pub use Rattle.co_packed.specs.Typed.{IsLong, IsCode}
use Rattle.co_packed.specs.Typed.{OpTyped, ReplyTyped, QueueTyped, AnswerTyped}
use Rattle.co_program.specs.declared.Script.{Script}
use Rattle.co_program.specs.Actors.{actor_count}
pub use Rattle.co_program.specs.Existing.{IsCallout, IsCpu}
use Rattle.co_program.specs.Existing.{QOpExists, QReplyExists}
pub use Rattle.co_program.specs.Names.{IsFunc}
use Rattle.co_program.specs.Names.{OpNames, ReplyNames}
use Rattle.co_notes.specs.declared.reading.notes.NumberedEntry.{NumberedEntry}
use Rattle.co_notes.specs.NoteForms.{may_answer}

-- an operation on a callout, and its reply
abbrev pub OpFits : Script → Op → Type 0
OpFits s op = OpTyped op × OpNames s op

abbrev pub ReplyFits : Script → Reply → Type 0
ReplyFits s reply = ReplyTyped reply × ReplyNames s reply

-- an operation on a timer queue, and its answer
abbrev pub QueueFits : Script → QOp → Type 0
QueueFits s op = QueueTyped op × QOpExists s op

abbrev pub AnswerFits : Script → QReply → Type 0
AnswerFits s reply = AnswerTyped reply × QReplyExists s reply

abbrev pub IsActor : Script → ℕ → Type 0
IsActor s a = a < actor_count s

-- an actor of the script, and the number of an act
abbrev pub MakerFits : Script → (actor act : ℕ) → Type 0
MakerFits s actor act = IsActor s actor × IsLong act

-- an entry of this place: of its kind, and an own one of its actor
abbrev pub EntryFits : Script → Place → AnyEntry → Type 0
EntryFits s (place.Timer i) (of.Timer e) = MakerFits s e.actor e.act × (OpFits s e.op × ReplyFits s e.reply)
EntryFits s (place.Cpu c) (of.Cpu e) = MakerFits s e.actor e.act × ((QueueFits s e.op × AnswerFits s e.reply) × (may_answer e.op e.reply ≡ true))
EntryFits s (place.Actor a) (of.Own e) = MakerFits s e.actor e.act × (e.actor ≡ a)
EntryFits s p e = ⊥

abbrev pub ShownFits : Script → Place → NumberedEntry → Type 0
ShownFits s p x = IsLong x.number × EntryFits s p x.entry
