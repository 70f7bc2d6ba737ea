-- Whether a note is what an actor asks for at a place in its program: a test, since the verdict is computed by it. co_program's
-- `Fits` is the relation of which laws speak, and proofs/Nexts proves that the test holds exactly where the relation does.
use Rattle.std.specs.Prelude.{ℕ, Bool, true, false, ◌==◌, ◌&&◌, Option, None}
use Rattle.co_object.specs.declared.Place.{Place}
use Rattle.co_object.specs.declared.Place.TheVariants as place
use Rattle.co_object.specs.declared.AnyEntry.{AnyEntry}
use Rattle.co_object.specs.declared.AnyEntry.TheVariants.{Timer, Cpu, Own}
use Rattle.co_object.specs.declared.OwnKind.{OwnKind}
use Rattle.co_object.specs.declared.Op.{Op}
use Rattle.co_object.specs.declared.Op.TheVariants.{Call, Run}
use Rattle.co_object.specs.declared.QOp.{QOp}
use Rattle.co_object.specs.declared.QOp.TheVariants.{Remove}
use Rattle.co_object.specs.declared.QReply.TheVariants.{Off}
use Rattle.co_object.specs.Group.{off_of}
use Rattle.co_program.specs.declared.action.Asked.TheVariants.{Callout, Queue, Itself}
use Rattle.co_program.specs.Action.{Action, Nothing, Silent, Take, Asks}
use Rattle.co_check.specs.Same.{same_number, same_op, same_queue_op, same_answer, same_kind}

-- a call's entry, whose off is the CPU from which the callout was just removed, or before it that Remove; and an entry of a service
abbrev pub asks_callout : (a act i : ℕ) → Op → Option ℕ → Place → AnyEntry → Bool
asks_callout a act i (Call op) removed (place.Timer j) (Timer e) =
    j == i && e.actor == a && e.act == act && same_op e.op (Call op) && same_number (off_of e.reply) removed
asks_callout a act i (Call op) removed (place.Cpu cpu) (Cpu e) =
    same_number removed None && e.actor == a && e.act == act && same_queue_op e.op (Remove i) && same_answer e.reply Off
asks_callout a act i (Run op) removed (place.Timer j) (Timer e) =
    j == i && e.actor == a && e.act == act && same_op e.op (Run op)
asks_callout a act i op removed place entry = false

abbrev pub asks_queue : (a act cpu : ℕ) → QOp → Place → AnyEntry → Bool
asks_queue a act cpu op (place.Cpu x) (Cpu e) = x == cpu && e.actor == a && e.act == act && same_queue_op e.op op
asks_queue a act cpu op place entry = false

abbrev pub asks_itself : (a act : ℕ) → OwnKind → Place → AnyEntry → Bool
asks_itself a act kind (place.Actor b) (Own e) = b == a && e.actor == a && e.act == act && same_kind e.kind kind
asks_itself a act kind place entry = false

-- removed is the CPU from which the call under way has just removed its callout
abbrev pub asks : ℕ → Option ℕ → Action → Place → AnyEntry → Bool
asks a removed Nothing place entry = false
asks a removed (Silent to) place entry = false
asks a removed (Take held to) place entry = false
asks a removed (Asks act (Callout i op)) place entry = asks_callout a act i op removed place entry
asks a removed (Asks act (Queue cpu op)) place entry = asks_queue a act cpu op place entry
asks a removed (Asks act (Itself kind)) place entry = asks_itself a act kind place entry

abbrev pub is_nothing : Action → Bool
is_nothing Nothing = true
is_nothing (Silent to) = false
is_nothing (Take held to) = false
is_nothing (Asks act asked) = false
