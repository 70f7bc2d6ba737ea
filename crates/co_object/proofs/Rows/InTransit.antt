-- A worked history, evaluated on the definitions.
use Rattle.std.proofs.Common.{◌≡◌, List, [], ◌∷◌, false, pos, refl}
use Rattle.std.specs.declared.option.Option.TheVariants.{Some, None}
use Rattle.co_object.specs.declared.spec.LockUse.TheVariants.{Free}
use Rattle.co_object.specs.declared.op.PlainOp.TheVariants.{Reset, Stop}
use Rattle.co_object.specs.declared.op.CallOp.TheVariants.{Plain}
use Rattle.co_object.specs.declared.op.Op.TheVariants.{Call}
use Rattle.co_object.specs.declared.reply.Reply.TheVariants.{Armed, Stopped}
use Rattle.co_object.specs.declared.queue.QOp.TheVariants.{Insert, Remove}
use Rattle.co_object.specs.declared.queue.QReply.TheVariants.{At, Off}
use Rattle.co_object.specs.declared.note.Entry.{Entry}
use Rattle.co_object.specs.declared.note.QEntry.{QEntry}
use Rattle.co_object.specs.Actors.{Actors}
use Rattle.co_object.specs.History.{IsLegal}
use Rattle.co_object.specs.Journal.{IsLegalQueue}
use Rattle.co_object.specs.declared.note.Note.{Note}
use Rattle.co_object.specs.declared.note.Place.TheVariants as at
use Rattle.co_object.specs.declared.note.AnyEntry.TheVariants as of
use Rattle.co_object.specs.Lists.{callout_history, cpu_journal}
use Rattle.co_object.specs.Fate as fate

abbrev actors : Actors
actors = record { version = 1; clients = 2; cpus = 2 }

abbrev timer_0 : List Entry
timer_0 =
    (record { actor = 0; act = 0; op = Call (Plain (Reset 4294967296 0 0 0 (Some 1))); reply = Armed (pos 0) 0 1 None })
    ∷ (record { actor = 1; act = 0; op = Call (Plain Stop); reply = Stopped (pos 1) (Some 1) })
    ∷ []

pub timer_0-legal : IsLegal actors (record { lock = Free; returns_unlocked = false; direct = false }) timer_0
timer_0-legal = ((refl, tt), ((refl, tt), tt))

abbrev wheel_0 : List QEntry
wheel_0 = []

pub wheel_0-legal : IsLegalQueue actors 0 256 (false ∷ []) wheel_0
wheel_0-legal = tt

abbrev wheel_1 : List QEntry
wheel_1 =
    (record { actor = 0; act = 0; op = Insert 0 0 4294967296; reply = At 4294967296 })
    ∷ (record { actor = 1; act = 0; op = Remove 0; reply = Off })
    ∷ []

pub wheel_1-legal : IsLegalQueue actors 1 256 (false ∷ []) wheel_1
wheel_1-legal = ((refl, tt), ((refl, tt), tt))

abbrev lists : List (List Note)
lists =
    ((record { place = at.Timer 0; pos = 0; entry = of.Timer (record { actor = 0; act = 0; op = Call (Plain (Reset 4294967296 0 0 0 (Some 1))); reply = Armed (pos 0) 0 1 None }) })
    ∷ (record { place = at.Cpu 1; pos = 0; entry = of.Cpu (record { actor = 0; act = 0; op = Insert 0 0 4294967296; reply = At 4294967296 }) })
    ∷ [])
    ∷
    ((record { place = at.Cpu 1; pos = 1; entry = of.Cpu (record { actor = 1; act = 0; op = Remove 0; reply = Off }) })
    ∷ (record { place = at.Timer 0; pos = 1; entry = of.Timer (record { actor = 1; act = 0; op = Call (Plain Stop); reply = Stopped (pos 1) (Some 1) }) })
    ∷ [])
    ∷
    []
    ∷
    []
    ∷
    []

pub timer_0-history : callout_history 0 lists ≡ timer_0
timer_0-history = refl

pub wheel_0-history : cpu_journal 0 lists ≡ wheel_0
wheel_0-history = refl

pub wheel_1-history : cpu_journal 1 lists ≡ wheel_1
wheel_1-history = refl

pub timer_0-fate_0 : fate.fates (record { lock = Free; returns_unlocked = false; direct = false }) timer_0 0 ≡ fate.Stopped ∷ []
timer_0-fate_0 = refl
