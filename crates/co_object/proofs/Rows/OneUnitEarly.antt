-- A worked history, evaluated on the definitions.
use Rattle.std.proofs.Common.{◌≡◌, List, [], ◌∷◌, false, pos, refl}
use Rattle.std.specs.declared.option.Option.TheVariants.{None}
use Rattle.co_object.specs.declared.spec.LockUse.TheVariants.{Free}
use Rattle.co_object.specs.declared.op.PlainOp.TheVariants.{Reset, Pending}
use Rattle.co_object.specs.declared.op.CallOp.TheVariants.{Plain}
use Rattle.co_object.specs.declared.op.Op.TheVariants.{Call}
use Rattle.co_object.specs.declared.reply.Reply.TheVariants.{Armed, Yes}
use Rattle.co_object.specs.declared.queue.QOp.TheVariants.{Insert, Scan, Pop}
use Rattle.co_object.specs.declared.queue.QReply.TheVariants.{At, Count, Empty}
use Rattle.co_object.specs.declared.note.Entry.{Entry}
use Rattle.co_object.specs.declared.note.QEntry.{QEntry}
use Rattle.co_object.specs.Actors.{Actors}
use Rattle.co_object.specs.History.{IsLegal}
use Rattle.co_object.specs.Journal.{IsLegalQueue}
use Rattle.co_object.specs.declared.note.Note.{Note}
use Rattle.co_object.specs.declared.note.Place.TheVariants as at
use Rattle.co_object.specs.declared.note.AnyEntry.TheVariants as of
use Rattle.co_object.specs.Lists.{callout_history, cpu_journal}
use Rattle.co_object.specs.Fate as fate

abbrev actors : Actors
actors = record { version = 1; clients = 1; cpus = 1 }

abbrev timer_0 : List Entry
timer_0 =
    (record { actor = 0; act = 0; op = Call (Plain (Reset 6442450944 0 0 7 None)); reply = Armed (pos 0) 0 0 None })
    ∷ (record { actor = 0; act = 1; op = Call (Plain Pending); reply = Yes })
    ∷ []

pub timer_0-legal : IsLegal actors (record { lock = Free; returns_unlocked = false; direct = false }) timer_0
timer_0-legal = ((refl, tt), ((refl, tt), tt))

abbrev wheel_0 : List QEntry
wheel_0 =
    (record { actor = 0; act = 0; op = Insert 0 0 6442450944; reply = At 6442450944 })
    ∷ (record { actor = 1; act = 0; op = Scan 6442450943; reply = Count 0 })
    ∷ (record { actor = 1; act = 0; op = Pop; reply = Empty })
    ∷ []

pub wheel_0-legal : IsLegalQueue actors 0 256 (false ∷ []) wheel_0
wheel_0-legal = ((refl, tt), ((refl, refl), ((refl, refl), tt)))

abbrev lists : List (List Note)
lists =
    ((record { place = at.Timer 0; pos = 0; entry = of.Timer (record { actor = 0; act = 0; op = Call (Plain (Reset 6442450944 0 0 7 None)); reply = Armed (pos 0) 0 0 None }) })
    ∷ (record { place = at.Cpu 0; pos = 0; entry = of.Cpu (record { actor = 0; act = 0; op = Insert 0 0 6442450944; reply = At 6442450944 }) })
    ∷ (record { place = at.Timer 0; pos = 1; entry = of.Timer (record { actor = 0; act = 1; op = Call (Plain Pending); reply = Yes }) })
    ∷ [])
    ∷
    ((record { place = at.Cpu 0; pos = 1; entry = of.Cpu (record { actor = 1; act = 0; op = Scan 6442450943; reply = Count 0 }) })
    ∷ (record { place = at.Cpu 0; pos = 2; entry = of.Cpu (record { actor = 1; act = 0; op = Pop; reply = Empty }) })
    ∷ [])
    ∷
    []

pub timer_0-history : callout_history 0 lists ≡ timer_0
timer_0-history = refl

pub wheel_0-history : cpu_journal 0 lists ≡ wheel_0
wheel_0-history = refl

pub timer_0-fate_0 : fate.fates (record { lock = Free; returns_unlocked = false; direct = false }) timer_0 0 ≡ fate.Pending ∷ []
timer_0-fate_0 = refl
