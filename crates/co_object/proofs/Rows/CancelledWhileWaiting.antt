-- A worked history, evaluated on the definitions.
use Rattle.std.proofs.Common.{◌≡◌, List, [], ◌∷◌, false, pos, refl}
use Rattle.std.specs.declared.option.Option.TheVariants.{None}
use Rattle.co_object.specs.declared.spec.LockUse.TheVariants.{Mtx}
use Rattle.co_object.specs.declared.op.PlainOp.TheVariants.{Reset, Stop}
use Rattle.co_object.specs.declared.op.CallOp.TheVariants.{Plain}
use Rattle.co_object.specs.declared.op.RunOp.TheVariants.{Pick, Begin, End}
use Rattle.co_object.specs.declared.op.Op.TheVariants.{Call, Run}
use Rattle.co_object.specs.declared.reply.Reply.TheVariants.{Armed, Stopped, Hold, Skip, Ended}
use Rattle.co_object.specs.declared.queue.QOp.TheVariants.{Insert, Scan, Pop, Free as FreeQ}
use Rattle.co_object.specs.declared.queue.QReply.TheVariants.{At, Count, Got, Empty, Freed}
use Rattle.co_object.specs.declared.note.Entry.{Entry}
use Rattle.co_object.specs.declared.note.QEntry.{QEntry}
use Rattle.co_object.specs.Actors.{Actors}
use Rattle.co_object.specs.History.{IsLegal}
use Rattle.co_object.specs.Journal.{IsLegalQueue}
use Rattle.co_object.specs.declared.note.Note.{Note}
use Rattle.co_object.specs.declared.note.Place.TheVariants as at
use Rattle.co_object.specs.declared.note.AnyEntry.TheVariants as of
use Rattle.co_object.specs.Lists.{callout_history, cpu_journal}
use Rattle.co_object.specs.Fate as fate

abbrev actors : Actors
actors = record { version = 1; clients = 1; cpus = 1 }

abbrev timer_0 : List Entry
timer_0 =
    (record { actor = 0; act = 1; op = Call (Plain (Reset 4294967296 0 0 0 None)); reply = Armed (pos 0) 0 0 None })
    ∷ (record { actor = 1; act = 0; op = Run (Pick 0 0 4294967296); reply = Hold })
    ∷ (record { actor = 0; act = 2; op = Call (Plain Stop); reply = Stopped (pos 1) None })
    ∷ (record { actor = 1; act = 0; op = Run (Begin 0 0); reply = Skip })
    ∷ (record { actor = 1; act = 0; op = Run (End 0 0); reply = Ended None None false })
    ∷ []

pub timer_0-legal : IsLegal actors (record { lock = Mtx 0; returns_unlocked = false; direct = false }) timer_0
timer_0-legal = ((refl, tt), ((refl, refl), ((refl, tt), ((refl, refl), ((refl, refl), tt)))))

abbrev wheel_0 : List QEntry
wheel_0 =
    (record { actor = 0; act = 1; op = Insert 0 0 4294967296; reply = At 4294967296 })
    ∷ (record { actor = 1; act = 0; op = Scan 4294967296; reply = Count 1 })
    ∷ (record { actor = 1; act = 0; op = Pop; reply = Got 0 0 4294967296 })
    ∷ (record { actor = 1; act = 0; op = FreeQ; reply = Freed })
    ∷ (record { actor = 1; act = 0; op = Pop; reply = Empty })
    ∷ []

pub wheel_0-legal : IsLegalQueue actors 0 256 (false ∷ []) wheel_0
wheel_0-legal = ((refl, tt), ((refl, refl), ((refl, refl), ((refl, refl), ((refl, refl), tt)))))

abbrev lists : List (List Note)
lists =
    ((record { place = at.Timer 0; pos = 0; entry = of.Timer (record { actor = 0; act = 1; op = Call (Plain (Reset 4294967296 0 0 0 None)); reply = Armed (pos 0) 0 0 None }) })
    ∷ (record { place = at.Cpu 0; pos = 0; entry = of.Cpu (record { actor = 0; act = 1; op = Insert 0 0 4294967296; reply = At 4294967296 }) })
    ∷ (record { place = at.Timer 0; pos = 2; entry = of.Timer (record { actor = 0; act = 2; op = Call (Plain Stop); reply = Stopped (pos 1) None }) })
    ∷ [])
    ∷
    ((record { place = at.Cpu 0; pos = 1; entry = of.Cpu (record { actor = 1; act = 0; op = Scan 4294967296; reply = Count 1 }) })
    ∷ (record { place = at.Cpu 0; pos = 2; entry = of.Cpu (record { actor = 1; act = 0; op = Pop; reply = Got 0 0 4294967296 }) })
    ∷ (record { place = at.Timer 0; pos = 1; entry = of.Timer (record { actor = 1; act = 0; op = Run (Pick 0 0 4294967296); reply = Hold }) })
    ∷ (record { place = at.Timer 0; pos = 3; entry = of.Timer (record { actor = 1; act = 0; op = Run (Begin 0 0); reply = Skip }) })
    ∷ (record { place = at.Timer 0; pos = 4; entry = of.Timer (record { actor = 1; act = 0; op = Run (End 0 0); reply = Ended None None false }) })
    ∷ (record { place = at.Cpu 0; pos = 3; entry = of.Cpu (record { actor = 1; act = 0; op = FreeQ; reply = Freed }) })
    ∷ (record { place = at.Cpu 0; pos = 4; entry = of.Cpu (record { actor = 1; act = 0; op = Pop; reply = Empty }) })
    ∷ [])
    ∷
    []

pub timer_0-history : callout_history 0 lists ≡ timer_0
timer_0-history = refl

pub wheel_0-history : cpu_journal 0 lists ≡ wheel_0
wheel_0-history = refl

pub timer_0-fate_0 : fate.fates (record { lock = Mtx 0; returns_unlocked = false; direct = false }) timer_0 0 ≡ fate.Stopped ∷ []
timer_0-fate_0 = refl
