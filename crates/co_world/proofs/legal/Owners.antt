-- Each entry is its actor's, and no Remove is answered Missing.
use Rattle.std.proofs.Common.{◌≡◌, ℕ, Bool, false, List, [], ◌∷◌, ◌++◌}
use Rattle.std.specs.List.{AllByRecursion}
use Rattle.co_object.specs.declared.State.{State}
use Rattle.co_object.specs.declared.QOp.{QOp}
use Rattle.co_object.specs.declared.QReply.TheVariants.{Missing}
use Rattle.co_object.specs.declared.Entry.{Entry}
use Rattle.co_object.specs.declared.QEntry.{QEntry}
use Rattle.co_object.specs.declared.Note.{Note}
use Rattle.co_object.specs.declared.QOp.TheVariants.{Insert, Remove, Scan, Pop, Free, PopDirect, FreeDirect}
use Rattle.co_object.specs.History.{IsOfItsActor}
use Rattle.co_object.specs.Journal as journal
use Rattle.co_object.specs.Queue.{Queue as TimerQueue}
use Rattle.co_program.specs.declared.Script.{Script}
use Rattle.co_program.specs.Cursor.{Cursor}
use Rattle.co_program.specs.Action.{spec_at}
use Rattle.co_world.specs.World.{World, Timer, Cpu, open_world, with_cursor}
use Rattle.co_world.specs.Step.{notes_down, enters, enters_journal, landed}
use Rattle.co_world.specs.Laws.{actors_of}
use Rattle.co_world.proofs.basics.Updates.{at_updated}

abbrev pub IsOwn : Script → ℕ → Entry → Type 0
IsOwn s i e = IsOfItsActor (actors_of s) (spec_at s i) e.actor e.op

abbrev pub IsOwnOf : Script → ℕ → QEntry → Type 0
IsOwnOf s cpu e = journal.IsOfItsActor (actors_of s) cpu e.actor e.op × (e.reply ≡ Missing → ⊥)

pub record IsOwned (s : Script) (w : World) : Type 0 where
  pub timers : (i : ℕ) → AllByRecursion (IsOwn s i) (w.timers i).history
  pub cpus : (cpu : ℕ) → AllByRecursion (IsOwnOf s cpu) (w.cpus cpu).journal

all_more : {X : Type 0} (P : X → Type 0) (xs : List X) (x : X) → AllByRecursion P xs → P x → AllByRecursion P (xs ++ x ∷ [])
all_more P [] x h p = (p, tt)
all_more P (y ∷ xs) x h p = (h.0, all_more P xs x h.1 p)

pub owned_callout : (s : Script) (w : World) (i a : ℕ) (t : State) (made : Entry) (listed : Bool) (note : Note) → IsOwned s w → IsOwn s i made → IsOwned s (notes_down s (enters w i t made) a listed note)
owned_callout s w i a t made listed note owned own = record {
  timers = λ j. at_updated (λ k (x : Timer). AllByRecursion (IsOwn s k) x.history) w.timers i (record (w.timers i) { state = t; history = (w.timers i).history ++ made ∷ [] }) j (all_more (IsOwn s i) (w.timers i).history made (owned.timers i) own) (owned.timers j);
  cpus = owned.cpus;
}

landed_owned : (s : Script) (w : World) (cpu : ℕ) (op : QOp) → ((i : ℕ) → AllByRecursion (IsOwn s i) (w.timers i).history) → (j : ℕ) → AllByRecursion (IsOwn s j) ((landed w cpu op) j).history
landed_owned s w cpu (Insert i n t) h j = at_updated (λ k (x : Timer). AllByRecursion (IsOwn s k) x.history) w.timers i (record (w.timers i) { stand = cpu }) j (h i) (h j)
landed_owned s w cpu (Remove i) h j = h j
landed_owned s w cpu (Scan now) h j = h j
landed_owned s w cpu Pop h j = h j
landed_owned s w cpu Free h j = h j
landed_owned s w cpu PopDirect h j = h j
landed_owned s w cpu FreeDirect h j = h j

pub owned_queue : (s : Script) (w : World) (cpu a : ℕ) (q : TimerQueue) (made : QEntry) (note : Note) → IsOwned s w → IsOwnOf s cpu made → IsOwned s (notes_down s (enters_journal w cpu q made) a false note)
owned_queue s w cpu a q made note owned own = record {
  timers = landed_owned s w cpu made.op owned.timers;
  cpus = λ j. at_updated (λ k (x : Cpu). AllByRecursion (IsOwnOf s k) x.journal) w.cpus cpu (record { queue = q; journal = (w.cpus cpu).journal ++ made ∷ [] }) j (all_more (IsOwnOf s cpu) (w.cpus cpu).journal made (owned.cpus cpu) own) (owned.cpus j);
}

pub owned_own : (s : Script) (w : World) (a : ℕ) (note : Note) → IsOwned s w → IsOwned s (notes_down s w a false note)
owned_own s w a note owned = record { timers = owned.timers; cpus = owned.cpus }

pub owned_place : (s : Script) (w : World) (a : ℕ) (to : Cursor) → IsOwned s w → IsOwned s (with_cursor w a to)
owned_place s w a to owned = record { timers = owned.timers; cpus = owned.cpus }

pub owned_open : (s : Script) → IsOwned s (open_world s)
owned_open s = record { timers = λ i. tt; cpus = λ cpu. tt }
