-- What the one actor of a service sees: all that happens.
use Rattle.std.specs.Prelude.{◌≡◌, ℕ, List, [], ◌∷◌, ◌++◌, length, replicate, slice_set}
use Rattle.std.specs.List.{All, AllByRecursion}
use Rattle.co_object.specs.declared.note.Entry.{Entry}
use Rattle.co_object.specs.declared.note.QEntry.{QEntry}
use Rattle.co_object.specs.declared.note.AnyEntry.{AnyEntry}
use Rattle.co_object.specs.declared.note.AnyEntry.TheVariants as of
use Rattle.co_object.specs.declared.note.Place.{Place}
use Rattle.co_object.specs.declared.note.Place.TheVariants as at
use Rattle.co_object.specs.declared.op.RunOp.TheVariants.{Pick, End}
use Rattle.co_object.specs.declared.reply.Reply.{Reply}
use Rattle.co_object.specs.declared.queue.QOp.TheVariants.{Scan, Pop, Free}
use Rattle.co_object.specs.declared.queue.QReply.TheVariants.{Count, Got, Freed, Empty}
use Rattle.co_object.specs.Group.{Placed}
use Rattle.co_object.specs.Lists.{actor_of, act_of}
use Rattle.co_desk.specs.Call.{landing}
use Rattle.co_desk.specs.Outcomes.{queue_entry_by}
use Rattle.co_desk.specs.Services.{run_entry, next_target}
use Rattle.co_desk.specs.declared.params.Params.{Params}
use Rattle.co_desk.specs.Params.{no_spec}
use Rattle.co_desk.specs.Stories.{IsHistory, IsJournal}
use Rattle.co_desk.specs.Views.{PassesView, seen_of, journal_seen}

-- a service of version 1 with one CPU, no client and so many callouts without a lock
abbrev pub single_params : ℕ → Params
single_params n = record { version = 1; clients = 0; cpus = 1; buckets = 256; specs = replicate n no_spec }

-- one entry more, at its place
abbrev pub with_entry : PassesView → Place → AnyEntry → PassesView
with_entry p (at.Timer i) (of.Timer e) = record p { timers = slice_set p.timers i (seen_of p i ++ e ∷ []) }
with_entry p (at.Cpu cpu) (of.Cpu e) = record p { cpus = slice_set p.cpus cpu (journal_seen p cpu ++ e ∷ []) }
with_entry p _ _ = p

-- these entries more, and no others
abbrev pub with_entries : PassesView → List Placed → PassesView
with_entries p [] = p
with_entries p (n ∷ ns) = with_entries (with_entry p n.0 n.1) ns

-- this act of this actor made the entry
abbrev pub IsOfAct : (actor act : ℕ) → Placed → Type 0
IsOfAct actor act n = (actor_of n.1 ≡ actor) × (act_of n.1 ≡ act)

-- entries of this act of the caller more, and no others
pub record AddsEntries (p : PassesView) (act : ℕ) (q : PassesView) : Type 0 where
  pub entries : List Placed
  pub added : q ≡ with_entries p entries
  pub of_act : AllByRecursion (IsOfAct p.actor act) entries

-- each entry of these histories of callouts and of CPUs is of this actor
pub record AreOfActor (actor : ℕ) (Hs : List (List Entry)) (Js : List (List QEntry)) : Type 0 where
  pub timers : All (All (λ (e : Entry). e.actor ≡ actor)) Hs
  pub cpus : All (All (λ (e : QEntry). e.actor ≡ actor)) Js

-- what is seen of each callout and of the CPU is legal
pub record AreLegal (p : PassesView) : Type 0 where
  pub timers : (i : ℕ) → IsHistory p.params i (seen_of p i)
  pub cpus : (cpu : ℕ) → IsJournal p.params cpu (journal_seen p cpu)

-- the passes of the one actor of such a service
pub record AreSingle (n : ℕ) (p : PassesView) : Type 0 where
  pub params : p.params ≡ single_params n
  pub actor : p.actor ≡ 0
  pub timers : length p.timers ≡ n
  pub cpus : length p.cpus ≡ 1
  pub legal : AreLegal p

-- the CPU's entry of a scan
abbrev pub scan_entries : PassesView → (act now count : ℕ) → List Placed
scan_entries p act now count = (at.Cpu 0, of.Cpu (queue_entry_by p act (Scan now) (Count count))) ∷ []

-- nothing had come due
abbrev pub none_entries : PassesView → (act : ℕ) → List Placed
none_entries p act = (at.Cpu 0, of.Cpu (queue_entry_by p act Pop Empty)) ∷ []

-- callout i's arming n is taken into service
abbrev pub taken_entries : PassesView → (act i n time : ℕ) → Reply → List Placed
taken_entries p act i n time reply = (at.Cpu 0, of.Cpu (queue_entry_by p act Pop (Got i n time))) ∷ (at.Timer i, of.Timer (run_entry p act (Pick n 0 time) reply)) ∷ []

-- and its service is over. `later` is the answer to the Insert of what waited for it
abbrev pub ended_entries : PassesView → (act i n : ℕ) → Reply → (later : ℕ) → List Placed
ended_entries p act i n reply later = (at.Timer i, of.Timer (run_entry p act (End n 0) reply)) ∷ (at.Cpu 0, of.Cpu (queue_entry_by p act Free Freed)) ∷ landing p act i (next_target reply) later
