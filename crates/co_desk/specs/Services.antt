-- The services of a CPU, or of its interrupt where `direct`: what the caller's own entries say before, and what each section tells.
use Rattle.std.specs.Prelude.{◌≡◌, ◌≤◌, ℕ, true, Bool, List, [], ◌∷◌, ◌++◌, map, slice_set}
use Rattle.std.specs.declared.option.Option.{Option}
use Rattle.std.specs.declared.option.Option.TheVariants.{Some, None}
use Rattle.co_life.specs.Seen.{own}
use Rattle.co_object.specs.declared.note.Entry.{Entry}
use Rattle.co_object.specs.declared.note.QEntry.{QEntry}
use Rattle.co_object.specs.declared.note.Note.{Note}
use Rattle.co_object.specs.declared.note.Place.TheVariants as at
use Rattle.co_object.specs.declared.note.AnyEntry.TheVariants as of
use Rattle.co_object.specs.declared.op.Op.TheVariants.{Run}
use Rattle.co_object.specs.declared.op.RunOp.{RunOp}
use Rattle.co_object.specs.declared.op.RunOp.TheVariants.{Pick, Begin, End}
use Rattle.co_object.specs.declared.reply.Reply.{Reply}
use Rattle.co_object.specs.declared.reply.Reply.TheVariants.{Ended}
use Rattle.co_object.specs.declared.reply.Next.{Next}
use Rattle.co_object.specs.declared.queue.QReply.TheVariants.{Got, Freed, Empty as Nothing}
use Rattle.co_object.specs.Group.{placed}
use Rattle.co_object.specs.Queue.{Due}
use Rattle.co_wheel.specs.declared.outs.NextOut.{NextOut}
use Rattle.co_wheel.specs.declared.outs.NextOut.TheVariants as out
use Rattle.co_wheel.specs.Turns.{pop_of, free_of}
use Rattle.co_desk.specs.declared.outs.Taken.{Taken}
use Rattle.co_desk.specs.declared.outs.Taken.TheVariants.{Empty, Took}
use Rattle.co_desk.specs.declared.popped.Popped.{Popped}
use Rattle.co_desk.specs.declared.popped.Popped.TheVariants as popped
use Rattle.co_desk.specs.declared.outs.Made.{Made}
use Rattle.co_desk.specs.Books.{BooksView, entries_at, is_kept}
use Rattle.co_desk.specs.declared.told.Inserted.{Inserted}
use Rattle.co_desk.specs.Call.{Target, landing, noted_insert, notes_in}
use Rattle.co_desk.specs.Desk.{scans_in}
use Rattle.co_desk.specs.May.{MayHappen}
use Rattle.co_desk.specs.Outcomes.{noted_entry, noted_turn, queue_entry_by, IsTurn}
use Rattle.co_desk.specs.Params.{actors_of}
use Rattle.co_desk.specs.Serving.{ServiceStage, lane_actor, stage_picked, served_in, service_in}
use Rattle.co_desk.specs.Stories.{by, queue_by}
use Rattle.co_desk.specs.Views.{PassesView, journal_seen, seen_of}
use Rattle.co_desk.specs.Writes.{Writes}

-- what the caller has in service on a CPU, or as its interrupt where `direct`, by its own entries
abbrev pub service_of : Bool → PassesView → ℕ → Option Due
service_of direct p cpu = served_in direct (own queue_by p.actor (journal_seen p cpu))

-- how far its service of callout i is
abbrev pub far_of : PassesView → ℕ → ServiceStage
far_of p i = service_in (own by p.actor (seen_of p i))

-- the caller serves this lane of the CPU, and has nothing in service
pub record IsFree (direct : Bool) (p : PassesView) (cpu : ℕ) : Type 0 where
  pub actor : p.actor ≡ lane_actor direct (actors_of p.params) cpu
  pub free : service_of direct p cpu ≡ None

-- it has this arming in service, which is so far
pub record IsServing (direct : Bool) (p : PassesView) (cpu : ℕ) (d : Due) (far : ServiceStage) : Type 0 where
  pub actor : p.actor ≡ lane_actor direct (actors_of p.params) cpu
  pub serves : service_of direct p cpu ≡ Some d
  pub far_is : far_of p d.i ≡ far

-- the same actor's passes of the same service
pub record AreSame (p q : PassesView) : Type 0 where
  pub name : q.name ≡ p.name
  pub params : q.params ≡ p.params
  pub actor : q.actor ≡ p.actor

-- what the caller has in service after it asked for the next
abbrev pub HasNext : Bool → PassesView → ℕ → Taken → Type 0
HasNext direct q cpu (Empty note) = IsFree direct q cpu
HasNext direct q cpu (Took i n time reply pop pick) = IsServing direct q cpu (record { i = i; n = n }) (stage_picked n reply)

-- the entry of a service's operation
abbrev pub run_entry : PassesView → (act : ℕ) → RunOp → Reply → Entry
run_entry p act op reply = record { actor = p.actor; act = act; op = Run op; reply = reply }

-- nothing had come due
pub record IsNothing (direct : Bool) (p : PassesView) (cpu act : ℕ) (note : Note) (q : PassesView) : Type 0 where
  pub popped : IsTurn cpu (queue_entry_by p act (pop_of direct) Nothing) note
  pub written : Writes p (note ∷ []) q

-- an arming is taken into service, at the time of the last scan
pub record IsTaking (direct : Bool) (p : PassesView) (cpu act i n time : ℕ) (reply : Reply) (pop pick : Note) (q : PassesView) : Type 0 where
  pub popped : IsTurn cpu (queue_entry_by p act (pop_of direct) (Got i n time)) pop
  pub place : pick.place ≡ at.Timer i
  pub entry : pick.entry ≡ of.Timer (run_entry p act (Pick n cpu time) reply)
  pub written : Writes p (pop ∷ pick ∷ []) q

abbrev pub IsTaken : Bool → PassesView → (cpu act : ℕ) → Taken → PassesView → Type 0
IsTaken direct p cpu act (Empty note) q = IsNothing direct p cpu act note q
IsTaken direct p cpu act (Took i n time reply pop pick) q = IsTaking direct p cpu act i n time reply pop pick q

-- what was popped, with its notes
abbrev pub taken_of : Bool → (actor act cpu : ℕ) → Popped → Taken
taken_of direct actor act cpu (popped.Empty pop) = Empty (noted_turn actor act cpu (pop_of direct) Nothing pop)
taken_of direct actor act cpu (popped.Took i n time reply pop pick) =
    Took i n time reply (noted_turn actor act cpu (pop_of direct) (Got i n time) pop)
    (noted_entry i (record { actor = actor; act = act; op = Run (Pick n cpu time); reply = reply }) pick)

-- at least so many Scans stand before the journal's last entry
abbrev pub FollowsScans : ℕ → List QEntry → Type 0
FollowsScans scans J = (before : List QEntry) (e : QEntry) → J ≡ before ++ e ∷ [] → scans ≤ scans_in before

-- the entry of the queue for what a wheel took
abbrev pub pop_entry : Bool → PassesView → ℕ → NextOut → QEntry
pop_entry direct p act out.Empty = queue_entry_by p act (pop_of direct) Nothing
pop_entry direct p act (out.Took i n time reply) = queue_entry_by p act (pop_of direct) (Got i n time)

-- what a wheel took may be picked next in its callout's history
abbrev pub MayPick : BooksView → PassesView → ℕ → NextOut → Type 0
MayPick b p act out.Empty = Unit {0}
MayPick b p act (out.Took i n time reply) = (is_kept b i ≡ true) × MayHappen b i (run_entry p act (Pick n b.cpu time) reply)

-- the callouts' histories after that
abbrev pub picked_histories : BooksView → PassesView → ℕ → NextOut → List (Option (List Entry))
picked_histories b p act out.Empty = b.timers
picked_histories b p act (out.Took i n time reply) = slice_set b.timers i (Some (entries_at b i ++ run_entry p act (Pick n b.cpu time) reply ∷ []))

-- the function of the arming in service is to run, or is skipped
pub record IsBegun (p : PassesView) (cpu act : ℕ) (d : Due) (out : Made) (q : PassesView) : Type 0 where
  pub notes_are : map placed (notes_in out.notes) ≡ (at.Timer d.i, of.Timer (run_entry p act (Begin d.n cpu) out.reply)) ∷ []
  pub written : Writes p (notes_in out.notes) q

abbrev pub target_of_next : Option Next → Option Target
target_of_next None = None
target_of_next (Some n) = Some (record { cpu = n.cpu; n = n.n; due = n.due })

-- where an arming goes that waited for the end
abbrev pub next_target : Reply → Option Target
next_target (Ended drain next woke) = target_of_next next
next_target _ = None

-- the number and the due time of that arming
abbrev pub next_number : Reply → ℕ
next_number (Ended drain (Some n) woke) = n.n
next_number _ = 0

abbrev pub next_due : Reply → ℕ
next_due (Ended drain (Some n) woke) = n.due
next_due _ = 0

-- the service is over: the notes, but for the Insert of what leaves
pub record IsEndedBut (direct : Bool) (p : PassesView) (cpu act : ℕ) (d : Due) (reply : Reply) (leaves : Option Target) (notes : List Note) (q : PassesView) : Type 0 where
  pub leaves_is : leaves ≡ next_target reply
  pub notes_are : map placed notes ≡ (at.Timer d.i, of.Timer (run_entry p act (End d.n cpu) reply)) ∷ (at.Cpu cpu, of.Cpu (queue_entry_by p act (free_of direct) Freed)) ∷ []
  pub written : Writes p notes q

-- the same with the Insert of what leaves. `time` is the answer to it
pub record IsEnded (direct : Bool) (p : PassesView) (cpu act : ℕ) (d : Due) (reply : Reply) (notes : List Note) (q : PassesView) : Type 0 where
  pub time : ℕ
  pub notes_are : map placed notes ≡ (at.Timer d.i, of.Timer (run_entry p act (End d.n cpu) reply)) ∷ (at.Cpu cpu, of.Cpu (queue_entry_by p act (free_of direct) Freed)) ∷ landing p act d.i (next_target reply) time
  pub written : Writes p notes q

-- callout i has come to its target's queue
pub record IsLanded (p : PassesView) (act i : ℕ) (t : Target) (x : Inserted) (q : PassesView) : Type 0 where
  pub cpu : x.cpu ≡ t.cpu
  pub number : x.n ≡ t.n
  pub due_is : x.due ≡ t.due
  pub written : Writes p (noted_insert p.actor act i x ∷ []) q
