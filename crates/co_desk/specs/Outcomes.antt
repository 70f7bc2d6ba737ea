-- What each section tells the caller, by its passes before and after.
use Rattle.std.specs.Prelude.{◌≡◌, ℕ, max, List, [], ◌∷◌, ◌++◌, length, map}
use Rattle.co_object.specs.declared.note.Entry.{Entry}
use Rattle.co_object.specs.declared.note.QEntry.{QEntry}
use Rattle.co_object.specs.declared.note.Note.{Note}
use Rattle.co_object.specs.declared.note.Place.TheVariants as at
use Rattle.co_object.specs.declared.note.AnyEntry.TheVariants as of
use Rattle.co_object.specs.declared.queue.QOp.{QOp}
use Rattle.co_object.specs.declared.queue.QOp.TheVariants.{Scan}
use Rattle.co_object.specs.declared.queue.QReply.{QReply}
use Rattle.co_object.specs.declared.queue.QReply.TheVariants.{Count}
use Rattle.co_object.specs.Queue.{Queue}
use Rattle.co_object.specs.Journal.{queue}
use Rattle.co_queue.specs.StandsFor.{timed}
use Rattle.co_bucket.specs.Visits.{visited}
use Rattle.co_desk.specs.declared.outs.Scanned.{Scanned}
use Rattle.co_desk.specs.Params.{directs}
use Rattle.co_desk.specs.Views.{PassesView, journal_seen}
use Rattle.co_desk.specs.Writes.{Writes}

-- an actor's entry in a CPU's journal
abbrev pub queue_entry_by : PassesView → ℕ → QOp → QReply → QEntry
queue_entry_by p act op reply = record { actor = p.actor; act = act; op = op; reply = reply }

-- the note of an entry in the journal of this CPU
abbrev pub noted_turn : (actor act cpu : ℕ) → QOp → QReply → (pos : ℕ) → Note
noted_turn actor act cpu op reply pos = record { place = at.Cpu cpu; pos = pos; entry = of.Cpu (record { actor = actor; act = act; op = op; reply = reply }) }

-- the note of an entry in callout i's history
abbrev pub noted_entry : ℕ → Entry → (pos : ℕ) → Note
noted_entry i e pos = record { place = at.Timer i; pos = pos; entry = of.Timer e }

-- the note is of this entry in the journal of this CPU
pub record IsTurn (cpu : ℕ) (e : QEntry) (note : Note) : Type 0 where
  pub place : note.place ≡ at.Cpu cpu
  pub entry : note.entry ≡ of.Cpu e

-- how many entries of a plain queue a scan looks at: those in the visited buckets
abbrev pub looks_in : ℕ → Queue → ℕ → ℕ
looks_in m q now = length (visited m q.last (max q.last now) (map timed q.content))

-- a scan of a CPU
pub record IsScan (p : PassesView) (cpu act now : ℕ) (out : Scanned) (q : PassesView) : Type 0 where
  pub note : IsTurn cpu (queue_entry_by p act (Scan now) (Count out.count)) out.note
  pub written : Writes p (out.note ∷ []) q
  -- it looks at what stands in the visited buckets after the journal before it
  pub looks : (before : List QEntry) → journal_seen q cpu ≡ before ++ queue_entry_by p act (Scan now) (Count out.count) ∷ [] → out.looks ≡ looks_in p.params.buckets (queue p.params.buckets (directs p.params) before) now
