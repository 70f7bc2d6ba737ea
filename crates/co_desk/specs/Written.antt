-- What is written at a desk: the books after it, and the passes of the actor that wrote.
use Rattle.std.specs.Prelude.{◌≡◌, ℕ, Bool, true, List, [], ◌∷◌, ◌++◌, map, is_some}
use Rattle.std.specs.declared.option.Option.{Option}
use Rattle.std.specs.declared.option.Option.TheVariants.{Some, None}
use Rattle.co_object.specs.declared.note.Entry.{Entry}
use Rattle.co_object.specs.declared.note.QEntry.{QEntry}
use Rattle.co_object.specs.declared.op.CallOp.{CallOp}
use Rattle.co_object.specs.Callout.{call}
use Rattle.co_object.specs.Group.{off_of, placed}
use Rattle.co_wheel.specs.declared.outs.CallOut.{CallOut}
use Rattle.co_wheel.specs.declared.outs.NextOut.{NextOut}
use Rattle.co_wheel.specs.Cpu.{Cpu}
use Rattle.co_wheel.specs.Turns.{Turn, removal}
use Rattle.co_desk.specs.declared.popped.Popped.{Popped}
use Rattle.co_desk.specs.declared.told.Inserted.{Inserted}
use Rattle.co_desk.specs.declared.told.Told.{Told}
use Rattle.co_desk.specs.Books.{BooksView, entries_at, is_kept, with_history}
use Rattle.co_desk.specs.Call.{call_entry, call_turns, insert_turns, insertion_notes, insertion_told, removal_told, section_notes, told_notes}
use Rattle.co_desk.specs.Desk.{Owes, scans_in}
use Rattle.co_desk.specs.Kinds.{cpu_kind, timer_kind}
use Rattle.co_desk.specs.May.{state_at}
use Rattle.co_desk.specs.Name.{ServiceName}
use Rattle.co_desk.specs.Seats.{IsShown}
use Rattle.co_desk.specs.Services.{IsTaken, picked_histories, pop_entry, taken_of}
use Rattle.co_desk.specs.Stories.{IsHistory, IsJournal, by, queue_by}
use Rattle.co_desk.specs.Views.{PassesView, journal_seen, seen_of}
use Rattle.co_desk.specs.Writes.{Writes, WritesEntry}

-- the places and an actor's passes are of this service
pub record AreHere (service places : ServiceName) (p : PassesView) : Type 0 where
  pub places_are : places ≡ service
  pub passes_are : p.name ≡ service

-- the books are of their service's parameters too, so the actor may write in them
pub record AreTogether (service places : ServiceName) (p : PassesView) (b : BooksView) : Type 0 where
  pub here : AreHere service places p
  pub params_are : b.params ≡ p.params

-- the actor's pass of the desk's CPU was compared with the journal
pub record HasMet (p : PassesView) (b : BooksView) (q : PassesView) (b' : BooksView) : Type 0 where
  -- nothing has changed
  pub kept : b' ≡ b
  pub passes : q ≡ p
  -- a journal says of which parameters it is
  pub params : b.params ≡ p.params
  -- what the actor had seen begins the journal, which has no more entries of it
  pub shown : IsShown queue_by p.actor b.journal (journal_seen p b.cpu)
  pub legal : IsJournal b.params b.cpu b.journal

-- the same of its pass of callout i, which stands there
pub record HasMetTimer (p : PassesView) (b : BooksView) (i : ℕ) (q : PassesView) (b' : BooksView) : Type 0 where
  pub kept : b' ≡ b
  pub passes : q ≡ p
  pub shown : IsShown by p.actor (entries_at b i) (seen_of p i)
  pub legal : IsHistory b.params i (entries_at b i)

-- an entry is written in the journal
pub record IsTurnWritten (p : PassesView) (b : BooksView) (e : QEntry) (pos : ℕ) (q : PassesView) (b' : BooksView) : Type 0 where
  -- it stands at the end, and nothing else in the books changes
  pub books : b' ≡ record b { journal = b.journal ++ e ∷ [] }
  pub written : WritesEntry cpu_kind p b.cpu e pos b'.journal q
  -- the queue still owes what was to come after it
  pub goes_on : (turns : List Turn) (w : Cpu) → Owes ((e.op, e.reply) ∷ turns) w b → Owes turns w b'

-- an entry is written in the history of callout i
pub record IsEntryWritten (p : PassesView) (b : BooksView) (i : ℕ) (e : Entry) (pos : ℕ) (q : PassesView) (b' : BooksView) : Type 0 where
  pub books : b' ≡ with_history b i (Some (entries_at b i ++ e ∷ []))
  pub written : WritesEntry timer_kind p i e pos (entries_at b i ++ e ∷ []) q

-- what a wheel answered to a call on callout i is what may be written now
pub record MayAnswer (b : BooksView) (i : ℕ) (op : CallOp) (out : CallOut) : Type 0 where
  pub here : is_kept b i ≡ true
  pub reply : out.reply ≡ (call (state_at b i) op).1
  -- where the call took an arming out of a queue, it was this CPU's
  pub removed : out.removed ≡ is_some (off_of out.reply)
  pub off : (x : ℕ) → off_of out.reply ≡ Some x → x ≡ b.cpu
  -- the queue after the journal does what the wheel did
  pub owes : (w : Cpu) × Owes (call_turns i op out.reply out.inserted) w b

-- where a call took an arming out of the queue, the Remove is written
pub record IsRemovalWritten (p : PassesView) (b : BooksView) (act i : ℕ) (off : Option ℕ) (pos : ℕ) (q : PassesView) (b' : BooksView) : Type 0 where
  -- the journal alone changes, and has no more Scans
  pub books : b' ≡ record b { journal = b'.journal }
  pub scans : scans_in b'.journal ≡ scans_in b.journal
  -- so do the passes of the CPUs alone
  pub written : Writes p (removal_told p.actor act i off pos) q
  pub timers : q.timers ≡ p.timers
  -- the queue still owes what was to come after it
  pub goes_on : (turns : List Turn) (w : Cpu) → Owes (removal i off ++ turns) w b → Owes turns w b'

-- where the queue has an accepted arming, the Insert is written
pub record IsInsertionWritten (p : PassesView) (b : BooksView) (act i n due : ℕ) (inserted : Option ℕ) (out : Option Inserted) (q : PassesView) (b' : BooksView) : Type 0 where
  -- the journal alone changes, and has no more Scans
  pub books : b' ≡ record b { journal = b'.journal }
  pub scans : scans_in b'.journal ≡ scans_in b.journal
  -- so do the passes of the CPUs alone
  pub written : Writes p (insertion_told p.actor act i out) q
  pub timers : q.timers ≡ p.timers
  -- what is told of it
  pub none : inserted ≡ None → out ≡ None
  pub placed : map placed (insertion_told p.actor act i out) ≡ insertion_notes p act b.cpu i n due inserted
  -- the queue owes nothing then
  pub goes_on : (w : Cpu) → Owes (insert_turns i n due inserted) w b → Owes [] w b'

-- what a call did is written, entry after entry
pub record IsGroupWritten (p : PassesView) (b : BooksView) (act i : ℕ) (op : CallOp) (told told' : Told) (q : PassesView) (b' : BooksView) : Type 0 where
  -- what the wheel answered stays
  pub out : told'.out ≡ told.out
  -- the callout's history has the call's entry, and the journal alone changes beside it, with no more Scans
  pub books : b' ≡ record (with_history b i (Some (entries_at b i ++ call_entry p act op told.out.reply ∷ []))) { journal = b'.journal }
  pub scans : scans_in b'.journal ≡ scans_in b.journal
  -- the notes of what was told, and where they stand
  pub written : Writes p (told_notes p.actor act i op told') q
  pub placed : map placed (told_notes p.actor act i op told') ≡ section_notes p act b.cpu i op told.out.reply told.out.inserted
  pub seen : seen_of q i ≡ entries_at b i ++ call_entry p act op told.out.reply ∷ []
  -- where nothing was put into the queue here, an Insert may still come
  pub room : told.out.inserted ≡ None → told'.insertion ≡ None
  -- the queue owes nothing then
  pub goes_on : (w : Cpu) → Owes (call_turns i op told.out.reply told.out.inserted) w b → Owes [] w b'

-- what a wheel took into service is written: the Pop, and the Pick of an arming
pub record IsTakingWritten (direct : Bool) (p : PassesView) (b : BooksView) (act : ℕ) (out : NextOut) (popped : Popped) (q : PassesView) (b' : BooksView) : Type 0 where
  pub books : b' ≡ record b { timers = picked_histories b p act out; journal = b.journal ++ pop_entry direct p act out ∷ [] }
  pub told : IsTaken direct p b.cpu act (taken_of direct p.actor act b.cpu popped) q
  pub seen : journal_seen q b.cpu ≡ b'.journal
