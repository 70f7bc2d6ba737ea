-- What may stand next in the histories at a desk.
use Rattle.co_object.specs.declared.note.Entry.{Entry}
use Rattle.co_object.specs.declared.note.QEntry.{QEntry}
use Rattle.co_object.specs.History.{May, state}
use Rattle.co_object.specs.declared.state.State.{State}
use Rattle.co_object.specs.Journal as journal
use Rattle.co_object.specs.Queue.{Queue}
use Rattle.std.specs.Prelude.{ℕ}
use Rattle.co_desk.specs.Params.{actors_of, spec_at, directs}
use Rattle.co_desk.specs.Books.{BooksView, entries_at}

-- the plain queue after the journal
abbrev pub queue_at_desk : BooksView → Queue
queue_at_desk b = journal.queue b.params.buckets (directs b.params) b.journal

-- the state of callout i after its history
abbrev pub state_at : BooksView → ℕ → State
state_at b i = state (spec_at b.params i) (entries_at b i)

pub record MayEnter (b : BooksView) (e : QEntry) : Type 0 where
  pub may : journal.May (actors_of b.params) b.cpu b.params.buckets (directs b.params) (queue_at_desk b) e

pub record MayHappen (b : BooksView) (i : ℕ) (e : Entry) : Type 0 where
  pub may : May (actors_of b.params) (spec_at b.params i) (state_at b i) e
