-- What a desk's books hold: the journal of its CPU, and the histories of the callouts that stand there.
use Rattle.std.specs.Prelude.{◌≡◌, ℕ, Bool, List, [], map, is_some, slice_index_or, slice_set}
use Rattle.std.specs.declared.option.Option.{Option}
use Rattle.std.specs.declared.option.Option.TheVariants.{Some, None}
use Rattle.co_life.specs.Identity.{LifeId}
use Rattle.co_life.specs.Views.{KeeperView}
use Rattle.co_object.specs.declared.note.Entry.{Entry}
use Rattle.co_object.specs.declared.note.QEntry.{QEntry}
use Rattle.co_desk.specs.declared.params.Params.{Params}
use Rattle.co_desk.specs.declared.line.Line.{Line}
use Rattle.co_desk.specs.Name.{ServiceName}
use Rattle.co_desk.specs.Lines.{made}
use Rattle.co_desk.specs.Stories.{IsHistory, IsJournal}
use Rattle.co_desk.specs.Views.{IsKeeperOf}

pub record BooksView : Type 0 where
  pub params : Params
  pub cpu : ℕ
  -- by number: the history of each callout that stands here
  pub timers : List (Option (List Entry))
  pub journal : List QEntry

abbrev pub history_at : BooksView → ℕ → Option (List Entry)
history_at b i = slice_index_or b.timers i None

abbrev pub entries_in : Option (List Entry) → List Entry
entries_in None = []
entries_in (Some H) = H

-- the history of callout i, which stands here
abbrev pub entries_at : BooksView → ℕ → List Entry
entries_at b i = entries_in (history_at b i)

abbrev pub is_kept : BooksView → ℕ → Bool
is_kept b i = is_some (history_at b i)

abbrev pub with_history : BooksView → ℕ → Option (List Entry) → BooksView
with_history b i o = record b { timers = slice_set b.timers i o }

abbrev pub kept_of : Option (KeeperView (Line Entry)) → Option (List Entry)
kept_of None = None
kept_of (Some k) = Some (made k.history)

abbrev pub books_of : Params → ℕ → List (Option (KeeperView (Line Entry))) → KeeperView (Line QEntry) → BooksView
books_of params cpu keepers journal = record { params = params; cpu = cpu; timers = map kept_of keepers; journal = made journal.history }

abbrev pub IsHistoryKept : List LifeId → Params → ℕ → Option (KeeperView (Line Entry)) → Type 0
IsHistoryKept lives p i None = Unit {0}
IsHistoryKept lives p i (Some k) = IsKeeperOf IsHistory lives p i k

-- the keepers are of this service
pub record AreBooks (name : ServiceName) (params : Params) (cpu : ℕ) (keepers : List (Option (KeeperView (Line Entry)))) (journal : KeeperView (Line QEntry)) : Type 0 where
  pub own : IsKeeperOf IsJournal name.cpus params cpu journal
  pub each : (i : ℕ) → IsHistoryKept name.timers params i (slice_index_or keepers i None)

-- the keeper of callout i is taken out of the books
pub record IsTakenOut (name : ServiceName) (b : BooksView) (i : ℕ) (k : KeeperView (Line Entry)) (b' : BooksView) : Type 0 where
  pub keeper : IsKeeperOf IsHistory name.timers b.params i k
  pub history : history_at b i ≡ Some (made k.history)
  pub books : b' ≡ with_history b i None
