-- What their types say of the values of notes.
use Rattle.std.specs.Prelude.{◌^◌, ◌<◌, List, length}
use Rattle.std.specs.List.{AllByRecursion}
use Rattle.co_object.specs.declared.Note.{Note}
pub use Rattle.co_packed.specs.Typed.{OpTyped, ReplyTyped, QueueTyped, AnswerTyped, EntryTyped}

-- of an actor's notes, and of all
pub record NotesTyped (notes : List Note) : Type 0 where
  pub entries : AllByRecursion (λ note. EntryTyped note.entry) notes
  pub short : length notes < 2 ^ 64

abbrev pub ListsTyped : List (List Note) → Type 0
ListsTyped lists = AllByRecursion NotesTyped lists
