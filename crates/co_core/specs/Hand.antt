-- An actor's notes in hand, while it steps.
use Rattle.std.specs.Prelude.{◌≡◌, ℕ, List, [], get_or, set}
use Rattle.co_object.specs.declared.note.Note.{Note}

-- an actor's notes, and for how many more there is room
pub record NotesInHand : Type 0 where
  pub actor : ℕ
  pub notes : List Note
  pub left : ℕ

-- the actor's notes have been taken out of the lists, with room for those of a step
pub record IsTakenOut (before : List (List Note)) (a : ℕ) (after : List (List Note)) (hand : NotesInHand) : Type 0 where
  pub actor : hand.actor ≡ a
  pub notes : hand.notes ≡ get_or before a []
  pub room : hand.left ≡ 3
  pub out : after ≡ set before a []
