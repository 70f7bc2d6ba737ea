-- The two ends of a call of the program, and what it may do to them. A source or a sink that tells no bytes tells nothing here
-- but its counts.
use Rattle.std.specs.Prelude.{◌≡◌, ℕ, ◌<◌, ◌⊎◌, Option, List, length}
use Rattle.std.specs.Io.KnownBytes.{Appends, Consumes, IsAtEnd}
use Rattle.co_io.specs.Counts.{Rose}
use Rattle.co_io.specs.Room.{IsTooSmallFor}
use Rattle.co_io.specs.Writing.{AppendsFront}

-- a source at one moment: what is left of its bytes, and how many reads failed
pub record Input : Type 0 where
  pub left : Option (List ℕ)
  pub faults : ℕ

-- a sink at one moment: what it holds and for how many more bytes it has room, where it tells them, how many writes failed, and how
-- many took nothing of what was not empty
pub record Output : Type 0 where
  pub held : Option (List ℕ)
  pub room : Option ℕ
  pub faults : ℕ
  pub idle : ℕ

-- both ends
pub record Outside : Type 0 where
  pub input : Input
  pub output : Output

abbrev pub outside : Option (List ℕ) → ℕ → Option (List ℕ) → Option ℕ → ℕ → ℕ → Outside
outside left read_faults held room write_faults idle = record {
  input = record { left = left; faults = read_faults };
  output = record { held = held; room = room; faults = write_faults; idle = idle };
}

module _ (before after : Input) where
  -- the source was read to its end, and these are the bytes that it had
  pub record ReadsToEnd (bytes : List ℕ) : Type 0 where
    pub read : Consumes before.left after.left bytes
    pub ended : IsAtEnd after.left

  -- these bytes were read, which are more than the limit
  pub record ReadsOver (limit : ℕ) (bytes : List ℕ) : Type 0 where
    pub read : Consumes before.left after.left bytes
    pub over : limit < length bytes

  -- all bytes of the source were read, or more than the limit
  abbrev pub Reads : ℕ → List ℕ → Type 0
  Reads limit bytes = ReadsToEnd bytes ⊎ ReadsOver limit bytes

  -- a read failed
  abbrev pub ReadFails : Type 0
  ReadFails = Rose before.faults after.faults

module _ (before after : Output) where
  -- the whole text was written
  abbrev pub Writes : List ℕ → Type 0
  Writes text = Appends before.held after.held text

  -- a write failed, or took nothing, and the room that the sink told was too small for the text
  abbrev pub WriteFails : List ℕ → Type 0
  WriteFails text = Rose before.faults after.faults ⊎ (Rose before.idle after.idle × IsTooSmallFor (length text) before.room)

  -- a write failed so, and no more than a proper front of the text was written
  pub record WritesFront (text : List ℕ) : Type 0 where
    pub front : AppendsFront before.held after.held text
    pub cause : WriteFails text

module _ {S : Type 0} where
  -- where this text is to be written for this status, the answer is that status, or the sink failed in the text
  abbrev pub Tells : (fault status : S) → List ℕ → Output → Output → S → Type 0
  Tells fault status text before after answer = ((answer ≡ status) × Writes before after text) ⊎ ((answer ≡ fault) × WritesFront before after text)
