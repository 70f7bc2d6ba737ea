-- What stands at the front of a text, seen without a look at the parts behind it.
use Rattle.std.specs.Prelude.{ℕ, Bool, not, List, [], ◌∷◌, ◌++◌, ◌&&◌, ◌||◌, ◌==◌, Option, Some, None, if◌then◌else◌, decimal}
use Rattle.co_text.specs.Values.{Word}
use Rattle.co_notes.specs.Parts.{is_space, parts}
use Rattle.co_notes.specs.declared.reading.plain.ActorAct.{ActorAct}

-- the parts behind a part that ends here
abbrev pub behind_end : List ℕ → Option (List Word)
behind_end [] = Some []
behind_end (c ∷ text) = if is_space c then Some (parts text) else None

-- the parts behind this word, where it is the first part
abbrev pub behind_word : Word → List ℕ → Option (List Word)
behind_word [] text = behind_end text
behind_word (c ∷ w) [] = None
behind_word (c ∷ w) (d ∷ text) = if (c == d) && not (is_space c) then behind_word w text else None

-- `c`, `p` or `h`
abbrev pub is_actor_letter : ℕ → Bool
is_actor_letter c = (c == 99) || (c == 112) || (c == 104)

-- `A/M`
abbrev pub by_word : ActorAct → Word
by_word b = b.letter ∷ (decimal b.number ++ 47 ∷ decimal b.act)
