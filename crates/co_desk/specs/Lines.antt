-- A shared history: its opening entries, and the entries that calls made.
use Rattle.std.specs.Prelude.{◌≡◌, ℕ, ◌+◌, List, [], ◌∷◌, Option, Some, None}
use Rattle.co_desk.specs.declared.params.Params.{Params}
use Rattle.co_desk.specs.declared.line.Line.{Line}
use Rattle.co_desk.specs.declared.line.Line.TheVariants.{Opening, Made}

module _ {E : Type 0} where
  abbrev pub actor_in : (E → ℕ) → Line E → ℕ
  actor_in by (Opening actor place params) = actor
  actor_in by (Made e) = by e

  -- the entries that aren't opening entries
  abbrev pub made : List (Line E) → List E
  made [] = []
  made (Opening actor place params ∷ es) = made es
  made (Made e ∷ es) = e ∷ made es

  -- how many opening entries there are
  abbrev pub openings : List (Line E) → ℕ
  openings [] = 0
  openings (Opening actor place params ∷ es) = openings es + 1
  openings (Made e ∷ es) = openings es

  -- the service and the place, by the first entry
  abbrev pub opening_of : List (Line E) → Option (Params × ℕ)
  opening_of [] = None
  opening_of (Opening actor place params ∷ es) = Some (params.value, place)
  opening_of (Made e ∷ es) = None

  -- each opening entry carries this service and this place
  abbrev pub AllCarry : Params → ℕ → List (Line E) → Type 0
  AllCarry p i [] = Unit {0}
  AllCarry p i (Opening actor place params ∷ es) = (params.value ≡ p) × (place ≡ i) × AllCarry p i es
  AllCarry p i (Made e ∷ es) = AllCarry p i es

  -- all opening entries carry one service and one place, and the entries after them are legal there
  pub record IsStory (Legal : Params → ℕ → List E → Type 0) (h : List (Line E)) : Type 0 where
    pub params : Params
    pub place : ℕ
    pub carry : AllCarry params place h
    pub legal : Legal params place (made h)
