-- One note more: what that adds to the list of an actor, and to the notes of a place.
use Rattle.std.proofs.Common.{◌≡◌, ℕ, ◌==◌, Bool, true, false, cond, List, [], ◌∷◌, ◌++◌, map, ap, ◌∙◌}
use Rattle.std.specs.List.{filter}
use Rattle.std.proofs.lemmas.List.{map-append}
use Rattle.std.proofs.lemmas.List.Elements.{filter-append}
use Rattle.co_object.specs.declared.note.Note.{Note}
use Rattle.co_object.specs.declared.note.Place.{Place}
use Rattle.co_object.specs.Lists.{notes_of, same_place}
use Rattle.co_listener.specs.MadeNotes.{MadeNote, list_by, made_in, notes_made}

abbrev pub one : ℕ → Note → MadeNote
one a note = record { actor = a; note = note }

-- of the list of actor b, where the note is actor a's
pub list_more : (made : List MadeNote) (a : ℕ) (note : Note) (b : ℕ) (is : Bool) → (a == b) ≡ is → list_by (made ++ one a note ∷ []) b ≡ list_by made b ++ cond is (note ∷ []) []
list_more made a note b is h =
    ap (map (λ (m : MadeNote). m.note)) (filter-append (λ (m : MadeNote). m.actor == b) made (one a note ∷ []) ∙ ap (λ (c : Bool). filter (λ (m : MadeNote). m.actor == b) made ++ cond c (one a note ∷ []) []) h)
    ∙ go is where
      go : (c : Bool) → map (λ (m : MadeNote). m.note) (filter (λ (m : MadeNote). m.actor == b) made ++ cond c (one a note ∷ []) []) ≡ list_by made b ++ cond c (note ∷ []) []
      go true = map-append (λ (m : MadeNote). m.note) (filter (λ (m : MadeNote). m.actor == b) made) (one a note ∷ [])
      go false = map-append (λ (m : MadeNote). m.note) (filter (λ (m : MadeNote). m.actor == b) made) []

-- of the notes of a place, where the note is in this one or in another
pub place_more : (made : List MadeNote) (a : ℕ) (note : Note) (here : Place) (is : Bool) → same_place note.place here ≡ is → made_in (made ++ one a note ∷ []) here ≡ made_in made here ++ cond is (note ∷ []) []
place_more made a note here is h =
    ap (notes_of here) (map-append (λ (m : MadeNote). m.note) made (one a note ∷ []))
    ∙ filter-append (λ (n : Note). same_place n.place here) (notes_made made) (note ∷ [])
    ∙ ap (λ (c : Bool). made_in made here ++ cond c (note ∷ []) []) h
