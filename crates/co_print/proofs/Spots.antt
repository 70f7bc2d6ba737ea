-- A spot that was written down is that of a note of the lists.
use Rattle.std.proofs.Common.{◌≡◌, ℕ, zero, suc, ◌+◌, ◌-◌, ◌<◌, ◌^◌, List, [], ◌∷◌, map, length, get_or, refl, ap, sym, subst, ◌∙◌, arith}
use Rattle.std.specs.Prelude.{Some, option_and_then, slice_get}
use Rattle.std.proofs.lemmas.List.{length-map}
use Rattle.std.proofs.lemmas.Option.{slice_get-get_or, slice_get_read}
use Rattle.co_object.specs.declared.Note.{Note}
use Rattle.co_program.specs.declared.Script.{Script}
use Rattle.co_print.specs.declared.order.Spot.{Spot}
use Rattle.co_print.specs.Origins.{note_at}
use Rattle.co_print.specs.declared.origin.Origin.{Origin}
use Rattle.co_print.specs.Order.{place_index, spot_of, IsOfPart, location, HasRoomForOrigins, AreWritten}
use Rattle.co_print.proofs.Written.{with_at, one-passed, one-written}

-- what an item at an index was made of
pub record MadeOf {A B : Type 0} (f : A → B) (xs : List A) (i : ℕ) (y : B) : Type 0 where
  pub item : A
  pub at : slice_get xs i ≡ Some item
  pub is : y ≡ f item

made-of : {A B : Type 0} (f : A → B) (xs : List A) (i : ℕ) (y : B) → slice_get (map f xs) i ≡ Some y → MadeOf f xs i y
made-of f [] i y at = cc
made-of f (x ∷ xs) zero y at = record { item = x; at = refl; is = cc }
made-of f (x ∷ xs) (suc i) y at = let of = made-of f xs i y at in record { item = of.item; at = of.at; is = of.is }

module _ (s : Script) (lists : List (List Note)) (a : ℕ) where
  -- the spots of an actor are those of its notes
  pub row-of : (spots : List (List Spot)) (row : List Spot) → spots ≡ map (map (spot_of s)) lists → a < length lists → row ≡ get_or spots a row
      → MadeOf (map (spot_of s)) lists a row
  row-of spots row are inside is =
      let many : length spots ≡ length lists = ap length are ∙ length-map lists (map (spot_of s)) in
      made-of (map (spot_of s)) lists a row
      (subst (λ rows. slice_get rows a ≡ Some row) are (slice_get_read spots (length spots) a row refl (omega arith) is))

  -- the note whose spot stands at an index
  pub record NoteOf (i : ℕ) (spot : Spot) : Type 0 where
    pub note : Note
    pub at : note_at lists a i ≡ Some note
    pub is : spot ≡ spot_of s note

  pub note-of : (row listed : List Spot) (i : ℕ) (d : Spot) → MadeOf (map (spot_of s)) lists a row → listed ≡ row → i < length listed → NoteOf i (get_or listed i d)
  note-of row listed i d notes same inside =
      let of = made-of (spot_of s) notes.item i (get_or listed i d)
      (subst (λ spots. slice_get spots i ≡ Some (get_or listed i d)) (same ∙ notes.is) (slice_get-get_or listed i d inside)) in record {
        note = of.item;
        at = ap (λ o. option_and_then (λ ns. slice_get ns i) o) notes.at ∙ of.at;
        is = of.is;
      }

  -- where the origin of the note of a spot stands, if its place is of the part
  module _ (first : ℕ) (starts : List ℕ) (i : ℕ) (spot : Spot) (of : NoteOf i spot) where
    abbrev pub stand : ℕ
    stand = get_or starts (spot.place - first) 0 + spot.pos

    stands : stand ≡ location s first starts of.note
    stands = ap (λ (x : Spot). get_or starts (x.place - first) 0 + x.pos) of.is

    place : spot.place ≡ place_index s of.note.place
    place = ap (λ (x : Spot). x.place) of.is

    pub spot-passed : (origins : List Origin) → (IsOfPart first starts spot.place → ⊥) → AreWritten s lists first starts origins a i → AreWritten s lists first starts origins a (i + 1)
    spot-passed origins other w = one-passed s lists first starts origins a i of.note of.at w (λ is. other (subst (λ q. IsOfPart first starts q) (sym place) is))

    module _ (of_part : IsOfPart first starts spot.place) where
      of-part : IsOfPart first starts (place_index s of.note.place)
      of-part = subst (λ q. IsOfPart first starts q) place of_part

      stand-inside : (room : ℕ) → HasRoomForOrigins s lists first starts room → stand < room
      stand-inside room has = omega (arith, stands, has.inside a i of.note of.at of-part)

      pub stand-fits : (room : ℕ) → HasRoomForOrigins s lists first starts room → stand < 2 ^ 64
      stand-fits room has = omega (arith, stand-inside room has, has.fits)

      pub at-inside : (room at : ℕ) → HasRoomForOrigins s lists first starts room → at ≡ stand → at < room
      at-inside room at has is = omega (arith, is, stand-inside room has)

      pub spot-written : (origins : List Origin) (at : ℕ) → at ≡ stand → at < length origins → AreWritten s lists first starts origins a i
          → AreWritten s lists first starts (with_at origins at a i) a (i + 1)
      spot-written origins at is inside w = one-written s lists first starts origins a i of.note of.at w at of-part (is ∙ stands) inside
