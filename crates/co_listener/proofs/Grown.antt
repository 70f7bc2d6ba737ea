-- The lists that are kept are those of the notes that were told: before the first, and with one more.
use Rattle.std.proofs.Common.{◌≡◌, ℕ, ◌+◌, ◌<◌, ◌==◌, ◌⊎◌, inl, inr, true, false, List, [], ◌∷◌, ◌++◌, length, get_or, set, refl, sym, ap, subst, ◌∙◌, arith, length-set, Some}
use Rattle.std.specs.List.{slice_get}
use Rattle.std.proofs.lemmas.Bool.Decides.{eqb_tells}
use Rattle.std.proofs.lemmas.List.{append-nil, get_or-set_other, get_or-set_same}
use Rattle.std.proofs.lemmas.List.FromFn.{fill_by_all, get_or-map-range_with_len, map-range_with_len_more}
use Rattle.std.proofs.lemmas.Option.{get_or_from_slice_get}
use Rattle.co_object.specs.declared.note.Note.{Note}
use Rattle.co_listener.specs.MadeNotes.{MadeNote, list_by, lists_by}
use Rattle.co_listener.proofs.OneMore.{list_more, one}

-- one more actor has a list
pub one_actor_more : (lists : List (List Note)) (n : ℕ) → lists ≡ lists_by n [] → lists ++ [] ∷ [] ≡ lists_by (n + 1) []
one_actor_more lists n is = ap (λ (l : List (List Note)). l ++ [] ∷ []) is ∙ sym (map-range_with_len_more (list_by []) 0 n n (omega arith))

module _ (lists : List (List Note)) (made : List MadeNote) (a : ℕ) (note : Note) (notes empty : List Note)
    (within : a < length lists) (are : lists ≡ lists_by (length lists) made) (taken : slice_get lists a ≡ Some notes) where
  abbrev pub grown : List (List Note)
  grown = set (set lists a empty) a (notes ++ note ∷ [])

  long : length grown ≡ length lists
  long = length-set (set lists a empty) a (notes ++ note ∷ []) ∙ length-set lists a empty

  listed : (b : ℕ) → b < length lists → get_or lists b [] ≡ list_by made b
  listed b below = ap (λ (l : List (List Note)). get_or l b []) are ∙ get_or-map-range_with_len (list_by made) 0 (length lists) b b [] below (omega arith)

  each : (b : ℕ) → b < length lists → get_or grown b [] ≡ list_by (made ++ one a note ∷ []) b
  each b below = go (eqb_tells a b) where
    inside : a < length (set lists a empty)
    inside = let l = length-set lists a empty in omega (arith, within, l)

    go : ((a == b) ≡ true) × (a ≡ b) ⊎ ((a == b) ≡ false) × (a ≡ b → ⊥) → get_or grown b [] ≡ list_by (made ++ one a note ∷ []) b
    go (inl h) =
        subst (λ (k : ℕ). get_or grown k [] ≡ list_by made k ++ note ∷ []) h.1
        (get_or-set_same (set lists a empty) a (notes ++ note ∷ []) [] inside ∙ ap (λ (l : List Note). l ++ note ∷ []) (sym (get_or_from_slice_get lists a notes [] taken) ∙ listed a within))
        ∙ sym (list_more made a note b true h.0)
    go (inr h) =
        get_or-set_other (set lists a empty) a b (notes ++ note ∷ []) [] (λ e. h.1 (sym e)) ∙ get_or-set_other lists a b empty [] (λ e. h.1 (sym e)) ∙ listed b below
        ∙ sym (list_more made a note b false h.0 ∙ append-nil (list_by made b))

  -- the note's actor has one note more, and no other has
  one_note_more : grown ≡ lists_by (length grown) (made ++ one a note ∷ [])
  one_note_more = fill_by_all (list_by (made ++ one a note ∷ [])) grown (length grown) [] refl (λ b below. each b (let l = long in omega (arith, below, l)))

  -- the list is taken out, grows, and is put back
  pub put_back : (out back : List (List Note)) (more : List Note) → out ≡ set lists a empty → back ≡ set out a more → more ≡ notes ++ note ∷ [] → back ≡ lists_by (length back) (made ++ one a note ∷ [])
  put_back out back more is_out is_back is_more =
      let whole : back ≡ grown = is_back ∙ ap (λ (l : List (List Note)). set l a more) is_out ∙ ap (set (set lists a empty) a) is_more in
      subst (λ (l : List (List Note)). l ≡ lists_by (length l) (made ++ one a note ∷ [])) (sym whole) one_note_more
