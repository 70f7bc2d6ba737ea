-- One note more is told: it comes last among its actor's and its place's, and its number is how many its actor had made.
use Rattle.std.proofs.Common.{◌≡◌, ℕ, ◌+◌, ◌==◌, Bool, true, false, cond, List, [], ◌∷◌, ◌++◌, map, length, ap, sym, ◌∙◌, append_assoc, append-nil, length-append}
use Rattle.std.specs.List.{filter}
use Rattle.std.proofs.lemmas.List.{map-append}
use Rattle.std.proofs.lemmas.List.Elements.{filter-append}
use Rattle.co_object.specs.declared.Note.{Note}
use Rattle.co_object.specs.declared.Place.{Place}
use Rattle.co_object.specs.Lists.{same_place}
use Rattle.co_listener.specs.MadeNotes.{MadeNote, list_by, made_in}
use Rattle.co_program.specs.declared.Script.{Script}
use Rattle.co_text.specs.Lines.{line_text, text}
use Rattle.co_text.proofs.Spacing.{text_one, text_append}
use Rattle.co_print.specs.Histories.{Numbered, shown}
use Rattle.co_notes.specs.declared.reading.notes.NumberedEntry.{NumberedEntry}
use Rattle.co_notes.specs.NoteTexts.{note_words, shown_words}
use Rattle.co_print.specs.Reports.{heading, place_lines}
use Rattle.co_report.specs.Sections.{count_by, numbered_after, told_in, section}
use Rattle.co_print.proofs.Numbering.{numbered}

module _ {X : Type 0} where
  pub filter-kept : (p : X → Bool) (xs : List X) (x : X) → p x ≡ true → filter p (xs ++ x ∷ []) ≡ filter p xs ++ x ∷ []
  filter-kept p xs x h = filter-append p xs (x ∷ []) ∙ ap (λ (b : Bool). filter p xs ++ cond b (x ∷ []) []) h

  pub filter-dropped : (p : X → Bool) (xs : List X) (x : X) → p x ≡ false → filter p (xs ++ x ∷ []) ≡ filter p xs
  filter-dropped p xs x h = filter-append p xs (x ∷ []) ∙ (ap (λ (b : Bool). filter p xs ++ cond b (x ∷ []) []) h ∙ append-nil (filter p xs))

abbrev note_of : MadeNote → Note
note_of m = m.note

abbrev is_by : ℕ → MadeNote → Bool
is_by a m = m.actor == a

-- among its actor's notes

pub list-own : (made : List MadeNote) (m : MadeNote) (a : ℕ) → (m.actor == a) ≡ true → list_by (made ++ m ∷ []) a ≡ list_by made a ++ m.note ∷ []
list-own made m a h = ap (map note_of) (filter-kept (is_by a) made m h) ∙ map-append note_of (filter (is_by a) made) (m ∷ [])

pub list-other : (made : List MadeNote) (m : MadeNote) (a : ℕ) → (m.actor == a) ≡ false → list_by (made ++ m ∷ []) a ≡ list_by made a
list-other made m a h = ap (map note_of) (filter-dropped (is_by a) made m h)

pub count-own : (made : List MadeNote) (m : MadeNote) (a : ℕ) → (m.actor == a) ≡ true → count_by (made ++ m ∷ []) a ≡ count_by made a + 1
count-own made m a h = ap length (list-own made m a h) ∙ length-append (list_by made a) (m.note ∷ [])

pub count-other : (made : List MadeNote) (m : MadeNote) (a : ℕ) → (m.actor == a) ≡ false → count_by (made ++ m ∷ []) a ≡ count_by made a
count-other made m a h = ap length (list-other made m a h)

-- among its place's notes

abbrev stands_in : Place → Note → Bool
stands_in p n = same_place n.place p

pub made-here : (made : List MadeNote) (m : MadeNote) (p : Place) → same_place m.note.place p ≡ true → made_in (made ++ m ∷ []) p ≡ made_in made p ++ m.note ∷ []
made-here made m p h = ap (filter (stands_in p)) (map-append note_of made (m ∷ [])) ∙ filter-kept (stands_in p) (map note_of made) m.note h

pub made-elsewhere : (made : List MadeNote) (m : MadeNote) (p : Place) → same_place m.note.place p ≡ false → made_in (made ++ m ∷ []) p ≡ made_in made p
made-elsewhere made m p h = ap (filter (stands_in p)) (map-append note_of made (m ∷ [])) ∙ filter-dropped (stands_in p) (map note_of made) m.note h

-- as it is shown

numbered-more : (before made : List MadeNote) (m : MadeNote) → numbered_after before (made ++ m ∷ []) ≡ numbered_after before made ++ numbered (count_by (before ++ made) m.actor) m.note ∷ []
numbered-more before [] m = ap (λ (b : List MadeNote). numbered (count_by b m.actor) m.note ∷ []) (sym (append-nil before))
numbered-more before (x ∷ xs) m =
    ap (λ ns. numbered (count_by before x.actor) x.note ∷ ns)
    (numbered-more (before ++ x ∷ []) xs m
    ∙ ap (λ (b : List MadeNote). numbered_after (before ++ x ∷ []) xs ++ numbered (count_by b m.actor) m.note ∷ []) (append_assoc before (x ∷ []) xs))

abbrev stands_at : Place → Numbered → Bool
stands_at p x = same_place x.note.place p

pub told-here : (made : List MadeNote) (m : MadeNote) (p : Place) → same_place m.note.place p ≡ true → told_in (made ++ m ∷ []) p ≡ told_in made p ++ shown (numbered (count_by made m.actor) m.note) ∷ []
told-here made m p h =
    let x : Numbered = numbered (count_by made m.actor) m.note in
    ap (λ ns. map shown (filter (stands_at p) ns)) (numbered-more [] made m)
    ∙ (ap (map shown) (filter-kept (stands_at p) (numbered_after [] made) x h)
    ∙ map-append shown (filter (stands_at p) (numbered_after [] made)) (x ∷ []))

pub told-elsewhere : (made : List MadeNote) (m : MadeNote) (p : Place) → same_place m.note.place p ≡ false → told_in (made ++ m ∷ []) p ≡ told_in made p
told-elsewhere made m p h =
    let x : Numbered = numbered (count_by made m.actor) m.note in
    ap (λ ns. map shown (filter (stands_at p) ns)) (numbered-more [] made m)
    ∙ ap (map shown) (filter-dropped (stands_at p) (numbered_after [] made) x h)

-- in its section

pub section-here : (s : Script) (made : List MadeNote) (m : MadeNote) (p : Place) → same_place m.note.place p ≡ true → section s (made ++ m ∷ []) p ≡ section s made p ++ line_text (note_words s (count_by made m.actor) m.note.entry)
section-here s made m p h =
    let x : NumberedEntry = shown (numbered (count_by made m.actor) m.note) in
    ap (λ xs. text (heading s p ∷ map (shown_words s) xs)) (told-here made m p h)
    ∙ (ap (λ ls. text (heading s p ∷ ls)) (map-append (shown_words s) (told_in made p) (x ∷ []))
    ∙ (text_append (place_lines s (told_in made) p) (shown_words s x ∷ [])
    ∙ ap (λ t. section s made p ++ t) (text_one (shown_words s x))))

pub section-elsewhere : (s : Script) (made : List MadeNote) (m : MadeNote) (p : Place) → same_place m.note.place p ≡ false → section s (made ++ m ∷ []) p ≡ section s made p
section-elsewhere s made m p h = ap (λ xs. text (heading s p ∷ map (shown_words s) xs)) (told-elsewhere made m p h)
