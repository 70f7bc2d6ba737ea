-- A line is read as a note of a place exactly where it is the text of this note, and the note fits the place.
use Rattle.std.proofs.Common.{◌≡◌, ℕ, ◌<◌, ◌≤◌, true, List, ◌∷◌, ◌++◌, ap, sym, ◌∙◌, arith, decimal, inl, inr}
use Rattle.std.specs.Prelude.{Some, Result, Ok, Err, ◌⊎◌}
use Rattle.std.proofs.lemmas.Bool.{and_parts, leb-true, cases_lt}
use Rattle.std.specs.Prelude.{nat_le}
use Rattle.co_object.specs.declared.Place.{Place}
use Rattle.co_program.specs.declared.Script.{Script}
use Rattle.co_text.specs.Values.{Word}
use Rattle.co_text.specs.declared.cause.Cause.{Cause}
use Rattle.co_grammar.specs.Spelling.{actor_word}
use Rattle.co_script.specs.Fits.{fits}
use Rattle.co_script.proofs.parts.Fitting.{fitting}
use Rattle.co_notes.specs.declared.reading.notes.NumberedEntry.{NumberedEntry}
use Rattle.co_object.specs.Lists.{act_of, actor_of}
use Rattle.co_notes.specs.NoteTexts.{entry_words, shown_words}
use Rattle.co_notes.specs.NoteValues.{names_of, IsSmallScript}
use Rattle.co_notes.specs.NoteForms.{note_form, whole, or_note, shown_note}
use Rattle.co_notes.specs.NoteFits.{ShownFits}
use Rattle.co_notes.specs.Parts.{parts, joined}
use Rattle.co_notes.proofs.PartSplits.{parts-joined, joined-parts}
use Rattle.co_notes.proofs.Exact.{whole-back, whole-told}
use Rattle.co_notes.proofs.ExactNotes.{note_exact}

-- ---- a script that fits is small

known : (v : ℕ) → 1 ≤ v → v ≤ 2 → (v ≡ 1) ⊎ (v ≡ 2)
known v low high = go (cases_lt v 2) where
  go : (v < 2) ⊎ (2 ≤ v) → (v ≡ 1) ⊎ (v ≡ 2)
  go (inl lt) = inl (omega (arith, low, lt))
  go (inr ge) = inr (omega (arith, high, ge))

pub small_script : (s : Script) → fits s ≡ true → IsSmallScript s
small_script s h =
    let f = fitting s h in
    let range = and_parts (nat_le 1 s.version) (nat_le s.version 2) f.version in
    record {
      timers = f.small.timers;
      cpus = f.small.cpus;
      funcs = f.small.funcs_fit;
      clients = f.clients_few;
      version = known s.version (leb-true 1 s.version range.0) (leb-true s.version 2 range.1);
    }

-- ---- notes

or_note-ok : {X : Type 0} (r : Result X Cause) (x : X) → or_note r ≡ Ok x → r ≡ Ok x
or_note-ok (Ok y) x h = h
or_note-ok (Err c) x h = cc

pub note-read : (s : Script) (small : IsSmallScript s) (p : Place) (line : List ℕ) (x : NumberedEntry) → shown_note (names_of s) (Some p) line ≡ Ok x → ShownFits s p x × (line ≡ joined (shown_words s x))
note-read s small p line x h =
    let t = whole-told (note_exact s small p) (parts line) x (or_note-ok (whole (note_form (names_of s) p) (parts line)) x h) in
    (t.0, sym (joined-parts line) ∙ ap joined t.1)

pub note-shown : (s : Script) (small : IsSmallScript s) (p : Place) (x : NumberedEntry) → ShownFits s p x → shown_note (names_of s) (Some p) (joined (shown_words s x)) ≡ Ok x
note-shown s small p x h =
    let rest : List Word = (actor_word s (actor_of x.entry) ++ 47 ∷ decimal (act_of x.entry)) ∷ entry_words x.entry in
    ap (λ ws. or_note (whole (note_form (names_of s) p) ws)) (parts-joined (decimal x.number) rest ((note_exact s small p).ink x h))
    ∙ ap (λ r. or_note r) (whole-back (note_exact s small p) x h)
