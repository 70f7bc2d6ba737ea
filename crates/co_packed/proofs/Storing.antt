-- Rows one behind another: what is stored is read again, at each place.
use Rattle.std.proofs.Common.{ℕ, zero, suc, ◌≡◌, ◌<◌, ◌≤◌, ◌+◌, ◌-◌, ◌*◌, ◌/◌, ◌%◌, List, [], ◌∷◌, ◌++◌, length, get_or, take, drop, refl, sym, ap, ◌∙◌, ⊎_elim, append_assoc, length-append, arith}
use Rattle.std.proofs.lemmas.Grind.{common_steps}
use Rattle.std.proofs.lemmas.Bool.{cases_lt}
use Rattle.std.proofs.lemmas.List.{append-nil, drop_at, drop_more, take_all, take-append-le, take-append-drop, drop-drop, length_push, get_or_append_left, get_or_push}
use Rattle.std.proofs.Math.Seq.{drop-nil}
use Rattle.std.proofs.lemmas.List.Concat.{flat_map-append}
use Rattle.std.specs.List.{flat_map, AllByRecursion}
use Rattle.std.proofs.lemmas.Option.{slice_get-map, slice_get-get_or}
use Rattle.std.specs.List.{slice_get}
use Rattle.std.specs.Prelude.{map, Some}
use Rattle.std.specs.Option.{option_map}
use Rattle.co_object.specs.declared.note.Note.{Note}
use Rattle.co_packed.specs.Numbered.{numbered_note}
use Rattle.co_packed.proofs.RowAgain.{row_again, after_row_again, row_is_row, row_length}
use Rattle.co_packed.specs.Rows.{row_bytes, row_in, row_size, after_row, IsRow}
use Rattle.co_packed.specs.Stored.{rows_in, after_rows, marked, IsStored}

rows_none : (bs : List ℕ) → rows_in zero bs ≡ []
unfolding rows_in
rows_none bs = refl

rows_next : (count : ℕ) (bs : List ℕ) → rows_in (suc count) bs ≡ row_in bs ∷ rows_in count (after_row bs)
unfolding rows_in
rows_next count bs = refl

rows_again : (rows : List (List ℕ)) (rest : List ℕ) → AllByRecursion IsRow rows → rows_in (length rows) (flat_map row_bytes rows ++ rest) ≡ rows
rows_again [] rest h = rows_none rest
rows_again (row ∷ rows) rest h =
    rw (append_assoc (row_bytes row) (flat_map row_bytes rows) rest)
    (rows_next (length rows) (row_bytes row ++ (flat_map row_bytes rows ++ rest))
    ∙ rw (row_again row (flat_map row_bytes rows ++ rest) h.0, after_row_again row (flat_map row_bytes rows ++ rest) h.0.0, rows_again rows rest h.1) refl)

rows_are_rows : (count : ℕ) (bs : List ℕ) → AllByRecursion IsRow (rows_in count bs)
rows_are_rows zero bs = rw (rows_none bs) tt
rows_are_rows (suc count) bs = rw (rows_next count bs) (row_is_row bs, rows_are_rows count (after_row bs))

pub length_of_rows : (count : ℕ) (bs : List ℕ) → length (rows_in count bs) ≡ count
length_of_rows zero bs = rw (rows_none bs) refl
length_of_rows (suc count) bs = rw (rows_next count bs) (ap suc (length_of_rows count (after_row bs)))

all_rows_push : (rows : List (List ℕ)) (row : List ℕ) → AllByRecursion IsRow rows → IsRow row → AllByRecursion IsRow (rows ++ row ∷ [])
all_rows_push [] row h k = (k, tt)
all_rows_push (r ∷ rows) row h k = (h.0, all_rows_push rows row h.1 k)

flat_push : (rows : List (List ℕ)) (row : List ℕ) → flat_map row_bytes (rows ++ row ∷ []) ≡ flat_map row_bytes rows ++ row_bytes row
flat_push rows row = flat_map-append row_bytes rows (row ∷ []) ∙ ap (λ (x : List ℕ). flat_map row_bytes rows ++ x) (append-nil (row_bytes row))

-- one row more
pub rows_pushed : (bytes row : List ℕ) (count : ℕ) → bytes ≡ flat_map row_bytes (rows_in count bytes) → IsRow row → rows_in (count + 1) (bytes ++ row_bytes row) ≡ rows_in count bytes ++ row ∷ []
rows_pushed bytes row count whole is =
    let rows = rows_in count bytes in
    let all : AllByRecursion IsRow (rows_in count bytes ++ row ∷ []) = all_rows_push (rows_in count bytes) row (rows_are_rows count bytes) is in
    let many : length (rows_in count bytes ++ row ∷ []) ≡ count + 1 = length_push (rows_in count bytes) row ∙ ap (λ (n : ℕ). n + 1) (length_of_rows count bytes) in
    let flat : flat_map row_bytes (rows_in count bytes ++ row ∷ []) ++ [] ≡ bytes ++ row_bytes row = append-nil _ ∙ flat_push (rows_in count bytes) row ∙ ap (λ (x : List ℕ). x ++ row_bytes row) (sym whole) in
    let again = rows_again (rows_in count bytes ++ row ∷ []) [] all in
    ap (λ (n : ℕ). rows_in n (bytes ++ row_bytes row)) (sym many) ∙ ap (λ (x : List ℕ). rows_in (length (rows_in count bytes ++ row ∷ [])) x) (sym flat) ∙ again

after_nothing : after_row [] ≡ []
unfolding after_row
after_nothing = drop-nil (row_size [])

pub after_none : (bs : List ℕ) → after_rows zero bs ≡ bs
unfolding after_rows
after_none bs = refl

after_next : (count : ℕ) (bs : List ℕ) → after_rows (suc count) bs ≡ after_rows count (after_row bs)
unfolding after_rows
after_next count bs = refl

pub after_more : (count : ℕ) (bs : List ℕ) → 0 < count → after_rows count bs ≡ after_rows (count - 1) (after_row bs)
after_more zero bs h = absurd (omega arith)
after_more (suc count) bs h = let e : suc count - 1 ≡ count = omega arith in rw e (after_next count bs)

after_rows_drop : (count : ℕ) (rows : List (List ℕ)) → AllByRecursion IsRow rows → after_rows count (flat_map row_bytes rows) ≡ flat_map row_bytes (drop count rows)
after_rows_drop zero rows h = after_none (flat_map row_bytes rows)
after_rows_drop (suc count) [] h = after_next count [] ∙ rw after_nothing (after_rows_drop count [] tt ∙ ap (flat_map row_bytes) (drop-nil count))
after_rows_drop (suc count) (row ∷ rows) h = after_next count (row_bytes row ++ flat_map row_bytes rows) ∙ rw (after_row_again row (flat_map row_bytes rows) h.0.0) (after_rows_drop count rows h.1)

all_left : (count : ℕ) (rows : List (List ℕ)) → AllByRecursion IsRow rows → AllByRecursion IsRow (drop count rows)
all_left zero rows h = h
all_left (suc count) [] h = tt
all_left (suc count) (row ∷ rows) h = all_left count rows h.1

flat_drop : (rows : List (List ℕ)) (m : ℕ) → drop (length (flat_map row_bytes (take m rows))) (flat_map row_bytes rows) ≡ flat_map row_bytes (drop m rows)
flat_drop rows m =
    let parts : flat_map row_bytes rows ≡ flat_map row_bytes (take m rows) ++ flat_map row_bytes (drop m rows) = ap (flat_map row_bytes) (sym (take-append-drop m rows)) ∙ flat_map-append row_bytes (take m rows) (drop m rows) in
    ap (drop (length (flat_map row_bytes (take m rows)))) parts ∙ drop_at (flat_map row_bytes (take m rows)) (flat_map row_bytes (drop m rows)) _ refl

rows_shorter : (rows : List (List ℕ)) → 8 * length rows ≤ length (flat_map row_bytes rows)
rows_shorter [] = omega arith
rows_shorter (row ∷ rows) = rw (length-append (row_bytes row) (flat_map row_bytes rows)) (omega (arith, rows_shorter rows, row_length row))

-- the rows are fewer than their bytes
pub stored_fits : (bytes starts : List ℕ) (count : ℕ) → IsStored bytes starts count → 8 * count ≤ length bytes
stored_fits bytes starts count h =
    let short = rows_shorter (rows_in count bytes) in
    let e : length bytes ≡ length (flat_map row_bytes (rows_in count bytes)) = ap length h.whole in
    omega (arith, length_of_rows count bytes)

pub stored_none : IsStored [] [] 0
stored_none = record {
  whole = rw (rows_none []) refl;
  places = λ k h. absurd (omega arith);
  few = λ k h. absurd (omega arith);
  enough = omega arith;
}

marked_not : (starts : List ℕ) (count end : ℕ) → count / 2 < length starts → marked starts count end ≡ starts
unfolding marked
marked_not starts count end h = grind (arith, common_steps)

marked_now : (starts : List ℕ) (count end : ℕ) → length starts ≤ count / 2 → marked starts count end ≡ starts ++ end ∷ []
unfolding marked
marked_now starts count end h = grind (arith, common_steps)

-- a start for a row that comes next
start_pushed : (bytes starts : List ℕ) (count : ℕ) → IsStored bytes starts count → length starts ≤ count / 2 → IsStored bytes (starts ++ length bytes ∷ []) count
start_pushed bytes starts count h full =
    let enough = h.enough in
    let more : length (starts ++ length bytes ∷ []) ≡ length starts + 1 = length_push starts (length bytes) in
    record {
      whole = h.whole;
      places = λ k within. ⊎_elim
          (λ (old : k < length starts). get_or_append_left starts (length bytes ∷ []) 0 k old ∙ h.places k old)
          (λ (new : length starts ≤ k).
          let at : length starts ≡ k = omega arith in
          let all : take (2 * k) (rows_in count bytes) ≡ rows_in count bytes = take_all (2 * k) (rows_in count bytes) (omega (arith, length_of_rows count bytes)) in
          get_or_push starts (length bytes) 0 k at ∙ ap length h.whole ∙ ap (λ (x : List (List ℕ)). length (flat_map row_bytes x)) (sym all))
          (cases_lt k (length starts));
      few = λ k within. omega arith;
      enough = omega arith;
    }

-- the next start is noted down where it is a second one
pub stored_marked : (bytes starts : List ℕ) (count : ℕ) → IsStored bytes starts count → IsStored bytes (marked starts count (length bytes)) count
stored_marked bytes starts count h = ⊎_elim
    (λ (k : count / 2 < length starts). rw (marked_not starts count (length bytes) k) h)
    (λ (k : length starts ≤ count / 2). rw (marked_now starts count (length bytes) k) (start_pushed bytes starts count h k))
    (cases_lt (count / 2) (length starts))

pub marked_more : (bytes starts : List ℕ) (count : ℕ) → IsStored bytes starts count → count < 2 * length (marked starts count (length bytes))
marked_more bytes starts count h = ⊎_elim
    (λ (k : count / 2 < length starts). rw (marked_not starts count (length bytes) k) (omega arith))
    (λ (k : length starts ≤ count / 2).
    let enough = h.enough in
    rw (marked_now starts count (length bytes) k, length_push starts (length bytes)) (omega arith))
    (cases_lt (count / 2) (length starts))

pub stored_more : (bytes starts row : List ℕ) (count : ℕ) → IsStored bytes starts count → count < 2 * length starts → IsRow row → IsStored (bytes ++ row_bytes row) starts (count + 1)
stored_more bytes starts row count h more is =
    let pushed = rows_pushed bytes row count h.whole is in
    record {
      whole = rw (pushed, flat_push (rows_in count bytes) row) (ap (λ (x : List ℕ). x ++ row_bytes row) h.whole);
      places = λ k within. rw pushed (h.places k within
          ∙ ap (λ (x : List (List ℕ)). length (flat_map row_bytes x)) (sym (take-append-le (2 * k) (rows_in count bytes) (row ∷ []) (omega (arith, length_of_rows count bytes, h.few k within)))));
      few = λ k within. omega (arith, h.few k within);
      enough = omega arith;
    }

row_there : (rows : List (List ℕ)) (i : ℕ) → AllByRecursion IsRow rows → i < length rows → IsRow (get_or rows i [])
row_there [] i h within = absurd (omega arith)
row_there (row ∷ rows) zero h within = h.0
row_there (row ∷ rows) (suc i) h within = row_there rows i h.1 (omega arith)

-- the row at a place is read behind the start before it
pub record IsPlaced (bytes row rest : List ℕ) (start : ℕ) : Type 0 where
  pub in_range : start ≤ length bytes
  pub row_is : row_in rest ≡ row

start_at : (bytes starts : List ℕ) (count k : ℕ) → IsStored bytes starts count → k < length starts → drop (get_or starts k 0) bytes ≡ flat_map row_bytes (drop (2 * k) (rows_in count bytes))
start_at bytes starts count k h within =
    ap (λ (n : ℕ). drop n bytes) (h.places k within)
    ∙ ap (drop (length (flat_map row_bytes (take (2 * k) (rows_in count bytes))))) h.whole
    ∙ flat_drop (rows_in count bytes) (2 * k)

start_within : (bytes starts : List ℕ) (count k : ℕ) → IsStored bytes starts count → k < length starts → get_or starts k 0 ≤ length bytes
start_within bytes starts count k h within =
    let parts = ap (λ (x : List (List ℕ)). length (flat_map row_bytes x)) (take-append-drop (2 * k) (rows_in count bytes)) in
    let flat = ap length (flat_map-append row_bytes (take (2 * k) (rows_in count bytes)) (drop (2 * k) (rows_in count bytes))) in
    let both = length-append (flat_map row_bytes (take (2 * k) (rows_in count bytes))) (flat_map row_bytes (drop (2 * k) (rows_in count bytes))) in
    omega (arith, h.places k within, ap length h.whole, parts, flat, both)

-- the bytes from a row on
rest_at : (bytes starts : List ℕ) (count at : ℕ) → IsStored bytes starts count → at < count → after_rows (at % 2) (drop (get_or starts (at / 2) 0) bytes) ≡ row_bytes (get_or (rows_in count bytes) at []) ++ flat_map row_bytes (drop (at + 1) (rows_in count bytes))
rest_at bytes starts count at h within =
    let enough = h.enough in
    let many = length_of_rows count bytes in
    let e : 2 * (at / 2) + at % 2 ≡ at = omega arith in
    rw (start_at bytes starts count (at / 2) h (omega arith), after_rows_drop (at % 2) (drop (2 * (at / 2)) (rows_in count bytes)) (all_left (2 * (at / 2)) (rows_in count bytes) (rows_are_rows count bytes)), drop-drop (at % 2) (2 * (at / 2)) (rows_in count bytes), e, drop_more (rows_in count bytes) at [] (omega arith)) refl

pub stored_at : (bytes starts : List ℕ) (count at : ℕ) → IsStored bytes starts count → at < count → IsPlaced bytes (get_or (rows_in count bytes) at []) (after_rows (at % 2) (drop (get_or starts (at / 2) 0) bytes)) (get_or starts (at / 2) 0)
stored_at bytes starts count at h within =
    let enough = h.enough in
    let many = length_of_rows count bytes in
    let rest = rest_at bytes starts count at h within in
    let row = row_there (rows_in count bytes) at (rows_are_rows count bytes) (omega arith) in
    record {
      in_range = start_within bytes starts count (at / 2) h (omega arith);
      row_is = rw rest (row_again (get_or (rows_in count bytes) at []) (flat_map row_bytes (drop (at + 1) (rows_in count bytes))) row);
    }

-- the note of a row
pub note_there : (bytes : List ℕ) (count at : ℕ) (notes : List Note) (note : Note) → map numbered_note (rows_in count bytes) ≡ notes → at < count → note ≡ numbered_note (get_or (rows_in count bytes) at []) → slice_get notes at ≡ Some note
note_there bytes count at notes note view within is =
    let many = length_of_rows count bytes in
    rw (← view, is) (slice_get-map numbered_note (rows_in count bytes) at ∙ ap (option_map numbered_note) (slice_get-get_or (rows_in count bytes) at [] (omega arith)))

-- the notes of so many rows: none, or that of the first row and those behind it
pub no_notes : (left : ℕ) (bytes : List ℕ) → left ≡ 0 → map numbered_note (rows_in left bytes) ≡ []
no_notes left bytes h = rw (h, rows_none bytes) refl

pub notes_next : (left : ℕ) (bytes : List ℕ) → 0 < left → map numbered_note (rows_in left bytes) ≡ numbered_note (row_in bytes) ∷ map numbered_note (rows_in (left - 1) (after_row bytes))
notes_next zero bytes h = absurd (omega arith)
notes_next (suc left) bytes h = let e : suc left - 1 ≡ left = omega arith in rw (e, rows_next left bytes) refl
