-- Notes are made: what is booked of them, and each actor's list.
use Rattle.std.proofs.Common.{arith, ◌≡◌, ℕ, zero, suc, ◌+◌, ◌^◌, ◌<◌, ◌≤◌, Bool, List, [], ◌∷◌, ◌++◌, length, get_or, refl, sym, subst, ap, ◌∙◌, append_assoc, length-append}
use Rattle.std.specs.Prelude.{Result, Ok, Err, OnOk}
use Rattle.std.proofs.lemmas.List.{append-nil, get_or-set_same, map-append}
use Rattle.co_object.specs.declared.note.Note.{Note}
use Rattle.co_listener.specs.MadeNotes.{MadeNote}
use Rattle.co_program.specs.declared.cursor.Cursor.{Cursor as CursorAt}
use Rattle.co_program.specs.declared.script.Script.{Script}
use Rattle.co_program.specs.Action.{Action}
use Rattle.co_program.specs.Actors.{actor_count}
use Rattle.co_program.specs.Indexed.{IsCounted}
use Rattle.co_wheel.specs.declared.outs.CallOut.{CallOut}
use Rattle.co_world.specs.Step.{step}
use Rattle.co_world.specs.World.{World}
use Rattle.co_core.specs.declared.engine.Engine.{Engine}
use Rattle.co_core.specs.Acting.{GoesSilently, HasActed, StandsWith, IsDue, MayAct}
use Rattle.co_core.specs.Noting.{HasWritten, MayNote, MayWrite, made_by}
use Rattle.co_core.specs.Stands.{ShowsWritten, StandsFor}
use Rattle.co_core.specs.Stored.{Stored}
use Rattle.co_core.specs.Written.{Booked, Written, IsBooked, IsNoted, first_cursor, booked_at, noted, with_lists}
use Rattle.co_core.proofs.tables.Values.{read}
use Rattle.co_core.proofs.written.Counting.{notes_by}
use Rattle.co_core.proofs.written.There.{list_there, place_there}

-- two clauses of one answer
pub both : {X E : Type 0} (A B : Type 0) (r : Result X E) → OnOk r A → OnOk r B → OnOk r (A × B)
both A B (Ok x) a b = (a, b)
both A B (Err e) a b = tt

-- ---- the lists

pub noted_none : (lists : List (List Note)) (a : ℕ) → noted lists a [] ≡ lists
noted_none [] a = refl
noted_none (l ∷ lists) zero = ap (λ (x : List Note). x ∷ lists) (append-nil l)
noted_none (l ∷ lists) (suc a) = ap (λ (xs : List (List Note)). l ∷ xs) (noted_none lists a)

pub noted_more : (lists : List (List Note)) (a : ℕ) (first more : List Note) → noted (noted lists a first) a more ≡ noted lists a (first ++ more)
noted_more [] a first more = refl
noted_more (l ∷ lists) zero first more = ap (λ (x : List Note). x ∷ lists) (append_assoc l first more)
noted_more (l ∷ lists) (suc a) first more = ap (λ (xs : List (List Note)). l ∷ xs) (noted_more lists a first more)

-- what was written is written still
pub nothing_noted : (x x2 : Booked) (lists : List (List Note)) (a : ℕ) (notes : List Note) → (notes ≡ []) × (x2 ≡ x) → with_lists x2 (noted lists a notes) ≡ with_lists x lists
nothing_noted x x2 lists a notes none = ap (λ (ns : List Note). with_lists x2 (noted lists a ns)) none.0 ∙ ap (with_lists x2) (noted_none lists a) ∙ ap (λ (y : Booked). with_lists y lists) none.1

-- the notes of the world's actor are those before and these
pub notes_after : (s : Script) (x y : Written) (w w' : World) (a : ℕ) (notes : List Note) → a < actor_count s → ShowsWritten s x w → ShowsWritten s y w' → y.lists ≡ noted x.lists a notes → notes_by w' a ≡ notes_by w a ++ notes
notes_after s x y w w' a notes may before after lists =
    sym (read y.lists (actor_count s) (notes_by w') a [] after.each_list may)
    ∙ ap (λ (l : List (List Note)). get_or l a []) lists
    ∙ get_or-set_same x.lists a (get_or x.lists a [] ++ notes) [] (list_there s x w before a may)
    ∙ ap (λ (l : List Note). l ++ notes) (read x.lists (actor_count s) (notes_by w) a [] before.each_list may)

-- ---- what is booked

pub is_noted : (s : Script) (a : ℕ) (listed : Bool) (note : Note) (x x2 : Booked) (lists : List (List Note)) → IsBooked s a listed note x x2 → IsNoted s a listed note (with_lists x lists) (with_lists x2 (noted lists a (note ∷ [])))
is_noted s a listed note x x2 lists booked = record { to = booked.to; place = booked.place; counts = booked.counts; noted = ap (λ (y : Booked). with_lists y (noted lists a (note ∷ []))) booked.went }

-- ledgers that differ in their histories' counts alone are ready for the note
pub may_note : (s : Script) (x y : Booked) (a : ℕ) → MayWrite s x a → y.cursors ≡ x.cursors → y.made ≡ x.made → MayNote s y a
may_note s x y a m cursors made = record {
  script = m.script;
  cursor = subst (λ (l : List CursorAt). a < length l) (sym cursors) there.0;
  counted = subst (λ (l : List CursorAt). IsCounted (get_or l a first_cursor) y.made) (sym cursors) (subst (λ (n : ℕ). IsCounted (booked_at x a) n) (sym made) there.1);
  few = subst (λ (n : ℕ). n < 2 ^ 63 + 3) (sym made) m.few;
} where
  there : (a < length x.cursors) × IsCounted (booked_at x a) x.made
  there = place_there s (with_lists x m.lists) m.world m.written a m.exists

-- ---- and of what a listener is told

module _ {B : Type 0} (has : B → List MadeNote → Type 0) (room : B → ℕ) (a : ℕ) where
  -- what is counted of the notes is told alike from ledgers with the same count
  pub counts_from : (notes : List Note) (x y x2 : Booked) (old new : B) → y.made ≡ x.made → HasWritten has room a notes y x2 old new → HasWritten has room a notes x x2 old new
  counts_from notes x y x2 old new made h = record { made = h.made ∙ ap (λ (m : ℕ). m + length notes) made; heard = h.heard; spare = h.spare }

  pub none_written : (x : Booked) (book : B) → HasWritten has room a [] x x book book
  none_written x book = record { made = omega arith; heard = λ made h. subst (has book) (sym (append-nil made)) h; spare = omega arith }

  pub then_written : (notes more : List Note) (x x2 x3 : Booked) (old new newer : B) → HasWritten has room a notes x x2 old new → HasWritten has room a more x2 x3 new newer → HasWritten has room a (notes ++ more) x x3 old newer
  then_written notes more x x2 x3 old new newer h k = record {
    made = omega (arith, h.made, k.made, long);
    heard = λ made before.
        subst (has newer) (append_assoc made (made_by a notes) (made_by a more) ∙ ap (λ (l : List MadeNote). made ++ l) (sym (map-append (λ (note : Note). record { actor = a; note = note }) notes more)))
        (k.heard (made ++ made_by a notes) (h.heard made before));
    spare = omega (arith, h.spare, k.spare, long);
  } where
    long : length (notes ++ more) ≡ length notes + length more
    long = length-append notes more

-- the actor may make a section's first note, and the next one
pub may_write : (s : Script) (e : Engine) (a : ℕ) (action : Action) → MayAct s e a action → MayWrite s e.ledger a
may_write s e a action m = record { script = m.script; world = m.world; lists = m.lists; written = m.held.written; exists = m.due.may; few = omega (arith, m.few) }

pub may_go_on : (s : Script) (e : Engine) (a : ℕ) (action : Action) (count : ℕ) (x2 : Booked) (lists : List (List Note)) (w : World) →
    MayAct s e a action → x2.made ≡ e.ledger.made + count → count ≤ 2 → ShowsWritten s (with_lists x2 lists) w → MayWrite s x2 a
may_go_on s e a action count x2 lists w m made few written = record { script = m.script; world = w; lists = lists; written = written; exists = m.due.may; few = omega (arith, m.few, made, few) }

-- a section's notes have been made, and what it did to the depot is the plain world's step
pub acted : (s : Script) {B : Type 0} (has : B → List MadeNote → Type 0) (room : B → ℕ) (e : Engine) (a : ℕ) (action : Action) (depot2 : Stored) (notes : List Note) (number : ℕ) (x2 : Booked) (old new : B) {out2 : CallOut} →
    HasWritten has room a notes e.ledger x2 old new → length notes ≡ number → number ≤ 3 →
    ((lists : List (List Note)) (w : World) → StandsWith s e lists w → IsDue s w a action → StandsFor s (with_lists x2 (noted lists a notes)) depot2 (step s w a)) →
    HasActed s has a action number e (record { ledger = x2; depot = depot2; out = out2 }) old new
acted s has room e a action depot2 notes number x2 old new h count few stands = record { notes = notes; count = count; few = few; stands = stands; heard = h.heard }

-- an action that makes no note
pub silent : (s : Script) {B : Type 0} (has : B → List MadeNote → Type 0) (a : ℕ) (action : Action) (e e2 : Engine) (book : B) → GoesSilently s a action e e2 → HasActed s has a action 0 e e2 book book
silent s has a action e e2 book goes = record {
  notes = [];
  count = refl;
  few = omega arith;
  stands = λ lists w held due. subst (λ (l : List (List Note)). StandsWith s e2 l (step s w a)) (sym (noted_none lists a)) (goes lists w held due);
  heard = λ made h. subst (has book) (sym (append-nil made)) h;
}
