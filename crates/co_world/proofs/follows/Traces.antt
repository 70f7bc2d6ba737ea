-- In every world an actor's notes lead from the start of its program to its place in it.
use Rattle.std.proofs.Common.{◌≡◌, ℕ, ◌+◌, Bool, List, [], ◌∷◌, ◌++◌, length, take, refl, sym, ap, subst, ◌∙◌}
use Rattle.std.specs.Prelude.{is_some}
use Rattle.std.proofs.lemmas.Grind.{fold-append}
use Rattle.co_object.specs.declared.State.{State}
use Rattle.co_object.specs.declared.Entry.{Entry}
use Rattle.co_object.specs.declared.Note.{Note}
use Rattle.co_object.specs.Stand.{off}
use Rattle.co_object.specs.History.{state, next}
use Rattle.co_object.specs.Callout.{opening}
use Rattle.co_program.specs.declared.Script.{Script}
use Rattle.co_program.specs.Cursor.{Cursor, start_of}
use Rattle.co_program.specs.Action.{spec_at}
use Rattle.co_program.specs.Advance.{advance}
use Rattle.co_program.specs.Follows.{Histories, IsNextNote, AreNext, cursor_after, goes_on as goes_on_after, at_next_note, listed_after}
use Rattle.co_world.specs.World.{World, Actor, Timer, with_actor}
use Rattle.co_world.specs.Step.{notes_down, enters}
use Rattle.co_world.proofs.basics.Updates.{at_updated}
use Rattle.co_world.proofs.basics.Prefixes.{Begins, begins_take, length_more}

-- ---- one more note

pub are_next_more : (s : Script) (H : Histories) (a : ℕ) (c : Cursor) (notes : List Note) (note : Note) →
    AreNext s H a c notes → IsNextNote s H a (at_next_note s a (cursor_after s H a c notes)) note → AreNext s H a c (notes ++ note ∷ [])
are_next_more s H a c [] note all here = (here, tt)
are_next_more s H a c (x ∷ notes) note all here = (all.0, are_next_more s H a (goes_on_after s H (at_next_note s a c) x) notes note all.1 here)

pub cursor_after_more : (s : Script) (H : Histories) (a : ℕ) (c : Cursor) (notes : List Note) (note : Note) →
    cursor_after s H a c (notes ++ note ∷ []) ≡ goes_on_after s H (at_next_note s a (cursor_after s H a c notes)) note
cursor_after_more s H a c [] note = refl
cursor_after_more s H a c (x ∷ notes) note = cursor_after_more s H a (goes_on_after s H (at_next_note s a c) x) notes note

-- the notes lead to the place
pub record Trace (s : Script) (H : Histories) (a : ℕ) (actor : Actor) : Type 0 where
  pub next : AreNext s H a (start_of s a) actor.notes
  pub place : at_next_note s a (cursor_after s H a (start_of s a) actor.notes) ≡ at_next_note s a actor.cursor

-- the note that an actor makes where one is due
pub record IsMade (s : Script) (H : Histories) (a : ℕ) (c : Cursor) (listed : Bool) (note : Note) : Type 0 where
  pub here : at_next_note s a c ≡ c
  pub fits : IsNextNote s H a c note
  pub knows : listed ≡ listed_after s H note.place note.pos

pub trace_more : (s : Script) (H : Histories) (a : ℕ) (actor : Actor) (listed : Bool) (note : Note) →
    Trace s H a actor → IsMade s H a actor.cursor listed note →
    Trace s H a (record actor { cursor = advance s actor.cursor listed note.place note.entry; notes = actor.notes ++ note ∷ [] })
trace_more s H a actor listed note trace made =
    let end : Cursor = cursor_after s H a (start_of s a) actor.notes in
    let same : at_next_note s a end ≡ actor.cursor = trace.place ∙ made.here in
    record {
      next = are_next_more s H a (start_of s a) actor.notes note trace.next (subst (λ (k : Cursor). IsNextNote s H a k note) (sym same) made.fits);
      place =
          ap (at_next_note s a)
          (cursor_after_more s H a (start_of s a) actor.notes note
          ∙ ap (λ (k : Cursor). goes_on_after s H k note) same
          ∙ ap (λ (l : Bool). advance s actor.cursor l note.place note.entry) (sym made.knows));
    }

-- ---- worlds whose histories begin those of H

pub record Extends (H : Histories) (w : World) : Type 0 where
  pub timers : (i : ℕ) → Begins (w.timers i).history (H.timers i)
  pub cpus : (cpu : ℕ) → Begins (w.cpus cpu).journal (H.cpus cpu)

-- the state of each callout is that of its history, and each actor's notes lead to its place
pub record IsTraced (s : Script) (H : Histories) (w : World) : Type 0 where
  pub states : (i : ℕ) → (w.timers i).state ≡ state (spec_at s i) (w.timers i).history
  pub traces : (a : ℕ) → Trace s H a (w.actors a)

pub traced_down : (s : Script) (H : Histories) (w : World) (a : ℕ) (listed : Bool) (note : Note) →
    IsTraced s H w → IsMade s H a (w.actors a).cursor listed note → IsTraced s H (notes_down s w a listed note)
traced_down s H w a listed note traced made = record {
  states = traced.states;
  traces = λ b. at_updated (λ k (actor : Actor). Trace s H k actor) w.actors a
      (record (w.actors a) { cursor = advance s (w.actors a).cursor listed note.place note.entry; notes = (w.actors a).notes ++ note ∷ [] }) b
      (trace_more s H a (w.actors a) listed note (traced.traces a) made) (traced.traces b);
}

-- a step without a note
pub traced_place : (s : Script) (H : Histories) (w : World) (a : ℕ) (to : Cursor) → IsTraced s H w → at_next_note s a (w.actors a).cursor ≡ at_next_note s a to →
    IsTraced s H (with_actor w a (record (w.actors a) { cursor = to }))
traced_place s H w a to traced same = record {
  states = traced.states;
  traces = λ b. at_updated (λ k (actor : Actor). Trace s H k actor) w.actors a (record (w.actors a) { cursor = to }) b
      (record { next = (traced.traces a).next; place = (traced.traces a).place ∙ same }) (traced.traces b);
}

-- ---- a callout's entry

-- a history with one more entry, and the state after it
state_more : (s : Script) (i : ℕ) (history : List Entry) (e : Entry) → state (spec_at s i) (history ++ e ∷ []) ≡ next (spec_at s i) (state (spec_at s i) history) e
state_more s i history e = fold-append (next (spec_at s i)) (opening 0) history (e ∷ [])

-- what H knows of the callout after an entry
pub knows_listed : (s : Script) (H : Histories) (i : ℕ) (history : List Entry) (e : Entry) (after : State) →
    Begins (history ++ e ∷ []) (H.timers i) → next (spec_at s i) (state (spec_at s i) history) e ≡ after →
    is_some (off after) ≡ is_some (off (state (spec_at s i) (take (length history + 1) (H.timers i))))
knows_listed s H i history e after begins is =
    let long : take (length (history ++ e ∷ [])) (H.timers i) ≡ history ++ e ∷ [] = begins_take (history ++ e ∷ []) (H.timers i) begins in
    let shown : take (length history + 1) (H.timers i) ≡ history ++ e ∷ [] = ap (λ (k : ℕ). take k (H.timers i)) (sym (length_more history e)) ∙ long in
    ap (λ (x : State). is_some (off x)) (sym is ∙ sym (state_more s i history e)) ∙ ap (λ (h : List Entry). is_some (off (state (spec_at s i) h))) (sym shown)

pub states_entered : (s : Script) (w : World) (i : ℕ) (after : State) (e : Entry) →
    ((j : ℕ) → (w.timers j).state ≡ state (spec_at s j) (w.timers j).history) →
    next (spec_at s i) (w.timers i).state e ≡ after →
    (j : ℕ) → ((enters w i after e).timers j).state ≡ state (spec_at s j) ((enters w i after e).timers j).history
states_entered s w i after e states is j =
    at_updated (λ k (timer : Timer). timer.state ≡ state (spec_at s k) timer.history) w.timers i
    (record (w.timers i) { state = after; history = (w.timers i).history ++ e ∷ [] }) j
    (sym is ∙ ap (λ (x : State). next (spec_at s i) x e) (states i) ∙ sym (state_more s i (w.timers i).history e))
    (states j)
