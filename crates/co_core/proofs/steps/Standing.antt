-- What the type of the core's world keeps, from one step to the next.
use Rattle.std.proofs.Common.{◌≡◌, ℕ, ◌+◌, ◌==◌, Bool, List, [], ◌∷◌, ◌++◌, cond, map, get_or, set, refl, sym, ap, ◌∙◌, subst, arith, eq-eqb}
use Rattle.std.specs.List.{filter}
use Rattle.std.proofs.lemmas.List.{map-append}
use Rattle.co_object.specs.declared.note.Note.{Note}
use Rattle.co_listener.specs.MadeNotes.{MadeNote, list_by}
use Rattle.co_program.specs.declared.script.Script.{Script}
use Rattle.co_world.specs.declared.turn.Turn.{Turn}
use Rattle.co_world.specs.Step.{step}
use Rattle.co_world.specs.World.{World, lists_of}
use Rattle.co_core.specs.declared.engine.Engine.{Engine}
use Rattle.co_core.specs.Acting.{HasStepped, StandsWith}
use Rattle.co_core.specs.Hand.{IsTakenOut, NotesInHand}
use Rattle.co_core.specs.Noting.{made_by}
use Rattle.co_core.specs.Stands.{ShowsWritten}
use Rattle.co_core.specs.Written.{Written, noted}
use Rattle.co_core.proofs.tables.PutBack.{set_twice}

-- the lists are those of the plain world
pub lists_whole : (s : Script) (x : Written) (w : World) → ShowsWritten s x w → x.lists ≡ lists_of s w
lists_whole s x w h = h.each_list

-- an actor's own notes, out of those that it made
list_made : (a : ℕ) (notes : List Note) → list_by (made_by a notes) a ≡ notes
list_made a [] = refl
list_made a (note ∷ notes) =
    let rest : List MadeNote = filter (λ (m : MadeNote). m.actor == a) (made_by a notes) in
    ap (λ (own : Bool). map (λ (m : MadeNote). m.note) (cond own (record { actor = a; note = note } ∷ rest) rest)) (eq-eqb a a refl) ∙ ap (λ (l : List Note). note ∷ l) (list_made a notes)

abbrev pub in_hand : NotesInHand → List MadeNote → Type 0
in_hand hand made = hand.notes ≡ list_by made hand.actor

-- the actor's notes were taken out of the lists, a step's came to them, and they are put back
module _ (s : Script) (a : ℕ) (turn : Turn) (e e2 : Engine) (lists out : List (List Note)) (hand hand2 : NotesInHand)
    (taken : IsTakenOut lists a out hand) (stepped : HasStepped s in_hand a turn e e2 hand hand2) (as_many : hand2.actor + 1 ≡ hand.actor + 1) where
  pub same : hand2.actor ≡ a
  same = let is = taken.actor in omega (arith, as_many, is)

  abbrev before : List Note
  before = get_or lists a []

  held : hand.notes ≡ list_by (made_by a before) hand.actor
  held = taken.notes ∙ sym (list_made a before) ∙ ap (list_by (made_by a before)) (sym taken.actor)

  then_held : hand2.notes ≡ before ++ stepped.notes
  then_held =
      stepped.heard (made_by a before) held
      ∙ ap (list_by (made_by a before ++ made_by a stepped.notes)) same
      ∙ ap (λ (l : List MadeNote). list_by l a) (sym (map-append (λ (note : Note). record { actor = a; note = note }) before stepped.notes))
      ∙ list_made a (before ++ stepped.notes)

  pub put_in : (back : List (List Note)) → back ≡ set out hand2.actor hand2.notes → back ≡ noted lists a stepped.notes
  put_in back is = is ∙ ap (λ (b : ℕ). set out b hand2.notes) same ∙ ap (set out a) then_held ∙ ap (λ (l : List (List Note)). set l a (before ++ stepped.notes)) taken.out ∙ set_twice lists a [] (before ++ stepped.notes)

  pub stands_on : (back : List (List Note)) → back ≡ set out hand2.actor hand2.notes → (w : World) → StandsWith s e lists w → StandsWith s e2 back (step s w a)
  stands_on back is w h = subst (λ (l : List (List Note)). StandsWith s e2 l (step s w a)) (sym (put_in back is)) (stepped.stands lists w h)
