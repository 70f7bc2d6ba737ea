-- What a service answers are the next notes of the caller's program, for every history that goes on from what the caller has
-- seen. The plain world's lemmas say so of a world; here they are taken at a world that has this history and this cursor alone.
use Rattle.std.proofs.Common.{◌≡◌, ℕ, ◌≤◌, false, List, [], ◌∷◌, ◌++◌, length, refl, subst, Some, None}
use Rattle.std.specs.Prelude.{is_some}
use Rattle.co_object.specs.declared.State.{State}
use Rattle.co_object.specs.declared.Reply.{Reply}
use Rattle.co_object.specs.declared.Op.TheVariants.{Call}
use Rattle.co_object.specs.declared.CallOp.{CallOp}
use Rattle.co_object.specs.declared.QReply.{QReply}
use Rattle.co_object.specs.declared.QReply.TheVariants.{Off}
use Rattle.co_object.specs.declared.QOp.{QOp}
use Rattle.co_object.specs.declared.QOp.TheVariants.{Remove}
use Rattle.co_object.specs.declared.Entry.{Entry}
use Rattle.co_object.specs.declared.QEntry.{QEntry}
use Rattle.co_object.specs.declared.Note.{Note}
use Rattle.co_object.specs.declared.Place.TheVariants as place
use Rattle.co_object.specs.declared.AnyEntry.TheVariants as entry
use Rattle.co_object.specs.Stand.{off}
use Rattle.co_object.specs.Group.{off_of}
use Rattle.co_object.specs.History.{state}
use Rattle.co_object.specs.Callout.{call}
use Rattle.co_program.specs.declared.Script.{Script}
use Rattle.co_program.specs.Cursor.{Cursor}
use Rattle.co_program.specs.Action.{Asks, action_for, spec_at, scans_first}
use Rattle.co_program.specs.Advance.{advance}
use Rattle.co_program.specs.declared.Asked.TheVariants.{Callout, Queue}
use Rattle.co_program.specs.Follows.{Histories, scan_count}
use Rattle.co_world.specs.World.{World, Actor}
use Rattle.co_world.proofs.basics.Prefixes.{Begins}
use Rattle.co_world.proofs.follows.Traces.{Trace, trace_more}
use Rattle.co_world.proofs.follows.DueNotes.{callout_made, queue_made, remove_made}
use Rattle.co_object.specs.Queue.{empty_queue}

module _ (s : Script) (a : ℕ) (H : Histories) where
  -- a world in which each callout has this history, each CPU this journal, and each actor stands here
  abbrev pub scene : Cursor → List Entry → List QEntry → World
  scene c before journal = record {
    timers = λ k. record { state = state (spec_at s k) before; stand = 0; history = before };
    cpus = λ _. record { queue = empty_queue; journal = journal };
    actors = λ _. record { cursor = c; notes = [] };
  }

  abbrev pub at_cursor : Cursor → List Note → Actor
  at_cursor c notes = record { cursor = c; notes = notes }

  abbrev pub call_of : ℕ → CallOp → Reply → Entry
  call_of act op reply = record { actor = a; act = act; op = Call op; reply = reply }

  abbrev pub turn_of : ℕ → QOp → QReply → QEntry
  turn_of act op reply = record { actor = a; act = act; op = op; reply = reply }

  abbrev pub call_note : (act i : ℕ) → CallOp → Reply → ℕ → Note
  call_note act i op reply pos = record { place = place.Timer i; pos = pos; entry = entry.Timer (call_of act op reply) }

  abbrev pub turn_note : (act cpu : ℕ) → QOp → QReply → ℕ → Note
  turn_note act cpu op reply pos = record { place = place.Cpu cpu; pos = pos; entry = entry.Cpu (turn_of act op reply) }

  -- the entry of a call
  pub entry_leads : (c : Cursor) (notes : List Note) (act i : ℕ) (op : CallOp) (before : List Entry) (reply : Reply) (pos : ℕ) →
      Trace s H a (at_cursor c notes) → action_for s a c ≡ Asks act (Callout i (Call op)) →
      (call (state (spec_at s i) before) op).1 ≡ reply → off_of reply ≡ c.removed → length before ≡ pos →
      Begins (before ++ call_of act op reply ∷ []) (H.timers i) →
      Trace s H a (at_cursor (advance s c (is_some (off (call (state (spec_at s i) before) op).0)) (place.Timer i) (entry.Timer (call_of act op reply))) (notes ++ call_note act i op reply pos ∷ []))
  entry_leads c notes act i op before reply pos trace is answers removed stands begins =
      let outcome : State × Reply = call (state (spec_at s i) before) op in
      let P : Reply → ℕ → Type 0 = λ r n. off_of r ≡ c.removed → Begins (before ++ call_of act op r ∷ []) (H.timers i) →
      Trace s H a (at_cursor (advance s c (is_some (off outcome.0)) (place.Timer i) (entry.Timer (call_of act op r))) (notes ++ call_note act i op r n ∷ [])) in
      let base : P outcome.1 (length before) = λ gone known.
      trace_more s H a (at_cursor c notes) (is_some (off outcome.0)) (call_note act i op outcome.1 (length before)) trace
      (callout_made s H (scene c before []) a act i (Call op) outcome is refl refl known gone) in
      subst (λ (r : Reply). P r pos) answers (subst (P outcome.1) stands base) removed begins

  -- the Remove before it
  pub remove_leads : (c : Cursor) (notes : List Note) (act i cpu : ℕ) (op : CallOp) (before : List QEntry) (pos : ℕ) →
      Trace s H a (at_cursor c notes) → action_for s a c ≡ Asks act (Callout i (Call op)) → c.removed ≡ None → length before ≡ pos →
      Trace s H a (at_cursor (record c { removed = Some cpu }) (notes ++ turn_note act cpu (Remove i) Off pos ∷ []))
  remove_leads c notes act i cpu op before pos trace is none stands =
      subst (λ (n : ℕ). Trace s H a (at_cursor (record c { removed = Some cpu }) (notes ++ turn_note act cpu (Remove i) Off n ∷ []))) stands
      (trace_more s H a (at_cursor c notes) false (turn_note act cpu (Remove i) Off (length before)) trace
      (remove_made s H (scene c [] before) a act i cpu op Off is none refl))

  -- what a queue answers
  pub turn_leads : (c : Cursor) (notes : List Note) (act cpu : ℕ) (op : QOp) (before : List QEntry) (reply : QReply) (pos : ℕ) →
      Trace s H a (at_cursor c notes) → action_for s a c ≡ Asks act (Queue cpu op) → scans_first c ≤ scan_count before → length before ≡ pos →
      Begins (before ++ turn_of act op reply ∷ []) (H.cpus cpu) →
      Trace s H a (at_cursor (advance s c false (place.Cpu cpu) (entry.Cpu (turn_of act op reply))) (notes ++ turn_note act cpu op reply pos ∷ []))
  turn_leads c notes act cpu op before reply pos trace is scanned stands begins =
      subst (λ (n : ℕ). Trace s H a (at_cursor (advance s c false (place.Cpu cpu) (entry.Cpu (turn_of act op reply))) (notes ++ turn_note act cpu op reply n ∷ []))) stands
      (trace_more s H a (at_cursor c notes) false (turn_note act cpu op reply (length before)) trace
      (queue_made s H (scene c [] before) a act cpu op reply is scanned begins))
