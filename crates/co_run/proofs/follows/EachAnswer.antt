-- The notes that a service answers to a caller are the next of its program, for every history that goes on from what the
-- caller has then seen and is shorter than 2^63.
use Rattle.std.specs.Prelude.{is_some}
use Rattle.std.proofs.Common.{◌≡◌, ℕ, ◌+◌, ◌≤◌, ◌<◌, ◌^◌, false, List, [], ◌∷◌, ◌++◌, length, sym, ap, subst, ◌∙◌, Some, arith, length-append}
use Rattle.std.proofs.lemmas.Grind.{fold-append}
use Rattle.co_object.specs.declared.State.{State}
use Rattle.co_object.specs.declared.Reply.{Reply}
use Rattle.co_object.specs.declared.Spec.{Spec}
use Rattle.co_object.specs.declared.Op.TheVariants.{Call}
use Rattle.co_object.specs.declared.CallOp.{CallOp}
use Rattle.co_object.specs.declared.Entry.{Entry}
use Rattle.co_object.specs.declared.QEntry.{QEntry}
use Rattle.co_object.specs.declared.QOp.{QOp}
use Rattle.co_object.specs.declared.QReply.{QReply}
use Rattle.co_object.specs.declared.Note.{Note}
use Rattle.co_object.specs.declared.Place.TheVariants as place
use Rattle.co_object.specs.declared.AnyEntry.TheVariants as entry
use Rattle.co_object.specs.Stand.{off}
use Rattle.co_object.specs.Group.{Placed, placed, off_of}
use Rattle.co_object.specs.History.{state, next, May, IsLegal}
use Rattle.co_object.specs.Callout.{call, opening}
use Rattle.co_object.proofs.Histories.{legal-last}
use Rattle.co_program.specs.declared.Script.{Script}
use Rattle.co_program.specs.Cursor.{Cursor}
use Rattle.co_program.specs.Action.{Asks, action_for, spec_at, scans_first}
use Rattle.co_program.specs.Advance.{advance}
use Rattle.co_program.specs.declared.Asked.TheVariants.{Callout, Queue}
use Rattle.co_program.specs.Follows.{Histories, scan_count}
use Rattle.co_world.proofs.basics.Prefixes.{Begins}
use Rattle.co_world.proofs.follows.Traces.{Trace}
use Rattle.co_desk.specs.Params.{actors_of, spec_at as spec_in}
use Rattle.co_desk.specs.Views.{PassesView, seen_of, journal_seen}
use Rattle.co_desk.specs.Writes.{WritesAt}
use Rattle.co_desk.proofs.Items.{index_set}
use Rattle.co_run.proofs.follows.InHistories.{at_cursor, call_of, call_note, turn_of, turn_note, entry_leads, turn_leads}

pub begins-length : {X : Type 0} (xs ys : List X) → Begins xs ys → length xs ≤ length ys
begins-length [] ys h = omega arith
begins-length (x ∷ xs) [] h = absurd h
begins-length (x ∷ xs) (y ∷ ys) h = let rest = begins-length xs ys h.1 in omega (arith, rest)

pub longer : {X : Type 0} (xs : List X) (x : X) → length (xs ++ x ∷ []) ≡ length xs + 1
longer xs x = omega (arith, length-append xs (x ∷ []))

pub some-is : {X : Type 0} (x y : X) → Some x ≡ Some y → x ≡ y
some-is x y h = cc

module _ (s : Script) (a : ℕ) (H : Histories) where
  -- the entry of a call
  pub entry_step : (p q : PassesView) (c : Cursor) (notes : List Note) (act i : ℕ) (op : CallOp) (reply : Reply) (note : Note) →
      Trace s H a (at_cursor s a H c notes) → action_for s a c ≡ Asks act (Callout i (Call op)) → off_of reply ≡ c.removed →
      spec_in p.params i ≡ spec_at s i → placed note ≡ (place.Timer i, entry.Timer (call_of s a H act op reply)) → WritesAt p note.place note.entry note.pos q →
      Begins (seen_of q i) (H.timers i) → length (H.timers i) < 2 ^ 63 →
      Trace s H a (at_cursor s a H (advance s c (is_some (off (state (spec_at s i) (seen_of q i)))) note.place note.entry) (notes ++ note ∷ []))
  entry_step p q c notes act i op reply note trace is removed spec at writes begins few =
      let e : Entry = call_of s a H act op reply in
      let w = subst (λ (x : Placed). WritesAt p x.0 x.1 note.pos q) at writes in
      let after : List Entry = w.0 in
      let before : List Entry = seen_of p i ++ w.1.adds.extends.0 in
      let shape : after ≡ before ++ e ∷ [] = w.1.adds.extends.2 in
      let there : seen_of q i ≡ before ++ e ∷ [] = ap (λ (v : PassesView). seen_of v i) w.1.passes ∙ (index_set p.timers i after [] w.1.below ∙ shape) in
      let begins' : Begins (before ++ e ∷ []) (H.timers i) = subst (λ (l : List Entry). Begins l (H.timers i)) there begins in
      let more : length (before ++ e ∷ []) ≡ length before + 1 = longer before e in
      let low : length before < 2 ^ 63 = omega (arith, begins-length (before ++ e ∷ []) (H.timers i) begins', more, few) in
      let pos : note.pos ≡ length before = (w.1.adds.place (length before) (sym (ap length shape ∙ more))).0 low in
      let may : May (actors_of p.params) (spec_in p.params i) (state (spec_in p.params i) before) e =
      legal-last (next (spec_in p.params i)) (May (actors_of p.params) (spec_in p.params i)) (opening 0) before e (subst (λ (l : List Entry). IsLegal (actors_of p.params) (spec_in p.params i) l) shape w.1.adds.legal.legal) in
      let answers : (call (state (spec_at s i) before) op).1 ≡ reply = subst (λ (x : Spec). (call (state x before) op).1 ≡ reply) spec (some-is _ _ may.0) in
      let leads = entry_leads s a H c notes act i op before reply note.pos trace is answers removed (sym pos) begins' in
      let stands : (call (state (spec_at s i) before) op).0 ≡ state (spec_at s i) (seen_of q i) =
      sym (ap (state (spec_at s i)) there ∙ fold-append (next (spec_at s i)) (opening 0) before (e ∷ [])) in
      let same : call_note s a H act i op reply note.pos ≡ note = λ d. record { place = sym (ap (λ (x : Placed). x.0) at) d; pos = note.pos; entry = sym (ap (λ (x : Placed). x.1) at) d } in
      let there_now : Trace s H a (at_cursor s a H (advance s c (is_some (off (state (spec_at s i) (seen_of q i)))) (place.Timer i) (entry.Timer e)) (notes ++ call_note s a H act i op reply note.pos ∷ [])) =
      subst (λ (t : State). Trace s H a (at_cursor s a H (advance s c (is_some (off t)) (place.Timer i) (entry.Timer e)) (notes ++ call_note s a H act i op reply note.pos ∷ []))) stands leads in
      subst (λ (n : Note). Trace s H a (at_cursor s a H (advance s c (is_some (off (state (spec_at s i) (seen_of q i)))) n.place n.entry) (notes ++ n ∷ []))) same there_now

  -- what a queue answers, once the Scans have come that it waits for
  pub turn_step : (p q : PassesView) (c : Cursor) (notes : List Note) (act cpu : ℕ) (op : QOp) (reply : QReply) (note : Note) →
      Trace s H a (at_cursor s a H c notes) → action_for s a c ≡ Asks act (Queue cpu op) →
      ((before : List QEntry) → journal_seen q cpu ≡ before ++ turn_of s a H act op reply ∷ [] → scans_first c ≤ scan_count before) →
      placed note ≡ (place.Cpu cpu, entry.Cpu (turn_of s a H act op reply)) → WritesAt p note.place note.entry note.pos q →
      Begins (journal_seen q cpu) (H.cpus cpu) → length (H.cpus cpu) < 2 ^ 63 →
      Trace s H a (at_cursor s a H (advance s c false note.place note.entry) (notes ++ note ∷ []))
  turn_step p q c notes act cpu op reply note trace is scanned at writes begins few =
      let e : QEntry = turn_of s a H act op reply in
      let w = subst (λ (x : Placed). WritesAt p x.0 x.1 note.pos q) at writes in
      let after : List QEntry = w.0 in
      let before : List QEntry = journal_seen p cpu ++ w.1.adds.extends.0 in
      let shape : after ≡ before ++ e ∷ [] = w.1.adds.extends.2 in
      let there : journal_seen q cpu ≡ before ++ e ∷ [] = ap (λ (v : PassesView). journal_seen v cpu) w.1.passes ∙ (index_set p.cpus cpu after [] w.1.below ∙ shape) in
      let begins' : Begins (before ++ e ∷ []) (H.cpus cpu) = subst (λ (l : List QEntry). Begins l (H.cpus cpu)) there begins in
      let more : length (before ++ e ∷ []) ≡ length before + 1 = longer before e in
      let low : length before < 2 ^ 63 = omega (arith, begins-length (before ++ e ∷ []) (H.cpus cpu) begins', more, few) in
      let pos : note.pos ≡ length before = (w.1.adds.place (length before) (sym (ap length shape ∙ more))).0 low in
      let leads = turn_leads s a H c notes act cpu op before reply note.pos trace is (scanned before there) (sym pos) begins' in
      let same : turn_note s a H act cpu op reply note.pos ≡ note = λ d. record { place = sym (ap (λ (x : Placed). x.0) at) d; pos = note.pos; entry = sym (ap (λ (x : Placed). x.1) at) d } in
      subst (λ (n : Note). Trace s H a (at_cursor s a H (advance s c false n.place n.entry) (notes ++ n ∷ []))) same leads
