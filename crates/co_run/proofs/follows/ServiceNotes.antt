-- The notes of a service, of a scan and of the actor itself are the next of its program.
use Rattle.std.proofs.Common.{◌≡◌, ℕ, ◌+◌, ◌<◌, ◌^◌, false, List, [], ◌∷◌, ◌++◌, length, refl, sym, ap, subst, ◌∙◌, Option, Some, None, arith}
use Rattle.std.specs.Prelude.{is_some}
use Rattle.std.proofs.lemmas.Grind.{fold-append}
use Rattle.co_object.specs.declared.State.{State}
use Rattle.co_object.specs.declared.Reply.{Reply}
use Rattle.co_object.specs.declared.Spec.{Spec}
use Rattle.co_object.specs.declared.Op.TheVariants.{Run}
use Rattle.co_object.specs.declared.RunOp.{RunOp}
use Rattle.co_object.specs.declared.OwnKind.{OwnKind}
use Rattle.co_object.specs.declared.Entry.{Entry}
use Rattle.co_object.specs.declared.Note.{Note}
use Rattle.co_object.specs.declared.AnyEntry.{AnyEntry}
use Rattle.co_object.specs.declared.Place.TheVariants as place
use Rattle.co_object.specs.declared.AnyEntry.TheVariants as entry
use Rattle.co_object.specs.Entries.{is_armed}
use Rattle.co_object.specs.Stand.{off}
use Rattle.co_object.specs.Group.{Placed, placed}
use Rattle.co_object.specs.Lists.{notes_of}
use Rattle.co_lock.specs.declared.Held.{Held}
use Rattle.co_object.specs.History.{state, next, May, IsLegal, reply_of, state_of, server, cpu_of}
use Rattle.co_object.specs.Callout.{step, opening}
use Rattle.co_object.proofs.Histories.{legal-last}
use Rattle.co_program.specs.declared.Script.{Script}
use Rattle.co_program.specs.Cursor.{Cursor}
use Rattle.co_program.specs.Action.{Silent, Take, Asks, action_for, spec_at}
use Rattle.co_program.specs.Advance.{advance, act_over}
use Rattle.co_program.specs.declared.Asked.TheVariants.{Callout, Itself}
use Rattle.co_program.specs.Follows.{Histories}
use Rattle.co_world.specs.World.{World, new_cpu}
use Rattle.co_world.proofs.basics.Actions.{ends}
use Rattle.co_world.proofs.follows.DueNotes.{callout_made, own_made}
use Rattle.co_world.proofs.kept.Operations.{Did, holds, skips, ends, did}
use Rattle.co_world.proofs.kept.Operations as deed
use Rattle.co_world.proofs.follows.SilentSteps.{at_next_silent, at_next_take}
use Rattle.co_world.proofs.basics.Prefixes.{Begins}
use Rattle.co_world.proofs.follows.Traces.{Trace, trace_more}
use Rattle.co_desk.specs.Params.{actors_of, spec_at as spec_in}
use Rattle.co_desk.specs.Views.{PassesView, seen_of}
use Rattle.co_desk.specs.Writes.{WritesAt}
use Rattle.co_desk.proofs.Items.{index_set}
use Rattle.co_run.specs.Going.{SeenBegins}
use Rattle.co_run.proofs.follows.EachAnswer.{begins-length, longer}
use Rattle.co_run.proofs.follows.InHistories.{at_cursor, scene}
use Rattle.co_run.proofs.follows.Listed.{advance_alike}

-- ---- a step without a note

module _ (s : Script) (a : ℕ) (H : Histories) where
  pub silent_leads : (c to : Cursor) (notes : List Note) → action_for s a c ≡ Silent to → Trace s H a (at_cursor s a H c notes) → Trace s H a (at_cursor s a H to notes)
  silent_leads c to notes is trace = record { next = trace.next; place = trace.place ∙ at_next_silent s a c to is }

  pub take_leads : (c to : Cursor) (held : Held) (notes : List Note) → action_for s a c ≡ Take held to → Trace s H a (at_cursor s a H c notes) → Trace s H a (at_cursor s a H to notes)
  take_leads c to held notes is trace = record { next = trace.next; place = trace.place ∙ at_next_take s a c to held is }

  -- ---- a note of the actor's own

  abbrev pub own_note : (act pos : ℕ) → OwnKind → Note
  own_note act pos kind = record { place = place.Actor a; pos = pos; entry = entry.Own (record { actor = a; act = act; kind = kind }) }

  abbrev alone : Cursor → List Note → World
  alone c notes = record { timers = λ k. record { state = opening 0; stand = 0; history = [] }; cpus = λ _. new_cpu; actors = λ _. record { cursor = c; notes = notes } }

  pub own_leads : (c : Cursor) (notes : List Note) (act pos : ℕ) (kind : OwnKind) → action_for s a c ≡ Asks act (Itself kind) → pos ≡ length (notes_of (place.Actor a) notes) → Trace s H a (at_cursor s a H c notes) →
      Trace s H a (at_cursor s a H (act_over c c.stage) (notes ++ own_note act pos kind ∷ []))
  own_leads c notes act pos kind is pos_is trace =
      subst (λ (n : ℕ). Trace s H a (at_cursor s a H (act_over c c.stage) (notes ++ own_note act n kind ∷ []))) (sym pos_is)
      (trace_more s H a (at_cursor s a H c notes) false (own_note act (length (notes_of (place.Actor a) notes)) kind) trace (own_made s H (alone c notes) a act kind is))

-- ---- an entry of a service

unarmed : (spec : Spec) (st : State) (op : RunOp) (r : Reply) (t : State) → Did spec st (Run op) r t → is_armed r ≡ false
unarmed spec st op r t (holds n cpu at m after idle is_n is_cpu lock none runs) = refl
unarmed spec st op r t (deed.goes n cpu at func arg after idle lock none runs) = refl
unarmed spec st op r t (deed.begins n cpu func arg after same taken runs) = refl
unarmed spec st op r t (skips n cpu is) = refl
unarmed spec st op r t (ends n cpu after drain woke same runs over) = refl

-- the callout's answer to the actor's entry, from what the actor had seen of it and others' entries
pub record IsServed (spec : Spec) (before : State) (op : RunOp) (reply : Reply) (seen : List Entry) : Type 0 where
  pub after : State
  pub answers : step spec before (Run op) ≡ Some (after, reply)
  pub stands : after ≡ state spec seen

served_by : (spec : Spec) (before : State) (op : RunOp) (reply : Reply) (seen : List Entry) (o : Option (State × Reply)) → step spec before (Run op) ≡ o → reply_of o ≡ Some reply → state_of o before ≡ state spec seen → IsServed spec before op reply seen
served_by spec before op reply seen None is replies stands = cc
served_by spec before op reply seen (Some out) is replies stands = record { after = out.0; answers = is ∙ (let same : out.1 ≡ reply = cc in ap (λ (r : Reply). Some (out.0, r)) same); stands = stands }

abbrev pub run_of : (a act : ℕ) → RunOp → Reply → Entry
run_of a act op reply = record { actor = a; act = act; op = Run op; reply = reply }

run_at : (s : Script) (a : ℕ) (H : Histories) (c : Cursor) (notes : List Note) (act i pos : ℕ) (op : RunOp) (before : List Entry) (after : State) (reply : Reply) → Trace s H a (at_cursor s a H c notes) → action_for s a c ≡ Asks act (Callout i (Run op)) →
    step (spec_at s i) (state (spec_at s i) before) (Run op) ≡ Some (after, reply) → pos ≡ length before → Begins (before ++ run_of a act op reply ∷ []) (H.timers i) →
    Trace s H a (at_cursor s a H (advance s c false (place.Timer i) (entry.Timer (run_of a act op reply))) (notes ++ record { place = place.Timer i; pos = pos; entry = entry.Timer (run_of a act op reply) } ∷ []))
run_at s a H c notes act i pos op before after reply trace is steps pos_is begins =
    let e : Entry = run_of a act op reply in
    let to : ℕ → Cursor → Type 0 = λ n k. Trace s H a (at_cursor s a H k (notes ++ record { place = place.Timer i; pos = n; entry = entry.Timer e } ∷ [])) in
    let made : to (length before) (advance s c (is_some (off after)) (place.Timer i) (entry.Timer e)) =
    trace_more s H a (at_cursor s a H c notes) (is_some (off after)) (record { place = place.Timer i; pos = length before; entry = entry.Timer e }) trace
    (callout_made s H (scene s a H c before []) a act i (Run op) (after, reply) is steps refl begins tt) in
    let alike = advance_alike s c (is_some (off after)) false i e (unarmed (spec_at s i) (state (spec_at s i) before) op reply after (did (spec_at s i) (state (spec_at s i) before) (Run op) (after, reply) steps)) in
    subst (λ (n : ℕ). to n (advance s c false (place.Timer i) (entry.Timer e))) (sym pos_is) (subst (to (length before)) alike made)

-- the entry shows what the service did, is made by the server, and is the next note of the program
pub record IsRun (s : Script) (a : ℕ) (c : Cursor) (notes : List Note) (p : PassesView) (i : ℕ) (op : RunOp) (reply : Reply) (note : Note) (q : PassesView) : Type 0 where
  pub before : State
  pub served : IsServed (spec_at s i) before op reply (seen_of q i)
  pub server : a ≡ server (actors_of p.params) (spec_at s i) (cpu_of op)
  pub leads : (H : Histories) → SeenBegins H q → Trace s H a (at_cursor s a H c notes) → Trace s H a (at_cursor s a H (advance s c false (place.Timer i) note.entry) (notes ++ note ∷ []))

pub run_step : (s : Script) (a : ℕ) (p q : PassesView) (c : Cursor) (notes : List Note) (act i : ℕ) (op : RunOp) (reply : Reply) (note : Note) → spec_in p.params i ≡ spec_at s i → action_for s a c ≡ Asks act (Callout i (Run op)) →
    placed note ≡ (place.Timer i, entry.Timer (run_of a act op reply)) → WritesAt p note.place note.entry note.pos q → IsRun s a c notes p i op reply note q
run_step s a p q c notes act i op reply note spec is at writes =
    let e : Entry = run_of a act op reply in
    let w = subst (λ (x : Placed). WritesAt p x.0 x.1 note.pos q) at writes in
    let before : List Entry = seen_of p i ++ w.1.adds.extends.0 in
    let shape : w.0 ≡ before ++ e ∷ [] = w.1.adds.extends.2 in
    let there : seen_of q i ≡ before ++ e ∷ [] = ap (λ (v : PassesView). seen_of v i) w.1.passes ∙ (index_set p.timers i w.0 [] w.1.below ∙ shape) in
    let may : May (actors_of p.params) (spec_in p.params i) (state (spec_in p.params i) before) e =
    legal-last (next (spec_in p.params i)) (May (actors_of p.params) (spec_in p.params i)) (opening 0) before e (subst (λ (l : List Entry). IsLegal (actors_of p.params) (spec_in p.params i) l) shape w.1.adds.legal.legal) in
    let might : May (actors_of p.params) (spec_at s i) (state (spec_at s i) before) e = subst (λ (x : Spec). May (actors_of p.params) x (state x before) e) spec may in
    let stands : next (spec_at s i) (state (spec_at s i) before) e ≡ state (spec_at s i) (seen_of q i) = sym (ap (state (spec_at s i)) there ∙ fold-append (next (spec_at s i)) (opening 0) before (e ∷ [])) in
    let served : IsServed (spec_at s i) (state (spec_at s i) before) op reply (seen_of q i) = served_by (spec_at s i) (state (spec_at s i) before) op reply (seen_of q i) (step (spec_at s i) (state (spec_at s i) before) (Run op)) refl might.0 stands in
    let more : length (before ++ e ∷ []) ≡ length before + 1 = longer before e in
    let same : (pos : ℕ) → pos ≡ note.pos → record { place = place.Timer i; pos = pos; entry = entry.Timer e } ≡ note = λ pos pos_is d. record { place = sym (ap (λ (x : Placed). x.0) at) d; pos = pos_is d; entry = sym (ap (λ (x : Placed). x.1) at) d } in
    record {
      before = state (spec_at s i) before;
      served = served;
      server = might.1;
      leads = λ H goes trace.
          let begins : Begins (before ++ e ∷ []) (H.timers i) = subst (λ (l : List Entry). Begins l (H.timers i)) there (goes.timers i) in
          let low : length before < 2 ^ 63 = omega (arith, begins-length (before ++ e ∷ []) (H.timers i) begins, more, goes.few i) in
          let pos : note.pos ≡ length before = (w.1.adds.place (length before) (sym (ap length shape ∙ more))).0 low in
          let leads = run_at s a H c notes act i note.pos op before served.after reply trace is served.answers pos begins in
          let put : Trace s H a (at_cursor s a H (advance s c false (place.Timer i) (entry.Timer e)) (notes ++ note ∷ [])) =
          subst (λ (n : Note). Trace s H a (at_cursor s a H (advance s c false (place.Timer i) (entry.Timer e)) (notes ++ n ∷ []))) (same note.pos refl) leads in
          subst (λ (x : AnyEntry). Trace s H a (at_cursor s a H (advance s c false (place.Timer i) x) (notes ++ note ∷ []))) (sym (ap (λ (x : Placed). x.1) at)) put;
    }
