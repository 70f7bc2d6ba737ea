-- The notes of a drain that comes next: tries that wait, and one that is done.
use Rattle.std.proofs.Common.{◌≡◌, ℕ, zero, suc, ◌≤◌, Bool, cond, List, ◌++◌, length, refl, sym, ap, subst, ◌∙◌, Option, Some, None, arith, append_assoc}
use Rattle.std.specs.Prelude.{is_some, ◌||◌}
use Rattle.co_object.specs.declared.Note.{Note}
use Rattle.co_object.specs.declared.Op.TheVariants.{Call}
use Rattle.co_object.specs.declared.CallOp.TheVariants.{DrainTry}
use Rattle.co_object.specs.declared.OwnKind.TheVariants.{HoldsLock}
use Rattle.co_object.specs.declared.Reply.{Reply}
use Rattle.co_object.specs.Drain.{drain_at, serviced}
use Rattle.co_object.specs.Stand.{off}
use Rattle.co_lock.specs.declared.Held.{Held}
use Rattle.co_program.specs.declared.script.Script.{Script}
use Rattle.co_program.specs.declared.cursor.PendingInsert.{PendingInsert}
use Rattle.co_program.specs.declared.action.Asked.TheVariants.{Callout, Itself}
use Rattle.co_program.specs.Stages.{Waiting}
use Rattle.co_program.specs.Cursor.{Cursor}
use Rattle.co_program.specs.Action.{Asks, action_for, action_with, drained_of}
use Rattle.co_program.specs.Actors.{role_of}
use Rattle.co_program.specs.Follows.{Histories, at_next_note}
use Rattle.co_program.specs.Groups.{IsCallOf, EndsDrain, IsDrainOf, done, waits}
use Rattle.co_program.proofs.AskedCalls.{asked_call, asked_drain_of}
use Rattle.co_program.proofs.Groups.{IsCallFirst, after, call-first, no-parcel}
use Rattle.co_program.proofs.Rests.{IsRest, at-next-asks}

module _ (s : Script) (H : Histories) (a act i : ℕ) where
  pub record IsDrainFirst (took : Bool) (notes : List Note) : Type 0 where
    pub front : List Note
    pub rest : List Note
    pub split : notes ≡ front ++ rest
    pub drain : IsDrainOf s H a act i took front

  -- in a drain that waits
  abbrev waiting : Cursor → ℕ → Bool → Cursor
  waiting d n took = record d { removed = None; stage = Waiting n took }

  asks-again : (d : Cursor) (took took' : Bool) (n : ℕ) → action_for s a d ≡ Asks act (Callout i (Call (DrainTry took))) → action_for s a (waiting d n took') ≡ Asks act (Callout i (Call (DrainTry took')))
  asks-again d took took' n is =
      let its = asked_drain_of s a d act i took is in
      ap (λ (p : Option PendingInsert). action_with s (role_of s a) (waiting d n took') p) (no-parcel s a d act i (DrainTry took) is)
      ∙ ap (λ (h : Option Held). cond (is_some h) (Asks d.act (Itself HoldsLock)) (Asks d.act (Callout (drained_of d.left) (Call (DrainTry took'))))) its.0
      ∙ ap (λ (k : ℕ). Asks d.act (Callout k (Call (DrainTry took')))) its.1
      ∙ ap (λ (k : ℕ). Asks k (Callout i (Call (DrainTry took')))) (sym (asked_call s a d act i (DrainTry took) is).0)

  pub drain-first : (fuel : ℕ) (d : Cursor) (took : Bool) (notes : List Note) → length notes ≤ fuel → IsRest s H a d notes → action_for s a d ≡ Asks act (Callout i (Call (DrainTry took))) → d.removed ≡ None → IsDrainFirst took notes
  drain-first zero d took notes few rest is none = let f = call-first s H a act i (DrainTry took) d notes rest is none in absurd (omega (arith, few, f.shorter))
  drain-first (suc fuel) d took notes few rest is none =
      let f = call-first s H a act i (DrainTry took) d notes rest is none in
      at_run f (serviced f.before.run) f.answers
      (λ n took' later. drain-first fuel (waiting d n took') took' f.rest (omega (arith, few, f.shorter)) later (asks-again d took took' n is) refl) where
        at_run : (f : IsCallFirst s H a act i (DrainTry took) d notes) (o : Option ℕ) → (drain_at f.before o (is_some f.before.armed || took)).1 ≡ f.reply →
            ((n : ℕ) (took' : Bool) → IsRest s H a (waiting d n took') f.rest → IsDrainFirst took' f.rest) → IsDrainFirst took notes
        at_run f None answers again = record {
          front = f.front;
          rest = f.rest;
          split = f.split;
          drain = done took f.reply f.front (subst EndsDrain answers tt) f.call_is;
        }
        at_run f (Some n) answers again =
            let b : Bool = is_some f.before.armed || took in
            let there = subst (λ (r : Reply). IsRest s H a (at_next_note s a (after s H a act i (DrainTry took) d r)) f.rest) (sym answers) f.later in
            let more = again n b (subst (λ (c : Cursor). IsRest s H a c f.rest) (at-next-asks s a (waiting d n b) act (Callout i (Call (DrainTry b))) (asks-again d took b n is)) there) in
            record {
              front = f.front ++ more.front;
              rest = more.rest;
              split = f.split ∙ ap (λ (l : List Note). f.front ++ l) more.split ∙ sym (append_assoc f.front more.front more.rest);
              drain = waits took b n (off f.before) f.front more.front (subst (λ (r : Reply). IsCallOf s H a act i (DrainTry took) r f.front) (sym answers) f.call_is) more.drain;
            }
