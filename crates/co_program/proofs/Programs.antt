-- A client's list is made of the notes of its acts, one after the other.
use Rattle.std.proofs.Common.{◌≡◌, ℕ, zero, suc, ◌+◌, ◌≤◌, Bool, true, false, cond, List, [], ◌∷◌, ◌++◌, map, length, refl, sym, ap, subst, ◌∙◌, Option, Some, None, arith, append_assoc}
use Rattle.std.specs.Prelude.{is_some, ◌||◌}
use Rattle.std.specs.List.{AllByRecursion}
use Rattle.co_sbt.specs.Time.{sat_add, from_ticks}
use Rattle.co_object.specs.declared.Note.{Note}
use Rattle.co_object.specs.declared.Op.TheVariants.{Call}
use Rattle.co_object.specs.declared.CallOp.TheVariants.{Plain, DrainTry}
use Rattle.co_object.specs.declared.PlainOp.{PlainOp}
use Rattle.co_object.specs.declared.PlainOp.TheVariants as op
use Rattle.co_object.specs.declared.OwnKind.{OwnKind}
use Rattle.co_object.specs.declared.OwnKind.TheVariants.{NotHeld, HoldsLock, Holding, NotHolding}
use Rattle.co_object.specs.declared.Reply.{Reply}
use Rattle.co_object.specs.Drain.{drain_at, serviced}
use Rattle.co_object.specs.Stand.{off}
use Rattle.co_lock.specs.declared.Held.{Held}
use Rattle.co_lock.specs.Covers.{covers}
use Rattle.co_program.specs.declared.act.Act.{Act}
use Rattle.co_program.specs.declared.act.Act.TheVariants as does
use Rattle.co_program.specs.declared.act.Scene.{Scene}
use Rattle.co_program.specs.declared.script.Script.{Script}
use Rattle.co_program.specs.declared.program.Task.{Task}
use Rattle.co_program.specs.declared.program.Task.TheVariants.{Does}
use Rattle.co_program.specs.declared.action.Asked.TheVariants.{Callout, Itself}
use Rattle.co_program.specs.Actors.{role_of, cpu_of}
use Rattle.co_program.specs.Calls.{callout_of_who, time_of_when, cpu_named}
use Rattle.co_program.specs.Stages.{Stage, Ready, Waiting}
use Rattle.co_program.specs.Cursor.{Cursor}
use Rattle.co_program.specs.Action.{Action, Nothing, Asks, action_for, spec_at, asks_covered}
use Rattle.co_program.specs.Advance.{act_over}
use Rattle.co_program.specs.Follows.{Histories, Fits, at_next_note}
use Rattle.co_program.specs.Groups.{IsCallOf, EndsDrain, IsDrainOf, done, waits}
use Rattle.co_program.specs.Programs.{FirstThen, time_after, hold_after, AreOfRefusal, AreOfCallUnder, AreOfCall, AreOfAct, AreOfActs}
use Rattle.co_program.specs.Scripts.{is_tick}
use Rattle.co_program.proofs.FunctionActs.{IsOver, over-call, called-over, own-first}
use Rattle.co_program.proofs.Groups.{IsCallFirst, after, call-first}
use Rattle.co_program.proofs.Rests.{IsRest, at-next-asks}

module _ (s : Script) (H : Histories) (a : ℕ) where
  -- between two acts, with no callout on its way
  abbrev pub ready : List Task → ℕ → ℕ → Option Held → Cursor
  ready left act now hold = record { left = left; act = act; now = now; hold = hold; stage = Ready; removed = None; parcel = None }

  -- what is left of the list there
  abbrev pub Goes : List Task → ℕ → ℕ → Option Held → List Note → Type 0
  Goes left act now hold notes = IsRest s H a (at_next_note s a (ready left act now hold)) notes

  -- no note comes after the end
  pub ended : (c : Cursor) (notes : List Note) → action_for s a c ≡ Nothing → IsRest s H a c notes → notes ≡ []
  ended c [] is rest = refl
  ended c (note ∷ notes) is rest = absurd (subst (λ (x : Action). Fits a c x note.place note.entry) is rest.0.fits)

  -- ---- a drain

  abbrev in_drain : ℕ → List Task → ℕ → ℕ → Stage → Cursor
  in_drain i left act now stage = record { left = Does (does.Drain i) ∷ left; act = act; now = now; hold = None; stage = stage; removed = None; parcel = None }

  drained : (i : ℕ) (left : List Task) (n now fuel : ℕ) (stage : Stage) (took : Bool) (notes : List Note) → length notes ≤ fuel → IsRest s H a (in_drain i left n now stage) notes →
      action_for s a (in_drain i left n now stage) ≡ Asks n (Callout i (Call (DrainTry took))) → act_over (in_drain i left n now stage) stage ≡ ready left (n + 1) now None →
      FirstThen (IsDrainOf s H a n i took) (λ rest. Goes left (n + 1) now None rest) notes
  drained i left n now zero stage took notes few rest is over = let f = call-first s H a n i (DrainTry took) (in_drain i left n now stage) notes rest is refl in absurd (omega (arith, few, f.shorter))
  drained i left n now (suc fuel) stage took notes few rest is over =
      let f = call-first s H a n i (DrainTry took) (in_drain i left n now stage) notes rest is refl in
      at_run f (serviced f.before.run) f.answers
      (λ m took' later. drained i left n now fuel (Waiting m took') took' f.rest (omega (arith, few, f.shorter)) later refl refl) where
        d : Cursor
        d = in_drain i left n now stage

        at_run : (f : IsCallFirst s H a n i (DrainTry took) (in_drain i left n now stage) notes) (o : Option ℕ) → (drain_at f.before o (is_some f.before.armed || took)).1 ≡ f.reply →
            ((m : ℕ) (took' : Bool) → IsRest s H a (in_drain i left n now (Waiting m took')) f.rest → FirstThen (IsDrainOf s H a n i took') (λ rest. Goes left (n + 1) now None rest) f.rest) →
            FirstThen (IsDrainOf s H a n i took) (λ rest. Goes left (n + 1) now None rest) notes
        at_run f None answers again = record {
          front = f.front;
          rest = f.rest;
          split = f.split;
          first = done took f.reply f.front (subst EndsDrain answers tt) f.call_is;
          later = subst (λ (c : Cursor). IsRest s H a (at_next_note s a c) f.rest) (called-over (in_drain i left n now stage) i (Call (DrainTry took)) f.reply (subst IsOver answers tt) ∙ over) f.later;
        }
        at_run f (Some m) answers again =
            let b : Bool = is_some f.before.armed || took in
            let there = subst (λ (r : Reply). IsRest s H a (at_next_note s a (after s H a n i (DrainTry took) (in_drain i left n now stage) r)) f.rest) (sym answers) f.later in
            let more = again m b (subst (λ (c : Cursor). IsRest s H a c f.rest) (at-next-asks s a (in_drain i left n now (Waiting m b)) n (Callout i (Call (DrainTry b))) refl) there) in
            record {
              front = f.front ++ more.front;
              rest = more.rest;
              split = f.split ∙ ap (λ (l : List Note). f.front ++ l) more.split ∙ sym (append_assoc f.front more.front more.rest);
              first = waits took b m (off f.before) f.front more.front (subst (λ (r : Reply). IsCallOf s H a n i (DrainTry took) r f.front) (sym answers) f.call_is) more.first;
              later = more.later;
            }

  -- ---- one act

  module _ (x : Act) (left : List Task) (n now : ℕ) (hold : Option Held) (notes : List Note) where
    abbrev here : Cursor
    here = ready (Does x ∷ left) n now hold

    -- the act is refused
    refused : (kind : OwnKind) → action_for s a here ≡ Asks n (Itself kind) → Goes (Does x ∷ left) n now hold notes → FirstThen (AreOfRefusal s H a n kind true) (λ rest. Goes left (n + 1) now hold rest) notes
    refused kind is rest =
        let f = own-first s H a here n kind notes (subst (λ (c : Cursor). IsRest s H a c notes) (at-next-asks s a here n (Itself kind) is) rest) is in
        record { front = f.note ∷ []; rest = f.rest; split = f.split; first = f.at; later = f.later }

    -- it makes no note
    silent : (now' : ℕ) (hold' : Option Held) → Goes left (n + 1) now' hold' notes → FirstThen (λ front. front ≡ []) (λ rest. Goes left (n + 1) now' hold' rest) notes
    silent now' hold' rest = record { front = []; rest = notes; split = refl; first = refl; later = rest }

    -- it is a call
    called : (i : ℕ) (call : PlainOp) → action_for s a here ≡ asks_covered s hold n (Some (i, call)) → Goes (Does x ∷ left) n now hold notes → FirstThen (AreOfCallUnder s H a hold n i call) (λ rest. Goes left (n + 1) now hold rest) notes
    called i call is rest = at_cover (covers hold (spec_at s i) (Plain call)) is where
      at_cover : (b : Bool) → action_for s a (ready (Does x ∷ left) n now hold) ≡ cond b (Asks n (Callout i (Call (Plain call)))) (Asks n (Itself NotHeld)) → FirstThen (AreOfCall s H a b n i call) (λ rest. Goes left (n + 1) now hold rest) notes
      at_cover true is =
          let f = call-first s H a n i (Plain call) here notes (subst (λ (c : Cursor). IsRest s H a c notes) (at-next-asks s a here n (Callout i (Call (Plain call))) is) rest) is refl in
          record {
            front = f.front;
            rest = f.rest;
            split = f.split;
            first = (f.reply, f.call_is);
            later = subst (λ (c : Cursor). IsRest s H a (at_next_note s a c) f.rest) (called-over here i (Call (Plain call)) f.reply (subst IsOver f.answers (over-call f.before call))) f.later;
          }
      at_cover false is = refused NotHeld is rest

  abbrev scene : ℕ → Scene
  scene now = record { time = now; here = cpu_of s (role_of s a); me = 0 }

  act-first : (x : Act) (left : List Task) (n now : ℕ) (hold : Option Held) (notes : List Note) → is_tick x ≡ false → Goes (Does x ∷ left) n now hold notes →
      FirstThen (AreOfAct s H a n (scene now) hold x) (λ rest. Goes left (n + 1) (time_after x now) (hold_after x hold) rest) notes
  act-first (does.Now time) left n now hold notes untimed rest = silent (does.Now time) left n now hold notes time hold rest
  act-first (does.Lock id) left n now None notes untimed rest = silent (does.Lock id) left n now None notes now (Some (record { id = id; exclusive = true })) rest
  act-first (does.Lock id) left n now (Some held) notes untimed rest = refused (does.Lock id) left n now (Some held) notes Holding refl rest
  act-first (does.ReadLock id) left n now None notes untimed rest = silent (does.ReadLock id) left n now None notes now (Some (record { id = id; exclusive = false })) rest
  act-first (does.ReadLock id) left n now (Some held) notes untimed rest = refused (does.ReadLock id) left n now (Some held) notes Holding refl rest
  act-first does.Unlock left n now None notes untimed rest = refused does.Unlock left n now None notes NotHolding refl rest
  act-first does.Unlock left n now (Some held) notes untimed rest = silent does.Unlock left n now (Some held) notes now None rest
  act-first (does.Drain i) left n now None notes untimed rest =
      drained i left n now (length notes) Ready false notes (omega arith) (subst (λ (c : Cursor). IsRest s H a c notes) (at-next-asks s a (in_drain i left n now Ready) n (Callout i (Call (DrainTry false))) refl) rest) refl refl
  act-first (does.Drain i) left n now (Some held) notes untimed rest = refused (does.Drain i) left n now (Some held) notes HoldsLock refl rest
  act-first (does.Reset who func when arg cpu prec) left n now hold notes untimed rest = called (does.Reset who func when arg cpu prec) left n now hold notes (callout_of_who (scene now) who) (op.Reset (time_of_when (scene now) when) prec func arg (cpu_named (scene now) cpu)) refl rest
  act-first (does.Ticks who ticks func arg cpu) left n now hold notes untimed rest = called (does.Ticks who ticks func arg cpu) left n now hold notes (callout_of_who (scene now) who) (op.Reset (sat_add now (from_ticks ticks s.hz)) 0 func arg (cpu_named (scene now) cpu)) refl rest
  act-first (does.Schedule who when cpu prec) left n now hold notes untimed rest = called (does.Schedule who when cpu prec) left n now hold notes (callout_of_who (scene now) who) (op.Schedule (time_of_when (scene now) when) prec (cpu_named (scene now) cpu)) refl rest
  act-first (does.Stop who) left n now hold notes untimed rest = called (does.Stop who) left n now hold notes (callout_of_who (scene now) who) op.Stop refl rest
  act-first (does.AsyncDrain who func) left n now hold notes untimed rest = called (does.AsyncDrain who func) left n now hold notes (callout_of_who (scene now) who) (op.AsyncDrain func) refl rest
  act-first (does.Active who) left n now hold notes untimed rest = called (does.Active who) left n now hold notes (callout_of_who (scene now) who) op.Active refl rest
  act-first (does.Pending who) left n now hold notes untimed rest = called (does.Pending who) left n now hold notes (callout_of_who (scene now) who) op.Pending refl rest
  act-first (does.Deactivate who) left n now hold notes untimed rest = called (does.Deactivate who) left n now hold notes (callout_of_who (scene now) who) op.Deactivate refl rest
  act-first (does.Init who) left n now hold notes untimed rest = called (does.Init who) left n now hold notes (callout_of_who (scene now) who) op.Init refl rest
  act-first (does.Retire who) left n now hold notes untimed rest = called (does.Retire who) left n now hold notes (callout_of_who (scene now) who) op.Retire refl rest
  act-first (does.Tick time) left n now hold notes untimed rest = absurd (let e : true ≡ false = untimed in cc)

  -- ---- all of them

  abbrev pub AreNoTicks : List Act → Type 0
  AreNoTicks acts = AllByRecursion (λ x. is_tick x ≡ false) acts

  pub acts-made : (acts : List Act) (n now : ℕ) (hold : Option Held) (notes : List Note) → AreNoTicks acts → Goes (map Does acts) n now hold notes → AreOfActs s H a (cpu_of s (role_of s a)) n now hold acts notes
  acts-made [] n now None notes untimed rest = ended (ready [] n now None) notes refl rest
  acts-made [] n now (Some held) notes untimed rest = ended (ready [] n now None) notes refl rest
  acts-made (x ∷ acts) n now hold notes untimed rest =
      let f = act-first x (map Does acts) n now hold notes untimed.0 rest in
      record { front = f.front; rest = f.rest; split = f.split; first = f.first; later = acts-made acts (n + 1) (time_after x now) (hold_after x hold) f.rest untimed.1 f.later }
