-- The notes of a function's acts that come next: for each the group of its call, or a note that it is not covered.
use Rattle.std.proofs.Common.{◌≡◌, ℕ, ◌+◌, Bool, true, false, cond, ◌&&◌, ◌==◌, not, List, [], ◌∷◌, ◌++◌, refl, sym, ap, subst, ◌∙◌, Option, Some, None, append_assoc, arith, length}
use Rattle.std.specs.Prelude.{⊤, is_some, unwrap_or, ◌||◌}
use Rattle.co_object.specs.declared.State.{State}
use Rattle.co_object.specs.declared.Note.{Note}
use Rattle.co_object.specs.declared.Place.{Place}
use Rattle.co_object.specs.declared.Place.TheVariants as place
use Rattle.co_object.specs.declared.AnyEntry.{AnyEntry}
use Rattle.co_object.specs.declared.AnyEntry.TheVariants as entry
use Rattle.co_object.specs.declared.OwnEntry.{OwnEntry}
use Rattle.co_object.specs.declared.Op.{Op}
use Rattle.co_object.specs.declared.Op.TheVariants.{Call}
use Rattle.co_object.specs.declared.CallOp.TheVariants.{Plain}
use Rattle.co_object.specs.declared.PlainOp.{PlainOp}
use Rattle.co_object.specs.declared.PlainOp.TheVariants.{Reset, Schedule, Stop, AsyncDrain, Active, Pending, Deactivate, Init, Retire}
use Rattle.co_object.specs.declared.OwnKind.{OwnKind}
use Rattle.co_object.specs.declared.OwnKind.TheVariants.{NotHeld}
use Rattle.co_object.specs.declared.Reply.{Reply}
use Rattle.co_object.specs.declared.Reply.TheVariants.{Armed, NotArmed, NoHandler, Worn, Stopped, Wait, Drained as IsDrained, Busy, Yes, No, Done, Go, Hold, Skip, Ended, Live, Retired, InUse}
use Rattle.co_object.specs.Arm.{arm, refuse, reset, reset_to_last, made_max, is_draining}
use Rattle.co_object.specs.Callout.{call, live_call, retired_call}
use Rattle.co_object.specs.Drain.{drain_later}
use Rattle.co_object.specs.Group.{placed}
use Rattle.co_object.specs.Query.{answer}
use Rattle.co_object.specs.Stand.{is_idle}
use Rattle.co_object.specs.Stop.{stop}
use Rattle.co_object.proofs.Changes.{either_way}
use Rattle.co_lock.specs.declared.Held.{Held}
use Rattle.co_lock.specs.Covers.{covers}
use Rattle.co_program.specs.declared.act.Act.{Act}
use Rattle.co_program.specs.declared.act.Scene.{Scene}
use Rattle.co_program.specs.declared.script.Script.{Script}
use Rattle.co_program.specs.declared.program.Task.{Task}
use Rattle.co_program.specs.declared.cursor.InService.{InService}
use Rattle.co_program.specs.declared.action.Asked.{Asked}
use Rattle.co_program.specs.declared.action.Asked.TheVariants.{Callout, Itself}
use Rattle.co_program.specs.declared.cursor.PendingInsert.{PendingInsert}
use Rattle.co_program.specs.Actors.{role_of, cpu_of}
use Rattle.co_program.specs.Calls.{plain_op}
use Rattle.co_program.specs.Stages.{Stage, Firing, Drained}
use Rattle.co_program.specs.Cursor.{Cursor}
use Rattle.co_program.specs.Action.{Asks, spec_at, asks_covered, firing, draining, action_for}
use Rattle.co_program.specs.Advance.{act_over, call_made}
use Rattle.co_program.specs.Follows.{Histories, FitsOwn, goes_on, at_next_note}
use Rattle.co_program.specs.Groups.{AreActsOf, none, calls, not_held}
use Rattle.co_program.proofs.Endings.{some-call, AreCalls, StageDoes}
use Rattle.co_program.proofs.Groups.{call-first}
use Rattle.co_program.proofs.Rests.{IsRest, first, at-next-asks}

-- ---- a call that is no drain does not wait

abbrev pub IsOver : Reply → Type 0
IsOver (Wait n took off) = ⊥
IsOver reply = ⊤

abbrev Over : State × Reply → Type 0
Over o = IsOver o.1

over-reset : (s : State) (due prec func arg : ℕ) (cpu : Option ℕ) → Over (reset s due prec func arg cpu)
over-reset s due prec func arg cpu =
    either_way Over (s.made == made_max) (s, Worn) _ (λ _. tt) (λ _.
    either_way Over (is_draining s && not (is_idle s.run)) (refuse s) (arm s due prec func arg (unwrap_or cpu s.home)) (λ _. tt) (λ _. tt))

over-schedule : (s : State) (o : Option (ℕ × ℕ)) (due prec : ℕ) (cpu : Option ℕ) → Over (reset_to_last s o due prec cpu)
over-schedule s None due prec cpu = tt
over-schedule s (Some l) due prec cpu = over-reset s due prec l.0 l.1 cpu

over-later : (s : State) (o : Option ℕ) (func : ℕ) → Over (drain_later s o func)
over-later s None func = tt
over-later s (Some d) func = tt

over-answer : (s : State) (b : Bool) → Over (s, answer b)
over-answer s true = tt
over-answer s false = tt

over-live : (s : State) (op : PlainOp) → Over (live_call s op)
over-live s (Reset due prec func arg cpu) = over-reset s due prec func arg cpu
over-live s (Schedule due prec cpu) = over-schedule s s.last due prec cpu
over-live s Stop = tt
over-live s (AsyncDrain func) = either_way Over (is_idle s.run) (stop s) (drain_later s s.adrain func) (λ _. tt) (λ _. over-later s s.adrain func)
over-live s Active = over-answer s s.active
over-live s Pending = over-answer s (is_some s.armed)
over-live s Deactivate = tt
over-live s Init = tt
over-live s Retire = either_way Over (is_some s.armed || not (is_idle s.run)) (s, InUse (is_some s.armed) (not (is_idle s.run))) (record s { live = false }, Done) (λ _. tt) (λ _. tt)

over-retired : (s : State) (op : PlainOp) → Over (retired_call s op)
over-retired s (Reset due prec func arg cpu) = tt
over-retired s (Schedule due prec cpu) = tt
over-retired s Stop = tt
over-retired s (AsyncDrain func) = tt
over-retired s Active = tt
over-retired s Pending = tt
over-retired s Deactivate = tt
over-retired s Init = tt
over-retired s Retire = tt

pub over-call : (s : State) (op : PlainOp) → Over (call s (Plain op))
over-call s op = either_way Over s.live (live_call s op) (retired_call s op) (λ _. over-live s op) (λ _. over-retired s op)

pub called-over : (c : Cursor) (i : ℕ) (op : Op) (reply : Reply) → IsOver reply → call_made c i false op reply ≡ act_over c c.stage
called-over c i op (Wait n took off) h = absurd h
called-over c i op (Armed code n cpu o) h = refl
called-over c i op (NotArmed code) h = refl
called-over c i op NoHandler h = refl
called-over c i op Worn h = refl
called-over c i op (Stopped code o) h = refl
called-over c i op (IsDrained code o) h = refl
called-over c i op Busy h = refl
called-over c i op Yes h = refl
called-over c i op No h = refl
called-over c i op Done h = refl
called-over c i op (Go func arg) h = refl
called-over c i op Hold h = refl
called-over c i op Skip h = refl
called-over c i op (Ended drain next woke) h = refl
called-over c i op Live h = refl
called-over c i op Retired h = refl
called-over c i op (InUse armed serviced) h = refl

-- ---- one note

module _ (s : Script) (H : Histories) (a : ℕ) where
  pub record IsOwnFirst (d : Cursor) (act : ℕ) (kind : OwnKind) (notes : List Note) : Type 0 where
    pub note : Note
    pub rest : List Note
    pub split : notes ≡ note ∷ rest
    pub at : placed note ≡ (place.Actor a, entry.Own (record { actor = a; act = act; kind = kind }))
    pub later : IsRest s H a (at_next_note s a (act_over d d.stage)) rest

  pub own-first : (d : Cursor) (act : ℕ) (kind : OwnKind) (notes : List Note) → IsRest s H a d notes → action_for s a d ≡ Asks act (Itself kind) → IsOwnFirst d act kind notes
  own-first d act kind notes rest is =
      let f = first s H a d notes act (Itself kind) rest is in
      by f.note.place f.note.pos f.note.entry f.rest f.split f.fits f.later where
        by : (p : Place) (pos : ℕ) (x : AnyEntry) (later : List Note) → notes ≡ record { place = p; pos = pos; entry = x } ∷ later →
            FitsOwn a act (Itself kind) p x → IsRest s H a (at_next_note s a (goes_on s H d (record { place = p; pos = pos; entry = x }))) later → IsOwnFirst d act kind notes
        by (place.Actor b) pos (entry.Own e) later split fits on = record {
          note = record { place = place.Actor b; pos = pos; entry = entry.Own e };
          rest = later;
          split = split;
          at = ap (λ (k : ℕ). (place.Actor k, entry.Own e)) fits.0 ∙ ap (λ (y : OwnEntry). (place.Actor a, entry.Own y)) fits.1;
          later = on;
        }
        by p pos x later split fits on = absurd fits

-- ---- a function's acts

module _ (s : Script) (H : Histories) (a : ℕ) (left : List Task) (now : ℕ) (v : InService) where
  abbrev cpu : ℕ
  cpu = cpu_of s (role_of s a)

  abbrev scene : Scene
  scene = record { time = v.at; here = cpu; me = v.i }

  -- in this service, with no callout on its way
  abbrev pub in_act : Option Held → ℕ → Stage → Cursor
  in_act hold n stage = record { left = left; act = n; now = now; hold = hold; stage = stage; removed = None; parcel = None }

  module _ (hold : Option Held) (to : List Act → Stage)
      (asks : (n : ℕ) (x : Act) (acts : List Act) → action_for s a (in_act hold n (to (x ∷ acts))) ≡ asks_covered s hold n (plain_op x s.hz scene))
      (over : (n : ℕ) (x : Act) (acts : List Act) → act_over (in_act hold n (to (x ∷ acts))) (to (x ∷ acts)) ≡ in_act hold (n + 1) (to acts)) where
    pub record AreFirst (acts : List Act) (n : ℕ) (notes : List Note) : Type 0 where
      pub front : List Note
      pub rest : List Note
      pub split : notes ≡ front ++ rest
      pub are : AreActsOf s H a cpu v hold n acts front
      pub last : ℕ
      pub last_is : last ≡ n + length acts
      pub later : IsRest s H a (at_next_note s a (in_act hold last (to []))) rest

    pub acts-first : (acts : List Act) (n : ℕ) (notes : List Note) → AreCalls acts → IsRest s H a (at_next_note s a (in_act hold n (to acts))) notes → AreFirst acts n notes
    acts-first [] n notes all rest = record { front = []; rest = notes; split = refl; are = none n; last = n; last_is = omega arith; later = rest }
    acts-first (x ∷ acts) n notes all rest = at_op (plain_op x s.hz scene) refl (some-call x s.hz scene all.0) (λ notes' rest'. acts-first acts (n + 1) notes' all.1 rest') where
      d : Cursor
      d = in_act hold n (to (x ∷ acts))

      at_cover : (i : ℕ) (op : PlainOp) → plain_op x s.hz scene ≡ Some (i, op) → (b : Bool) → covers hold (spec_at s i) (Plain op) ≡ b →
          ((notes' : List Note) → IsRest s H a (at_next_note s a (in_act hold (n + 1) (to acts))) notes' → AreFirst acts (n + 1) notes') → AreFirst (x ∷ acts) n notes
      at_cover i op is true cov again =
          let due : action_for s a d ≡ Asks n (Callout i (Call (Plain op))) = asks n x acts ∙ ap (asks_covered s hold n) is ∙ ap (λ (b : Bool). cond b (Asks n (Callout i (Call (Plain op)))) (Asks n (Itself NotHeld))) cov in
          let f = call-first s H a n i (Plain op) d notes (subst (λ (c : Cursor). IsRest s H a c notes) (at-next-asks s a d n (Callout i (Call (Plain op))) due) rest) due refl in
          let on = subst (λ (c : Cursor). IsRest s H a (at_next_note s a c) f.rest) (called-over d i (Call (Plain op)) f.reply (subst IsOver f.answers (over-call f.before op)) ∙ over n x acts) f.later in
          let more = again f.rest on in
          record {
            front = f.front ++ more.front;
            rest = more.rest;
            split = f.split ∙ ap (λ (l : List Note). f.front ++ l) more.split ∙ sym (append_assoc f.front more.front more.rest);
            are = calls n i x acts op f.reply f.front more.front is cov f.call_is more.are;
            last = more.last;
            last_is = omega (arith, more.last_is);
            later = more.later;
          }
      at_cover i op is false cov again =
          let due : action_for s a d ≡ Asks n (Itself NotHeld) = asks n x acts ∙ ap (asks_covered s hold n) is ∙ ap (λ (b : Bool). cond b (Asks n (Callout i (Call (Plain op)))) (Asks n (Itself NotHeld))) cov in
          let f = own-first s H a d n NotHeld notes (subst (λ (c : Cursor). IsRest s H a c notes) (at-next-asks s a d n (Itself NotHeld) due) rest) due in
          let on = subst (λ (c : Cursor). IsRest s H a (at_next_note s a c) f.rest) (over n x acts) f.later in
          let more = again f.rest on in
          record {
            front = f.note ∷ more.front;
            rest = more.rest;
            split = f.split ∙ ap (λ (l : List Note). f.note ∷ l) more.split;
            are = not_held n i x acts op f.note more.front is cov f.at more.are;
            last = more.last;
            last_is = omega (arith, more.last_is);
            later = more.later;
          }

      at_op : (o : Option (ℕ × PlainOp)) → plain_op x s.hz scene ≡ o → is_some o ≡ true →
          ((notes' : List Note) → IsRest s H a (at_next_note s a (in_act hold (n + 1) (to acts))) notes' → AreFirst acts (n + 1) notes') → AreFirst (x ∷ acts) n notes
      at_op None is h again = absurd (no h) where
        no : is_some {T = ℕ × PlainOp} None ≡ true → ⊥
        no g = let e : false ≡ true = g in cc
      at_op (Some (i, op)) is h again = at_cover i op is (covers hold (spec_at s i) (Plain op)) refl again

  -- an act of a function asks something
  pub asks-some : (hold : Option Held) (n : ℕ) (o : Option (ℕ × PlainOp)) → is_some o ≡ true → (asked : Asked) × (asks_covered s hold n o ≡ Asks n asked)
  asks-some hold n None h = absurd (no h) where
    no : is_some {T = ℕ × PlainOp} None ≡ true → ⊥
    no g = let e : false ≡ true = g in cc
  asks-some hold n (Some (i, op)) h = at_cover (covers hold (spec_at s i) (Plain op)) where
    at_cover : (b : Bool) → (asked : Asked) × (cond b (Asks n (Callout i (Call (Plain op)))) (Asks n (Itself NotHeld)) ≡ Asks n asked)
    at_cover true = (Callout i (Call (Plain op)), refl)
    at_cover false = (Itself NotHeld, refl)

module _ (s : Script) (H : Histories) (a : ℕ) (d : Cursor) (v : InService) (notes : List Note) (rest : IsRest s H a d notes) (unsent : d.parcel ≡ None) (unmade : d.removed ≡ None) where
  pub record IsInside (acts : List Act) : Type 0 where
    pub front : List Note
    pub later : List Note
    pub split : notes ≡ front ++ later
    pub are : AreActsOf s H a (cpu_of s (role_of s a)) v d.hold d.act acts front

  inside : (to : List Act → Stage) (asks : (n : ℕ) (x : Act) (acts : List Act) → action_for s a (in_act s H a d.left d.now v d.hold n (to (x ∷ acts))) ≡ asks_covered s d.hold n (plain_op x s.hz (record { time = v.at; here = cpu_of s (role_of s a); me = v.i })))
      (over : (n : ℕ) (x : Act) (acts : List Act) → act_over (in_act s H a d.left d.now v d.hold n (to (x ∷ acts))) (to (x ∷ acts)) ≡ in_act s H a d.left d.now v d.hold (n + 1) (to acts)) →
      (x : Act) (acts : List Act) → d.stage ≡ to (x ∷ acts) → AreCalls (x ∷ acts) → IsInside (x ∷ acts)
  inside to asks over x acts is all =
      let here : Cursor = in_act s H a d.left d.now v d.hold d.act (to (x ∷ acts)) in
      let same : d ≡ here = ap (λ (stage : Stage). record d { stage = stage }) is ∙ ap (λ (p : Option PendingInsert). record d { stage = to (x ∷ acts); parcel = p }) unsent ∙ ap (λ (r : Option ℕ). record d { stage = to (x ∷ acts); parcel = None; removed = r }) unmade in
      let due = asks-some s H a d.left d.now v d.hold d.act (plain_op x s.hz (record { time = v.at; here = cpu_of s (role_of s a); me = v.i })) (some-call x s.hz (record { time = v.at; here = cpu_of s (role_of s a); me = v.i }) all.0) in
      let still : at_next_note s a here ≡ here = at-next-asks s a here d.act due.0 (asks d.act x acts ∙ due.1) in
      let f = acts-first s H a d.left d.now v d.hold to asks over (x ∷ acts) d.act notes all (subst (λ (c : Cursor). IsRest s H a c notes) (same ∙ sym still) rest) in
      record { front = f.front; later = f.rest; split = f.split; are = f.are }

  pub in-function : (acts : List Act) → d.stage ≡ Firing v acts → StageDoes s (Firing v acts) → IsInside acts
  in-function [] is does = absurd does
  in-function (x ∷ acts) is does = inside (firing v d.hold) (λ n y ys. refl) (λ n y ys. refl) x acts is does

  pub in-drain : (acts : List Act) → d.stage ≡ Drained v acts → StageDoes s (Drained v acts) → IsInside acts
  in-drain [] is does = absurd does
  in-drain (x ∷ acts) is does = inside (draining v) (λ n y ys. refl) (λ n y ys. refl) x acts is does
