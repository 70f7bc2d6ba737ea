-- Steps without a note, notes of an actor's own and calls keep what holds of the world.
use Rattle.std.proofs.Common.{◌≡◌, ℕ, ◌+◌, ◌≤◌, ◌<◌, ◌⊎◌, false, length, inl, inr, refl, sym, ap, subst, ◌∙◌, arith, Option, Some, None}
use Rattle.co_object.specs.declared.State.{State}
use Rattle.co_object.specs.declared.Run.{Run}
use Rattle.co_object.specs.declared.Op.{Op}
use Rattle.co_object.specs.declared.OwnKind.{OwnKind}
use Rattle.co_object.specs.Queue.{Queue as TimerQueue}
use Rattle.co_object.proofs.PassageOnce.{stands}
use Rattle.co_lock.specs.declared.held.Held.{Held}
use Rattle.co_program.specs.declared.Script.{Script}
use Rattle.co_program.specs.Actors.{role_of, cpu_of, acts_at, actor_count}
use Rattle.co_program.specs.declared.Role.{Role}
use Rattle.co_program.specs.declared.Role.TheVariants.{Interrupt}
use Rattle.co_program.specs.Stages.{Stage, Ready, Waiting, Popping, Picking, Locking, Beginning, Unlocking, Firing, Releasing, Ending, Freeing, Drained}
use Rattle.co_program.specs.Cursor.{Cursor}
use Rattle.co_program.specs.declared.PendingInsert.{PendingInsert}
use Rattle.co_program.specs.Action.{Action, Silent, Take, Asks, action_for}
use Rattle.co_program.specs.declared.Asked.TheVariants.{Callout, Itself}
use Rattle.co_program.specs.Advance.{act_over}
use Rattle.co_program.specs.Scripts.{IsScript}
use Rattle.co_world.specs.World.{World, with_cursor}
use Rattle.co_world.specs.Step.{note_of_own, own_note}
use Rattle.co_world.proofs.kept.Invariant.{Holds, IsCarried, IsServing, IsLane, states_of, queues_of, cursors_of, scans_of, carries, in_hand, in_stage, serving_of, has_popped, under_way}
use Rattle.co_world.proofs.basics.Changes.{IsAt, at_all, cursor_at, note_at, decide}
use Rattle.co_world.proofs.basics.Actions.{IsAction, IsActionWith, goes_by, due_parcel}
use Rattle.co_world.proofs.kept.Operations.{GoesOn}
use Rattle.co_world.proofs.follows.DueNotes.{due_removed}
use Rattle.co_world.proofs.kept.Stages.{Fits, fits_silent, fits_take, fits_over}
use Rattle.co_world.proofs.kept.Services.{serving_same, runs_on}
use Rattle.co_world.proofs.kept.Listed.{carried_queue}
use Rattle.co_world.proofs.kept.OutsideServices.{SameTurn, turn_silent, turn_take, turn_over, IsActing, acts_own, is_acting_of}

-- ---- what is due, by an actor's place

no_parcel_silent : (s : Script) (role : Role) (c : Cursor) (parcel : Option PendingInsert) (to : Cursor) → IsActionWith s role c parcel (Silent to) → (parcel ≡ None) × IsAction s role c c.stage (Silent to)
no_parcel_silent s role c parcel to (goes_by due view) = (refl, view)

no_parcel_take : (s : Script) (role : Role) (c : Cursor) (parcel : Option PendingInsert) (held : Held) (to : Cursor) → IsActionWith s role c parcel (Take held to) → (parcel ≡ None) × IsAction s role c c.stage (Take held to)
no_parcel_take s role c parcel held to (goes_by due view) = (refl, view)

no_parcel_own : (s : Script) (role : Role) (c : Cursor) (parcel : Option PendingInsert) (act : ℕ) (kind : OwnKind) → IsActionWith s role c parcel (Asks act (Itself kind)) → (parcel ≡ None) × IsAction s role c c.stage (Asks act (Itself kind))
no_parcel_own s role c parcel act kind (goes_by due view) = (refl, view)

no_parcel_callout : (s : Script) (role : Role) (c : Cursor) (parcel : Option PendingInsert) (act i : ℕ) (op : Op) → IsActionWith s role c parcel (Asks act (Callout i op)) → (parcel ≡ None) × IsAction s role c c.stage (Asks act (Callout i op))
no_parcel_callout s role c parcel act i op (goes_by due view) = (refl, view)

pub view_of : (s : Script) (a : ℕ) (c : Cursor) (due : Action) → action_for s a c ≡ due → IsActionWith s (role_of s a) c c.parcel due
view_of s a c due is = subst (IsActionWith s (role_of s a) c c.parcel) is (due_parcel s (role_of s a) c c.parcel)

-- a callout's operation is due to a place with nothing removed
pub callout_view : (s : Script) (a : ℕ) (c : Cursor) (act i : ℕ) (op : Op) → action_for s a c ≡ Asks act (Callout i op) → (c.parcel ≡ None) × IsAction s (role_of s a) (record c { removed = None }) c.stage (Asks act (Callout i op))
callout_view s a c act i op is =
    no_parcel_callout s (role_of s a) (record c { removed = None }) c.parcel act i op (view_of s a (record c { removed = None }) (Asks act (Callout i op)) (due_removed s a c None act (Callout i op) is))

-- ---- a step that changes no queue

pub same_run : (r t : Run) → r ≡ t → GoesOn r t
same_run r t is = subst (GoesOn r) is (record { idle = refl; number = refl; free = λ cpu. refl; cpu = refl; taken = λ n cpu h. h; running = λ n cpu h. h; over = λ n cpu h. h })

module _ (s : Script) (w : World) (out : Option ℕ) (holds : Holds s w out) (w' : World) (out' : Option ℕ) (a : ℕ) (to : Cursor) (at : IsAt (cursors_of w) a to (cursors_of w'))
    (queues : (x : ℕ) → queues_of w' x ≡ queues_of w x) (scans : (x : ℕ) → scans_of w' x ≡ scans_of w x)
    (fits : Fits s (role_of s a) to)
    (popped : has_popped to.stage ≡ has_popped (cursors_of w a).stage)
    (ticks : (x : ℕ) → role_of s a ≡ Interrupt x → (length to.left ≡ length (cursors_of w a).left) × (under_way to.stage ≡ under_way (cursors_of w a).stage))
    (serving : IsServing s (states_of w') (cursors_of w')) (carried : IsCarried s (states_of w') (queues_of w') (cursors_of w') out') where
  pub holds_turn : Holds s w' out'
  holds_turn = record {
    roles = at_all (λ b (c : Cursor). Fits s (role_of s b) c) (cursors_of w) a to (cursors_of w') at fits (λ b other. holds.roles b);
    lanes = λ x. subst (IsLane s) (sym (queues x)) (holds.lanes x);
    busy = at_all (λ b (c : Cursor). serving_of (queues_of w' (cpu_of s (role_of s b))) (role_of s b) ≡ has_popped c.stage) (cursors_of w) a to (cursors_of w') at
        (ap (λ (q : TimerQueue). serving_of q (role_of s a)) (queues (cpu_of s (role_of s a))) ∙ holds.busy a ∙ sym popped)
        (λ b other. ap (λ (q : TimerQueue). serving_of q (role_of s b)) (queues (cpu_of s (role_of s b))) ∙ holds.busy b);
    serving = serving;
    carried = carried;
    ticking = λ b x two role. ticking_at b x two role;
  } where
    ticking_at : (b x : ℕ) → s.version ≡ 2 → role_of s b ≡ Interrupt x → (scans_of w' x + length (cursors_of w' b).left ≡ length (acts_at s.ticks x) + under_way (cursors_of w' b).stage) × (under_way (cursors_of w' b).stage ≤ length (cursors_of w' b).left)
    ticking_at b x two role =
        let same : (length (cursors_of w' b).left ≡ length (cursors_of w b).left) × (under_way (cursors_of w' b).stage ≡ under_way (cursors_of w b).stage) =
        at_all (λ k (c : Cursor). (y : ℕ) → role_of s k ≡ Interrupt y → (length c.left ≡ length (cursors_of w k).left) × (under_way c.stage ≡ under_way (cursors_of w k).stage)) (cursors_of w) a to (cursors_of w') at ticks (λ k other y e. (refl, refl)) b x role in
        let before = holds.ticking b x two role in
        let n = scans x in
        let l = same.0 in
        let u = same.1 in
        let e = before.0 in
        let f = before.1 in
        (omega arith, omega arith)

-- ---- a place alone changes

pub hand_none : (s : Script) (a : ℕ) (c : Cursor) → c.parcel ≡ None → in_stage (cpu_of s (role_of s a)) c.stage ≡ None → carries s a c ≡ None
hand_none s a c parcel stage = ap (λ (o : Option PendingInsert). in_hand (cpu_of s (role_of s a)) o c.stage) parcel ∙ stage

-- the same turn, with nothing in hand
module _ (s : Script) (w : World) (out : Option ℕ) (holds : Holds s w out) (w' : World) (a : ℕ) (to : Cursor) (at : IsAt (cursors_of w) a to (cursors_of w'))
    (states : (j : ℕ) → states_of w' j ≡ states_of w j) (queues : (x : ℕ) → queues_of w' x ≡ queues_of w x) (scans : (x : ℕ) → scans_of w' x ≡ scans_of w x)
    (fits : Fits s (role_of s a) to) (before : (cursors_of w a).parcel ≡ None) (after : to.parcel ≡ None)
    (turn : SameTurn (role_of s a) (cursors_of w a).left (cursors_of w a).stage to.left to.stage) where
  hand_before : carries s a (cursors_of w a) ≡ None
  hand_before = hand_none s a (cursors_of w a) before (turn.hands (cpu_of s (role_of s a))).0

  hand_after : carries s a to ≡ None
  hand_after = hand_none s a to after (turn.hands (cpu_of s (role_of s a))).1

  carried_on : IsCarried s (states_of w') (queues_of w') (cursors_of w') out
  carried_on =
      carried_queue s (states_of w) (queues_of w) (cursors_of w) out holds.carried (states_of w') (queues_of w') (cursors_of w') out a 0 (queues_of w 0) to states
      (record { here = queues 0; else = λ j other. queues j }) at
      (λ p is. absurd (let clash : Some p ≡ None = sym is ∙ hand_after in cc))
      (λ b p is it. holds.carried.apart b p 0 is)
      (λ i x is. subst (λ (q : TimerQueue). stands i q ≡ 0) (sym (queues x)) (holds.carried.away i x is))
      (holds.carried.entries 0)
      (λ i x is. listed i x (holds.carried.listed i x is)) where
        whose : (i b : ℕ) (p : PendingInsert) → (b ≡ a) ⊎ (b ≡ a → ⊥) → b < actor_count s → carries s b (cursors_of w b) ≡ Some p → p.i ≡ i → (b' : ℕ) × (p' : PendingInsert) × (b' < actor_count s) × (carries s b' (cursors_of w' b') ≡ Some p') × (p'.i ≡ i)
        whose i b p (inl own) exists is number = absurd (let clash : Some p ≡ None = sym (subst (λ (k : ℕ). carries s k (cursors_of w k) ≡ Some p) own is) ∙ hand_before in cc)
        whose i b p (inr other) exists is number = (b, p, exists, ap (carries s b) (at.else b other) ∙ is, number)

        listed : (i x : ℕ) → (1 ≤ stands i (queues_of w x)) ⊎ ((out ≡ Some i) ⊎ ((b : ℕ) × (p : PendingInsert) × (b < actor_count s) × (carries s b (cursors_of w b) ≡ Some p) × (p.i ≡ i))) →
            (1 ≤ stands i (queues_of w' x)) ⊎ ((out ≡ Some i) ⊎ ((b : ℕ) × (p : PendingInsert) × (b < actor_count s) × (carries s b (cursors_of w' b) ≡ Some p) × (p.i ≡ i)))
        listed i x (inl some) = inl (subst (λ (q : TimerQueue). 1 ≤ stands i q) (sym (queues x)) some)
        listed i x (inr (inl removed)) = inr (inl removed)
        listed i x (inr (inr has)) = inr (inr (whose i has.0 has.1 (decide has.0 a) has.2 has.3 has.4))

  pub holds_place : Holds s w' out
  holds_place =
      holds_turn s w out holds w' out a to at queues scans fits turn.popped turn.ticks
      (serving_same s (states_of w) (cursors_of w) holds.serving (states_of w') (cursors_of w') a to at (λ j. same_run (states_of w j).run (states_of w' j).run (sym (ap (λ (x : State). x.run) (states j)))) turn.service
      (runs_on (states_of w) (states_of w') (cpu_of s (role_of s a)) to.stage (λ v is. same_run (states_of w v.i).run (states_of w' v.i).run (sym (ap (λ (x : State). x.run) (states v.i))))
      (turn.runs (states_of w) (cpu_of s (role_of s a)) (holds.serving.serves a))))
      carried_on

-- ---- steps without a note, and notes of an actor's own

module _ (s : Script) (ok : IsScript s) (w : World) (out : Option ℕ) (holds : Holds s w out) (a : ℕ) where
  abbrev c : Cursor
  c = cursors_of w a

  pub holds_silent : (to : Cursor) → action_for s a c ≡ Silent to → Holds s (with_cursor w a to) out
  holds_silent to is =
      let view : (c.parcel ≡ None) × IsAction s (role_of s a) c c.stage (Silent to) = no_parcel_silent s (role_of s a) c c.parcel to (view_of s a c (Silent to) is) in
      let turn : SameTurn (role_of s a) c.left c.stage to.left to.stage × (to.parcel ≡ c.parcel) = turn_silent s (role_of s a) c.left c.act c.now c.hold c.removed c.parcel c.stage to view.1 (holds.roles a) in
      holds_place s w out holds (with_cursor w a to) a to (cursor_at w a to) (λ j. refl) (λ x. refl) (λ x. refl)
      (fits_silent s ok (role_of s a) c.left c.act c.now c.hold c.removed c.parcel c.stage to view.1 (holds.roles a)) view.0 (turn.1 ∙ view.0) turn.0

  pub holds_take : (held : Held) (to : Cursor) → action_for s a c ≡ Take held to → Holds s (with_cursor w a to) out
  holds_take held to is =
      let view : (c.parcel ≡ None) × IsAction s (role_of s a) c c.stage (Take held to) = no_parcel_take s (role_of s a) c c.parcel held to (view_of s a c (Take held to) is) in
      let turn : SameTurn (role_of s a) c.left c.stage to.left to.stage × (to.parcel ≡ c.parcel) = turn_take s (role_of s a) c.left c.act c.now c.hold c.removed c.parcel c.stage to held view.1 (holds.roles a) in
      holds_place s w out holds (with_cursor w a to) a to (cursor_at w a to) (λ j. refl) (λ x. refl) (λ x. refl)
      (fits_take s ok (role_of s a) c.left c.act c.now c.hold c.removed c.parcel c.stage to held view.1 (holds.roles a)) view.0 (turn.1 ∙ view.0) turn.0

  -- an act that is over leaves what is on its way
  pub over_parcel : (d : Cursor) (stage : Stage) → (act_over d stage).parcel ≡ d.parcel
  over_parcel d Ready = refl
  over_parcel d (Waiting n took) = refl
  over_parcel d (Popping act) = refl
  over_parcel d (Picking v) = refl
  over_parcel d (Locking v) = refl
  over_parcel d (Beginning v) = refl
  over_parcel d (Unlocking v acts) = refl
  over_parcel d (Firing v acts) = refl
  over_parcel d (Releasing v) = refl
  over_parcel d (Ending v) = refl
  over_parcel d (Freeing v drain next) = refl
  over_parcel d (Drained v acts) = refl

  pub holds_own : (act : ℕ) (kind : OwnKind) → action_for s a c ≡ Asks act (Itself kind) → Holds s (own_note s w a act kind) out
  holds_own act kind is =
      let view : (c.parcel ≡ None) × IsAction s (role_of s a) c c.stage (Asks act (Itself kind)) = no_parcel_own s (role_of s a) c c.parcel act kind (view_of s a c (Asks act (Itself kind)) is) in
      let acting : IsActing s (role_of s a) c.left c.act c.now c.hold c.removed c.parcel c.stage = acts_own s (role_of s a) c.left c.act c.now c.hold c.removed c.parcel c.stage act kind view.1 (holds.roles a) in
      let to : Cursor = act_over c c.stage in
      holds_place s w out holds (own_note s w a act kind) a to (note_at s w a false (note_of_own s w a act kind)) (λ j. refl) (λ x. refl) (λ x. refl)
      (fits_over s ok (role_of s a) c.left c.act c.now c.hold c.removed c.parcel c.stage (is_acting_of s (role_of s a) c.left c.act c.now c.hold c.removed c.parcel c.stage acting) (holds.roles a)) view.0 (over_parcel c c.stage ∙ view.0)
      (turn_over s (role_of s a) c.left c.act c.now c.hold c.removed c.parcel c.stage acting)
