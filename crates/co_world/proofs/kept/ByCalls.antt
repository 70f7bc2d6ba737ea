-- A call keeps what holds of the world, once it has taken its callout out of a queue.
use Rattle.std.proofs.Common.{◌≡◌, ℕ, ◌≤◌, ◌<◌, ◌⊎◌, Bool, true, false, cond, List, inl, inr, refl, sym, ap, subst, ◌∙◌, Option, Some, None}
use Rattle.std.specs.Prelude.{is_some}
use Rattle.co_object.specs.declared.State.{State}
use Rattle.co_object.specs.declared.Arming.{Arming}
use Rattle.co_object.specs.declared.Reply.{Reply}
use Rattle.co_object.specs.declared.Reply.TheVariants.{Armed, Wait}
use Rattle.co_object.specs.declared.Op.TheVariants.{Call}
use Rattle.co_object.specs.declared.CallOp.{CallOp}
use Rattle.co_object.specs.declared.CallOp.TheVariants.{DrainTry}
use Rattle.co_object.specs.declared.Entry.{Entry}
use Rattle.co_object.specs.Stand.{off, stand_of, listed_cpu, Listed, Deferred}
use Rattle.co_object.specs.Group.{off_of}
use Rattle.co_object.proofs.PassageOnce.{stands}
use Rattle.co_lock.specs.declared.held.Held.{Held}
use Rattle.co_program.specs.declared.Script.{Script}
use Rattle.co_program.specs.Actors.{role_of, cpu_of, actor_count}
use Rattle.co_program.specs.declared.Role.{Role}
use Rattle.co_program.specs.declared.Role.TheVariants.{Client}
use Rattle.co_program.specs.Stages.{Stage, Ready, Waiting, Popping, Picking, Locking, Beginning, Unlocking, Firing, Releasing, Ending, Freeing, Drained}
use Rattle.co_program.specs.Cursor.{Cursor}
use Rattle.co_program.specs.declared.PendingInsert.{PendingInsert}
use Rattle.co_program.specs.Action.{Asks, action_for, spec_at}
use Rattle.co_program.specs.declared.Asked.TheVariants.{Callout}
use Rattle.co_program.specs.Advance.{act_over, call_made, advance_callout, due_of_call}
use Rattle.co_program.specs.Scripts.{IsScript}
use Rattle.co_world.specs.World.{World}
use Rattle.co_world.specs.Step.{notes_down, enters, note_of}
use Rattle.co_world.proofs.kept.Invariant.{Holds, IsListed, IsCarried, FitsRole, states_of, queues_of, cursors_of, carries, in_hand, has_popped, service_of}
use Rattle.co_world.proofs.basics.Changes.{IsAt, at_all, note_at, state_at}
use Rattle.co_world.proofs.basics.Actions.{IsAction}
use Rattle.co_world.proofs.kept.Operations.{Did, GoesOn, keeps, clears, arms, is_plain}
use Rattle.co_world.proofs.kept.Operations as deed
use Rattle.co_world.proofs.kept.Stages.{place, Fits, fits_callout, plain_called}
use Rattle.co_world.proofs.kept.Services.{serving_same, runs_on}
use Rattle.co_world.proofs.kept.Listed.{Nobody, carried_state, unlisted}
use Rattle.co_world.proofs.kept.OutsideServices.{SameTurn, turn_over, turn_wait, IsActing, acts_call}
use Rattle.std.proofs.Common.{ℤ}
use Rattle.co_program.specs.declared.Task.{Task}
use Rattle.co_program.specs.declared.Task.TheVariants.{Does}
use Rattle.co_program.specs.declared.Act.TheVariants.{Drain}
use Rattle.co_world.proofs.kept.Listed.{listed_arming}
use Rattle.co_world.proofs.kept.OutsideServices.{waiting_client}
use Rattle.co_world.proofs.kept.Servers.{clients_act}
use Rattle.co_world.proofs.kept.Stages.{first_task}
use Rattle.co_world.proofs.kept.Invariant.{IsTaskOf}
use Rattle.co_world.proofs.basics.Actions.{drains, waits}
use Rattle.co_world.proofs.kept.ByOwnSteps.{callout_view, same_run, holds_turn, hand_none, over_parcel}

-- ---- calls

-- whether a call took its callout out of a queue first
abbrev pub TookOut : Option ℕ → ℕ → Option ℕ → Type 0
TookOut None i out = out ≡ None
TookOut (Some cpu) i out = out ≡ Some i

pub off_same : (state t : State) → t.armed ≡ state.armed → GoesOn state.run t.run → off t ≡ off state
off_same state t same on = ap (λ o. listed_cpu (stand_of o t.run)) same ∙ go state.armed where
  go : (o : Option Arming) → listed_cpu (stand_of o t.run) ≡ listed_cpu (stand_of o state.run)
  go None = refl
  go (Some arming) = ap (λ (b : Bool). listed_cpu (cond b (Listed arming.cpu) (Deferred arming.cpu))) (sym (on.free arming.cpu))

pub off_none : (t : State) → t.armed ≡ None → off t ≡ None
off_none t is = ap (λ o. listed_cpu (stand_of o t.run)) is

pub listed_on : (state t : State) (n cpu u : ℕ) → t.armed ≡ state.armed → GoesOn state.run t.run → IsListed state n cpu u → IsListed t n cpu u
listed_on state t n cpu u same on h = record { arming = h.arming; armed = same ∙ h.armed; number = h.number; place = h.place; due = h.due; free = sym (on.free cpu) ∙ h.free }

module _ (s : Script) (ok : IsScript s) (w : World) (out : Option ℕ) (holds : Holds s w out) (a act i : ℕ) (op : CallOp) (t : State) (reply : Reply) (may : a < actor_count s)
    (is : action_for s a (cursors_of w a) ≡ Asks act (Callout i (Call op))) (d : Did (spec_at s i) (states_of w i) (Call op) reply t)
    (unmoved : (b : ℕ) (p : PendingInsert) → carries s b (cursors_of w b) ≡ Some p → p.i ≡ i → ⊥) (took : TookOut (off_of reply) i out) where
  abbrev from : Cursor
  from = record (cursors_of w a) { removed = None }

  abbrev role : Role
  role = role_of s a

  abbrev made : Entry
  made = record { actor = a; act = act; op = Call op; reply = reply }

  abbrev now : World
  now = notes_down s (enters w i t made) a (is_some (off t)) (note_of w i made)

  abbrev to : Cursor
  to = call_made from i (is_some (off t)) (Call op) reply

  view : (from.parcel ≡ None) × IsAction s role from from.stage (Asks act (Callout i (Call op)))
  view = callout_view s a (cursors_of w a) act i (Call op) is

  acting : IsActing s role from.left from.act from.now from.hold None from.parcel from.stage
  acting = acts_call s role from.left from.act from.now from.hold None from.parcel from.stage act i op view.1 (holds.roles a)

  over_turn : SameTurn role from.left from.stage (act_over from from.stage).left (act_over from from.stage).stage
  over_turn = turn_over s role from.left from.act from.now from.hold None from.parcel from.stage acting

  hand_free : carries s a (cursors_of w a) ≡ None
  hand_free = hand_none s a (cursors_of w a) view.0 (over_turn.hands (cpu_of s role)).0

  over_free : carries s a (act_over from from.stage) ≡ None
  over_free = hand_none s a (act_over from from.stage) (over_parcel s ok w out holds a from from.stage ∙ view.0) (over_turn.hands (cpu_of s role)).1

  -- a call's place is that of a call in the stage where it is due
  advance_call : advance_callout s from i (is_some (off t)) (Call op) reply from.stage ≡ to
  advance_call = go from.stage acting where
    go : (x : Stage) → IsActing s role from.left from.act from.now from.hold None from.parcel x → advance_callout s from i (is_some (off t)) (Call op) reply x ≡ to
    go Ready h = refl
    go (Waiting n took) h = refl
    go (Firing v acts) h = refl
    go (Drained v acts) h = refl
    go (Popping act) h = absurd h
    go (Picking v) h = absurd h
    go (Locking v) h = absurd h
    go (Beginning v) h = absurd h
    go (Unlocking v acts) h = absurd h
    go (Releasing v) h = absurd h
    go (Ending v) h = absurd h
    go (Freeing v drain next) h = absurd h

  moved : IsAt (cursors_of w) a to (cursors_of now)
  moved = subst (λ (x : Cursor). IsAt (cursors_of w) a x (cursors_of now)) advance_call (note_at s (enters w i t made) a (is_some (off t)) (note_of w i made))

  changed : IsAt (states_of w) i t (states_of now)
  changed = state_at w i t made

  to_fits : Fits s role to
  to_fits = subst (Fits s role) advance_call (fits_callout s ok role from.left from.act from.now from.hold None from.parcel from.stage act i (Call op) (is_some (off t)) (states_of w i) t reply view.1 d (holds.roles a))

  goes_on_all : GoesOn (states_of w i).run t.run → (j : ℕ) → GoesOn (states_of w j).run (states_of now j).run
  goes_on_all on = at_all (λ j (x : State). GoesOn (states_of w j).run x.run) (states_of w) i t (states_of now) changed on (λ j other. same_run (states_of w j).run (states_of w j).run refl)

  -- the same turn, and where the arming is
  finish : GoesOn (states_of w i).run t.run → SameTurn role from.left from.stage to.left to.stage → IsCarried s (states_of now) (queues_of now) (cursors_of now) None → Holds s now None
  finish on turn carried =
      holds_turn s w out holds now None a to moved (λ x. refl) (λ x. refl) to_fits turn.popped turn.ticks
      (serving_same s (states_of w) (cursors_of w) holds.serving (states_of now) (cursors_of now) a to moved (goes_on_all on) turn.service
      (runs_on (states_of w) (states_of now) (cpu_of s role) to.stage (λ v e. goes_on_all on v.i) (turn.runs (states_of w) (cpu_of s role) (holds.serving.serves a))))
      carried

  gone : (j : ℕ) → out ≡ Some j → j ≡ i
  gone j e = go (off_of reply) took where
    go : (o : Option ℕ) → TookOut o i out → j ≡ i
    go None h = let clash : Some j ≡ None = sym e ∙ h in cc
    go (Some cpu) h = let same : Some j ≡ Some i = sym e ∙ h in cc

  carry : ((n cpu u : ℕ) → IsListed (states_of w i) n cpu u → IsListed t n cpu u) ⊎ Nobody s (states_of w) (queues_of w) (cursors_of w) out holds.carried a i →
      (carries s a to ≡ None) ⊎ ((p : PendingInsert) × (carries s a to ≡ Some p) × (p.i ≡ i) × IsListed t p.n p.cpu p.due × Nobody s (states_of w) (queues_of w) (cursors_of w) out holds.carried a i) →
      ((cpu : ℕ) → off t ≡ Some cpu → (1 ≤ stands i (queues_of w cpu)) ⊎ (((p : PendingInsert) × (carries s a to ≡ Some p) × (p.i ≡ i)) ⊎ ((b : ℕ) × (p : PendingInsert) × (b ≡ a → ⊥) × (b < actor_count s) × (carries s b (cursors_of w b) ≡ Some p) × (p.i ≡ i)))) →
      IsCarried s (states_of now) (queues_of now) (cursors_of now) None
  carry keep hand stays =
      carried_state s (states_of w) (queues_of w) (cursors_of w) out holds.carried (states_of now) (cursors_of now) a i t to changed moved may
      (λ p e. absurd (let clash : Some p ≡ None = sym e ∙ hand_free in cc)) gone keep hand stays

  -- nobody else has a callout whose arming is taken away
  nobody : off_of reply ≡ off (states_of w i) → Nobody s (states_of w) (queues_of w) (cursors_of w) out holds.carried a i
  nobody same = record { hands = λ b p other e number. unmoved b p e number; rests = rest_of (off_of reply) took same } where
    rest_of : (o : Option ℕ) → TookOut o i out → o ≡ off (states_of w i) → (x : ℕ) → stands i (queues_of w x) ≡ 0
    rest_of None h e = unlisted s (states_of w) (queues_of w) (cursors_of w) out holds.carried i (sym e)
    rest_of (Some cpu) h e = λ x. holds.carried.away i x h

  plain_to : is_plain reply ≡ true → to ≡ act_over from from.stage
  plain_to plain = plain_called from i (is_some (off t)) (Call op) reply plain

  over_on : is_plain reply ≡ true → SameTurn role from.left from.stage to.left to.stage
  over_on plain = subst (λ (x : Cursor). SameTurn role from.left from.stage x.left x.stage) (sym (plain_to plain)) over_turn

  over_hand : is_plain reply ≡ true → carries s a to ≡ None
  over_hand plain = ap (carries s a) (plain_to plain) ∙ over_free

  nowhere : t.armed ≡ None → (cpu : ℕ) → off t ≡ Some cpu → (1 ≤ stands i (queues_of w cpu)) ⊎ (((p : PendingInsert) × (carries s a to ≡ Some p) × (p.i ≡ i)) ⊎ ((b : ℕ) × (p : PendingInsert) × (b ≡ a → ⊥) × (b < actor_count s) × (carries s b (cursors_of w b) ≡ Some p) × (p.i ≡ i)))
  nowhere none cpu e = let clash : Some cpu ≡ None = sym e ∙ off_none t none in cc

  pub call_keeps : t.armed ≡ (states_of w i).armed → GoesOn (states_of w i).run t.run → is_plain reply ≡ true → off_of reply ≡ None → Holds s now None
  call_keeps same on plain none =
      finish on (over_on plain)
      (carry (inl (λ n cpu u h. listed_on (states_of w i) t n cpu u same on h)) (inl (over_hand plain)) (λ cpu e. stays cpu (holds.carried.listed i cpu (sym (off_same (states_of w i) t same on) ∙ e)))) where
        out_none : out ≡ None
        out_none = subst (λ (o : Option ℕ). TookOut o i out) none took

        stays : (cpu : ℕ) → (1 ≤ stands i (queues_of w cpu)) ⊎ ((out ≡ Some i) ⊎ ((b : ℕ) × (p : PendingInsert) × (b < actor_count s) × (carries s b (cursors_of w b) ≡ Some p) × (p.i ≡ i))) →
            (1 ≤ stands i (queues_of w cpu)) ⊎ (((p : PendingInsert) × (carries s a to ≡ Some p) × (p.i ≡ i)) ⊎ ((b : ℕ) × (p : PendingInsert) × (b ≡ a → ⊥) × (b < actor_count s) × (carries s b (cursors_of w b) ≡ Some p) × (p.i ≡ i)))
        stays cpu (inl some) = inl some
        stays cpu (inr (inl removed)) = absurd (let clash : Some i ≡ None = sym removed ∙ out_none in cc)
        stays cpu (inr (inr has)) = absurd (unmoved has.0 has.1 has.3 has.4)

  pub call_clears : t.armed ≡ None → GoesOn (states_of w i).run t.run → is_plain reply ≡ true → off_of reply ≡ off (states_of w i) → Holds s now None
  call_clears none on plain same = finish on (over_on plain) (carry (inr (nobody same)) (inl (over_hand plain)) (nowhere none))

  pub call_waits : (n : ℕ) (more : Bool) → reply ≡ Wait n more (off (states_of w i)) → t.armed ≡ None → GoesOn (states_of w i).run t.run → (service_of from.stage ≡ None) × (has_popped from.stage ≡ false) × ((k : ℕ) × (role ≡ Client k)) → Holds s now None
  call_waits n more says none on rest = finish on turn (carry (inr (nobody (ap off_of says))) (inl free) (nowhere none)) where
    waits_at : (b : Bool) → call_made from i b (Call op) (Wait n more (off (states_of w i))) ≡ record from { stage = Waiting n more }
    waits_at true = refl
    waits_at false = refl

    to_is : to ≡ record from { stage = Waiting n more }
    to_is = ap (call_made from i (is_some (off t)) (Call op)) says ∙ waits_at (is_some (off t))

    turn : SameTurn role from.left from.stage to.left to.stage
    turn = subst (λ (x : Cursor). SameTurn role from.left from.stage x.left x.stage) (sym to_is) (turn_wait s role from.left from.act from.now from.hold None from.parcel from.stage n more acting rest.0 rest.1 rest.2)

    free : carries s a to ≡ None
    free = ap (carries s a) to_is ∙ ap (λ (o : Option PendingInsert). in_hand (cpu_of s role) o (Waiting n more)) view.0

  pub call_arms : (code : ℤ) (arming : Arming) → reply ≡ Armed code arming.n arming.cpu (off (states_of w i)) → t.armed ≡ Some arming → arming.due ≡ due_of_call (Call op) → GoesOn (states_of w i).run t.run → Holds s now None
  call_arms code arming says armed due on = go (off t) refl where
    parcel : PendingInsert
    parcel = record { act = from.act; i = i; n = arming.n; due = due_of_call (Call op); cpu = arming.cpu }

    sent : Cursor
    sent = record (act_over from from.stage) { parcel = Some (record { act = from.act; i = i; n = arming.n; due = due_of_call (Call op); cpu = arming.cpu }) }

    arms_at : (b : Bool) → call_made from i b (Call op) (Armed code arming.n arming.cpu (off (states_of w i))) ≡ cond b (record (act_over from from.stage) { parcel = Some (record { act = from.act; i = i; n = arming.n; due = due_of_call (Call op); cpu = arming.cpu }) }) (act_over from from.stage)
    arms_at true = refl
    arms_at false = refl

    to_is : (o : Option ℕ) → off t ≡ o → to ≡ cond (is_some o) (record (act_over from from.stage) { parcel = Some (record { act = from.act; i = i; n = arming.n; due = due_of_call (Call op); cpu = arming.cpu }) }) (act_over from from.stage)
    to_is o e = ap (call_made from i (is_some (off t)) (Call op)) says ∙ arms_at (is_some (off t)) ∙ ap (λ (x : Option ℕ). cond (is_some x) (record (act_over from from.stage) { parcel = Some (record { act = from.act; i = i; n = arming.n; due = due_of_call (Call op); cpu = arming.cpu }) }) (act_over from from.stage)) e

    go : (o : Option ℕ) → off t ≡ o → Holds s now None
    go None e =
        let over : to ≡ act_over from from.stage = to_is None e in
        finish on (subst (λ (x : Cursor). SameTurn role from.left from.stage x.left x.stage) (sym over) over_turn)
        (carry (inr (nobody (ap off_of says))) (inl (ap (carries s a) over ∙ over_free)) (λ cpu there. (let clash : Some cpu ≡ None = sym there ∙ e in cc)))
    go (Some x) e =
        let new : to ≡ record (act_over from from.stage) { parcel = Some (record { act = from.act; i = i; n = arming.n; due = due_of_call (Call op); cpu = arming.cpu }) } = to_is (Some x) e in
        let p : PendingInsert = record { act = from.act; i = i; n = arming.n; due = due_of_call (Call op); cpu = arming.cpu } in
        let carried_now : carries s a to ≡ Some p = ap (carries s a) new in
        let listed : IsListed t arming.n arming.cpu arming.due × (arming.cpu ≡ x) = listed_arming t arming x armed e in
        finish on (subst (λ (z : Cursor). SameTurn role from.left from.stage z.left z.stage) (sym new) (record { service = over_turn.service; popped = over_turn.popped; runs = over_turn.runs; ticks = over_turn.ticks; hands = over_turn.hands }))
        (carry (inr (nobody (ap off_of says))) (inr (p, carried_now, refl, subst (IsListed t arming.n arming.cpu) due listed.0, nobody (ap off_of says))) (λ cpu there. inr (inl (p, carried_now, refl))))

drain_rest : (s : Script) (role : Role) (left : List Task) (number now : ℕ) (held : Option Held) (removed : Option ℕ) (parcel : Option PendingInsert) (stage : Stage) (act i : ℕ) (took : Bool) →
    IsAction s role (place left number now held stage removed parcel) stage (Asks act (Callout i (Call (DrainTry took)))) → FitsRole s role left held stage → (service_of stage ≡ None) × (has_popped stage ≡ false) × ((k : ℕ) × (role ≡ Client k))
drain_rest s role left number now held removed parcel stage act i took (drains j more is none) fits = (refl, refl, clients_act s role (Does (Drain j)) refl (first_task (IsTaskOf s role) left more (Does (Drain j)) is fits.tasks))
drain_rest s role left number now held removed parcel stage act i took (waits n t none) fits = (refl, refl, waiting_client s role held n t fits.hold)

-- a call keeps what holds, once it has taken its callout out of a queue
pub holds_call : (s : Script) (ok : IsScript s) (w : World) (out : Option ℕ) (holds : Holds s w out) (a act i : ℕ) (op : CallOp) (t : State) (reply : Reply) (may : a < actor_count s) (is : action_for s a (cursors_of w a) ≡ Asks act (Callout i (Call op)))
    (d : Did (spec_at s i) (states_of w i) (Call op) reply t) (unmoved : (b : ℕ) (p : PendingInsert) → carries s b (cursors_of w b) ≡ Some p → p.i ≡ i → ⊥) (took : TookOut (off_of reply) i out) →
    Holds s (notes_down s (enters w i t (record { actor = a; act = act; op = Call op; reply = reply })) a (is_some (off t)) (note_of w i (record { actor = a; act = act; op = Call op; reply = reply }))) None
holds_call s ok w out holds a act i op t reply may is (keeps x r u same on plain none) unmoved took = call_keeps s ok w out holds a act i op t reply may is (keeps x r u same on plain none) unmoved took same on plain none
holds_call s ok w out holds a act i op t reply may is (clears x r u none on plain same) unmoved took = call_clears s ok w out holds a act i op t reply may is (clears x r u none on plain same) unmoved took none on plain same
holds_call s ok w out holds a act i op t reply may is (deed.waits before more n u none on serviced) unmoved took =
    let from : Cursor = record (cursors_of w a) { removed = None } in
    call_waits s ok w out holds a act i op t reply may is (deed.waits before more n u none on serviced) unmoved took n more refl none on
    (drain_rest s (role_of s a) from.left from.act from.now from.hold None from.parcel from.stage act i before (callout_view s a (cursors_of w a) act i (Call (DrainTry before)) is).1 (holds.roles a))
holds_call s ok w out holds a act i op t reply may is (arms x code arming u armed due on) unmoved took = call_arms s ok w out holds a act i op t reply may is (arms x code arming u armed due on) unmoved took code arming refl armed due on
