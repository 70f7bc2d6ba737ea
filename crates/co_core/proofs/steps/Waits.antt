-- What the ledger and the depot say of who waits is what the plain world says: who holds a lock, which callout is moved, and how
-- many Scans a CPU has made.
use Rattle.std.proofs.Common.{◌≡◌, ℕ, zero, suc, ◌+◌, ◌<◌, Bool, true, false, cond, not, ◌&&◌, ◌||◌, List, [], ◌∷◌, length, map, get_or, refl, ap, sym, subst, ◌∙◌, arith, inl, inr}
use Rattle.std.specs.Prelude.{Option, Some, None, is_some, ◌⊎◌, ◌==◌, nat_lt, if◌then◌else◌}
use Rattle.std.specs.List.{list_any, range_with_len}
use Rattle.std.proofs.lemmas.Bool.{eq-eqb}
use Rattle.co_object.specs.declared.Alone.{Alone}
use Rattle.co_lock.specs.declared.Held.{Held}
use Rattle.co_program.specs.declared.Script.{Script}
use Rattle.co_program.specs.declared.Cursor.{Cursor as CursorAt}
use Rattle.co_program.specs.Stages.{Stage as StageOf}
use Rattle.co_program.specs.Cursor.{Cursor}
use Rattle.co_program.specs.declared.Role.{Role}
use Rattle.co_program.specs.Actors.{actor_count, role_of, cpu_of, all_actors}
use Rattle.co_program.specs.declared.Action.{Action as ActionAt}
use Rattle.co_program.specs.declared.action.Action.TheVariants as action
use Rattle.co_program.specs.declared.Asked.{Asked}
use Rattle.co_program.specs.declared.Asked.TheVariants.{Callout, Queue}
use Rattle.co_program.specs.declared.PendingInsert.{PendingInsert}
use Rattle.co_object.specs.declared.Op.{Op}
use Rattle.co_object.specs.declared.Op.TheVariants.{Call}
use Rattle.co_object.specs.declared.CallOp.{CallOp}
use Rattle.co_object.specs.declared.QOp.{QOp}
use Rattle.co_program.specs.Action.{Asks, action_for, scans_first}
use Rattle.co_program.specs.Scripts.{IsScript}
use Rattle.co_program.specs.Follows.{scan_count}
use Rattle.co_program.specs.Indexed.{stage_of, cursor_of, action_of}
use Rattle.co_wheel.specs.Callouts.{is_here}
use Rattle.co_world.specs.World.{World}
use Rattle.co_world.specs.Blocked.{is_excluded_by, is_locked, is_moving, is_waiting, waits_for, blocked}
use Rattle.co_world.specs.declared.turn.Why.{Why}
use Rattle.co_world.specs.declared.turn.Why.TheVariants.{Moving, Serviced, Tick}
use Rattle.co_world.specs.Placed.{IsPlaced, stage_callout}
use Rattle.co_core.specs.Stands.{ShowsWritten, ShowsStored, StandsFor, at_home, alone_in}
use Rattle.co_core.specs.Stored.{Stored, wheel_at, stand_at}
use Rattle.co_core.specs.Table.{table}
use Rattle.co_core.specs.Written.{Written, cursor_at, first_cursor}
use Rattle.co_world.proofs.kept.Invariant.{cursors_of}
use Rattle.co_core.proofs.tables.Values.{fills, read, long}
use Rattle.co_world.proofs.basics.Actions.{IsAction, IsActionWith, inserts, goes_by, scans, starts, pops, frees}
use Rattle.co_world.proofs.kept.ByOwnSteps.{view_of}
use Rattle.co_world.proofs.names.Calls.{cursor_names, names_of, role_cpu, Names}

-- ---- any actor

any-same : (p q : ℕ → Bool) (k n : ℕ) → ((a : ℕ) → a < k + n → p a ≡ q a) → list_any p (range_with_len k n) ≡ list_any q (range_with_len k n)
any-same p q k zero same = refl
any-same p q k (suc n) same = rw (same k (omega arith), any-same p q (k + 1) n (λ a within. same a (omega (arith, within)))) refl

any-map : {X Y : Type 0} (p : Y → Bool) (f : X → Y) (xs : List X) → list_any p (map f xs) ≡ list_any (λ x. p (f x)) xs
any-map p f [] = refl
any-map p f (x ∷ xs) = ap (λ b. p (f x) || b) (any-map p f xs)

-- the ledger's cursors are those of all actors
module _ (s : Script) (x : Written) (w : World) (h : ShowsWritten s x w) where
  cursors-table : x.cursors ≡ table (actor_count s) (cursor_at x)
  cursors-table = fills x.cursors (actor_count s) (cursor_at x) first_cursor h.cursors_long (λ a within. refl)

  any-place : (p : CursorAt → Bool) (q : ℕ → Bool) → ((a : ℕ) → a < actor_count s → p (cursor_at x a) ≡ q a) → list_any p x.cursors ≡ list_any q (all_actors s)
  any-place p q same = ap (list_any p) cursors-table ∙ (any-map p (cursor_at x) (all_actors s) ∙ any-same (λ a. p (cursor_at x a)) q 0 (actor_count s) (λ a within. same a (omega (arith, within))))

  pub locked-is : (held : Held) → list_any (λ (place : CursorAt). is_excluded_by held place.hold) x.cursors ≡ is_locked s w held
  locked-is held = any-place (λ (place : CursorAt). is_excluded_by held place.hold) (λ a. is_excluded_by held (w.actors a).cursor.hold)
      (λ a within. ap (λ (c : Cursor). is_excluded_by held c.hold) (h.each_place a within))

  pub scans-is : (cpu : ℕ) → cpu < s.cpus → get_or x.scans cpu 0 ≡ scan_count (w.cpus cpu).journal
  scans-is cpu within = read x.scans s.cpus (λ cpu. scan_count (w.cpus cpu).journal) cpu 0 h.each_scan within

-- ---- which callout is moved

-- a record that stands still is at its wheel, and one on its way is not
pub home-is : (s : Script) (y : Stored) (w : World) → ShowsStored s y w → IsPlaced s w → (i : ℕ) → i < length s.timers → is_here (wheel_at y (stand_at y i)).callouts i ≡ not (is_moving s w i)
home-is s y w stored placed i within =
    let stand_is : stand_at y i ≡ (w.timers i).stand = read y.stands (length s.timers) (λ i. (w.timers i).stand) i 0 stored.each_stand within in
    subst (λ cpu. is_here (wheel_at y cpu).callouts i ≡ not (is_moving s w i)) (sym stand_is) (
    let wheel = stored.each_wheel (w.timers i).stand (placed.cpus_known i within).stand in
    ap (λ (o : Option Alone). is_some o) (read (wheel_at y (w.timers i).stand).callouts.here (length s.timers) (at_home s w (w.timers i).stand) i None wheel.here within)
    ∙ go ((w.timers i).stand == (w.timers i).stand) (eq-eqb (w.timers i).stand (w.timers i).stand refl) (is_moving s w i)) where
      go : (a : Bool) → a ≡ true → (b : Bool) → is_some (cond (a && not b) (Some (alone_in s w i)) None) ≡ not b
      go true is true = refl
      go true is false = refl
      go false is b = cc

not-true : (b : Bool) → not b ≡ true → b ≡ false
not-true false h = refl
not-true true h = sym h

not-false : (b : Bool) → not b ≡ false → b ≡ true
not-false true h = refl
not-false false h = sym h

module _ (s : Script) (y : Stored) (w : World) (stored : ShowsStored s y w) (placed : IsPlaced s w) (i cpu : ℕ) (within : i < length s.timers) (stand : cpu ≡ stand_at y i) where
  home-of : is_here (wheel_at y cpu).callouts i ≡ not (is_moving s w i)
  home-of = subst (λ (x : ℕ). is_here (wheel_at y x).callouts i ≡ not (is_moving s w i)) (sym stand) (home-is s y w stored placed i within)

  pub stays : is_here (wheel_at y cpu).callouts i ≡ true → is_moving s w i ≡ false
  stays here = not-true (is_moving s w i) (sym home-of ∙ here)

  pub leaves : is_here (wheel_at y cpu).callouts i ≡ false → is_moving s w i ≡ true
  leaves gone = not-false (is_moving s w i) (sym home-of ∙ gone)

-- ---- what an actor's action names exists

queue_on : (s : Script) (r : Role) (c : Cursor) (x : StageOf) (act cpu : ℕ) (op : QOp) → IsAction s r c x (Asks act (Queue cpu op)) → cpu ≡ cpu_of s r
queue_on s r c x act cpu op (scans time left own) = refl
queue_on s r c x act cpu op (starts j left own) = refl
queue_on s r c x act cpu op (pops act') = refl
queue_on s r c x act cpu op (frees v drain next) = refl

-- it asks its own CPU, or the one to which its callout is on its way
queue_at : (s : Script) (r : Role) (c : Cursor) (parcel : Option PendingInsert) (act cpu : ℕ) (op : QOp) → IsActionWith s r c parcel (Asks act (Queue cpu op)) → (cpu ≡ cpu_of s r) ⊎ ((p : PendingInsert) × (parcel ≡ Some p) × (p.cpu ≡ cpu))
queue_at s r c parcel act cpu op (inserts p) = inr (p, refl, refl)
queue_at s r c parcel act cpu op (goes_by due view) = inl (queue_on s r c c.stage act cpu op view)

module _ (s : Script) (ok : IsScript s) (ledger : Written) (depot : Stored) (w : World) (stands : StandsFor s ledger depot w) (a : ℕ) (may : a < actor_count s) where
  same_place : cursor_of s a (cursor_at ledger a) ≡ cursors_of w a
  same_place = stands.written.each_place a may

  pub due_of : (place : CursorAt) (action : ActionAt) → place ≡ cursor_at ledger a → action_of s a place action ≡ action_for s a (cursor_of s a place) → action_for s a (cursors_of w a) ≡ action_of s a (cursor_at ledger a) action
  due_of place action here is = sym (ap (λ (p : CursorAt). action_of s a p action) (sym here) ∙ (is ∙ ap (action_for s a) (ap (cursor_of s a) here ∙ same_place)))

  pub stage_at_place : (place : CursorAt) → place ≡ cursor_at ledger a → stage_of s place.stage ≡ (cursors_of w a).stage
  stage_at_place place here = ap (λ (c : Cursor). c.stage) (ap (cursor_of s a) here ∙ same_place)

  pub scans_at_place : (place : CursorAt) → place ≡ cursor_at ledger a → scans_first (cursor_of s a place) ≡ scans_first (cursors_of w a)
  scans_at_place place here = ap scans_first (ap (cursor_of s a) here ∙ same_place)

  pub callout_below : (act i : ℕ) (op : CallOp) → action_for s a (cursors_of w a) ≡ Asks act (Callout i (Call op)) → i < length s.timers
  callout_below act i op is =
      (names_of s a act i (cursors_of w a) op (subst (λ (c : Cursor). Names s (action_for s a c)) same_place (cursor_names s ok a may (cursor_at ledger a) (λ j at. stands.placed.known a j may (ap (λ (c : Cursor). stage_callout c.stage) (sym same_place) ∙ at)))) is).0

  pub stand_below : (i : ℕ) → i < length s.timers → (i < length depot.stands) × (stand_at depot i < length depot.wheels)
  stand_below i known = (
    (let l = long depot.stands (length s.timers) (λ i. (w.timers i).stand) stands.stored.each_stand in omega (arith, l, known)),
    (let is = read depot.stands (length s.timers) (λ i. (w.timers i).stand) i 0 stands.stored.each_stand known in
        let cpus_known = (stands.placed.cpus_known i known).stand in
        let l = stands.stored.wheels_long in
        omega (arith, is, cpus_known, l)),
  )

  pub queue_below : (act cpu : ℕ) (op : QOp) → action_for s a (cursors_of w a) ≡ Asks act (Queue cpu op) → cpu < s.cpus
  queue_below act cpu op is = go (queue_at s (role_of s a) (cursors_of w a) (cursors_of w a).parcel act cpu op (view_of s a (cursors_of w a) (Asks act (Queue cpu op)) is)) where
    go : (cpu ≡ cpu_of s (role_of s a)) ⊎ ((p : PendingInsert) × ((cursors_of w a).parcel ≡ Some p) × (p.cpu ≡ cpu)) → cpu < s.cpus
    go (inl own) = subst (λ (x : ℕ). x < s.cpus) (sym own) (role_cpu s ok a may)
    go (inr sent) = subst (λ (x : ℕ). x < s.cpus) sent.2 (stands.placed.bound a sent.0 may sent.1).target

  pub scan_row : (cpu : ℕ) → cpu < s.cpus → cpu < length ledger.scans
  scan_row cpu below = let l = long ledger.scans s.cpus (λ cpu. scan_count (w.cpus cpu).journal) stands.written.each_scan in omega (arith, l, below)

  module _ (place : CursorAt) (x : ActionAt) (here : place ≡ cursor_at ledger a) (is : action_of s a place x ≡ action_for s a (cursor_of s a place)) (act : ℕ) (asked : Asked) (asks : x ≡ action.Asks act asked) where
    asked_due : action_for s a (cursors_of w a) ≡ Asks act asked
    asked_due = due_of place x here is ∙ ap (action_of s a (cursor_at ledger a)) asks

    module _ (i : ℕ) (op : Op) (call : CallOp) (callout_is : asked ≡ Callout i op) (call_is : op ≡ Call call) where
      call_due : action_for s a (cursors_of w a) ≡ Asks act (Callout i (Call call))
      call_due = asked_due ∙ ap (λ (y : Asked). Asks act y) (callout_is ∙ ap (λ (o : Op). Callout i o) call_is)

      pub call_known : i < length s.timers
      call_known = callout_below act i call call_due

      pub call_blocked : (result : Option Why) → result ≡ (if is_moving s w i then Some (Moving i) else if is_waiting w i (stage_of s place.stage) then Some (Serviced i) else None) → result ≡ blocked s w a
      call_blocked result answer =
          answer ∙ (ap (λ (stage : StageOf). if is_moving s w i then Some (Moving i) else if is_waiting w i stage then Some (Serviced i) else None) (stage_at_place place here)
          ∙ sym (ap (waits_for s w (cursors_of w a)) call_due))

    module _ (cpu : ℕ) (op : QOp) (queue_is : asked ≡ Queue cpu op) where
      queue_due : action_for s a (cursors_of w a) ≡ Asks act (Queue cpu op)
      queue_due = asked_due ∙ ap (λ (y : Asked). Asks act y) queue_is

      pub queue_known : cpu < s.cpus
      queue_known = queue_below act cpu op queue_due

      pub queue_blocked : (first : ℕ) → first ≡ scans_first (cursor_of s a place) → (result : Option Why) → result ≡ (if nat_lt (scan_count (w.cpus cpu).journal) first then Some (Tick cpu) else None) → result ≡ blocked s w a
      queue_blocked first first_is result answer =
          answer ∙ (ap (λ (n : ℕ). if nat_lt (scan_count (w.cpus cpu).journal) n then Some (Tick cpu) else None) (first_is ∙ scans_at_place place here)
          ∙ sym (ap (waits_for s w (cursors_of w a)) queue_due))
