-- What the depot stands for after a section on one callout, at one CPU, by one actor.
use Rattle.std.proofs.Common.{◌≡◌, ℕ, ◌<◌, ◌⊎◌, inl, inr, Bool, true, false, cond, not, List, length, set, refl, sym, ap, ◌∙◌, subst, arith, length-set, Option, Some, None, eqb-true, eq-eqb}
use Rattle.std.specs.Prelude.{◌==◌, ◌&&◌}
use Rattle.std.proofs.lemmas.List.{get_or-set_same, get_or-set_other, set-get_or}
use Rattle.co_object.specs.declared.alone.Alone.{Alone}
use Rattle.co_object.specs.declared.State.{State}
use Rattle.co_object.specs.declared.Arming.{Arming}
use Rattle.co_object.specs.Queue.{Queue as TimerQueue}
use Rattle.co_program.specs.declared.script.Script.{Script}
use Rattle.co_program.specs.Actors.{actor_count}
use Rattle.co_program.specs.declared.cursor.PendingInsert.{PendingInsert}
use Rattle.co_program.specs.Cursor.{Cursor}
use Rattle.co_program.specs.Action.{spec_at}
use Rattle.co_wheel.specs.Cpu.{Cpu as WheelOf}
use Rattle.co_wheel.specs.Parcel.{Parcel}
use Rattle.co_wheel.specs.Turns.{Shows}
use Rattle.co_world.specs.World.{World}
use Rattle.co_world.specs.Blocked.{is_moving, moves}
use Rattle.co_core.specs.Stored.{Stored, bag_at, wheel_at, no_wheel, with_wheel}
use Rattle.co_core.specs.Stands.{IsAtWheel, IsBag, IsPacked, ShowsStored, alone_in, at_home, is_home}
use Rattle.co_world.proofs.basics.Changes.{decide}
use Rattle.co_world.proofs.sections.Movers.{IsOnly, moves_only, unmoved, parcels_of, moving_own, moving_same}
use Rattle.co_core.proofs.tables.Values.{put, same, read}
use Rattle.co_world.proofs.sections.Ways.{Goes, stands_of}
use Rattle.co_world.proofs.kept.Invariant.{states_of}

-- the callout after the section: at the wheel, unless its actor moves it
abbrev pub with_state : Script → ℕ → State → Alone
with_state s i state = record { spec = spec_at s i; state = state }

abbrev pub after_of : Script → ℕ → State → Option PendingInsert → Option Alone
after_of s i state parcel = cond (moves i parcel) None (Some (with_state s i state))

abbrev bagged_as : Script → PendingInsert → Arming → State → Parcel
bagged_as s p arming state = record { i = p.i; callout = with_state s p.i state; arming = arming }

-- a section on a callout that stands at its CPU, by an actor that moves nothing, changes the wheel alone
pub wheel_alone : (s : Script) (x : Stored) (w : World) → ShowsStored s x w → (i cpu a : ℕ) → i < length s.timers → a < actor_count s → stands_of w i ≡ cpu → parcels_of w a ≡ None → (wheel : WheelOf) →
    ◌≡◌ {A = Stored} (record { wheels = set x.wheels cpu wheel; stands = set x.stands i cpu; bags = set x.bags a None }) (with_wheel x cpu wheel)
wheel_alone s x w stored i cpu a known may stand empty wheel =
    ap (λ (l : List ℕ). stored_as l (set x.bags a None)) (ap (set x.stands i) (sym (read x.stands (length s.timers) (stands_of w) i 0 stored.each_stand known ∙ stand)) ∙ set-get_or x.stands i 0)
    ∙ ap (stored_as x.stands) (ap (set x.bags a) (sym no_bag) ∙ set-get_or x.bags a None) where
      stored_as : List ℕ → List (Option Parcel) → Stored
      stored_as stands bags = record { wheels = set x.wheels cpu wheel; stands = stands; bags = bags }

      no_bag : bag_at x a ≡ None
      no_bag = subst (λ (o : Option PendingInsert). IsBag s w o (bag_at x a)) empty (stored.each_bag a may)

module _ (s : Script) (x : Stored) (w w' : World) (i cpu a : ℕ) (state : State) (queue : TimerQueue) (place : Cursor) (wheel : WheelOf) (bag : Option Parcel)
    (stored : ShowsStored s x w) (may : a < actor_count s) (on : cpu < s.cpus) (goes : Goes w w' i cpu a state cpu queue place)
    (only : IsOnly i (parcels_of w a)) (only' : IsOnly i place.parcel)
    (others : (b : ℕ) → (b ≡ a → ⊥) → b < actor_count s → moves i (parcels_of w b) ≡ false)
    (gone : (y : ℕ) → (y ≡ cpu → ⊥) → at_home s w y i ≡ None)
    (number : wheel.callouts.cpu ≡ (wheel_at x cpu).callouts.cpu)
    (here : wheel.callouts.here ≡ set (wheel_at x cpu).callouts.here i (after_of s i state place.parcel))
    (buckets : wheel.timers.buckets ≡ (wheel_at x cpu).timers.buckets) (direct : wheel.timers.direct ≡ (wheel_at x cpu).timers.direct)
    (shows : Shows wheel queue) (bagged : IsBag s w' place.parcel bag) where
  abbrev x' : Stored
  x' = record { wheels = set x.wheels cpu wheel; stands = set x.stands i cpu; bags = set x.bags a bag }

  parcel_else : (b : ℕ) → (b ≡ a → ⊥) → parcels_of w' b ≡ parcels_of w b
  parcel_else b other = ap (λ (c : Cursor). c.parcel) (goes.cursors.else b other)

  parcel_here : parcels_of w' a ≡ place.parcel
  parcel_here = ap (λ (c : Cursor). c.parcel) goes.cursors.here

  others' : (b : ℕ) → (b ≡ a → ⊥) → b < actor_count s → moves i (parcels_of w' b) ≡ false
  others' b other within = ap (moves i) (parcel_else b other) ∙ others b other within

  moving_here : is_moving s w' i ≡ moves i place.parcel
  moving_here = moving_own s w' i a may others' ∙ ap (moves i) parcel_here

  moving_else : (j : ℕ) → (j ≡ i → ⊥) → is_moving s w' j ≡ is_moving s w j
  moving_else j apart = moving_same s w w' j (λ b within. go b (decide b a)) where
    go : (b : ℕ) → (b ≡ a) ⊎ (b ≡ a → ⊥) → moves j (parcels_of w' b) ≡ moves j (parcels_of w b)
    go b (inl own) = subst (λ k. moves j (parcels_of w' k) ≡ moves j (parcels_of w k)) (sym own) (ap (moves j) parcel_here ∙ moves_only i j place.parcel only' apart ∙ sym (moves_only i j (parcels_of w a) only apart))
    go b (inr other) = ap (moves j) (parcel_else b other)

  home_else : (y j : ℕ) → (j ≡ i → ⊥) → at_home s w' y j ≡ at_home s w y j
  home_else y j other =
      ap (λ (t : ℕ). cond (t == y && not (is_moving s w' j)) (Some (alone_in s w' j)) None) (goes.stands.else j other)
      ∙ ap (λ (m : Bool). cond (stands_of w j == y && not m) (Some (alone_in s w' j)) None) (moving_else j other)
      ∙ ap (λ (t : State). cond (is_home s w y j) (Some (with_state s j t)) None) (goes.states.else j other)

  home_here : at_home s w' cpu i ≡ after_of s i state place.parcel
  home_here =
      ap (λ (t : ℕ). cond (t == cpu && not (is_moving s w' i)) (Some (alone_in s w' i)) None) goes.stands.here
      ∙ ap (λ (b : Bool). cond (b && not (is_moving s w' i)) (Some (alone_in s w' i)) None) (eq-eqb cpu cpu refl)
      ∙ ap (λ (m : Bool). cond (not m) (Some (alone_in s w' i)) None) moving_here
      ∙ ap (λ (t : State). cond (not (moves i place.parcel)) (Some (with_state s i t)) None) goes.states.here
      ∙ flip (moves i place.parcel) where
        flip : (b : Bool) → cond (not b) (Some (with_state s i state)) None ≡ cond b None (Some (with_state s i state))
        flip true = refl
        flip false = refl

  home_gone : (y : ℕ) → (y ≡ cpu → ⊥) → at_home s w' y i ≡ None
  home_gone y other =
      ap (λ (t : ℕ). cond (t == y && not (is_moving s w' i)) (Some (alone_in s w' i)) None) goes.stands.here ∙ go (cpu == y) refl where
        go : (b : Bool) → (cpu == y) ≡ b → cond (b && not (is_moving s w' i)) (Some (alone_in s w' i)) None ≡ None
        go true is = absurd (other (sym (eqb-true cpu y is)))
        go false is = refl

  wheel_here : IsAtWheel s w' cpu wheel
  wheel_here =
      let old : IsAtWheel s w cpu (wheel_at x cpu) = stored.each_wheel cpu on in
      record {
        number = number ∙ old.number;
        here = here ∙ put (wheel_at x cpu).callouts.here (length s.timers) (at_home s w cpu) i (after_of s i state place.parcel) (at_home s w' cpu) old.here (record { here = home_here; else = home_else cpu });
        buckets = buckets ∙ old.buckets;
        direct = direct ∙ old.direct;
        shows = subst (Shows wheel) (sym goes.queues.here) shows;
      }

  wheel_else : (y : ℕ) → y < s.cpus → (y ≡ cpu → ⊥) → IsAtWheel s w' y (wheel_at x y)
  wheel_else y within other =
      let old : IsAtWheel s w y (wheel_at x y) = stored.each_wheel y within in
      record {
        number = old.number;
        here = old.here ∙ same (length s.timers) (at_home s w y) (at_home s w' y) (λ j below. home j (decide j i));
        buckets = old.buckets;
        direct = old.direct;
        shows = subst (Shows (wheel_at x y)) (sym (goes.queues.else y other)) old.shows;
      } where
        home : (j : ℕ) → (j ≡ i) ⊎ (j ≡ i → ⊥) → at_home s w' y j ≡ at_home s w y j
        home j (inl own) = subst (λ k. at_home s w' y k ≡ at_home s w y k) (sym own) (home_gone y other ∙ sym (gone y other))
        home j (inr apart) = home_else y j apart

  wheels : (y : ℕ) → y < s.cpus → IsAtWheel s w' y (wheel_at x' y)
  wheels y within = go (decide y cpu) where
    go : (y ≡ cpu) ⊎ (y ≡ cpu → ⊥) → IsAtWheel s w' y (wheel_at x' y)
    go (inl own) =
        let inside : cpu < length x.wheels = (let l = stored.wheels_long in omega arith) in
        subst (λ k. IsAtWheel s w' k (wheel_at x' k)) (sym own) (subst (IsAtWheel s w' cpu) (sym (get_or-set_same x.wheels cpu wheel no_wheel inside)) wheel_here)
    go (inr other) = subst (IsAtWheel s w' y) (sym (get_or-set_other x.wheels cpu y wheel no_wheel other)) (wheel_else y within other)

  packed_else : (p : PendingInsert) (packs : Option Parcel) → (p.i ≡ i → ⊥) → IsPacked s w p packs → IsPacked s w' p packs
  packed_else p packs other old =
      let same_state : states_of w' p.i ≡ states_of w p.i = goes.states.else p.i other in
      record {
        arming = old.arming;
        packed = old.packed ∙ ap (λ (t : State). Some (bagged_as s p old.arming t)) (sym same_state);
        armed = ap (λ (t : State). t.armed) same_state ∙ old.armed;
        number = old.number;
        due = old.due;
        cpu = old.cpu;
      }

  bag_else : (b : ℕ) → b < actor_count s → (b ≡ a → ⊥) → IsBag s w' (parcels_of w' b) (bag_at x b)
  bag_else b within other = subst (λ (o : Option PendingInsert). IsBag s w' o (bag_at x b)) (sym (parcel_else b other)) (go (parcels_of w b) refl (stored.each_bag b within)) where
    go : (o : Option PendingInsert) → parcels_of w b ≡ o → IsBag s w o (bag_at x b) → IsBag s w' o (bag_at x b)
    go None is old = old
    go (Some p) is old = packed_else p (bag_at x b) (λ it. unmoved i (parcels_of w b) p (others b other within) is it) old

  bags : (b : ℕ) → b < actor_count s → IsBag s w' (parcels_of w' b) (bag_at x' b)
  bags b within = go (decide b a) where
    go : (b ≡ a) ⊎ (b ≡ a → ⊥) → IsBag s w' (parcels_of w' b) (bag_at x' b)
    go (inl own) =
        let inside : a < length x.bags = (let l = stored.bags_long in omega arith) in
        subst (λ k. IsBag s w' (parcels_of w' k) (bag_at x' k)) (sym own)
        (subst (λ (o : Option Parcel). IsBag s w' (parcels_of w' a) o) (sym (get_or-set_same x.bags a bag None inside)) (subst (λ (o : Option PendingInsert). IsBag s w' o bag) (sym parcel_here) bagged))
    go (inr other) = subst (IsBag s w' (parcels_of w' b)) (sym (get_or-set_other x.bags a b bag None other)) (bag_else b within other)

  pub stored_after : ShowsStored s x' w'
  stored_after = record {
    wheels_long = length-set x.wheels cpu wheel ∙ stored.wheels_long;
    each_wheel = wheels;
    each_stand = put x.stands (length s.timers) (stands_of w) i cpu (stands_of w') stored.each_stand goes.stands;
    bags_long = length-set x.bags a bag ∙ stored.bags_long;
    each_bag = bags;
  }
