-- Where each record is after a section: what the depot shows, and what holds between the records and the actors.
use Rattle.std.proofs.Common.{◌≡◌, ℕ, ◌<◌, ◌⊎◌, inl, inr, Bool, true, false, cond, not, [], ◌∷◌, ◌++◌, length, get_or, set, length-set, refl, sym, ap, ◌∙◌, subst, arith, Option, Some, None}
use Rattle.std.specs.Prelude.{◌==◌, ◌&&◌}
use Rattle.co_object.specs.declared.State.{State}
use Rattle.co_object.specs.declared.Arming.{Arming}
use Rattle.co_object.specs.Stand.{is_idle, is_free_at, off}
use Rattle.co_object.specs.Queue.{Queue as TimerQueue}
use Rattle.co_program.specs.declared.cursor.PendingInsert.{PendingInsert}
use Rattle.co_program.specs.declared.script.Script.{Script}
use Rattle.co_program.specs.Actors.{actor_count, role_of, cpu_of}
use Rattle.co_program.specs.Cursor.{Cursor}
use Rattle.std.proofs.lemmas.List.{get_or-set_same, get_or-set_other}
use Rattle.co_wheel.specs.Callouts.{Callouts}
use Rattle.co_wheel.specs.Cpu.{Cpu as WheelOf}
use Rattle.co_wheel.specs.Parcel.{Parcel}
use Rattle.co_wheel.specs.Turns.{Shows}
use Rattle.co_world.proofs.measure.Walks.{one_more, run_more}
use Rattle.co_world.proofs.sections.Slots.{StageKept}
use Rattle.co_world.specs.World.{World, open_world}
use Rattle.co_world.specs.Blocked.{is_moving, moves}
use Rattle.co_world.specs.Step.{step}
use Rattle.co_core.specs.Stored.{Stored, bag_at, wheel_at, no_wheel}
use Rattle.co_world.specs.Placed.{IsPlaced, IsBound, NamesKnownCpus, server_slot, in_slot, stage_callout}
use Rattle.co_world.specs.Laws.{IsReached}
use Rattle.co_core.specs.Stands.{IsAtWheel, IsBag, IsPacked, ShowsStored, alone_in, at_home, is_home}
use Rattle.co_world.proofs.basics.Changes.{IsAt, decide, at_all}
use Rattle.co_world.proofs.sections.Movers.{IsOnly, moves_only, unmoved, parcels_of, moving_own, moving_same}
use Rattle.co_core.proofs.stored.Sections.{with_state}
use Rattle.co_core.proofs.tables.Values.{same}
use Rattle.co_world.proofs.sections.Ways.{Goes, stands_of}
use Rattle.co_world.proofs.kept.Invariant.{states_of, queues_of, cursors_of}

pub reached_after : (s : Script) (w : World) (a : ℕ) → a < actor_count s → IsReached s w → IsReached s (step s w a)
reached_after s w a may h = record {
  schedule = h.schedule ++ a ∷ [];
  may = one_more (λ b. b < actor_count s) h.schedule a h.may may;
  world = ap (λ (x : World). step s x a) h.world ∙ sym (run_more s (open_world s) h.schedule a);
}

-- ---- where no record and no queue changes

module _ (s : Script) (w w' : World) (states : (j : ℕ) → states_of w' j ≡ states_of w j) (stands : (j : ℕ) → stands_of w' j ≡ stands_of w j)
    (queues : (y : ℕ) → queues_of w' y ≡ queues_of w y) (parcels : (b : ℕ) → parcels_of w' b ≡ parcels_of w b) where
  moving : (j : ℕ) → is_moving s w' j ≡ is_moving s w j
  moving j = moving_same s w w' j (λ b within. ap (moves j) (parcels b))

  home : (y j : ℕ) → at_home s w' y j ≡ at_home s w y j
  home y j =
      ap (λ (t : ℕ). cond (t == y && not (is_moving s w' j)) (Some (alone_in s w' j)) None) (stands j)
      ∙ ap (λ (m : Bool). cond (stands_of w j == y && not m) (Some (alone_in s w' j)) None) (moving j)
      ∙ ap (λ (t : State). cond (is_home s w y j) (Some (with_state s j t)) None) (states j)

  packed : (p : PendingInsert) (bag : Option Parcel) → IsPacked s w p bag → IsPacked s w' p bag
  packed p bag old = record {
    arming = old.arming;
    packed = old.packed ∙ ap (λ (t : State). Some (travels p old.arming t)) (sym (states p.i));
    armed = ap (λ (t : State). t.armed) (states p.i) ∙ old.armed;
    number = old.number;
    due = old.due;
    cpu = old.cpu;
  } where
    travels : PendingInsert → Arming → State → Parcel
    travels p arming t = record { i = p.i; callout = with_state s p.i t; arming = arming }

  bagged : (o : Option PendingInsert) (bag : Option Parcel) → IsBag s w o bag → IsBag s w' o bag
  bagged None bag h = h
  bagged (Some p) bag h = packed p bag h

  pub stored_quiet : (x : Stored) → ShowsStored s x w → ShowsStored s x w'
  stored_quiet x stored = record {
    wheels_long = stored.wheels_long;
    each_wheel = λ y within. (
        let old = stored.each_wheel y within in
        record {
          number = old.number;
          here = old.here ∙ same (length s.timers) (at_home s w y) (at_home s w' y) (λ j below. home y j);
          buckets = old.buckets;
          direct = old.direct;
          shows = subst (Shows (wheel_at x y)) (sym (queues y)) old.shows;
        });
    each_stand = stored.each_stand ∙ same (length s.timers) (stands_of w) (stands_of w') (λ j below. stands j);
    bags_long = stored.bags_long;
    each_bag = λ b within. subst (λ (o : Option PendingInsert). IsBag s w' o (bag_at x b)) (sym (parcels b)) (bagged (parcels_of w b) (bag_at x b) (stored.each_bag b within));
  }

  pub placed_quiet : (a : ℕ) → ((b : ℕ) → (b ≡ a → ⊥) → cursors_of w' b ≡ cursors_of w b) → StageKept (cursors_of w a).stage (cursors_of w' a).stage → IsPlaced s w → IsPlaced s w'
  placed_quiet a cursors kept placed = record {
    runs = λ j. subst (λ (t : ℕ). is_free_at (states_of w' j).run t ≡ true) (sym (stands j)) (subst (λ (t : State). is_free_at t.run (stands_of w j) ≡ true) (sym (states j)) (placed.runs j));
    listed = λ j y still at. stands j ∙ placed.listed j y (sym (moving j) ∙ still) (ap off (sym (states j)) ∙ at);
    bound = λ b p may is. (
        let old = placed.bound b p may (sym (parcels b) ∙ is) in
        record { idle = ap (λ (t : State). is_idle t.run) (states p.i) ∙ old.idle; known = old.known; target = old.target });
    serves = λ b may. ap (server_slot (role_of s b)) (queues (cpu_of s (role_of s b))) ∙ placed.serves b may ∙ sym (slot b (decide b a));
    known = λ b i may is. placed.known b i may (callout b i (decide b a) is);
    cpus_known = λ j within. (
        let old = placed.cpus_known j within in
        record {
          home = subst (λ (t : State). t.home < s.cpus) (sym (states j)) old.home;
          target = λ arming is. old.target arming (ap (λ (t : State). t.armed) (sym (states j)) ∙ is);
          stand = subst (λ (t : ℕ). t < s.cpus) (sym (stands j)) old.stand;
        });
  } where
    slot : (b : ℕ) → (b ≡ a) ⊎ (b ≡ a → ⊥) → in_slot (cursors_of w' b).stage ≡ in_slot (cursors_of w b).stage
    slot b (inl same) = subst (λ k. in_slot (cursors_of w' k).stage ≡ in_slot (cursors_of w k).stage) (sym same) kept.slot
    slot b (inr other) = ap (λ (c : Cursor). in_slot c.stage) (cursors b other)

    callout : (b i : ℕ) → (b ≡ a) ⊎ (b ≡ a → ⊥) → stage_callout (cursors_of w' b).stage ≡ Some i → stage_callout (cursors_of w b).stage ≡ Some i
    callout b i (inl same) is = subst (λ k. stage_callout (cursors_of w' k).stage ≡ Some i → stage_callout (cursors_of w k).stage ≡ Some i) (sym same) (kept.callout i) is
    callout b i (inr other) is = ap (λ (c : Cursor). stage_callout c.stage) (sym (cursors b other)) ∙ is

-- ---- after a section

-- what holds of the callout of the section
pub record IsRight (s : Script) (i cpu : ℕ) (state : State) (parcel : Option PendingInsert) : Type 0 where
  pub runs : is_free_at state.run cpu ≡ true
  pub listed : (y : ℕ) → moves i parcel ≡ false → off state ≡ Some y → cpu ≡ y
  pub idle : (p : PendingInsert) → parcel ≡ Some p → is_idle state.run ≡ true
  pub bound : (p : PendingInsert) → parcel ≡ Some p → p.cpu < s.cpus
  pub home : state.home < s.cpus
  pub target : (arming : Arming) → state.armed ≡ Some arming → arming.cpu < s.cpus

module _ (s : Script) (w w' : World) (i cpu a : ℕ) (state : State) (queue : TimerQueue) (place : Cursor)
    (placed : IsPlaced s w) (may : a < actor_count s) (on : cpu < s.cpus) (known : i < length s.timers) (goes : Goes w w' i cpu a state cpu queue place)
    (only : IsOnly i (parcels_of w a)) (only' : IsOnly i place.parcel)
    (others : (b : ℕ) → (b ≡ a → ⊥) → b < actor_count s → moves i (parcels_of w b) ≡ false)
    (right : IsRight s i cpu state place.parcel)
    (own_slot : server_slot (role_of s a) (queues_of w' (cpu_of s (role_of s a))) ≡ in_slot place.stage)
    (own_callout : (j : ℕ) → stage_callout place.stage ≡ Some j → j < length s.timers)
    (slots : (b : ℕ) → (b ≡ a → ⊥) → b < actor_count s → server_slot (role_of s b) (queues_of w' (cpu_of s (role_of s b))) ≡ server_slot (role_of s b) (queues_of w (cpu_of s (role_of s b)))) where
  parcel_else : (b : ℕ) → (b ≡ a → ⊥) → parcels_of w' b ≡ parcels_of w b
  parcel_else b other = ap (λ (c : Cursor). c.parcel) (goes.cursors.else b other)

  parcel_here : parcels_of w' a ≡ place.parcel
  parcel_here = ap (λ (c : Cursor). c.parcel) goes.cursors.here

  moving_here : is_moving s w' i ≡ moves i place.parcel
  moving_here = moving_own s w' i a may (λ b other within. ap (moves i) (parcel_else b other) ∙ others b other within) ∙ ap (moves i) parcel_here

  moving_else : (j : ℕ) → (j ≡ i → ⊥) → is_moving s w' j ≡ is_moving s w j
  moving_else j apart = moving_same s w w' j (λ b within. go b (decide b a)) where
    go : (b : ℕ) → (b ≡ a) ⊎ (b ≡ a → ⊥) → moves j (parcels_of w' b) ≡ moves j (parcels_of w b)
    go b (inl own) = subst (λ k. moves j (parcels_of w' k) ≡ moves j (parcels_of w k)) (sym own) (ap (moves j) parcel_here ∙ moves_only i j place.parcel only' apart ∙ sym (moves_only i j (parcels_of w a) only apart))
    go b (inr other) = ap (moves j) (parcel_else b other)

  runs : (j : ℕ) → is_free_at (states_of w' j).run (stands_of w' j) ≡ true
  runs j = go (decide j i) where
    go : (j ≡ i) ⊎ (j ≡ i → ⊥) → is_free_at (states_of w' j).run (stands_of w' j) ≡ true
    go (inl own) =
        subst (λ k. is_free_at (states_of w' k).run (stands_of w' k) ≡ true) (sym own)
        (subst (λ (t : ℕ). is_free_at (states_of w' i).run t ≡ true) (sym goes.stands.here) (subst (λ (t : State). is_free_at t.run cpu ≡ true) (sym goes.states.here) right.runs))
    go (inr apart) =
        subst (λ (t : ℕ). is_free_at (states_of w' j).run t ≡ true) (sym (goes.stands.else j apart)) (subst (λ (t : State). is_free_at t.run (stands_of w j) ≡ true) (sym (goes.states.else j apart)) (placed.runs j))

  listed : (j y : ℕ) → is_moving s w' j ≡ false → off (states_of w' j) ≡ Some y → stands_of w' j ≡ y
  listed j y = go (decide j i) where
    go : (j ≡ i) ⊎ (j ≡ i → ⊥) → is_moving s w' j ≡ false → off (states_of w' j) ≡ Some y → stands_of w' j ≡ y
    go (inl own) = subst (λ k. is_moving s w' k ≡ false → off (states_of w' k) ≡ Some y → stands_of w' k ≡ y) (sym own) (λ still at. goes.stands.here ∙ right.listed y (sym moving_here ∙ still) (ap off (sym goes.states.here) ∙ at))
    go (inr apart) = λ still at. goes.stands.else j apart ∙ placed.listed j y (sym (moving_else j apart) ∙ still) (ap off (sym (goes.states.else j apart)) ∙ at)

  bound : (b : ℕ) (p : PendingInsert) → b < actor_count s → parcels_of w' b ≡ Some p → IsBound s w' p
  bound b p within = go (decide b a) where
    go : (b ≡ a) ⊎ (b ≡ a → ⊥) → parcels_of w' b ≡ Some p → IsBound s w' p
    go (inl own) is =
        let carried : place.parcel ≡ Some p = sym parcel_here ∙ ap (parcels_of w') (sym own) ∙ is in
        let it : p.i ≡ i = only' p carried in
        record {
          idle = subst (λ k. is_idle (states_of w' k).run ≡ true) (sym it) (subst (λ (t : State). is_idle t.run ≡ true) (sym goes.states.here) (right.idle p carried));
          known = subst (λ k. k < length s.timers) (sym it) known;
          target = right.bound p carried;
        }
    go (inr other) is =
        let carried : parcels_of w b ≡ Some p = sym (parcel_else b other) ∙ is in
        let old = placed.bound b p within carried in
        let apart : p.i ≡ i → ⊥ = λ it. unmoved i (parcels_of w b) p (others b other within) carried it in
        record { idle = ap (λ (t : State). is_idle t.run) (goes.states.else p.i apart) ∙ old.idle; known = old.known; target = old.target }

  serves : (b : ℕ) → b < actor_count s → server_slot (role_of s b) (queues_of w' (cpu_of s (role_of s b))) ≡ in_slot (cursors_of w' b).stage
  serves b within = go (decide b a) where
    go : (b ≡ a) ⊎ (b ≡ a → ⊥) → server_slot (role_of s b) (queues_of w' (cpu_of s (role_of s b))) ≡ in_slot (cursors_of w' b).stage
    go (inl own) =
        subst (λ k. server_slot (role_of s k) (queues_of w' (cpu_of s (role_of s k))) ≡ in_slot (cursors_of w' k).stage) (sym own) (own_slot ∙ ap (λ (c : Cursor). in_slot c.stage) (sym goes.cursors.here))
    go (inr other) = slots b other within ∙ placed.serves b within ∙ ap (λ (c : Cursor). in_slot c.stage) (sym (goes.cursors.else b other))

  callouts : (b j : ℕ) → b < actor_count s → stage_callout (cursors_of w' b).stage ≡ Some j → j < length s.timers
  callouts b j within = go (decide b a) where
    go : (b ≡ a) ⊎ (b ≡ a → ⊥) → stage_callout (cursors_of w' b).stage ≡ Some j → j < length s.timers
    go (inl own) is = own_callout j (ap (λ (c : Cursor). stage_callout c.stage) (sym goes.cursors.here) ∙ ap (λ k. stage_callout (cursors_of w' k).stage) (sym own) ∙ is)
    go (inr other) is = placed.known b j within (ap (λ (c : Cursor). stage_callout c.stage) (sym (goes.cursors.else b other)) ∙ is)

  settles : (j : ℕ) → j < length s.timers → NamesKnownCpus s w' j
  settles j within = go (decide j i) where
    go : (j ≡ i) ⊎ (j ≡ i → ⊥) → NamesKnownCpus s w' j
    go (inl own) = subst (NamesKnownCpus s w') (sym own) (record {
      home = subst (λ (t : State). t.home < s.cpus) (sym goes.states.here) right.home;
      target = λ arming is. right.target arming (ap (λ (t : State). t.armed) (sym goes.states.here) ∙ is);
      stand = subst (λ (t : ℕ). t < s.cpus) (sym goes.stands.here) on;
    })
    go (inr apart) = (
        let old = placed.cpus_known j within in
        let t = goes.states.else j apart in
        record {
          home = subst (λ (x : State). x.home < s.cpus) (sym t) old.home;
          target = λ arming is. old.target arming (ap (λ (x : State). x.armed) (sym t) ∙ is);
          stand = subst (λ (x : ℕ). x < s.cpus) (sym (goes.stands.else j apart)) old.stand;
        })

  pub placed_after : IsPlaced s w'
  placed_after = record { runs = runs; listed = listed; bound = bound; serves = serves; known = callouts; cpus_known = settles }

-- ---- where one queue changes, and no record

module _ (s : Script) (x : Stored) (w w' : World) (cpu a : ℕ) (queue : TimerQueue) (place : Cursor) (wheel : WheelOf) (on : cpu < s.cpus)
    (states : (j : ℕ) → states_of w' j ≡ states_of w j) (stands : (j : ℕ) → stands_of w' j ≡ stands_of w j) (queues : IsAt (queues_of w) cpu queue (queues_of w'))
    (cursors : IsAt (cursors_of w) a place (cursors_of w')) (same_parcel : place.parcel ≡ parcels_of w a) where
  still_parcels : (b : ℕ) → parcels_of w' b ≡ parcels_of w b
  still_parcels b = at_all (λ k (c : Cursor). c.parcel ≡ parcels_of w k) (cursors_of w) a place (cursors_of w') cursors same_parcel (λ j other. refl) b

  -- the same world, but for its queue
  abbrev before_queue : World
  before_queue = record w' { cpus = w.cpus }

  rebagged : (o : Option PendingInsert) (bag : Option Parcel) → IsBag s before_queue o bag → IsBag s w' o bag
  rebagged None bag h = h
  rebagged (Some p) bag h = record { arming = h.arming; packed = h.packed; armed = h.armed; number = h.number; due = h.due; cpu = h.cpu }

  pub stored_queue : ShowsStored s x w → wheel.callouts ≡ (wheel_at x cpu).callouts → wheel.timers.buckets ≡ (wheel_at x cpu).timers.buckets → wheel.timers.direct ≡ (wheel_at x cpu).timers.direct → Shows wheel queue →
      ShowsStored s (record x { wheels = set x.wheels cpu wheel }) w'
  stored_queue stored callouts buckets direct shows =
      let old = stored_quiet s w before_queue states stands (λ y. refl) still_parcels x stored in
      record {
        wheels_long = length-set x.wheels cpu wheel ∙ old.wheels_long;
        each_wheel = λ y within. each y within (decide y cpu) old;
        each_stand = old.each_stand;
        bags_long = old.bags_long;
        each_bag = λ b within. rebagged (parcels_of w' b) (bag_at x b) (old.each_bag b within);
      } where
        each : (y : ℕ) → y < s.cpus → (y ≡ cpu) ⊎ (y ≡ cpu → ⊥) → ShowsStored s x before_queue → IsAtWheel s w' y (get_or (set x.wheels cpu wheel) y no_wheel)
        each y within (inl same) old =
            let here = old.each_wheel cpu on in
            let inside : cpu < length x.wheels = (let l = stored.wheels_long in omega arith) in
            subst (λ k. IsAtWheel s w' k (get_or (set x.wheels cpu wheel) k no_wheel)) (sym same) (subst (IsAtWheel s w' cpu) (sym (get_or-set_same x.wheels cpu wheel no_wheel inside)) (record {
              number = ap (λ (c : Callouts). c.cpu) callouts ∙ here.number;
              here = ap (λ (c : Callouts). c.here) callouts ∙ here.here;
              buckets = buckets ∙ here.buckets;
              direct = direct ∙ here.direct;
              shows = subst (Shows wheel) (sym queues.here) shows;
            }))
        each y within (inr other) old =
            let there = old.each_wheel y within in
            subst (IsAtWheel s w' y) (sym (get_or-set_other x.wheels cpu y wheel no_wheel other)) (record {
              number = there.number;
              here = there.here;
              buckets = there.buckets;
              direct = there.direct;
              shows = subst (Shows (wheel_at x y)) (sym (queues.else y other)) there.shows;
            })

  pub placed_queue : IsPlaced s w → server_slot (role_of s a) (queues_of w' (cpu_of s (role_of s a))) ≡ in_slot place.stage → ((j : ℕ) → stage_callout place.stage ≡ Some j → j < length s.timers) →
      ((b : ℕ) → (b ≡ a → ⊥) → b < actor_count s → server_slot (role_of s b) (queues_of w' (cpu_of s (role_of s b))) ≡ server_slot (role_of s b) (queues_of w (cpu_of s (role_of s b)))) → IsPlaced s w'
  placed_queue placed own_slot own_callout slots = record {
    runs = λ j. subst (λ (t : ℕ). is_free_at (states_of w' j).run t ≡ true) (sym (stands j)) (subst (λ (t : State). is_free_at t.run (stands_of w j) ≡ true) (sym (states j)) (placed.runs j));
    listed = λ j y free at. stands j ∙ placed.listed j y (sym (moving_same s w w' j (λ b within. ap (moves j) (still_parcels b))) ∙ free) (ap off (sym (states j)) ∙ at);
    bound = λ b p may is. (
        let old = placed.bound b p may (sym (still_parcels b) ∙ is) in
        record { idle = ap (λ (t : State). is_idle t.run) (states p.i) ∙ old.idle; known = old.known; target = old.target });
    serves = λ b may. serve b may (decide b a);
    known = λ b i may is. callout b i may (decide b a) is;
    cpus_known = λ j within. (
        let old = placed.cpus_known j within in
        record {
          home = subst (λ (t : State). t.home < s.cpus) (sym (states j)) old.home;
          target = λ arming is. old.target arming (ap (λ (t : State). t.armed) (sym (states j)) ∙ is);
          stand = subst (λ (t : ℕ). t < s.cpus) (sym (stands j)) old.stand;
        });
  } where
    serve : (b : ℕ) → b < actor_count s → (b ≡ a) ⊎ (b ≡ a → ⊥) → server_slot (role_of s b) (queues_of w' (cpu_of s (role_of s b))) ≡ in_slot (cursors_of w' b).stage
    serve b within (inl same) = subst (λ k. server_slot (role_of s k) (queues_of w' (cpu_of s (role_of s k))) ≡ in_slot (cursors_of w' k).stage) (sym same) (own_slot ∙ ap (λ (c : Cursor). in_slot c.stage) (sym cursors.here))
    serve b within (inr other) = slots b other within ∙ placed.serves b within ∙ ap (λ (c : Cursor). in_slot c.stage) (sym (cursors.else b other))

    callout : (b i : ℕ) → b < actor_count s → (b ≡ a) ⊎ (b ≡ a → ⊥) → stage_callout (cursors_of w' b).stage ≡ Some i → i < length s.timers
    callout b i within (inl same) is = own_callout i (ap (λ (c : Cursor). stage_callout c.stage) (sym cursors.here) ∙ ap (λ k. stage_callout (cursors_of w' k).stage) (sym same) ∙ is)
    callout b i within (inr other) is = placed.known b i within (ap (λ (c : Cursor). stage_callout c.stage) (sym (cursors.else b other)) ∙ is)
