-- What a wheel keeps of its slots: by the record of each callout, which agrees with its slot.
use Rattle.std.proofs.Common.{◌≡◌, ℕ, Bool, true, false, refl, ap, sym, ◌∙◌, cond, not, ◌==◌, List, [], ◌∷◌, map, length, ◌<◌, arith}
use Rattle.std.specs.Prelude.{is_some, get_or, zero, suc}
use Rattle.std.specs.declared.option.Option.{Option}
use Rattle.std.specs.declared.option.Option.TheVariants.{Some, None}
use Rattle.co_object.proofs.Numbers.{same_number, same_itself}
use Rattle.co_object.specs.declared.alone.Alone.{Alone}
use Rattle.co_object.specs.declared.state.Run.TheVariants.{Picked, Cancelled, Running}
use Rattle.co_object.specs.Drain.{serviced}
use Rattle.co_object.specs.Queue.{Due}
use Rattle.co_object.specs.Stand.{is_free_at}
use Rattle.co_record.specs.declared.record.Record.{Record}
use Rattle.co_record.specs.declared.slot.Slot.{Slot}
use Rattle.co_record.specs.declared.slot.Current.{Current}
use Rattle.co_record.specs.Deferred.{deferred_of}
use Rattle.co_record.specs.Standing.{arming_of, holds, number_of, run_of, served}
use Rattle.co_wheel.specs.Callouts.{Callouts, callout, in_service}
use Rattle.co_wheel.specs.Filed.{lane, alone_of, state_in, due_of, callouts_of, IsFiledAt, IsFiled}
use Rattle.co_wheel.specs.Kept.{IsServing, KeepsSlots, deferred_at, deferred_for, deferred_in}

-- ---- a record's run by its slot

run-serviced : (rec : Record) (slot : Slot) (o : Option ℕ) → serviced (run_of rec slot o) ≡ o
run-serviced rec slot None = refl
run-serviced rec slot (Some n) = at_flags rec.processed slot.cancel where
  at_flags : (p k : Bool) → serviced (cond p (Running n slot.cpu) (cond k (Cancelled n slot.cpu) (Picked (arming_of rec n slot.cpu)))) ≡ Some n
  at_flags true k = refl
  at_flags false true = refl
  at_flags false false = refl

run-here : (rec : Record) (slot : Slot) (o : Option ℕ) → is_free_at (run_of rec slot o) slot.cpu ≡ true
run-here rec slot None = refl
run-here rec slot (Some n) = at_flags rec.processed slot.cancel where
  itself : (slot.cpu == slot.cpu) ≡ true
  itself = same_itself slot.cpu slot.cpu refl

  at_flags : (p k : Bool) → is_free_at (cond p (Running n slot.cpu) (cond k (Cancelled n slot.cpu) (Picked (arming_of rec n slot.cpu)))) slot.cpu ≡ true
  at_flags true k = itself
  at_flags false true = itself
  at_flags false false = itself

-- ---- what a slot has

abbrev due_with : ℕ → ℕ → Due
due_with i n = record { i = i; n = n }

has-number : (o : Option Current) (d : Due) → due_of o ≡ Some d → number_of o d.i ≡ Some d.n
has-number None d h = cc
has-number (Some c) d h =
    let e : record { i = c.i; n = c.n } ≡ d = some_of h in
    ap (λ b. cond b (Some c.n) None) (same_itself c.i d.i (ap (λ x. x.i) e)) ∙ ap (λ x. Some x.n) e where
      some_of : {x y : Due} → Some x ≡ Some y → x ≡ y
      some_of g = cc

is-due : (o : Option Current) (i n : ℕ) → number_of o i ≡ Some n → due_of o ≡ Some (due_with i n)
is-due None i n h = cc
is-due (Some c) i n h = at_test (c.i == i) refl h where
  at_test : (b : Bool) → (c.i == i) ≡ b → cond b (Some c.n) None ≡ Some n → Some (due_with c.i c.n) ≡ Some (due_with i n)
  at_test true is g = ap (λ k. Some (due_with k c.n)) (same_number c.i i is) ∙ ap (λ k. Some (due_with i k)) (number_is g) where
    number_is : Some c.n ≡ Some n → c.n ≡ n
    number_is g = cc
  at_test false is g = absurd cc

none-there : (X : Type 0) (i : ℕ) → is_some {T = X} (get_or [] i None) ≡ true → ⊥
none-there X i h = let e : false ≡ true = h in cc

some-within : {X : Type 0} (xs : List (Option X)) (i : ℕ) → is_some (get_or xs i None) ≡ true → i < length xs
some-within {X = X} [] i h = absurd (none-there X i h)
some-within (x ∷ xs) zero h = omega arith
some-within (x ∷ xs) (suc i) h = let r = some-within xs i h in omega (arith, r)

module _ (slot interrupt : Slot) (rs : List (Option Record)) (all : IsFiled slot interrupt rs) where
  abbrev c : Callouts
  c = callouts_of slot interrupt rs

  -- by each number, also past the last
  callout-at : (i : ℕ) → callout c i ≡ alone_of slot interrupt (get_or rs i None)
  callout-at i = go rs i where
    go : (xs : List (Option Record)) (i : ℕ) → get_or (map (alone_of slot interrupt) xs) i None ≡ alone_of slot interrupt (get_or xs i None)
    go [] i = refl
    go (x ∷ xs) zero = refl
    go (x ∷ xs) (suc i) = go xs i

  slot-of : (direct : Bool) → in_service direct c ≡ due_of (lane slot interrupt direct).current
  slot-of true = refl
  slot-of false = refl

  -- the two lanes
  its-lane : (own direct : Bool) (i : ℕ) → holds (lane slot interrupt direct) i ≡ true → holds (lane slot interrupt (not own)) i ≡ false → own ≡ direct
  its-lane true true i h g = refl
  its-lane false false i h g = refl
  its-lane true false i h g = absurd cc
  its-lane false true i h g = absurd cc

  apart : {b : Bool} → b ≡ true → b ≡ false → ⊥
  apart h g = let e : true ≡ false = sym h ∙ g in cc

  absent : (direct : Bool) (i : ℕ) → holds slot i ≡ false → holds interrupt i ≡ false → holds (lane slot interrupt direct) i ≡ false
  absent true i h g = g
  absent false i h g = h

  slots-are : (direct : Bool) (d : Due) → in_service direct c ≡ Some d → IsServing direct c d
  slots-are direct d has = at_record (get_or rs d.i None) refl (all.each d.i) where
    number : served (lane slot interrupt direct) d.i ≡ Some d.n
    number = has-number (lane slot interrupt direct).current d (sym (slot-of direct) ∙ has)

    held : holds (lane slot interrupt direct) d.i ≡ true
    held = ap is_some number

    at_record : (r : Option Record) → get_or rs d.i None ≡ r → IsFiledAt slot interrupt d.i r → IsServing direct c d
    at_record None at gone = absurd (apart held (absent direct d.i gone.idle gone.idle_interrupt))
    at_record (Some rec) at filed =
        let lane_is : rec.spec.direct ≡ direct = its-lane rec.spec.direct direct d.i held (sym (ap (holds (lane slot interrupt (not rec.spec.direct))) filed.number) ∙ filed.apart) in
        record {
          alone = record { spec = rec.spec; state = state_in slot interrupt rec };
          here = callout-at d.i ∙ ap (alone_of slot interrupt) at;
          lane = lane_is;
          runs = run-serviced rec (lane slot interrupt rec.spec.direct) (served (lane slot interrupt rec.spec.direct) rec.i)
              ∙ ap (λ b. served (lane slot interrupt b) rec.i) lane_is ∙ ap (served (lane slot interrupt direct)) filed.number ∙ number;
        }

  busy-are : (i n : ℕ) (a : Alone) → callout c i ≡ Some a → serviced a.state.run ≡ Some n → in_service a.spec.direct c ≡ Some (record { i = i; n = n })
  busy-are i n a is runs = at_record (get_or rs i None) (sym (callout-at i) ∙ is) (all.each i) where
    at_record : (r : Option Record) → alone_of slot interrupt r ≡ Some a → IsFiledAt slot interrupt i r → in_service a.spec.direct c ≡ Some (record { i = i; n = n })
    at_record None none filed = absurd cc
    at_record (Some rec) some filed =
        let same : record { spec = rec.spec; state = state_in slot interrupt rec } ≡ a = some_of some in
        slot-of a.spec.direct
        ∙ is-due (lane slot interrupt a.spec.direct).current i n
        (ap (λ (x : Alone). served (lane slot interrupt x.spec.direct) i) (sym same)
        ∙ ap (served (lane slot interrupt rec.spec.direct)) (sym filed.number)
        ∙ sym (run-serviced rec (lane slot interrupt rec.spec.direct) (served (lane slot interrupt rec.spec.direct) rec.i))
        ∙ ap (λ (x : Alone). serviced x.state.run) same ∙ runs) where
          some_of : {x y : Alone} → Some x ≡ Some y → x ≡ y
          some_of g = cc

  cpu-of : (direct : Bool) → (lane slot interrupt direct).cpu ≡ slot.cpu
  cpu-of true = all.cpu
  cpu-of false = refl

  here-are : (i : ℕ) (a : Alone) → callout c i ≡ Some a → is_free_at a.state.run c.cpu ≡ true
  here-are i a is = at_record (get_or rs i None) (sym (callout-at i) ∙ is) where
    at_record : (r : Option Record) → alone_of slot interrupt r ≡ Some a → is_free_at a.state.run slot.cpu ≡ true
    at_record None none = absurd cc
    at_record (Some rec) some =
        let same : record { spec = rec.spec; state = state_in slot interrupt rec } ≡ a = some_of some in
        ap (λ (x : Alone). is_free_at x.state.run slot.cpu) (sym same)
        ∙ ap (is_free_at (state_in slot interrupt rec).run) (sym (cpu-of rec.spec.direct))
        ∙ run-here rec (lane slot interrupt rec.spec.direct) (served (lane slot interrupt rec.spec.direct) rec.i) where
          some_of : {x y : Alone} → Some x ≡ Some y → x ≡ y
          some_of g = cc

  pub keeps-slots : KeepsSlots c
  keeps-slots = record { slots = slots-are; busy = busy-are; here = here-are }

  -- ---- a deferred arming

  module _ (direct : Bool) where
    -- the current one of a slot has a record here
    pub served-record : (cu : Current) → (lane slot interrupt direct).current ≡ Some cu → is_some (get_or rs cu.i None) ≡ true
    served-record cu is = at_record (get_or rs cu.i None) (all.each cu.i) where
      held : holds (lane slot interrupt direct) cu.i ≡ true
      held = ap (λ o. is_some (number_of o cu.i)) is ∙ ap (λ b. is_some (cond b (Some cu.n) None)) (same_itself cu.i cu.i refl)

      at_record : (r : Option Record) → IsFiledAt slot interrupt cu.i r → is_some r ≡ true
      at_record None gone = absurd (apart held (absent direct cu.i gone.idle gone.idle_interrupt))
      at_record (Some rec) filed = refl

    pub served-within : (cu : Current) → (lane slot interrupt direct).current ≡ Some cu → cu.i < length rs
    served-within cu is = some-within rs cu.i (served-record cu is)

    pub deferred-is : (cu : Current) → (lane slot interrupt direct).current ≡ Some cu → (rec : Record) → get_or rs cu.i None ≡ Some rec → deferred_of (state_in slot interrupt rec) ≡ deferred_in direct c
    deferred-is cu is rec at =
        sym (ap (deferred_for c) (slot-of direct ∙ ap due_of is)
        ∙ ap (λ (o : Option Alone). deferred_at o) (callout-at cu.i ∙ ap (alone_of slot interrupt) at))
