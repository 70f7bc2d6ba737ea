-- The knotes whose callouts wait expire one by one.
use Rattle.std.proofs.Common.{◌≡◌, ◌≢◌, ℕ, ◌+◌, ◌<◌, ◌≤◌, Bool, true, false, cond, List, [], ◌∷◌, length, set, refl, ap, sym, subst, ◌∙◌, arith, Option, Some, None, count_by, inl, inr}
use Rattle.std.specs.Prelude.{nat_lt, nat_le, ◌==◌, not}
use Rattle.std.proofs.lemmas.Bool.{cases_eq, lt-ltb}
use Rattle.std.proofs.lemmas.Bool.Decides.{nat_tests}
use Rattle.std.proofs.lemmas.List.{get_or-set_same, get_or-set_other, length-set}
use Rattle.co_desk.specs.Views.{PassesView}
use Rattle.co_single.specs.Acts.{IsArmed, IsFired, OthersStay, TimeStays}
use Rattle.co_single.specs.Alarms.{Alarm, alarm_at, made_at, fired_at, all_gos, waiting_of, times_in, but, due_once}
use Rattle.co_kq.specs.declared.knote.Slot.{Slot}
use Rattle.co_kq.specs.declared.numbers.Use.{Use}
use Rattle.co_kq.specs.declared.numbers.Use.TheVariants.{Free, Stale, Held}
use Rattle.co_kq.specs.Kevents.{expires, expired, has_come}
use Rattle.co_kq.specs.Slots.{slot_at, ticked_slot}
use Rattle.co_kq.specs.Numbers.{use_at, is_held, alarm_for, next_time, HasTimer}
use Rattle.co_kq.specs.Ticks.{AreDue, CanServe, IsKnoteDue, IsKnoteExpired, IsTicking, HasNothingWaiting, part_ticked, slot_waits, is_waiting_in}
use Rattle.co_kq.proofs.InSlots.{some_is, is_within}
use Rattle.co_kq.proofs.Keeping.{held_is}
use Rattle.co_kq.proofs.Counting.{one_if, count_one_more, gos_one_more, gos_same}

-- how often a callout waits

same_test : (i : ℕ) → (i == i) ≡ true
same_test i = grind (arith, nat_tests)

other_test : (i j : ℕ) → i ≢ j → (i == j) ≡ false
other_test i j h = grind (arith, nat_tests)

none_more : (n : ℕ) → 0 + n ≡ n
none_more n = omega arith

pub times_head : (i : ℕ) (ws : List ℕ) → times_in i (i ∷ ws) ≡ 1 + times_in i ws
times_head i ws = ap (λ b. one_if b + times_in i ws) (same_test i)

pub times_other : (i j : ℕ) (ws : List ℕ) → i ≢ j → times_in i (j ∷ ws) ≡ times_in i ws
times_other i j ws differs = ap (λ b. one_if b + times_in i ws) (other_test j i (λ e. differs (sym e))) ∙ none_more (times_in i ws)

pub but_absent : (i : ℕ) (ws : List ℕ) → times_in i ws ≡ 0 → but i ws ≡ ws
but_absent i [] h = refl
but_absent i (w ∷ ws) h = elim (cases_eq i w) [
  | inl here ↦
      let one : times_in i (w ∷ ws) ≡ 1 + times_in i ws = subst (λ v. times_in i (v ∷ ws) ≡ 1 + times_in i ws) here (times_head i ws) in
      absurd (omega (arith, one, h))
  | inr there ↦
      let rest : times_in i ws ≡ 0 = sym (times_other i w ws there) ∙ h in
      ap (λ b. cond (not b) (w ∷ but i ws) (but i ws)) (other_test w i (λ e. there (sym e))) ∙ ap (λ l. w ∷ l) (but_absent i ws rest)
]

-- one is served

pub first_ready : (now : ℕ) (slots : List (Option Slot)) (uses : List Use) (p m : PassesView) (i arg : ℕ) → CanServe now slots uses p → IsFired p i arg m → IsKnoteDue now slots uses p i
first_ready now slots uses p m i arg can fired =
    let one : times_in i (waiting_of p) ≡ 1 + times_in i (waiting_of m) = ap (times_in i) fired.waiting ∙ times_head i (waiting_of m) in
    can.ready i (omega (arith, one))

pub rest_lacks : (now : ℕ) (slots : List (Option Slot)) (uses : List Use) (p m : PassesView) (i arg : ℕ) → CanServe now slots uses p → IsFired p i arg m → times_in i (waiting_of m) ≡ 0
rest_lacks now slots uses p m i arg can fired =
    let one : times_in i (waiting_of p) ≡ 1 + times_in i (waiting_of m) = ap (times_in i) fired.waiting ∙ times_head i (waiting_of m) in
    omega (arith, one, can.once i)

next_is : (now : ℕ) (slots : List (Option Slot)) (key : ℕ) (s : Slot) → slot_at slots key ≡ Some s → expires now s.knote ≡ true → next_time now (slot_at slots key) ≡ (expired s.knote).next
next_is now slots key s at comes = ap (next_time now) at ∙ ap (λ b. cond b (expired s.knote).next None) comes

ticked_is : (now : ℕ) (o : Option Slot) (s : Slot) → o ≡ Some s → expires now s.knote ≡ true → ticked_slot now o ≡ Some (record s { knote = expired s.knote })
ticked_is now o s at comes = ap (ticked_slot now) at ∙ ap (λ b. Some (record s { knote = cond b (expired s.knote) s.knote })) comes

module _ (now : ℕ) (slots after : List (Option Slot)) (uses : List Use) (p m q : PassesView) (i arg key : ℕ) where
  served_with : CanServe now slots uses p → IsFired p i arg m → use_at uses i ≡ Held key → after ≡ set slots key (ticked_slot now (slot_at slots key))
      → (next : Option ℕ) → next_time now (slot_at slots key) ≡ next → alarm_at q i ≡ alarm_for next → made_at q i ≤ made_at m i + 1 → fired_at q i ≡ fired_at m i → OthersStay m i q → TimeStays m q → waiting_of q ≡ waiting_of m
      → IsKnoteExpired now slots uses p after q
  served_with can fired held written next is alarm made gos others time waiting =
      let ready = first_ready now slots uses p m i arg can fired in
      let same : ready.key ≡ key = held_is ready.key key (sym ready.held ∙ held) in
      let there : slot_at slots key ≡ Some ready.slot = ap (slot_at slots) (sym same) ∙ ready.there in
      record {
        number = i;
        waiting = fired.waiting ∙ ap (λ l. i ∷ l) (sym waiting);
        below = fired.below;
        key = key;
        slot = ready.slot;
        held = held;
        there = there;
        timer = ready.timer;
        comes = ready.comes;
        written = written ∙ ap (set slots key) (ticked_is now (slot_at slots key) ready.slot there ready.comes);
        alarm = alarm ∙ ap alarm_for (sym is ∙ next_is now slots key ready.slot there ready.comes);
        made = omega (arith, made, fired.made);
        fired = gos ∙ fired.fired;
        others = record {
          count = others.count ∙ fired.others.count;
          alarms = λ j differs. others.alarms j differs ∙ fired.others.alarms j differs;
          made = λ j differs. others.made j differs ∙ fired.others.made j differs;
          fired = λ j differs. others.fired j differs ∙ fired.others.fired j differs;
        };
        time = record { scans = time.scans ∙ fired.time.scans; clock = time.clock ∙ fired.time.clock };
      }

  pub served_armed : CanServe now slots uses p → IsFired p i arg m → use_at uses i ≡ Held key → after ≡ set slots key (ticked_slot now (slot_at slots key))
      → (next : ℕ) → next_time now (slot_at slots key) ≡ Some next → IsArmed m i next 0 q → IsKnoteExpired now slots uses p after q
  served_armed can fired held written next is a =
      served_with can fired held written (Some next) is a.alarm (omega (arith, a.made)) a.fired a.others a.time
      (a.waiting ∙ but_absent i (waiting_of m) (rest_lacks now slots uses p m i arg can fired))

pub served_bare : (now : ℕ) (slots after : List (Option Slot)) (uses : List Use) (p m : PassesView) (i arg key : ℕ) → CanServe now slots uses p → IsFired p i arg m → use_at uses i ≡ Held key
    → after ≡ set slots key (ticked_slot now (slot_at slots key)) → next_time now (slot_at slots key) ≡ None → IsKnoteExpired now slots uses p after m
served_bare now slots after uses p m i arg key can fired held written is =
    served_with now slots after uses p m m i arg key can fired held written None is fired.alarm (omega arith) refl
    (record { count = refl; alarms = λ j d. refl; made = λ j d. refl; fired = λ j d. refl })
    (record { scans = refl; clock = refl })
    refl

-- whether a knote's callout waits

due_come : (now : ℕ) (next : Option ℕ) → due_once (alarm_for next) now ≡ one_if (has_come now next)
due_come now None = refl
due_come now (Some t) = refl

one_or_none : (b : Bool) → one_if b ≤ 1
one_or_none true = omega arith
one_or_none false = omega arith

positive : (b : Bool) → 0 < one_if b → b ≡ true
positive true h = refl
positive false h = absurd (omega (arith, h))

test_one_if : (b : Bool) → nat_lt 0 (one_if b) ≡ b
test_one_if true = refl
test_one_if false = refl

due_few : (a : Option Alarm) (now : ℕ) → due_once a now ≤ 1
due_few None now = omega arith
due_few (Some a) now = one_or_none (nat_le a.due now)

module _ (now work : ℕ) (before : List (Option Slot)) (uses : List Use) (p : PassesView) (due : AreDue now work before uses p) where
  -- a knote's callout waits exactly where its time has come
  pub wait_is : (key : ℕ) (s : Slot) → slot_at before key ≡ Some s → times_in s.timer (waiting_of p) ≡ one_if (expires now s.knote)
  wait_is key s at = due.waiting s.timer ∙ (ap (λ a. due_once a now) (due.armed.knotes key s at) ∙ due_come now s.knote.next)

  pub few : (i : ℕ) → times_in i (waiting_of p) ≤ 1
  few i = omega (arith, due.waiting i, due_few (alarm_at p i) now)

  -- a callout that waits is held
  none_waits : (i : ℕ) → alarm_at p i ≡ None → times_in i (waiting_of p) ≡ 0
  none_waits i none = due.waiting i ∙ ap (λ a. due_once a now) none

  held_or : (i : ℕ) (u : Use) → use_at uses i ≡ u → 0 < times_in i (waiting_of p) → (key : ℕ) × (use_at uses i ≡ Held key)
  held_or i Free is h = absurd (omega (arith, h, none_waits i (due.armed.free i is)))
  held_or i Stale is h = absurd (due.cleared i is)
  held_or i (Held key) is h = (key, is)

  pub loose_none : (i : ℕ) (u : Use) → use_at uses i ≡ u → is_held u ≡ false → alarm_at p i ≡ None
  loose_none i Free is h = due.armed.free i is
  loose_none i Stale is h = absurd (due.cleared i is)
  loose_none i (Held key) is h = let never : true ≡ false = h in cc

  -- a slot keeps its callout
  pub part_timer : (ws : List ℕ) (o : Option Slot) (s : Slot) → part_ticked now ws o ≡ Some s → (x : Slot) × (o ≡ Some x) × (x.timer ≡ s.timer)
  part_timer ws None s h = let never : None ≡ Some s = h in cc
  part_timer ws (Some x) s h = go (is_waiting_in ws x.timer) h where
    timer_or : ℕ → Option Slot → ℕ
    timer_or d None = d
    timer_or d (Some s) = s.timer

    go : (b : Bool) → cond b (Some x) (ticked_slot now (Some x)) ≡ Some s → (y : Slot) × (Some x ≡ Some y) × (y.timer ≡ s.timer)
    go true e = (x, refl, ap (timer_or 0) e)
    go false e = (x, refl, ap (timer_or 0) e)

  pub begins : IsTicking now work before uses p before p
  begins = record {
    same = refl;
    part = λ key. whole key (slot_at before key) refl;
    alarms = due.armed.knotes;
    loose = λ i h. loose_none i (use_at uses i) refl h;
    made = λ i. omega (arith, due.armed.made i, few i);
    fired = λ i. refl;
    some = λ i. omega arith;
    all = refl;
    counted = refl;
    count = refl;
    time = record { scans = refl; clock = refl };
  } where
    stays : (s : Slot) (b : Bool) → expires now s.knote ≡ b → Some s ≡ cond b (Some s) (Some (record s { knote = cond b (expired s.knote) s.knote }))
    stays s true is = refl
    stays s false is = refl

    whole : (key : ℕ) (o : Option Slot) → slot_at before key ≡ o → slot_at before key ≡ part_ticked now (waiting_of p) (slot_at before key)
    whole key None at = subst (λ o. o ≡ part_ticked now (waiting_of p) o) (sym at) refl
    whole key (Some s) at =
        let test : is_waiting_in (waiting_of p) s.timer ≡ expires now s.knote = ap (nat_lt 0) (wait_is key s at) ∙ test_one_if (expires now s.knote) in
        subst (λ o. o ≡ part_ticked now (waiting_of p) o) (sym at)
        (stays s (expires now s.knote) refl ∙ ap (λ b. cond b (Some s) (ticked_slot now (Some s))) (sym test))

  module _ (slots : List (Option Slot)) (q : PassesView) (far : IsTicking now work before uses p slots q) where
    -- a slot whose callout still waits is as it was
    unserved : (key : ℕ) (s : Slot) → slot_at slots key ≡ Some s → 0 < times_in s.timer (waiting_of q) → slot_at before key ≡ Some s
    unserved key s at h =
        let x = part_timer (waiting_of q) (slot_at before key) s (sym (far.part key) ∙ at) in
        let still : is_waiting_in (waiting_of q) x.0.timer ≡ true = lt-ltb 0 (times_in x.0.timer (waiting_of q)) (subst (λ t. 0 < times_in t (waiting_of q)) (sym x.2) h) in
        let is : Some s ≡ Some x.0 = sym at ∙ (far.part key ∙ (ap (part_ticked now (waiting_of q)) x.1 ∙ ap (λ b. cond b (Some x.0) (ticked_slot now (Some x.0))) still)) in
        x.1 ∙ sym is

    -- the slot of a held callout
    slot_of : (i key : ℕ) → use_at uses i ≡ Held key → 0 < times_in i (waiting_of q) → (s : Slot) × (slot_at before key ≡ Some s) × (slot_at slots key ≡ Some s) × (s.timer ≡ i)
    slot_of i key held h =
        let had : HasTimer before key i = due.numbered.kept i key held in
        let still : is_waiting_in (waiting_of q) had.slot.timer ≡ true = lt-ltb 0 (times_in had.slot.timer (waiting_of q)) (subst (λ t. 0 < times_in t (waiting_of q)) (sym had.timer) h) in (
          had.slot,
          had.there,
          far.part key ∙ (ap (part_ticked now (waiting_of q)) had.there ∙ ap (λ b. cond b (Some had.slot) (ticked_slot now (Some had.slot))) still),
          had.timer,
        )

    pub can_serve : CanServe now slots uses q
    can_serve = record {
      ready = λ i h.
          let was : 0 < times_in i (waiting_of p) = omega (arith, h, far.some i) in
          let k = held_or i (use_at uses i) refl was in
          let s = slot_of i k.0 k.1 h in
          let due_now : 0 < one_if (expires now s.0.knote) = subst (λ n. 0 < n) (wait_is k.0 s.0 s.1) (subst (λ t. 0 < times_in t (waiting_of p)) (sym s.3) was) in
          record {
            key = k.0;
            held = k.1;
            slot = s.0;
            there = s.2;
            timer = s.3;
            comes = positive (expires now s.0.knote) due_now;
            made = omega (arith, far.made i, h, due.low);
          };
      once = λ i. omega (arith, far.some i, few i);
      callouts = far.count ∙ due.callouts;
    }

    module _ (after : List (Option Slot)) (r : PassesView) (one : IsKnoteExpired now slots uses q after r) where
      lacks : times_in one.number (waiting_of r) ≡ 0
      lacks = let h : times_in one.number (waiting_of q) ≡ 1 + times_in one.number (waiting_of r) = ap (times_in one.number) one.waiting ∙ times_head one.number (waiting_of r) in omega (arith, h, far.some one.number, few one.number)

      once : times_in one.number (waiting_of q) ≡ 1
      once = ap (times_in one.number) one.waiting ∙ (times_head one.number (waiting_of r) ∙ ap (λ n. 1 + n) lacks)

      same_times : (j : ℕ) → j ≢ one.number → times_in j (waiting_of q) ≡ times_in j (waiting_of r)
      same_times j differs = ap (times_in j) one.waiting ∙ times_other j one.number (waiting_of r) differs

      was : slot_at before one.key ≡ Some one.slot
      was = unserved one.key one.slot one.there (subst (λ t. 0 < times_in t (waiting_of q)) (sym one.timer) (omega (arith, once)))

      -- another slot's callout is another one
      other : (key : ℕ) (s : Slot) → slot_at before key ≡ Some s → key ≢ one.key → s.timer ≢ one.number
      other key s at differs is =
          differs (held_is key one.key (sym (due.numbered.held key s at) ∙ (ap (use_at uses) is ∙ one.held)))

      within : one.key < length slots
      within = is_within slots one.key one.slot one.there

      abbrev new_slot : Slot
      new_slot = record one.slot { knote = expired one.slot.knote }

      here_after : slot_at after one.key ≡ Some new_slot
      here_after = ap (λ l. slot_at l one.key) one.written ∙ get_or-set_same slots one.key (Some new_slot) None within

      there_after : (key : ℕ) → key ≢ one.key → slot_at after key ≡ slot_at slots key
      there_after key differs = ap (λ l. slot_at l key) one.written ∙ get_or-set_other slots one.key key (Some new_slot) None differs

      same_part : (key : ℕ) (o : Option Slot) → slot_at before key ≡ o → key ≢ one.key → part_ticked now (waiting_of q) o ≡ part_ticked now (waiting_of r) o
      same_part key None at differs = refl
      same_part key (Some s) at differs = ap (λ n. cond (nat_lt 0 n) (Some s) (ticked_slot now (Some s))) (same_times s.timer (other key s at differs))

      same_wait : (key : ℕ) (o : Option Slot) → slot_at before key ≡ o → key ≢ one.key → slot_waits (waiting_of q) o ≡ slot_waits (waiting_of r) o
      same_wait key None at differs = refl
      same_wait key (Some s) at differs = ap (nat_lt 0) (same_times s.timer (other key s at differs))

      waits_no_more : is_waiting_in (waiting_of r) one.slot.timer ≡ false
      waits_no_more = ap (λ t. nat_lt 0 (times_in t (waiting_of r))) one.timer ∙ ap (nat_lt 0) lacks

      waited : is_waiting_in (waiting_of q) one.slot.timer ≡ true
      waited = ap (λ t. nat_lt 0 (times_in t (waiting_of q))) one.timer ∙ ap (nat_lt 0) once

      pub fewer : length (waiting_of q) ≡ length (waiting_of r) + 1
      fewer = let h : length (waiting_of q) ≡ length (one.number ∷ waiting_of r) = ap length one.waiting in omega (arith, h)

      pub serves_on : IsTicking now work before uses p after r
      serves_on = record {
        same = ap length one.written ∙ (length-set slots one.key (Some new_slot) ∙ far.same);
        part = λ key. elim (cases_eq key one.key) [
          | inl here ↦ subst (λ k. slot_at after k ≡ part_ticked now (waiting_of r) (slot_at before k)) (sym here) (
              here_after
              ∙ (sym (ticked_is now (Some one.slot) one.slot refl one.comes)
              ∙ (sym (ap (λ b. cond b (Some one.slot) (ticked_slot now (Some one.slot))) waits_no_more)
              ∙ ap (part_ticked now (waiting_of r)) (sym was))))
          | inr there ↦ there_after key there ∙ (far.part key ∙ same_part key (slot_at before key) refl there)
        ];
        alarms = λ key s at. elim (cases_eq key one.key) [
          | inl here ↦
              let is : s ≡ new_slot = some_is s new_slot (sym at ∙ (ap (slot_at after) here ∙ here_after)) in
              subst (λ v. alarm_at r v.timer ≡ alarm_for v.knote.next) (sym is) (ap (alarm_at r) one.timer ∙ one.alarm)
          | inr there ↦
              let at_slots : slot_at slots key ≡ Some s = sym (there_after key there) ∙ at in
              let x = part_timer (waiting_of q) (slot_at before key) s (sym (far.part key) ∙ at_slots) in
              one.others.alarms s.timer (λ e. other key x.0 x.1 there (x.2 ∙ e)) ∙ far.alarms key s at_slots
        ];
        loose = λ i h.
            one.others.alarms i (λ e. let never : true ≡ false = sym (ap is_held one.held) ∙ (ap (λ t. is_held (use_at uses t)) (sym e) ∙ h) in cc)
            ∙ far.loose i h;
        made = λ i. elim (cases_eq i one.number) [
          | inl here ↦ subst (λ t. made_at r t + times_in t (waiting_of r) ≤ work + 1) (sym here) (omega (arith, one.made, lacks, once, far.made one.number))
          | inr there ↦ omega (arith, one.others.made i there, same_times i there, far.made i)
        ];
        fired = λ i. elim (cases_eq i one.number) [
          | inl here ↦
              subst (λ t. fired_at r t + times_in t (waiting_of r) ≡ fired_at p t + times_in t (waiting_of p)) (sym here)
              (omega (arith, one.fired, lacks, once, far.fired one.number))
          | inr there ↦ omega (arith, one.others.fired i there, same_times i there, far.fired i)
        ];
        some = λ i. elim (cases_eq i one.number) [
          | inl here ↦ subst (λ t. times_in t (waiting_of r) ≤ times_in t (waiting_of p)) (sym here) (omega (arith, lacks))
          | inr there ↦ omega (arith, same_times i there, far.some i)
        ];
        all =
            let more : all_gos r.timers ≡ all_gos q.timers + 1 = gos_one_more q.timers r.timers one.number one.below one.others.count one.fired one.others.fired in
            omega (arith, more, fewer, far.all);
        counted =
            let more : count_by (slot_waits (waiting_of q)) before ≡ count_by (slot_waits (waiting_of r)) before + 1 =
            count_one_more (slot_waits (waiting_of q)) (slot_waits (waiting_of r)) None before one.key (is_within before one.key one.slot was)
            (ap (slot_waits (waiting_of q)) was ∙ waited) (ap (slot_waits (waiting_of r)) was ∙ waits_no_more)
            (λ j differs. same_wait j (slot_at before j) refl differs) in
            omega (arith, more, fewer, far.counted);
        count = one.others.count ∙ far.count;
        time = record { scans = one.time.scans ∙ far.time.scans; clock = one.time.clock ∙ far.time.clock };
      }

    -- and at the end nothing changes
    pub serves_last : (after : List (Option Slot)) (r : PassesView) → HasNothingWaiting slots q after r → IsTicking now work before uses p after r
    serves_last after r over =
        let wait : waiting_of r ≡ waiting_of q = over.waiting ∙ sym over.nothing in
        record {
          same = ap length over.same ∙ far.same;
          part = λ key. ap (λ l. slot_at l key) over.same ∙ (far.part key ∙ ap (λ ws. part_ticked now ws (slot_at before key)) (sym wait));
          alarms = λ key s at. over.callouts.alarms s.timer ∙ far.alarms key s (ap (λ l. slot_at l key) (sym over.same) ∙ at);
          loose = λ i h. over.callouts.alarms i ∙ far.loose i h;
          made = λ i. omega (arith, over.callouts.made i, ap (times_in i) wait, far.made i);
          fired = λ i. omega (arith, over.callouts.fired i, ap (times_in i) wait, far.fired i);
          some = λ i. omega (arith, ap (times_in i) wait, far.some i);
          all =
              let same : all_gos r.timers ≡ all_gos q.timers = gos_same q.timers r.timers over.callouts.count over.callouts.fired in
              let long : length (waiting_of r) ≡ length (waiting_of q) = ap length wait in
              omega (arith, same, long, far.all);
          counted =
              let long : length (waiting_of r) ≡ length (waiting_of q) = ap length wait in
              let same : count_by (slot_waits (waiting_of r)) before ≡ count_by (slot_waits (waiting_of q)) before = ap (λ ws. count_by (slot_waits ws) before) wait in
              omega (arith, long, same, far.counted);
          count = over.callouts.count ∙ far.count;
          time = record { scans = over.time.scans ∙ far.time.scans; clock = over.time.clock ∙ far.time.clock };
        }
