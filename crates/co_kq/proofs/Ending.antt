-- What a tick leaves.
use Rattle.std.proofs.Common.{◌≡◌, ◌≢◌, ℕ, suc, ◌+◌, ◌<◌, ◌≤◌, ◌^◌, Bool, true, false, cond, List, [], ◌∷◌, ◌++◌, map, max, length, take, drop, get_or, refl, ap, sym, subst, ◌∙◌, arith, Option, Some, None, is_some, count_by, append-nil, inl, inr}
use Rattle.std.specs.Prelude.{nat_lt}
use Rattle.std.proofs.lemmas.Bool.{cases_eq, eq-eqb, ne_eqb}
use Rattle.std.proofs.lemmas.List.{take_all, drop_all}
use Rattle.std.proofs.lemmas.List.Sums.{sum_by-cons}
use Rattle.slab.specs.Slab.{Slab}
use Rattle.co_desk.specs.Views.{PassesView}
use Rattle.co_single.specs.Acts.{IsScanned}
use Rattle.co_single.specs.Alarms.{alarm_at, all_gos, last_scan, waiting_of, times_in, due_once}
use Rattle.co_kq.specs.declared.knote.Knote.{Knote}
use Rattle.co_kq.specs.declared.knote.Slot.{Slot}
use Rattle.co_kq.specs.declared.numbers.Use.{Use}
use Rattle.co_kq.specs.declared.numbers.Use.TheVariants.{Stale}
use Rattle.co_kq.specs.Kevents.{knote_of, expires, expired, ticked, ticked_knote, expirations}
use Rattle.co_kq.specs.Slots.{slot_at, knotes_in, ticked_slot, slot_expires, AreDistinct}
use Rattle.co_kq.specs.Numbers.{use_at, is_held, HaveOwnCallouts, AreArmed, AreKept, IsKq, KqView, HasTimer, FiresCounted, kevents_in, callouts_in, ident_callout}
use Rattle.co_kq.specs.Ticks.{AreCleared, AreDue, IsTicking, part_ticked, slot_waits}
use Rattle.co_kq.proofs.InSlots.{some_is, found}
use Rattle.co_kq.proofs.Placing.{knote_of_other}
use Rattle.co_kq.proofs.Counting.{one_if, count_twice, gos_same}
use Rattle.co_kq.proofs.Clearing.{cleared_numbered, cleared_armed}
use Rattle.co_kq.proofs.Ticking.{ident_kept, ticked_at, ticked_list, expirations_in, distinct_ticked, filled_ticked}
use Rattle.co_kq.proofs.Serving.{wait_is, part_timer}

-- a list that was written whole
pub take_whole : (new old : List Use) (n : ℕ) → length old ≡ n → length new ≡ length old → take n (new ++ drop (length new) old) ≡ new
take_whole new old n long same =
    ap (λ l. take n (new ++ l)) (drop_all (length new) old (omega (arith, same)))
    ∙ (ap (take n) (append-nil new) ∙ take_all n new (omega (arith, long, same)))

lists_same : (xs ys : List (Option Slot)) → length xs ≡ length ys → ((j : ℕ) → get_or xs j None ≡ get_or ys j None) → xs ≡ ys
lists_same [] [] e h = refl
lists_same [] (y ∷ ys) e h = absurd (omega (arith, e))
lists_same (x ∷ xs) [] e h = absurd (omega (arith, e))
lists_same (x ∷ xs) (y ∷ ys) e h =
    let first : x ≡ y = h 0 in
    let rest : xs ≡ ys = lists_same xs ys (omega (arith, e)) (λ j. h (suc j)) in
    ap (λ v. v ∷ xs) first ∙ ap (λ l. y ∷ l) rest

map_length : (now : ℕ) (slots : List (Option Slot)) → length (map (ticked_slot now) slots) ≡ length slots
map_length now [] = refl
map_length now (o ∷ ss) = let h = map_length now ss in omega (arith, h)

callouts_ticked : (now : ℕ) (slots : List (Option Slot)) → callouts_in (map (ticked_slot now) slots) ≡ callouts_in slots
callouts_ticked now [] = refl
callouts_ticked now (None ∷ ss) = callouts_ticked now ss
callouts_ticked now (Some s ∷ ss) =
    ap (λ l. ((ticked_knote now s.knote).ident, s.timer) ∷ l) (callouts_ticked now ss)
    ∙ ap (λ i. (i, s.timer) ∷ callouts_in ss) (ident_kept now s.knote)

-- the slot of an ident's knote, which has the ident's callout
known_slot : (slots : List (Option Slot)) (ident : ℕ) (k : Knote) → knote_of ident (knotes_in slots) ≡ Some k
    → (key : ℕ) × ((s : Slot) × (slot_at slots key ≡ Some s) × (s.knote.ident ≡ ident) × (ident_callout ident (callouts_in slots) ≡ Some s.timer))
known_slot [] ident k h = let never : None ≡ Some k = h in cc
known_slot (None ∷ ss) ident k h = let r = known_slot ss ident k h in (suc r.0, r.1)
known_slot (Some s ∷ ss) ident k h = elim (cases_eq s.knote.ident ident) [
  | inl same ↦ (0, (s, refl, same, ap (λ b. cond b (Some s.timer) (ident_callout ident (callouts_in ss))) (eq-eqb s.knote.ident ident same)))
  | inr differs ↦
      let r = known_slot ss ident k (sym (knote_of_other ident s.knote (knotes_in ss) differs) ∙ h) in
      (suc r.0, (r.1.0, r.1.1, r.1.2, ap (λ b. cond b (Some s.timer) (ident_callout ident (callouts_in ss))) (ne_eqb s.knote.ident ident differs) ∙ r.1.3))
]

ticked_count : (now : ℕ) (k : Knote) → k.count < 2 ^ 62 → (ticked_knote now k).count ≡ k.count + one_if (expires now k)
ticked_count now k low = go (expires now k) where
  go : (b : Bool) → (cond b (expired k) k).count ≡ k.count + one_if b
  go true = omega (arith, low)
  go false = omega arith

none_wait : (slots : List (Option Slot)) → count_by (slot_waits []) slots ≡ 0
none_wait [] = refl
none_wait (None ∷ ss) = let a = sum_by-cons (λ o. one_if (slot_waits [] o)) None ss in let b : one_if (slot_waits [] None) ≡ 0 = refl in omega (arith, a, b, none_wait ss)
none_wait (Some s ∷ ss) = let a = sum_by-cons (λ o. one_if (slot_waits [] o)) (Some s) ss in let b : one_if (slot_waits [] (Some s)) ≡ 0 = refl in omega (arith, a, b, none_wait ss)

module _ (clock now after room work k : ℕ) (knotes : Slab Slot) (u v : List Use) (p q r : PassesView)
    (kq : IsKq clock room work knotes u p) (low : work < 2 ^ 62) (cleared : AreCleared u p v q) (clear : (i : ℕ) → use_at v i ≢ Stale) (scan : IsScanned q now k r) (later : after ≡ max clock now) where
  clock_is : last_scan r ≡ after
  clock_is = scan.clock ∙ (ap (λ t. max t now) (cleared.time.clock ∙ kq.last) ∙ sym later)

  scanned_armed : AreArmed work knotes.slots v r
  scanned_armed =
      let a = cleared_armed u v p q knotes.slots work cleared kq.kept.numbered kq.kept.armed in
      record {
        knotes = λ key s at. scan.callouts.alarms s.timer ∙ a.knotes key s at;
        counts = a.counts;
        free = λ i is. scan.callouts.alarms i ∙ a.free i is;
        made = λ i. omega (arith, scan.callouts.made i, a.made i);
      }

  pub are_due : AreDue after work knotes.slots v r
  are_due = record {
    numbered = cleared_numbered u v p q knotes.slots cleared kq.kept.numbered;
    armed = scanned_armed;
    cleared = clear;
    waiting = λ i. scan.waiting i ∙ (ap (λ t. due_once (alarm_at q i) t) clock_is ∙ ap (λ a. due_once a after) (sym (scan.callouts.alarms i)));
    callouts = scan.callouts.count ∙ (cleared.count ∙ (kq.kept.callouts ∙ sym cleared.all));
    few = omega (arith, cleared.all, kq.kept.few);
    low = low;
  }

  module _ (new : Slab Slot) (w : PassesView) (far : IsTicking after work knotes.slots v r new.slots w) (nothing : waiting_of w ≡ []) where
    ended : (o : Option Slot) → part_ticked after [] o ≡ ticked_slot after o
    ended None = refl
    ended (Some s) = refl

    -- each slot is ticked
    pub all_ticked : new.slots ≡ map (ticked_slot after) knotes.slots
    all_ticked =
        lists_same new.slots (map (ticked_slot after) knotes.slots) (far.same ∙ sym (map_length after knotes.slots))
        (λ j. far.part j ∙ (ap (λ ws. part_ticked after ws (slot_at knotes.slots j)) nothing ∙ (ended (slot_at knotes.slots j) ∙ sym (ticked_at after knotes.slots j))))

    at_end : (key : ℕ) → slot_at new.slots key ≡ ticked_slot after (slot_at knotes.slots key)
    at_end key = ap (λ l. slot_at l key) all_ticked ∙ ticked_at after knotes.slots key

    pub new_list : kevents_in after new.slots ≡ ticked (kevents_in clock knotes.slots) now
    new_list =
        ap (λ ks. record { clock = after; knotes = ks }) (ap knotes_in all_ticked ∙ ticked_list after knotes.slots)
        ∙ ap (λ t. record { clock = t; knotes = map (ticked_knote t) (knotes_in knotes.slots) }) later

    new_distinct : AreDistinct new.slots
    new_distinct = subst AreDistinct (sym all_ticked) (distinct_ticked after knotes.slots kq.kept.distinct)

    was_at : (key : ℕ) (s : Slot) → slot_at new.slots key ≡ Some s → (x : Slot) × (slot_at knotes.slots key ≡ Some x) × (x.timer ≡ s.timer)
    was_at key s at = part_timer after work knotes.slots v r are_due (waiting_of w) (slot_at knotes.slots key) s (sym (far.part key) ∙ at)

    is_at : (key : ℕ) (x : Slot) → slot_at knotes.slots key ≡ Some x → slot_at new.slots key ≡ Some (record x { knote = ticked_knote after x.knote })
    is_at key x at = at_end key ∙ ap (ticked_slot after) at

    none_left : (i : ℕ) → times_in i (waiting_of w) ≡ 0
    none_left i = ap (times_in i) nothing

    none_long : length (waiting_of w) ≡ 0
    none_long = ap length nothing

    pub new_numbered : HaveOwnCallouts (length v) new.slots v
    new_numbered = record {
      all = refl;
      held = λ key s at. let x = was_at key s at in ap (use_at v) (sym x.2) ∙ are_due.numbered.held key x.0 x.1;
      kept = λ i key held.
          let h : HasTimer knotes.slots key i = are_due.numbered.kept i key held in
          record { slot = record h.slot { knote = ticked_knote after h.slot.knote }; there = is_at key h.slot h.there; timer = h.timer };
      many = are_due.numbered.many ∙ (sym (filled_ticked after knotes.slots) ∙ ap (count_by is_some) (sym all_ticked));
    }

    one_if_few : (b : Bool) → one_if b ≤ 1
    one_if_few true = omega arith
    one_if_few false = omega arith

    count_low : (key : ℕ) (x : Slot) → slot_at knotes.slots key ≡ Some x → x.knote.count < 2 ^ 62
    count_low key x at = omega (arith, kq.kept.armed.counts key x at, low)

    pub new_armed : AreArmed (work + 1) new.slots v w
    new_armed = record {
      knotes = far.alarms;
      counts = λ key s at.
          let x = was_at key s at in
          let is : record x.0 { knote = ticked_knote after x.0.knote } ≡ s = some_is (record x.0 { knote = ticked_knote after x.0.knote }) s (sym (is_at key x.0 x.1) ∙ at) in
          let count : (ticked_knote after x.0.knote).count ≡ x.0.knote.count + one_if (expires after x.0.knote) = ticked_count after x.0.knote (count_low key x.0 x.1) in
          subst (λ t. t.knote.count ≤ work + 1) is (omega (arith, count, one_if_few (expires after x.0.knote), kq.kept.armed.counts key x.0 x.1));
      free = λ i is. far.loose i (ap is_held is);
      made = λ i. omega (arith, far.made i);
    }

    pub new_kq : (uses : List Use) → uses ≡ v → new.capacity ≡ knotes.capacity → IsKq after room (work + 1) new uses w
    new_kq uses are capacity =
        let kept : AreKept (work + 1) new.slots v w = record {
          distinct = new_distinct;
          numbered = new_numbered;
          armed = new_armed;
          callouts = far.count ∙ are_due.callouts;
          few = are_due.few;
          nothing = nothing;
        } in
        record {
          kept = subst (λ l. AreKept (work + 1) new.slots l w) (sym are) kept;
          all = ap length are ∙ (cleared.all ∙ kq.all);
          has = omega (arith, capacity, kq.has);
          last = far.time.clock ∙ clock_is;
        }

    waits_expires : (key : ℕ) (o : Option Slot) → slot_at knotes.slots key ≡ o → slot_waits (waiting_of r) o ≡ slot_expires after o
    waits_expires key None at = refl
    waits_expires key (Some s) at = test (expires after s.knote) (wait_is after work knotes.slots v r are_due key s at) where
      test : (b : Bool) → times_in s.timer (waiting_of r) ≡ one_if b → slot_waits (waiting_of r) (Some s) ≡ b
      test true h = ap (λ n. nat_lt 0 n) h
      test false h = ap (λ n. nat_lt 0 n) h

    pub new_answer : k ≡ expirations (kevents_in clock knotes.slots) now
    new_answer =
        let same : count_by (slot_waits (waiting_of r)) knotes.slots ≡ count_by (slot_expires after) knotes.slots = count_twice (slot_waits (waiting_of r)) (slot_expires after) None knotes.slots (λ j. waits_expires j (slot_at knotes.slots j) refl) in
        let none : count_by (slot_waits (waiting_of w)) knotes.slots ≡ 0 = ap (λ ws. count_by (slot_waits ws) knotes.slots) nothing ∙ none_wait knotes.slots in
        let total : k ≡ count_by (slot_expires after) knotes.slots = omega (arith, scan.count, same, none, none_long, far.counted) in
        total ∙ (expirations_in after knotes.slots ∙ ap (λ t. count_by (expires t) (knotes_in knotes.slots)) later)

    abbrev old_view : KqView
    old_view = record { room = room; work = work; list = kevents_in clock knotes.slots; passes = p; callouts = callouts_in knotes.slots }

    abbrev new_view : KqView
    new_view = record { room = room; work = work + 1; list = kevents_in after new.slots; passes = w; callouts = callouts_in new.slots }

    pub new_counts : FiresCounted old_view now k new_view
    new_counts = record {
      counts = λ ident before known.
          let c = known_slot knotes.slots ident before known in
          let s = c.1.0 in
          let there : slot_at knotes.slots c.0 ≡ Some s = c.1.1 in
          let was : Some s.knote ≡ Some before = sym (found knotes.slots c.0 s there (kq.kept.distinct c.0 s there)) ∙ (ap (λ i. knote_of i (knotes_in knotes.slots)) c.1.2 ∙ known) in
          let is : s.knote ≡ before = knote_is s.knote before was in
          let t : Slot = record s { knote = ticked_knote after s.knote } in
          let now_there : slot_at new.slots c.0 ≡ Some t = is_at c.0 s there in
          let ident_is : t.knote.ident ≡ ident = ident_kept after s.knote ∙ c.1.2 in
          let times : times_in s.timer (waiting_of r) ≡ one_if (expires after s.knote) = wait_is after work knotes.slots v r are_due c.0 s there in
          let count : (ticked_knote after s.knote).count ≡ s.knote.count + one_if (expires after s.knote) = ticked_count after s.knote (count_low c.0 s there) in
          let same : s.knote.count ≡ before.count = ap (λ (n : Knote). n.count) is in
          record {
            number = s.timer;
            had = c.1.3;
            has = ap (ident_callout ident) (ap callouts_in all_ticked ∙ callouts_ticked after knotes.slots) ∙ c.1.3;
            after = t.knote;
            there = ap (λ i. knote_of i (knotes_in new.slots)) (sym ident_is) ∙ found new.slots c.0 t now_there (new_distinct c.0 t now_there);
            counted = omega (arith, count, same, times, far.fired s.timer, none_left s.timer, scan.callouts.fired s.timer, cleared.fired s.timer);
          };
      all =
          let a : all_gos r.timers ≡ all_gos q.timers = gos_same q.timers r.timers scan.callouts.count scan.callouts.fired in
          let b : all_gos q.timers ≡ all_gos p.timers = gos_same p.timers q.timers cleared.count cleared.fired in
          omega (arith, a, b, far.all, none_long, scan.count);
      scans = far.time.scans ∙ (scan.scans ∙ ap (λ l. l ++ now ∷ []) cleared.time.scans);
    } where
      knote_is : (a b : Knote) → Some a ≡ Some b → a ≡ b
      knote_is a b h = cc
