-- What the indexes of knotes keep where one slot changes.
use Rattle.std.proofs.Common.{◌≡◌, ◌≢◌, ℕ, ◌+◌, ◌<◌, ◌≤◌, Bool, true, false, cond, List, length, refl, ap, sym, subst, ◌∙◌, arith, Option, Some, None, is_some, inl, inr}
use Rattle.std.specs.Prelude.{nat_lt}
use Rattle.std.specs.Option.{IfSome}
use Rattle.std.proofs.lemmas.Bool.{cases_eq, lt-ltb, ltb-true}
use Rattle.std.proofs.lemmas.List.{get_or-set_same, get_or-set_other}
use Rattle.slab.specs.Slab.{Slab, Updates, get, slab_len, with_value}
use Rattle.co_kq.specs.declared.knote.Knote.{Knote}
use Rattle.co_kq.specs.declared.knote.Slot.{Slot}
use Rattle.co_kq.specs.declared.index.Keyed.{Keyed}
use Rattle.co_kq.specs.Index.{IndexView, IsChanged, IsLowestKey, key_of, one_where}
use Rattle.co_kq.specs.Slots.{AreDistinct, HasNoIdent, IsAlone, StandsAtKey, IsFirstReady}
use Rattle.co_kq.specs.Listed.{AreIndexed, AreListed, IsListedAt, is_any, is_ready, passes, listed_key}
use Rattle.co_kq.proofs.Counting.{one_if, count_apart, count_fewer}
use Rattle.co_kq.proofs.InSlots.{some_is, is_within, IsFree, free_where_alone, free_where_absent}

-- a slot is empty, or its knote has this ident
abbrev pub HasIdent : ℕ → Option Slot → Type 0
HasIdent ident None = Unit {0}
HasIdent ident (Some s) = s.knote.ident ≡ ident

none-some : {A : Type 0} (a : A) → None ≡ Some a → ⊥
none-some a h = cc

ident_of : (ident : ℕ) (o : Option Slot) (s : Slot) → HasIdent ident o → o ≡ Some s → s.knote.ident ≡ ident
ident_of ident None s has is = absurd (none-some s is)
ident_of ident (Some x) s has is = ap (λ v. v.knote.ident) (sym (some_is x s is)) ∙ has

-- what a slot shows

shown_yes : (test : Knote → Bool) (key : ℕ) (s : Slot) → test s.knote ≡ true → listed_key test key (Some s) ≡ Some key
shown_yes test key s passing = ap (λ b. cond b (Some key) None) passing

from_shown : (test : Knote → Bool) (key k : ℕ) (o : Option Slot) → listed_key test key o ≡ Some k → (s : Slot) × (o ≡ Some s) × (test s.knote ≡ true) × (key ≡ k)
from_shown test key k None h = absurd (none-some k h)
from_shown test key k (Some s) h = go (test s.knote) refl where
  go : (b : Bool) → test s.knote ≡ b → (x : Slot) × (Some s ≡ Some x) × (test x.knote ≡ true) × (key ≡ k)
  go true e = (s, refl, e, some_is key k (sym (shown_yes test key s e) ∙ h))
  go false e = absurd (none-some k (sym (ap (λ b. cond b (Some key) None) e) ∙ h))

shown_counts : (test : Knote → Bool) (key : ℕ) (o : Option Slot) → one_where (listed_key test key o) ≡ one_if (passes test o)
shown_counts test key o = go (passes test o) where
  go : (b : Bool) → one_where (cond b (Some key) None) ≡ one_if b
  go true = refl
  go false = refl

module _ (test : Knote → Bool) (old : Slab Slot) (entries : List Keyed) (key ident : ℕ) (u : Option Slot) where
  -- what the index has of the slot
  pub was_shown : AreIndexed test old.slots entries → IsFree old.slots key ident → get old key ≡ u → HasIdent ident u → key_of ident entries ≡ listed_key test key u
  was_shown a free at has = go (key_of ident entries) (listed_key test key u) refl refl where
    -- what the slot shows is in the index
    to_index : (k : ℕ) → listed_key test key u ≡ Some k → key_of ident entries ≡ Some k
    to_index k h =
        let s = from_shown test key k u h in
        ap (λ i. key_of i entries) (sym (ident_of ident u s.0 has s.1)) ∙ (a.whole key s.0 (at ∙ s.1) s.2 ∙ ap Some s.3)

    -- what the index has of the ident is in the slot
    to_slot : (k : ℕ) → key_of ident entries ≡ Some k → listed_key test key u ≡ Some k
    to_slot k h =
        let s : IsListedAt test old.slots k ident = a.sound ident k h in
        elim (cases_eq k key) [
          | inl here ↦
              let is : u ≡ Some s.slot = sym at ∙ (ap (λ j. get old j) (sym here) ∙ s.there) in
              ap (listed_key test key) is ∙ (shown_yes test key s.slot s.passing ∙ ap Some (sym here))
          | inr there ↦ absurd (free k s.slot there s.there s.ident_is)
        ]

    go : (x y : Option ℕ) → key_of ident entries ≡ x → listed_key test key u ≡ y → key_of ident entries ≡ listed_key test key u
    go (Some k) y e f = e ∙ sym (to_slot k e)
    go None (Some k) e f = absurd (none-some k (sym e ∙ to_index k f))
    go None None e f = e ∙ sym f

module _ (test : Knote → Bool) (old new : Slab Slot) (entries after : List Keyed) (key ident : ℕ) (u v : Option Slot) where
  indexed_after : AreIndexed test old.slots entries → Updates old new key v → IsFree old.slots key ident → get old key ≡ u → HasIdent ident u → HasIdent ident v
      → IsChanged entries ident (listed_key test key v) after → AreIndexed test new.slots after
  indexed_after a updates free at had has changed = record {
    whole = λ j s there passing. elim (cases_eq j key) [
      | inl here ↦
          let is : v ≡ Some s = sym updates.changed ∙ (ap (λ k. get new k) (sym here) ∙ there) in
          ap (λ i. key_of i after) (ident_of ident v s has is) ∙ (changed.changed ∙ (ap (listed_key test key) is ∙ (shown_yes test key s passing ∙ ap Some (sym here))))
      | inr elsewhere ↦
          let was : get old j ≡ Some s = sym (updates.others j elsewhere) ∙ there in
          changed.others s.knote.ident (free j s elsewhere was) ∙ a.whole j s was passing
    ];
    sound = λ i k h. elim (cases_eq i ident) [
      | inl here ↦
          let s = from_shown test key k v (sym changed.changed ∙ (ap (λ q. key_of q after) (sym here) ∙ h)) in
          record {
            slot = s.0;
            there = ap (λ j. get new j) (sym s.3) ∙ (updates.changed ∙ s.1);
            ident_is = ident_of ident v s.0 has s.1 ∙ sym here;
            passing = s.2;
          }
      | inr there ↦
          let s : IsListedAt test old.slots k i = a.sound i k (sym (changed.others i there) ∙ h) in
          let elsewhere : k ≢ key = λ is. there (sym s.ident_is ∙ ident_of ident u s.slot had (sym at ∙ (ap (λ j. get old j) (sym is) ∙ s.there))) in
          record { slot = s.slot; there = updates.others k elsewhere ∙ s.there; ident_is = s.ident_is; passing = s.passing }
    ];
    many =
        let count = count_apart (passes test) None refl old.slots new.slots key updates.others in
        let before : one_if (passes test (get old key)) ≡ one_if (passes test u) = ap (λ o. one_if (passes test o)) at in
        let now : one_if (passes test (get new key)) ≡ one_if (passes test v) = ap (λ o. one_if (passes test o)) updates.changed in
        let had_one : one_where (key_of ident entries) ≡ one_if (passes test u) = ap one_where (was_shown test old entries key ident u a free at had) ∙ shown_counts test key u in
        let has_one = shown_counts test key v in
        omega (arith, count, before, now, had_one, has_one, changed.many, a.many);
  }

-- an index that stays as it is
pub same_changed : (entries : List Keyed) (ident : ℕ) (to : Option ℕ) → key_of ident entries ≡ to → IsChanged entries ident to entries
same_changed entries ident to is = record {
  changed = is;
  others = λ other differs. refl;
  many = ap (λ o. length entries + one_where o) is;
}

-- the two indexes
module _ (old new : Slab Slot) (order ready order_after ready_after : IndexView) (key ident : ℕ) (u v : Option Slot) where
  listed_after : AreListed old order ready → Updates old new key v → IsFree old.slots key ident → get old key ≡ u → HasIdent ident u → HasIdent ident v
      → IsChanged order.entries ident (listed_key is_any key v) order_after.entries → IsChanged ready.entries ident (listed_key is_ready key v) ready_after.entries
      → slab_len new ≤ new.capacity → new.capacity ≡ old.capacity → order_after.room ≡ order.room → ready_after.room ≡ ready.room
      → AreListed new order_after ready_after
  listed_after a updates free at had has order_changed ready_changed fits capacity order_room ready_room = record {
    order_is = indexed_after is_any old new order.entries order_after.entries key ident u v a.order_is updates free at had has order_changed;
    ready_is = indexed_after is_ready old new ready.entries ready_after.entries key ident u v a.ready_is updates free at had has ready_changed;
    fits = fits;
    order_room = omega (arith, capacity, order_room, a.order_room);
    ready_room = omega (arith, capacity, ready_room, a.ready_room);
  }

-- what a knote without expirations shows of them
quiet_shown : (key : ℕ) (y : Slot) → y.knote.count ≡ 0 → listed_key is_ready key (Some y) ≡ None
quiet_shown key y quiet = ap (λ n. cond (nat_lt 0 n) (Some key) None) quiet

ready_shown : (key : ℕ) (y : Slot) → 0 < y.knote.count → listed_key is_ready key (Some y) ≡ Some key
ready_shown key y more = ap (λ b. cond b (Some key) None) (lt-ltb 0 y.knote.count more)

-- a knote of a new ident is in no index
pub new_absent : (old : Slab Slot) (order ready : IndexView) (key ident : ℕ) → AreListed old order ready → get old key ≡ None → HasNoIdent old.slots ident → key_of ident order.entries ≡ None
new_absent old order ready key ident a vacant absent = was_shown is_any old order.entries key ident None a.order_is (free_where_absent old.slots key ident absent) vacant tt

-- it comes
pub listed_new : (old new : Slab Slot) (order ready after : IndexView) (key : ℕ) (y : Slot) → AreListed old order ready → get old key ≡ None → Updates old new key (Some y)
    → HasNoIdent old.slots y.knote.ident → y.knote.count ≡ 0 → IsChanged order.entries y.knote.ident (Some key) after.entries → after.room ≡ order.room
    → slab_len new ≡ slab_len old + 1 → slab_len old + 1 ≤ old.capacity → new.capacity ≡ old.capacity → AreListed new after ready
listed_new old new order ready after key y a vacant updates absent quiet changed room len fits capacity =
    let ident = y.knote.ident in
    let free = free_where_absent old.slots key ident absent in
    let not_ready : key_of ident ready.entries ≡ None = was_shown is_ready old ready.entries key ident None a.ready_is free vacant tt in
    listed_after old new order ready after ready key ident None (Some y) a updates free vacant tt refl changed
    (same_changed ready.entries ident (listed_key is_ready key (Some y)) (not_ready ∙ sym (quiet_shown key y quiet)))
    (omega (arith, len, fits, capacity)) capacity room refl

-- a knote leaves
pub listed_gone : (old new : Slab Slot) (order ready order_after ready_after : IndexView) (key : ℕ) (x : Slot) → AreListed old order ready → get old key ≡ Some x → Updates old new key None
    → IsAlone old.slots key x.knote.ident → IsChanged order.entries x.knote.ident None order_after.entries → IsChanged ready.entries x.knote.ident None ready_after.entries
    → order_after.room ≡ order.room → ready_after.room ≡ ready.room → slab_len new + 1 ≡ slab_len old → new.capacity ≡ old.capacity → AreListed new order_after ready_after
listed_gone old new order ready order_after ready_after key x a there updates alone order_changed ready_changed order_room ready_room len capacity =
    listed_after old new order ready order_after ready_after key x.knote.ident (Some x) None a updates (free_where_alone old.slots key x.knote.ident alone) there refl tt
    order_changed ready_changed (omega (arith, len, capacity, a.fits)) capacity order_room ready_room

module _ (old new : Slab Slot) (order ready after : IndexView) (key : ℕ) (x y : Slot) (a : AreListed old order ready) (there : get old key ≡ Some x) (updates : Updates old new key (Some y))
    (alone : IsAlone old.slots key x.knote.ident) (same : y.knote.ident ≡ x.knote.ident) (room : after.room ≡ ready.room) (len : slab_len new ≡ slab_len old) (capacity : new.capacity ≡ old.capacity) where
  listed_there : IsChanged ready.entries x.knote.ident (listed_key is_ready key (Some y)) after.entries → AreListed new order after
  listed_there changed =
      let ident = x.knote.ident in
      let free = free_where_alone old.slots key ident alone in
      listed_after old new order ready order after key ident (Some x) (Some y) a updates free there refl same
      (same_changed order.entries ident (Some key) (was_shown is_any old order.entries key ident (Some x) a.order_is free there refl))
      changed (omega (arith, len, capacity, a.fits)) capacity refl room

  -- in its place comes one without expirations
  pub listed_quiet : y.knote.count ≡ 0 → IsChanged ready.entries x.knote.ident None after.entries → AreListed new order after
  listed_quiet quiet changed = listed_there (subst (λ o. IsChanged ready.entries x.knote.ident o after.entries) (sym (quiet_shown key y quiet)) changed)

  -- or one with expirations
  pub listed_ready : 0 < y.knote.count → IsChanged ready.entries x.knote.ident (Some key) after.entries → AreListed new order after
  listed_ready more changed = listed_there (subst (λ o. IsChanged ready.entries x.knote.ident o after.entries) (sym (ready_shown key y more)) changed)

-- a knote's first expiration: the index of those with expirations lacks it, and has room
pub idle_absent : (old : Slab Slot) (order ready : IndexView) (key : ℕ) (x : Slot) → AreListed old order ready → get old key ≡ Some x → IsAlone old.slots key x.knote.ident → x.knote.count ≡ 0 → key_of x.knote.ident ready.entries ≡ None
idle_absent old order ready key x a there alone quiet =
    was_shown is_ready old ready.entries key x.knote.ident (Some x) a.ready_is (free_where_alone old.slots key x.knote.ident alone) there refl ∙ quiet_shown key x quiet

few : (o : Option Slot) → one_if (passes is_ready o) ≤ one_if (is_some o)
few None = omega arith
few (Some s) = go (is_ready s.knote) where
  go : (b : Bool) → one_if b ≤ 1
  go true = omega arith
  go false = omega arith

pub idle_room : (old : Slab Slot) (order ready : IndexView) (key : ℕ) (x : Slot) → AreListed old order ready → get old key ≡ Some x → x.knote.count ≡ 0 → length ready.entries < ready.room
idle_room old order ready key x a there quiet =
    let none : one_if (passes is_ready (get old key)) ≡ 0 = ap (λ o. one_if (passes is_ready o)) there ∙ ap (λ n. one_if (nat_lt 0 n)) quiet in
    let one : one_if (is_some (get old key)) ≡ 1 = ap (λ (o : Option Slot). one_if (is_some o)) there in
    let less = count_fewer (passes is_ready) is_some None few old.slots key (is_within old.slots key x there) (omega (arith, none, one)) in
    omega (arith, less, a.ready_is.many, a.fits, a.ready_room)

-- what the indexes find

pub found_is : (knotes : Slab Slot) (order ready : IndexView) (ident : ℕ) (o : Option ℕ) → AreListed knotes order ready → o ≡ key_of ident order.entries → IfSome o (λ key. StandsAtKey knotes.slots key ident)
found_is knotes order ready ident None a h = tt
found_is knotes order ready ident (Some key) a h =
    let s : IsListedAt is_any knotes.slots key ident = a.order_is.sound ident key (sym h) in
    record { slot = s.slot; there = s.there; ident_is = s.ident_is }

pub first_is : (knotes : Slab Slot) (order ready : IndexView) (o : Option ℕ) → AreListed knotes order ready → IfSome o (IsLowestKey ready.entries) → IfSome o (IsFirstReady knotes.slots)
first_is knotes order ready None a h = tt
first_is knotes order ready (Some key) a f =
    let s : IsListedAt is_ready knotes.slots key f.ident = a.ready_is.sound f.ident key f.there in
    record {
      slot = s.slot;
      there = s.there;
      ready = ltb-true 0 s.slot.knote.count s.passing;
      first = λ j t at more.
          let low : f.ident ≤ t.knote.ident = f.first t.knote.ident j (a.ready_is.whole j t at (lt-ltb 0 t.knote.count more)) in
          omega (arith, low, s.ident_is);
    }

-- the first knote with expirations is the first of the index
abbrev pub first_of : (knotes : Slab Slot) (order ready : IndexView) (key : ℕ) (x : Slot) → AreListed knotes order ready → IsFirstReady knotes.slots key → get knotes key ≡ Some x → IsLowestKey ready.entries key
first_of knotes order ready key x a f there =
    let is : f.slot ≡ x = some_is f.slot x (sym f.there ∙ there) in
    let same : f.slot.knote.ident ≡ x.knote.ident = ap (λ v. v.knote.ident) is in
    record {
      ident = x.knote.ident;
      there = a.ready_is.whole key x there (lt-ltb 0 x.knote.count (subst (λ v. 0 < v.knote.count) is f.ready));
      first = λ other k h.
          let s : IsListedAt is_ready knotes.slots k other = a.ready_is.sound other k h in
          let low : f.slot.knote.ident ≤ s.slot.knote.ident = f.first k s.slot s.there (ltb-true 0 s.slot.knote.count s.passing) in
          omega (arith, low, s.ident_is, same);
    }

-- an ident has one key
pub listed_distinct : (knotes : Slab Slot) (order ready : IndexView) → AreListed knotes order ready → AreDistinct knotes.slots
listed_distinct knotes order ready a key s at j t bt eq =
    some_is j key (sym (a.order_is.whole j t bt refl) ∙ (ap (λ i. key_of i order.entries) eq ∙ a.order_is.whole key s at refl))

-- a slot that is written in place
pub with_updates : (old : Slab Slot) (key : ℕ) (x y : Slot) → get old key ≡ Some x → Updates old (with_value old key y) key (Some y)
with_updates old key x y there = record {
  changed = get_or-set_same old.slots key (Some y) None (is_within old.slots key x there);
  others = λ other differs. get_or-set_other old.slots key other (Some y) None differs;
}

pub with_len : (old : Slab Slot) (key : ℕ) (x y : Slot) → get old key ≡ Some x → slab_len (with_value old key y) ≡ slab_len old
with_len old key x y there =
    let updates = with_updates old key x y there in
    let count = count_apart is_some None refl old.slots (with_value old key y).slots key updates.others in
    let before : one_if (is_some (get old key)) ≡ 1 = ap (λ (o : Option Slot). one_if (is_some o)) there in
    let now : one_if (is_some (get (with_value old key y) key)) ≡ 1 = ap (λ (o : Option Slot). one_if (is_some o)) updates.changed in
    omega (arith, count, before, now)
