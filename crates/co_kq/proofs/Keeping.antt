-- What stays kept where one knote changes.
use Rattle.std.proofs.Common.{◌≡◌, ◌≢◌, ℕ, ◌≤◌, List, length, refl, ap, sym, subst, ◌∙◌, arith, Option, Some, None, is_some, count_by, inl, inr}
use Rattle.std.proofs.lemmas.Bool.{cases_eq}
use Rattle.slab.specs.Slab.{Slab, Updates, get}
use Rattle.co_desk.specs.Views.{PassesView}
use Rattle.co_single.specs.Alarms.{alarm_at, made_at}
use Rattle.co_kq.specs.declared.knote.Slot.{Slot}
use Rattle.co_kq.specs.declared.numbers.Use.{Use}
use Rattle.co_kq.specs.declared.numbers.Use.TheVariants.{Free, Stale, Held}
use Rattle.co_kq.specs.Numbers.{is_held, use_at, alarm_for, use_after, left_use, HaveOwnCallouts, AreArmed, HasTimer}
use Rattle.co_kq.proofs.InSlots.{some_is}

pub held_is : (a b : ℕ) → Held a ≡ Held b → a ≡ b
held_is a b h = cc

never_free : (a : ℕ) → Held a ≡ Free → ⊥
never_free a h = cc

none-some : {A : Type 0} (a : A) → None ≡ Some a → ⊥
none-some a h = cc

-- one use is another, and the others stay
pub record ChangesUse (old new : List Use) (number : ℕ) (to : Use) : Type 0 where
  pub changed : use_at new number ≡ to
  pub others : (j : ℕ) → j ≢ number → use_at new j ≡ use_at old j

-- no other knote has this callout
abbrev pub IsOwn : Slab Slot → (key number : ℕ) → Type 0
IsOwn old key number = (j : ℕ) (s : Slot) → j ≢ key → get old j ≡ Some s → s.timer ≢ number

-- no other callout is held for this key
abbrev pub IsSole : List Use → (key number : ℕ) → Type 0
IsSole uses key number = (j : ℕ) → j ≢ number → use_at uses j ≢ Held key

module _ (old new : Slab Slot) (before after : List Use) (key number : ℕ) where
  pub numbered_put : (y : Slot) → y.timer ≡ number → Updates old new key (Some y) → ChangesUse before after number (Held key) → length after ≡ length before
      → IsOwn old key number → IsSole before key number → count_by is_held after ≡ count_by is_some new.slots
      → HaveOwnCallouts (length before) old.slots before → HaveOwnCallouts (length after) new.slots after
  numbered_put y timer updates uses long own sole many n = record {
    all = refl;
    held = λ j s at. elim (cases_eq j key) [
      | inl here ↦
          let is : s ≡ y = some_is s y (sym at ∙ (ap (λ k. get new k) here ∙ updates.changed)) in
          ap (λ v. use_at after v.timer) is ∙ (ap (use_at after) timer ∙ (uses.changed ∙ ap Held (sym here)))
      | inr there ↦
          let was : get old j ≡ Some s = sym (updates.others j there) ∙ at in
          uses.others s.timer (own j s there was) ∙ n.held j s was
    ];
    kept = λ t k held. elim (cases_eq t number) [
      | inl here ↦
          let is : key ≡ k = held_is key k (sym uses.changed ∙ (ap (use_at after) (sym here) ∙ held)) in
          record { slot = y; there = ap (get new) (sym is) ∙ updates.changed; timer = timer ∙ sym here }
      | inr there ↦
          let was : use_at before t ≡ Held k = sym (uses.others t there) ∙ held in
          let h : HasTimer old.slots k t = n.kept t k was in
          record { slot = h.slot; there = updates.others k (λ e. sole t there (was ∙ ap Held e)) ∙ h.there; timer = h.timer }
    ];
    many = many;
  }

  pub armed_put : (work more : ℕ) (p q : PassesView) (y : Slot) → y.timer ≡ number → Updates old new key (Some y) → ChangesUse before after number (Held key) → IsOwn old key number
      → work ≤ more → y.knote.count ≤ more → alarm_at q number ≡ alarm_for y.knote.next → made_at q number ≤ more
      → ((j : ℕ) → j ≢ number → alarm_at q j ≡ alarm_at p j) → ((j : ℕ) → j ≢ number → made_at q j ≡ made_at p j)
      → AreArmed work old.slots before p → AreArmed more new.slots after q
  armed_put work more p q y timer updates uses own low count alarm made alarms mades a = record {
    knotes = λ j s at. elim (cases_eq j key) [
      | inl here ↦
          let is : s ≡ y = some_is s y (sym at ∙ (ap (λ k. get new k) here ∙ updates.changed)) in
          subst (λ v. alarm_at q v.timer ≡ alarm_for v.knote.next) (sym is) (ap (alarm_at q) timer ∙ alarm)
      | inr there ↦
          let was : get old j ≡ Some s = sym (updates.others j there) ∙ at in
          alarms s.timer (own j s there was) ∙ a.knotes j s was
    ];
    counts = λ j s at. elim (cases_eq j key) [
      | inl here ↦
          let is : s ≡ y = some_is s y (sym at ∙ (ap (λ k. get new k) here ∙ updates.changed)) in
          subst (λ v. v.knote.count ≤ more) (sym is) count
      | inr there ↦ omega (arith, low, a.counts j s (sym (updates.others j there) ∙ at))
    ];
    free = λ t is. elim (cases_eq t number) [
      | inl here ↦ absurd (never_free key (sym uses.changed ∙ (ap (use_at after) (sym here) ∙ is)))
      | inr there ↦ alarms t there ∙ a.free t (sym (uses.others t there) ∙ is)
    ];
    made = λ t. elim (cases_eq t number) [
      | inl here ↦ subst (λ v. made_at q v ≤ more) (sym here) made
      | inr there ↦ omega (arith, low, mades t there, a.made t)
    ];
  }

  left_never : (next : Option ℕ) (k : ℕ) → use_after next ≡ Held k → ⊥
  left_never None k h = let e : Free ≡ Held k = h in cc
  left_never (Some t) k h = let e : Stale ≡ Held k = h in cc

  pub numbered_gone : (x : Slot) → get old key ≡ Some x → x.timer ≡ number → Updates old new key None → ChangesUse before after number (left_use x) → length after ≡ length before
      → count_by is_held after ≡ count_by is_some new.slots
      → HaveOwnCallouts (length before) old.slots before → HaveOwnCallouts (length after) new.slots after
  numbered_gone x was timer updates uses long many n = record {
    all = refl;
    held = λ j s at. elim (cases_eq j key) [
      | inl here ↦ absurd (none-some s (sym updates.changed ∙ (ap (λ k. get new k) (sym here) ∙ at)))
      | inr there ↦
          let at_old : get old j ≡ Some s = sym (updates.others j there) ∙ at in
          let of_key : use_at before number ≡ Held key = ap (use_at before) (sym timer) ∙ n.held key x was in
          uses.others s.timer (λ e. there (held_is j key (sym (n.held j s at_old) ∙ (ap (use_at before) e ∙ of_key)))) ∙ n.held j s at_old
    ];
    kept = λ t k held. elim (cases_eq t number) [
      | inl here ↦ absurd (left_never x.knote.next k (sym uses.changed ∙ (ap (use_at after) (sym here) ∙ held)))
      | inr there ↦
          let h : HasTimer old.slots k t = n.kept t k (sym (uses.others t there) ∙ held) in
          record {
            slot = h.slot;
            there =
                updates.others k (λ e.
                let is : h.slot ≡ x = some_is h.slot x (sym h.there ∙ (ap (get old) e ∙ was)) in
                there (sym h.timer ∙ (ap (λ v. v.timer) is ∙ timer)))
                ∙ h.there;
            timer = h.timer;
          }
    ];
    many = many;
  }

  left_free : (p : PassesView) (t : ℕ) (next : Option ℕ) → alarm_at p t ≡ alarm_for next → use_after next ≡ Free → alarm_at p t ≡ None
  left_free p t None alarm h = alarm
  left_free p t (Some d) alarm h = let e : Stale ≡ Free = h in cc

  pub armed_gone : (work : ℕ) (p : PassesView) (x : Slot) → get old key ≡ Some x → x.timer ≡ number → Updates old new key None → ChangesUse before after number (left_use x)
      → AreArmed work old.slots before p → AreArmed work new.slots after p
  armed_gone work p x was timer updates uses a = record {
    knotes = λ j s at. elim (cases_eq j key) [
      | inl here ↦ absurd (none-some s (sym updates.changed ∙ (ap (λ k. get new k) (sym here) ∙ at)))
      | inr there ↦ a.knotes j s (sym (updates.others j there) ∙ at)
    ];
    counts = λ j s at. elim (cases_eq j key) [
      | inl here ↦ absurd (none-some s (sym updates.changed ∙ (ap (λ k. get new k) (sym here) ∙ at)))
      | inr there ↦ a.counts j s (sym (updates.others j there) ∙ at)
    ];
    free = λ t is. elim (cases_eq t number) [
      | inl here ↦
          left_free p t x.knote.next (ap (alarm_at p) (here ∙ sym timer) ∙ a.knotes key x was) (sym uses.changed ∙ (ap (use_at after) (sym here) ∙ is))
      | inr there ↦ a.free t (sym (uses.others t there) ∙ is)
    ];
    made = a.made;
  }
