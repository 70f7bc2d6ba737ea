-- Callouts whose knotes are gone are freed one by one.
use Rattle.std.proofs.Common.{◌≡◌, ◌≢◌, ℕ, ◌≤◌, List, length, refl, ap, sym, ◌∙◌, arith, inl, inr, Option}
use Rattle.std.proofs.lemmas.List.{get_or_past}
use Rattle.co_desk.specs.Views.{PassesView}
use Rattle.co_single.specs.Alarms.{alarm_at}
use Rattle.co_kq.specs.declared.knote.Slot.{Slot}
use Rattle.co_kq.specs.declared.numbers.Use.{Use}
use Rattle.co_kq.specs.declared.numbers.Use.TheVariants.{Free, Stale, Held}
use Rattle.co_kq.specs.Numbers.{is_held, use_at, HaveOwnCallouts, AreArmed}
use Rattle.co_kq.specs.Ticks.{AreCleared, StaysOrIsFreed}
use Rattle.co_kq.proofs.Counting.{count_same}

free_stale : Free ≡ Stale → ⊥
free_stale h = cc

pub cleared_none : (uses : List Use) (p : PassesView) → AreCleared uses p uses p
cleared_none uses p = record {
  all = refl;
  turned = λ t. inl (refl, refl);
  made = λ t. refl;
  fired = λ t. refl;
  count = refl;
  time = record { scans = refl; clock = refl };
  waiting = λ nothing. nothing;
}

turned_more : (u v w : List Use) (p q r : PassesView) (t : ℕ) → StaysOrIsFreed u p v q t → StaysOrIsFreed v q w r t → StaysOrIsFreed u p w r t
turned_more u v w p q r t (inl a) (inl b) = inl (b.0 ∙ a.0, b.1 ∙ a.1)
turned_more u v w p q r t (inl a) (inr b) = inr (sym a.0 ∙ b.0, b.1, b.2)
turned_more u v w p q r t (inr a) (inl b) = inr (a.0, b.0 ∙ a.1, b.1 ∙ a.2)
turned_more u v w p q r t (inr a) (inr b) = absurd (free_stale (sym a.1 ∙ b.0))

pub cleared_more : (u v w : List Use) (p q r : PassesView) → AreCleared u p v q → AreCleared v q w r → AreCleared u p w r
cleared_more u v w p q r a b = record {
  all = b.all ∙ a.all;
  turned = λ t. turned_more u v w p q r t (a.turned t) (b.turned t);
  made = λ t. b.made t ∙ a.made t;
  fired = λ t. b.fired t ∙ a.fired t;
  count = b.count ∙ a.count;
  time = record { scans = b.time.scans ∙ a.time.scans; clock = b.time.clock ∙ a.time.clock };
  waiting = λ nothing. b.waiting (a.waiting nothing);
}

-- what is not stale stays so
pub stays_clear : (v w : List Use) (q r : PassesView) (t : ℕ) → AreCleared v q w r → use_at v t ≢ Stale → use_at w t ≢ Stale
stays_clear v w q r t b clear stale = elim (b.turned t) [
  | inl same ↦ clear (sym same.0 ∙ stale)
  | inr turned ↦ free_stale (sym turned.1 ∙ stale)
]

pub past_clear : (uses : List Use) (t : ℕ) → length uses ≤ t → use_at uses t ≢ Stale
past_clear uses t past stale = free_stale (sym (get_or_past uses t Free past) ∙ stale)

held_stale : (key : ℕ) → Held key ≡ Stale → ⊥
held_stale key h = cc

held_free : (key : ℕ) → Free ≡ Held key → ⊥
held_free key h = cc

pub cleared_held : (u v : List Use) (p q : PassesView) (t key : ℕ) → AreCleared u p v q → use_at u t ≡ Held key → (use_at v t ≡ Held key) × (alarm_at q t ≡ alarm_at p t)
cleared_held u v p q t key a held = elim (a.turned t) [
  | inl same ↦ (same.0 ∙ held, same.1)
  | inr turned ↦ absurd (held_stale key (sym held ∙ turned.0))
]

pub cleared_numbered : (u v : List Use) (p q : PassesView) (slots : List (Option Slot)) → AreCleared u p v q → HaveOwnCallouts (length u) slots u → HaveOwnCallouts (length v) slots v
cleared_numbered u v p q slots a n = record {
  all = refl;
  held = λ key s at. (cleared_held u v p q s.timer key a (n.held key s at)).0;
  kept = λ t key held. elim (a.turned t) [
    | inl same ↦ n.kept t key (sym same.0 ∙ held)
    | inr turned ↦ absurd (held_free key (sym turned.1 ∙ held))
  ];
  many =
      count_same is_held Free u v a.all
      (λ t. elim (a.turned t) [
        | inl same ↦ ap is_held same.0
        | inr turned ↦ ap is_held turned.1 ∙ sym (ap is_held turned.0)
      ])
      ∙ n.many;
}

pub cleared_armed : (u v : List Use) (p q : PassesView) (slots : List (Option Slot)) (work : ℕ) → AreCleared u p v q → HaveOwnCallouts (length u) slots u → AreArmed work slots u p → AreArmed work slots v q
cleared_armed u v p q slots work a n armed = record {
  knotes = λ key s at. (cleared_held u v p q s.timer key a (n.held key s at)).1 ∙ armed.knotes key s at;
  counts = armed.counts;
  free = λ t is. elim (a.turned t) [
    | inl same ↦ same.1 ∙ armed.free t (sym same.0 ∙ is)
    | inr turned ↦ turned.2
  ];
  made = λ t. omega (arith, a.made t, armed.made t);
}
