-- A knote is put into the list, or leaves it, and what is kept stays so.
use Rattle.std.proofs.Common.{◌≡◌, ℕ, ◌+◌, ◌<◌, ◌≤◌, true, false, cond, List, length, get_or, set, refl, ap, sym, subst, ◌∙◌, arith, Option, Some, None, is_some, count_by, inl, inr}
use Rattle.std.proofs.lemmas.Bool.{cases_eq, cases_lt}
use Rattle.std.proofs.lemmas.List.{get_or-set_same, get_or-set_other, get_or_past, length-set}
use Rattle.slab.specs.Slab.{Slab, Updates, get}
use Rattle.co_desk.specs.Views.{PassesView}
use Rattle.co_single.specs.Acts.{IsArmed, NothingFires}
use Rattle.co_single.specs.Alarms.{fired_at, but}
use Rattle.co_single.specs.Seen.{AddsEntries}
use Rattle.co_kq.specs.declared.knote.Knote.{Knote}
use Rattle.co_kq.specs.declared.knote.Slot.{Slot}
use Rattle.co_kq.specs.declared.numbers.Use.{Use}
use Rattle.co_kq.specs.declared.numbers.Use.TheVariants.{Free, Held}
use Rattle.co_kq.specs.Changes.{told_slot, IsKnotePut, IsSlotChanged}
use Rattle.co_kq.specs.Numbers.{is_held, use_at, alarm_for, use_after, left_use, AreKept, CanPlace, HasTimer, IsPut}
use Rattle.co_kq.proofs.InSlots.{some_is}
use Rattle.co_kq.proofs.Counting.{one_if, count_changed, gos_same}
use Rattle.co_kq.proofs.Keeping.{ChangesUse, IsOwn, IsSole, held_is, numbered_put, armed_put, numbered_gone, armed_gone}

past_free : (uses : List Use) (t key : ℕ) → length uses ≤ t → use_at uses t ≡ Held key → ⊥
past_free uses t key past h = let e : Free ≡ Held key = sym (get_or_past uses t Free past) ∙ h in cc

-- a callout that is held is one of the callouts
pub is_below : (uses : List Use) (t key : ℕ) → use_at uses t ≡ Held key → t < length uses
is_below uses t key h = elim (cases_lt t (length uses)) [
  | inl low ↦ low
  | inr past ↦ absurd (past_free uses t key past h)
]

pub set_changes : (uses : List Use) (t : ℕ) (to : Use) → t < length uses → ChangesUse uses (set uses t to) t to
set_changes uses t to low = record {
  changed = get_or-set_same uses t to Free low;
  others = λ j differs. get_or-set_other uses t j to Free differs;
}

pub armed_fires : (p q : PassesView) (number due arg : ℕ) → IsArmed p number due arg q → NothingFires p q
armed_fires p q number due arg a = record {
  fired = fired;
  all = gos_same p.timers q.timers a.others.count fired;
  scans = a.time.scans;
} where
  fired : (i : ℕ) → fired_at q i ≡ fired_at p i
  fired i = elim (cases_eq i number) [
    | inl here ↦ subst (λ v. fired_at q v ≡ fired_at p v) (sym here) a.fired
    | inr there ↦ a.others.fired i there
  ]

module _ (work : ℕ) (knote : Knote) (due : ℕ) (old new : Slab Slot) (before after : List Use) (p q : PassesView) (key number : ℕ) where
  pub put_kept : (stood : ℕ) → AreKept work old.slots before p → IsKnotePut old new key (record { knote = knote; timer = number }) stood
      → ChangesUse before after number (Held key) → length after ≡ length before → IsOwn old key number → IsSole before key number → count_by is_held after ≡ count_by is_some new.slots
      → knote.next ≡ Some due → knote.count ≡ 0 → IsArmed p number due 0 q → AddsEntries p work q → IsPut work knote old p new after q
  put_kept stood kept is_put uses long own sole many next fresh a adds = record {
    list = is_put.list;
    kept = record {
      distinct = is_put.changed.distinct;
      numbered = numbered_put old new before after key number (record { knote = knote; timer = number }) refl is_put.changed.updates uses long own sole many kept.numbered;
      armed =
          armed_put old new before after key number work (work + 1) p q (record { knote = knote; timer = number }) refl is_put.changed.updates uses own (omega arith) (omega (arith, fresh))
          (a.alarm ∙ ap alarm_for (sym next)) (omega (arith, a.made, kept.armed.made number)) a.others.alarms a.others.made kept.armed;
      callouts = a.others.count ∙ (kept.callouts ∙ sym long);
      few = omega (arith, long, kept.few);
      nothing = a.waiting ∙ ap (but number) kept.nothing;
    };
    fires = armed_fires p q number due 0 a;
    entries = adds;
    clock = a.time.clock;
    capacity = is_put.changed.capacity;
  }

-- in the place of an old one
pub put_old : (work : ℕ) (knote : Knote) (due : ℕ) (old new : Slab Slot) (uses : List Use) (p q : PassesView) (key number : ℕ)
    → AreKept work old.slots uses p → HasTimer old.slots key number → IsKnotePut old new key (record { knote = knote; timer = number }) 1
    → knote.next ≡ Some due → knote.count ≡ 0 → IsArmed p number due 0 q → AddsEntries p work q → IsPut work knote old p new uses q
put_old work knote due old new uses p q key number kept had is_put next fresh a adds =
    let of_key : use_at uses number ≡ Held key = ap (use_at uses) (sym had.timer) ∙ kept.numbered.held key had.slot had.there in
    put_kept work knote due old new uses uses p q key number 1 kept is_put
    (record { changed = of_key; others = λ j differs. refl })
    refl
    (λ j s there at is. there (held_is j key (sym (kept.numbered.held j s at) ∙ (ap (use_at uses) is ∙ of_key))))
    (λ j there held.
    let h : HasTimer old.slots key j = kept.numbered.kept j key held in
    there (sym h.timer ∙ (ap (λ v. v.timer) (some_is h.slot had.slot (sym h.there ∙ had.there)) ∙ had.timer)))
    (omega (arith, kept.numbered.many, is_put.changed.len))
    next fresh a adds

-- of a new ident
pub put_new : (work : ℕ) (knote : Knote) (due : ℕ) (old new : Slab Slot) (uses : List Use) (p q : PassesView) (key number : ℕ)
    → CanPlace work knote due old uses p → get old key ≡ None → number < length uses → is_held (use_at uses number) ≡ false
    → IsKnotePut old new key (record { knote = knote; timer = number }) 0 → IsArmed p number due 0 q → AddsEntries p work q → IsPut work knote old p new (set uses number (Held key)) q
put_new work knote due old new uses p q key number can vacant low loose is_put a adds =
    put_kept work knote due old new uses (set uses number (Held key)) p q key number 0 can.kept is_put
    (set_changes uses number (Held key) low)
    (length-set uses number (Held key))
    (λ j s there at is.
    let e : is_held (use_at uses number) ≡ true = ap (λ t. is_held (use_at uses t)) (sym is) ∙ ap is_held (can.kept.numbered.held j s at) in
    let never : true ≡ false = sym e ∙ loose in cc)
    (λ j there held.
    let h : HasTimer old.slots key j = can.kept.numbered.kept j key held in
    let never : None ≡ Some h.slot = sym vacant ∙ h.there in cc)
    many
    can.next can.fresh a adds
  where
    many : count_by is_held (set uses number (Held key)) ≡ count_by is_some new.slots
    many =
        let change = count_changed is_held Free uses (set uses number (Held key)) number low (length-set uses number (Held key)) (λ j differs. get_or-set_other uses number j (Held key) Free differs) in
        let was : cond (is_held (get_or uses number Free)) 1 0 ≡ 0 = ap one_if loose in
        let is : one_if (is_held (get_or (set uses number (Held key)) number Free)) ≡ 1 = ap (λ u. one_if (is_held u)) (get_or-set_same uses number (Held key) Free low) in
        omega (arith, change, was, is, is_put.changed.len, can.kept.numbered.many)

-- a knote leaves
pub gone_kept : (work : ℕ) (old new : Slab Slot) (uses : List Use) (p : PassesView) (key : ℕ) (x : Slot)
    → AreKept work old.slots uses p → get old key ≡ Some x → IsSlotChanged old new key None 1 0 → AreKept work new.slots (set uses x.timer (left_use x)) p
gone_kept work old new uses p key x kept was gone = record {
  distinct = gone.distinct;
  numbered = numbered_gone old new uses after key x.timer x was refl gone.updates changes long many kept.numbered;
  armed = armed_gone old new uses after key x.timer work p x was refl gone.updates changes kept.armed;
  callouts = kept.callouts ∙ sym long;
  few = omega (arith, long, kept.few);
  nothing = kept.nothing;
} where
  after : List Use
  after = set uses x.timer (left_use x)

  low : x.timer < length uses
  low = is_below uses x.timer key (kept.numbered.held key x was)

  changes : ChangesUse uses after x.timer (left_use x)
  changes = set_changes uses x.timer (left_use x) low

  long : length after ≡ length uses
  long = length-set uses x.timer (left_use x)

  not_held : (next : Option ℕ) → is_held (use_after next) ≡ false
  not_held None = refl
  not_held (Some t) = refl

  many : count_by is_held after ≡ count_by is_some new.slots
  many =
      let change = count_changed is_held Free uses after x.timer low long (λ j differs. changes.others j differs) in
      let held : cond (is_held (get_or uses x.timer Free)) 1 0 ≡ 1 = ap (λ u. one_if (is_held u)) (kept.numbered.held key x was) in
      let is : cond (is_held (get_or after x.timer Free)) 1 0 ≡ 0 = ap (λ u. one_if (is_held u)) changes.changed ∙ ap one_if (not_held x.knote.next) in
      omega (arith, change, held, is, gone.len, kept.numbered.many)

-- a knote's count is told
pub told_kept : (work : ℕ) (old new : Slab Slot) (uses : List Use) (p : PassesView) (key : ℕ) (x : Slot)
    → AreKept work old.slots uses p → get old key ≡ Some x → IsSlotChanged old new key (told_slot (get old key)) 1 1 → AreKept work new.slots uses p
told_kept work old new uses p key x kept was told =
    let of_key : use_at uses x.timer ≡ Held key = kept.numbered.held key x was in
    let y : Slot = record x { knote = record x.knote { count = 0 } } in
    let updates : Updates old new key (Some y) = subst (λ o. Updates old new key (told_slot o)) was told.updates in
    let own : IsOwn old key x.timer = λ j s there at is. there (held_is j key (sym (kept.numbered.held j s at) ∙ (ap (use_at uses) is ∙ of_key))) in
    let same : ChangesUse uses uses x.timer (Held key) = record { changed = of_key; others = λ j differs. refl } in
    record {
      distinct = told.distinct;
      numbered =
          numbered_put old new uses uses key x.timer y refl updates same refl own
          (λ j there held.
          let h : HasTimer old.slots key j = kept.numbered.kept j key held in
          there (sym h.timer ∙ ap (λ v. v.timer) (some_is h.slot x (sym h.there ∙ was))))
          (omega (arith, kept.numbered.many, told.len)) kept.numbered;
      armed =
          armed_put old new uses uses key x.timer work work p p y refl updates same own (omega arith) (omega arith)
          (kept.armed.knotes key x was) (kept.armed.made x.timer) (λ j differs. refl) (λ j differs. refl) kept.armed;
      callouts = kept.callouts;
      few = kept.few;
      nothing = kept.nothing;
    }
