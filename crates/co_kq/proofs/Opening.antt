-- What is kept of a list as it is opened.
use Rattle.std.proofs.Common.{◌≡◌, ℕ, zero, suc, ◌≤◌, List, [], ◌∷◌, replicate, length, get_or, refl, ap, sym, subst, ◌∙◌, arith, Some, None, count_by, inl, inr}
use Rattle.std.proofs.lemmas.Bool.{cases_lt}
use Rattle.std.proofs.lemmas.List.{get_or-replicate, get_or_past, length-replicate}
use Rattle.std.proofs.lemmas.List.Sums.{sum_by-cons}
use Rattle.slab.specs.Slab.{Slab}
use Rattle.co_desk.specs.Views.{PassesView}
use Rattle.co_object.specs.declared.note.Entry.{Entry}
use Rattle.co_single.specs.Acts.{IsNew}
use Rattle.co_single.specs.Alarms.{fired_at, gos, all_gos}
use Rattle.co_kq.specs.declared.knote.Slot.{Slot}
use Rattle.co_kq.specs.declared.numbers.Use.{Use}
use Rattle.co_kq.specs.declared.numbers.Use.TheVariants.{Free, Held}
use Rattle.co_kq.specs.Numbers.{is_held, use_at, AreKept, IsKq}
use Rattle.co_kq.proofs.Counting.{one_if}

use_free : (room t : ℕ) → use_at (replicate room Free) t ≡ Free
use_free room t = elim (cases_lt t room) [
  | inl low ↦ get_or-replicate room t Free Free low
  | inr past ↦ get_or_past (replicate room Free) t Free (omega (arith, past, length-replicate room Free))
]

none_held : (room : ℕ) → count_by is_held (replicate room Free) ≡ 0
none_held zero = refl
none_held (suc room) =
    let a = sum_by-cons (λ u. one_if (is_held u)) Free (replicate room Free) in
    let b : one_if (is_held Free) ≡ 0 = refl in
    omega (arith, a, b, none_held room)

kept_new : (room : ℕ) (p : PassesView) → IsNew room p → room ≤ 1024 → AreKept 0 [] (replicate room Free) p
kept_new room p new few = record {
  distinct = λ key s at j t bt eq. let never : None ≡ Some s = at in cc;
  numbered = record {
    all = refl;
    held = λ key s at. let never : None ≡ Some s = at in cc;
    kept = λ t key held. let never : Free ≡ Held key = sym (use_free room t) ∙ held in cc;
    many = none_held room;
  };
  armed = record {
    knotes = λ key s at. let never : None ≡ Some s = at in cc;
    counts = λ key s at. let never : None ≡ Some s = at in cc;
    free = λ t is. new.alarms t;
    made = λ t. omega (arith, new.made t);
  };
  callouts = new.count ∙ sym (length-replicate room Free);
  few = omega (arith, few, length-replicate room Free);
  nothing = new.waiting;
}

pub opened : (clock room : ℕ) (knotes : Slab Slot) (uses : List Use) (p : PassesView) → clock ≡ 0 → IsNew room p → knotes.slots ≡ [] → uses ≡ replicate room Free → room ≤ knotes.capacity → room ≤ 1024
    → IsKq clock room 0 knotes uses p
opened clock room knotes uses p begins new empty are has few = record {
  kept = subst (λ u. AreKept 0 knotes.slots u p) (sym are) (subst (λ l. AreKept 0 l (replicate room Free) p) (sym empty) (kept_new room p new few));
  all = ap length are ∙ length-replicate room Free;
  has = has;
  last = new.clock ∙ sym begins;
}

no_gos : (xs : List (List Entry)) → ((j : ℕ) → gos (get_or xs j []) ≡ 0) → all_gos xs ≡ 0
no_gos [] h = refl
no_gos (x ∷ xs) h = let head : gos x ≡ 0 = h 0 in omega (arith, head, no_gos xs (λ j. h (suc j)))

pub none_fired : (p : PassesView) → ((i : ℕ) → fired_at p i ≡ 0) → all_gos p.timers ≡ 0
none_fired p h = no_gos p.timers h
