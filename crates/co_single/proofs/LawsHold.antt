-- The laws of the calls.
use Rattle.std.proofs.Common.{◌≡◌, ◌≢◌, ℕ, zero, suc, ◌+◌, ◌<◌, ◌==◌, cond, inl, inr, List, [], ◌∷◌, length, get_or, refl, ap, sym, subst, ◌∙◌, arith}
use Rattle.std.proofs.lemmas.Bool.{cases_eq}
use Rattle.std.proofs.lemmas.List.{get_or_past}
use Rattle.co_object.specs.declared.note.Entry.{Entry}
use Rattle.co_object.specs.History.{state}
use Rattle.co_object.proofs.Numbers.{same_itself}
use Rattle.co_desk.specs.Params.{no_spec}
use Rattle.co_desk.specs.Views.{PassesView}
use Rattle.co_single.specs.Acts.{IsFired}
use Rattle.co_single.specs.Alarms.{alarm_of, all_gos, fired_at, gos, times_in, waiting_of}
use Rattle.co_single.specs.Laws as law
use Rattle.co_single.specs.Laws.{Fires}
use Rattle.co_single.proofs.Queues.{differs}

-- one firing takes its callout off those that wait
one_fires : (p : PassesView) (j arg : ℕ) (q : PassesView) → IsFired p j arg q → (i : ℕ) → fired_at q i + times_in i (waiting_of q) ≡ fired_at p i + times_in i (waiting_of p)
one_fires p j arg q f i =
    let is : times_in i (waiting_of p) ≡ cond {A = ℕ} (j == i) 1 0 + times_in i (waiting_of q) = ap (times_in i) f.waiting in
    elim (cases_eq i j) [
      | inl same ↦ (
          let one : cond {A = ℕ} (j == i) 1 0 ≡ 1 = ap (λ b. cond {A = ℕ} b 1 0) (same_itself j i (sym same)) in
          let more : fired_at q i ≡ fired_at p i + 1 = subst (λ k. fired_at q k ≡ fired_at p k + 1) (sym same) f.fired in
          omega (arith, is, one, more))
      | inr other ↦ (
          let none : cond {A = ℕ} (j == i) 1 0 ≡ 0 = ap (λ b. cond {A = ℕ} b 1 0) (differs j i (λ e. other (sym e))) in
          let stays : fired_at q i ≡ fired_at p i = f.others.fired i other in
          omega (arith, is, none, stays))
    ]

all_fire : (is : List ℕ) (p q : PassesView) → Fires p is q → (i : ℕ) → fired_at q i + times_in i (waiting_of q) ≡ fired_at p i + times_in i (waiting_of p)
all_fire [] p q h i = ap (λ v. fired_at v i + times_in i (waiting_of v)) h
all_fire (j ∷ is) p q h i = all_fire is h.1 q h.3 i ∙ one_fires p j h.0 h.1 h.2 i

pub each_due : law.EachDueFiresOnce
each_due p now k s is q scanned fires none i =
    let whole = all_fire is s q fires i in
    let left : times_in i (waiting_of q) ≡ 0 = ap (times_in i) none in
    let due = scanned.waiting i in
    let before = scanned.callouts.fired i in
    omega (arith, whole, left, due, before)

how_many : (is : List ℕ) (p q : PassesView) → Fires p is q → length (waiting_of p) ≡ length is + length (waiting_of q)
how_many [] p q h = let e = ap (λ v. length (waiting_of v)) h in omega (arith, e)
how_many (j ∷ is) p q h =
    let first : length (waiting_of p) ≡ suc (length (waiting_of h.1)) = ap (λ l. length l) h.2.waiting in
    let rest = how_many is h.1 q h.3 in
    omega (arith, first, rest)

pub as_many : law.AsManyAsAnswered
as_many p now k s is q scanned fires none =
    let whole = how_many is s q fires in
    let left : length (waiting_of q) ≡ 0 = ap (λ l. length l) none in
    let count = scanned.count in
    omega (arith, whole, left, count)

-- ---- all histories together

gos_same : (Hs Gs : List (List Entry)) → length Hs ≡ length Gs → ((j : ℕ) → gos (get_or Hs j []) ≡ gos (get_or Gs j [])) → all_gos Hs ≡ all_gos Gs
gos_same [] [] long each = refl
gos_same [] (G ∷ Gs) long each = absurd (omega (arith, long))
gos_same (H ∷ Hs) [] long each = absurd (omega (arith, long))
gos_same (H ∷ Hs) (G ∷ Gs) long each =
    let first : gos H ≡ gos G = each 0 in
    let rest = gos_same Hs Gs (omega (arith, long)) (λ j. each (suc j)) in
    omega (arith, first, rest)

gos_more : (i : ℕ) (Hs Gs : List (List Entry)) → length Hs ≡ length Gs → i < length Gs → gos (get_or Hs i []) ≡ gos (get_or Gs i []) + 1 → ((j : ℕ) → j ≢ i → gos (get_or Hs j []) ≡ gos (get_or Gs j [])) → all_gos Hs ≡ all_gos Gs + 1
gos_more i [] [] long low here each = absurd (omega (arith, low))
gos_more i [] (G ∷ Gs) long low here each = absurd (omega (arith, long))
gos_more i (H ∷ Hs) [] long low here each = absurd (omega (arith, long))
gos_more zero (H ∷ Hs) (G ∷ Gs) long low here each =
    let first : gos H ≡ gos G + 1 = here in
    let rest = gos_same Hs Gs (omega (arith, long)) (λ j. each (suc j) (λ e. omega (arith, e))) in
    omega (arith, first, rest)
gos_more (suc i) (H ∷ Hs) (G ∷ Gs) long low here each =
    let first : gos H ≡ gos G = each 0 (λ e. omega (arith, e)) in
    let rest = gos_more i Hs Gs (omega (arith, long)) (omega (arith, low)) here (λ j other. each (suc j) (λ e. other (omega (arith, e)))) in
    omega (arith, first, rest)

pub each_counted : law.EachFiringIsCounted
each_counted p i arg q f = gos_more i q.timers p.timers f.others.count f.below f.fired f.others.fired

pub none_counted : law.NoFiringIsCounted
none_counted p q h = gos_same q.timers p.timers h.count h.fired

pub none_past : law.NoAlarmPastTheLast
none_past p i past = ap (λ H. alarm_of (state no_spec H).armed) (get_or_past p.timers i [] past)
