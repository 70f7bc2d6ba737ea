-- One process more expires.
use Rattle.std.proofs.Common.{◌≡◌, ◌≢◌, ℕ, ◌+◌, ◌<◌, ◌≤◌, ◌^◌, Bool, true, false, cond, List, ◌∷◌, length, refl, ap, sym, subst, ◌∙◌, arith, inl, inr}
use Rattle.std.specs.declared.option.Option.{Option}
use Rattle.std.specs.declared.option.Option.TheVariants.{Some, None}
use Rattle.std.proofs.lemmas.Bool.{cases_eq}
use Rattle.std.proofs.lemmas.List.{length-set}
use Rattle.co_desk.specs.Views.{PassesView}
use Rattle.co_single.specs.Acts.{IsFired, NothingWaits, OthersStay, TimeStays}
use Rattle.co_single.specs.Alarms.{alarm_at, callout_count, fired_at, made_at, times_in, waiting_of}
use Rattle.co_itimer.proofs.Counting.{but-same, times-head, times-other}
use Rattle.co_itimer.proofs.Setting.{are-armed, timer-other, timer-same}
use Rattle.co_itimer.specs.Itimers.{alarm_due, once}
use Rattle.co_itimer.specs.Serving.{AllWait, AreServed, AreServing, IsArmedAgain, IsServedOrWaits, served, waits}
use Rattle.co_itimer.specs.Timers.{Timers, expired, expires, timer_of, with_timer}

module _ (work : ℕ) (p : PassesView) (s : Timers) where
  -- behind the scan
  first-stage : (i : ℕ) (b : Bool) → expires s.clock (timer_of s i) ≡ b → times_in i (waiting_of p) ≡ once b → made_at p i ≤ work → IsServedOrWaits work p s p s i
  first-stage i true e w made = waits w e refl refl made
  first-stage i false e w made =
      served w (sym (ap (λ b. cond b (expired s.clock (timer_of s i)) (timer_of s i)) e)) (let none : once (expires s.clock (timer_of s i)) ≡ 0 = ap once e in omega (arith, none)) (omega (arith, made))

  pub serving-begins : AllWait p s work → AreServing work p s p s
  serving-begins h = record {
    armed = h.armed;
    clock = refl;
    count = refl;
    scans = refl;
    each = λ i. first-stage i (expires s.clock (timer_of s i)) refl (h.waiting i) (h.made i);
  }

  -- the first that waits
  pub record IsHead (q : PassesView) (t : Timers) (i : ℕ) (ws : List ℕ) : Type 0 where
    pub come : expires s.clock (timer_of s i) ≡ true
    pub same : timer_of t i ≡ timer_of s i
    pub fired : fired_at q i ≡ fired_at p i
    pub made : made_at q i ≤ work
    pub once_only : times_in i ws ≡ 0

  pub head : (q : PassesView) (t : Timers) (i : ℕ) (ws : List ℕ) → waiting_of q ≡ i ∷ ws → AreServing work p s q t → IsHead q t i ws
  head q t i ws is h = go (h.each i) where
    long : times_in i (waiting_of q) ≡ 1 + times_in i ws
    long = ap (times_in i) is ∙ times-head i ws

    go : IsServedOrWaits work p s q t i → IsHead q t i ws
    go (waits w e same fired made) = record { come = e; same = same; fired = fired; made = made; once_only = omega (arith, w, long) }
    go (served w same fired made) = absurd (omega (arith, w, long))

  pub head-comes : (q : PassesView) (t : Timers) (i : ℕ) (ws : List ℕ) → waiting_of q ≡ i ∷ ws → AreServing work p s q t → expires t.clock (timer_of t i) ≡ true
  head-comes q t i ws is h =
      let e = head q t i ws is h in
      ap (λ c. expires c (timer_of t i)) h.clock ∙ (ap (expires s.clock) e.same ∙ e.come)

-- callout i has fired, and is armed for its process's next time
pub record IsServedAt (p : PassesView) (i : ℕ) (next : Option ℕ) (q : PassesView) : Type 0 where
  pub waiting : waiting_of p ≡ i ∷ waiting_of q
  pub below : i < callout_count p
  pub due : alarm_due (alarm_at q i) ≡ next
  pub made : made_at q i ≤ made_at p i + 1
  pub fired : fired_at q i ≡ fired_at p i + 1
  pub others : OthersStay p i q
  pub time : TimeStays p q

pub served-at : (p : PassesView) (i arg : ℕ) (next : Option ℕ) (q r : PassesView) → IsFired p i arg q → times_in i (waiting_of q) ≡ 0 → IsArmedAgain q i next r → IsServedAt p i next r
served-at p i arg None q r f none h = subst (IsServedAt p i None) (sym h) (record {
  waiting = f.waiting;
  below = f.below;
  due = ap alarm_due f.alarm;
  made = omega (arith, f.made);
  fired = f.fired;
  others = f.others;
  time = f.time;
})
served-at p i arg (Some due) q r f none h = record {
  waiting = f.waiting ∙ ap (λ l. i ∷ l) (sym (but-same i (waiting_of q) none) ∙ sym h.waiting);
  below = f.below;
  due = ap alarm_due h.alarm;
  made = omega (arith, f.made, h.made);
  fired = h.fired ∙ f.fired;
  others = record {
    count = h.others.count ∙ f.others.count;
    alarms = λ j d. h.others.alarms j d ∙ f.others.alarms j d;
    made = λ j d. h.others.made j d ∙ f.others.made j d;
    fired = λ j d. h.others.fired j d ∙ f.others.fired j d;
  };
  time = record { scans = h.time.scans ∙ f.time.scans; clock = h.time.clock ∙ f.time.clock };
}

module _ (work : ℕ) (p : PassesView) (s : Timers) (q : PassesView) (t : Timers) (i : ℕ) (u : PassesView) where
  abbrev after : Timers
  after = with_timer t i (expired t.clock (timer_of t i))

  other-stage : (j : ℕ) → j ≢ i → IsServedAt q i (timer_of after i).next u → IsServedOrWaits work p s q t j → IsServedOrWaits work p s u after j
  other-stage j differs f stage =
      let same = timer-other t i j (expired t.clock (timer_of t i)) differs in
      let times : times_in j (waiting_of u) ≡ times_in j (waiting_of q) = sym (ap (times_in j) f.waiting ∙ times-other i j (waiting_of u) differs) in
      go times same stage where
        go : times_in j (waiting_of u) ≡ times_in j (waiting_of q) → timer_of after j ≡ timer_of t j → IsServedOrWaits work p s q t j → IsServedOrWaits work p s u after j
        go times same (waits w e is fired made) = waits (times ∙ w) e (same ∙ is) (f.others.fired j differs ∙ fired) (omega (arith, f.others.made j differs, made))
        go times same (served w is fired made) = served (times ∙ w) (same ∙ is) (f.others.fired j differs ∙ fired) (omega (arith, f.others.made j differs, made))

  this-stage : IsServedAt q i (timer_of after i).next u → AreServing work p s q t → IsServedOrWaits work p s u after i
  this-stage f h =
      let e = head work p s q t i (waiting_of u) f.waiting h in
      let below : i < length t.timers = omega (arith, f.below, h.armed.count) in
      let is : timer_of after i ≡ expired s.clock (timer_of s i) = timer-same t i (expired t.clock (timer_of t i)) below ∙ (ap (λ c. expired c (timer_of t i)) h.clock ∙ ap (expired s.clock) e.same) in
      let one : once (expires s.clock (timer_of s i)) ≡ 1 = ap once e.come in
      served e.once_only (is ∙ sym (ap (λ b. cond b (expired s.clock (timer_of s i)) (timer_of s i)) e.come)) (omega (arith, f.fired, e.fired, one)) (omega (arith, f.made, e.made))

  pub serving-more : IsServedAt q i (timer_of after i).next u → AreServing work p s q t → AreServing work p s u after
  serving-more f h =
      let below : i < length t.timers = omega (arith, f.below, h.armed.count) in
      record {
        armed = are-armed q u i (timer_of after i).next t (expired t.clock (timer_of t i)) below (sym (ap (λ x. x.next) (timer-same t i (expired t.clock (timer_of t i)) below))) f.due f.others f.time h.armed;
        clock = h.clock;
        count = length-set t.timers i (expired t.clock (timer_of t i)) ∙ h.count;
        scans = f.time.scans ∙ h.scans;
        each = λ j. elim (cases_eq j i) [
          | inl same ↦ subst (IsServedOrWaits work p s u after) (sym same) (this-stage f h)
          | inr differs ↦ other-stage j differs f (h.each j)
        ];
      }

-- nothing waits any more
module _ (work : ℕ) (p : PassesView) (s : Timers) (q : PassesView) (t : Timers) (r : PassesView) (idle : NothingWaits q r) where
  last-stage : (i : ℕ) → IsServedOrWaits work p s q t i → IsServedOrWaits work p s r t i
  last-stage i (waits w e is fired made) = absurd (let none : times_in i (waiting_of q) ≡ 0 = ap (times_in i) idle.nothing in omega (arith, none, w))
  last-stage i (served w is fired made) = served (ap (times_in i) idle.waiting) is (idle.callouts.fired i ∙ fired) (omega (arith, idle.callouts.made i, made))

  pub serving-ends : AreServing work p s q t → AreServed work p s r t
  serving-ends h = record {
    serving = record {
      armed = record { count = idle.callouts.count ∙ h.armed.count; clock = idle.time.clock ∙ h.armed.clock; armed = λ i. ap alarm_due (idle.callouts.alarms i) ∙ h.armed.armed i };
      clock = h.clock;
      count = h.count;
      scans = idle.time.scans ∙ h.scans;
      each = λ i. last-stage i (h.each i);
    };
    nothing = idle.waiting;
  }

-- The first that waits has fired, its process's timer is b's, and its callout is armed for its next time.
module _ (work : ℕ) (p : PassesView) (s : Timers) (q : PassesView) (t : Timers) (i arg : ℕ) (r u : PassesView) (b : Timers) (next : Option ℕ) (h : AreServing work p s q t) (f : IsFired q i arg r) where
  pub may-arm : work < 2 ^ 62 → made_at r i < 2 ^ 62
  may-arm few =
      let e = head work p s q t i (waiting_of r) f.waiting h in
      omega (arith, f.made, e.made, few)

  is-served : IsArmedAgain r i next u → IsServedAt q i next u
  is-served again = served-at q i arg next r u f (head work p s q t i (waiting_of r) f.waiting h).once_only again

  pub fewer-wait : IsArmedAgain r i next u → length (waiting_of u) < length (waiting_of q)
  fewer-wait again = let e = ap length (is-served again).waiting in omega (arith, e)

  pub one-more : IsArmedAgain r i next u → b ≡ with_timer t i (expired t.clock (timer_of t i)) → next ≡ (timer_of b i).next → AreServing work p s u b
  one-more again after is =
      subst (AreServing work p s u) (sym after)
      (serving-more work p s q t i u (subst (λ x. IsServedAt q i x u) (is ∙ ap (λ d. (timer_of d i).next) after) (is-served again)) h)
