-- A whole tick: the scan, and then each service.
use Rattle.std.proofs.Common.{◌≡◌, ℕ, zero, suc, ◌+◌, ◌<◌, ◌≤◌, length, map, max, refl, ap, sym, subst, ◌∙◌, arith}
use Rattle.std.specs.declared.option.Option.{Option}
use Rattle.std.specs.declared.option.Option.TheVariants.{Some, None}
use Rattle.std.proofs.lemmas.List.{same_lists, get_or-map, get_or_default, length-map, length-replicate}
use Rattle.co_desk.specs.Views.{PassesView}
use Rattle.co_single.specs.Acts.{IsNew, IsScanned}
use Rattle.co_single.specs.Alarms.{Alarm, alarm_at, all_gos, last_scan, due_once, fired_at, made_at, times_in, waiting_of}
use Rattle.co_itimer.proofs.Counting.{all_gos-more, all_gos-none, counted}
use Rattle.co_itimer.specs.Itimers.{EachFires, IsBetweenTicks, IsOpened, alarm_due, once}
use Rattle.co_itimer.specs.Serving.{AllWait, AreServed, IsServedOrWaits, served, waits}
use Rattle.co_itimer.specs.Timers.{Timers, clock_after, expirations, expires, has_come, idle, opening, ticked, ticked_timer, timer_of}

due-once : (o : Option Alarm) (clock : ℕ) (next : Option ℕ) → alarm_due o ≡ next → due_once o clock ≡ once (has_come clock next)
due-once None clock next h = subst (λ n. 0 ≡ once (has_come clock n)) h refl
due-once (Some a) clock next h = subst (λ n. due_once (Some a) clock ≡ once (has_come clock n)) h refl

-- the timers alone, their clock at the tick's
abbrev pub advanced : Timers → ℕ → Timers
advanced s now = record s { clock = clock_after s now }

module _ (work now k : ℕ) (p q : PassesView) (s : Timers) (kept : IsBetweenTicks p s work) (scan : IsScanned p now k q) where
  clock-is : last_scan q ≡ clock_after s now
  clock-is = scan.clock ∙ ap (λ c. max c now) kept.armed.clock

  each-waits : (i : ℕ) → times_in i (waiting_of q) ≡ once (expires (clock_after s now) (timer_of s i))
  each-waits i = scan.waiting i ∙ (ap (λ c. due_once (alarm_at p i) c) clock-is ∙ due-once (alarm_at p i) (clock_after s now) (timer_of s i).next (kept.armed.armed i))

  behind-scan : AllWait q (advanced s now) work
  behind-scan = record {
    armed = record {
      count = scan.callouts.count ∙ kept.armed.count;
      clock = clock-is;
      armed = λ i. ap alarm_due (scan.callouts.alarms i) ∙ kept.armed.armed i;
    };
    made = λ i. omega (arith, scan.callouts.made i, kept.made i);
    waiting = each-waits;
  }

  pub all-wait : (t : Timers) → t ≡ advanced s now → AllWait q t work
  all-wait t is = subst (λ x. AllWait q x work) (sym is) behind-scan

  pub count-is : k ≡ expirations s now
  count-is = scan.count ∙ counted (expires (clock_after s now)) idle s.timers (waiting_of q) refl each-waits

  module _ (r : PassesView) (t : Timers) (done : AreServed work q (advanced s now) r t) where
    -- what was served: its timer, how often its callout fired, and how often it was armed
    record IsDone (i : ℕ) : Type 0 where
      pub timer : timer_of t i ≡ ticked_timer (clock_after s now) (timer_of s i)
      pub fired : fired_at r i ≡ fired_at q i + once (expires (clock_after s now) (timer_of s i))
      pub made : made_at r i ≤ work + 1

    is-done : (i : ℕ) → IsServedOrWaits work q (advanced s now) r t i → IsDone i
    is-done i (waits w e is fired made) = absurd (let none : times_in i (waiting_of r) ≡ 0 = ap (times_in i) done.nothing in omega (arith, none, w))
    is-done i (served w is fired made) = record { timer = is; fired = fired; made = made }

    each : (i : ℕ) → IsDone i
    each i = is-done i (done.serving.each i)

    timers-are : t.timers ≡ map (ticked_timer (clock_after s now)) s.timers
    timers-are = same_lists t.timers (map (ticked_timer (clock_after s now)) s.timers) (done.serving.count ∙ sym (length-map s.timers (ticked_timer (clock_after s now)))) (λ i d low.
        let below : i < length s.timers = omega (arith, low, done.serving.count) in
        get_or_default t.timers i d idle low
        ∙ ((each i).timer
        ∙ sym (get_or-map (ticked_timer (clock_after s now)) s.timers i idle d below)))

    pub ticked-is : t ≡ ticked s now
    ticked-is = ap (λ c. record t { clock = c }) done.serving.clock ∙ ap (λ l. record (ticked s now) { timers = l }) timers-are

    pub each-fires : EachFires s (clock_after s now) now k p r
    each-fires = record {
      fired = fired;
      all = all ∙ ap (λ n. all_gos p.timers + n) (sym count-is);
      scans = done.serving.scans ∙ scan.scans;
    } where
      fired : (i : ℕ) → fired_at r i ≡ fired_at p i + once (expires (clock_after s now) (timer_of s i))
      fired i = (each i).fired ∙ ap (λ n. n + once (expires (clock_after s now) (timer_of s i))) (scan.callouts.fired i)

      count : length r.timers ≡ length s.timers
      count = done.serving.armed.count ∙ done.serving.count

      all : all_gos r.timers ≡ all_gos p.timers + expirations s now
      all = all_gos-more (expires (clock_after s now)) idle s.timers p.timers r.timers kept.armed.count count fired

-- just opened
no-timer : (n i : ℕ) → (timer_of (opening n) i).next ≡ None
no-timer zero i = refl
no-timer (suc n) zero = refl
no-timer (suc n) (suc i) = no-timer n i

pub opens : (n : ℕ) (p : PassesView) → IsNew n p → IsBetweenTicks p (opening n) 0
opens n p h = record {
  armed = record { count = h.count ∙ sym (length-replicate n idle); clock = h.clock; armed = λ i. ap alarm_due (h.alarms i) ∙ sym (no-timer n i) };
  made = λ i. omega (arith, h.made i);
  nothing = h.waiting;
}

pub opened : (n : ℕ) (p : PassesView) → IsNew n p → IsOpened n (record { alone = opening n; seen = p; work = 0 })
opened n p h = record { alone = refl; seen = h; none_fired = all_gos-none p.timers h.fired; work = refl }
