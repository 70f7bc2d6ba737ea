-- One process's timer and one callout change.
use Rattle.std.proofs.Common.{◌≡◌, ◌≢◌, ℕ, ◌+◌, ◌<◌, ◌≤◌, length, ap, sym, subst, ◌∙◌, arith, inl, inr, get_or-set_same, get_or-set_other}
use Rattle.std.specs.declared.option.Option.{Option}
use Rattle.std.specs.declared.option.Option.TheVariants.{Some, None}
use Rattle.std.proofs.lemmas.Bool.{cases_eq}
use Rattle.std.proofs.lemmas.List.{length-set}
use Rattle.co_desk.specs.Views.{PassesView}
use Rattle.co_single.specs.Acts.{OthersStay, TimeStays, NothingFires}
use Rattle.co_single.specs.Alarms.{alarm_at, fired_at, made_at, waiting_of, but}
use Rattle.co_itimer.proofs.Counting.{all_gos-same}
use Rattle.co_itimer.specs.Itimers.{AreArmed, alarm_due}
use Rattle.co_itimer.specs.Serving.{IsSetTo}
use Rattle.co_itimer.specs.Timers.{Timers, idle, timer_of, with_timer}
use Rattle.co_itimer.specs.declared.timer.Timer.{Timer}

pub timer-same : (s : Timers) (i : ℕ) (t : Timer) → i < length s.timers → timer_of (with_timer s i t) i ≡ t
timer-same s i t h = get_or-set_same s.timers i t idle h

pub timer-other : (s : Timers) (i j : ℕ) (t : Timer) → j ≢ i → timer_of (with_timer s i t) j ≡ timer_of s j
timer-other s i j t h = get_or-set_other s.timers i j t idle h

-- callout i is armed for a time, or for none, and the others stay
pub record IsSet (p : PassesView) (i : ℕ) (next : Option ℕ) (q : PassesView) : Type 0 where
  pub due : alarm_due (alarm_at q i) ≡ next
  pub made : made_at q i ≤ made_at p i + 1
  pub fired : fired_at q i ≡ fired_at p i
  pub others : OthersStay p i q
  pub time : TimeStays p q
  pub waiting : waiting_of q ≡ but i (waiting_of p)

pub is-set : (p : PassesView) (i : ℕ) (next : Option ℕ) (q : PassesView) → IsSetTo p i next q → IsSet p i next q
is-set p i None q h = record { due = ap alarm_due h.alarm; made = omega (arith, h.made); fired = h.fired; others = h.others; time = h.time; waiting = h.waiting }
is-set p i (Some due) q h = record { due = ap alarm_due h.alarm; made = omega (arith, h.made); fired = h.fired; others = h.others; time = h.time; waiting = h.waiting }

-- each callout stands as its process's timer does
pub are-armed : (p q : PassesView) (i : ℕ) (next : Option ℕ) (s : Timers) (t : Timer) → i < length s.timers → t.next ≡ next → alarm_due (alarm_at q i) ≡ next → OthersStay p i q → TimeStays p q → AreArmed p s → AreArmed q (with_timer s i t)
are-armed p q i next s t below is due others time a = record {
  count = others.count ∙ (a.count ∙ sym (length-set s.timers i t));
  clock = time.clock ∙ a.clock;
  armed = λ j. elim (cases_eq j i) [
    | inl same ↦ subst (λ k. alarm_due (alarm_at q k) ≡ (timer_of (with_timer s i t) k).next) (sym same) (due ∙ (sym is ∙ sym (ap (λ x. x.next) (timer-same s i t below))))
    | inr differs ↦ ap alarm_due (others.alarms j differs) ∙ (a.armed j ∙ sym (ap (λ x. x.next) (timer-other s i j t differs)))
  ];
}

pub none-fires : (p q : PassesView) (i : ℕ) (next : Option ℕ) → IsSetTo p i next q → NothingFires p q
none-fires p q i next h =
    let e = is-set p i next q h in
    let each : (j : ℕ) → fired_at q j ≡ fired_at p j = λ j. elim (cases_eq j i) [
      | inl same ↦ subst (λ k. fired_at q k ≡ fired_at p k) (sym same) e.fired
      | inr differs ↦ e.others.fired j differs
    ] in
    record { fired = each; all = all_gos-same p.timers q.timers e.others.count each; scans = e.time.scans }
