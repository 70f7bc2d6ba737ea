-- A call on one timer leaves what the sleep queue with a clock leaves.
use Rattle.std.proofs.Common.{◌≡◌, ℕ, ◌<◌, ◌^◌, ◌==◌, Bool, true, false, List, sym, ap, ◌∙◌, subst, arith}
use Rattle.std.specs.Prelude.{if◌then◌else◌, pos}
use Rattle.std.specs.declared.option.Option.{Option}
use Rattle.std.specs.declared.option.Option.TheVariants.{Some, None}
use Rattle.std.proofs.lemmas.Bool.Decides.{nat_tests}
use Rattle.co_object.specs.declared.note.Note.{Note}
use Rattle.co_object.specs.declared.op.CallOp.TheVariants.{Plain}
use Rattle.co_object.specs.declared.op.PlainOp.TheVariants.{Reset, Stop}
use Rattle.co_object.specs.declared.reply.Reply.{Reply}
use Rattle.co_desk.specs.Call.{IsCalled}
use Rattle.co_single.specs.Acts.{OthersStay, TimeStays}
use Rattle.co_single.specs.Alarms.{alarm_at, but, callout_count, made_at, waiting_of}
use Rattle.co_sbt.specs.Time.{sat_add, from_ticks}
use Rattle.co_sleepq.specs.declared.reply.SleepReply.{SleepReply}
use Rattle.co_sleepq.specs.declared.reply.SleepReply.TheVariants.{Began, Already, Worn, Woke, One, Nobody, TimedOut, Late, Asleep, Was}
use Rattle.co_sleepq.specs.History.{state}
use Rattle.co_sleepq.specs.Timers.{Calls, hz, reset_for}
use Rattle.co_sleepq.specs.Views.{SleepPassesView}
use Rattle.co_batch_text.specs.Sleep.Clock.{SleepAlarm, Clocked, alarms_after, with_alarm}
use Rattle.co_batch_text.proofs.SleepText.Played.{arms, disarms}
use Rattle.co_batch_text.proofs.SleepText.Serving.{Is, apart, same, which}
use Rattle.co_batch_text.specs.Sleep.Matching.{IsMatched, IsBetweenCalls, as_alarm}

module _ (n : ℕ) (c : Clocked) (p q : SleepPassesView) (m : IsMatched n c p) (seen : q.seen ≡ p.seen) (i : ℕ) where
  alarms-are : (a : Option SleepAlarm) → alarm_at q.service i ≡ as_alarm a → OthersStay p.service i q.service → (j : ℕ) → Is j i → alarm_at q.service j ≡ as_alarm (with_alarm i a c.alarms j)
  alarms-are a here others j (same e) =
      let is : (j == i) ≡ true = grind (arith, nat_tests) in
      ap (alarm_at q.service) e ∙ (here ∙ sym (ap (λ (b : Bool). as_alarm (if b then a else c.alarms j)) is))
  alarms-are a here others j (apart non) =
      let is : (j == i) ≡ false = grind (arith, nat_tests) in
      others.alarms j non ∙ (m.alarms j ∙ sym (ap (λ (b : Bool). as_alarm (if b then a else c.alarms j)) is))

  moved : (a : Option SleepAlarm) → IsBetweenCalls n q.service → alarm_at q.service i ≡ as_alarm a → OthersStay p.service i q.service → TimeStays p.service q.service → waiting_of q.service ≡ but i (waiting_of p.service) → IsMatched n (record c { alarms = with_alarm i a c.alarms }) q
  moved a quiet here others time waits = record {
    quiet = quiet;
    none = waits ∙ ap (but i) m.none;
    queue = ap state seen ∙ m.queue;
    clock = time.clock ∙ m.clock;
    alarms = λ j. alarms-are a here others j (which j i);
  }

  pub arm_done : (act due s : ℕ) (reply : Reply) (notes : List Note) → i < callout_count p.service → made_at p.service i < 2 ^ 62 → IsCalled p.service act i (Plain (Reset due 0 0 s None)) reply notes q.service → IsMatched n (record c { alarms = with_alarm i (Some (record { due = due; s = s })) c.alarms }) q
  arm_done act due s reply notes low fresh called =
      let h = arms n p.service q.service m.quiet act i due s reply notes low fresh called in
      moved (Some (record { due = due; s = s })) h.1 h.0.alarm h.0.others h.0.time h.0.waiting

  pub stop_done : (act : ℕ) (reply : Reply) (notes : List Note) → i < callout_count p.service → IsCalled p.service act i (Plain Stop) reply notes q.service → IsMatched n (record c { alarms = with_alarm i None c.alarms }) q
  stop_done act reply notes low called =
      let h = disarms n p.service q.service m.quiet act i reply notes low called in
      moved None h.1 h.0.alarm h.0.others h.0.time h.0.waiting

-- the timer is asked nothing
still : (n : ℕ) (c : Clocked) (p q : SleepPassesView) (act i : ℕ) (tm : Option Reply) → IsMatched n c p → Calls p act i None tm q → IsMatched n c q
still n c p q act i None m is = subst (IsMatched n c) (sym is) m
still n c p q act i (Some r) m is = absurd is

-- what a sleep asks of its timer
pub asked : (n : ℕ) (c : Clocked) (p q : SleepPassesView) (act i timo : ℕ) (r : SleepReply) (tm : Option Reply) → IsMatched n c p → i < callout_count p.service → made_at p.service i < 2 ^ 62 → Calls p act i (reset_for r timo c.now) tm q → IsMatched n (record c { alarms = alarms_after r i timo c.now c.alarms }) q
asked n c p q act i timo (Began s) tm m low fresh is = go (timo == 0) tm is where
  go : (b : Bool) (t : Option Reply) → Calls p act i (if b then None else Some (Plain (Reset (sat_add c.now (from_ticks (pos timo) hz)) 0 0 s None))) t q → IsMatched n (record c { alarms = if b then c.alarms else with_alarm i (Some (record { due = sat_add c.now (from_ticks (pos timo) hz); s = s })) c.alarms }) q
  go true t h = still n c p q act i t m h
  go false None h = absurd h
  go false (Some reply) h = arm_done n c p q m (ap (λ (v : SleepPassesView). v.seen) h.2) i act (sat_add c.now (from_ticks (pos timo) hz)) s reply h.0 low fresh h.1
asked n c p q act i timo Already tm m low fresh is = still n c p q act i tm m is
asked n c p q act i timo Worn tm m low fresh is = still n c p q act i tm m is
asked n c p q act i timo (Woke k) tm m low fresh is = still n c p q act i tm m is
asked n c p q act i timo (One k) tm m low fresh is = still n c p q act i tm m is
asked n c p q act i timo Nobody tm m low fresh is = still n c p q act i tm m is
asked n c p q act i timo (TimedOut k) tm m low fresh is = still n c p q act i tm m is
asked n c p q act i timo Late tm m low fresh is = still n c p q act i tm m is
asked n c p q act i timo Asleep tm m low fresh is = still n c p q act i tm m is
asked n c p q act i timo (Was e) tm m low fresh is = still n c p q act i tm m is
