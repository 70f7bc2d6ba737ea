-- A whole tick.
use Rattle.std.proofs.Common.{◌≡◌, ℕ, ◌+◌, ◌≤◌, Bool, List, [], ◌∷◌, ◌++◌, map, max, sym, ap, ◌∙◌, arith, append-nil}
use Rattle.std.specs.List.{count_by, filter_map, range_with_len}
use Rattle.co_single.specs.Alarms.{alarm_at, all_gos, last_scan, due_once, made_at, scan_times_of, times_in, waiting_of}
use Rattle.co_single.proofs.LawsHold.{none_counted, none_past}
use Rattle.co_sleepq.specs.declared.outs.Ticked.{Ticked}
use Rattle.co_sleepq.specs.declared.reply.SleepReply.{SleepReply}
use Rattle.co_sleepq.specs.Sleepers.{Sleepers}
use Rattle.co_sleepq.specs.History.{state}
use Rattle.co_sleepq.specs.Ticks.{IsTicked, is_late, is_out}
use Rattle.co_sleepq.specs.Views.{SleepPassesView}
use Rattle.co_batch_text.specs.Sleep.Clock.{Clocked, alarm_in, tick_answered, time_outs}
use Rattle.co_batch_text.specs.Sleep.Clock as clock
use Rattle.co_batch_text.proofs.SleepText.Played.{book_after, idles, numbers, replies, scans}
use Rattle.co_batch_text.proofs.SleepText.Serving.{arg_at, arg_of, map-alike, map-same, serves}
use Rattle.co_batch_text.specs.Sleep.Matching.{IsMatched, as_alarm}
use Rattle.co_batch_text.proofs.SleepText.Ticking.{all-counted, count-replies, due-most, dues, dues-map, dues-once, left-is}
use Rattle.co_batch_text.proofs.SleepText.Timeouts.{any-order}

-- a tick is answered as the definition says, and leaves what it leaves
pub record IsTickDone (n : ℕ) (c : Clocked) (time : ℕ) (out : Ticked) (p q : SleepPassesView) : Type 0 where
  pub matched : IsMatched n (tick_answered n c time).0 q
  pub answer : clock.Ticked out.out out.late ≡ (tick_answered n c time).1
  pub scans : scan_times_of q.service ≡ scan_times_of p.service ++ time ∷ []
  pub gos : all_gos q.service.timers ≡ all_gos p.service.timers + (out.out + out.late)
  pub made : (i : ℕ) → made_at q.service i ≡ made_at p.service i

module _ (n : ℕ) (c : Clocked) (act time : ℕ) (out : Ticked) (p q : SleepPassesView) (m : IsMatched n c p) (t : IsTicked 1 p act time out q) where
  pub tick_done : IsTickDone n c time out p q
  tick_done =
      let k = t.ticking in
      let now : ℕ = max c.now time in
      let scan = scans n p.service k.scanned m.quiet act time k.scan m.none k.is_scan in
      let mid : SleepPassesView = record p { service = k.scanned } in
      let served = serves n act k.fired mid t.last scan.1 k.are_fired in
      let book = book_after n act k.fired mid t.last scan.1 k.are_fired in
      let over = idles n t.last act q book.1 t.over in
      let ws = served.0 in
      let r = served.1 in
      let seen : q.seen ≡ t.last.seen = ap (λ (v : SleepPassesView). v.seen) t.over.rest in
      let wait : waiting_of k.scanned ≡ ws = r.waiting ∙ (ap (λ (l : List ℕ). ws ++ l) over.0.nothing ∙ append-nil ws) in
      let at : last_scan k.scanned ≡ now = scan.0.clock ∙ ap (λ (x : ℕ). max x time) m.clock in
      let often : (i : ℕ) → times_in i ws ≡ due_once (as_alarm (c.alarms i)) now = λ i.
      ap (times_in i) (sym wait) ∙ (scan.0.waiting i ∙ (ap (λ a. due_once a (last_scan k.scanned)) (m.alarms i) ∙ ap (due_once (as_alarm (c.alarms i))) at)) in
      let once : (i : ℕ) → times_in i ws ≤ 1 = λ i. (let o = often i in let d = due-most (as_alarm (c.alarms i)) now in omega (arith, o, d)) in
      let alarms : (i : ℕ) → alarm_at k.scanned i ≡ as_alarm (c.alarms i) = λ i. scan.0.callouts.alarms i ∙ m.alarms i in
      let args : numbers k.fired ≡ map (λ i. arg_of (as_alarm (c.alarms i))) ws = r.args_are once ∙ map-same (arg_at k.scanned) (λ i. arg_of (as_alarm (c.alarms i))) ws (λ i h. ap arg_of (alarms i)) in
      let past : (j : ℕ) → 0 + n ≤ j → due_once (as_alarm (c.alarms j)) now ≡ 0 = λ j h.
      ap (λ a. due_once a now) (sym (m.alarms j) ∙ none_past p.service j (let s = m.quiet.single.timers in omega (arith, s, h))) in
      let due : List ℕ = filter_map (λ i. alarm_in (c.alarms i) now) (range_with_len 0 n) in
      let order : (x : ℕ) → times_in x (numbers k.fired) ≡ times_in x due = λ x.
      ap (times_in x) args ∙ (map-alike (λ i. arg_of (as_alarm (c.alarms i))) ws (dues c.alarms now (range_with_len 0 n)) (λ i. often i ∙ sym (dues-once c.alarms now n 0 i past (omega arith))) x ∙ ap (times_in x) (sym (dues-map c.alarms now (range_with_len 0 n)))) in
      let alike = any-order (numbers k.fired) due c.queue order in
      let told : time_outs c.queue (numbers k.fired) ≡ (state t.last.seen, replies k.fired) = ap (λ (s : Sleepers). time_outs s (numbers k.fired)) (sym m.queue) ∙ book.0 in
      let counted : (test : SleepReply → Bool) → count_by (λ f. test f.1) k.fired ≡ count_by test (time_outs c.queue due).1 = λ test.
      count-replies test k.fired ∙ (ap (λ (x : Sleepers × List SleepReply). count_by test x.1) (sym told) ∙ alike.counts test) in
      let outs : out.out ≡ count_by is_out (time_outs c.queue due).1 = k.counts.out_is ∙ counted is_out in
      let lates : out.late ≡ count_by is_late (time_outs c.queue due).1 = k.counts.late_is ∙ counted is_late in
      let sum = all-counted (numbers k.fired) c.queue in
      let sum_outs = alike.counts is_out in
      let sum_lates = alike.counts is_late in
      let gos = none_counted t.last.service q.service over.0.callouts in
      let gos_scan = none_counted p.service k.scanned scan.0.callouts in
      let gos_served = r.gos in
      let many = r.many in
      record {
        matched = record {
          quiet = over.1;
          none = over.0.waiting;
          queue = ap state seen ∙ (ap (λ (x : Sleepers × List SleepReply). x.0) (sym told) ∙ alike.queue);
          clock = over.0.time.clock ∙ (r.clock ∙ at);
          alarms = λ i. left-is (c.alarms i) now (alarm_at q.service i)
              (λ h. over.0.callouts.alarms i ∙ (r.stay i (often i ∙ h) ∙ alarms i))
              (λ h. over.0.callouts.alarms i ∙ r.gone i (let o = often i in omega (arith, o, h)));
        };
        answer = ap (λ (x : ℕ). clock.Ticked x out.late) outs ∙ ap (λ (x : ℕ). clock.Ticked (count_by is_out (time_outs c.queue due).1) x) lates;
        scans = over.0.time.scans ∙ (r.scans ∙ scan.0.scans);
        gos = omega (arith, gos, gos_scan, gos_served, many, sum, sum_outs, sum_lates, outs, lates);
        made = λ i. over.0.callouts.made i ∙ (r.made i ∙ scan.0.callouts.made i);
      }
