-- A wakeup leaves what the sleep queue with a clock leaves, and is answered as it.
use Rattle.std.proofs.Common.{◌≡◌, ℕ, sym, ap, ◌∙◌, subst}
use Rattle.co_desk.specs.Views.{PassesView}
use Rattle.co_single.specs.Alarms.{alarm_at, last_scan, waiting_of}
use Rattle.co_sleepq.specs.declared.op.SleepOp.{SleepOp}
use Rattle.co_sleepq.specs.declared.op.SleepOp.TheVariants as op
use Rattle.co_sleepq.specs.declared.reply.SleepReply.{SleepReply}
use Rattle.co_sleepq.specs.Sleepers.{Sleepers}
use Rattle.co_sleepq.specs.Queue.{step}
use Rattle.co_sleepq.specs.History.{state}
use Rattle.co_sleepq.specs.Shared.{TellsReply}
use Rattle.co_sleepq.specs.Views.{SleepPassesView}
use Rattle.co_sleepq.proofs.Alone.{alone}
use Rattle.co_batch_text.specs.Sleep.Clock.{Clocked, Told, obey}
use Rattle.co_batch_text.specs.declared.sleep.command.SleepCommand.{SleepCommand}
use Rattle.co_batch_text.specs.declared.sleep.command.SleepCommand.TheVariants.{Wakeup, WakeupOne}
use Rattle.co_batch_text.specs.Sleep.Matching.{IsMatched, IsBetweenCalls}

-- a command is answered by the book's reply as the definition says, and leaves what it leaves. The timers stay
pub record IsTold (n : ℕ) (c : Clocked) (x : SleepCommand) (r : SleepReply) (p q : SleepPassesView) : Type 0 where
  pub matched : IsMatched n (obey n c x).0 q
  pub answer : Told r ≡ (obey n c x).1
  pub service : q.service ≡ p.service

module _ (n : ℕ) (c : Clocked) (o : SleepOp) (r : SleepReply) (p q : SleepPassesView) (m : IsMatched n c p) (t : TellsReply 1 p o r q) where
  -- the book is told, and the service stays
  pub book_told : IsMatched n (record c { queue = (step c.queue o).0 }) q × (r ≡ (step c.queue o).1) × (q.service ≡ p.service)
  book_told =
      let one = alone p q o r m.quiet.single.actor t in
      let out : step c.queue o ≡ (state q.seen, r) = ap (λ (s : Sleepers). step s o) (sym m.queue) ∙ one.outcome in
      let stays : q.service ≡ p.service = ap (λ (v : SleepPassesView). v.service) t.rest in (
        record {
          quiet = subst (IsBetweenCalls n) (sym stays) m.quiet;
          none = ap waiting_of stays ∙ m.none;
          queue = sym (ap (λ (x : Sleepers × SleepReply). x.0) out);
          clock = ap last_scan stays ∙ m.clock;
          alarms = λ i. ap (λ (v : PassesView). alarm_at v i) stays ∙ m.alarms i;
        },
        sym (ap (λ (x : Sleepers × SleepReply). x.1) out),
        stays,
      )

pub wakeup_done : (n : ℕ) (c : Clocked) (chan : ℕ) (r : SleepReply) (p q : SleepPassesView) → IsMatched n c p → TellsReply 1 p (op.Wakeup chan) r q → IsTold n c (Wakeup chan) r p q
wakeup_done n c chan r p q m t = let b = book_told n c (op.Wakeup chan) r p q m t in record { matched = b.0; answer = ap Told b.1; service = b.2 }

pub wakeup_one_done : (n : ℕ) (c : Clocked) (chan : ℕ) (r : SleepReply) (p q : SleepPassesView) → IsMatched n c p → TellsReply 1 p (op.WakeupOne chan) r q → IsTold n c (WakeupOne chan) r p q
wakeup_one_done n c chan r p q m t = let b = book_told n c (op.WakeupOne chan) r p q m t in record { matched = b.0; answer = ap Told b.1; service = b.2 }
