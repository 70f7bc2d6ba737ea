-- Each command by its lemma.
use Rattle.std.proofs.Common.{◌≡◌, ◌<◌, ℕ, Bool, true, false, ◌&&◌, refl, sym, subst, arith}
use Rattle.std.specs.Prelude.{nat_lt}
use Rattle.std.proofs.lemmas.Bool.Decides.{nat_tests}
use Rattle.co_batch_text.specs.Sleep.Commands.{fits}
use Rattle.co_sleepq.specs.Params.{sleepers}
use Rattle.co_sleepq.specs.Shared.{TellsReply}
use Rattle.co_sleepq.specs.Ticks.{IsTicked}
use Rattle.co_sleepq.specs.Timers.{IsAwake, IsSlept}
use Rattle.co_sleepq.specs.declared.op.SleepOp.TheVariants as op
use Rattle.co_batch_text.specs.Sleep.Clock.{Told, Ticked, obey}
use Rattle.co_batch_text.specs.Sleep.Matching.{IsObeyed}
use Rattle.co_batch_text.specs.declared.sleep.command.SleepCommand.{SleepCommand}
use Rattle.co_batch_text.specs.declared.sleep.command.SleepCommand.TheVariants.{Sleep, Awake}
use Rattle.co_batch_text.proofs.SleepText.Obeying.{awake_done, sleep_done, tick_obeyed, wakeup_obeyed, wakeup_one_obeyed}
use Rattle.co_batch_text.proofs.sleep.answers.obey.Goals as goal

awake-below : (n i : ℕ) → fits n (Awake i) ≡ true → i < n
awake-below n i h = grind (arith, nat_tests)

first-of : (a b : Bool) → (a && b) ≡ true → a ≡ true
first-of true b h = refl
first-of false b h = cc

sleep-below : (n i chan timo : ℕ) → fits n (Sleep i chan timo) ≡ true → i < n
sleep-below n i chan timo h = (let low : nat_lt i n ≡ true = first-of (nat_lt i n) _ h in grind (arith, nat_tests))

pub returns-in-Wakeup-clause-obeyed : goal.returns-in-Wakeup-clause-obeyed
returns-in-Wakeup-clause-obeyed g c = λ clocked m now.
    subst (λ (x : SleepCommand). IsObeyed (sleepers c.args.queue.now) clocked x c.args.cpu.now c.wakeup.new.passes × (Told c.wakeup.result ≡ (obey (sleepers c.args.queue.now) clocked x).1)) (sym c.in-Wakeup.is)
    (wakeup_obeyed (sleepers c.args.queue.now) clocked c.args.cpu.now c.wakeup.new.passes m c.in-Wakeup.chan c.wakeup.result (subst (λ n. TellsReply n c.args.cpu.now (op.Wakeup c.in-Wakeup.chan) c.wakeup.result c.wakeup.new.passes) c.requires.alone c.wakeup.ensures.told))

pub returns-in-WakeupOne-clause-obeyed : goal.returns-in-WakeupOne-clause-obeyed
returns-in-WakeupOne-clause-obeyed g c = λ clocked m now.
    subst (λ (x : SleepCommand). IsObeyed (sleepers c.args.queue.now) clocked x c.args.cpu.now c.wakeup_one.new.passes × (Told c.wakeup_one.result ≡ (obey (sleepers c.args.queue.now) clocked x).1)) (sym c.in-WakeupOne.is)
    (wakeup_one_obeyed (sleepers c.args.queue.now) clocked c.args.cpu.now c.wakeup_one.new.passes m c.in-WakeupOne.chan c.wakeup_one.result (subst (λ n. TellsReply n c.args.cpu.now (op.WakeupOne c.in-WakeupOne.chan) c.wakeup_one.result c.wakeup_one.new.passes) c.requires.alone c.wakeup_one.ensures.told))

pub returns-in-Tick-clause-obeyed : goal.returns-in-Tick-clause-obeyed
returns-in-Tick-clause-obeyed g c = λ clocked m now.
    subst (λ (x : SleepCommand). IsObeyed (sleepers c.args.queue.now) clocked x c.args.cpu.now c.tick.new.passes × (Ticked c.tick.result.out c.tick.result.late ≡ (obey (sleepers c.args.queue.now) clocked x).1)) (sym c.in-Tick.is)
    (tick_obeyed (sleepers c.args.queue.now) clocked c.args.cpu.now c.tick.new.passes m 0 c.in-Tick.time c.tick.result (subst (λ n. IsTicked n c.args.cpu.now 0 c.in-Tick.time c.tick.result c.tick.new.passes) c.requires.alone c.tick.ensures.ticked))

pub returns-in-Awake-clause-obeyed : goal.returns-in-Awake-clause-obeyed
returns-in-Awake-clause-obeyed g c = λ clocked m now.
    subst (λ (x : SleepCommand). IsObeyed (sleepers c.args.queue.now) clocked x c.args.cpu.now c.awake.new.passes × (Told c.awake.result.reply ≡ (obey (sleepers c.args.queue.now) clocked x).1)) (sym c.in-Awake.is)
    (awake_done (sleepers c.args.queue.now) clocked c.args.cpu.now c.awake.new.passes m 0 c.in-Awake.i c.awake.result (let s = m.quiet.single.timers in let low = awake-below (sleepers c.args.queue.now) c.in-Awake.i (subst (λ (x : SleepCommand). fits (sleepers c.args.queue.now) x ≡ true) c.in-Awake.is c.requires.fits) in omega (arith, s, low)) (subst (λ n. IsAwake n c.args.cpu.now 0 c.in-Awake.i c.awake.result c.awake.new.passes) c.requires.alone c.awake.ensures.awake))

pub returns-in-Sleep-clause-obeyed : goal.returns-in-Sleep-clause-obeyed
returns-in-Sleep-clause-obeyed g c = λ clocked m now.
    subst (λ (x : SleepCommand). IsObeyed (sleepers c.args.queue.now) clocked x c.args.cpu.now c.sleep-made.new.passes × (Told c.sleep-made.result.reply ≡ (obey (sleepers c.args.queue.now) clocked x).1)) (sym c.in-Sleep.is)
    (sleep_done (sleepers c.args.queue.now) clocked c.args.cpu.now c.sleep-made.new.passes m 0 c.in-Sleep.i c.in-Sleep.chan c.in-Sleep.timo c.sleep-made.result (let s = m.quiet.single.timers in let low = sleep-below (sleepers c.args.queue.now) c.in-Sleep.i c.in-Sleep.chan c.in-Sleep.timo (subst (λ (x : SleepCommand). fits (sleepers c.args.queue.now) x ≡ true) c.in-Sleep.is c.requires.fits) in omega (arith, s, low)) c.requires.made (subst (λ t. IsSlept 1 c.args.cpu.now 0 c.in-Sleep.i c.in-Sleep.chan c.in-Sleep.timo t c.sleep-made.result c.sleep-made.new.passes) (sym now) (subst (λ n. IsSlept n c.args.cpu.now 0 c.in-Sleep.i c.in-Sleep.chan c.in-Sleep.timo c.args.now c.sleep-made.result c.sleep-made.new.passes) c.requires.alone c.sleep-made.ensures.slept)))
