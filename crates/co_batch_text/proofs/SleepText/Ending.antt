-- The beginning and the end of the sleep queue of a text: its one actor's passes.
use Rattle.std.proofs.Common.{◌≡◌, ℕ, false, List, [], ◌∷◌, ◌++◌, length, map, refl, sym, ap, subst, ◌∙◌, arith}
use Rattle.std.specs.Prelude.{slice_index_or}
use Rattle.co_batch.specs.Batches.{Batch}
use Rattle.co_service.specs.Closing.{AreEnded, AreEndedCpus, ClosingView}
use Rattle.co_service.specs.Fresh.{AreNamed}
use Rattle.co_desk.specs.Params.{no_spec}
use Rattle.co_desk.specs.Services.{IsFree}
use Rattle.co_desk.specs.declared.params.Params.{Params}
use Rattle.co_single.specs.Alarms.{all_gos, scan_times, scan_times_of}
use Rattle.co_single.specs.Seen.{AreSingle, single_params}
use Rattle.co_single.proofs.Ended.{cpus_whole, timers_whole}
use Rattle.co_single.proofs.Opening.{is_new, length-replicate, new_free, new_single, rests_new}
use Rattle.co_sleepq.specs.Fresh.{QueueName, fresh_passes}
use Rattle.co_sleepq.specs.Params.{sleepers}
use Rattle.co_sleepq.specs.Views.{SleepPassesView}
use Rattle.co_batch_text.specs.Sleep.Clock.{clock_opening}
use Rattle.co_batch_text.specs.Ends.{IsEnd, all_counted, tick_times}
use Rattle.co_batch_text.specs.Sleep.Ends.{sleep_served}
use Rattle.co_batch_text.specs.Sleep.Matching.{AreObeyed}
use Rattle.co_batch_text.specs.Sleep.Running.{AreOpening}
use Rattle.co_batch_text.specs.declared.sleep.command.SleepCommand.{SleepCommand}

pub sleepers-are : (n : ℕ) (params : Params) → params ≡ single_params n → sleepers params ≡ n
sleepers-are n params are = ap (λ p. length p.specs) are ∙ length-replicate n no_spec

none-fired : {X : Type 0} (xs : List X) → all_gos (map (λ _. []) xs) ≡ 0
none-fired [] = refl
none-fired (x ∷ xs) = (let rest = none-fired xs in omega (arith, rest))

module _ (n : ℕ) (name : QueueName) (params : Params) (named : AreNamed name.service params) (are : params ≡ single_params n) where
  abbrev first : SleepPassesView
  first = fresh_passes name params 0

  pub opens : AreOpening n first
  opens =
      let new = is_new n name.service params named are in
      record {
        matched = record {
          quiet = record { single = new_single n name.service params named are; rest = rests_new n name.service params named are };
          none = new.waiting;
          queue = refl;
          clock = new.clock;
          alarms = new.alarms;
        };
        unmade = new.made;
      }

  pub free : IsFree false first.service 0
  free = new_free n name.service params named are

  pub unscanned : scan_times_of first.service ≡ []
  unscanned = (is_new n name.service params named are).scans

  pub unfired : all_gos first.service.timers ≡ 0
  unfired = none-fired name.service.timers

  pub ends : (b : Batch SleepCommand) (q : SleepPassesView) (closing : ClosingView) → b.count ≡ n → AreObeyed n b.commands first q → q.service.params ≡ params
      → AreEnded params (q.service ∷ []) closing.timers → AreEndedCpus params (q.service ∷ []) closing.cpus → IsEnd sleep_served b closing
  ends b q closing count done same timers cpus =
      let size : length params.specs ≡ n = sleepers-are n params are in
      let single = subst (λ m. AreSingle m q.service) (sym size) done.quiet.single in
      let ts : closing.timers ≡ q.service.timers = timers_whole params q.service single same closing.timers timers in
      let js : closing.cpus ≡ q.service.cpus = cpus_whole params q.service single same closing.cpus cpus in
      let fired = done.served.gos in
      let none = unfired in
      let sum : all_gos q.service.timers ≡ all_counted sleep_served n clock_opening b.commands = omega (arith, fired, none) in
      record {
        scans = ap (λ l. scan_times (slice_index_or l 0 [])) js ∙ (done.served.scans ∙ ap (λ l. l ++ tick_times sleep_served b.commands) unscanned);
        gos = ap all_gos ts ∙ (sum ∙ ap (λ m. all_counted sleep_served m clock_opening b.commands) (sym count));
      }
