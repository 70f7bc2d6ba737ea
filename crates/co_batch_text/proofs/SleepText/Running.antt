-- One command more.
use Rattle.std.proofs.Common.{◌≡◌, ℕ, ◌+◌, ◌<◌, ◌^◌, List, ◌++◌, length, get_or, refl, ap, ◌∙◌, arith}
use Rattle.co_text.specs.Lines.{line_text}
use Rattle.co_batch.proofs.Answering.{one_line}
use Rattle.co_single.specs.Alarms.{made_at}
use Rattle.co_sleepq.specs.Views.{SleepPassesView}
use Rattle.co_batch_text.specs.Sleep.Answers.{answer_words}
use Rattle.co_batch_text.specs.Sleep.Clock.{Clocked, clock_opening, obey}
use Rattle.co_batch_text.specs.Sleep.Ends.{sleep_served}
use Rattle.co_batch_text.specs.Sleep.Matching.{IsMatched, IsObeyed, IsObeying, now_after}
use Rattle.co_batch_text.specs.declared.sleep.command.SleepCommand.{SleepCommand}
use Rattle.co_batch_text.specs.declared.sleep.command.SleepCommand.TheVariants.{Sleep, Wakeup, WakeupOne, Awake, Tick}
use Rattle.co_batch_text.proofs.Running.{begins as way-begins, more as way-more}

-- the clock of the definition
clock-is : (n : ℕ) (c : Clocked) (x : SleepCommand) → (obey n c x).0.now ≡ now_after c.now x
clock-is n c (Sleep i chan timo) = refl
clock-is n c (Wakeup chan) = refl
clock-is n c (WakeupOne chan) = refl
clock-is n c (Awake i) = refl
clock-is n c (Tick t) = refl

-- before the first
pub begins : (n : ℕ) (xs : List SleepCommand) (p : SleepPassesView) (page : List ℕ) → IsMatched n clock_opening p → ((j : ℕ) → made_at p.service j ≡ 0) → IsObeying n xs 0 0 p p page page
begins n xs p page m none = record { c = clock_opening; matched = m; time = refl; made = λ j. (let e = none j in omega (arith, e)); way = way-begins sleep_served n clock_opening p.service page xs }

module _ (n : ℕ) (xs : List SleepCommand) (i now : ℕ) (p q : SleepPassesView) (page written : List ℕ) (way : IsObeying n xs i now p q page written) where
  pub few : length xs < 2 ^ 62 → i < length xs → (j : ℕ) → made_at q.service j < 2 ^ 62
  few short inside j = (let m = way.made j in omega (arith, m, short, inside))

  module _ (x d : SleepCommand) (inside : i < length xs) (is : x ≡ get_or xs i d) (r : SleepPassesView) (then : List ℕ) (done : IsObeyed n way.c x q r) (told : then ≡ written ++ line_text (answer_words (obey n way.c x).1)) where
    pub more : IsObeying n xs (i + 1) (now_after now x) p r page then
    more =
        let c = way.c in
        let u = (obey n c x).0 in
        record {
          c = u;
          matched = done.matched;
          time = clock-is n c x ∙ ap (λ t. now_after t x) way.time;
          made = λ j. (let a = done.made j in let b = way.made j in omega (arith, a, b));
          way = way-more sleep_served n clock_opening p.service page xs i c q.service written way.way x d inside is u r.service then done.served
              (one_line written then (answer_words (obey n c x).1) told);
        }
