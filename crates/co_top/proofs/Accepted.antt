-- Which inputs are accepted, by their length: a longer one than the limit is refused, so one that is accepted was read to its end.
use Rattle.std.proofs.Common.{◌≡◌, ℕ, ◌<◌, ◌≤◌, Bool, true, false, List, length, refl, ap, subst, sym, Ok, Err, Result, arith}
use Rattle.std.specs.Prelude.{nat_le}
use Rattle.std.proofs.lemmas.Bool.Decides.{nat_tests}
use Rattle.co_program.specs.declared.script.Script.{Script}
use Rattle.co_text.specs.Fallible.{Refusal, ◌>>=◌, ◌>>◌, unless, at_line}
use Rattle.co_text.specs.Lines.{lines_of}
use Rattle.co_text.specs.declared.cause.Cause.TheVariants.{Size}
use Rattle.co_batch.specs.Batches.{Batch}
use Rattle.co_batch.specs.Reading.{batch_of, lines_batch}
use Rattle.co_batch.specs.Language.{Language}
use Rattle.co_batch.specs.Answers.{Answering, answer_text, batch_text}
use Rattle.co_batch.proofs.Fit.{bind-ok}
use Rattle.co_event_text.specs.Commands.{event_language}
use Rattle.co_event_text.specs.Answers.{event_text, answering as event_answering}
use Rattle.co_batch_text.specs.Kq.Commands.{kq_language}
use Rattle.co_batch_text.specs.Kq.Answers.{kq_text, answering as kq_answering}
use Rattle.co_batch_text.specs.Sleep.Commands.{sleep_language}
use Rattle.co_batch_text.specs.Sleep.Answers.{sleep_text, answering as sleep_answering}
use Rattle.co_batch_text.specs.Itimer.Commands.{timer_language as itimer_language}
use Rattle.co_batch_text.specs.Itimer.Answers.{itimer_text, answering as itimer_answering}
use Rattle.co_script.specs.Reading.{script_of, lines_script}
use Rattle.co_report.specs.Reading.{report_read, lines_report}
use Rattle.co_report.specs.declared.line.Report.{Report}
use Rattle.co_top.specs.Headline.{Serves, limit_of, served_limit}
use Rattle.co_top.specs.declared.command.Reading.TheVariants.{Steps, Check, Event}
use Rattle.co_top.specs.declared.command.Serving.{Serving}
use Rattle.co_top.specs.declared.command.Serving.TheVariants.{Run, Kq, Sleep, Itimer}
use Rattle.co_service.specs.Closing.{ClosingView}

abbrev pub too_long : Refusal
too_long = record { line = 0; cause = Size }

module _ {X : Type 0} (limit : ℕ) (bytes : List ℕ) (rest : Result X Refusal) where
  -- what is read where the length is within the limit, or is not
  abbrev within : Bool → Result X Refusal
  within short = at_line 0 (unless short Size) >> rest

  short_length : nat_le (length bytes) limit ≡ true → length bytes ≤ limit
  short_length h = grind (arith, nat_tests)

  long_length : limit < length bytes → nat_le (length bytes) limit ≡ false
  long_length h = grind (arith, nat_tests)

  short : (x : X) (test : Bool) → nat_le (length bytes) limit ≡ test → within test ≡ Ok x → length bytes ≤ limit
  short x true test read = short_length test
  short x false test read = cc

  long : limit < length bytes → within (nat_le (length bytes) limit) ≡ Err too_long
  long over = subst (λ (test : Bool). within test ≡ Err too_long) (sym (long_length over)) refl

pub accepted_short : (bytes : List ℕ) (s : Script) → script_of bytes ≡ Ok s → length bytes ≤ limit_of Steps
unfolding script_of
accepted_short bytes s is = short (limit_of Steps) bytes (lines_script (lines_of bytes)) s (nat_le (length bytes) (limit_of Steps)) refl is

pub long_refused : (bytes : List ℕ) → limit_of Steps < length bytes → script_of bytes ≡ Err too_long
unfolding script_of
long_refused bytes over = long (limit_of Steps) bytes (lines_script (lines_of bytes)) over

pub report_short : (bytes : List ℕ) (r : Report) → report_read bytes ≡ Ok r → length bytes ≤ limit_of Check
unfolding report_read
report_short bytes r is = short (limit_of Check) bytes (lines_report (lines_of bytes)) r (nat_le (length bytes) (limit_of Check)) refl is

pub report_refused : (bytes : List ℕ) → limit_of Check < length bytes → report_read bytes ≡ Err too_long
unfolding report_read
report_refused bytes over = long (limit_of Check) bytes (lines_report (lines_of bytes)) over

-- a text of commands, in a language
module _ {C S : Type 0} (language : Language C) (answering : Answering C S) where
  abbrev answered : Batch C → Result (List ℕ) Refusal
  answered b = Ok (batch_text answering b)

  batch_short : (bytes : List ℕ) (b : Batch C) → batch_of language bytes ≡ Ok b → length bytes ≤ 16777216
  unfolding batch_of
  batch_short bytes b is = short 16777216 bytes (lines_batch language (lines_of bytes)) b (nat_le (length bytes) 16777216) refl is

  batch_refused : (bytes : List ℕ) → 16777216 < length bytes → batch_of language bytes ≡ Err too_long
  unfolding batch_of
  batch_refused bytes over = long 16777216 bytes (lines_batch language (lines_of bytes)) over

  answered_short : (bytes text : List ℕ) → answer_text answering language bytes ≡ Ok text → length bytes ≤ 16777216
  answered_short bytes text is = let read = bind-ok (batch_of language bytes) answered text is in batch_short bytes read.0 read.1

  answered_refused : (bytes : List ℕ) → 16777216 < length bytes → answer_text answering language bytes ≡ Err too_long
  answered_refused bytes over = ap (λ r. r >>= answered) (batch_refused bytes over)

pub events_short : (bytes text : List ℕ) → event_text bytes ≡ Ok text → length bytes ≤ limit_of Event
events_short bytes text is = answered_short event_language event_answering bytes text is

pub events_refused : (bytes : List ℕ) → limit_of Event < length bytes → event_text bytes ≡ Err too_long
events_refused bytes over = answered_refused event_language event_answering bytes over

pub kq_refused : (bytes : List ℕ) → served_limit Kq < length bytes → kq_text bytes ≡ Err too_long
kq_refused bytes over = answered_refused kq_language kq_answering bytes over

pub sleep_refused : (bytes : List ℕ) → served_limit Sleep < length bytes → sleep_text bytes ≡ Err too_long
sleep_refused bytes over = answered_refused sleep_language sleep_answering bytes over

pub itimer_refused : (bytes : List ℕ) → served_limit Itimer < length bytes → itimer_text bytes ≡ Err too_long
itimer_refused bytes over = answered_refused itimer_language itimer_answering bytes over

pub served_short : (serving : Serving) (bytes : List ℕ) (closing : ClosingView) (text : List ℕ) → Serves serving bytes closing text → length bytes ≤ served_limit serving
served_short Run bytes closing text given = accepted_short bytes given.script given.read
served_short Kq bytes closing text given = answered_short kq_language kq_answering bytes text given.text_is
served_short Sleep bytes closing text given = answered_short sleep_language sleep_answering bytes text given.text_is
served_short Itimer bytes closing text given = answered_short itimer_language itimer_answering bytes text given.text_is
