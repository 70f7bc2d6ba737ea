-- A command without a fault at either end is answered: each status that the headline allows then fits the input.
use Rattle.std.proofs.Common.{◌≡◌, ◌⊎◌, ℕ, ◌+◌, ◌<◌, List, ◌++◌, length, Option, Some, None, inl, inr, refl, sym, ap, subst, ◌∙◌, arith, length-append, append-nil}
use Rattle.std.specs.Prelude.{IfSome}
use Rattle.std.specs.Io.KnownBytes.{Consumes, IsAtEnd}
use Rattle.co_text.specs.Values.{Word}
use Rattle.co_check.specs.Verdict.{verdict}
use Rattle.co_check.specs.declared.verdict.Verdict.{Verdict}
use Rattle.co_check.specs.declared.verdict.Verdict.TheVariants.{Legal, Not}
use Rattle.co_service.specs.Closing.{ClosingView}
use Rattle.co_top.specs.declared.command.Command.{Command}
use Rattle.co_top.specs.declared.command.Command.TheVariants.{Read, Serve, Make}
use Rattle.co_top.specs.declared.command.Reading.{Reading}
use Rattle.co_top.specs.declared.command.Reading.TheVariants.{Steps, Check, Event}
use Rattle.co_top.specs.declared.command.Serving.{Serving}
use Rattle.co_top.specs.declared.command.Serving.TheVariants.{Run, Kq, Sleep, Itimer}
use Rattle.co_top.specs.declared.command.Making.{Making}
use Rattle.co_top.specs.declared.status.Status.{Status}
use Rattle.co_top.specs.declared.status.Status.TheVariants.{Done, BadScript, Usage, ReadFault, WriteFault, NoMemory, NotLegal}
use Rattle.co_top.specs.Commands.{command_of}
use Rattle.co_top.specs.Headline.{Gives, GivesServed, Serves, Refuses, IsJudged, Says, IsReadAnswered, IsServedAnswered, IsCommandAnswered, IsHeadline, IsComplete, limit_of, served_limit, plain, status_of, served_status, script_status, report_status, text_status, verdict_status, HasNoFault}
use Rattle.co_front.specs.Outside.{Outside, ReadsToEnd, Reads}
use Rattle.co_top.proofs.Accepted.{long_refused, report_refused, events_refused, kq_refused, sleep_refused, itimer_refused}

-- ---- what a source that tells its bytes had

-- read to its end, these bytes
whole : (content bytes : List ℕ) (left : Option (List ℕ)) → Consumes (Some content) left bytes → IsAtEnd left → content ≡ bytes
whole content bytes (Some rest) read ended = read ∙ ap (λ x. bytes ++ x) ended ∙ append-nil bytes
whole content bytes None read ended = absurd read

-- and one of which more than the limit was read is longer
longer : (limit : ℕ) (content bytes : List ℕ) (left : Option (List ℕ)) → Consumes (Some content) left bytes → limit < length bytes → limit < length content
longer limit content bytes (Some rest) read over = let e : length content ≡ length bytes + length rest = ap length read ∙ length-append bytes rest in omega arith
longer limit content bytes None read over = absurd read

-- too long an input comes to BadScript
over_limit : (reading : Reading) (content : List ℕ) → limit_of reading < length content → BadScript ≡ status_of reading content
over_limit Steps content long = sym (ap script_status (long_refused content long))
over_limit Check content long = sym (ap report_status (report_refused content long))
over_limit Event content long = sym (ap text_status (events_refused content long))

served_over : (serving : Serving) (content : List ℕ) → served_limit serving < length content → BadScript ≡ served_status serving content
served_over Run content long = sym (ap script_status (long_refused content long))
served_over Kq content long = sym (ap text_status (kq_refused content long))
served_over Sleep content long = sym (ap text_status (sleep_refused content long))
served_over Itimer content long = sym (ap text_status (itimer_refused content long))

-- ---- the status is that of the bytes read

of_verdict : (found : Verdict) (status : Status) (text : List ℕ) → IsJudged found status text → verdict_status found ≡ status
of_verdict Legal status text judged = sym judged.0
of_verdict (Not number cause) status text judged = sym judged.0

of_bytes : (reading : Reading) (bytes text : List ℕ) (status : Status) → Gives reading bytes status text → status ≡ status_of reading bytes
of_bytes Steps bytes text Done given = sym (ap script_status given.read)
of_bytes Steps bytes text BadScript given = sym (ap script_status given.refused)
of_bytes Steps bytes text Usage given = absurd given
of_bytes Steps bytes text ReadFault given = absurd given
of_bytes Steps bytes text WriteFault given = absurd given
of_bytes Steps bytes text NoMemory given = absurd given
of_bytes Steps bytes text NotLegal given = absurd given
of_bytes Check bytes text Done given = sym (ap report_status given.read ∙ of_verdict (verdict given.report) Done text given.judged)
of_bytes Check bytes text BadScript given = sym (ap report_status given.refused)
of_bytes Check bytes text NotLegal given = sym (ap report_status given.read ∙ of_verdict (verdict given.report) NotLegal text given.judged)
of_bytes Check bytes text Usage given = absurd given
of_bytes Check bytes text ReadFault given = absurd given
of_bytes Check bytes text WriteFault given = absurd given
of_bytes Check bytes text NoMemory given = absurd given
of_bytes Event bytes text Done given = sym (ap text_status given)
of_bytes Event bytes text BadScript given = sym (ap text_status given.refused)
of_bytes Event bytes text NotLegal given = absurd given
of_bytes Event bytes text Usage given = absurd given
of_bytes Event bytes text ReadFault given = absurd given
of_bytes Event bytes text WriteFault given = absurd given
of_bytes Event bytes text NoMemory given = absurd given

done_of_bytes : (serving : Serving) (bytes text : List ℕ) (closing : ClosingView) → Serves serving bytes closing text → Done ≡ served_status serving bytes
done_of_bytes Run bytes text closing given = sym (ap script_status given.read)
done_of_bytes Kq bytes text closing given = sym (ap text_status given.text_is)
done_of_bytes Sleep bytes text closing given = sym (ap text_status given.text_is)
done_of_bytes Itimer bytes text closing given = sym (ap text_status given.text_is)

refused_of_bytes : (serving : Serving) (bytes text : List ℕ) → Refuses serving bytes text → BadScript ≡ served_status serving bytes
refused_of_bytes Run bytes text given = sym (ap script_status given.refused)
refused_of_bytes Kq bytes text given = sym (ap text_status given.refused)
refused_of_bytes Sleep bytes text given = sym (ap text_status given.refused)
refused_of_bytes Itimer bytes text given = sym (ap text_status given.refused)

served_of_bytes : (serving : Serving) (bytes text : List ℕ) (status : Status) (closing : Option ClosingView) → GivesServed serving bytes status closing text → status ≡ served_status serving bytes
served_of_bytes serving bytes text Done (Some closing) given = done_of_bytes serving bytes text closing given
served_of_bytes serving bytes text Done None given = absurd given
served_of_bytes serving bytes text BadScript None given = refused_of_bytes serving bytes text given
served_of_bytes serving bytes text BadScript (Some closing) given = absurd given
served_of_bytes serving bytes text Usage closing given = absurd given
served_of_bytes serving bytes text ReadFault closing given = absurd given
served_of_bytes serving bytes text WriteFault closing given = absurd given
served_of_bytes serving bytes text NoMemory closing given = absurd given
served_of_bytes serving bytes text NotLegal closing given = absurd given

-- an input is answered as what was read of it, where `answer` is what an input comes to, and too long ones come to BadScript
module _ (before after : Outside) (limit : ℕ) (answer : List ℕ → Status) (over : (content : List ℕ) → limit < length content → BadScript ≡ answer content) (bytes content : List ℕ) where
  of_all : (status : Status) → before.input.left ≡ Some content → ReadsToEnd before.input after.input bytes → status ≡ answer bytes → status ≡ answer content
  of_all status is all given =
      let read : Consumes (Some content) after.input.left bytes = subst (λ (x : Option (List ℕ)). Consumes x after.input.left bytes) is all.read in
      given ∙ ap answer (sym (whole content bytes after.input.left read all.ended))

  refused : before.input.left ≡ Some content → Reads before.input after.input limit bytes → BadScript ≡ answer bytes → BadScript ≡ answer content
  refused is (inl all) given = of_all BadScript is all given
  refused is (inr more) given =
      let read : Consumes (Some content) after.input.left bytes = subst (λ (x : Option (List ℕ)). Consumes x after.input.left bytes) is more.read in
      over content (longer limit content bytes after.input.left read more.over)

-- what holds of each content that a source may tell
module _ (answer : List ℕ → Status) where
  told : (left : Option (List ℕ)) (status : Status) → ((content : List ℕ) → left ≡ Some content → status ≡ answer content) →
      IfSome left (λ content. (status ≡ answer content) ⊎ (status ≡ NoMemory))
  told None status each = tt
  told (Some content) status each = inl (each content refl)

  lacking : (left : Option (List ℕ)) → IfSome left (λ content. (NoMemory ≡ answer content) ⊎ (NoMemory ≡ NoMemory))
  lacking None = tt
  lacking (Some content) = inr refl

module _ (before after : Outside) where
  read_answered : (reading : Reading) (status : Status) → Says before after (Some (Read reading)) status None → HasNoFault before after (Read reading) → IsReadAnswered reading before status
  read_answered reading Done says sound = record {
    told = told (status_of reading) before.input.left Done (λ content is. of_all before after (limit_of reading) (status_of reading) (over_limit reading) says.1.0 content Done is says.1.1 (of_bytes reading says.1.0 says.0 Done says.1.2));
    untold = tt;
  }
  read_answered reading BadScript says sound = record {
    told = told (status_of reading) before.input.left BadScript (λ content is. refused before after (limit_of reading) (status_of reading) (over_limit reading) says.1.0 content is says.1.1 (of_bytes reading says.1.0 says.0 BadScript says.1.2));
    untold = tt;
  }
  read_answered Check NotLegal says sound = record {
    told = told (status_of Check) before.input.left NotLegal (λ content is. of_all before after (limit_of Check) (status_of Check) (over_limit Check) says.1.0 content NotLegal is says.1.1 (of_bytes Check says.1.0 says.0 NotLegal says.1.2));
    untold = tt;
  }
  read_answered Steps NotLegal says sound = absurd says.1.2
  read_answered Steps Usage says sound = absurd says.1.2
  read_answered Check Usage says sound = absurd says.1.2
  read_answered Event NotLegal says sound = absurd says.1.2
  read_answered Event Usage says sound = absurd says.1.2
  read_answered reading ReadFault says sound = absurd (sound.reads says.0)
  read_answered reading WriteFault says sound = absurd (sound.writes says.0 says.1 says.2 says.3 says.4.cause)
  read_answered reading NoMemory says sound = record { told = lacking (status_of reading) before.input.left; untold = tt }

  make_answered : (making : Making) (status : Status) → Says before after (Some (Make making)) status None → HasNoFault before after (Make making) → (status ≡ Done) ⊎ (status ≡ NoMemory)
  make_answered making Done says sound = inl refl
  make_answered making BadScript says sound = absurd says.1
  make_answered making NotLegal says sound = absurd says.1
  make_answered making Usage says sound = absurd says.1
  make_answered making ReadFault says sound = absurd says.0
  make_answered making WriteFault says sound = absurd (sound.writes says.0 says.1 says.2 says.3 says.4.cause)
  make_answered making NoMemory says sound = inr refl

  served_answered : (serving : Serving) (status : Status) (closing : Option ClosingView) → Says before after (Some (Serve serving)) status closing → HasNoFault before after (Serve serving) → IsServedAnswered serving before status
  served_answered serving Done closing says sound = record {
    told = told (served_status serving) before.input.left Done (λ content is. of_all before after (served_limit serving) (served_status serving) (served_over serving) says.1.0 content Done is says.1.1 (served_of_bytes serving says.1.0 says.0 Done closing says.1.2));
    untold = tt;
  }
  served_answered serving BadScript closing says sound = record {
    told = told (served_status serving) before.input.left BadScript (λ content is. refused before after (served_limit serving) (served_status serving) (served_over serving) says.1.0 content is says.1.1 (served_of_bytes serving says.1.0 says.0 BadScript closing says.1.2));
    untold = tt;
  }
  served_answered serving NotLegal closing says sound = absurd says.1.2
  served_answered serving Usage closing says sound = absurd says.1.2
  served_answered serving ReadFault None says sound = absurd (sound.reads says.0)
  served_answered serving ReadFault (Some closing) says sound = absurd says
  served_answered serving WriteFault None says sound = absurd (sound.writes says.0 says.1 says.2 says.3 says.4.cause)
  served_answered serving WriteFault (Some closing) says sound = absurd says
  served_answered serving NoMemory None says sound = record { told = lacking (served_status serving) before.input.left; untold = tt }
  served_answered serving NoMemory (Some closing) says sound = absurd says

  answered : (command : Option Command) (status : Status) → Says before after command status None → IfSome command (λ command. HasNoFault before after command → IsCommandAnswered command before status)
  answered None status says = tt
  answered (Some (Read reading)) status says = λ sound. read_answered reading status says sound
  answered (Some (Serve serving)) status says = λ sound. served_answered serving status None says sound
  answered (Some (Make making)) status says = λ sound. make_answered making status says sound

pub complete : (words : List Word) (before after : Outside) (status : Status) → IsHeadline words before after (plain status) → IsComplete words before after status
complete words before after status says = answered before after (command_of words) status says

pub served_complete : (words : List Word) (before after : Outside) (serving : Serving) (status : Status) (closing : Option ClosingView) → command_of words ≡ Some (Serve serving) → Says before after (Some (Serve serving)) status closing → IsComplete words before after status
served_complete words before after serving status closing is says =
    subst (λ (asked : Option Command). IfSome asked (λ command. HasNoFault before after command → IsCommandAnswered command before status)) (sym is) (λ sound. served_answered before after serving status closing says sound)
