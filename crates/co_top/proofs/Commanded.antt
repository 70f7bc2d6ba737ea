-- What a command says by its status: what was read, what was made of it, and what was written.
use Rattle.std.proofs.Common.{◌≡◌, ℕ, ◌<◌, ◌≤◌, Bool, true, false, List, length, Option, Some, None, inl, inr, refl, sym, subst, ◌∙◌, arith}
use Rattle.std.specs.Prelude.{◌↔◌, IsTrue}
use Rattle.std.specs.Io.KnownBytes.{Consumes, IsAtEnd}
use Rattle.co_service.specs.Closing.{ClosingView}
use Rattle.co_top.specs.declared.command.Command.{Command}
use Rattle.co_top.specs.declared.command.Command.TheVariants.{Read, Serve, Make}
use Rattle.co_top.specs.declared.command.Reading.{Reading}
use Rattle.co_top.specs.declared.command.Reading.TheVariants.{Steps, Check, Event}
use Rattle.co_top.specs.declared.command.Serving.{Serving}
use Rattle.co_top.specs.declared.command.Making.{Making}
use Rattle.co_top.specs.declared.status.Status.{Status}
use Rattle.co_top.specs.declared.status.Status.TheVariants.{Done, BadScript, Usage, ReadFault, WriteFault, NoMemory, NotLegal}
use Rattle.co_top.specs.Commands.{usage_text}
use Rattle.co_top.specs.Headline.{Gives, GivesServed, HasRead, Says, IsMadeOf, limit_of, served_limit}
use Rattle.co_front.specs.Outside.{Outside, Reads, ReadsToEnd, Writes, Tells}
use Rattle.co_top.proofs.Accepted.{accepted_short, report_short, events_short, served_short}

-- the bytes that a command read of the source, and whether there were more than its limit
pub record WasRead (before after : Outside) (limit : ℕ) (bytes : List ℕ) (over : Bool) : Type 0 where
  pub read : Consumes before.input.left after.input.left bytes
  pub end : over ≡ false → IsAtEnd after.input.left
  pub longer : IsTrue over ↔ (limit < length bytes)

-- what is said where the words are no command: the source stays unread, and the usage line is written or a front of it
pub unknown : (before after : Outside) (result : Status) (text : List ℕ) → after.input ≡ before.input → text ≡ usage_text →
    Tells WriteFault Usage text before.output after.output result → Says before after None result None
unknown before after result text unread is (inl whole) = subst (λ (x : Status). Says before after None x None) (sym whole.0) (text, (unread, is), whole.1)
unknown before after result text unread is (inr front) = subst (λ (x : Status). Says before after None x None) (sym front.0) (Usage, None, text, (unread, is), front.1)

-- ---- commands that read

module _ (before after : Outside) (bytes : List ℕ) (limit : ℕ) where
  within : (over : Bool) → WasRead before after limit bytes over → length bytes ≤ limit → ReadsToEnd before.input after.input bytes
  within false has short = record { read = has.read; ended = has.end refl }
  within true has short = let long : limit < length bytes = has.longer.0 refl in absurd (omega arith)

  either : (over : Bool) → WasRead before after limit bytes over → Reads before.input after.input limit bytes
  either false has = inl (record { read = has.read; ended = has.end refl })
  either true has = inr (record { read = has.read; over = has.longer.0 refl })

module _ (before after : Outside) (bytes : List ℕ) where
  has_read : (reading : Reading) (over : Bool) (status : Status) (text : List ℕ) → WasRead before after (limit_of reading) bytes over → Gives reading bytes status text → HasRead before after (limit_of reading) status bytes
  has_read Steps over Done text has given = within before after bytes (limit_of Steps) over has (accepted_short bytes given.script given.read)
  has_read Steps over BadScript text has given = either before after bytes (limit_of Steps) over has
  has_read Steps over Usage text has given = absurd given
  has_read Steps over ReadFault text has given = absurd given
  has_read Steps over WriteFault text has given = absurd given
  has_read Steps over NoMemory text has given = absurd given
  has_read Steps over NotLegal text has given = absurd given
  has_read Check over Done text has given = within before after bytes (limit_of Check) over has (report_short bytes given.report given.read)
  has_read Check over BadScript text has given = either before after bytes (limit_of Check) over has
  has_read Check over NotLegal text has given = within before after bytes (limit_of Check) over has (report_short bytes given.report given.read)
  has_read Check over Usage text has given = absurd given
  has_read Check over ReadFault text has given = absurd given
  has_read Check over WriteFault text has given = absurd given
  has_read Check over NoMemory text has given = absurd given
  has_read Event over Done text has given = within before after bytes (limit_of Event) over has (events_short bytes text given)
  has_read Event over BadScript text has given = either before after bytes (limit_of Event) over has
  has_read Event over NotLegal text has given = absurd given
  has_read Event over Usage text has given = absurd given
  has_read Event over ReadFault text has given = absurd given
  has_read Event over WriteFault text has given = absurd given
  has_read Event over NoMemory text has given = absurd given

  written : (reading : Reading) (over : Bool) (status : Status) (text : List ℕ) → WasRead before after (limit_of reading) bytes over → Gives reading bytes status text →
      Writes before.output after.output text → Says before after (Some (Read reading)) status None
  written reading over Done text has given wrote = (text, (bytes, has_read reading over Done text has given, given), wrote)
  written reading over BadScript text has given wrote = (text, (bytes, has_read reading over BadScript text has given, given), wrote)
  written reading over NotLegal text has given wrote = (text, (bytes, has_read reading over NotLegal text has given, given), wrote)
  written reading over Usage text has given wrote = (text, (bytes, has_read reading over Usage text has given, given), wrote)
  written Steps over ReadFault text has given wrote = absurd given
  written Steps over WriteFault text has given wrote = absurd given
  written Steps over NoMemory text has given wrote = absurd given
  written Check over ReadFault text has given wrote = absurd given
  written Check over WriteFault text has given wrote = absurd given
  written Check over NoMemory text has given wrote = absurd given
  written Event over ReadFault text has given wrote = absurd given
  written Event over WriteFault text has given wrote = absurd given
  written Event over NoMemory text has given wrote = absurd given

  pub said : (reading : Reading) (over : Bool) (status result : Status) (text : List ℕ) → WasRead before after (limit_of reading) bytes over → Gives reading bytes status text →
      Tells WriteFault status text before.output after.output result → Says before after (Some (Read reading)) result None
  said reading over status result text has given (inl whole) =
      subst (λ (x : Status). Says before after (Some (Read reading)) x None) (sym whole.0) (written reading over status text has given whole.1)
  said reading over status result text has given (inr front) =
      subst (λ (x : Status). Says before after (Some (Read reading)) x None) (sym front.0) (status, None, text, (bytes, has_read reading over status text has given, given), front.1)

-- ---- commands on a running service

module _ (before after : Outside) (serving : Serving) (bytes : List ℕ) (over : Bool) (has : WasRead before after (served_limit serving) bytes over) where
  served_read : (status : Status) (closing : Option ClosingView) (text : List ℕ) → GivesServed serving bytes status closing text → HasRead before after (served_limit serving) status bytes
  served_read Done (Some closing) text given = within before after bytes (served_limit serving) over has (served_short serving bytes closing text given)
  served_read Done None text given = absurd given
  served_read BadScript closing text given = either before after bytes (served_limit serving) over has
  served_read Usage closing text given = absurd given
  served_read ReadFault closing text given = absurd given
  served_read WriteFault closing text given = absurd given
  served_read NoMemory closing text given = absurd given
  served_read NotLegal closing text given = absurd given

  served_written : (status : Status) (closing : Option ClosingView) (text : List ℕ) → GivesServed serving bytes status closing text → Writes before.output after.output text → Says before after (Some (Serve serving)) status closing
  served_written Done closing text given wrote = (text, (bytes, served_read Done closing text given, given), wrote)
  served_written BadScript closing text given wrote = (text, (bytes, served_read BadScript closing text given, given), wrote)
  served_written Usage closing text given wrote = absurd given
  served_written ReadFault closing text given wrote = absurd given
  served_written WriteFault closing text given wrote = absurd given
  served_written NoMemory closing text given wrote = absurd given
  served_written NotLegal closing text given wrote = absurd given

  never_faulty : (status : Status) (closing : Option ClosingView) (text : List ℕ) → GivesServed serving bytes status closing text → status ≡ WriteFault → ⊥
  never_faulty status closing text given is = subst (λ (x : Status). GivesServed serving bytes x closing text) is given

  -- the closing is kept where the text was written, and lost where the sink failed in it
  pub served_said : (status result : Status) (closing rest : Option ClosingView) (text : List ℕ) → GivesServed serving bytes status closing text → Tells WriteFault status text before.output after.output result →
      ((result ≡ WriteFault → ⊥) → rest ≡ closing) → (result ≡ WriteFault → rest ≡ None) → Says before after (Some (Serve serving)) result rest
  served_said status result closing rest text given (inl whole) kept lost =
      let same : rest ≡ closing = kept (λ is. never_faulty status closing text given (sym whole.0 ∙ is)) in
      subst (λ (x : Status). Says before after (Some (Serve serving)) x rest) (sym whole.0) (subst (λ (x : Option ClosingView). Says before after (Some (Serve serving)) status x) (sym same) (served_written status closing text given whole.1))
  served_said status result closing rest text given (inr front) kept lost =
      subst (λ (x : Status). Says before after (Some (Serve serving)) x rest) (sym front.0) (subst (λ (x : Option ClosingView). Says before after (Some (Serve serving)) WriteFault x) (sym (lost front.0)) (status, closing, text, (bytes, served_read status closing text given, given), front.1))

-- what is said of a command on a running service is said of the words that are it
pub served_words : (before after : Outside) (asked : Option Command) (serving : Serving) (result : Status) (closing : Option ClosingView) → asked ≡ Some (Serve serving) → Says before after (Some (Serve serving)) result closing → Says before after asked result closing
served_words before after asked serving result closing is says = subst (λ (x : Option Command). Says before after x result closing) (sym is) says

-- ---- commands that don't

pub made : (before after : Outside) (making : Making) (result : Status) (text : List ℕ) → after.input ≡ before.input → IsMadeOf making text →
    Tells WriteFault Done text before.output after.output result → Says before after (Some (Make making)) result None
made before after making result text unread is (inl whole) = subst (λ (x : Status). Says before after (Some (Make making)) x None) (sym whole.0) (text, (unread, is), whole.1)
made before after making result text unread is (inr front) = subst (λ (x : Status). Says before after (Some (Make making)) x None) (sym front.0) (Done, None, text, (unread, is), front.1)

-- what is said of a command is said of the words that are it
pub of_words : (before after : Outside) (asked : Option Command) (found command : Command) (result : Status) → Some found ≡ asked → found ≡ command →
    Says before after (Some command) result None → Says before after asked result None
of_words before after asked found command result is same says =
    subst (λ (x : Option Command). Says before after x result None) is (subst (λ (x : Command). Says before after (Some x) result None) (sym same) says)
