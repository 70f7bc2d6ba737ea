-- Over ends that never fail no text within the room fails.
use Rattle.std.proofs.Common.{◌≡◌, ℕ, ◌<◌, ◌≤◌, List, length, Option, Some, None, inl, inr, refl, ap, subst, arith}
use Rattle.std.specs.Prelude.{IfSome}
use Rattle.co_io.specs.Counts.{Rose}
use Rattle.co_service.specs.Closing.{ClosingView}
use Rattle.co_text.specs.Values.{Word}
use Rattle.co_top.specs.Commands.{command_of, usage_text}
use Rattle.co_top.specs.Headline.{ComesTo, HasNoFault, IsCommandAnswered, IsComplete, IsHeadline, Says}
use Rattle.co_front.specs.Outside.{Outside, outside, WriteFails}
use Rattle.co_top.specs.declared.command.Command.{Command}
use Rattle.co_top.specs.declared.status.Finish.{Finish}
use Rattle.co_top.specs.declared.status.Status.{Status}
use Rattle.co_top.specs.declared.status.Status.TheVariants.{Done, BadScript, Usage, ReadFault, WriteFault, NoMemory, NotLegal}
use Rattle.co_cases.specs.WithinRoom.{IsAnsweredWithin, IsUsageWithin}

-- a count that stays 0 has not risen
stays : ¬ Rose 0 0
stays (inl more) = absurd (omega (arith, more))
stays (inr last) = absurd (omega (arith, last))

module _ (left left_after held held_after : Option (List ℕ)) (room : ℕ) (room_after : Option ℕ) (idle idle_after : ℕ) where
  abbrev before : Outside
  before = outside left 0 held (Some room) 0 idle

  abbrev after : Outside
  after = outside left_after 0 held_after room_after 0 idle_after

  writes : (text : List ℕ) → length text ≤ room → ¬ WriteFails before.output after.output text
  writes text fits (inl rose) = stays rose
  writes text fits (inr stalled) = let short : room < length text = stalled.1 in absurd (omega (arith, fits, short))

  answered_by : (asked : Option Command) (result : Status) → IfSome asked (λ command. HasNoFault before after command → IsCommandAnswered command before result) →
      IfSome asked (λ command. ((status : Status) (closing : Option ClosingView) (text : List ℕ) → ComesTo before after (Some command) status closing text → length text ≤ room) → IsCommandAnswered command before result)
  answered_by None result complete = tt
  answered_by (Some command) result complete = λ fits. complete (record { reads = stays; writes = λ status closing text comes. writes text (fits status closing text comes) })

  pub answered : (words : List Word) (result : Status) → IsComplete words before after result → IsAnsweredWithin room words before after result
  answered words result complete = answered_by (command_of words) result complete

  usage_fits : (status : Status) (closing : Option ClosingView) (text : List ℕ) → length usage_text ≤ room → ComesTo before after None status closing text → length text ≤ room
  usage_fits Usage None text fits comes = let same : length text ≡ length usage_text = ap length comes.1 in omega (arith, fits, same)
  usage_fits Usage (Some closing) text fits comes = absurd comes
  usage_fits Done closing text fits comes = absurd comes
  usage_fits BadScript closing text fits comes = absurd comes
  usage_fits ReadFault closing text fits comes = absurd comes
  usage_fits WriteFault closing text fits comes = absurd comes
  usage_fits NoMemory closing text fits comes = absurd comes
  usage_fits NotLegal closing text fits comes = absurd comes

  usage_by : (result : Status) (closing : Option ClosingView) → Says before after None result closing → length usage_text ≤ room → result ≡ Usage
  usage_by Usage closing says fits = refl
  usage_by Done closing says fits = absurd says.1
  usage_by BadScript closing says fits = absurd says.1
  usage_by NotLegal closing says fits = absurd says.1
  usage_by ReadFault None says fits = absurd says.0
  usage_by ReadFault (Some closing) says fits = absurd says
  usage_by NoMemory None says fits = absurd says.0
  usage_by NoMemory (Some closing) says fits = absurd says
  usage_by WriteFault None says fits = absurd (writes says.2 (usage_fits says.0 says.1 says.2 fits says.3) says.4.cause)
  usage_by WriteFault (Some closing) says fits = absurd says

  pub usage : (words : List Word) (finish : Finish) → IsHeadline words before after finish → IsUsageWithin room words finish.status
  usage words finish says none fits = usage_by finish.status finish.closing (subst (λ (asked : Option Command). Says before after asked finish.status finish.closing) none says) fits
