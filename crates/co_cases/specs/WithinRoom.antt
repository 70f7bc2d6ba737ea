-- What a call over ends that never fail comes to.
use Rattle.std.specs.Prelude.{◌≡◌, ℕ, ◌≤◌, List, length, Option, Some, None, IfSome}
use Rattle.co_service.specs.Closing.{ClosingView}
use Rattle.co_text.specs.Values.{Word}
use Rattle.co_top.specs.Commands.{command_of, usage_text}
use Rattle.co_top.specs.Headline.{ComesTo, IsCommandAnswered}
use Rattle.co_front.specs.Outside.{Outside}
use Rattle.co_top.specs.declared.status.Status.{Status}
use Rattle.co_top.specs.declared.status.Status.TheVariants.{Usage}

-- a command is answered, where there is room for each text that it may come to
abbrev pub IsAnsweredWithin : ℕ → List Word → Outside → Outside → Status → Type 0
IsAnsweredWithin room words before after result = IfSome (command_of words) (λ command.
    ((status : Status) (closing : Option ClosingView) (text : List ℕ) → ComesTo before after (Some command) status closing text → length text ≤ room) → IsCommandAnswered command before result)

-- where the words are no command and there is room for the usage line, it is written
abbrev pub IsUsageWithin : ℕ → List Word → Status → Type 0
IsUsageWithin room words result = command_of words ≡ None → length usage_text ≤ room → result ≡ Usage
