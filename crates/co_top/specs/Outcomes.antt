-- What an answered text of commands comes to: its answers and the closing of the service, or why it is refused.
use Rattle.std.specs.Prelude.{◌≡◌, ℕ, List, Option, Some, None, Result, Ok, Err}
use Rattle.co_text.specs.declared.cause.ScriptFault.{ScriptFault}
use Rattle.co_text.specs.declared.cause.ScriptFault.TheVariants as fault
use Rattle.co_front.specs.Texts.{refusal_text}
use Rattle.co_service.specs.Closing.{ClosingView}
use Rattle.co_top.specs.declared.status.Status.{Status}
use Rattle.co_top.specs.declared.status.Status.TheVariants.{Done, BadScript}

abbrev pub IsOutcome : Result (List ℕ × ClosingView) ScriptFault → Status → Option ClosingView → List ℕ → Type 0
IsOutcome (Ok out) status closing text = (status ≡ Done) × (closing ≡ Some out.1) × (text ≡ out.0)
IsOutcome (Err (fault.Bad line cause)) status closing text = (status ≡ BadScript) × (closing ≡ None) × (text ≡ refusal_text (record { line = line; cause = cause }))
IsOutcome (Err fault.NoMemory) status closing text = ⊥
