-- What the texts of two commands say of each other.
use Rattle.std.specs.Prelude.{ℕ, ◌≤◌, List, length}
use Rattle.co_service.specs.Closing.{ClosingView}
use Rattle.co_top.specs.declared.command.Reading.TheVariants.{Steps, Check}
use Rattle.co_top.specs.declared.command.Serving.TheVariants.{Run}
use Rattle.co_top.specs.declared.status.Status.TheVariants.{Done}
use Rattle.co_top.specs.Commands.{legal_text}
use Rattle.co_top.specs.Headline.{Gives, Serves, limit_of}

-- what `steps` makes of a script is a report that `check` calls legal, where it is not too long for an input
abbrev pub ReportsOfStepsAreLegal : Type 0
ReportsOfStepsAreLegal = (bytes text : List ℕ) → Gives Steps bytes Done text → length text ≤ limit_of Check → Gives Check text Done legal_text

-- and so is what `run` makes of it
abbrev pub ReportsOfRunsAreLegal : Type 0
ReportsOfRunsAreLegal = (bytes text : List ℕ) (closing : ClosingView) → Serves Run bytes closing text → length text ≤ limit_of Check → Gives Check text Done legal_text
