-- What is asked of a callout that may be here, each as a word of its own for rewriting under it.
use Rattle.std.proofs.Common.{ℕ, Bool}
use Rattle.std.specs.Prelude.{is_some}
use Rattle.std.specs.Option.{option_and_then}
use Rattle.std.specs.declared.option.Option.{Option}
use Rattle.co_object.specs.declared.alone.Alone.{Alone}
use Rattle.co_object.specs.declared.state.Arming.{Arming}
use Rattle.co_object.specs.Stand.{is_idle, off}
use Rattle.co_wheel.specs.Callouts.{is_so, due_in}

abbrev pub direct_of : Option Alone → Bool
direct_of o = is_so (λ a. a.spec.direct) o

abbrev pub idle_of : Option Alone → Bool
idle_of o = is_so (λ a. is_idle a.state.run) o

abbrev pub armed_of : Option Alone → Bool
armed_of o = is_so (λ a. is_some a.state.armed) o

abbrev pub off_of_callout : Option Alone → Option ℕ
off_of_callout o = option_and_then (λ a. off a.state) o

abbrev pub arming_of_callout : Option Alone → Option Arming
arming_of_callout o = option_and_then (λ a. a.state.armed) o

abbrev pub due_of : ℕ → Option Alone → Option ℕ
due_of cpu o = option_and_then (λ a. due_in cpu a.state) o
