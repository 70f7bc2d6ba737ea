-- What a line states, once its form is read.
use Rattle.std.specs.Prelude.{Bool, List, Result, Ok}
use Rattle.co_text.specs.Fallible.{◌>>=◌, ◌>>◌, unless}
use Rattle.co_text.specs.Taking.{lone}
use Rattle.co_text.specs.Values.{Word}
use Rattle.co_text.specs.declared.Cause.{Cause}
use Rattle.co_text.specs.declared.Cause.TheVariants as cause

module _ {C : Type 0} (fits : C → Bool) where
  -- the command, where its numbers are in their ranges
  abbrev pub in_range : C → Result C Cause
  in_range c = unless (fits c) cause.Number >> Ok c

  -- the same of what a form gives
  abbrev pub stated : Result C Cause → Result C Cause
  stated form = form >>= in_range

-- one value alone, as a command
abbrev pub lone_of : {X C : Type 0} → (Word → Result X Cause) → (X → C) → List Word → Result C Cause
lone_of value make ws = lone value ws >>= λ x. Ok (make x)
