-- The lines of worked texts.
use Rattle.std.proofs.Common.{ℕ, List, [], ◌∷◌, ◌++◌, Result, Err}
use Rattle.std.specs.Prelude.{codes}
use Prim.Native.String.{String}
use Rattle.co_text.specs.Fallible.{Refusal}
use Rattle.co_text.specs.declared.Cause.{Cause}

abbrev pub line : String → List ℕ
line s = codes s ++ 10 ∷ []

abbrev pub refused : {A : Type 0} → ℕ → Cause → Result A Refusal
refused k c = Err (record { line = k; cause = c })
