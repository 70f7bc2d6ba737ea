-- What scripts and their texts keep.
use Rattle.std.specs.Prelude.{◌≡◌, ◌↔◌, ℕ, true, List, Ok}
use Rattle.co_program.specs.declared.Script.{Script}
use Rattle.co_program.specs.Scripts.{IsScript}
use Rattle.co_script.specs.Reading.{script_of}
use Rattle.co_script.specs.Canonical.{canonical}
use Rattle.co_script.specs.Fits.{fits, IsReadable}

-- the canonical text of a script that fits is read as this script
abbrev pub CanonicalTextReadsBack : Type 0
CanonicalTextReadsBack = (s : Script) → fits s ≡ true → script_of (canonical s) ≡ Ok s

-- a script fits exactly where some text stands for it
abbrev pub FitsExactly : Type 0
FitsExactly = (s : Script) → (fits s ≡ true) ↔ IsReadable s

-- what a text stands for fits
abbrev pub ReadScriptsFit : Type 0
ReadScriptsFit = (bytes : List ℕ) (s : Script) → script_of bytes ≡ Ok s → fits s ≡ true

-- what fits has all that the service needs
abbrev pub FittingScriptsAreAccepted : Type 0
FittingScriptsAreAccepted = (s : Script) → fits s ≡ true → IsScript s
