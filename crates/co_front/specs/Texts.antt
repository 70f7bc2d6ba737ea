-- What the programs say of an input that they refuse.
use Rattle.std.specs.Prelude.{ℕ, List, [], ◌∷◌, ◌++◌, codes, decimal}
use Rattle.co_text.specs.Fallible.{Refusal}
use Rattle.co_text.specs.Values.{Word}
use Rattle.co_text.specs.declared.cause.Cause.{Cause}
use Rattle.co_text.specs.declared.cause.Cause.TheVariants as cause

-- a text and a line feed
abbrev pub line : List ℕ → List ℕ
line text = text ++ 10 ∷ []

abbrev pub cause_word : Cause → Word
cause_word cause.Size = codes "size"
cause_word cause.Cut = codes "cut"
cause_word cause.Byte = codes "byte"
cause_word cause.Version = codes "version"
cause_word cause.Word = codes "word"
cause_word cause.Order = codes "order"
cause_word cause.Form = codes "form"
cause_word cause.Number = codes "number"
cause_word cause.Kind = codes "kind"
cause_word cause.Falls = codes "falls"
cause_word cause.Many = codes "many"
cause_word cause.Timer = codes "timer"
cause_word cause.Note = codes "note"

-- `line N: cause`
abbrev pub fault_text : ℕ → Word → List ℕ
fault_text number word = line (codes "line " ++ decimal number ++ codes ": " ++ word)

-- of an input that is no script, or no report
abbrev pub refusal_text : Refusal → List ℕ
refusal_text refusal = fault_text refusal.line (cause_word refusal.cause)
