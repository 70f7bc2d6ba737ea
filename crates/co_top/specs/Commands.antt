-- The words that are a command, and the texts that the program itself writes.
use Rattle.std.specs.Prelude.{◌≡◌, ℕ, ◌^◌, Bool, true, false, List, [], ◌∷◌, Option, Some, None, Result, Ok, Err, codes, nat_lt, if◌then◌else◌}
use Rattle.co_text.specs.Values.{Word, is_word, number}
use Rattle.co_text.specs.declared.cause.Cause.{Cause}
use Rattle.co_front.specs.Texts.{line}
use Rattle.co_check.specs.declared.verdict.Unfit.{Unfit}
use Rattle.co_check.specs.declared.verdict.Unfit.TheVariants as unfit
use Rattle.co_top.specs.declared.command.Command.{Command}
use Rattle.co_top.specs.declared.command.Command.TheVariants.{Read, Serve, Make}
use Rattle.co_top.specs.declared.command.Reading.{Reading}
use Rattle.co_top.specs.declared.command.Reading.TheVariants.{Steps, Check, Event}
use Rattle.co_top.specs.declared.command.Serving.{Serving}
use Rattle.co_top.specs.declared.command.Serving.TheVariants.{Run, Kq, Sleep, Itimer}
use Rattle.co_top.specs.declared.command.Making.{Making}
use Rattle.co_top.specs.declared.command.Making.TheVariants.{Gen, Soak}

-- ---- commands

-- a command of one word that reads and needs one thread alone
abbrev pub reading_of : Word → Option Reading
reading_of word = if is_word word (codes "steps") then Some Steps
    else (if is_word word (codes "check") then Some Check
    else (if is_word word (codes "event") then Some Event else None))

-- a command of one word that reads and works on a running service
abbrev pub serving_of : Word → Option Serving
serving_of word = if is_word word (codes "run") then Some Run
    else (if is_word word (codes "kq") then Some Kq
    else (if is_word word (codes "sleep") then Some Sleep
    else (if is_word word (codes "itimer") then Some Itimer else None)))

-- a seed: 1 to 20 digits, below 2 ^ 64
abbrev pub small_seed : Result ℕ Cause → Option ℕ
small_seed (Ok n) = if nat_lt n (2 ^ 64) then Some n else None
small_seed (Err c) = None

abbrev pub seed_of : Word → Option ℕ
seed_of word = small_seed (number word)

-- a command of a word and a seed
abbrev pub making_by : Word → ℕ → Option Making
making_by word n = if is_word word (codes "gen") then Some (Gen n)
    else (if is_word word (codes "soak") then Some (Soak n) else None)

abbrev pub making_of : Word → Option ℕ → Option Making
making_of word None = None
making_of word (Some n) = making_by word n

abbrev pub reads : Option Reading → Option Command
reads None = None
reads (Some reading) = Some (Read reading)

abbrev pub serves : Option Serving → Option Command → Option Command
serves None other = other
serves (Some serving) other = Some (Serve serving)

-- a command of one word
abbrev pub word_command : Word → Option Command
word_command word = serves (serving_of word) (reads (reading_of word))

abbrev pub makes : Option Making → Option Command
makes None = None
makes (Some making) = Some (Make making)

-- `steps`, `run`, `check`, `gen N`, `soak N`, `kq`, `sleep`, `itimer` and `event`
abbrev pub command_of : List Word → Option Command
command_of (word ∷ []) = word_command word
command_of (word ∷ n ∷ []) = makes (making_of word (seed_of n))
command_of words = None

-- the command works on a running service
abbrev pub is_serving : Option Command → Bool
is_serving (Some (Serve serving)) = true
is_serving command = false

-- the words are not those of such a command
abbrev pub IsPlainCommand : List Word → Type 0
IsPlainCommand words = is_serving (command_of words) ≡ false

-- ---- texts

abbrev pub usage_text : List ℕ
usage_text = line (codes "usage: callout steps | run | check | gen N | soak N | kq | sleep | itimer | event")

-- of a report whose verdict is Legal
abbrev pub legal_text : List ℕ
legal_text = line (codes "legal")

abbrev pub unfit_word : Unfit → Word
unfit_word unfit.Actor = codes "actor"
unfit_word unfit.Illegal = codes "illegal"
unfit_word unfit.Number = codes "number"
unfit_word unfit.Follows = codes "follows"
unfit_word unfit.Missing = codes "missing"
