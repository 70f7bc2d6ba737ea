-- The values that words of a note carry, each in its one spelling: no zero stands before another digit.
use Rattle.std.specs.Prelude.{◌≡◌, ◌⊎◌, ℕ, ℤ, pos, neg_ℤ, ◌+◌, ◌^◌, ◌≤◌, Bool, true, false, ◌&&◌, [], ◌∷◌, length, drop, Option, Some, None, Result, Ok, Err, nat_lt, ◌==◌, if◌then◌else◌, codes}
use Rattle.std.specs.List.{before_first}
use Rattle.co_object.specs.declared.OwnKind.{OwnKind}
use Rattle.co_object.specs.declared.OwnKind.TheVariants.{NotHeld, HoldsLock, Holding, NotHolding}
use Rattle.co_program.specs.declared.Script.{Script}
use Rattle.co_text.specs.Fallible.{◌>>=◌, ◌>>◌, unless}
use Rattle.co_text.specs.Values.{Word, is_word, number, is_shortest, behind}
use Rattle.co_text.specs.declared.Cause.{Cause}
use Rattle.co_text.specs.declared.Cause.TheVariants.{Form}
use Rattle.co_notes.specs.declared.reading.names.Names.{Names}
use Rattle.co_notes.specs.declared.reading.values.Maker.{Maker}

-- what notes may name in a script: so many of each
abbrev pub names_of : Script → Names
names_of s = record { timers = length s.timers; cpus = s.cpus; funcs = length s.funcs; clients = length s.clients; version = s.version }

-- a script with no more of each than one that is read
pub record IsSmallScript (s : Script) : Type 0 where
  pub timers : length s.timers ≤ 1024
  pub cpus : s.cpus ≤ 16
  pub funcs : length s.funcs ≤ 1024
  pub clients : length s.clients ≤ 16
  pub version : (s.version ≡ 1) ⊎ (s.version ≡ 2)

-- there are few enough actors for their numbers
pub record HasFewActors (n : Names) : Type 0 where
  pub clients : n.clients ≤ 16
  pub cpus : n.cpus ≤ 16

-- a number below this bound
abbrev pub below : ℕ → Word → Result ℕ Cause
below bound w = do
  unless (is_shortest w) Form
  n ← number w
  unless (nat_lt n bound) Form
  Ok n

-- a letter and a number
abbrev pub lettered : ℕ → ℕ → Word → Result ℕ Cause
lettered c bound w = behind c w >>= below bound

abbrev pub count64 : Word → Result ℕ Cause
count64 w = below (2 ^ 64) w

abbrev pub count32 : Word → Result ℕ Cause
count32 w = below (2 ^ 32) w

-- `uN`
abbrev pub time_in_units : Word → Result ℕ Cause
time_in_units w = lettered 117 (2 ^ 63) w

-- `#N`
abbrev pub arming : Word → Result ℕ Cause
arming w = lettered 35 (2 ^ 64) w

-- `aN`
abbrev pub given : Word → Result ℕ Cause
given w = lettered 97 (2 ^ 64) w

-- `iN`, `fN` and `pN`, each of the script
abbrev pub callout_value : Names → Word → Result ℕ Cause
callout_value n w = lettered 105 n.timers w

abbrev pub func_of : Names → Word → Result ℕ Cause
func_of n w = lettered 102 n.funcs w

abbrev pub cpu_in : Names → Word → Result ℕ Cause
cpu_in n w = lettered 112 n.cpus w

-- a value, or none for `-`
abbrev pub or_dash : {X : Type 0} → (Word → Result X Cause) → Word → Result (Option X) Cause
or_dash value w = if is_word w (codes "-") then Ok None else (value w >>= λ x. Ok (Some x))

-- `1` or `0`
abbrev pub truth : Word → Result Bool Cause
truth w = if is_word w (codes "1") then Ok true else (if is_word w (codes "0") then Ok false else Err Form)

-- a number below 0, by its size
abbrev pub negative : ℕ → Result ℤ Cause
negative n = unless (nat_lt 0 n) Form >> Ok (neg_ℤ (pos n))

-- a number that a code without a sign may be
abbrev pub positive : Word → Result ℤ Cause
positive w = below (2 ^ 31) w >>= λ n. Ok (pos n)

-- a code: a number of 32 bits, with a `-` where it's below 0
abbrev pub code : Word → Result ℤ Cause
code [] = Err Form
code (c ∷ w) = if c == 45 then (below (2 ^ 31 + 1) w >>= negative) else positive (c ∷ w)

-- the number of an actor, by its word: a client, a CPU or in version 2 an interrupt
abbrev pub actor_in : Names → Word → Result ℕ Cause
actor_in n [] = Err Form
actor_in n (c ∷ w) = if c == 99 then below n.clients w
    else (if c == 112 then (below n.cpus w >>= λ x. Ok (n.clients + x))
    else (if (c == 104) && (n.version == 2) then (below n.cpus w >>= λ x. Ok (n.clients + n.cpus + x))
    else Err Form))

-- `/`
abbrev pub is_slash : ℕ → Bool
is_slash c = c == 47

-- `A/M`
abbrev pub maker : Names → Word → Result Maker Cause
maker n w = do
  a ← actor_in n (before_first is_slash w)
  m ← lettered 47 (2 ^ 64) (drop (length (before_first is_slash w)) w)
  Ok (record { actor = a; act = m })

-- the same of this actor alone
abbrev pub maker_is : Names → ℕ → Word → Result Maker Cause
maker_is n actor w = do
  m ← maker n w
  unless (m.actor == actor) Form
  Ok m

abbrev pub own_kind : Word → Result OwnKind Cause
own_kind w = if is_word w (codes "notheld") then Ok NotHeld
    else (if is_word w (codes "holdslock") then Ok HoldsLock
    else (if is_word w (codes "holding") then Ok Holding
    else (if is_word w (codes "notholding") then Ok NotHolding
    else Err Form)))
