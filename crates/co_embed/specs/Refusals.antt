-- Why a call is refused, as a number.
use Rattle.std.specs.Prelude.{ℤ, pos, negsuc, Result, Ok, Err}
use Rattle.co_embed.specs.declared.refusal.Refusal.{Refusal}
use Rattle.co_embed.specs.declared.refusal.Refusal.TheVariants.{NotInService, NotHere, Nothing, NoMemory, Busy, Exists, Invalid}

abbrev pub errno : Refusal → ℤ
errno NotInService = negsuc 0
errno NotHere = negsuc 1
errno Nothing = negsuc 10
errno NoMemory = negsuc 11
errno Busy = negsuc 15
errno Exists = negsuc 16
errno Invalid = negsuc 21

-- 0, or why not
abbrev pub status_of : Result (Unit {0}) Refusal → ℤ
status_of (Ok u) = pos 0
status_of (Err refusal) = errno refusal
