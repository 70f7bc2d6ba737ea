-- Whether the numbers and locks that a line names are in their ranges and exist, in the script so far.
use Rattle.std.specs.Prelude.{ℕ, ℤ, pos, negsuc, ◌^◌, ◌≤◌, Bool, true, false, ◌&&◌, length, Option, Some, Result, Ok, nat_lt, nat_le, int_le, ◌==◌, slice_get}
use Rattle.co_text.specs.Fallible.{◌>>=◌, ◌>>◌, unless}
use Rattle.co_text.specs.declared.Cause.{Cause}
use Rattle.co_text.specs.declared.Cause.TheVariants.{Number}
use Rattle.co_object.specs.declared.LockUse.{LockUse}
use Rattle.co_object.specs.declared.LockUse.TheVariants.{Free, Mtx, Rw, RwShared}
use Rattle.co_lock.specs.declared.LockKind.{LockKind}
use Rattle.co_lock.specs.declared.LockKind.TheVariants as lock
use Rattle.co_program.specs.declared.Script.{Script}
use Rattle.co_program.specs.declared.Act.{Act}
use Rattle.co_program.specs.declared.Act.TheVariants as act
use Rattle.co_program.specs.declared.Who.{Who}
use Rattle.co_program.specs.declared.Who.TheVariants as callout
use Rattle.co_program.specs.declared.Where.{Where}
use Rattle.co_program.specs.declared.Where.TheVariants as cpu
use Rattle.co_program.specs.Scripts.{names_exist}

-- ranges

abbrev pub is_within : ℕ → ℕ → ℕ → Bool
is_within low high n = nat_le low n && nat_le n high

-- it is the next number of a list that has at most this many
abbrev pub is_next_of : ℕ → ℕ → ℕ → Bool
is_next_of most count n = (n == count) && nat_lt n most

abbrev pub lock_exists : Script → ℕ → Bool
lock_exists s l = nat_lt l (length s.locks)

abbrev pub spec_exists : Script → LockUse → Bool
spec_exists s Free = true
spec_exists s (Mtx l) = lock_exists s l
spec_exists s (Rw l) = lock_exists s l
spec_exists s (RwShared l) = lock_exists s l

-- a signed number of 32 bits
abbrev pub is_i32 : ℤ → Bool
is_i32 k = int_le (negsuc 2147483647) k && int_le k (pos 2147483647)

-- a function and its argument
abbrev pub call_fits : ℕ → ℕ → ℕ → Bool
call_fits funcs f a = nat_lt f funcs && nat_lt a (2 ^ 64)

-- the locks, functions and numbers of an act are there and in their ranges
abbrev pub values_fit : ℕ → Script → Act → Bool
values_fit funcs s (act.Lock l) = lock_exists s l
values_fit funcs s (act.ReadLock l) = lock_exists s l
values_fit funcs s (act.Reset w f m a c p) = call_fits funcs f a
values_fit funcs s (act.Ticks w k f a c) = is_i32 k && call_fits funcs f a
values_fit funcs s (act.AsyncDrain w f) = nat_lt f funcs
values_fit funcs s _ = true

abbrev pub act_fits : ℕ → Script → Act → Bool
act_fits funcs s a = names_exist s a && values_fit funcs s a

-- the types of an act's numbers: 32 bits, signed for ticks, and 64 for an argument. What they don't hold fits no script

abbrev pub number_typed : ℕ → Result ℕ Cause
number_typed n = unless (nat_lt n (2 ^ 32)) Number >> Ok n

abbrev pub argument_typed : ℕ → Result ℕ Cause
argument_typed n = unless (nat_lt n (2 ^ 64)) Number >> Ok n

abbrev pub ticks_typed : ℤ → Result ℤ Cause
ticks_typed k = unless (is_i32 k) Number >> Ok k

abbrev pub who_typed : Who → Result Who Cause
who_typed (callout.Timer i) = number_typed i >>= λ n. Ok (callout.Timer n)
who_typed callout.Me = Ok callout.Me

abbrev pub where_typed : Where → Result Where Cause
where_typed cpu.Home = Ok cpu.Home
where_typed (cpu.Cpu c) = number_typed c >>= λ n. Ok (cpu.Cpu n)
where_typed cpu.Here = Ok cpu.Here

abbrev pub act_typed : Act → Result Act Cause
act_typed (act.Now t) = Ok (act.Now t)
act_typed (act.Lock l) = number_typed l >>= λ n. Ok (act.Lock n)
act_typed (act.ReadLock l) = number_typed l >>= λ n. Ok (act.ReadLock n)
act_typed act.Unlock = Ok act.Unlock
act_typed (act.Reset who func when arg place prec) = do
  w ← who_typed who
  f ← number_typed func
  a ← argument_typed arg
  c ← where_typed place
  Ok (act.Reset w f when a c prec)
act_typed (act.Ticks who ticks func arg place) = do
  w ← who_typed who
  k ← ticks_typed ticks
  f ← number_typed func
  a ← argument_typed arg
  c ← where_typed place
  Ok (act.Ticks w k f a c)
act_typed (act.Schedule who when place prec) = do
  w ← who_typed who
  c ← where_typed place
  Ok (act.Schedule w when c prec)
act_typed (act.Stop who) = who_typed who >>= λ w. Ok (act.Stop w)
act_typed (act.Drain i) = number_typed i >>= λ n. Ok (act.Drain n)
act_typed (act.AsyncDrain who func) = do
  w ← who_typed who
  f ← number_typed func
  Ok (act.AsyncDrain w f)
act_typed (act.Active who) = who_typed who >>= λ w. Ok (act.Active w)
act_typed (act.Pending who) = who_typed who >>= λ w. Ok (act.Pending w)
act_typed (act.Deactivate who) = who_typed who >>= λ w. Ok (act.Deactivate w)
act_typed (act.Init who) = who_typed who >>= λ w. Ok (act.Init w)
act_typed (act.Retire who) = who_typed who >>= λ w. Ok (act.Retire w)
act_typed (act.Tick t) = Ok (act.Tick t)

abbrev pub typed : Result Act Cause → Result Act Cause
typed act = act >>= act_typed

-- kinds of locks

abbrev pub is_mtx : Option LockKind → Bool
is_mtx (Some lock.Mtx) = true
is_mtx _ = false

abbrev pub is_rw : Option LockKind → Bool
is_rw (Some lock.Rw) = true
is_rw _ = false

abbrev pub spec_kind_fits : Script → LockUse → Bool
spec_kind_fits s Free = true
spec_kind_fits s (Mtx l) = is_mtx (slice_get s.locks l)
spec_kind_fits s (Rw l) = is_rw (slice_get s.locks l)
spec_kind_fits s (RwShared l) = is_rw (slice_get s.locks l)

abbrev pub act_kind_fits : Script → Act → Bool
act_kind_fits s (act.ReadLock l) = is_rw (slice_get s.locks l)
act_kind_fits s _ = true

-- the time of an act is not lower than this one
abbrev pub act_rises : ℕ → Act → Bool
act_rises t (act.Now u) = nat_le t u
act_rises t (act.Tick u) = nat_le t u
act_rises t _ = true

-- what every draft and script keeps, so that its numbers are small
pub record HasSmallNumbers (s : Script) (funcs : ℕ) : Type 0 where
  pub locks : length s.locks ≤ 256
  pub timers : length s.timers ≤ 1024
  pub cpus : s.cpus ≤ 16
  pub funcs_fit : funcs ≤ 1024
