-- The scripts that the service runs: what every accepted script keeps.
use Rattle.std.specs.Prelude.{◌≡◌, ℕ, ◌^◌, ◌≤◌, ◌<◌, Bool, true, false, ◌&&◌, is_some, nat_lt, length, ◌⊎◌}
use Rattle.std.specs.List.{AllByRecursion}
use Rattle.co_object.specs.declared.LockUse.TheVariants.{Free}
use Rattle.co_program.specs.declared.script.Script.{Script}
use Rattle.co_program.specs.declared.act.Act.{Act}
use Rattle.co_program.specs.declared.act.Act.TheVariants.{Reset, Ticks, Schedule, Stop, Drain, AsyncDrain, Active, Pending, Deactivate, Init, Retire, Tick}
use Rattle.co_program.specs.declared.act.Who.{Who}
use Rattle.co_program.specs.declared.act.Who.TheVariants.{Timer, Me}
use Rattle.co_program.specs.declared.act.Where.{Where}
use Rattle.co_program.specs.declared.act.Where.TheVariants.{Home, Cpu, Here}
use Rattle.co_program.specs.Actors.{acts_at, actor_count}
use Rattle.co_program.specs.Calls.{plain_op}
use Rattle.co_program.specs.Action.{spec_at}

abbrev pub is_tick : Act → Bool
is_tick (Tick time) = true
is_tick act = false

-- a call on a callout, but no drain
abbrev pub is_call : Act → Bool
is_call act = is_some (plain_op act 1 (record { time = 0; here = 0; me = 0 }))

-- ---- what an act names exists

abbrev pub who_exists : Script → Who → Bool
who_exists s (Timer i) = nat_lt i (length s.timers)
who_exists s Me = true

abbrev pub cpu_exists : Script → Where → Bool
cpu_exists s Home = true
cpu_exists s (Cpu cpu) = nat_lt cpu s.cpus
cpu_exists s Here = true

-- the callout and the CPU that an act names
abbrev pub names_exist : Script → Act → Bool
names_exist s (Reset who func when arg cpu prec) = who_exists s who && cpu_exists s cpu
names_exist s (Ticks who ticks func arg cpu) = who_exists s who && cpu_exists s cpu
names_exist s (Schedule who when cpu prec) = who_exists s who && cpu_exists s cpu
names_exist s (Stop who) = who_exists s who
names_exist s (Drain i) = nat_lt i (length s.timers)
names_exist s (AsyncDrain who func) = who_exists s who
names_exist s (Active who) = who_exists s who
names_exist s (Pending who) = who_exists s who
names_exist s (Deactivate who) = who_exists s who
names_exist s (Init who) = who_exists s who
names_exist s (Retire who) = who_exists s who
names_exist s act = true

pub record IsScript (s : Script) : Type 0 where
  pub version : (s.version ≡ 1) ⊎ (s.version ≡ 2)
  pub hz : (1 ≤ s.hz) × (s.hz ≤ 1000000)
  pub cpus : (1 ≤ s.cpus) × (s.cpus ≤ 16)
  pub buckets : (16 ≤ s.buckets) × (s.buckets ≤ 65536) × ((e : ℕ) × (s.buckets ≡ 2 ^ e))
  pub timers : (1 ≤ length s.timers) × (length s.timers ≤ 1024)
  -- an interrupt takes no lock
  pub direct : (i : ℕ) → (spec_at s i).direct ≡ true → (spec_at s i).lock ≡ Free
  pub few_clients : length s.clients ≤ 16
  -- ticks are the CPUs' acts, all of theirs and nobody else's
  pub ticks : (cpu : ℕ) → AllByRecursion (λ act. is_tick act ≡ true) (acts_at s.ticks cpu)
  pub clients : (client : ℕ) → AllByRecursion (λ act. is_tick act ≡ false) (acts_at s.clients client)
  -- a function makes calls alone
  pub funcs : (func : ℕ) → AllByRecursion (λ act. is_call act ≡ true) (acts_at s.funcs func)
  pub clients_name : (client : ℕ) → AllByRecursion (λ act. names_exist s act ≡ true) (acts_at s.clients client)
  pub funcs_name : (func : ℕ) → AllByRecursion (λ act. names_exist s act ≡ true) (acts_at s.funcs func)
  -- no program is longer than an act's number can count
  pub short_clients : (client : ℕ) → length (acts_at s.clients client) ≤ 65536
  pub short_ticks : (cpu : ℕ) → length (acts_at s.ticks cpu) ≤ 65536
  pub short_funcs : (func : ℕ) → length (acts_at s.funcs func) ≤ 4096
  pub turns : AllByRecursion (λ a. a < actor_count s) s.turns
