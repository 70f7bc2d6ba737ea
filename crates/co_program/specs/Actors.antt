-- The actors of a script, in order of their numbers: the clients, the CPUs, and in version 2 an interrupt for each CPU.
use Rattle.std.specs.Prelude.{ℕ, zero, suc, ◌+◌, ◌-◌, ◌*◌, ◌%◌, ◌==◌, nat_lt, if◌then◌else◌, List, [], ◌∷◌, map, length, slice_index_or}
use Rattle.std.specs.List.{range_with_len}
use Rattle.co_program.specs.declared.act.Act.{Act}
use Rattle.co_program.specs.declared.script.Script.{Script}
use Rattle.co_program.specs.declared.role.Role.{Role}
use Rattle.co_program.specs.declared.role.Role.TheVariants.{Client, Cpu, Interrupt}
use Rattle.co_program.specs.declared.program.Task.{Task}
use Rattle.co_program.specs.declared.program.Task.TheVariants.{Does, Soft}

abbrev pub client_count : Script → ℕ
client_count s = length s.clients

abbrev pub actor_count : Script → ℕ
actor_count s = if s.version == 2 then client_count s + 2 * s.cpus else client_count s + s.cpus

-- the numbers of the actors, in order
abbrev pub all_actors : Script → List ℕ
all_actors s = range_with_len 0 (actor_count s)

abbrev pub role_of : Script → ℕ → Role
role_of s a =
    if nat_lt a (client_count s) then Client a
    else if nat_lt a (client_count s + s.cpus) then Cpu (a - client_count s)
    else Interrupt (a - client_count s - s.cpus)

-- n soft acts, from the j-th on
abbrev pub softs : ℕ → ℕ → List Task
softs j zero = []
softs j (suc n) = Soft j ∷ softs (suc j) n

-- the acts of client, function or CPU i
abbrev pub acts_at : List (List Act) → ℕ → List Act
acts_at lists i = slice_index_or lists i []

-- a CPU ticks itself in version 1; in version 2 its interrupt ticks, and the CPU has a soft act for each tick
abbrev pub program_of : Script → Role → List Task
program_of s (Client c) = map Does (acts_at s.clients c)
program_of s (Cpu x) = if s.version == 2 then softs 0 (length (acts_at s.ticks x)) else map Does (acts_at s.ticks x)
program_of s (Interrupt x) = map Does (acts_at s.ticks x)

-- the CPU of a role: for a client that of its number, all around
abbrev pub cpu_of : Script → Role → ℕ
cpu_of s (Client c) = c % s.cpus
cpu_of s (Cpu x) = x
cpu_of s (Interrupt x) = x
