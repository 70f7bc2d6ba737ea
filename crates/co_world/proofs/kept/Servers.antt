-- What is a client's and what is a server's: a stage, a task, a hold.
use Rattle.std.proofs.Common.{◌≡◌, ℕ, Bool, true, false, refl, sym, subst, Option, None}
use Rattle.std.specs.Prelude.{⊤}
use Rattle.co_lock.specs.declared.held.Held.{Held}
use Rattle.co_program.specs.declared.Script.{Script}
use Rattle.co_program.specs.declared.Act.TheVariants.{Tick}
use Rattle.co_program.specs.declared.Task.{Task}
use Rattle.co_program.specs.declared.Task.TheVariants.{Does, Soft}
use Rattle.co_program.specs.declared.Role.{Role}
use Rattle.co_program.specs.declared.Role.TheVariants.{Client, Cpu, Interrupt}
use Rattle.co_program.specs.Stages.{Stage, Ready, Waiting, Popping, Picking, Locking, Beginning, Unlocking, Firing, Releasing, Ending, Freeing, Drained}
use Rattle.co_world.proofs.kept.Invariant.{ClientHold, ServerHold, HoldFits, IsTaskOf}
use Rattle.co_world.proofs.basics.Actions.{is_clients}

abbrev pub IsServer : Role → Type 0
IsServer (Client c) = ⊥
IsServer role = ⊤

pub server_hold : (s : Script) (role : Role) (held : Option Held) (stage : Stage) → IsServer role → HoldFits s role held stage → ServerHold s held stage
server_hold s (Client c) held stage h fits = absurd h
server_hold s (Cpu x) held stage h fits = fits
server_hold s (Interrupt x) held stage h fits = fits

pub hold_server : (s : Script) (role : Role) (held : Option Held) (stage : Stage) → IsServer role → ServerHold s held stage → HoldFits s role held stage
hold_server s (Client c) held stage h fits = absurd h
hold_server s (Cpu x) held stage h fits = fits
hold_server s (Interrupt x) held stage h fits = fits

-- a stage that is a server's alone
abbrev pub is_servers : Stage → Bool
is_servers Ready = false
is_servers (Waiting n took) = false
is_servers stage = true

client_stage : (held : Option Held) (stage : Stage) → is_servers stage ≡ true → ClientHold held stage → ⊥
client_stage held Ready is h = cc
client_stage held (Waiting n took) is h = cc
client_stage held (Popping act) is h = h
client_stage held (Picking v) is h = h
client_stage held (Locking v) is h = h
client_stage held (Beginning v) is h = h
client_stage held (Unlocking v acts) is h = h
client_stage held (Firing v acts) is h = h
client_stage held (Releasing v) is h = h
client_stage held (Ending v) is h = h
client_stage held (Freeing v drain next) is h = h
client_stage held (Drained v acts) is h = h

pub is_server : (s : Script) (role : Role) (held : Option Held) (stage : Stage) → is_servers stage ≡ true → HoldFits s role held stage → IsServer role
is_server s (Client c) held stage is h = absurd (client_stage held stage is h)
is_server s (Cpu x) held stage is h = tt
is_server s (Interrupt x) held stage is h = tt

pub servers_task : (s : Script) (role : Role) (task : Task) → is_clients task ≡ false → IsTaskOf s role task → IsServer role
servers_task s (Cpu x) task is h = tt
servers_task s (Interrupt x) task is h = tt
servers_task s (Client c) (Does (Tick time)) is h = h
servers_task s (Client c) (Does act) is h = cc
servers_task s (Client c) (Soft j) is h = h

-- a client's own task
pub clients_act : (s : Script) (role : Role) (task : Task) → is_clients task ≡ true → IsTaskOf s role task → (c : ℕ) × (role ≡ Client c)
clients_act s (Client c) task is h = (c, refl)
clients_act s (Cpu x) (Does (Tick time)) is h = cc
clients_act s (Cpu x) (Does act) is h = absurd h
clients_act s (Cpu x) (Soft j) is h = cc
clients_act s (Interrupt x) (Does (Tick time)) is h = cc
clients_act s (Interrupt x) (Does act) is h = absurd h
clients_act s (Interrupt x) (Soft j) is h = cc

pub client_ready : (s : Script) (role : Role) (held : Option Held) (c : ℕ) → role ≡ Client c → HoldFits s role held Ready
client_ready s role held c is = subst (λ (r : Role). HoldFits s r held Ready) (sym is) tt

pub none_ready : (s : Script) (role : Role) → HoldFits s role None Ready
none_ready s (Client c) = tt
none_ready s (Cpu x) = refl
none_ready s (Interrupt x) = refl
