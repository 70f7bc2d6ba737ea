-- The operations on a queue of the lane of a server.
use Rattle.std.proofs.Common.{◌≡◌, Bool, true, false, refl}
use Rattle.co_program.specs.declared.role.Role.{Role}
use Rattle.co_program.specs.declared.role.Role.TheVariants as role
use Rattle.co_program.specs.Action.{pop_of, free_of}
use Rattle.co_wheel.specs.Turns.{pop_of as lane_pop, free_of as lane_free}
use Rattle.co_world.proofs.kept.Invariant.{serves_direct}
use Rattle.co_world.proofs.kept.Servers.{IsServer}
use Rattle.co_world.proofs.sections.Ways.{moves_none}

pub lane_pops : (r : Role) → IsServer r → lane_pop (serves_direct r) ≡ pop_of r
lane_pops (role.Client k) server = absurd server
lane_pops (role.Cpu x) server = refl
lane_pops (role.Interrupt x) server = refl

pub lane_frees : (r : Role) → IsServer r → lane_free (serves_direct r) ≡ free_of r
lane_frees (role.Client k) server = absurd server
lane_frees (role.Cpu x) server = refl
lane_frees (role.Interrupt x) server = refl

pub lane_moves_none : (direct : Bool) → moves_none (lane_free direct) ≡ true
lane_moves_none true = refl
lane_moves_none false = refl
