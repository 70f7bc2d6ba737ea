-- The service is within the limits.
use Rattle.std.proofs.Common.{refl}
use Rattle.run_cases.proofs.Scenes.{two_clients_allowed}
use Rattle.run_cases.proofs.tests.scene.boot.Goals as goal

pub boot-requires : goal.boot-requires
boot-requires g c = two_clients_allowed _ refl
