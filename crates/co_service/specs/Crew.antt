-- A service's actors: whose passes are still in the boot's list, and whose are back.
use Rattle.std.specs.Prelude.{◌≡◌, ℕ, ◌+◌, ◌<◌, ◌≤◌, List, length, slice_get}
use Rattle.std.specs.declared.option.Option.TheVariants.{Some}
use Rattle.std.specs.List.{All}
use Rattle.co_sbt.specs.RoomView.{RoomView}
use Rattle.co_desk.specs.declared.params.Params.{Params}
use Rattle.co_service.specs.Booted.{booted}
use Rattle.co_desk.specs.Name.{ServiceName}
use Rattle.co_desk.specs.Views.{AreOf, PassesView}

-- the passes of the first n actors, which have seen nothing
pub record AreNew (name : ServiceName) (p : Params) (n : ℕ) (all : List PassesView) : Type 0 where
  pub count : length all ≡ n
  pub each : (j : ℕ) → j < n → slice_get all j ≡ Some (booted name p j)

pub record CrewView : Type 0 where
  pub params : Params
  pub count : ℕ

-- passes of the service, with room for those of 48 actors in all
pub record IsCrew (name : ServiceName) (p : Params) (back : RoomView PassesView) : Type 0 where
  pub of : All (AreOf name p) back.items
  pub room : 48 ≤ length back.items + back.spare
