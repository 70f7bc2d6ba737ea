-- What holds of a service with one actor between two of its calls.
use Rattle.std.specs.Prelude.{◌≡◌, ℕ, ◌<◌, ◌≤◌, ◌==◌, true, false, List, [], ◌∷◌, length, max}
use Rattle.std.specs.List.{filter}
use Rattle.std.specs.declared.option.Option.{Option}
use Rattle.std.specs.declared.option.Option.TheVariants.{Some, None}
use Rattle.co_object.specs.declared.state.Arming.{Arming}
use Rattle.co_object.specs.declared.state.Run.TheVariants.{Idle}
use Rattle.co_object.specs.declared.state.State.{State}
use Rattle.co_object.specs.Queue.{Waiting, Due, Queue}
use Rattle.co_sbt.specs.RoomView.{RoomView}
use Rattle.co_service.specs.Fresh.{FreshView, AreNamed}
use Rattle.co_service.specs.Booted.{booted}
use Rattle.co_desk.specs.Name.{ServiceName}
use Rattle.co_desk.specs.Services.{IsFree}
use Rattle.co_desk.specs.Views.{PassesView, AreOf}
use Rattle.co_desk.specs.declared.params.Params.{Params}
use Rattle.co_single.specs.Alarms.{callout_seen, queue_in}
use Rattle.co_single.specs.Seen.{single_params, AreSingle}

-- an arming is at CPU 0, and of function 0
abbrev pub IsPlainArming : Option Arming → Type 0
IsPlainArming None = Unit {0}
IsPlainArming (Some a) = (a.cpu ≡ 0) × (a.func ≡ 0)

-- a callout that no service has, at which nobody waits
pub record IsCalm (s : State) : Type 0 where
  pub live : s.live ≡ true
  pub run : s.run ≡ Idle
  pub waiting : s.waiting ≡ false
  pub adrain : s.adrain ≡ None
  pub home : s.home ≡ 0
  pub armed : IsPlainArming s.armed

-- the entries of callout i in the two lists of a queue
abbrev pub entries_of : Queue → ℕ → List Waiting
entries_of q i = filter (λ w. w.i == i) q.content

abbrev pub come : Queue → ℕ → List Due
come q i = filter (λ d. d.i == i) q.expired

-- an arming stands in the queue with its number, at its due time or where that had passed at the time of a scan
pub record IsListed (q : Queue) (i : ℕ) (a : Arming) : Type 0 where
  pub entry : Waiting
  pub scan : ℕ
  pub stands : entries_of q i ≡ entry ∷ []
  pub none_come : come q i ≡ []
  pub number : entry.n ≡ a.n
  pub time : entry.t ≡ max a.due scan
  pub passed : scan ≤ q.last

-- an arming has come due
pub record HasComeDue (q : Queue) (i : ℕ) (a : Arming) : Type 0 where
  pub entry : Due
  pub none_stands : entries_of q i ≡ []
  pub comes : come q i ≡ entry ∷ []
  pub number : entry.n ≡ a.n
  pub due : a.due ≤ q.last

-- an arming stands once in the queue or has come due, and else the callout is nowhere
pub data ArmingStands (q : Queue) (i : ℕ) : Option Arming → Type 0 where
  nowhere : entries_of q i ≡ [] → come q i ≡ [] → ArmingStands q i None
  listed : (a : Arming) → IsListed q i a → ArmingStands q i (Some a)
  due : (a : Arming) → HasComeDue q i a → ArmingStands q i (Some a)

-- nothing is in service, and each arming has its place
pub record HasNoService (p : PassesView) : Type 0 where
  pub calm : (i : ℕ) → IsCalm (callout_seen p i)
  pub serving : (queue_in p).serving ≡ None
  pub urgent : (queue_in p).urgent ≡ []
  pub placed : (i : ℕ) → ArmingStands (queue_in p) i (callout_seen p i).armed

-- what every such service keeps: the passes are of its one actor, nothing is in service, and there is room for its end
pub record IsSingle (name : ServiceName) (params : Params) (p : PassesView) (ending : RoomView PassesView) : Type 0 where
  pub of : AreOf name params p
  pub single : AreSingle (length params.specs) p
  pub free : IsFree false p 0
  pub rest : HasNoService p
  pub nothing : ending.items ≡ []
  pub room : 0 < ending.spare

-- a service that is booted and not open: its name, and how many callouts it has
pub record SingleFreshView : Type 0 where
  pub name : ServiceName
  pub callouts : ℕ

pub record IsSingleFresh (fresh : FreshView) (p : PassesView) : Type 0 where
  pub params : fresh.params ≡ single_params (length fresh.params.specs)
  pub passes : p ≡ booted fresh.name fresh.params 0
  pub named : AreNamed fresh.name fresh.params

-- an empty list with room for the one actor's passes
pub record IsEndingRoom (ending : RoomView PassesView) : Type 0 where
  pub nothing : ending.items ≡ []
  pub room : 0 < ending.spare
