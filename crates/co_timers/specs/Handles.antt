-- What contracts see of a handle: its passes, and the number of its next act.
use Rattle.std.specs.Prelude.{◌≡◌, ℕ, ◌+◌, length}
use Rattle.co_life.specs.Rule.{capped}
use Rattle.co_desk.specs.Name.{ServiceName}
use Rattle.co_desk.specs.Views.{PassesView, AreOf}
use Rattle.co_desk.specs.declared.params.Params.{Params}

pub record HandleView : Type 0 where
  -- what its actor has seen of each callout and of each CPU
  pub passes : PassesView
  -- the number of its next act
  pub act : ℕ

-- one act more. From the last number that 64 bits hold on all acts have that number
abbrev pub next_act : ℕ → ℕ
next_act act = capped (act + 1)

-- the passes of an actor of this service, with one for each callout
pub record IsHandle (name : ServiceName) (params : Params) (p : PassesView) : Type 0 where
  pub of : AreOf name params p
  pub sized : length p.timers ≡ length params.specs
