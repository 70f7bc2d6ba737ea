-- An actor's passes are compared with the history of a place.
use Rattle.std.specs.Prelude.{◌≡◌, ℕ, ◌<◌}
use Rattle.std.specs.declared.option.Option.TheVariants.{Some}
use Rattle.std.specs.List.{All}
use Rattle.co_life.specs.Views.{KeeperView}
use Rattle.co_desk.specs.declared.line.Line.{Line}
use Rattle.co_desk.specs.Kinds.{KindOf, seen}
use Rattle.co_desk.specs.Lines.{made, opening_of}
use Rattle.co_desk.specs.Seats.{IsShown}
use Rattle.co_desk.specs.Views.{PassesView}

-- an actor's pass of place i has met the keeper
pub record IsMet {E : Type 0} (kind : KindOf E) (i : ℕ) (k : KeeperView (Line E)) (q : PassesView) : Type 0 where
  pub shown : IsShown kind.made_by q.actor (made k.history) (seen kind q i)
  pub opened : opening_of k.history ≡ Some (q.params, i)
  pub actors : All (λ e. kind.made_by e < k.actors) (made k.history)

-- an actor's passes were compared with a keeper's history: nothing has changed, and this is known
pub record IsMeeting {E : Type 0} (k k' : KeeperView E) (q q' : PassesView) (Met : Type 0) : Type 0 where
  pub keeper : k' ≡ k
  pub same : q' ≡ q
  pub met : Met
