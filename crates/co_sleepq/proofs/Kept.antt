-- An actor's passes after a call of the service.
use Rattle.std.proofs.Common.{◌≡◌, ℕ, sym, ◌∙◌, subst}
use Rattle.std.specs.declared.option.Option.{Option}
use Rattle.co_life.specs.Views.{PassView}
use Rattle.co_desk.specs.declared.params.Params.{Params}
use Rattle.co_desk.specs.Name.{ServiceName}
use Rattle.co_desk.specs.Seats.{IsOwn, seen_in}
use Rattle.co_desk.specs.Views.{AreOf, PassesView}
use Rattle.co_sleepq.specs.declared.entry.SleepEntry.{SleepEntry}
use Rattle.co_sleepq.specs.Params.{actors}
use Rattle.co_sleepq.specs.Shared.{IsSleepActor, IsSeen}

-- the actor stays, and what it has seen of the book
pub kept : (name : ServiceName) (p : Params) (was now : PassesView) (book : Option (PassView SleepEntry)) → IsSleepActor was book → was.params ≡ p → AreOf name p now → now.actor ≡ was.actor → IsSleepActor now book
kept name p was now book is old of same = record {
  own = subst (λ (a : ℕ). IsOwn a book) (sym same) is.own;
  seen = subst (λ (t : Params). IsSeen (actors t) (seen_in book)) (old ∙ sym of.params_are) is.seen;
}
