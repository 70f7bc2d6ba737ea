-- The final histories, by all actors' passes.
use Rattle.std.proofs.Common.{◌≡◌, ℕ, ◌+◌, ◌<◌, ◌≤◌, ◌==◌, Bool, true, false, cond, List, length, sym, ap, ◌∙◌, subst, arith}
use Rattle.std.specs.declared.option.Option.TheVariants.{Some}
use Rattle.std.specs.List.{All}
use Rattle.co_life.specs.Identity.{LifeId}
use Rattle.co_life.specs.Views.{KeeperView}
use Rattle.co_desk.specs.declared.params.Params.{Params}
use Rattle.co_desk.specs.declared.line.Line.{Line}
use Rattle.co_service.specs.Booted.{booted}
use Rattle.co_service.specs.Closing.{AreAll, AreFinal, EndEach, Ends, IsFinal}
use Rattle.co_desk.specs.Meeting.{IsMet}
use Rattle.co_desk.specs.Kinds.{KindOf}
use Rattle.co_desk.specs.Lines.{made}
use Rattle.co_desk.specs.Name.{ServiceName}
use Rattle.co_desk.specs.Params.{actor_count}
use Rattle.co_desk.specs.Views.{PassesView, IsKeeperOf}

module _ {E : Type 0} (kind : KindOf E) where
  -- what a pass has met is final
  final_by : (lives : List LifeId) (r : Params) (i : ℕ) (k : KeeperView (Line E)) (q : PassesView) → IsKeeperOf kind.Legal lives r i k → IsMet kind i k q → IsFinal kind q.params i (made k.history)
  final_by lives r i k q at met =
      let both : Some (r, i) ≡ Some (q.params, i) = sym at.opened ∙ met.opened in
      let pair : (r, i) ≡ (q.params, i) = cc in
      let same : r ≡ q.params = ap (λ (t : Params × ℕ). t.0) pair in record {
        legal = subst (λ (t : Params). kind.Legal t i (made k.history)) same at.legal;
        actors = subst (λ (n : ℕ). All (λ e. kind.made_by e < n) (made k.history)) (at.actors ∙ ap actor_count same) met.actors;
      }

  pub ends_met : (lives : List LifeId) (r : Params) (i : ℕ) (k : KeeperView (Line E)) (all : List PassesView) → IsKeeperOf kind.Legal lives r i k → All (IsMet kind i k) all → All (Ends kind (made k.history) i) all
  ends_met lives r i k all at met = λ n d below. let m = met n d below in record { shown = m.shown; final = final_by lives r i k _ at m }

some_actors : (p : Params) → 1 ≤ p.cpus → 1 ≤ actor_count p
some_actors p some = go (p.version == 1) where
  go : (b : Bool) → 1 ≤ p.clients + cond b p.cpus (p.cpus + p.cpus)
  go true = omega arith
  go false = omega arith

module _ {E : Type 0} (kind : KindOf E) (name : ServiceName) (p : Params) (all : List PassesView) (are : AreAll name p all) (some : 1 ≤ p.cpus) where
  first : 0 < length all
  first = let n = are.count in let m = some_actors p some in omega arith

  -- the final histories of all places of a kind
  pub all_ended : (n : ℕ) (Hs : List (List E)) → length Hs ≡ n → EndEach kind all Hs → AreFinal kind n p all Hs
  all_ended n Hs count ends = record {
    count = count;
    final = λ i H is. subst (λ (r : Params). IsFinal kind r i H) (are.of 0 (booted name p 0) first).params_are (ends i H is 0 (booted name p 0) first).final;
    shown = λ i H is m d below. (ends i H is m d below).shown;
  }
