-- All parts are of the same parameters and locks.
use Rattle.std.proofs.Common.{List, ap, subst, sym, ◌∙◌}
use Rattle.co_lock.specs.declared.lock_kind.LockKind.{LockKind}
use Rattle.co_service.specs.Booted.{AreBooted}
use Rattle.co_service.specs.Fresh.{AreNamed}
use Rattle.co_desk.specs.Params.{AreParams}
use Rattle.co_desk.specs.declared.params.Params.{Params}
use Rattle.co_timers.specs.Timers.{HaveLocks}
use Rattle.co_timers.proofs.fresh.TimersFresh.boot.Goals as goal

pub invariant_of-result : goal.invariant_of-result
invariant_of-result c =
    let same = c.in_ok-fresh.ensures.params ∙ sym c.in_ok-params.ensures in
    record {
      same = same;
      booted = subst (λ (r : Params). AreBooted c.in_ok-fresh.fresh.name r c.in_ok-fresh.passes) same c.in_ok-fresh.ensures.passes;
      limits = subst AreParams (sym c.in_ok-params.ensures) c.requires.params;
      version = ap (λ (r : Params). r.version) c.in_ok-params.ensures;
      named = subst (λ (r : Params). AreNamed c.in_ok-fresh.fresh.name r) same c.in_ok-fresh.ensures.named;
      locks_are = subst (λ (kinds : List LockKind). HaveLocks kinds c.in_ok-params.params) (sym c.in_ok-locks.ensures.locks)
          (subst (HaveLocks c.args.locks.now) (sym c.in_ok-params.ensures) c.requires.locks);
      kinds_are = c.in_ok-locks.ensures.kinds ∙ sym c.in_ok-locks.ensures.locks;
    }
