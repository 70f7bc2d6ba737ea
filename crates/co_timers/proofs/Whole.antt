-- A CPU whose actors are both here.
use Rattle.std.proofs.Common.{◌≡◌, ℕ, ◌<◌, true, false, ◌&&◌, sym, subst}
use Rattle.std.proofs.lemmas.Bool.{ltb-true}
use Rattle.std.specs.Prelude.{nat_lt}
use Rattle.co_object.proofs.Changes.{both_true}
use Rattle.co_object.specs.Actors.{cpu_actor, interrupt_actor}
use Rattle.co_service.specs.Booted.{booted}
use Rattle.co_desk.specs.Name.{ServiceName}
use Rattle.co_desk.specs.Params.{actors_of}
use Rattle.co_desk.specs.Services.{IsFree}
use Rattle.co_desk.specs.Views.{PassesView}
use Rattle.co_desk.specs.declared.params.Params.{Params}
use Rattle.co_service.proofs.Lasts.{booted_free}
use Rattle.co_timers.specs.Handles.{IsHandle}
use Rattle.co_timers.specs.Posts.{PostsView, is_posted, is_whole}
use Rattle.co_timers.specs.Turns.{IsCpuHandle}

pub record Whole (p : PostsView) (k : ℕ) : Type 0 where
  pub below : k < p.params.cpus
  pub own : is_posted p (cpu_actor (actors_of p.params) k) ≡ true
  pub interrupt : is_posted p (interrupt_actor (actors_of p.params) k) ≡ true

pub whole : (p : PostsView) (k : ℕ) → is_whole p k ≡ true → Whole p k
whole p k is =
    let low = both_true (nat_lt k p.params.cpus) (is_posted p (cpu_actor (actors_of p.params) k) && is_posted p (interrupt_actor (actors_of p.params) k)) is in
    let both = both_true (is_posted p (cpu_actor (actors_of p.params) k)) (is_posted p (interrupt_actor (actors_of p.params) k)) low.1 in
    record { below = ltb-true k p.params.cpus low.0; own = both.0; interrupt = both.1 }

-- both actors that have seen nothing are a CPU's
pub first : (name : ServiceName) (params : Params) (k : ℕ) (direct others : PassesView) → k < params.cpus → IsHandle name params direct → IsHandle name params others
    → direct ≡ booted name params (interrupt_actor (actors_of params) k) → others ≡ booted name params (cpu_actor (actors_of params) k)
    → IsCpuHandle name params (record { cpu = k; direct = record { passes = direct; act = 0 }; others = record { passes = others; act = 0 }; turns = 0 })
first name params k direct others low one two same also = record {
  below = low;
  direct = one;
  others = two;
  direct_free = subst (λ (q : PassesView). IsFree true q k) (sym same) (booted_free name params true k);
  others_free = subst (λ (q : PassesView). IsFree false q k) (sym also) (booted_free name params false k);
}
