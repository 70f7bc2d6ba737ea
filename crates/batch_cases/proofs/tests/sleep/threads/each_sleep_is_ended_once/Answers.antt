-- The sleep queue that was just booted has two clients, a sleeper and fresh passes.
use Rattle.std.proofs.Common.{◌≡◌, ◌<◌, ℕ, List, false, ap, subst, sym, ◌∙◌, arith, refl, Result, Ok}
use Rattle.std.specs.Prelude.{IfOk}
use Rattle.std.specs.List.{All}
use Rattle.co_desk.specs.declared.params.Params.{Params}
use Rattle.co_desk.specs.Services.{IsFree}
use Rattle.co_desk.proofs.Items.{get_or_of}
use Rattle.co_sleepq.specs.Fresh.{AreFreshPasses, QueueName, fresh_passes}
use Rattle.co_sleepq.specs.Params.{ArePasses, sleepers}
use Rattle.co_sleepq.specs.Views.{SleepPassesView}
use Rattle.co_sleepq.proofs.AllPasses.{fresh-free}
use Rattle.batch_cases.proofs.tests.sleep.threads.each_sleep_is_ended_once.Goals as goal

holds : {T E : Type 0} (P : T → Type 0) (r : Result T E) (x : T) → r ≡ Ok x → IfOk r P → P x
holds P r x is h = subst (λ r. IfOk r P) is h

-- each of three actors has its passes, and the last, the CPU's, has nothing in service
are_passes : (name : QueueName) (p : Params) (all : List SleepPassesView) → p.clients ≡ 2 → AreFreshPasses name p 3 all → All (λ q. ArePasses name.service name.book p q × (q.service.actor ≡ 2 → IsFree false q.service 0)) all
are_passes name p all two fresh k d inside =
    let below : k < 3 = (let n = fresh.count in omega arith) in
    let is = get_or_of all k d (fresh_passes name p k) (fresh.each k below) in
    subst (λ (q : SleepPassesView). ArePasses name.service name.book p q × (q.service.actor ≡ 2 → IsFree false q.service 0)) (sym is) (
      record { of = record { name_is = refl; params_are = refl }; life_is = refl },
      λ last. subst (λ (a : ℕ). IsFree false (fresh_passes name p a).service 0) (two ∙ sym last) (fresh-free name p),
    )

pub play_all-ends-requires-clause-sleeper : goal.play_all-ends-requires-clause-sleeper
play_all-ends-requires-clause-sleeper g c l = let one : sleepers c.expect-fresh.result.0.params ≡ 1 = ap sleepers (holds _ _ _ c.expect-fresh.ensures c.boot.ensures.params) in omega (arith, one)

pub play_all-ends-requires-clause-passes : goal.play_all-ends-requires-clause-passes
play_all-ends-requires-clause-passes g c l = are_passes _ _ _ (ap (λ p. p.clients) (holds _ _ _ c.expect-fresh.ensures c.boot.ensures.params)) (holds _ _ _ c.expect-fresh.ensures c.boot.ensures.passes)
