-- Each lock that is put at the end has the next kind, and the number of those before it.
use Rattle.std.proofs.Common.{◌≡◌, ◌∙◌, sym, ap, arith, suc, ◌+◌, [], ◌∷◌, ◌++◌, map, take, length}
use Rattle.std.proofs.Math.Seq.{take-suc}
use Rattle.std.proofs.lemmas.List.{map_push}
use Rattle.co_lock.specs.declared.lock_kind.LockKind.TheVariants.{Mtx}
use Rattle.co_lock.specs.Locks.{kind_of}
use Rattle.co_lock.proofs.Numbered.{one_more}
use Rattle.co_lock.proofs.client_locks.ClientLocks.new.Goals as goal

pub loop-kind-preserved : goal.loop-kind-preserved
loop-kind-preserved c =
    let kinds = c.args.kinds.now in
    let i = c.loop-kind.kind-index in
    let old = c.loop-kind.locks in
    let lock = c.new.result in
    let next : suc i ≡ i + 1 = omega arith in
    record {
      kinds = ap (map kind_of) c.in_ok-push.ensures.ok
          ∙ map_push kind_of old lock
          ∙ ap (λ ks. ks ++ kind_of lock ∷ []) c.loop-kind.invariant.kinds
          ∙ ap (λ k. take i kinds ++ k ∷ []) c.new.ensures.kind
          ∙ sym (take-suc kinds i Mtx c.loop-kind-test.true)
          ∙ ap (λ n. take n kinds) next;
      numbers = rw c.in_ok-push.ensures.ok (one_more 0 old lock c.loop-kind.invariant.numbers (omega (arith, c.new.ensures.number, ap length c.as_slice-number.ensures)));
    }
