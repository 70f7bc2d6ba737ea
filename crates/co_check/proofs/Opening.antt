-- Before the first line: each callout and each queue is as it is made.
use Rattle.std.proofs.Common.{◌≡◌, ℕ, zero, suc, Bool, List, [], ◌∷◌, length, map, get_or, replicate, refl, ap, sym, subst, ◌∙◌}
use Rattle.std.specs.Prelude.{Some, slice_get}
use Rattle.std.proofs.lemmas.List.{length-replicate}
use Rattle.co_object.specs.declared.Alone.{Alone}
use Rattle.co_object.specs.declared.Spec.{Spec}
use Rattle.co_object.specs.Queue.{empty_queue}
use Rattle.co_program.specs.declared.script.Script.{Script}
use Rattle.co_program.specs.Runs.{are_direct}
use Rattle.co_check.specs.declared.replay.Replay.{Replay}
use Rattle.co_check.specs.Cpu.{ShowsQueue, empty_cpu}
use Rattle.co_check.specs.Replayed.{IsAfter, IsCpuAfter, opened}
use Rattle.co_check.proofs.Taking.{some-is}

length-mapped : {X Y : Type 0} (f : X → Y) (xs : List X) → length (map f xs) ≡ length xs
length-mapped f [] = refl
length-mapped f (x ∷ xs) = ap suc (length-mapped f xs)

opened-at : (specs : List Spec) (i : ℕ) (other : Spec) (alone : Alone) → slice_get (map opened specs) i ≡ Some alone → alone ≡ opened (get_or specs i other)
opened-at [] i other alone h = cc
opened-at (spec ∷ specs) zero other alone h = sym (some-is (opened spec) alone h)
opened-at (spec ∷ specs) (suc i) other alone h = opened-at specs i other alone h

copy-at : {X : Type 0} (n i : ℕ) (x y : X) → slice_get (replicate n x) i ≡ Some y → y ≡ x
copy-at zero i x y h = cc
copy-at (suc n) zero x y h = sym (some-is x y h)
copy-at (suc n) (suc i) x y h = copy-at n i x y h

zero-at : (n i : ℕ) → ◌≡◌ {A = ℕ} (get_or (replicate n 0) i 0) 0
zero-at zero i = refl
zero-at (suc n) zero = refl
zero-at (suc n) (suc i) = zero-at n i

empty-for : (callouts buckets : ℕ) (direct : List Bool) → ShowsQueue empty_queue (empty_cpu callouts buckets direct)
empty-for callouts buckets direct = record {
  timers = record { expired = refl; urgent = refl; last = refl; content = λ b. refl; numbered = refl };
  serving = refl;
  directing = refl;
}

empty-after : (s : Script) (cpu : ℕ) → IsCpuAfter s [] cpu (empty_cpu (length s.timers) s.buckets (are_direct s))
empty-after s cpu = record { size = refl; buckets = refl; direct = refl; queue = empty-for (length s.timers) s.buckets (are_direct s) }

pub opened-after : (s : Script) (r : Replay) → r.callouts.items ≡ map opened s.timers → r.cpus.items ≡ replicate s.cpus (empty_cpu (length s.timers) s.buckets (are_direct s)) → r.scans.items ≡ replicate s.cpus 0 → IsAfter s [] r
opened-after s r callouts cpus scans = record {
  callouts = ap length callouts ∙ length-mapped opened s.timers;
  cpus = ap length cpus ∙ length-replicate s.cpus (empty_cpu (length s.timers) s.buckets (are_direct s));
  counts = ap length scans ∙ length-replicate s.cpus 0;
  callout = λ i alone there. opened-at s.timers i _ alone (ap (λ xs. slice_get xs i) (sym callouts) ∙ there);
  cpu = λ cpu kept there. subst (IsCpuAfter s [] cpu) (sym (copy-at s.cpus cpu (empty_cpu (length s.timers) s.buckets (are_direct s)) kept (ap (λ xs. slice_get xs cpu) (sym cpus) ∙ there))) (empty-after s cpu);
  scans = λ cpu below. ap (λ xs. get_or xs cpu 0) scans ∙ zero-at s.cpus cpu;
}
