-- What a service with one actor is before its first call.
use Rattle.std.proofs.Common.{◌≡◌, ℕ, false, List, [], ◌∷◌, map, length, get_or, zero, suc, replicate, refl, ap, sym, subst, ◌∙◌}
use Rattle.std.proofs.lemmas.List.{length-map}
use Rattle.co_life.specs.Identity.{LifeId}
use Rattle.co_object.specs.Callout.{opening}
use Rattle.co_object.specs.History.{state}
use Rattle.co_object.specs.Journal.{queue}
use Rattle.co_object.specs.Queue.{Queue, empty_queue}
use Rattle.co_service.specs.Booted.{booted}
use Rattle.co_service.specs.Fresh.{AreNamed}
use Rattle.co_desk.specs.Name.{ServiceName}
use Rattle.co_desk.specs.declared.params.Params.{Params}
use Rattle.co_desk.specs.Params.{directs, no_spec}
use Rattle.co_desk.specs.Services.{IsFree}
use Rattle.co_desk.specs.Stories.{IsHistory, IsJournal}
use Rattle.co_desk.specs.Views.{PassesView, seen_of, journal_seen}
use Rattle.co_service.proofs.Lasts.{booted_free}
use Rattle.co_single.specs.Acts.{IsNew}
use Rattle.co_single.specs.Alarms.{alarm_of, callout_seen, queue_in, gos, scan_times}
use Rattle.co_single.specs.Rest.{HasNoService, IsCalm, ArmingStands, nowhere}
use Rattle.co_single.specs.Seen.{single_params, AreSingle}
use Rattle.co_single.proofs.Queues.{numbers}

nothing_at : {E : Type 0} (ls : List LifeId) (i : ℕ) → get_or (map {B = List E} (λ _. []) ls) i [] ≡ []
nothing_at [] i = refl
nothing_at (l ∷ ls) zero = refl
nothing_at (l ∷ ls) (suc i) = nothing_at ls i

pub length-replicate : {X : Type 0} (n : ℕ) (x : X) → length (replicate n x) ≡ n
length-replicate zero x = refl
length-replicate (suc n) x = ap suc (length-replicate n x)

opened : IsCalm (opening 0)
opened = record { live = refl; run = refl; waiting = refl; adrain = refl; home = refl; armed = tt }

module _ (n : ℕ) (name : ServiceName) (params : Params) (named : AreNamed name params) (are : params ≡ single_params n) where
  abbrev p : PassesView
  p = booted name params 0

  timers_none : (i : ℕ) → seen_of p i ≡ []
  timers_none i = nothing_at name.timers i

  cpus_none : (cpu : ℕ) → journal_seen p cpu ≡ []
  cpus_none cpu = nothing_at name.cpus cpu

  callout_is : (i : ℕ) → callout_seen p i ≡ opening 0
  callout_is i = ap (state no_spec) (timers_none i)

  queue_is : queue_in p ≡ empty_queue
  queue_is = ap (queue 256 (directs params)) (cpus_none 0)

  timers_count : length p.timers ≡ n
  timers_count = length-map name.timers (λ _. []) ∙ (named.timers ∙ (ap (λ x. length x.specs) are ∙ length-replicate n no_spec))

  pub new_single : AreSingle n p
  new_single = record {
    params = are;
    actor = refl;
    timers = timers_count;
    cpus = length-map name.cpus (λ _. []) ∙ (named.cpus ∙ ap (λ x. x.cpus) are);
    legal = record {
      timers = λ i. subst (IsHistory params i) (sym (timers_none i)) (record { legal = tt });
      cpus = λ cpu. subst (IsJournal params cpu) (sym (cpus_none cpu)) (record { legal = tt });
    };
  }

  pub new_free : IsFree false p 0
  new_free = subst (λ x. IsFree false (booted name x 0) 0) (sym are) (booted_free name (single_params n) false 0)

  pub is_new : IsNew n p
  is_new = record {
    count = timers_count;
    alarms = λ i. ap (λ s. alarm_of s.armed) (callout_is i);
    made = λ i. ap (λ s. s.made) (callout_is i);
    fired = λ i. ap gos (timers_none i);
    scans = ap scan_times (cpus_none 0);
    clock = ap (λ (x : Queue). x.last) queue_is;
    waiting = ap (λ (x : Queue). numbers x.expired) queue_is;
  }

  pub rests_new : HasNoService p
  rests_new = record {
    calm = λ i. subst IsCalm (sym (callout_is i)) opened;
    serving = ap (λ (x : Queue). x.serving) queue_is;
    urgent = ap (λ (x : Queue). x.urgent) queue_is;
    placed = λ i. subst (λ x. ArmingStands x i (callout_seen p i).armed) (sym queue_is) (subst (λ s. ArmingStands empty_queue i s.armed) (sym (callout_is i)) (nowhere refl refl));
  }
