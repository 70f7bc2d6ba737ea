-- The services that the tests play on, and their actors.
use Rattle.std.proofs.Common.{◌≡◌, inl, inr, ℕ, zero, suc, ◌+◌, ◌-◌, ◌≤◌, ◌==◌, Bool, true, false, cond, List, [], ◌∷◌, length, refl, replicate, sym, ◌∙◌, subst, arith}
use Rattle.std.specs.Prelude.{◌⊎◌, slice_index_or}
use Rattle.std.specs.List.{All}
use Rattle.std.proofs.lemmas.List.Elements.{All-nil, All-cons, All-head, All-replicate, All-tail}
use Rattle.std.specs.declared.option.Option.TheVariants.{Some}
use Rattle.co_object.specs.declared.spec.LockUse.TheVariants.{Free, Mtx}
use Rattle.co_object.specs.declared.spec.Spec.{Spec}
use Rattle.co_desk.specs.declared.params.Params.{Params}
use Rattle.co_desk.specs.Params.{AreParams, IsSpec, no_spec}
use Rattle.service_cases.specs.Scenes.{IsFreeSpec, IsLocked, IsScene}
use Rattle.co_object.specs.Queue.{Due}
use Rattle.co_desk.specs.Services.{IsServing}
use Rattle.co_desk.specs.Serving.{ServiceStage}
use Rattle.co_desk.specs.Views.{PassesView}

-- ---- the callouts

abbrev pub free_of : Bool → Spec
free_of direct = record { lock = Free; returns_unlocked = false; direct = direct }

pub all_free : (version n : ℕ) (direct : Bool) → (version ≡ 1 → direct ≡ false) → All (IsFreeSpec version) (replicate n (free_of direct))
all_free version n direct later = All-replicate (IsFreeSpec version) n (free_of direct) (record {
  lock = refl;
  allowed = record { unlocked = λ _. refl; free = inr refl; later = later };
})

free_at : (version : ℕ) (specs : List Spec) (i : ℕ) → All (IsFreeSpec version) specs → (slice_index_or specs i no_spec).lock ≡ Free
free_at version [] i all = refl
free_at version (s ∷ specs) zero all = (All-head (IsFreeSpec version) s specs all).lock
free_at version (s ∷ specs) (suc i) all = free_at version specs i (All-tail (IsFreeSpec version) s specs all)

one_or_two : (version : ℕ) → 1 ≤ version → version ≤ 2 → (version ≡ 1) ⊎ (version ≡ 2)
one_or_two zero some few = absurd (omega arith)
one_or_two (suc zero) some few = inl refl
one_or_two (suc (suc zero)) some few = inr refl
one_or_two (suc (suc (suc n))) some few = absurd (omega arith)

abbrev scene : (version cpus : ℕ) (specs : List Spec) → Params
scene version cpus specs = record { version = version; clients = 1; cpus = cpus; buckets = 16; specs = specs }

module _ (version cpus n : ℕ) (specs : List Spec) (size : length specs ≡ n) (all : All (IsFreeSpec version) specs) where
  pub scene_allowed : 1 ≤ version → version ≤ 2 → 1 ≤ cpus → cpus ≤ 16 → 1 ≤ n → n ≤ 1024 → AreParams (scene version cpus specs)
  scene_allowed some few some_cpus few_cpus some_callouts few_callouts = record {
    version = one_or_two version some few;
    clients = omega arith;
    cpus = (some_cpus, few_cpus);
    buckets = (omega arith, omega arith, (4, refl));
    size = (omega arith, omega arith);
    specs = λ k d below. (all k d below).allowed;
  }

  pub scene_is : (p : Params) → p ≡ scene version cpus specs → IsScene version cpus n (cond (version == 1) (1 + cpus) (1 + (cpus + cpus))) p
  scene_is p is = subst (IsScene version cpus n (cond (version == 1) (1 + cpus) (1 + (cpus + cpus)))) (sym is) (record {
    version_is = refl;
    clients = refl;
    cpus_are = refl;
    size = size;
    free = λ i. free_at version specs i all;
    actors_are = count (version == 1);
  }) where
    count : (b : Bool) → 1 + cond b cpus (cpus + cpus) ≡ cond b (1 + cpus) (1 + (cpus + cpus))
    count true = refl
    count false = refl

-- ---- a callout with a mutex

abbrev locked : Spec
locked = record { lock = Mtx 0; returns_unlocked = false; direct = false }

abbrev locked_scene : List Spec → Params
locked_scene specs = record { version = 1; clients = 1; cpus = 1; buckets = 16; specs = specs }

pub locked_allowed : AreParams (locked_scene (locked ∷ []))
locked_allowed = record {
  version = inl refl;
  clients = omega arith;
  cpus = (omega arith, omega arith);
  buckets = (omega arith, omega arith, (4, refl));
  size = (omega arith, omega arith);
  specs = All-cons (IsSpec 1) locked [] (record { unlocked = λ _. refl; free = inl refl; later = λ _. refl }) (All-nil (IsSpec 1));
}

pub locked_is : (p : Params) → p ≡ locked_scene (locked ∷ []) → IsLocked p
locked_is p here = subst IsLocked (sym here) (record {
  version_is = refl;
  clients = refl;
  cpus_are = refl;
  size = refl;
  lock = refl;
  actors_are = refl;
})

-- an actor has one arming in service
pub same_due : (direct : Bool) (q : PassesView) (cpu : ℕ) (d e : Due) (v w : ServiceStage) → IsServing direct q cpu d v → IsServing direct q cpu e w → d ≡ e
same_due direct q cpu d e v w a b = let both : Some d ≡ Some e = sym a.serves ∙ b.serves in cc
