-- A script that fits has all that a run on threads needs: the locks that it names exist, and a service takes its parameters.
use Rattle.std.proofs.Common.{◌≡◌, ℕ, zero, suc, Bool, true, false, not, ◌&&◌, ◌||◌, List, [], ◌∷◌, length, refl, subst, inl, inr, arith}
use Rattle.std.specs.Prelude.{◌==◌, ◌⊎◌, Option, Some, None, slice_get, slice_index_or}
use Rattle.std.specs.List.{list_all, AllByRecursion}
use Rattle.std.proofs.lemmas.Bool.{ltb-true, eqb-true}
use Rattle.std.proofs.lemmas.List.Elements.{All-from_recursion}
use Rattle.co_object.specs.declared.LockUse.{LockUse}
use Rattle.co_object.specs.declared.LockUse.TheVariants.{Free, Mtx, Rw, RwShared}
use Rattle.co_object.specs.declared.Spec.{Spec}
use Rattle.co_object.proofs.Changes.{both_true}
use Rattle.co_lock.specs.declared.Held.{Held}
use Rattle.co_lock.specs.declared.LockKind.{LockKind}
use Rattle.co_lock.specs.declared.LockKind.TheVariants as lock
use Rattle.co_lock.specs.Service.{hold_of}
use Rattle.co_program.specs.declared.Act.{Act}
use Rattle.co_program.specs.declared.Act.TheVariants as act
use Rattle.co_program.specs.declared.Script.{Script}
use Rattle.co_program.specs.declared.Task.TheVariants.{Does}
use Rattle.co_grammar.specs.declared.Kind.TheVariants as kind
use Rattle.co_grammar.specs.Checks.{values_fit, act_kind_fits, is_rw, spec_exists, spec_kind_fits}
use Rattle.co_script.specs.Fits.{fits, is_free, spec_fits}
use Rattle.co_script.proofs.parts.Fitting.{fitting}
use Rattle.co_script.proofs.Standing.{each-act}
use Rattle.co_script.proofs.Accepted.{fits-accepted}
use Rattle.co_desk.specs.Params.{AreParams, IsSpec}
use Rattle.co_run.specs.Acting.{HasLocks, HeldExists, TaskLocks, params_of}

-- ---- the locks that acts take

rw-there : (o : Option LockKind) → is_rw o ≡ true → o ≡ Some lock.Rw
rw-there None h = cc
rw-there (Some lock.Mtx) h = cc
rw-there (Some lock.Rw) h = refl

act-locks : (s : Script) (a : Act) → values_fit (length s.funcs) s a ≡ true → act_kind_fits s a ≡ true → TaskLocks s (Does a)
act-locks s (act.Lock l) there kind-is = ltb-true l (length s.locks) there
act-locks s (act.ReadLock l) there kind-is = rw-there (slice_get s.locks l) kind-is
act-locks s a there kind-is = tt

-- ---- the callouts

use-locks : (s : Script) (use_of : LockUse) → spec_exists s use_of ≡ true → spec_kind_fits s use_of ≡ true → (held : Held) → hold_of use_of ≡ Some held → HeldExists s.locks held
use-locks s Free there kind-is held is = cc
use-locks s (Mtx l) there kind-is held is = subst (HeldExists s.locks) (some_same (record { id = l; exclusive = true }) held is) (ltb-true l (length s.locks) there) where
  some_same : (a b : Held) → Some a ≡ Some b → a ≡ b
  some_same a b e = cc
use-locks s (Rw l) there kind-is held is = subst (HeldExists s.locks) (some_same (record { id = l; exclusive = true }) held is) (ltb-true l (length s.locks) there) where
  some_same : (a b : Held) → Some a ≡ Some b → a ≡ b
  some_same a b e = cc
use-locks s (RwShared l) there kind-is held is = subst (HeldExists s.locks) (some_same (record { id = l; exclusive = false }) held is) (rw-there (slice_get s.locks l) kind-is) where
  some_same : (a b : Held) → Some a ≡ Some b → a ≡ b
  some_same a b e = cc

-- what a callout keeps that fits
record Fitting (s : Script) (x : Spec) : Type 0 where
  pub locks : (held : Held) → hold_of x.lock ≡ Some held → HeldExists s.locks held
  pub spec : IsSpec s.version x

spec-parts : (s : Script) (x : Spec) → spec_fits s x ≡ true → Fitting s x
spec-parts s x h =
    let one = both_true (spec_exists s x.lock) (spec_kind_fits s x.lock && (not (is_free x.lock && x.returns_unlocked) && (not x.direct || (is_free x.lock && (s.version == 2))))) h in
    let two = both_true (spec_kind_fits s x.lock) (not (is_free x.lock && x.returns_unlocked) && (not x.direct || (is_free x.lock && (s.version == 2)))) one.1 in
    let three = both_true (not (is_free x.lock && x.returns_unlocked)) (not x.direct || (is_free x.lock && (s.version == 2))) two.1 in
    record {
      locks = use-locks s x.lock one.0 two.0;
      spec = record {
        unlocked = λ free. unlocked x.lock free x.returns_unlocked three.0;
        free = free x.direct x.lock (s.version == 2) three.1;
        later = λ first. later s.version first x.direct (is_free x.lock) three.1;
      };
    } where
      unlocked : (l : LockUse) → l ≡ Free → (b : Bool) → not (is_free l && b) ≡ true → b ≡ false
      unlocked Free is true h = cc
      unlocked Free is false h = refl
      unlocked (Mtx l) is b h = cc
      unlocked (Rw l) is b h = cc
      unlocked (RwShared l) is b h = cc

      free : (d : Bool) (l : LockUse) (v : Bool) → (not d || (is_free l && v)) ≡ true → (d ≡ false) ⊎ (l ≡ Free)
      free false l v h = inl refl
      free true Free v h = inr refl
      free true (Mtx l) v h = cc
      free true (Rw l) v h = cc
      free true (RwShared l) v h = cc

      later : (v : ℕ) → v ≡ 1 → (d f : Bool) → (not d || (f && (v == 2))) ≡ true → d ≡ false
      later v is false f h = refl
      later v is true f h = let two = both_true f (v == 2) h in let never : v ≡ 2 = eqb-true v 2 two.1 in absurd (omega (arith, is, never))

all-specs : (s : Script) (timers : List Spec) → list_all (spec_fits s) timers ≡ true → AllByRecursion (IsSpec s.version) timers
all-specs s [] h = tt
all-specs s (x ∷ timers) h = let both = both_true (spec_fits s x) (list_all (spec_fits s) timers) h in ((spec-parts s x both.0).spec, all-specs s timers both.1)

spec-locks : (s : Script) (timers : List Spec) → list_all (spec_fits s) timers ≡ true → (i : ℕ) (held : Held) →
    hold_of (slice_index_or timers i (record { lock = Free; returns_unlocked = false; direct = false })).lock ≡ Some held → HeldExists s.locks held
spec-locks s [] h i held is = cc
spec-locks s (x ∷ timers) h zero held is = (spec-parts s x (both_true (spec_fits s x) (list_all (spec_fits s) timers) h).0).locks held is
spec-locks s (x ∷ timers) h (suc i) held is = spec-locks s timers (both_true (spec_fits s x) (list_all (spec_fits s) timers) h).1 i held is

-- ---- the whole

pub fits_locks : (s : Script) → fits s ≡ true → HasLocks s
fits_locks s h = let f = fitting s h in record { clients = each-act s kind.Client (λ a. TaskLocks s (Does a)) (λ a stands. act-locks s a stands.values stands.kind) s.clients f.clients; specs = spec-locks s s.timers f.specs }

pub fits_params : (s : Script) → fits s ≡ true → AreParams (params_of s)
fits_params s h =
    let ok = fits-accepted s h in
    record {
      version = ok.version;
      clients = ok.few_clients;
      cpus = ok.cpus;
      buckets = ok.buckets;
      size = ok.timers;
      specs = All-from_recursion (IsSpec s.version) s.timers (all-specs s s.timers (fitting s h).specs);
    }
