-- What the tests run can run.
use Rattle.std.proofs.Common.{◌≡◌, true, [], ◌∷◌, List, refl, sym, subst, inl, arith}
use Rattle.std.proofs.lemmas.List.Elements.{All-nil, All-cons}
use Rattle.co_object.specs.declared.spec.Spec.{Spec}
use Rattle.co_program.specs.declared.script.Script.{Script}
use Rattle.co_script.specs.Fits.{fits}
use Rattle.co_script.proofs.Accepted.{fits-accepted}
use Rattle.co_desk.specs.Params.{AreParams, IsSpec}
use Rattle.co_run.proofs.FittingScripts.{fits_locks, fits_params}
use Rattle.run_cases.specs.Scenes.{CanRun, free_spec}

-- a script that fits can run
pub fitting_can_run : (s : Script) → fits s ≡ true → CanRun s
fitting_can_run s is = record { script = fits-accepted s is; locks = fits_locks s is; params = fits_params s is }

free_allowed : IsSpec 1 free_spec
free_allowed = record { unlocked = λ _. refl; free = inl refl; later = λ _. refl }

-- a service of two clients is within the limits
pub two_clients_allowed : (specs : List Spec) → specs ≡ free_spec ∷ free_spec ∷ [] → AreParams (record { version = 1; clients = 2; cpus = 3; buckets = 16; specs = specs })
two_clients_allowed specs is = subst (λ (l : List Spec). AreParams (record { version = 1; clients = 2; cpus = 3; buckets = 16; specs = l })) (sym is) (record {
  version = inl refl;
  clients = omega arith;
  cpus = (omega arith, omega arith);
  buckets = (omega arith, omega arith, (4, refl));
  size = (omega arith, omega arith);
  specs = All-cons (IsSpec 1) free_spec (free_spec ∷ []) free_allowed (All-cons (IsSpec 1) free_spec [] free_allowed (All-nil (IsSpec 1)));
})
