-- A service for threads is within the limits.
use Rattle.std.proofs.Common.{◌≡◌, ℕ, zero, suc, ◌+◌, ◌*◌, ◌<◌, ◌≤◌, List, [], ◌∷◌, length, take, refl, sym, subst, ◌∙◌, arith, inl}
use Rattle.std.specs.Prelude.{slice_index_or}
use Rattle.std.specs.List.{All}
use Rattle.std.proofs.lemmas.List.{get_or-take, length-take}
use Rattle.std.proofs.lemmas.List.Elements.{All-weaker, All-head, All-tail}
use Rattle.co_object.specs.declared.spec.Spec.{Spec}
use Rattle.co_object.specs.declared.spec.LockUse.TheVariants.{Free}
use Rattle.co_desk.specs.declared.params.Params.{Params}
use Rattle.co_desk.specs.Name.{ServiceName}
use Rattle.co_desk.specs.Params.{AreParams, IsSpec, actor_count, no_spec}
use Rattle.co_desk.specs.Views.{PassesView}
use Rattle.co_desk.proofs.Items.{get_or_of}
use Rattle.co_service.specs.Booted.{AreBooted, booted}
use Rattle.callout_bench.specs.declared.work.Work.{Work}
use Rattle.callout_bench.specs.Team.{IsClient, IsPlain, IsTeam}

abbrev team : Work → List Spec → Params
team work specs = record { version = 1; clients = work.threads; cpus = work.threads + 1; buckets = 16; specs = specs }

pub team_params : (work : Work) (specs : List Spec) → (1 ≤ work.threads) × (work.threads ≤ 15) → length specs ≡ work.threads * 16 → All IsPlain specs → AreParams (team work specs)
team_params work specs some size plain = record {
  version = inl refl;
  clients = (let most = some.1 in omega arith);
  cpus = (let most = some.1 in (omega arith, omega arith));
  buckets = (omega arith, omega arith, (4, refl));
  size = (let (least, most) = some in (omega arith, omega arith));
  specs = All-weaker IsPlain (IsSpec 1) (λ spec is. is.allowed) specs plain;
}

plain_free : (specs : List Spec) (i : ℕ) → All IsPlain specs → (slice_index_or specs i no_spec).lock ≡ Free
plain_free [] i plain = refl
plain_free (x ∷ xs) zero plain = (All-head IsPlain x xs plain).lock
plain_free (x ∷ xs) (suc i) plain = plain_free xs i (All-tail IsPlain x xs plain)

pub team_is : (work : Work) (p : Params) (specs : List Spec) → length specs ≡ work.threads * 16 → All IsPlain specs → p ≡ team work specs → IsTeam work p
team_is work p specs size plain e = subst (IsTeam work) (sym e) (record {
  version_is = refl;
  clients = refl;
  cpus = refl;
  size = size;
  free = λ i. plain_free specs i plain;
})

-- the first passes of a boot are those of the clients
pub clients_are : (name : ServiceName) (p : Params) (all : List PassesView) → AreBooted name p all → All (IsClient name p) (take p.clients all)
clients_are name p all are k x inside =
    let size = length-take p.clients all in
    let below : k < p.clients = omega (arith, size, inside) in
    let some : k < actor_count p = omega (arith, below) in
    let is = get_or-take p.clients all k x below ∙ get_or_of all k x (booted name p k) (are.each k some) in
    subst (IsClient name p) (sym is) (record { of = record { name_is = refl; params_are = refl }; number = below })
