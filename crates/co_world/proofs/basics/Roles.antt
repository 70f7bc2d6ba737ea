-- Which actor has which role.
use Rattle.std.proofs.Common.{◌≡◌, ℕ, zero, suc, ◌+◌, ◌-◌, ◌*◌, ◌≤◌, ◌<◌, Bool, true, false, cond, List, [], ◌∷◌, map, refl, sym, ap, subst, ◌∙◌, arith, le-ltb, lt-ltb, ltb-true, ltb-false, eqb-true, eq-eqb}
use Rattle.std.specs.Prelude.{◌==◌, nat_lt, get_or, slice_index_or}
use Rattle.co_object.specs.declared.Spec.{Spec}
use Rattle.co_object.specs.History.{server}
use Rattle.co_object.specs.Scan.{is_direct}
use Rattle.co_program.specs.declared.Script.{Script}
use Rattle.co_program.specs.Actors.{role_of, cpu_of, client_count, actor_count}
use Rattle.co_program.specs.declared.Role.{Role}
use Rattle.co_program.specs.declared.Role.TheVariants.{Client, Cpu, Interrupt}
use Rattle.co_program.specs.Action.{spec_at}
use Rattle.co_world.specs.Step.{are_direct}
use Rattle.co_world.specs.Laws.{actors_of}
use Rattle.co_world.proofs.kept.Invariant.{serves_direct}
use Rattle.co_world.proofs.kept.Servers.{IsServer}

-- the number of a role's actor
abbrev pub NumberFits : Script → ℕ → Role → Type 0
NumberFits s a (Client c) = (a ≡ c) × (c < client_count s)
NumberFits s a (Cpu x) = (a ≡ client_count s + x) × (x < s.cpus)
NumberFits s a (Interrupt x) = a ≡ client_count s + s.cpus + x

pub number_fits : (s : Script) (a : ℕ) → NumberFits s a (role_of s a)
number_fits s a = go (nat_lt a (client_count s)) (nat_lt a (client_count s + s.cpus)) refl refl
  where
    go : (b d : Bool) → nat_lt a (client_count s) ≡ b → nat_lt a (client_count s + s.cpus) ≡ d → NumberFits s a (cond b (Client a) (cond d (Cpu (a - client_count s)) (Interrupt (a - client_count s - s.cpus))))
    go true d h k = (refl, ltb-true a (client_count s) h)
    go false true h k =
        let low : client_count s ≤ a = ltb-false a (client_count s) h in
        let high : a < client_count s + s.cpus = ltb-true a (client_count s + s.cpus) k in
        (omega arith, omega arith)
    go false false h k =
        let low : client_count s + s.cpus ≤ a = ltb-false a (client_count s + s.cpus) k in
        omega arith

pub cpu_number : (s : Script) (a x : ℕ) → role_of s a ≡ Cpu x → (a ≡ client_count s + x) × (x < s.cpus)
cpu_number s a x is = subst (NumberFits s a) is (number_fits s a)

pub interrupt_number : (s : Script) (a x : ℕ) → role_of s a ≡ Interrupt x → a ≡ client_count s + s.cpus + x
interrupt_number s a x is = subst (NumberFits s a) is (number_fits s a)

pub role_interrupt : (s : Script) (cpu : ℕ) → role_of s (client_count s + s.cpus + cpu) ≡ Interrupt cpu
role_interrupt s cpu =
    let b : ℕ = client_count s + s.cpus + cpu in
    ap (λ (t : Bool). cond t (Client b) (cond (nat_lt b (client_count s + s.cpus)) (Cpu (b - client_count s)) (Interrupt (b - client_count s - s.cpus)))) (le-ltb b (client_count s) (omega arith))
    ∙ ap (λ (t : Bool). cond t (Cpu (b - client_count s)) (Interrupt (b - client_count s - s.cpus))) (le-ltb b (client_count s + s.cpus) (omega arith))
    ∙ ap Interrupt (let e : b - client_count s - s.cpus ≡ cpu = omega arith in e)

pub role_cpu_of : (s : Script) (cpu : ℕ) → cpu < s.cpus → role_of s (client_count s + cpu) ≡ Cpu cpu
role_cpu_of s cpu within =
    let b : ℕ = client_count s + cpu in
    ap (λ (t : Bool). cond t (Client b) (cond (nat_lt b (client_count s + s.cpus)) (Cpu (b - client_count s)) (Interrupt (b - client_count s - s.cpus)))) (le-ltb b (client_count s) (omega arith))
    ∙ ap (λ (t : Bool). cond t (Cpu (b - client_count s)) (Interrupt (b - client_count s - s.cpus))) (lt-ltb b (client_count s + s.cpus) (omega (arith, within)))
    ∙ ap Cpu (let e : b - client_count s ≡ cpu = omega arith in e)

pub counted : (s : Script) → s.version ≡ 2 → actor_count s ≡ client_count s + 2 * s.cpus
counted s is = ap (λ (t : Bool). cond t (client_count s + 2 * s.cpus) (client_count s + s.cpus)) (eq-eqb s.version 2 is)

-- an interrupt is among the actors in version 2 alone
pub interrupt_version : (s : Script) (a x : ℕ) → a < actor_count s → role_of s a ≡ Interrupt x → (s.version ≡ 2) × (x < s.cpus)
interrupt_version s a x may is = go (s.version == 2) refl may
  where
    go : (b : Bool) → (s.version == 2) ≡ b → a < cond b (client_count s + 2 * s.cpus) (client_count s + s.cpus) → (s.version ≡ 2) × (x < s.cpus)
    go true e h = (eqb-true s.version 2 e, (let n = interrupt_number s a x is in omega arith))
    go false e h = absurd (let n = interrupt_number s a x is in omega arith)

-- two actors of one role are one
pub same_role : (s : Script) (a b : ℕ) → role_of s a ≡ role_of s b → a ≡ b
same_role s a b is = go (role_of s b) (number_fits s b) (subst (NumberFits s a) is (number_fits s a)) where
  go : (r : Role) → NumberFits s b r → NumberFits s a r → a ≡ b
  go (Client c) h k = k.0 ∙ sym h.0
  go (Cpu x) h k = k.0 ∙ sym h.0
  go (Interrupt x) h k = k ∙ sym h

direct_at : (specs : List Spec) (i : ℕ) (d : Spec) → d.direct ≡ false → get_or (map (λ (spec : Spec). spec.direct) specs) i false ≡ (slice_index_or specs i d).direct
direct_at [] i d is = sym is
direct_at (x ∷ xs) zero d is = refl
direct_at (x ∷ xs) (suc i) d is = direct_at xs i d is

pub is_direct_at : (s : Script) (i : ℕ) → is_direct (are_direct s) i ≡ (spec_at s i).direct
is_direct_at s i = direct_at s.timers i _ refl

-- the server of a lane's callouts on its CPU
pub server_of_lane : (s : Script) (a i : ℕ) → IsServer (role_of s a) → is_direct (are_direct s) i ≡ serves_direct (role_of s a) → a ≡ server (actors_of s) (spec_at s i) (cpu_of s (role_of s a))
server_of_lane s a i is lane = go (role_of s a) is (sym (is_direct_at s i) ∙ lane) (number_fits s a) where
  go : (r : Role) → IsServer r → (spec_at s i).direct ≡ serves_direct r → NumberFits s a r → a ≡ server (actors_of s) (spec_at s i) (cpu_of s r)
  go (Client c) h e n = absurd h
  go (Cpu x) h e n = n.0 ∙ ap (λ (b : Bool). cond b (client_count s + s.cpus + x) (client_count s + x)) (sym e)
  go (Interrupt x) h e n = n ∙ ap (λ (b : Bool). cond b (client_count s + s.cpus + x) (client_count s + x)) (sym e)
