-- The plain world of a script opens sound, and so every schedule leaves it.
use Rattle.std.proofs.Common.{◌≡◌, ℕ, zero, suc, ◌⊎◌, inl, inr, Bool, true, false, cond, List, [], ◌∷◌, length, map, refl, sym, ap, ◌∙◌, arith, None, eqb-true, eq-eqb}
use Rattle.std.specs.Prelude.{◌==◌}
use Rattle.std.specs.List.{AllByRecursion}
use Rattle.std.proofs.lemmas.List.{length-map}
use Rattle.co_object.specs.Queue.{empty_queue}
use Rattle.co_program.specs.declared.Script.{Script}
use Rattle.co_program.specs.declared.Act.{Act}
use Rattle.co_program.specs.declared.Act.TheVariants.{Tick}
use Rattle.co_program.specs.Actors.{role_of, acts_at, softs, program_of}
use Rattle.co_program.specs.declared.Task.TheVariants.{Does}
use Rattle.co_program.specs.declared.Role.{Role}
use Rattle.co_program.specs.declared.Role.TheVariants.{Client, Cpu, Interrupt}
use Rattle.co_program.specs.Stages.{Ready}
use Rattle.co_program.specs.Scripts.{IsScript, is_tick}
use Rattle.co_world.specs.World.{open_world}
use Rattle.co_world.specs.Laws.{reached, IsSchedule}
use Rattle.co_world.proofs.kept.Invariant.{Holds, HoldFits, IsTaskOf, AreSoft, serving_of}
use Rattle.co_world.proofs.legal.Owners.{owned_open}
use Rattle.co_world.proofs.kept.BySteps.{IsSteady, run_steady}

pub length_softs : (j n : ℕ) → length (softs j n) ≡ n
length_softs j zero = refl
length_softs j (suc n) = ap suc (length_softs (suc j) n)

-- ---- tasks

client_tasks : (s : Script) (c : ℕ) (acts : List Act) → AllByRecursion (λ act. is_tick act ≡ false) acts → AllByRecursion (IsTaskOf s (Client c)) (map Does acts)
client_tasks s c [] h = tt
client_tasks s c (act ∷ acts) h = (client_task act h.0, client_tasks s c acts h.1) where
  client_task : (act : Act) → is_tick act ≡ false → IsTaskOf s (Client c) (Does act)
  client_task (Tick time) h = cc
  client_task act h = tt

interrupt_tasks : (s : Script) (x : ℕ) (acts : List Act) → AllByRecursion (λ act. is_tick act ≡ true) acts → AllByRecursion (IsTaskOf s (Interrupt x)) (map Does acts)
interrupt_tasks s x [] h = tt
interrupt_tasks s x (act ∷ acts) h = (interrupt_task act h.0, interrupt_tasks s x acts h.1) where
  interrupt_task : (act : Act) → is_tick act ≡ true → IsTaskOf s (Interrupt x) (Does act)
  interrupt_task (Tick time) h = tt
  interrupt_task act h = cc

cpu_tasks : (s : Script) (x : ℕ) (acts : List Act) → s.version ≡ 1 → AllByRecursion (λ act. is_tick act ≡ true) acts → AllByRecursion (IsTaskOf s (Cpu x)) (map Does acts)
cpu_tasks s x [] one h = tt
cpu_tasks s x (act ∷ acts) one h = (cpu_task act h.0, cpu_tasks s x acts one h.1) where
  cpu_task : (act : Act) → is_tick act ≡ true → IsTaskOf s (Cpu x) (Does act)
  cpu_task (Tick time) h = one
  cpu_task act h = cc

soft_tasks : (s : Script) (x j n : ℕ) → s.version ≡ 2 → AllByRecursion (IsTaskOf s (Cpu x)) (softs j n)
soft_tasks s x j zero two = tt
soft_tasks s x j (suc n) two = (two, soft_tasks s x (suc j) n two)

open_tasks : (s : Script) → IsScript s → (role : Role) → AllByRecursion (IsTaskOf s role) (program_of s role)
open_tasks s ok (Client c) = client_tasks s c (acts_at s.clients c) (ok.clients c)
open_tasks s ok (Interrupt x) = interrupt_tasks s x (acts_at s.ticks x) (ok.ticks x)
open_tasks s ok (Cpu x) = go (s.version == 2) refl ok.version where
  go : (b : Bool) → (s.version == 2) ≡ b → (s.version ≡ 1) ⊎ (s.version ≡ 2) → AllByRecursion (IsTaskOf s (Cpu x)) (cond b (softs 0 (length (acts_at s.ticks x))) (map Does (acts_at s.ticks x)))
  go true e v = soft_tasks s x 0 (length (acts_at s.ticks x)) (eqb-true s.version 2 e)
  go false e (inl one) = cpu_tasks s x (acts_at s.ticks x) one (ok.ticks x)
  go false e (inr two) = absurd (let yes' : (s.version == 2) ≡ true = eq-eqb s.version 2 two in let clash : true ≡ false = sym yes' ∙ e in cc)

open_soft : (s : Script) (role : Role) → AreSoft s role (program_of s role)
open_soft s (Client c) = tt
open_soft s (Interrupt x) = tt
open_soft s (Cpu x) = λ two. (
    let program : program_of s (Cpu x) ≡ softs 0 (length (acts_at s.ticks x)) = ap (λ (b : Bool). cond b (softs 0 (length (acts_at s.ticks x))) (map Does (acts_at s.ticks x))) (eq-eqb s.version 2 two) in
    let long : length (program_of s (Cpu x)) ≡ length (acts_at s.ticks x) = ap length program ∙ length_softs 0 (length (acts_at s.ticks x)) in
    (0, (omega (arith, long)), program ∙ ap (softs 0) (sym long))
    )

-- ---- the opening

open_hold : (s : Script) (role : Role) → HoldFits s role None Ready
open_hold s (Client c) = tt
open_hold s (Cpu x) = refl
open_hold s (Interrupt x) = refl

open_busy : (s : Script) (role : Role) → serving_of empty_queue role ≡ false
open_busy s (Client c) = refl
open_busy s (Cpu x) = refl
open_busy s (Interrupt x) = refl

open_long : (s : Script) (cpu : ℕ) (role : Role) → role ≡ Interrupt cpu → length (program_of s role) ≡ length (acts_at s.ticks cpu)
open_long s cpu role is = ap (λ (r : Role). length (program_of s r)) is ∙ length-map (acts_at s.ticks cpu) Does

pub open_holds : (s : Script) → IsScript s → Holds s (open_world s) None
open_holds s ok = record {
  roles = λ a. record { tasks = open_tasks s ok (role_of s a); soft = open_soft s (role_of s a); hold = open_hold s (role_of s a); acts = tt; draining = tt; lane = tt };
  lanes = λ cpu. record { expired = tt; urgent = tt; once = λ i. omega arith };
  busy = λ b. open_busy s (role_of s b);
  serving = record { serves = λ b. tt; served = λ i cpu is. cc };
  carried = record { moves = λ b p is. cc; once = λ b d p r is it same. cc; apart = λ b p cpu is. refl; away = λ i cpu is. refl; entries = λ cpu. record { content = tt; expired = tt; urgent = tt }; listed = λ i cpu is. cc };
  ticking = λ b cpu two role. (let long = open_long s cpu (role_of s b) role in (omega (arith, long), omega arith));
}

pub open_steady : (s : Script) → IsScript s → IsSteady s (open_world s)
open_steady s ok = record { good = record { holds = open_holds s ok; owned = owned_open s }; between = λ b. tt }

-- every schedule leaves the world sound
pub reached_steady : (s : Script) → IsScript s → (schedule : List ℕ) → IsSchedule s schedule → IsSteady s (reached s schedule)
reached_steady s ok schedule may = run_steady s ok schedule (open_world s) may (open_steady s ok)
