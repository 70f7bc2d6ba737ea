-- The script is an accepted one: its lists have two items at most, so that a number names one of these or nothing.
use Rattle.std.proofs.Common.{◌≡◌, ℕ, zero, suc, ◌≤◌, true, false, List, [], ◌∷◌, length, refl, subst, arith, inl}
use Rattle.std.specs.List.{AllByRecursion}
use Rattle.co_object.specs.declared.Spec.{Spec}
use Rattle.co_object.specs.declared.LockUse.TheVariants.{Free}
use Rattle.co_program.specs.declared.act.Act.{Act}
use Rattle.co_program.specs.declared.act.Act.TheVariants.{Reset, Stop, Active}
use Rattle.co_program.specs.declared.act.Who.TheVariants.{Me}
use Rattle.co_program.specs.declared.act.When.TheVariants.{After}
use Rattle.co_program.specs.declared.act.Where.TheVariants.{Home}
use Rattle.co_program.specs.declared.script.Script.{Script}
use Rattle.co_program.specs.Actors.{acts_at}
use Rattle.co_program.specs.Action.{spec_at}
use Rattle.co_program.specs.Scripts.{IsScript, is_call, is_tick, names_exist}
use Rattle.object_cases.proofs.tests.functions.worked_script.Goals as goal

abbrev arms : ℕ → ℕ → List Act
arms span zero_time = Reset Me 0 (After span) 0 Home zero_time ∷ Stop Me ∷ []

abbrev script : Spec → ℕ → ℕ → Script
script spec span zero_time =
    record {
      version = 1;
      hz = 1000;
      cpus = 1;
      buckets = 256;
      locks = [];
      timers = spec ∷ [];
      funcs = arms span zero_time ∷ (Active Me ∷ []) ∷ [];
      clients = [];
      ticks = [] ∷ [];
      turns = [];
    }

module _ (P : Act → Type 0) (acts more : List Act) where
  all_at : AllByRecursion P acts → AllByRecursion P more → (i : ℕ) → AllByRecursion P (acts_at (acts ∷ more ∷ []) i)
  all_at all others zero = all
  all_at all others (suc zero) = others
  all_at all others (suc (suc i)) = tt

none_at : (P : Act → Type 0) (i : ℕ) → AllByRecursion P (acts_at [] i)
none_at P i = tt

empty_at : (P : Act → Type 0) (i : ℕ) → AllByRecursion P (acts_at ([] ∷ []) i)
empty_at P zero = tt
empty_at P (suc i) = tt

short_at : (i : ℕ) → length (acts_at ([] ∷ []) i) ≤ 65536
short_at zero = omega arith
short_at (suc i) = omega arith

pub few_at : (span zero_time i : ℕ) → length (acts_at (arms span zero_time ∷ (Active Me ∷ []) ∷ []) i) ≤ 2
few_at span zero_time zero = omega arith
few_at span zero_time (suc zero) = omega arith
few_at span zero_time (suc (suc i)) = omega arith

direct_at : (spec : Spec) (span zero_time i : ℕ) → spec.direct ≡ false → (spec_at (script spec span zero_time) i).direct ≡ true → (spec_at (script spec span zero_time) i).lock ≡ Free
direct_at spec span zero_time zero plain direct = cc
direct_at spec span zero_time (suc i) plain direct = refl

accepted : (spec : Spec) (span zero_time : ℕ) → spec.direct ≡ false → IsScript (script spec span zero_time)
accepted spec span zero_time plain =
    let s = script spec span zero_time in
    record {
      version = inl refl;
      hz = (omega arith, omega arith);
      cpus = (omega arith, omega arith);
      buckets = (omega arith, omega arith, (8, refl));
      timers = (omega arith, omega arith);
      direct = λ i. direct_at spec span zero_time i plain;
      few_clients = omega arith;
      ticks = empty_at (λ act. is_tick act ≡ true);
      clients = none_at (λ act. is_tick act ≡ false);
      funcs = all_at (λ act. is_call act ≡ true) (arms span zero_time) (Active Me ∷ []) (refl, (refl, tt)) (refl, tt);
      clients_name = none_at (λ act. names_exist (script spec span zero_time) act ≡ true);
      funcs_name = all_at (λ act. names_exist (script spec span zero_time) act ≡ true) (arms span zero_time) (Active Me ∷ []) (refl, (refl, tt)) (refl, tt);
      short_clients = λ i. omega arith;
      short_ticks = short_at;
      short_funcs = λ i. let few = few_at span zero_time i in omega arith;
      turns = tt;
    }

pub returns : goal.returns
returns g c =
    let made : Script =
    record {
      version = 1;
      hz = 1000;
      cpus = 1;
      buckets = 256;
      locks = c.new-2.result;
      timers = c.one-timers.result;
      funcs = c.two-funcs.result;
      clients = c.new-3.result;
      ticks = c.one-ticks.result;
      turns = c.new-4.result;
    }
    in
    let span = c.seconds.result in
    let zero_time = c.zero.result in
    let same : script c.args.spec span zero_time ≡ made =
    cc (
      c.new.ensures,
      c.new-2.ensures,
      c.new-3.ensures,
      c.new-4.ensures,
      c.one-timers.ensures,
      c.two-funcs.ensures,
      c.two-arms.ensures,
      c.one-asks.ensures,
      c.one-ticks.ensures,
    )
    in
    let Worked : Script → Type 0 = λ s. IsScript s × (length s.timers ≡ 1) × (s.cpus ≡ 1) × ((func : ℕ) → length (acts_at s.funcs func) ≤ 2) in
    subst Worked same (accepted c.args.spec span zero_time c.requires, refl, refl, few_at span zero_time)
