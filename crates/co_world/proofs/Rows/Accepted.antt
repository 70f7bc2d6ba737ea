-- The scripts of two worked rows are such as the laws speak of.
use Rattle.std.proofs.Common.{◌≡◌, ◌≤◌, ℕ, zero, suc, true, false, List, [], ◌∷◌, length, inl, inr, refl, arith, lit≤, lit<}
use Rattle.std.specs.List.{AllByRecursion}
use Rattle.std.specs.Prelude.{slice_index_or}
use Rattle.co_object.specs.declared.Spec.{Spec}
use Rattle.co_object.specs.declared.LockUse.TheVariants.{Free}
use Rattle.co_program.specs.declared.Act.{Act}
use Rattle.co_program.specs.Actors.{acts_at}
use Rattle.co_program.specs.Scripts.{IsScript, is_tick, is_call, names_exist}
use Rattle.co_world.proofs.Rows.OneFiring as one_firing
use Rattle.co_world.proofs.Rows.BothLanes as both_lanes

-- what holds of each list of acts, and of none, holds of the list of any number
pub list_at : (P : List Act → Type 0) (lists : List (List Act)) → P [] → AllByRecursion P lists → (i : ℕ) → P (acts_at lists i)
list_at P [] none h i = none
list_at P (acts ∷ lists) none h zero = h.0
list_at P (acts ∷ lists) none h (suc i) = list_at P lists none h.1 i

pub all_at : (P : Act → Type 0) (lists : List (List Act)) → AllByRecursion (AllByRecursion P) lists → (i : ℕ) → AllByRecursion P (acts_at lists i)
all_at P lists h = list_at (AllByRecursion P) lists tt h

pub short_at : (most : ℕ) (lists : List (List Act)) → AllByRecursion (λ acts. length acts ≤ most) lists → (i : ℕ) → length (acts_at lists i) ≤ most
short_at most lists h = list_at (λ acts. length acts ≤ most) lists (omega arith) h

-- the same of the spec of any callout
pub spec_of : (timers : List Spec) → AllByRecursion (λ (x : Spec). x.direct ≡ true → x.lock ≡ Free) timers → (i : ℕ) →
    (slice_index_or timers i (record { lock = Free; returns_unlocked = false; direct = false })).direct ≡ true →
    (slice_index_or timers i (record { lock = Free; returns_unlocked = false; direct = false })).lock ≡ Free
spec_of [] h i = λ _. refl
spec_of (x ∷ timers) h zero = h.0
spec_of (x ∷ timers) h (suc i) = spec_of timers h.1 i

pub one_firing_accepted : IsScript one_firing.script
one_firing_accepted = record {
  direct = spec_of one_firing.script.timers (λ _. refl, tt);
  version = inl refl;
  hz = (lit≤ tt, lit≤ tt);
  cpus = (lit≤ tt, lit≤ tt);
  buckets = (lit≤ tt, lit≤ tt, (8, refl));
  timers = (lit≤ tt, lit≤ tt);
  few_clients = lit≤ tt;
  ticks = all_at (λ act. is_tick act ≡ true) one_firing.script.ticks ((refl, tt), tt);
  clients = all_at (λ act. is_tick act ≡ false) one_firing.script.clients ((refl, tt), tt);
  funcs = all_at (λ act. is_call act ≡ true) one_firing.script.funcs (tt, tt);
  clients_name = all_at (λ act. names_exist one_firing.script act ≡ true) one_firing.script.clients ((refl, tt), tt);
  funcs_name = all_at (λ act. names_exist one_firing.script act ≡ true) one_firing.script.funcs (tt, tt);
  short_clients = short_at 65536 one_firing.script.clients (lit≤ tt, tt);
  short_ticks = short_at 65536 one_firing.script.ticks (lit≤ tt, tt);
  short_funcs = short_at 4096 one_firing.script.funcs (lit≤ tt, tt);
  turns = tt;
}

pub both_lanes_accepted : IsScript both_lanes.script
both_lanes_accepted = record {
  direct = spec_of both_lanes.script.timers (λ _. refl, (λ _. refl, tt));
  version = inr refl;
  hz = (lit≤ tt, lit≤ tt);
  cpus = (lit≤ tt, lit≤ tt);
  buckets = (lit≤ tt, lit≤ tt, (8, refl));
  timers = (lit≤ tt, lit≤ tt);
  few_clients = lit≤ tt;
  ticks = all_at (λ act. is_tick act ≡ true) both_lanes.script.ticks ((refl, tt), tt);
  clients = all_at (λ act. is_tick act ≡ false) both_lanes.script.clients ((refl, (refl, tt)), tt);
  funcs = all_at (λ act. is_call act ≡ true) both_lanes.script.funcs (tt, tt);
  clients_name = all_at (λ act. names_exist both_lanes.script act ≡ true) both_lanes.script.clients ((refl, (refl, tt)), tt);
  funcs_name = all_at (λ act. names_exist both_lanes.script act ≡ true) both_lanes.script.funcs (tt, tt);
  short_clients = short_at 65536 both_lanes.script.clients (lit≤ tt, tt);
  short_ticks = short_at 65536 both_lanes.script.ticks (lit≤ tt, tt);
  short_funcs = short_at 4096 both_lanes.script.funcs (lit≤ tt, tt);
  turns = (lit< tt, (lit< tt, (lit< tt, (lit< tt, (lit< tt, tt)))));
}
