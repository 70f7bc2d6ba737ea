-- What each step leaves its actor to do, and what it may give the others.
use Rattle.std.proofs.Common.{◌≡◌, ℕ, zero, suc, ◌+◌, ◌*◌, ◌≤◌, Bool, true, false, cond, List, [], ◌∷◌, length, refl, sym, ap, subst, ◌∙◌, arith, eq-eqb, Option, Some, None}
use Rattle.std.specs.Prelude.{⊤, is_some, ◌==◌}
use Rattle.std.proofs.Math.Nat.{mul-suc}
use Rattle.co_object.specs.declared.State.{State}
use Rattle.co_object.specs.declared.Reply.{Reply}
use Rattle.co_object.specs.declared.Reply.TheVariants.{Armed, Wait}
use Rattle.co_object.specs.declared.Op.{Op}
use Rattle.co_object.specs.declared.Op.TheVariants.{Call, Run as Serve}
use Rattle.co_object.specs.declared.CallOp.{CallOp}
use Rattle.co_object.specs.declared.CallOp.TheVariants.{DrainTry}
use Rattle.co_object.specs.declared.RunOp.{RunOp}
use Rattle.co_object.specs.declared.RunOp.TheVariants.{Pick}
use Rattle.co_object.specs.declared.OwnKind.{OwnKind}
use Rattle.co_object.specs.Drain.{serviced}
use Rattle.co_object.specs.Stand.{off}
use Rattle.co_lock.specs.declared.held.Held.{Held}
use Rattle.co_program.specs.declared.Script.{Script}
use Rattle.co_program.specs.declared.Act.{Act}
use Rattle.co_program.specs.declared.Act.TheVariants.{Drain}
use Rattle.co_program.specs.Actors.{actor_count, acts_at}
use Rattle.co_program.specs.declared.Task.{Task}
use Rattle.co_program.specs.declared.Task.TheVariants.{Does}
use Rattle.co_program.specs.declared.Role.{Role}
use Rattle.co_program.specs.Stages.{Stage, Ready, Waiting, Picking, Unlocking, Firing, Drained}
use Rattle.co_program.specs.declared.InService.{InService}
use Rattle.co_program.specs.Cursor.{Cursor}
use Rattle.co_program.specs.declared.PendingInsert.{PendingInsert}
use Rattle.co_program.specs.Action.{Silent, Take, Asks, drained_of, firing, draining, spec_at}
use Rattle.co_program.specs.declared.Asked.TheVariants.{Callout, Itself}
use Rattle.co_program.specs.Advance.{tail_of, act_over, call_made, due_of_call, advance_callout, drain_acts}
use Rattle.co_world.specs.Blocked.{is_service_of}
use Rattle.co_world.specs.Measure.{longest, steps_for, most_steps, whole_round, round_left, whole_act, tries, steps_left, one_for, actor_left}
use Rattle.co_world.proofs.basics.Updates.{cond_kept}
use Rattle.co_world.proofs.basics.Actions.{IsAction, drops, passes, grabs, tells, asks, drains, waits, waits_told, picks, enters, opens, unlocks, fires, fires_told, releases, ends, serves, serves_told}
use Rattle.co_world.proofs.kept.Operations.{Did, keeps, clears, arms, holds, goes, skips}
use Rattle.co_world.proofs.kept.Operations as deed
use Rattle.co_world.proofs.kept.Stages.{place, plain_called}

-- ---- numbers

pub three_left : (s : Script) → 3 ≤ whole_act s
unfolding whole_act
three_left s = omega arith

-- a callout that has come due has a step more than its Pick
pub round_pick : (s : Script) (v : InService) → whole_round s ≡ round_left s (Picking v) + 1
unfolding whole_round
round_pick s v = omega arith

one_act : (s : Script) (left more : List Task) (task : Task) → left ≡ task ∷ more → whole_act s * length left ≡ whole_act s * length more + whole_act s
one_act s left more task is = ap (λ (xs : List Task). whole_act s * length xs) is ∙ mul-suc (whole_act s) (length more)

pub one_tail : (s : Script) (left more : List Task) (task : Task) → left ≡ task ∷ more → whole_act s * length left ≡ whole_act s * length (tail_of left) + whole_act s
one_tail s left more task is = one_act s left more task is ∙ sym (ap (λ (xs : List Task). whole_act s * length (tail_of xs) + whole_act s) is)

pub at_most_one : {T : Type 0} (o : Option T) → one_for o ≤ 1
at_most_one None = omega arith
at_most_one (Some x) = omega arith

one_of_some : {T : Type 0} (o : Option T) → is_some o ≡ true → one_for o ≡ 1
one_of_some None h = cc
one_of_some (Some x) h = refl

pub tried : (n : ℕ) (o : Option ℕ) → (1 ≤ tries n o) × (tries n o ≤ 2)
tried n None = (omega arith, omega arith)
tried n (Some m) = cond_kept (λ (k : ℕ). (1 ≤ k) × (k ≤ 2)) (m == n) 1 2 (omega arith, omega arith) (omega arith, omega arith)

-- ---- functions

pub longest_at : (lists : List (List Act)) (i : ℕ) → length (acts_at lists i) ≤ longest lists
longest_at [] i = omega arith
longest_at (acts ∷ lists) zero = omega arith
longest_at (acts ∷ lists) (suc i) = let rest = longest_at lists i in omega arith

pub longest_drain : (s : Script) (drain : Option ℕ) → length (drain_acts s drain) ≤ longest s.funcs
longest_drain s None = omega arith
longest_drain s (Some func) = longest_at s.funcs func

module _ (s : Script) (states : ℕ → State) (left : List Task) where
  firing_left : (v : InService) (held : Option Held) (acts : List Act) → steps_left s states left (firing v held acts) ≤ whole_act s * length (tail_of left) + 1 + (steps_for acts + most_steps s + 4)
  firing_left v held (act ∷ acts) = omega arith
  firing_left v None [] = omega arith
  firing_left v (Some x) [] = omega arith

  pub draining_left : (v : InService) (acts : List Act) → steps_left s states left (draining v acts) ≤ whole_act s * length (tail_of left) + 1 + steps_for acts
  draining_left v [] = omega arith
  draining_left v (act ∷ acts) = omega arith

-- ---- what the callouts' runs change of an actor's drain

module _ (s : Script) (states after : ℕ → State) (more : ℕ) (eased : (i n : ℕ) → tries n (serviced (after i).run) ≤ tries n (serviced (states i).run) + more) where
  acts_eased : (left : List Task) (stage : Stage) → steps_left s after left stage ≤ steps_left s states left stage + more
  acts_eased left (Waiting n took) = let h = eased (drained_of left) n in omega arith
  acts_eased left stage = omega arith

  pub actor_eased : (c : Cursor) → actor_left s after c ≤ actor_left s states c + more
  actor_eased c = let h = acts_eased c.left c.stage in omega arith

-- the most that an operation gives an actor, and all of them: a Pick may give each drain one more try
abbrev pub given : Op → ℕ
given (Serve (Pick n cpu time)) = 1
given op = 0

abbrev pub spread : Script → Op → ℕ
spread s (Serve (Pick n cpu time)) = actor_count s
spread s op = 0

-- no service has the arming that a drain's last Wait named
abbrev pub HasWaited : State → Stage → Type 0
HasWaited state (Waiting n took) = is_service_of n (serviced state.run) ≡ false
HasWaited state stage = ⊤

-- ---- where a call leaves an actor

-- the act is over, or the drain waits, or the callout is on its way
pub called_kept : (P : Cursor → Type 0) (c : Cursor) (i : ℕ) → P (act_over c c.stage) → ((n : ℕ) (took : Bool) → P (record c { stage = Waiting n took })) → ((p : PendingInsert) → p.i ≡ i → P (record (act_over c c.stage) { parcel = Some p })) →
    (listed : Bool) (op : Op) (reply : Reply) → P (call_made c i listed op reply)
called_kept P c i over wait sent true op (Wait n took off) = wait n took
called_kept P c i over wait sent false op (Wait n took off) = wait n took
called_kept P c i over wait sent true op (Armed code n cpu off) = sent (record { act = c.act; i = i; n = n; due = due_of_call op; cpu = cpu }) refl
called_kept P c i over wait sent listed op reply = over

-- ---- each step

module _ (s : Script) (role : Role) (left : List Task) (number now : ℕ) (held : Option Held) (removed : Option ℕ) (parcel : Option PendingInsert) (states after : ℕ → State) where
  abbrev at : Stage → Cursor
  at stage = place left number now held stage removed parcel

  -- the place that is left has this much less to do
  abbrev Leaves : Stage → Cursor → ℕ → Type 0
  Leaves stage to less = actor_left s after to + less ≤ actor_left s states (at stage)

  pub silent_leaves : (stage : Stage) (to : Cursor) → IsAction s role (at stage) stage (Silent to) → Leaves stage to 1
  silent_leaves stage to (drops is some) = let one = one_of_some held some in omega arith
  silent_leaves stage to (passes task more time hold is own) = omega (arith, one_act s left more task is, at_most_one hold, three_left s)
  silent_leaves stage to (unlocks v acts) = omega (arith, firing_left s after left v None acts)
  silent_leaves stage to (releases v) = omega arith

  pub take_leaves : (stage : Stage) (to : Cursor) (held' : Held) → IsAction s role (at stage) stage (Take held' to) → Leaves stage to 1
  take_leaves stage to held' (grabs task more x is own none) = omega (arith, one_act s left more task is, three_left s)
  take_leaves stage to held' (enters v x is) = omega arith

  -- an act that is over
  over_ready : (task : Task) (more : List Task) → left ≡ task ∷ more → Leaves Ready (act_over (at Ready) Ready) 2
  over_ready task more is = omega (arith, one_tail s left more task is, three_left s)

  over_firing : (v : InService) (act : Act) (acts : List Act) → Leaves (Firing v (act ∷ acts)) (act_over (at (Firing v (act ∷ acts))) (Firing v (act ∷ acts))) 2
  over_firing v act acts = omega (arith, firing_left s after left v held acts)

  over_drained : (v : InService) (act : Act) (acts : List Act) → Leaves (Drained v (act ∷ acts)) (act_over (at (Drained v (act ∷ acts))) (Drained v (act ∷ acts))) 2
  over_drained v act acts = omega (arith, draining_left s after left v acts)

  over_waiting : (n : ℕ) (took : Bool) → Leaves (Waiting n took) (act_over (at (Waiting n took)) (Waiting n took)) 1
  over_waiting n took = omega (arith, tried n (serviced (states (drained_of left)).run))

  pub own_leaves : (stage : Stage) (act : ℕ) (kind : OwnKind) → IsAction s role (at stage) stage (Asks act (Itself kind)) → Leaves stage (act_over (at stage) stage) 1
  own_leaves stage act kind (tells task more k is own) = let h = over_ready task more is in omega arith
  own_leaves stage act kind (waits_told n took k some) = over_waiting n took
  own_leaves stage act kind (fires_told v x acts k) = let h = over_firing v x acts in omega arith
  own_leaves stage act kind (serves_told v x acts k) = let h = over_drained v x acts in omega arith

  -- a call, at a stage whose act leaves two less
  call_by : (stage : Stage) → Leaves stage (act_over (at stage) stage) 2 → ((n : ℕ) (took : Bool) → Leaves stage (at (Waiting n took)) 1) → (i : ℕ) (listed : Bool) (op : Op) (reply : Reply) → Leaves stage (call_made (at stage) i listed op reply) 1
  call_by stage over wait i listed op reply = called_kept (λ (to : Cursor). Leaves stage to 1) (at stage) i (omega arith) wait (λ p is. omega arith) listed op reply

  wait_ready : (task : Task) (more : List Task) → left ≡ task ∷ more → (n : ℕ) (took : Bool) → Leaves Ready (at (Waiting n took)) 1
  wait_ready task more is n took = omega (arith, one_tail s left more task is, three_left s, tried n (serviced (after (drained_of left)).run))

  wait_firing : (v : InService) (act : Act) (acts : List Act) (n : ℕ) (took : Bool) → Leaves (Firing v (act ∷ acts)) (at (Waiting n took)) 1
  wait_firing v act acts n took = omega (arith, tried n (serviced (after (drained_of left)).run))

  wait_drained : (v : InService) (act : Act) (acts : List Act) (n : ℕ) (took : Bool) → Leaves (Drained v (act ∷ acts)) (at (Waiting n took)) 1
  wait_drained v act acts n took = omega (arith, tried n (serviced (after (drained_of left)).run))

  -- a try of a drain that no longer waits for the arming of its last Wait
  drain_leaves : (n : ℕ) (took listed : Bool) (op : CallOp) (reply : Reply) (t : State) → op ≡ DrainTry took → Did (spec_at s (drained_of left)) (states (drained_of left)) (Call op) reply t → after (drained_of left) ≡ t →
      is_service_of n (serviced (states (drained_of left)).run) ≡ false → Leaves (Waiting n took) (call_made (at (Waiting n took)) (drained_of left) listed (Call op) reply) 1
  drain_leaves n took listed op reply t is (keeps x r u same on plain stays) now_is free =
      subst (λ (to : Cursor). Leaves (Waiting n took) to 1) (sym (plain_called (at (Waiting n took)) (drained_of left) listed (Call op) reply plain)) (over_waiting n took)
  drain_leaves n took listed op reply t is (clears x r u gone on plain same) now_is free =
      subst (λ (to : Cursor). Leaves (Waiting n took) to 1) (sym (plain_called (at (Waiting n took)) (drained_of left) listed (Call op) reply plain)) (over_waiting n took)
  drain_leaves n took listed op reply t is (deed.waits k k' m u gone on has) now_is free = waited listed where
    i : ℕ
    i = drained_of left

    named : serviced (after i).run ≡ Some m
    named = ap (λ (x : State). serviced x.run) now_is ∙ sym on.number ∙ has

    one : tries m (serviced (after i).run) ≡ 1
    one = ap (tries m) named ∙ ap (λ (b : Bool). cond {A = ℕ} b 1 2) (eq-eqb m m refl)

    two : tries n (serviced (states i).run) ≡ 2
    two = ap (tries n) has ∙ ap (λ (b : Bool). cond {A = ℕ} b 1 2) (subst (λ (o : Option ℕ). is_service_of n o ≡ false) has free)

    again : Leaves (Waiting n took) (at (Waiting m k')) 1
    again = let a = one in let b = two in omega arith

    waited : (b : Bool) → Leaves (Waiting n took) (call_made (at (Waiting n took)) i b (Call (DrainTry k)) (Wait m k' (off (states i)))) 1
    waited true = again
    waited false = again
  drain_leaves n took listed op reply t is (arms x code arming u armed due on) now_is free = cc

  pub call_leaves : (stage : Stage) (act i : ℕ) (op : CallOp) (listed : Bool) (reply : Reply) (t : State) → IsAction s role (at stage) stage (Asks act (Callout i (Call op))) → Did (spec_at s i) (states i) (Call op) reply t → after i ≡ t →
      HasWaited (states i) stage → Leaves stage (advance_callout s (at stage) i listed (Call op) reply stage) 1
  call_leaves stage act i op listed reply t (asks task more j x is own) did now_is free = call_by stage (over_ready task more is) (wait_ready task more is) i listed (Call op) reply
  call_leaves stage act i op listed reply t (drains j more is none) did now_is free = call_by stage (over_ready (Does (Drain j)) more is) (wait_ready (Does (Drain j)) more is) i listed (Call op) reply
  call_leaves stage act i op listed reply t (waits n took none) did now_is free = drain_leaves n took listed op reply t refl did now_is free
  call_leaves stage act i op listed reply t (fires v x acts j p) did now_is free = call_by stage (over_firing v x acts) (wait_firing v x acts) i listed (Call op) reply
  call_leaves stage act i op listed reply t (serves v x acts j p) did now_is free = call_by stage (over_drained v x acts) (wait_drained v x acts) i listed (Call op) reply

  -- a turn of a service
  pub run_leaves : (stage : Stage) (act i : ℕ) (op : Op) (listed : Bool) (state t : State) (reply : Reply) (run : RunOp) → op ≡ Serve run → IsAction s role (at stage) stage (Asks act (Callout i op)) → Did (spec_at s i) state op reply t →
      Leaves stage (advance_callout s (at stage) i listed op reply stage) (spread s op + 1)
  run_leaves stage act i op listed state t reply run is (picks v) (holds n cpu time a u idle is_n is_cpu lock gone runs) = omega arith
  run_leaves stage act i op listed state t reply run is (picks v) (goes n cpu time func arg u idle lock gone runs) = omega (arith, firing_left s after left v held (acts_at s.funcs func), longest_at s.funcs func)
  run_leaves stage act i op listed state t reply run is (opens v) (deed.begins n cpu func arg u same taken runs) = begun_at (spec_at s v.i).returns_unlocked where
    begun_at : (b : Bool) → Leaves stage (record (at stage) { stage = cond b (Unlocking v (acts_at s.funcs func)) (firing v held (acts_at s.funcs func)) }) 1
    begun_at true = omega (arith, longest_at s.funcs func)
    begun_at false = omega (arith, firing_left s after left v held (acts_at s.funcs func), longest_at s.funcs func)
  run_leaves stage act i op listed state t reply run is (opens v) (skips n cpu has) = omega arith
  run_leaves stage act i op listed state t reply run is (ends v) (deed.ends n cpu u drain woke same runs over) = omega arith
  run_leaves stage act i op listed state t reply run is (asks task more j x left_is own) did = cc
  run_leaves stage act i op listed state t reply run is (drains j more left_is none) did = cc
  run_leaves stage act i op listed state t reply run is (waits n took none) did = cc
  run_leaves stage act i op listed state t reply run is (fires v x acts j p) did = cc
  run_leaves stage act i op listed state t reply run is (serves v x acts j p) did = cc
