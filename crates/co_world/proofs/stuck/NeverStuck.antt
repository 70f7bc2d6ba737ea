-- In a sound world some unfinished actor can step while one is unfinished.
use Rattle.std.proofs.Common.{◌≡◌, ℕ, ◌<◌, Bool, true, false, cond, refl, sym, ap, ◌∙◌, Some, None, ltb-true}
use Rattle.std.specs.Prelude.{nat_lt}
use Rattle.co_object.specs.declared.Op.TheVariants.{Call, Run}
use Rattle.co_object.specs.declared.CallOp.{CallOp}
use Rattle.co_program.specs.declared.Script.{Script}
use Rattle.co_program.specs.Actors.{actor_count}
use Rattle.co_object.specs.declared.QOp.{QOp}
use Rattle.co_program.specs.Action.{Action, Nothing, Silent, Take, Asks, action_for, scans_first}
use Rattle.co_program.specs.declared.Asked.TheVariants.{Callout, Queue, Itself}
use Rattle.co_program.specs.Follows.{scan_count}
use Rattle.co_world.specs.declared.turn.Why.TheVariants as why
use Rattle.co_world.specs.World.{World}
use Rattle.co_world.specs.Blocked.{is_moving, is_waiting, waits_for}
use Rattle.co_world.specs.Laws.{NeverStuck}
use Rattle.co_world.proofs.kept.BySteps.{IsSteady}
use Rattle.co_world.proofs.stuck.Movers.{Steps, mover_steps}
use Rattle.co_world.proofs.stuck.Serving.{take_steps, waiting_steps}
use Rattle.co_world.proofs.stuck.Ticking.{ticker_steps}

free_steps : (s : Script) (w : World) (a : ℕ) (due : Action) → a < actor_count s → action_for s a (w.actors a).cursor ≡ due → (due ≡ Nothing → ⊥) → waits_for s w (w.actors a).cursor due ≡ None → Steps s w
free_steps s w a due exists is unfinished free = record {
  actor = a;
  exists = exists;
  unfinished = λ e. unfinished (sym is ∙ e);
  free = ap (waits_for s w (w.actors a).cursor) is ∙ free;
}

call_steps : (s : Script) (w : World) (a act i : ℕ) (op : CallOp) (moving waiting : Bool) → IsSteady s w → a < actor_count s → action_for s a (w.actors a).cursor ≡ Asks act (Callout i (Call op)) →
    is_moving s w i ≡ moving → is_waiting w i (w.actors a).cursor.stage ≡ waiting → Steps s w
call_steps s w a act i op true waiting sound exists is m h = mover_steps s w i m
call_steps s w a act i op false true sound exists is m h = waiting_steps s w i (w.actors a).cursor.stage sound h
call_steps s w a act i op false false sound exists is m h =
    free_steps s w a (Asks act (Callout i (Call op))) exists is (λ e. cc)
    (ap (λ (b : Bool). cond b (Some (why.Moving i)) (cond (is_waiting w i (w.actors a).cursor.stage) (Some (why.Serviced i)) None)) m
    ∙ ap (λ (b : Bool). cond b (Some (why.Serviced i)) None) h)

queue_steps : (s : Script) (w : World) (a act cpu : ℕ) (op : QOp) (few : Bool) → IsSteady s w → a < actor_count s → action_for s a (w.actors a).cursor ≡ Asks act (Queue cpu op) →
    nat_lt (scan_count (w.cpus cpu).journal) (scans_first (w.actors a).cursor) ≡ few → Steps s w
queue_steps s w a act cpu op true sound exists is h = ticker_steps s w a act cpu op sound is (ltb-true (scan_count (w.cpus cpu).journal) (scans_first (w.actors a).cursor) h)
queue_steps s w a act cpu op false sound exists is h =
    free_steps s w a (Asks act (Queue cpu op)) exists is (λ e. cc) (ap (λ (b : Bool). cond b (Some (why.Tick cpu)) None) h)

due_steps : (s : Script) (w : World) (a : ℕ) (due : Action) → IsSteady s w → a < actor_count s → action_for s a (w.actors a).cursor ≡ due → (due ≡ Nothing → ⊥) → Steps s w
due_steps s w a Nothing sound exists is unfinished = absurd (unfinished refl)
due_steps s w a (Silent to) sound exists is unfinished = free_steps s w a (Silent to) exists is unfinished refl
due_steps s w a (Take held to) sound exists is unfinished = take_steps s w a held to sound exists is
due_steps s w a (Asks act (Callout i (Call op))) sound exists is unfinished =
    call_steps s w a act i op (is_moving s w i) (is_waiting w i (w.actors a).cursor.stage) sound exists is refl refl
due_steps s w a (Asks act (Callout i (Run op))) sound exists is unfinished = free_steps s w a (Asks act (Callout i (Run op))) exists is unfinished refl
due_steps s w a (Asks act (Queue cpu op)) sound exists is unfinished =
    queue_steps s w a act cpu op (nat_lt (scan_count (w.cpus cpu).journal) (scans_first (w.actors a).cursor)) sound exists is refl
due_steps s w a (Asks act (Itself kind)) sound exists is unfinished = free_steps s w a (Asks act (Itself kind)) exists is unfinished refl

-- no sound world is stuck
pub never_stuck : (s : Script) (w : World) → IsSteady s w → NeverStuck s w
never_stuck s w sound a exists unfinished =
    let steps : Steps s w = due_steps s w a (action_for s a (w.actors a).cursor) sound exists refl unfinished in
    (steps.actor, steps.exists, steps.unfinished, steps.free)
