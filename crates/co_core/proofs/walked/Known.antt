-- What is known of the actors stays so, whoever steps: that one has finished, and what one takes next.
use Rattle.std.proofs.Common.{◌≡◌, ℕ, zero, suc, ◌⊎◌, Bool, true, false, get_or, length, cond, ◌<◌, ◌+◌, ◌*◌, ◌==◌, if◌then◌else◌, arith, replicate, inl, inr, refl, sym, ap, subst, ◌∙◌, Option, Some, None}
use Rattle.co_object.specs.declared.Op.{Op}
use Rattle.co_object.specs.declared.QOp.{QOp}
use Rattle.co_object.specs.declared.Reply.{Reply}
use Rattle.co_object.specs.declared.QReply.{QReply}
use Rattle.co_object.specs.declared.State.{State}
use Rattle.co_object.specs.Callout.{step as callout_step}
use Rattle.co_object.specs.Queue.{Queue as TimerQueue}
use Rattle.co_object.specs.Journal.{step as queue_step}
use Rattle.co_program.specs.declared.Script.{Script}
use Rattle.co_program.specs.Cursor.{Cursor}
use Rattle.co_program.specs.Action.{action_for, spec_at}
use Rattle.co_program.specs.declared.Asked.{Asked}
use Rattle.co_program.specs.declared.Asked.TheVariants.{Callout, Queue, Itself}
use Rattle.co_world.specs.World.{World, Actor, with_cursor}
use Rattle.co_world.specs.Step.{are_direct, callout_answers, queue_answers, world_answers, step}
use Rattle.co_world.specs.Walk.{HasFinished}
use Rattle.co_program.specs.Actors.{actor_count}
use Rattle.co_program.specs.Scripts.{IsScript}
use Rattle.co_lock.specs.declared.Held.{Held}
use Rattle.co_world.specs.Blocked.{blocked, is_locked, waits_for}
use Rattle.co_world.specs.declared.turn.Why.TheVariants.{Lock}
use Rattle.co_core.specs.declared.resting.Known.{Known}
use Rattle.co_core.specs.declared.resting.Known.TheVariants.{Nothing, Ended, Wants}
use Rattle.co_core.specs.declared.resting.Resting.{Resting}
use Rattle.co_core.specs.Resting.{HasLearnt, HaveEnded, IsForgotten, IsKnown, RestsStill, TakeNext, TakesNext}
use Rattle.co_world.proofs.basics.Updates.{updated_elsewhere}
use Rattle.co_world.proofs.basics.Changes.{decide}
use Rattle.co_world.proofs.schedules.AnyAnswers as steps
use Rattle.co_world.proofs.measure.Walks.{finished_step, idle_steps_stay}

module _ (s : Script) (b : ℕ) where
  callout_leaves : (w : World) (a act i : ℕ) (op : Op) (outcome : Option (State × Reply)) → (b ≡ a → ⊥) → (callout_answers s w a act i op outcome).actors b ≡ w.actors b
  callout_leaves w a act i op None other = refl
  callout_leaves w a act i op (Some outcome) other = updated_elsewhere w.actors a _ b other

  queue_leaves : (w : World) (a act cpu : ℕ) (op : QOp) (outcome : Option (TimerQueue × QReply)) → (b ≡ a → ⊥) → (queue_answers s w a act cpu op outcome).actors b ≡ w.actors b
  queue_leaves w a act cpu op None other = refl
  queue_leaves w a act cpu op (Some outcome) other = updated_elsewhere w.actors a _ b other

  answer_leaves : (w : World) (a act : ℕ) (asked : Asked) → (b ≡ a → ⊥) → (world_answers s w a act asked).actors b ≡ w.actors b
  answer_leaves w a act (Callout i op) other = callout_leaves w a act i op (callout_step (spec_at s i) (w.timers i).state op) other
  answer_leaves w a act (Queue cpu op) other = queue_leaves w a act cpu op (queue_step s.buckets (are_direct s) (w.cpus cpu).queue op) other
  answer_leaves w a act (Itself kind) other = updated_elsewhere w.actors a _ b other

  place_leaves : (w : World) (a : ℕ) (to : Cursor) → (b ≡ a → ⊥) → (with_cursor w a to).actors b ≡ w.actors b
  place_leaves w a to other = updated_elsewhere w.actors a (record (w.actors a) { cursor = to }) b other

  -- another's step leaves it too
  pub others_same : (w : World) (a : ℕ) → (b ≡ a → ⊥) → (step s w a).actors b ≡ w.actors b
  others_same w a other = steps.step_keeps s (λ a. b ≡ a → ⊥) (λ v. v.actors b ≡ w.actors b)
      (λ v a act asked other same. answer_leaves v a act asked other ∙ same)
      (λ v a to other same. place_leaves v a to other ∙ same) w a other refl

  still : (w v : World) → v.actors b ≡ w.actors b → HasFinished s w b → HasFinished s v b
  still w v same done = ap (λ (x : Actor). action_for s b x.cursor) same ∙ done

  others_step : (w : World) (a : ℕ) → (b ≡ a → ⊥) → HasFinished s w b → HasFinished s (step s w a) b
  others_step w a other done = still w (step s w a) (others_same w a other) done

  pub ended_stays : (w : World) (a : ℕ) → HasFinished s w b → HasFinished s (step s w a) b
  ended_stays w a done = go (decide b a) where
    go : (b ≡ a) ⊎ (b ≡ a → ⊥) → HasFinished s (step s w a) b
    go (inl same) = subst (λ (v : World). HasFinished s v b) (sym (finished_step s w a (subst (λ (k : ℕ). HasFinished s w k) same done))) done
    go (inr other) = others_step w a other done

-- ---- after a step, what was known and what is learnt

module _ (s : Script) (w : World) (i : ℕ) (known more : Resting) (what : Known) (learns : HasLearnt known.known i what more.known) where
  ended_learnt : (what ≡ Ended → HasFinished s w i) → HaveEnded s w known.known → HaveEnded s (step s w i) more.known
  ended_learnt done have a said = go (learns a) where
    go : ((a ≡ i) × (get_or more.known a Nothing ≡ what)) ⊎ ((a ≡ i → ⊥) × (get_or more.known a Nothing ≡ get_or known.known a Nothing)) → HasFinished s (step s w i) a
    go (inl now) = ended_stays s a w i (subst (λ (k : ℕ). HasFinished s w k) (sym now.0) (done (sym now.1 ∙ said)))
    go (inr before) = ended_stays s a w i (have a (sym before.1 ∙ said))

  wanted_learnt : ((held : Held) → what ≡ Wants held → TakesNext s (step s w i) i held) → TakeNext s w known.known → TakeNext s (step s w i) more.known
  wanted_learnt takes have a held said = go (learns a) where
    go : ((a ≡ i) × (get_or more.known a Nothing ≡ what)) ⊎ ((a ≡ i → ⊥) × (get_or more.known a Nothing ≡ get_or known.known a Nothing)) → TakesNext s (step s w i) a held
    go (inl now) = subst (λ (k : ℕ). TakesNext s (step s w i) k held) (sym now.0) (takes held (sym now.1 ∙ said))
    go (inr before) =
        let next = have a held (sym before.1 ∙ said) in
        (next.0, ap (λ (x : Actor). action_for s a x.cursor) (others_same s a w i before.0) ∙ next.1)

  pub learnt : (what ≡ Ended → HasFinished s w i) → ((held : Held) → what ≡ Wants held → TakesNext s (step s w i) i held) → IsKnown s w known → IsKnown s (step s w i) more
  learnt done takes have = record { ended = ended_learnt done have.ended; wanted = wanted_learnt takes have.wanted }

-- where something of an actor is forgotten, all else that is known holds still
pub forgotten : (s : Script) (w : World) (i : ℕ) (known less : Resting) → IsForgotten known.known i less.known → IsKnown s w known → IsKnown s w less
forgotten s w i known less forgets have = record { ended = ended; wanted = wanted } where
  ended : HaveEnded s w less.known
  ended a said = go (forgets.others a) where
    go : (get_or less.known a Nothing ≡ Nothing) ⊎ (get_or less.known a Nothing ≡ get_or known.known a Nothing) → HasFinished s w a
    go (inl none) = (let never : Nothing ≡ Ended = sym none ∙ said in cc)
    go (inr same) = have.ended a (sym same ∙ said)

  wanted : TakeNext s w less.known
  wanted a held said = go (forgets.others a) where
    go : (get_or less.known a Nothing ≡ Nothing) ⊎ (get_or less.known a Nothing ≡ get_or known.known a Nothing) → TakesNext s w a held
    go (inl none) = (let never : Nothing ≡ Wants held = sym none ∙ said in cc)
    go (inr same) = have.wanted a held (sym same ∙ said)

-- ---- an actor whose step changes nothing

blocked_at : (s : Script) (w : World) (a : ℕ) (held : Held) → TakesNext s w a held → is_locked s w held ≡ true → blocked s w a ≡ Some (Lock held.id)
blocked_at s w a held next locked =
    ap (waits_for s w (w.actors a).cursor) next.1 ∙ ap (λ (b : Bool). cond b (Some (Lock held.id)) None) locked

-- one that is kept from what it takes next
pub kept_out : (s : Script) (w : World) (a : ℕ) (held : Held) → TakesNext s w a held → is_locked s w held ≡ true → RestsStill s w a false
kept_out s w a held next locked = record {
  idle = idle_steps_stay s w a (inr (Lock held.id, blocked_at s w a held next locked));
  finished = λ said. (let never : false ≡ true = said in cc);
}

-- one that has finished
pub over : (s : Script) (w : World) (a : ℕ) → HasFinished s w a → RestsStill s w a true
over s w a done = record { idle = finished_step s w a done; finished = λ said. done }

-- ---- the table

-- where nothing is known
pub none_known : {X : Type 0} (x : X) (n a : ℕ) → get_or (replicate n x) a x ≡ x
none_known x zero a = refl
none_known x (suc n) zero = refl
none_known x (suc n) (suc a) = none_known x n a

-- of nobody anything
pub nothing_known : (s : Script) (w : World) (x : Resting) → ((a : ℕ) → get_or x.known a Nothing ≡ Nothing) → IsKnown s w x
nothing_known s w x none = record {
  ended = λ a said. (let never : Nothing ≡ Ended = sym (none a) ∙ said in cc);
  wanted = λ a held said. (let never : Nothing ≡ Wants held = sym (none a) ∙ said in cc);
}

-- ---- the number of actors

-- no script has more actors than the table has places
pub few_actors : (s : Script) (a : ℕ) → IsScript s → a < actor_count s → a < 48
few_actors s a script within = go script.version where
  go : (s.version ≡ 1) ⊎ (s.version ≡ 2) → a < 48
  go (inl one) =
      let count : actor_count s ≡ length s.clients + s.cpus = ap (λ (v : ℕ). if v == 2 then length s.clients + 2 * s.cpus else length s.clients + s.cpus) one in
      omega (arith, count, within, script.few_clients, script.cpus)
  go (inr two) =
      let count : actor_count s ≡ length s.clients + 2 * s.cpus = ap (λ (v : ℕ). if v == 2 then length s.clients + 2 * s.cpus else length s.clients + s.cpus) two in
      omega (arith, count, within, script.few_clients, script.cpus)
