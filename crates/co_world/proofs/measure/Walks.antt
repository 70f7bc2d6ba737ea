-- Walks: one result, and an end, since every step falls.
use Rattle.std.proofs.Common.{◌≡◌, ℕ, zero, suc, ◌+◌, ◌<◌, ◌⊎◌, inl, inr, cond, List, [], ◌∷◌, ◌++◌, refl, sym, ap, subst, ◌∙◌, arith, Option, Some, None}
use Rattle.std.specs.Prelude.{is_some}
use Rattle.std.specs.List.{AllByRecursion}
use Rattle.co_program.specs.declared.Script.{Script}
use Rattle.co_program.specs.Actors.{actor_count, all_actors}
use Rattle.co_program.specs.Action.{Action, Nothing, Silent, Take, Asks, action_for}
use Rattle.co_world.specs.World.{World, open_world, lists_of}
use Rattle.co_world.specs.Blocked.{blocked, waits_for}
use Rattle.co_world.specs.Step.{step, stepped}
use Rattle.co_world.specs.Walk.{run, round, rounds, HasFinished, AllFinished}
use Rattle.co_program.specs.Scripts.{IsScript}
use Rattle.co_world.specs.declared.turn.Why.{Why}
use Rattle.co_world.specs.Measure.{measure}
use Rattle.co_world.specs.Laws.{Falls, IsIdle, NeverStuck, IsSchedule, reached, EveryStepFalls, IdleStepsStay, RoundsFall, WalksAgree, WalksEnd}
use Rattle.co_world.proofs.basics.Ranges.{all_range, at_range}
use Rattle.co_world.proofs.legal.Schedules.{never_stuck_all}
use Rattle.co_world.proofs.kept.BySchedules.{reached_steady}
use Rattle.co_world.proofs.names.Places.{reached_put}
use Rattle.co_world.proofs.measure.Steps.{step_falls}

-- ---- finished actors change nothing

pub finished_step : (s : Script) (w : World) (a : ℕ) → HasFinished s w a → step s w a ≡ w
finished_step s w a finished = ap (λ (d : Action). cond (is_some (waits_for s w (w.actors a).cursor d)) w (stepped s w a d)) finished

finished_run : (s : Script) (w : World) (schedule : List ℕ) → AllByRecursion (HasFinished s w) schedule → run s w schedule ≡ w
finished_run s w [] all = refl
finished_run s w (a ∷ schedule) all = ap (λ (x : World). run s x schedule) (finished_step s w a all.0) ∙ finished_run s w schedule all.1

pub finished_round : (s : Script) (w : World) → AllFinished s w → round s w ≡ w
finished_round s w all = finished_run s w (all_actors s) (all_range (HasFinished s w) 0 (actor_count s) (λ a within. all a (omega arith)))

finished_rounds : (s : Script) (w : World) (n : ℕ) → AllFinished s w → rounds s w n ≡ w
finished_rounds s w zero all = refl
finished_rounds s w (suc n) all = ap (λ (x : World). rounds s x n) (finished_round s w all) ∙ finished_rounds s w n all

pub rounds_add : (s : Script) (w : World) (n m : ℕ) → rounds s w (n + m) ≡ rounds s (rounds s w n) m
rounds_add s w zero m = ap (rounds s w) (let e : 0 + m ≡ m = omega arith in e)
rounds_add s w (suc n) m = ap (rounds s w) (let e : suc n + m ≡ suc (n + m) = omega arith in e) ∙ rounds_add s (round s w) n m

-- the rounds after the end change nothing
pub rounds_stay : (s : Script) (w : World) (n m : ℕ) → AllFinished s (rounds s w n) → rounds s w (n + m) ≡ rounds s w n
rounds_stay s w n m all = rounds_add s w n m ∙ finished_rounds s (rounds s w n) m all

order : (n m : ℕ) → ((k : ℕ) × (n + k ≡ m)) ⊎ ((k : ℕ) × (m + k ≡ n))
order zero m = inl (m, omega arith)
order (suc n) zero = inr (suc n, omega arith)
order (suc n) (suc m) = go (order n m) where
  go : ((k : ℕ) × (n + k ≡ m)) ⊎ ((k : ℕ) × (m + k ≡ n)) → ((k : ℕ) × (suc n + k ≡ suc m)) ⊎ ((k : ℕ) × (suc m + k ≡ suc n))
  go (inl h) = inl (h.0, (let e = h.1 in omega arith))
  go (inr h) = inr (h.0, (let e = h.1 in omega arith))

pub walks_agree : WalksAgree
walks_agree s lists others one other =
    one.written ∙ ap (lists_of s) (same (order one.number other.number)) ∙ sym other.written where
      same : ((k : ℕ) × (one.number + k ≡ other.number)) ⊎ ((k : ℕ) × (other.number + k ≡ one.number)) → rounds s (run s (open_world s) s.turns) one.number ≡ rounds s (run s (open_world s) s.turns) other.number
      same (inl h) = sym (rounds_stay s (run s (open_world s) s.turns) one.number h.0 one.finished) ∙ ap (rounds s (run s (open_world s) s.turns)) h.1
      same (inr h) = sym (ap (rounds s (run s (open_world s) s.turns)) h.1) ∙ rounds_stay s (run s (open_world s) s.turns) other.number h.0 other.finished

-- ---- a round makes a step, or all have finished

pub run_more : (s : Script) (w : World) (schedule : List ℕ) (a : ℕ) → run s w (schedule ++ a ∷ []) ≡ step s (run s w schedule) a
run_more s w [] a = refl
run_more s w (b ∷ schedule) a = run_more s (step s w b) schedule a

pub one_more : (P : ℕ → Type 0) (xs : List ℕ) (x : ℕ) → AllByRecursion P xs → P x → AllByRecursion P (xs ++ x ∷ [])
one_more P [] x h p = (p, tt)
one_more P (y ∷ xs) x h p = (h.0, one_more P xs x h.1 p)

-- a blocked step changes nothing
blocked_step : (s : Script) (w : World) (a : ℕ) (why : Why) → blocked s w a ≡ Some why → step s w a ≡ w
blocked_step s w a why is = ap (λ (o : Option Why). cond (is_some o) w (stepped s w a (action_for s a (w.actors a).cursor))) is

pub idle_steps_stay : IdleStepsStay
idle_steps_stay s w a (inl finished) = finished_step s w a finished
idle_steps_stay s w a (inr waits) = blocked_step s w a waits.0 waits.1

pub every_step_falls : EveryStepFalls
every_step_falls s ok schedule may a within unfinished free = step_falls s ok (reached s schedule) (reached_steady s ok schedule may) (reached_put s ok schedule may) a within unfinished free

module _ (s : Script) (ok : IsScript s) where
  -- some schedule reaches the world
  abbrev pub IsReached : World → Type 0
  IsReached w = (schedule : List ℕ) × IsSchedule s schedule × (w ≡ reached s schedule)

  reached_more : (w : World) (a : ℕ) → a < actor_count s → IsReached w → IsReached (step s w a)
  reached_more w a may h = (h.0 ++ a ∷ [], one_more (λ b. b < actor_count s) h.0 a h.1 may, ap (λ (x : World). step s x a) h.2 ∙ sym (run_more s (open_world s) h.0 a))

  falls : (w : World) → IsReached w → Falls s w
  falls w h = subst (Falls s) (sym h.2) (every_step_falls s ok h.0 h.1)

  pub step_or_idle : (w : World) (a : ℕ) → a < actor_count s → IsReached w → IsIdle s w a ⊎ (measure s (step s w a) < measure s w)
  step_or_idle w a may h = go (blocked s w a) refl (action_for s a (w.actors a).cursor) refl where
    go : (o : Option Why) → blocked s w a ≡ o → (due : Action) → action_for s a (w.actors a).cursor ≡ due → IsIdle s w a ⊎ (measure s (step s w a) < measure s w)
    go (Some why) e due is = inl (inr (why, e))
    go None e Nothing is = inl (inl is)
    go None e (Silent to) is = inr (falls w h a may (λ finished. (let clash : Silent to ≡ Nothing = sym is ∙ finished in cc)) e)
    go None e (Take held to) is = inr (falls w h a may (λ finished. (let clash : Take held to ≡ Nothing = sym is ∙ finished in cc)) e)
    go None e (Asks act asked) is = inr (falls w h a may (λ finished. (let clash : Asks act asked ≡ Nothing = sym is ∙ finished in cc)) e)

  -- a schedule falls, or nobody in it had anything to do
  pub run_falls : (schedule : List ℕ) (w : World) → IsSchedule s schedule → IsReached w → IsReached (run s w schedule) × (((run s w schedule ≡ w) × AllByRecursion (IsIdle s w) schedule) ⊎ (measure s (run s w schedule) < measure s w))
  run_falls [] w may h = (h, inl (refl, tt))
  run_falls (a ∷ schedule) w may h = (let rest = run_falls schedule (step s w a) may.1 (reached_more w a may.0 h) in (rest.0, go (step_or_idle w a may.0 h) rest.1)) where
    go : IsIdle s w a ⊎ (measure s (step s w a) < measure s w) →
        ((run s (step s w a) schedule ≡ step s w a) × AllByRecursion (IsIdle s (step s w a)) schedule) ⊎ (measure s (run s (step s w a) schedule) < measure s (step s w a)) →
        ((run s (step s w a) schedule ≡ w) × (IsIdle s w a × AllByRecursion (IsIdle s w) schedule)) ⊎ (measure s (run s (step s w a) schedule) < measure s w)
    go (inl idle) (inl all) = let same : step s w a ≡ w = idle_steps_stay s w a idle in inl (all.0 ∙ same, (idle, subst (λ (x : World). AllByRecursion (IsIdle s x) schedule) same all.1))
    go (inl idle) (inr fell) = inr (subst (λ (n : ℕ). measure s (run s (step s w a) schedule) < n) (ap (measure s) (idle_steps_stay s w a idle)) fell)
    go (inr fell) (inl all) = inr (subst (λ (n : ℕ). n < measure s w) (sym (ap (measure s) all.0)) fell)
    go (inr fell) (inr more) = inr (omega arith)

  finished_free : (w : World) (a : ℕ) → HasFinished s w a → blocked s w a ≡ None
  finished_free w a is = ap (waits_for s w (w.actors a).cursor) is

  pub round_falls : (w : World) → IsReached w → IsReached (round s w) × (AllFinished s w ⊎ (measure s (round s w) < measure s w))
  round_falls w h =
      let falls_or : IsReached (round s w) × (((round s w ≡ w) × AllByRecursion (IsIdle s w) (all_actors s)) ⊎ (measure s (round s w) < measure s w)) =
      run_falls (all_actors s) w (all_range (λ a. a < actor_count s) 0 (actor_count s) (λ a within. omega arith)) h in
      (falls_or.0, go falls_or.1) where
        idle_at : AllByRecursion (IsIdle s w) (all_actors s) → (a : ℕ) → a < actor_count s → IsIdle s w a
        idle_at all a within = at_range (IsIdle s w) 0 (actor_count s) a all (omega arith) (omega arith)

        finished_at : AllByRecursion (IsIdle s w) (all_actors s) → (a : ℕ) → a < actor_count s → IsIdle s w a → HasFinished s w a
        finished_at all a within (inl finished) = finished
        finished_at all a within (inr waits) =
            let other = subst (NeverStuck s) (sym h.2) (never_stuck_all s ok h.0 h.1) a within (λ finished. (let clash : Some waits.0 ≡ None = sym waits.1 ∙ finished_free w a finished in cc)) in
            absurd (both other.0 (idle_at all other.0 other.1) other.2 other.3) where
              both : (b : ℕ) → IsIdle s w b → (HasFinished s w b → ⊥) → blocked s w b ≡ None → ⊥
              both b (inl finished) unfinished free = unfinished finished
              both b (inr blocks) unfinished free = let clash : Some blocks.0 ≡ None = sym blocks.1 ∙ free in cc

        go : ((round s w ≡ w) × AllByRecursion (IsIdle s w) (all_actors s)) ⊎ (measure s (round s w) < measure s w) → AllFinished s w ⊎ (measure s (round s w) < measure s w)
        go (inl all) = inl (λ a within. finished_at all.1 a within (idle_at all.1 a within))
        go (inr fell) = inr fell

  rounds_end : (fuel : ℕ) (w : World) → measure s w < fuel → IsReached w → (n : ℕ) × AllFinished s (rounds s w n)
  rounds_end zero w low h = absurd (omega arith)
  rounds_end (suc fuel) w low h = let falls_or = round_falls w h in go falls_or.1 (λ fell. rounds_end fuel (round s w) (omega (arith, fell, low)) falls_or.0) where
    go : AllFinished s w ⊎ (measure s (round s w) < measure s w) → (measure s (round s w) < measure s w → (n : ℕ) × AllFinished s (rounds s (round s w) n)) → (n : ℕ) × AllFinished s (rounds s w n)
    go (inl all) rest = (0, all)
    go (inr fell) rest = let end = rest fell in (suc end.0, end.1)

pub rounds_fall : RoundsFall
rounds_fall s ok schedule may = (round_falls s ok (reached s schedule) (schedule, may, refl)).1

pub walks_end : WalksEnd
walks_end s ok =
    let w : World = run s (open_world s) s.turns in
    let end : (n : ℕ) × AllFinished s (rounds s w n) = rounds_end s ok (suc (measure s w)) w (omega arith) (s.turns, ok.turns, refl) in
    (lists_of s (rounds s w end.0), record { number = end.0; finished = end.1; written = refl })
