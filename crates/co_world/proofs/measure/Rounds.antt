-- Steps one after another in code are a schedule of the plain world: what each loop of the walk keeps.
use Rattle.std.proofs.Common.{◌≡◌, ℕ, zero, suc, ◌+◌, ◌<◌, ◌≤◌, ◌^◌, ◌-◌, List, [], ◌∷◌, ◌++◌, length, get_or, refl, ap, sym, subst, ◌∙◌, arith, inl, inr}
use Rattle.std.specs.Prelude.{Option, Some, None, ◌⊎◌}
use Rattle.std.specs.List.{AllByRecursion, range_with_len}
use Rattle.co_program.specs.declared.Script.{Script}
use Rattle.co_program.specs.Action.{Action, Nothing, Silent, Take, Asks, action_for}
use Rattle.co_program.specs.Scripts.{IsScript}
use Rattle.co_world.specs.declared.turn.Turn.TheVariants.{Finished}
use Rattle.co_world.specs.declared.turn.Why.{Why}
use Rattle.co_world.specs.Blocked.{blocked}
use Rattle.co_world.specs.Laws.{IsIdle, reached}
use Rattle.co_world.specs.Measure.{measure}
use Rattle.co_world.specs.Laws.{IsReached as Reached}
use Rattle.co_world.proofs.measure.Opening.{opening_fits}
use Rattle.co_world.proofs.measure.Walks.{IsReached, run_falls, rounds_fall, finished_round}
use Rattle.co_world.specs.Step.{turn_of, turn_at}
use Rattle.co_world.specs.Walk.{AllFinished, HasFinished, round, rounds, run}
use Rattle.co_world.specs.World.{World, open_world}

pub rounds-more : (s : Script) (w : World) (n : ℕ) → round s (rounds s w n) ≡ rounds s w (n + 1)
rounds-more s w zero = refl
rounds-more s w (suc n) = let more : suc n + 1 ≡ suc (n + 1) = omega arith in rounds-more s (round s w) n ∙ ap (λ k. rounds s w k) (sym more)

pub range-more : (n : ℕ) → range_with_len 0 n ++ n ∷ [] ≡ range_with_len 0 (n + 1)
range-more n = go 0 n n (omega arith) where
  go : (a n j : ℕ) → a + n ≡ j → range_with_len a n ++ j ∷ [] ≡ range_with_len a (n + 1)
  go a zero j is = let here : a ≡ j = omega (arith, is) in ap (λ k. k ∷ []) (sym here)
  go a (suc n) j is = let more : suc n + 1 ≡ suc (n + 1) = omega arith in rw more (ap (λ xs. a ∷ xs) (go (a + 1) n j (omega (arith, is))))

pub all-at : {X : Type 0} (P : X → Type 0) (xs : List X) (i : ℕ) (d : X) → AllByRecursion P xs → i < length xs → P (get_or xs i d)
all-at P [] i d h within = let never : ⊥ = omega (arith, within) in absurd never
all-at P (x ∷ xs) zero d h within = h.0
all-at P (x ∷ xs) (suc i) d h within = all-at P xs i d h.1 (omega (arith, within))

-- a turn that says Finished is one of an actor that has finished
pub turn-finished : (s : Script) (w : World) (a : ℕ) → turn_of s w a ≡ Finished → HasFinished s w a
turn-finished s w a h = go (blocked s w a) (action_for s a (w.actors a).cursor) refl h where
  go : (why : Option Why) (action : Action) → action_for s a (w.actors a).cursor ≡ action → turn_at s w a why action ≡ Finished → HasFinished s w a
  go (Some why) action is h = cc
  go None Nothing is h = is
  go None (Silent to) is h = cc
  go None (Take held to) is h = cc
  go None (Asks act asked) is h = cc

-- those before have finished, and the last one
pub last_finished : (s : Script) (w : World) (i a : ℕ) → ((b : ℕ) → b < i → HasFinished s w b) → HasFinished s w i → (a ≡ i) ⊎ (a ≡ i → ⊥) → a < i + 1 → HasFinished s w a
last_finished s w i a before here (inl same) below = subst (λ (k : ℕ). HasFinished s w k) (sym same) here
last_finished s w i a before here (inr other) below = before a (omega (arith, other, below))

-- ---- the bound of the rounds

module _ (s : Script) (ok : IsScript s) where
  -- what is left to do anywhere is below 2 ^ 64
  bounded : (w : World) → Reached s w → measure s w < 2 ^ 64
  bounded w h = subst (λ (x : World). measure s x < 2 ^ 64) (sym h.world) (below (falls_or.1)) where
    falls_or : IsReached s ok (run s (open_world s) h.schedule) × (((run s (open_world s) h.schedule ≡ open_world s) × AllByRecursion (IsIdle s (open_world s)) h.schedule) ⊎ (measure s (run s (open_world s) h.schedule) < measure s (open_world s)))
    falls_or = run_falls s ok h.schedule (open_world s) h.may ([], tt, refl)

    below : ((run s (open_world s) h.schedule ≡ open_world s) × AllByRecursion (IsIdle s (open_world s)) h.schedule) ⊎ (measure s (run s (open_world s) h.schedule) < measure s (open_world s)) → measure s (reached s h.schedule) < 2 ^ 64
    below (inl same) = subst (λ (x : World). measure s x < 2 ^ 64) (sym same.0) (opening_fits s ok)
    below (inr less) = let most = opening_fits s ok in omega (arith, less, most)

  round-or-end : (w : World) → Reached s w → AllFinished s w ⊎ (measure s (round s w) < measure s w)
  round-or-end w h = subst (λ (x : World). AllFinished s x ⊎ (measure s (round s x) < measure s x)) (sym h.world) (rounds_fall s ok h.schedule h.may)

  -- so many rounds have been made, and with each what is left to do has become less, or all have finished
  abbrev pub HasCounted : World → ℕ → Type 0
  HasCounted w k = (measure s (rounds s w k) + k ≤ measure s w) ⊎ AllFinished s (rounds s w k)

  pub counted-more : (w : World) (k : ℕ) → Reached s (rounds s w k) → HasCounted w k → HasCounted w (k + 1)
  counted-more w k h (inr all) = inr (subst (λ (x : World). AllFinished s x) (sym (finished_round s (rounds s w k) all) ∙ rounds-more s w k) all)
  counted-more w k h (inl count) = go (round-or-end (rounds s w k) h) where
    go : AllFinished s (rounds s w k) ⊎ (measure s (round s (rounds s w k)) < measure s (rounds s w k)) → HasCounted w (k + 1)
    go (inl all) = counted-more' all where
      counted-more' : AllFinished s (rounds s w k) → HasCounted w (k + 1)
      counted-more' all = inr (subst (λ (x : World). AllFinished s x) (sym (finished_round s (rounds s w k) all) ∙ rounds-more s w k) all)
    go (inr fell) = inl (subst (λ (x : World). measure s x + (k + 1) ≤ measure s w) (rounds-more s w k) (omega (arith, fell, count)))

  -- after 2 ^ 64 - 1 rounds all have finished
  pub counted-all : (w : World) (k : ℕ) → Reached s w → Reached s (rounds s w k) → 2 ^ 64 - 1 ≤ k → HasCounted w k → AllFinished s (rounds s w k)
  counted-all w k start h far (inr all) = all
  counted-all w k start h far (inl count) = go (round-or-end (rounds s w k) h) where
    go : AllFinished s (rounds s w k) ⊎ (measure s (round s (rounds s w k)) < measure s (rounds s w k)) → AllFinished s (rounds s w k)
    go (inl all) = all
    go (inr fell) = let most = bounded w start in let never : ⊥ = omega (arith, fell, count, most, far) in absurd never
