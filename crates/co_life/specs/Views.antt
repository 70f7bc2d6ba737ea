-- What contracts see of a keeper and of a pass.
use Rattle.std.specs.Prelude.{◌≡◌, ℕ, ◌<◌, List, [], length, Some, None, refl, slice_get}
use Rattle.std.specs.Coded.{Coded, code_by, coded×, coded_ℕ, coded_list}
use Rattle.atomic_table.specs.Table.{Me}
use Rattle.co_life.specs.Identity.{LifeId, life_coded}
use Rattle.co_life.specs.declared.view.SeatView.{SeatView}
use Rattle.co_life.specs.declared.view.SeatView.TheVariants.{Keeps, Has, Spent}
use Rattle.co_life.specs.Rule.{capped, glance}

-- a keeper: its life, the whole history, and how many actors there are
pub record KeeperView (E : Type 0) : Type 0 where
  pub life : LifeId
  pub history : List E
  pub actors : ℕ

abbrev pub keeper_coded : {E : Type 0} → Coded E → Coded (KeeperView E)
keeper_coded {E} c = code_by (LifeId × (List E × ℕ)) (coded× life_coded (coded× (coded_list c) coded_ℕ)) (λ (t : KeeperView E). (t.life, (t.history, t.actors))) (λ p. record { life = p.0; history = p.1.0; actors = p.1.1 }) (λ _. refl)

-- a pass: its life, its actor, and what it has seen
pub record PassView (E : Type 0) : Type 0 where
  pub life : LifeId
  pub actor : ℕ
  pub seen : List E

abbrev pub pass_coded : {E : Type 0} → Coded E → Coded (PassView E)
pass_coded {E} c = code_by (LifeId × (ℕ × List E)) (coded× life_coded (coded× coded_ℕ (coded_list c))) (λ (t : PassView E). (t.life, (t.actor, t.seen))) (λ p. record { life = p.0; actor = p.1.0; seen = p.1.1 }) (λ _. refl)

abbrev pub pass_view : {E : Type 0} → LifeId → ℕ → List E → PassView E
pass_view life a xs = record { life = life; actor = a; seen = xs }

-- one pass for each actor below n, in order, and none has seen anything
pub record AreFresh {E : Type 0} (life : LifeId) (n : ℕ) (passes : List (PassView E)) : Type 0 where
  pub count : length passes ≡ n
  pub each : (j : ℕ) → j < n → slice_get passes j ≡ Some (pass_view life j [])

module _ {E : Type 0} where
  abbrev pub history_in : SeatView E → List E
  history_in (Keeps h n i) = h
  history_in (Has p) = []
  history_in Spent = []

  abbrev pub made_in : SeatView E → ℕ
  made_in (Keeps h n i) = n
  made_in (Has p) = 0
  made_in Spent = 0

  abbrev pub keeper_view_of : LifeId → Me E (SeatView E) → KeeperView E
  keeper_view_of t me = record { life = t; history = history_in me.0; actors = made_in me.0 }

  -- no pass is inside
  abbrev pub IsAlone : Me E (SeatView E) → Type 0
  IsAlone me = me ≡ (Keeps (history_in me.0) (made_in me.0) None, [])

  -- and the count is the history's length
  abbrev pub IsKeeper : Me E (SeatView E) → ℕ → Type 0
  IsKeeper me count = IsAlone me × (count ≡ capped (length (history_in me.0)))

  abbrev pub actor_in : SeatView E → ℕ
  actor_in (Keeps h n i) = 0
  actor_in (Has p) = p.actor
  actor_in Spent = 0

  abbrev pub seen_in : SeatView E → List E
  seen_in (Keeps h n i) = []
  seen_in (Has p) = p.seen
  seen_in Spent = []

  abbrev pub pass_view_of : LifeId → Me E (SeatView E) → PassView E
  pass_view_of t me = record { life = t; actor = actor_in me.0; seen = seen_in me.0 }

  abbrev pub IsPass : Me E (SeatView E) → Type 0
  IsPass me = me ≡ (Has (glance (actor_in me.0) (seen_in me.0)), [])
