-- What each step of a keeper does to the views, and what it tells.
use Rattle.std.specs.Prelude.{◌≡◌, ℕ, suc, ◌<◌, List, [], ◌∷◌, ◌++◌, Option, Some, None}
use Rattle.std.specs.List.{All}
use Rattle.atomic_table.specs.Table.{Me, Step}
use Rattle.co_life.specs.declared.view.SeatView.{SeatView}
use Rattle.co_life.specs.declared.view.SeatView.TheVariants.{Keeps, Has, Spent}
use Rattle.co_life.specs.declared.view.Glance.{Glance}
use Rattle.co_life.specs.Rule.{glance, Fits}
use Rattle.co_life.specs.Views.{history_in, made_in}

module _ {E : Type 0} where
  -- boot: one more pass is made
  abbrev pub dealing : SeatView E → SeatView E
  dealing (Keeps h n i) = Keeps h (suc n) i
  dealing (Has p) = Has p
  dealing Spent = Spent

  abbrev pub dealt : SeatView E → SeatView E
  dealt (Keeps h n i) = Has (glance n h)
  dealt (Has p) = Spent
  dealt Spent = Spent

  -- a pass comes in
  abbrev pub entered : SeatView E → SeatView E → SeatView E
  entered (Keeps h n i) (Has p) = Keeps h n (Some p)
  entered v w = v

  -- the keeper with a pass inside
  abbrev pub let_in : List E → ℕ → Glance E → Me E (SeatView E)
  let_in h n p = (Keeps h n (Some p), [])

  abbrev pub left_by : SeatView E → SeatView E
  left_by (Keeps h n i) = Keeps h n None
  left_by (Has p) = Has p
  left_by Spent = Spent

  -- and goes out again
  abbrev pub let_out : SeatView E → SeatView E
  let_out (Keeps h n (Some p)) = Has p
  let_out (Keeps h n None) = Spent
  let_out (Has p) = Spent
  let_out Spent = Spent

  abbrev pub with_entry : SeatView E → Option E → SeatView E
  with_entry (Keeps h n (Some p)) (Some e) = Keeps (h ++ e ∷ []) n (Some (glance p.actor (h ++ e ∷ [])))
  with_entry v m = v

  -- a keeper with a pass inside learns what of the history the pass has seen
  pub record Learns (actor : E → ℕ) (legal : List E → Type 0) (h : List E) (n : ℕ) (p : Glance E) : Type 0 where
    pub fits : Fits actor h p
    pub below : p.actor < n
    pub actors : All (λ e. actor e < n) h
    pub is_legal : legal h

  abbrev pub Tells : (E → ℕ) → (List E → Type 0) → SeatView E → Type 0
  Tells actor legal (Keeps h n (Some p)) = Learns actor legal h n p
  Tells actor legal (Keeps h n None) = Unit {0}
  Tells actor legal (Has p) = Unit {0}
  Tells actor legal Spent = Unit {0}

  abbrev pub Looks : (E → ℕ) → (List E → Type 0) → Step E → Me E (SeatView E) → ℕ → Me E (SeatView E) → Type 0
  Looks actor legal st m found m' = (m' ≡ m) × Tells actor legal m.0

  abbrev pub Appends : Option E → Step E → Me E (SeatView E) → ℕ → Me E (SeatView E) → Type 0
  Appends said st m found m' = m' ≡ (with_entry m.0 said, m.1)

  -- the keeper's seat has a pass inside, whose actor may make this entry now
  pub record MayAppend (actor : E → ℕ) (legal : List E → Type 0) (m : Me E (SeatView E)) (p : Glance E) (e : E) : Type 0 where
    pub inside : m ≡ let_in (history_in m.0) (made_in m.0) p
    pub own : actor e ≡ p.actor
    pub is_legal : legal (history_in m.0 ++ e ∷ [])
