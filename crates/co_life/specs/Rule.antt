-- The rule of a shared history.
use Rattle.std.specs.Prelude.{◌≡◌, ℕ, ◌<◌, min, List, [], Option, Some, None}
use Rattle.std.specs.List.{All}
use mathlib.Core.Option.{some}
use lib.ListN.{get_elem?}
use Rattle.atomic_table.specs.Table.{State}
use Rattle.co_life.specs.declared.view.SeatView.{SeatView}
use Rattle.co_life.specs.declared.view.SeatView.TheVariants.{Keeps, Has, Spent}
use Rattle.co_life.specs.declared.view.Glance.{Glance}
use Rattle.co_life.specs.Seen.{StartsWith, own}

-- a length as a number of 64 bits has it
abbrev pub capped : ℕ → ℕ
capped n = min n 18446744073709551615

module _ {E : Type 0} where
  abbrev pub glance : ℕ → List E → Glance E
  glance a xs = record { actor = a; seen = xs }

  abbrev pub opening_view : SeatView E
  opening_view = Keeps [] 0 None

  -- the pass that a seat has: its own, or the one inside
  abbrev pub pass_in : SeatView E → Option (Glance E)
  pass_in (Keeps history made inside) = inside
  pass_in (Has p) = Some p
  pass_in Spent = None

  abbrev pub HasPass : List (SeatView E) → ℕ → Glance E → Type 0
  HasPass views k p = (v : SeatView E) × (get_elem? views k ≡ some v) × (pass_in v ≡ Some p)

  -- what a pass has seen begins the history, and it has seen all entries of its actor
  pub record Fits (actor : E → ℕ) (history : List E) (p : Glance E) : Type 0 where
    pub prefix : StartsWith history p.seen
    pub all_own : own actor p.actor history ≡ own actor p.actor p.seen

  pub record IsKept (actor : E → ℕ) (legal : List E → Type 0) (views : List (SeatView E)) (keeper : ℕ) (history : List E) (made : ℕ) (inside : Option (Glance E)) : Type 0 where
    -- one view is a keeper's
    pub keeps : get_elem? views keeper ≡ some (Keeps history made inside)
    pub alone : (k n : ℕ) (h : List E) (i : Option (Glance E)) → get_elem? views k ≡ some (Keeps h n i) → k ≡ keeper
    pub fits : (k : ℕ) (p : Glance E) → HasPass views k p → (p.actor < made) × Fits actor history p
    -- each actor below the number made has exactly one pass
    pub apart : (k l : ℕ) (p q : Glance E) → HasPass views k p → HasPass views l q → p.actor ≡ q.actor → k ≡ l
    pub each : (a : ℕ) → a < made → (k : ℕ) × (p : Glance E) × HasPass views k p × (p.actor ≡ a)
    pub actors : All (λ e. actor e < made) history
    pub is_legal : legal history

  abbrev pub Kept : (E → ℕ) → (List E → Type 0) → State E (SeatView E) → Type 0
  Kept actor legal s = (keeper : ℕ) × (history : List E) × (made : ℕ) × (inside : Option (Glance E)) × IsKept actor legal s.views keeper history made inside
