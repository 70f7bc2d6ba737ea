-- Who is moving a callout, among the actors of a script.
use Rattle.std.proofs.Common.{◌≡◌, ℕ, ◌<◌, Bool, true, false, refl, sym, ap, ◌∙◌, arith, Option, Some, None, eqb-true, eq-eqb}
use Rattle.std.specs.Prelude.{◌==◌}
use Rattle.co_program.specs.declared.script.Script.{Script}
use Rattle.co_program.specs.Actors.{actor_count}
use Rattle.co_program.specs.declared.cursor.PendingInsert.{PendingInsert}
use Rattle.co_world.specs.World.{World}
use Rattle.co_world.specs.Blocked.{is_moving, moves}
use Rattle.co_world.proofs.basics.Ranges.{any_same, any_at, any_only, any_found}

-- ---- what moves

-- what the actor's place has on its way is this callout, if anything
abbrev pub IsOnly : ℕ → Option PendingInsert → Type 0
IsOnly i parcel = (p : PendingInsert) → parcel ≡ Some p → p.i ≡ i

pub moves_only : (i j : ℕ) (parcel : Option PendingInsert) → IsOnly i parcel → (j ≡ i → ⊥) → moves j parcel ≡ false
moves_only i j None only other = refl
moves_only i j (Some p) only other = go (p.i == j) refl where
  go : (b : Bool) → (p.i == j) ≡ b → b ≡ false
  go true is = absurd (other (sym (eqb-true p.i j is) ∙ only p refl))
  go false is = refl

pub moves_it : (i : ℕ) (parcel : Option PendingInsert) (p : PendingInsert) → parcel ≡ Some p → p.i ≡ i → moves i parcel ≡ true
moves_it i parcel p is it = ap (moves i) is ∙ eq-eqb p.i i it

pub unmoved : (i : ℕ) (parcel : Option PendingInsert) (p : PendingInsert) → moves i parcel ≡ false → parcel ≡ Some p → p.i ≡ i → ⊥
unmoved i parcel p not is it = let yes' : moves i parcel ≡ true = moves_it i parcel p is it in let clash : true ≡ false = sym yes' ∙ not in cc

-- parcels of a world
abbrev pub parcels_of : World → ℕ → Option PendingInsert
parcels_of w a = (w.actors a).cursor.parcel

module _ (s : Script) (w : World) where
  pub moving_at : (i a : ℕ) → a < actor_count s → moves i (parcels_of w a) ≡ true → is_moving s w i ≡ true
  moving_at i a may is = any_at (λ b. moves i (parcels_of w b)) 0 (actor_count s) a (omega arith) (omega arith) is

  pub moving_none : (i a : ℕ) → a < actor_count s → is_moving s w i ≡ false → moves i (parcels_of w a) ≡ false
  moving_none i a may still = go (moves i (parcels_of w a)) refl where
    go : (b : Bool) → moves i (parcels_of w a) ≡ b → b ≡ false
    go true is = let yes' : is_moving s w i ≡ true = moving_at i a may is in let clash : true ≡ false = sym yes' ∙ still in cc
    go false is = refl

  pub mover : (i : ℕ) → is_moving s w i ≡ true → (b : ℕ) × (b < actor_count s) × (moves i (parcels_of w b) ≡ true)
  mover i is = let found = any_found (λ b. moves i (parcels_of w b)) 0 (actor_count s) is in let low = found.1 in (found.0, omega (arith, low), found.2)

  -- if no other actor moves it
  pub moving_own : (i a : ℕ) → a < actor_count s → ((b : ℕ) → (b ≡ a → ⊥) → b < actor_count s → moves i (parcels_of w b) ≡ false) → is_moving s w i ≡ moves i (parcels_of w a)
  moving_own i a may none = any_only (λ b. moves i (parcels_of w b)) 0 (actor_count s) a (omega arith) (omega arith) (λ b other low high. none b other (omega arith))

  pub moving_same : (w' : World) (i : ℕ) → ((b : ℕ) → b < actor_count s → moves i (parcels_of w' b) ≡ moves i (parcels_of w b)) → is_moving s w' i ≡ is_moving s w i
  moving_same w' i all = any_same (λ b. moves i (parcels_of w b)) (λ b. moves i (parcels_of w' b)) 0 (actor_count s) (λ b low high. all b (omega arith))
