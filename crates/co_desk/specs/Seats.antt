-- One actor's passes of many places, and the lives of these places.
use Rattle.std.specs.Prelude.{◌≡◌, ℕ, ◌<◌, List, [], ◌∷◌, ◌++◌, length, map, Option, Some, None, refl, slice_get, slice_index_or, slice_set}
use Rattle.std.specs.List.{All}
use Rattle.std.specs.Coded.{Coded, code_by, coded×, coded_ℕ, coded_list}
use Rattle.co_life.specs.Identity.{LifeId, life_coded}
use Rattle.co_life.specs.Rule.{capped}
use Rattle.co_life.specs.Seen.{Extends, own, StartsWith}
use Rattle.co_life.specs.Views.{KeeperView, PassView}

-- the places' lives, the actor, and what it has seen of each place
pub record SeatsView (E : Type 0) : Type 0 where
  pub name : List LifeId
  pub actor : ℕ
  pub seen : List (List E)

abbrev pub seats_coded : {E : Type 0} → Coded E → Coded (SeatsView E)
seats_coded {E} c = code_by (List LifeId × (ℕ × List (List E))) (coded× (coded_list life_coded) (coded× coded_ℕ (coded_list (coded_list c)))) (λ (s : SeatsView E). (s.name, (s.actor, s.seen))) (λ p. record { name = p.0; actor = p.1.0; seen = p.1.1 }) (λ _. refl)

abbrev pub no_life : LifeId
no_life = record { words = 0; slots = 0; views_name = 0; atom = 0; block = 0; offset = 0; slot_names = [] }

module _ {E : Type 0} where
  abbrev pub life_in : Option (PassView E) → LifeId
  life_in (Some h) = h.life
  life_in None = no_life

  abbrev pub seen_in : Option (PassView E) → List E
  seen_in (Some h) = h.seen
  seen_in None = []

  abbrev pub seats_of : ℕ → List (Option (PassView E)) → SeatsView E
  seats_of a ps = record { name = map life_in ps; actor = a; seen = map seen_in ps }

  -- the pass is there, and is the actor's
  abbrev pub IsOwn : ℕ → Option (PassView E) → Type 0
  IsOwn a (Some h) = h.actor ≡ a
  IsOwn a None = ⊥

  -- what an actor has seen of a place
  abbrev pub seen_at : SeatsView E → ℕ → List E
  seen_at s i = slice_index_or s.seen i []

  -- an actor's passes of these places, which have seen nothing
  abbrev pub fresh_seats : List LifeId → ℕ → SeatsView E
  fresh_seats name a = record { name = name; actor = a; seen = map (λ _. []) name }

  -- what an actor has seen of a place begins its history, which has no more entries of the actor
  pub record IsShown (by : E → ℕ) (actor : ℕ) (history seen : List E) : Type 0 where
    pub prefix : StartsWith history seen
    pub all_own : own by actor history ≡ own by actor seen

  -- the keeper is of place i, whose life this is
  pub record IsAt (name : List LifeId) (i : ℕ) (life : LifeId) (k : KeeperView E) : Type 0 where
    pub at : slice_get name i ≡ Some life
    pub keeper : k.life ≡ life

  -- an actor's entry is written in the history of place i, at this number
  pub record IsWritten (by : E → ℕ) (s : SeatsView E) (i : ℕ) (e : E) (k : KeeperView E) (number : ℕ) (k' : KeeperView E) (s' : SeatsView E) : Type 0 where
    -- it stands at the end, and the keeper is of the same place
    pub keeper : k' ≡ record k { history = k.history ++ e ∷ [] }
    -- the actor has seen this history, and of the other places what it had
    pub name : s'.name ≡ s.name
    pub actor : s'.actor ≡ s.actor
    pub seen : s'.seen ≡ slice_set s.seen i k'.history
    -- since it looked last only others have written
    pub extends : Extends by s.actor (seen_at s i) e k'.history
    pub position : number ≡ capped (length k.history)
    pub actors : All (λ x. by x < k'.actors) k'.history

  -- an actor's pass of place i was compared with its history
  pub record IsCompared (by : E → ℕ) (Legal : List E → Type 0) (s : SeatsView E) (i : ℕ) (k k' : KeeperView E) (s' : SeatsView E) : Type 0 where
    -- nothing has changed
    pub keeper : k' ≡ k
    pub same : s' ≡ s
    pub shown : IsShown by s.actor k.history (seen_at s i)
    pub actors : All (λ x. by x < k.actors) k.history
    pub legal : Legal k.history
