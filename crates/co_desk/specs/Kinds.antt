-- The two kinds of places: the callouts, and the CPUs.
use Rattle.std.specs.Prelude.{ℕ, List, [], slice_index_or}
use Rattle.co_life.specs.Identity.{LifeId}
use Rattle.co_object.specs.declared.note.Entry.{Entry}
use Rattle.co_object.specs.declared.note.QEntry.{QEntry}
use Rattle.co_desk.specs.declared.params.Params.{Params}
use Rattle.co_desk.specs.Name.{ServiceName}
use Rattle.co_desk.specs.Stories.{by, queue_by, IsHistory, IsJournal}
use Rattle.co_desk.specs.Views.{PassesView}

-- a kind of places, by the type of the entries of their histories
pub record KindOf (E : Type 0) : Type 1 where
  -- who made an entry, and which histories are legal
  pub made_by : E → ℕ
  pub Legal : Params → ℕ → List E → Type 0
  -- the lives of a service's places
  pub lives : ServiceName → List LifeId
  -- what an actor has seen of each place, and its passes once it has seen this
  pub all : PassesView → List (List E)
  pub with_all : PassesView → List (List E) → PassesView

abbrev pub timer_kind : KindOf Entry
timer_kind = record { made_by = by; Legal = IsHistory; lives = λ n. n.timers; all = λ p. p.timers; with_all = λ p seen. record p { timers = seen } }

abbrev pub cpu_kind : KindOf QEntry
cpu_kind = record { made_by = queue_by; Legal = IsJournal; lives = λ n. n.cpus; all = λ p. p.cpus; with_all = λ p seen. record p { cpus = seen } }

-- what an actor has seen of place i
abbrev pub seen : {E : Type 0} → KindOf E → PassesView → ℕ → List E
seen kind p i = slice_index_or (kind.all p) i []
