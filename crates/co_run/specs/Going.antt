-- Histories that go on from what an actor has seen.
use Rattle.std.specs.Prelude.{ℕ, ◌<◌, ◌^◌, length}
use Rattle.co_program.specs.Follows.{Histories}
use Rattle.co_world.proofs.basics.Prefixes.{Begins}
use Rattle.co_desk.specs.Views.{PassesView, seen_of, journal_seen}

-- what the actor has seen of each place begins its history, and all positions are told
pub record SeenBegins (H : Histories) (p : PassesView) : Type 0 where
  pub timers : (i : ℕ) → Begins (seen_of p i) (H.timers i)
  pub cpus : (cpu : ℕ) → Begins (journal_seen p cpu) (H.cpus cpu)
  pub few : (i : ℕ) → length (H.timers i) < 2 ^ 63
  pub few_cpus : (cpu : ℕ) → length (H.cpus cpu) < 2 ^ 63
