-- What the answering of a text begins with, and what it comes to.
use Rattle.std.specs.Prelude.{◌≡◌, ℕ, ◌<◌, ◌^◌, ◌++◌, true, false, List, length}
use Rattle.std.specs.List.{list_all}
use Rattle.co_text.specs.Lines.{text}
use Rattle.co_batch.specs.Answers.{answers}
use Rattle.co_life.specs.Identity.{LifeId}
use Rattle.co_service.specs.Fresh.{AreNamed}
use Rattle.co_desk.specs.Name.{ServiceName}
use Rattle.co_desk.specs.Services.{IsFree}
use Rattle.co_desk.specs.declared.params.Params.{Params}
use Rattle.co_single.specs.Alarms.{made_at}
use Rattle.co_single.specs.Seen.{single_params}
use Rattle.co_sleepq.specs.Fresh.{AreFreshPasses, SleepFreshView}
use Rattle.co_sleepq.specs.Params.{ArePasses}
use Rattle.co_sleepq.specs.Views.{SleepPassesView}
use Rattle.co_batch_text.specs.Sleep.Answers.{answering}
use Rattle.co_batch_text.specs.Sleep.Clock.{clock_opening}
use Rattle.co_batch_text.specs.Sleep.Commands.{fits}
use Rattle.co_batch_text.specs.Sleep.Matching.{AreObeyed, IsMatched}
use Rattle.co_batch_text.specs.declared.sleep.command.SleepCommand.{SleepCommand}

-- a sleep queue before its locks, and the passes of its one actor
pub record IsBooted (n : ℕ) (fresh : SleepFreshView) (all : List SleepPassesView) : Type 0 where
  -- it has n sleepers, and no clients
  pub params_are : fresh.params ≡ single_params n
  -- each of its places has a life
  pub named : AreNamed fresh.name.service fresh.params
  -- the passes have seen nothing
  pub passes_are : AreFreshPasses fresh.name fresh.params 1 all

-- an actor's passes of a sleep queue, between two commands
pub record AreFree (name : ServiceName) (book : LifeId) (queue : Params) (p : SleepPassesView) : Type 0 where
  pub of : ArePasses name book queue p
  -- the actor has nothing in service
  pub free : IsFree false p.service 0

-- the passes stand for the sleep queue with a clock at its opening
pub record AreOpening (n : ℕ) (p : SleepPassesView) : Type 0 where
  pub matched : IsMatched n clock_opening p
  -- no timer was armed
  pub unmade : (i : ℕ) → made_at p.service i ≡ 0

-- the commands of a text with n sleepers
pub record AreCommands (n : ℕ) (xs : List SleepCommand) : Type 0 where
  -- the sleepers that they name exist, and their numbers are in their ranges
  pub fit : list_all (fits n) xs ≡ true
  -- so few that each arming of a timer has a number
  pub few : length xs < 2 ^ 62

-- the commands were answered, one after the other, from the opening on
pub record AreAnswered (n : ℕ) (xs : List SleepCommand) (p q : SleepPassesView) (page written : List ℕ) : Type 0 where
  -- the answers stand at the end of the page
  pub text_is : written ≡ page ++ text (answers answering n clock_opening xs)
  -- and this is what they did to the service
  pub obeyed : AreObeyed n xs p q
