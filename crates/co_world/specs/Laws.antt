-- What holds of every schedule of a script's actors.
use Rattle.std.specs.Prelude.{◌≡◌, ℕ, ◌-◌, ◌^◌, ◌<◌, ◌⊎◌, ◌↔◌, List, length, Some, None}
use Rattle.std.specs.List.{AllByRecursion}
use Rattle.co_object.specs.declared.Op.TheVariants.{Run}
use Rattle.co_object.specs.declared.RunOp.TheVariants.{Begin}
use Rattle.co_object.specs.declared.QReply.TheVariants.{Missing}
use Rattle.co_object.specs.Machine.{IsLegalFrom}
use Rattle.co_object.specs.Callout.{opening, step as callout_step}
use Rattle.co_object.specs.Queue.{empty_queue}
use Rattle.co_object.specs.History.{IsLegal, next, reply_of}
use Rattle.co_object.specs.Journal.{IsLegalQueue, step as queue_step, next as queue_next, reply_of as queue_reply_of}
use Rattle.co_object.specs.Lists.{callout_history, cpu_journal}
use Rattle.co_lock.specs.declared.Held.{Held}
use Rattle.co_lock.specs.Service.{hold_of}
use Rattle.co_program.specs.declared.Script.{Script}
use Rattle.co_program.specs.Actors.{actor_count}
use Rattle.co_program.specs.Action.{Asks, action_for, spec_at}
use Rattle.co_program.specs.declared.Asked.TheVariants.{Callout}
use Rattle.co_program.specs.Follows.{Follows, Histories}
use Rattle.co_world.specs.World.{World, open_world, lists_of, histories_of}
use Rattle.co_world.specs.Blocked.{blocked}
use Rattle.co_world.specs.Step.{step, turn_of, are_direct}
use Rattle.co_world.specs.Walk.{run, round, HasFinished, AllFinished, IsWalk}
use Rattle.co_world.specs.Measure.{measure}
use Rattle.co_world.specs.declared.turn.Turn.TheVariants.{Notes, Blocked, Finished}
use Rattle.co_world.specs.declared.turn.Why.{Why}
use Rattle.co_object.specs.declared.Note.{Note}
use Rattle.co_program.specs.Scripts.{IsScript}
use Rattle.co_program.specs.Places.{AllHavePlaces}
use Rattle.co_program.specs.Runs.{IsRunOf}
use Rattle.co_program.specs.Names.{FuncsExist, AllNotesName}
pub use Rattle.co_program.specs.Runs.{actors_of}

-- the world after a schedule
abbrev pub reached : Script → List ℕ → World
reached s schedule = run s (open_world s) schedule

-- a schedule of the script's actors
abbrev pub IsSchedule : Script → List ℕ → Type 0
IsSchedule s schedule = AllByRecursion (λ a. a < actor_count s) schedule

-- some schedule reaches it
pub record IsReached (s : Script) (w : World) : Type 0 where
  pub schedule : List ℕ
  pub may : IsSchedule s schedule
  pub world : w ≡ reached s schedule

-- ---- the lists of notes

-- the histories of the lists are those of the world
pub record AreOfLists (s : Script) (w : World) : Type 0 where
  pub timers : (i : ℕ) → callout_history i (lists_of s w) ≡ (w.timers i).history
  pub cpus : (cpu : ℕ) → cpu_journal cpu (lists_of s w) ≡ (w.cpus cpu).journal

-- every callout's history is legal, and every CPU's journal
pub record AreLegal (s : Script) (H : Histories) : Type 0 where
  pub timers : (i : ℕ) → i < length s.timers → IsLegal (actors_of s) (spec_at s i) (H.timers i)
  pub cpus : (cpu : ℕ) → cpu < s.cpus → IsLegalQueue (actors_of s) cpu s.buckets (are_direct s) (H.cpus cpu)

-- each entry is possible where it stands and has its object's reply: legality but for who makes it
pub record HaveReplies (s : Script) (w : World) : Type 0 where
  pub timers : (i : ℕ) → IsLegalFrom (next (spec_at s i)) (λ state e. reply_of (callout_step (spec_at s i) state e.op) ≡ Some e.reply) (opening 0) (w.timers i).history
  pub cpus : (cpu : ℕ) → IsLegalFrom (queue_next s.buckets (are_direct s)) (λ q e. queue_reply_of (queue_step s.buckets (are_direct s) q e.op) ≡ Some e.reply) empty_queue (w.cpus cpu).journal

-- no Remove is answered Missing
abbrev pub NoneMissing : Script → World → Type 0
NoneMissing s w = (cpu : ℕ) → AllByRecursion (λ e. e.reply ≡ Missing → ⊥) (w.cpus cpu).journal

-- an actor that has finished has notes that follow its program
abbrev pub FinishedFollow : Script → World → Type 0
FinishedFollow s w = (a : ℕ) → HasFinished s w a → Follows s (histories_of w) a (w.actors a).notes

-- ---- what an actor may do

-- an actor that begins a service holds the callout's lock in the mode of its spec
abbrev pub BeginsUnderLock : Script → World → Type 0
BeginsUnderLock s w =
    (a act i n cpu : ℕ) → action_for s a (w.actors a).cursor ≡ Asks act (Callout i (Run (Begin n cpu))) →
    (held : Held) × ((w.actors a).cursor.hold ≡ Some held) × (hold_of (spec_at s i).lock ≡ Some held)

-- while an actor is unfinished, some unfinished actor is not blocked
abbrev pub NeverStuck : Script → World → Type 0
NeverStuck s w =
    (a : ℕ) → a < actor_count s → ¬ HasFinished s w a →
    (b : ℕ) × (b < actor_count s) × (¬ HasFinished s w b) × (blocked s w b ≡ None)

-- what is left to do falls with every step that is made
abbrev pub Falls : Script → World → Type 0
Falls s w = (a : ℕ) → a < actor_count s → ¬ HasFinished s w a → blocked s w a ≡ None → measure s (step s w a) < measure s w

-- what the answer of a step tells: why it has to wait, exactly where it has to; that the program has ended, exactly where it
-- has; else how many notes the step made
pub record TurnTells (s : Script) (w : World) (a : ℕ) : Type 0 where
  pub waits : (why : Why) → (turn_of s w a ≡ Blocked why) ↔ (blocked s w a ≡ Some why)
  pub ended : (turn_of s w a ≡ Finished) ↔ HasFinished s w a
  pub counts : (n : ℕ) → turn_of s w a ≡ Notes n → (blocked s w a ≡ None) × (n ≡ length ((step s w a).actors a).notes - length (w.actors a).notes)

-- the actor has nothing to do now
abbrev pub IsIdle : Script → World → ℕ → Type 0
IsIdle s w a = HasFinished s w a ⊎ ((why : Why) × (blocked s w a ≡ Some why))

-- ---- the laws of every schedule

-- each callout's history and each CPU's journal is legal: possible entries, the plain object's replies, and each service by its own actor
abbrev pub HistoriesAreLegal : Type 0
HistoriesAreLegal = (s : Script) → IsScript s → (schedule : List ℕ) → IsSchedule s schedule → AreLegal s (histories_of (reached s schedule))

-- a call that takes an arming out of a queue finds it there
abbrev pub NoRemoveIsMissing : Type 0
NoRemoveIsMissing = (s : Script) → IsScript s → (schedule : List ℕ) → IsSchedule s schedule → NoneMissing s (reached s schedule)

-- an actor that has finished has notes that follow its program
abbrev pub EachFinishedActorFollows : Type 0
EachFinishedActorFollows = (s : Script) → IsScript s → (schedule : List ℕ) → IsSchedule s schedule → FinishedFollow s (reached s schedule)

-- while an actor is unfinished, some unfinished actor can step
abbrev pub NoScheduleIsStuck : Type 0
NoScheduleIsStuck = (s : Script) → IsScript s → (schedule : List ℕ) → IsSchedule s schedule → NeverStuck s (reached s schedule)

-- what is left to do falls with every step but those of actors that have finished or are blocked
abbrev pub EveryStepFalls : Type 0
EveryStepFalls = (s : Script) → IsScript s → (schedule : List ℕ) → IsSchedule s schedule → Falls s (reached s schedule)

-- what the answers of steps tell, in any world
abbrev pub TurnsTell : Type 0
TurnsTell = (s : Script) (w : World) (a : ℕ) → TurnTells s w a

-- a step of an actor that has finished or is blocked changes nothing
abbrev pub IdleStepsStay : Type 0
IdleStepsStay = (s : Script) (w : World) (a : ℕ) → IsIdle s w a → step s w a ≡ w

-- what is left to do falls with every round until all have finished
abbrev pub RoundsFall : Type 0
RoundsFall =
    (s : Script) → IsScript s → (schedule : List ℕ) → IsSchedule s schedule →
    AllFinished s (reached s schedule) ⊎ (measure s (round s (reached s schedule)) < measure s (reached s schedule))

-- what is left to do at the opening is below 2 ^ 64
abbrev pub OpeningFits : Type 0
OpeningFits = (s : Script) → IsScript s → measure s (open_world s) < 2 ^ 64

-- a script's walk has one result
abbrev pub WalksAgree : Type 0
WalksAgree = (s : Script) (lists others : List (List Note)) → IsWalk s lists → IsWalk s others → lists ≡ others

-- round robin comes to an end
abbrev pub WalksEnd : Type 0
WalksEnd = (s : Script) → IsScript s → (lists : List (List Note)) × IsWalk s lists

-- each note stands in a place of the script
abbrev pub NotesHavePlaces : Type 0
NotesHavePlaces = (s : Script) → IsScript s → (schedule : List ℕ) → IsSchedule s schedule → AllHavePlaces s (lists_of s (reached s schedule))

-- what the notes name exists, where the functions that the script's acts name do
abbrev pub NotesNameWhatExists : Type 0
NotesNameWhatExists = (s : Script) → IsScript s → FuncsExist s → (schedule : List ℕ) → IsSchedule s schedule → AllNotesName s (lists_of s (reached s schedule))

-- the same of a walk
abbrev pub WalksNameWhatExists : Type 0
WalksNameWhatExists = (s : Script) → IsScript s → FuncsExist s → (lists : List (List Note)) → IsWalk s lists → AllNotesName s lists

-- a script's walk is a run of it
abbrev pub WalksAreRuns : Type 0
WalksAreRuns = (s : Script) → IsScript s → (lists : List (List Note)) → IsWalk s lists → IsRunOf s lists
