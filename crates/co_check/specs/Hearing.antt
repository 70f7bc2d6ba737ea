-- The note lines of a report while they are read: what is kept of them.
use Rattle.std.specs.Prelude.{◌≡◌, ◌≤◌, List, [], ◌∷◌, ◌++◌, length, map, Option, Some, None}
use Rattle.co_program.specs.declared.script.Script.{Script}
use Rattle.co_program.specs.Actors.{actor_count}
use Rattle.co_program.specs.Scripts.{IsScript}
use Rattle.co_report.specs.declared.line.Line.{Line}
use Rattle.co_check.specs.declared.heard.BadLine.{BadLine}
use Rattle.co_check.specs.declared.heard.Heard.{Heard}
use Rattle.co_check.specs.declared.heard.Replayed.{Replayed}
use Rattle.co_check.specs.declared.replaying.Replaying.{Replaying}
use Rattle.co_check.specs.declared.verdict.Unfit.{Unfit}
use Rattle.co_check.specs.Astray.{seen_lines}
use Rattle.co_check.specs.Lines.{AreLinesOf, lines_max}
use Rattle.co_check.specs.Numbers.{AreActorCounts}
use Rattle.co_check.specs.Replay.{Bad, first_unfit, unfit_at}
use Rattle.co_check.specs.Replayed.{IsAfter, IsReplayed, fact_of}

-- nothing is wrong with these lines, and this is kept of them
pub record IsReplaying (s : Script) (lines : List Line) (r : Replaying) : Type 0 where
  pub after : IsAfter s lines r.replay
  pub fit : first_unfit s lines ≡ None
  pub facts : r.facts ≡ map fact_of (seen_lines s lines)
  pub counted : AreActorCounts (actor_count s) lines r.counts.items

-- so it is with one line more, or this is wrong with it
abbrev pub IsReplayedOn : Script → List Line → Line → Option Unfit → Replaying → Type 0
IsReplayedOn s above l None r = IsReplaying s (above ++ l ∷ []) r
IsReplayedOn s above l (Some cause) r = unfit_at s above l.place l.entry ≡ Some cause

abbrev pub bad_of : BadLine → Bad
bad_of b = record { line = b.line; cause = b.cause }

-- nothing is wrong with the lines so far, which are as a report has them; or, if they are so, this is the first thing
abbrev pub IsSoFar : Script → List Line → Replaying → Option BadLine → Type 0
IsSoFar s lines r None = IsReplaying s lines r × AreLinesOf s lines × (length lines ≤ lines_max)
IsSoFar s lines r (Some b) = AreLinesOf s lines → length lines ≤ lines_max → first_unfit s lines ≡ Some (bad_of b)

-- these lines of a report of the script are heard
pub record IsHeard (s : Script) (lines : List Line) (x : Heard) : Type 0 where
  pub script : x.script.now ≡ s
  pub accepted : IsScript s
  pub lines_are : x.lines ≡ lines
  pub so_far : IsSoFar s lines x.replaying x.bad

-- where they are as a report has them, the lines come to this
abbrev pub ComesTo : Script → List Line → Replayed → Type 0
ComesTo s lines replayed = AreLinesOf s lines → length lines ≤ lines_max → IsReplayed s lines replayed
