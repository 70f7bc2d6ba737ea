-- What the code keeps of the lines above: each callout's state, each CPU's queue, and how many Scans it had.
use Rattle.std.specs.Prelude.{◌≡◌, ℕ, ◌<◌, Bool, is_some, List, [], ◌∷◌, ◌++◌, length, map, Some, None, Result, Ok, Err, slice_get, slice_index}
use Rattle.co_object.specs.declared.Alone.{Alone}
use Rattle.co_object.specs.declared.Spec.{Spec}
use Rattle.co_object.specs.declared.Entry.{Entry}
use Rattle.co_object.specs.declared.QEntry.{QEntry}
use Rattle.co_object.specs.Actors.{Actors}
use Rattle.co_object.specs.Callout.{opening}
use Rattle.co_object.specs.History.{next}
use Rattle.co_object.specs.Queue.{Queue}
use Rattle.co_object.specs.Journal as journal
use Rattle.co_object.specs.Stand.{off}
use Rattle.co_program.specs.declared.script.Script.{Script}
use Rattle.co_program.specs.Action.{spec_at}
use Rattle.co_program.specs.Actors.{actor_count}
use Rattle.co_program.specs.Follows.{scan_count}
use Rattle.co_program.specs.Runs.{are_direct}
use Rattle.co_check.specs.declared.cpu.CpuQueue.{CpuQueue}
use Rattle.co_report.specs.declared.line.Line.{Line}
use Rattle.co_check.specs.Facts.{Fact}
use Rattle.co_check.specs.declared.replay.Replay.{Replay}
use Rattle.co_check.specs.declared.heard.Replayed.{Replayed}
use Rattle.co_check.specs.declared.heard.Replayed.TheVariants.{Fits, Bad as BadLine}
use Rattle.co_check.specs.declared.verdict.Unfit.{Unfit}
use Rattle.co_check.specs.Astray.{SeenLine, seen_at, seen_lines}
use Rattle.co_check.specs.Cpu.{ShowsQueue}
use Rattle.co_check.specs.Numbers.{AreActorCounts}
use Rattle.co_check.specs.Replay.{callout_unfit, queue_unfit, state_after, queue_after, unfit_at, first_unfit}
use Rattle.co_check.specs.Shown.{cpu_journal}

-- ---- one entry

-- the callout takes an entry, and whether it stands in a queue then; or what is wrong with the entry
abbrev pub IsCalloutTaken : Actors → Alone → Entry → Result Bool Unfit → Alone → Type 0
IsCalloutTaken actors before e (Ok listed) after =
    (callout_unfit actors before.spec before.state e ≡ None) × (after ≡ record before { state = next before.spec before.state e }) × (listed ≡ is_some (off after.state))
IsCalloutTaken actors before e (Err cause) after = callout_unfit actors before.spec before.state e ≡ Some cause

-- the same of a CPU's queue, which stands for this plain one
abbrev pub IsQueueTaken : Actors → (cpu m : ℕ) → List Bool → Queue → QEntry → Result (Unit {0}) Unfit → CpuQueue → Type 0
IsQueueTaken actors cpu m direct q e (Ok done) after = (queue_unfit actors cpu m direct q e ≡ None) × ShowsQueue (journal.next m direct q e) after
IsQueueTaken actors cpu m direct q e (Err cause) after = queue_unfit actors cpu m direct q e ≡ Some cause

-- ---- all lines

abbrev pub alone_after : Script → List Line → ℕ → Alone
alone_after s above i = record { spec = spec_at s i; state = state_after s above i }

-- the code's queue of a CPU is of the script's, and stands for the plain one after these lines
pub record IsCpuAfter (s : Script) (above : List Line) (cpu : ℕ) (kept : CpuQueue) : Type 0 where
  pub size : kept.queue.size ≡ length s.timers
  pub buckets : kept.queue.buckets ≡ s.buckets
  pub direct : kept.queue.direct ≡ are_direct s
  pub queue : ShowsQueue (queue_after s above cpu) kept

pub record IsAfter (s : Script) (above : List Line) (r : Replay) : Type 0 where
  pub callouts : length r.callouts.items ≡ length s.timers
  pub cpus : length r.cpus.items ≡ s.cpus
  pub counts : length r.scans.items ≡ s.cpus
  pub callout : (i : ℕ) (alone : Alone) → slice_get r.callouts.items i ≡ Some alone → alone ≡ alone_after s above i
  pub cpu : (cpu : ℕ) (kept : CpuQueue) → slice_get r.cpus.items cpu ≡ Some kept → IsCpuAfter s above cpu kept
  pub scans : (cpu : ℕ) → cpu < s.cpus → slice_index r.scans.items cpu ≡ scan_count (cpu_journal cpu above)

abbrev pub fact_of : SeenLine → Fact
fact_of x = record { listed = x.listed; scans = x.scans }

-- the line is taken, and what the lines of its place say of it; or what is wrong with it
abbrev pub IsLineTaken : Script → List Line → Line → Result Fact Unfit → Replay → Type 0
IsLineTaken s above l (Ok fact) after = (unfit_at s above l.place l.entry ≡ None) × IsAfter s (above ++ l ∷ []) after × (fact ≡ fact_of (seen_at s above l))
IsLineTaken s above l (Err cause) after = unfit_at s above l.place l.entry ≡ Some cause

-- a callout as it is made
abbrev pub opened : Spec → Alone
opened spec = record { spec = spec; state = opening 0 }

-- no line is unfit, and this is said of each of them and of their counts; or the first that is
abbrev pub IsReplayed : Script → List Line → Replayed → Type 0
IsReplayed s lines (Fits facts counts) = (first_unfit s lines ≡ None) × (facts.items ≡ map fact_of (seen_lines s lines)) × AreActorCounts (actor_count s) lines counts.items
IsReplayed s lines (BadLine line cause) = first_unfit s lines ≡ Some (record { line = line; cause = cause })
