-- What lines of a report show: the history of each place, and who made which entry.
use Rattle.std.specs.Prelude.{ℕ, ◌==◌, ◌&&◌, Bool, false, is_some, if◌then◌else◌, List, Option, Some, None}
use Rattle.std.specs.List.{filter_map}
use Rattle.co_object.specs.declared.Place.{Place}
use Rattle.co_object.specs.declared.Place.TheVariants as place
use Rattle.co_object.specs.declared.AnyEntry.{AnyEntry}
use Rattle.co_object.specs.declared.AnyEntry.TheVariants as of
use Rattle.co_object.specs.declared.Entry.{Entry}
use Rattle.co_object.specs.declared.QEntry.{QEntry}
use Rattle.co_object.specs.Lists.{same_place}
-- who made an entry
pub use Rattle.co_object.specs.Lists.{actor_of}
use Rattle.co_object.specs.Stand.{off}
use Rattle.co_object.specs.History.{state}
use Rattle.co_program.specs.declared.script.Script.{Script}
use Rattle.co_program.specs.Action.{spec_at}
use Rattle.co_program.specs.Follows.{scan_count}
use Rattle.co_report.specs.declared.line.Line.{Line}

-- the entry of callout i that stands in this place
abbrev pub callout_entry_at : ℕ → Place → AnyEntry → Option Entry
callout_entry_at i (place.Timer j) (of.Timer e) = if j == i then Some e else None
callout_entry_at i place entry = None

-- and that of a CPU's journal
abbrev pub queue_entry_at : ℕ → Place → AnyEntry → Option QEntry
queue_entry_at cpu (place.Cpu j) (of.Cpu e) = if j == cpu then Some e else None
queue_entry_at cpu place entry = None

-- the history of callout i, and the journal of a CPU
abbrev pub callout_history : ℕ → List Line → List Entry
callout_history i lines = filter_map (λ l. callout_entry_at i l.place l.entry) lines

abbrev pub cpu_journal : ℕ → List Line → List QEntry
cpu_journal cpu lines = filter_map (λ l. queue_entry_at cpu l.place l.entry) lines

abbrev pub is_by : ℕ → Line → Bool
is_by a l = actor_of l.entry == a

-- the actor's note of this number
abbrev pub is_note : (a number : ℕ) → Line → Bool
is_note a number l = is_by a l && l.number == number

-- a note of the actor in this place
abbrev pub is_in_place_by : ℕ → Place → Line → Bool
is_in_place_by a p l = is_by a l && same_place l.place p

-- whether the callout of this place stands in a queue after these lines
abbrev pub is_queued : Script → List Line → Place → Bool
is_queued s lines (place.Timer i) = is_some (off (state (spec_at s i) (callout_history i lines)))
is_queued s lines place = false

-- the number of Scans of the CPU of this place in these lines
abbrev pub scans_above : List Line → Place → ℕ
scans_above lines (place.Cpu cpu) = scan_count (cpu_journal cpu lines)
scans_above lines place = 0
