-- Sections of a text that are read beside each other, each on its own.
use Rattle.std.specs.Prelude.{◌≡◌, ℕ, ◌+◌, ◌-◌, ◌≤◌, ◌<◌, true, List, [], ◌∷◌, Option, Some, Result, Ok, length, drop}
use Rattle.co_program.specs.declared.Act.{Act}
use Rattle.co_grammar.specs.declared.Kind.{Kind}
use Rattle.co_grammar.specs.Ahead.{HasWords}
use Rattle.co_grammar.specs.Statements as states
use Rattle.co_text.specs.Fallible.{Refusal, Faults, fault_at}
use Rattle.co_text.specs.declared.LineFault.{LineFault}
use Rattle.co_text.specs.Lines.{Line, lines_of}
use Rattle.co_text.specs.Values.{Word}
use Rattle.co_script.specs.Drafts.{Draft}
use Rattle.co_script.specs.Refusals.{has_room_for_act, draft_with}
use Rattle.co_script.specs.Reading.{line_after, line_read, lines_read}
use Rattle.co_script.specs.declared.sections.Section.{Section}
use Rattle.co_script.specs.declared.spot.Spot.{Spot}

-- acts name and mean the same in both drafts
pub record HaveOneFrame (d e : Draft) : Type 0 where
  pub version : d.script.version ≡ e.script.version
  pub cpus : d.script.cpus ≡ e.script.cpus
  pub locks : d.script.locks ≡ e.script.locks
  pub timers : length d.script.timers ≡ length e.script.timers
  pub funcs : d.funcs ≡ e.funcs

-- the open section stands alike in both, whatever there is beside it
pub record StandAlike (d e : Draft) : Type 0 where
  pub frame : HaveOneFrame d e
  pub stage : d.stage ≡ e.stage
  pub acts : d.acts ≡ e.acts
  pub clock : d.clock ≡ e.clock

-- a section of this kind has just begun
pub record Begins (stage : Kind) (d : Draft) : Type 0 where
  pub kind : d.stage ≡ stage
  pub acts : d.acts ≡ []
  pub clock : d.clock ≡ 0

-- these are the acts of the open section, its time, and how many acts there are in all
abbrev pub with_acts : Draft → List Act → ℕ → ℕ → Draft
with_acts d acts clock count = record d { acts = acts; clock = clock; count = count }

-- the line makes the first draft the second, and gives the open section as much in each draft where it stands alike
pub record Grows (l : Line) (d e : Draft) : Type 0 where
  pub frame : HaveOneFrame d e
  pub kind : e.stage ≡ d.stage
  pub more : length d.acts ≤ length e.acts
  pub reads : (o : Draft) → StandAlike d o → o.count + length e.acts ≤ 262144 + length d.acts
      → line_read (Some o) l ≡ Ok (Some (with_acts o e.acts e.clock (o.count + length e.acts - length d.acts)))

-- the words of a line say this act, which may be added here, and to each section that stands alike
pub record SaysAct (d : Draft) (first : Word) (others : List Word) (a : Act) : Type 0 where
  pub room : has_room_for_act d ≡ true
  pub reads : (o : Draft) → StandAlike d o → o.count < 262144 → line_after o first others ≡ Ok (draft_with o o.script (states.Does a))

-- the line at the front of a text says this act, which may be added here, and to each section that stands alike; this stands
-- behind the line
pub record SaysNext (d : Draft) (text : List ℕ) (a : Act) (after : List ℕ) : Type 0 where
  pub first : Word
  pub others : List Word
  pub has : HasWords text first others after
  pub says : SaysAct d first others a

-- a line stands between two places of a text
pub record IsLine (text : List ℕ) (from to : ℕ) (l : Line) : Type 0 where
  pub lines : lines_of (drop from text) ≡ l ∷ lines_of (drop to text)
  pub further : from < to
  pub within : to ≤ length text

-- the line between two places makes the first draft the second, and grows its open section
pub record TakesNext (text : List ℕ) (d e : Draft) (from to : ℕ) : Type 0 where
  pub line : Line
  pub is : IsLine text from to line
  pub grows : Grows line d e
  pub reads : line_read (Some d) line ≡ Ok (Some e)

-- the line between two places grows the open section
pub record GrowsNext (text : List ℕ) (d e : Draft) (from to : ℕ) : Type 0 where
  pub line : Line
  pub is : IsLine text from to line
  pub grows : Grows line d e

-- the line between two places makes the first draft the second
pub record ReadsNext (text : List ℕ) (d e : Option Draft) (from to : ℕ) : Type 0 where
  pub line : Line
  pub is : IsLine text from to line
  pub reads : line_read d line ≡ Ok e

-- the text from a place on is refused, with this fault of its first line
abbrev pub FailsNext : List ℕ → Option Draft → ℕ → LineFault → Type 0
FailsNext text d from fault = (k : ℕ) → Faults (fault_at k fault) (lines_read k d (lines_of (drop from text)))

-- a section of this kind that has just begun in any draft of the frame has these acts and this time behind so many lines
abbrev pub Reads : Draft → Kind → List Line → List Act → ℕ → ℕ → List Line → Type 0
Reads frame stage lines acts clock count rest = (d : Draft) (k : ℕ) → HaveOneFrame frame d → Begins stage d → d.count + length acts ≤ 262144
    → lines_read k (Some d) lines ≡ lines_read (k + count) (Some (with_acts d acts clock (d.count + length acts))) rest

-- the draft, whose section had just begun, took the lines from one place in the text to another
pub record HasTaken (text : List ℕ) (d e : Draft) (from to count : ℕ) : Type 0 where
  pub reads : Reads d d.stage (lines_of (drop from text)) e.acts e.clock count (lines_of (drop to text))
  pub within : to ≤ length text
  pub few : from + count ≤ to

-- a section of the text was read by itself
pub record IsSection (text : List ℕ) (frame : Draft) (s : Section) : Type 0 where
  pub reads : Reads frame s.stage (lines_of (drop s.at text)) s.acts s.clock s.lines (lines_of (drop s.end text))
  pub within : s.end ≤ length text
  pub few : s.at + s.lines ≤ s.end

-- the acts of a section may be put into the draft where it has just begun
pub record MayTakeActs (frame : Draft) (stage : Kind) (number : ℕ) (d : Draft) : Type 0 where
  pub frame_is : HaveOneFrame frame d
  pub begins : Begins stage d
  pub few : d.count + number ≤ 262144

-- a place in a text
pub record IsSpot (text : List ℕ) (p : Spot) : Type 0 where
  pub within : p.at ≤ length text
  pub few : p.number ≤ p.at

-- a place in a text that is not before this byte
pub record IsReached (text : List ℕ) (stop : ℕ) (p : Spot) : Type 0 where
  pub spot : IsSpot text p
  pub far : stop ≤ p.at

-- what the lines from a place on make of the draft before them
abbrev pub left_read : List ℕ → Option Draft → Spot → Result (Option Draft) Refusal
left_read text d p = lines_read (p.number + 1) d (lines_of (drop p.at text))
