-- The numbers of the notes: those of each actor are 0, 1, 2 and so on, each once, and rise in each place.
use Rattle.std.specs.Prelude.{◌≡◌, ℕ, ◌<◌, length, slice_index, Bool, ◌&&◌, ◌||◌, nat_lt, nat_le, if◌then◌else◌, List, [], Option, Some, None}
use Rattle.std.specs.List.{list_any, count_by}
use Rattle.co_report.specs.declared.line.Line.{Line}
use Rattle.co_check.specs.declared.verdict.Unfit.{Unfit}
use Rattle.co_check.specs.declared.verdict.Unfit.TheVariants.{Number}
use Rattle.co_check.specs.Replay.{Bad, first_bad}
use Rattle.co_check.specs.Shown.{actor_of, is_by, is_note, is_in_place_by}

-- how many of these lines the actor made
abbrev pub lines_made_by : ℕ → List Line → ℕ
lines_made_by a lines = count_by (is_by a) lines

-- so many of them each of these actors made
pub record AreActorCounts (actors : ℕ) (lines : List Line) (counts : List ℕ) : Type 0 where
  pub long : length counts ≡ actors
  pub each : (a : ℕ) → a < actors → slice_index counts a ≡ lines_made_by a lines

-- there are not so many
abbrev pub is_beyond : List Line → Line → Bool
is_beyond lines l = nat_le (lines_made_by (actor_of l.entry) lines) l.number

-- another note has it
abbrev pub is_taken : List Line → Line → Bool
is_taken above l = list_any (is_note (actor_of l.entry) l.number) above

-- another note of the place has a higher one
abbrev pub falls : List Line → Line → Bool
falls above l = list_any (λ x. is_in_place_by (actor_of l.entry) l.place x && nat_lt l.number x.number) above

-- what is wrong with the number of a line among all lines, after those above
abbrev pub number_at : List Line → List Line → Line → Option Unfit
number_at lines above l = if is_beyond lines l || is_taken above l || falls above l then Some Number else None

abbrev pub first_misnumbered : List Line → Option Bad
first_misnumbered lines = first_bad (number_at lines) [] lines
