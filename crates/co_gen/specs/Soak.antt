-- The counts of a run's notes, and the line that says them.
use Rattle.std.specs.Prelude.{ℕ, Bool, true, false, List, [], ◌∷◌, length, count_by, sum_by, codes, decimal}
use Rattle.std.specs.List.{flat_map, range_with_len}
use Rattle.co_object.specs.declared.Spec.{Spec}
use Rattle.co_object.specs.declared.Entry.{Entry}
use Rattle.co_object.specs.declared.Note.{Note}
use Rattle.co_object.specs.Entries.{is_armed}
use Rattle.co_object.specs.Fate.{Fate, Pending, Superseded, Stopped, fates}
use Rattle.co_object.specs.History.{state}
use Rattle.co_object.specs.Laws.OneFate.{is_fired}
use Rattle.co_object.specs.Lists.{callout_history}
use Rattle.co_program.specs.declared.Script.{Script}
use Rattle.co_program.specs.Action.{spec_at}
use Rattle.co_text.specs.Lines.{line_text}
use Rattle.co_gen.specs.declared.counts.Counts.{Counts}

abbrev pub is_superseded : Fate → Bool
is_superseded Superseded = true
is_superseded _ = false

abbrev pub is_stopped : Fate → Bool
is_stopped Stopped = true
is_stopped _ = false

abbrev pub is_pending : Fate → Bool
is_pending Pending = true
is_pending _ = false

-- how many armings a history accepts
abbrev pub armings : List Entry → ℕ
armings H = count_by (λ e. is_armed e.reply) H

-- the fates of a history's accepted armings, in order of their numbers
abbrev pub all_fates : Spec → List Entry → List Fate
all_fates spec H = flat_map (fates spec H) (range_with_len 0 (state spec H).made)

-- the same of callout i, and how many have a fate of this kind
abbrev pub fates_of : Script → List (List Note) → ℕ → List Fate
fates_of s lists i = all_fates (spec_at s i) (callout_history i lists)

abbrev pub with_fate : (Fate → Bool) → Script → List (List Note) → ℕ → ℕ
with_fate is s lists i = count_by is (fates_of s lists i)

-- all notes, and the armings of the first n callouts by their fates
abbrev pub counts_of_first : Script → List (List Note) → ℕ → Counts
counts_of_first s lists n = record {
  notes = sum_by length lists;
  armed = sum_by (λ i. armings (callout_history i lists)) (range_with_len 0 n);
  fired = sum_by (with_fate is_fired s lists) (range_with_len 0 n);
  superseded = sum_by (with_fate is_superseded s lists) (range_with_len 0 n);
  stopped = sum_by (with_fate is_stopped s lists) (range_with_len 0 n);
  pending = sum_by (with_fate is_pending s lists) (range_with_len 0 n);
}

-- the counts of a run's notes
unfoldable pub counts_of : Script → List (List Note) → Counts
counts_of s lists = counts_of_first s lists (length s.timers)

-- `soak N notes A armed B fired F superseded P stopped S pending Q`
abbrev pub soak_line : ℕ → Counts → List ℕ
soak_line seed c = line_text (
    codes "soak" ∷ decimal seed
    ∷ codes "notes" ∷ decimal c.notes
    ∷ codes "armed" ∷ decimal c.armed
    ∷ codes "fired" ∷ decimal c.fired
    ∷ codes "superseded" ∷ decimal c.superseded
    ∷ codes "stopped" ∷ decimal c.stopped
    ∷ codes "pending" ∷ decimal c.pending
    ∷ []
    )
