-- The text of `summary`: of each callout, and in all, how often each reply came and what became of the armings.
use Rattle.std.specs.Prelude.{ℕ, zero, suc, ℤ, pos, negsuc, ◌+◌, ◌*◌, ◌==◌, ◌||◌, Bool, true, false, List, [], ◌∷◌, ◌++◌, codes, decimal, flat_map, fold, count_by, length, nat_lt, replicate, slice_index, slice_index_or, slice_set, if◌then◌else◌}
use Rattle.std.specs.List.{range_with_len}
use Rattle.co_object.specs.declared.Reply.{Reply}
use Rattle.co_object.specs.declared.Reply.TheVariants as reply
use Rattle.co_object.specs.declared.Entry.{Entry}
use Rattle.co_object.specs.declared.AnyEntry.{AnyEntry}
use Rattle.co_object.specs.declared.AnyEntry.TheVariants as of
use Rattle.co_object.specs.declared.Place.{Place}
use Rattle.co_object.specs.declared.Place.TheVariants as place
use Rattle.co_program.specs.declared.script.Script.{Script}
use Rattle.co_report.specs.declared.line.Line.{Line}
use Rattle.co_text.specs.Values.{Word}
use Rattle.co_view.specs.declared.scene.Watch.{Watch}
use Rattle.co_view.specs.declared.summary.Tally.{Tally}
use Rattle.co_view.specs.Scenes.{quiet, scene_behind, watch_of, watched}

-- ---- columns

-- a column for each reply, with the codes of those that have one
abbrev pub coded_column : (none one minus : ℕ) → ℤ → ℕ
coded_column none one minus (pos zero) = none
coded_column none one minus (pos (suc n)) = one
coded_column none one minus (negsuc n) = minus

abbrev pub reply_column : Reply → ℕ
reply_column (reply.Armed code n cpu off) = coded_column 0 1 1 code
reply_column (reply.NotArmed code) = coded_column 2 3 3 code
reply_column reply.NoHandler = 4
reply_column reply.Worn = 5
reply_column (reply.Stopped code off) = coded_column 6 7 8 code
reply_column (reply.Wait n took off) = 9
reply_column (reply.Drained code off) = coded_column 10 10 11 code
reply_column reply.Busy = 12
reply_column reply.Yes = 13
reply_column reply.No = 14
reply_column reply.Done = 15
reply_column reply.Live = 16
reply_column reply.Retired = 17
reply_column (reply.InUse armed serviced) = 18
reply_column (reply.Go func arg) = 19
reply_column reply.Hold = 20
reply_column reply.Skip = 21
reply_column (reply.Ended drain next woke) = 22

abbrev pub column_names : List Word
column_names =
    codes " armed(0)="
    ∷ codes " armed(1)="
    ∷ codes " notarmed(0)="
    ∷ codes " notarmed(1)="
    ∷ codes " nohandler="
    ∷ codes " worn="
    ∷ codes " stopped(0)="
    ∷ codes " stopped(1)="
    ∷ codes " stopped(-1)="
    ∷ codes " wait="
    ∷ codes " drained(1)="
    ∷ codes " drained(-1)="
    ∷ codes " busy="
    ∷ codes " yes="
    ∷ codes " no="
    ∷ codes " done="
    ∷ codes " live="
    ∷ codes " retired="
    ∷ codes " inuse="
    ∷ codes " go="
    ∷ codes " hold="
    ∷ codes " skip="
    ∷ codes " ended="
    ∷ []

abbrev pub column_name : ℕ → Word
column_name n = slice_index_or column_names n []

-- what became of the arming that was to fire yet: 23 a later one took its place, 24 a stop or a drain took it away, 25 neither
abbrev pub replaced_column : (was_open : Bool) → ℕ
replaced_column true = 23
replaced_column false = 25

abbrev pub stopped_column : (was_open is_open : Bool) → ℕ
stopped_column true false = 24
stopped_column was_open is_open = 25

abbrev pub fate_column : (was_open is_open : Bool) → Reply → ℕ
fate_column was is (reply.Armed code n cpu off) = replaced_column was
fate_column was is (reply.NotArmed code) = replaced_column was
fate_column was is (reply.Stopped code off) = stopped_column was is
fate_column was is (reply.Wait n took off) = stopped_column was is
fate_column was is (reply.Drained code off) = stopped_column was is
fate_column was is r = 25

abbrev pub width : ℕ
width = 26

-- ---- the counts: a row for each callout, and one more for all

abbrev pub is_open : Watch → Bool
is_open w = w.armed || w.waits

-- one more at a place of the table
abbrev pub one_more_at : List ℕ → ℕ → List ℕ
one_more_at counts at = slice_set counts at (slice_index counts at + 1)

-- a reply and a fate, in a row
abbrev pub reply_noted : List ℕ → (row reply fate : ℕ) → List ℕ
reply_noted counts row r f = one_more_at (one_more_at counts (row * width + r)) (row * width + f)

-- an entry of callout i, of so many callouts
abbrev pub entry_counted : (timers : ℕ) → List ℕ → (i : ℕ) → Watch → Entry → List ℕ
entry_counted timers counts i w e =
    let r = reply_column e.reply in
    let f = fate_column (is_open w) (is_open (watched 0 w e)) e.reply in
    reply_noted (reply_noted counts i r f) timers r f

abbrev pub tally_entry : (timers : ℕ) → Tally → Place → AnyEntry → List ℕ
tally_entry timers t (place.Timer i) (of.Timer e) = if nat_lt i timers then entry_counted timers t.counts i (watch_of t.scene i) e else t.counts
tally_entry timers t p entry = t.counts

abbrev pub tallied : (timers : ℕ) → Tally → Line → Tally
tallied timers t l = record { counts = tally_entry timers t l.place l.entry; scene = scene_behind 0 t.scene l.place l.entry }

abbrev pub opened_tally : (timers : ℕ) → Tally
opened_tally timers = record { counts = replicate ((timers + 1) * width) 0; scene = replicate timers quiet }

-- all lines of a report, in which the lines of each callout stand in their order
abbrev pub tally_of : (timers : ℕ) → List Line → Tally
tally_of timers lines = fold (tallied timers) (opened_tally timers) lines

-- ---- the text

abbrev pub cell_at : List ℕ → (row column : ℕ) → ℕ
cell_at counts row column = slice_index counts (row * width + column)

-- a reply that came, and how often
abbrev pub cell_text : ℕ → (column : ℕ) → List ℕ
cell_text n column = if n == 0 then [] else column_name column ++ decimal n

-- the armings and what became of them
abbrev pub fates_text : List ℕ → (row pending : ℕ) → List ℕ
fates_text counts row pending =
    codes ": armings=" ++ (decimal (cell_at counts row 0 + cell_at counts row 1)
    ++ (codes " fired=" ++ (decimal (cell_at counts row 19)
    ++ (codes " superseded=" ++ (decimal (cell_at counts row 23)
    ++ (codes " stopped=" ++ (decimal (cell_at counts row 24)
    ++ (codes " pending=" ++ decimal pending))))))))

-- then the replies
abbrev pub row_text : List ℕ → (row pending : ℕ) → List ℕ
row_text counts row pending = fates_text counts row pending ++ (codes " |" ++ (flat_map (λ c. cell_text (cell_at counts row c) c) (range_with_len 0 23) ++ 10 ∷ []))

abbrev pub one_if : Bool → ℕ
one_if true = 1
one_if false = 0

abbrev pub timer_row : Tally → ℕ → List ℕ
timer_row t i = codes "timer " ++ (decimal i ++ row_text t.counts i (one_if (is_open (watch_of t.scene i))))

abbrev pub rows_text : (timers : ℕ) → Tally → List ℕ
rows_text timers t = flat_map (timer_row t) (range_with_len 0 timers) ++ (codes "in all" ++ row_text t.counts timers (count_by is_open t.scene))

abbrev pub summary_text : Script → List Line → List ℕ
summary_text s lines = rows_text (length s.timers) (tally_of (length s.timers) lines)
