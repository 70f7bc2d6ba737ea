-- The text of a report.
use Rattle.std.specs.Prelude.{ℕ, List, [], ◌∷◌, ◌++◌, length, flat_map, map, slice_range, codes}
use Rattle.std.specs.List.{range_with_len}
use Rattle.co_object.specs.declared.Place.{Place}
use Rattle.co_object.specs.declared.Place.TheVariants as place
use Rattle.co_object.specs.declared.Note.{Note}
use Rattle.co_text.specs.Lines.{line_text, text}
use Rattle.co_text.specs.Values.{Word}
use Rattle.co_grammar.specs.Spelling.{numbered, actor_word}
use Rattle.co_script.specs.Canonical.{canonical, canonical_lines}
use Rattle.co_program.specs.declared.Script.{Script}
use Rattle.co_program.specs.Actors.{actor_count}
use Rattle.co_notes.specs.NoteTexts.{shown_words}
use Rattle.co_print.specs.Histories.{PlaceHistories, shown_history}

-- the places of a report, in order
abbrev pub places : Script → List Place
places s = map place.Timer (range_with_len 0 (length s.timers)) ++ (map place.Cpu (range_with_len 0 s.cpus) ++ map place.Actor (range_with_len 0 (actor_count s)))

abbrev pub heading : Script → Place → List Word
heading s (place.Timer i) = numbered (codes "timer") i
heading s (place.Cpu c) = numbered (codes "wheel") c
heading s (place.Actor a) = codes "actor" ∷ actor_word s a ∷ []

-- the heading of a place and its notes
abbrev pub place_lines : Script → PlaceHistories → Place → List (List Word)
place_lines s histories p = heading s p ∷ map (shown_words s) (histories p)

-- the lines of the places from one number up to another, as they stand in the report
abbrev pub lines_between : Script → List (List Note) → (first end : ℕ) → List (List Word)
lines_between s lists first end = flat_map (place_lines s (shown_history lists)) (slice_range (places s) first end)

-- the lines of a report, as words
unfoldable pub report_lines : Script → PlaceHistories → List (List Word)
report_lines s histories =
    numbered (codes "callout-report") 1
    ∷ (canonical_lines s
    ++ (codes "histories" ∷ [])
    ∷ (flat_map (place_lines s histories) (places s)
    ++ (codes "end" ∷ []) ∷ []))

unfoldable pub report : Script → PlaceHistories → List ℕ
unfolding report_lines
report s histories = text (report_lines s histories)

-- the report of these lists
abbrev pub report_of : Script → List (List Note) → List ℕ
report_of s lists = report s (shown_history lists)

-- the text before the first place
abbrev pub head_text : Script → List ℕ
head_text s = line_text (numbered (codes "callout-report") 1) ++ canonical s ++ line_text (codes "histories" ∷ [])

-- the text of a report whose places have this text
abbrev pub framed : Script → List ℕ → List ℕ
framed s parts = head_text s ++ parts ++ line_text (codes "end" ∷ [])
