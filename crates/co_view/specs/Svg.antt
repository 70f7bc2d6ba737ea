-- The text of `svg`: a column for each actor, a row for each step, a bar for each service.
use Rattle.std.specs.Prelude.{ℕ, ◌+◌, ◌-◌, ◌*◌, ◌%◌, ◌&&◌, Bool, true, false, List, [], ◌++◌, codes, decimal, flat_map}
use Rattle.std.specs.List.{range_with_len}
use Rattle.co_object.specs.declared.RunOp.TheVariants.{End}
use Rattle.co_object.specs.declared.Op.{Op}
use Rattle.co_object.specs.declared.Op.TheVariants.{Run}
use Rattle.co_object.specs.declared.Entry.{Entry}
use Rattle.co_object.specs.declared.AnyEntry.{AnyEntry}
use Rattle.co_object.specs.declared.AnyEntry.TheVariants as of
use Rattle.co_object.specs.declared.Place.{Place}
use Rattle.co_object.specs.declared.Place.TheVariants as place
use Rattle.co_program.specs.declared.script.Script.{Script}
use Rattle.co_program.specs.Actors.{actor_count}
use Rattle.co_grammar.specs.Spelling.{actor_word}
use Rattle.co_report.specs.declared.line.Line.{Line}
use Rattle.co_object.specs.Lists.{actor_of}
use Rattle.co_view.specs.declared.scene.Watch.{Watch}
use Rattle.co_view.specs.Scenes.{watch_of}
use Rattle.co_view.specs.Trace.{text_if, wakes}
use Rattle.co_view.specs.Words.{note_text}

-- ---- where things stand: columns of 400 points behind a margin of 70, rows of 18 below a head of 80

abbrev pub x_of : (actor : ℕ) → ℕ
x_of actor = 70 + 400 * actor

abbrev pub y_of : (step : ℕ) → ℕ
y_of step = 80 + 18 * step

-- between it and the next
abbrev pub below_of : (step : ℕ) → ℕ
below_of step = 89 + 18 * step

-- the foot of its words
abbrev pub foot_of : (step : ℕ) → ℕ
foot_of step = 84 + 18 * step

-- ---- a note

-- at the left margin the line of the report, a point in the actor's column, and the words beside it
abbrev pub point_text : (step : ℕ) → Line → List ℕ
point_text step l =
    codes "<text class=\"l\" x=\"8\" y=\"" ++ (decimal (foot_of step) ++ (codes "\">" ++ (decimal l.line
    ++ (codes "</text><circle cx=\"" ++ (decimal (x_of (actor_of l.entry)) ++ (codes "\" cy=\"" ++ (decimal (y_of step)
    ++ (codes "\" r=\"3\"/><text x=\"" ++ (decimal (82 + 400 * actor_of l.entry) ++ (codes "\" y=\"" ++ (decimal (foot_of step)
    ++ (codes "\">" ++ (note_text l.place l.entry ++ codes "</text>\n")))))))))))))

-- the bar of a service from one step to another, in the colour of its callout
abbrev pub bar_text : (i actor since step : ℕ) → List ℕ
bar_text i actor since step =
    codes "<rect class=\"t" ++ (decimal (i % 8) ++ (codes "\" x=\"" ++ (decimal (66 + 400 * actor) ++ (codes "\" y=\"" ++ (decimal (y_of since)
    ++ (codes "\" width=\"8\" height=\"" ++ (decimal (18 * (step - since)) ++ codes "\"/>\n")))))))

-- the arrow from a drain's wait, down its actor's column, to the end that wakes it
abbrev pub arrow_text : (waiter waited actor step : ℕ) → List ℕ
arrow_text waiter waited actor step =
    codes "<path class=\"a\" d=\"M" ++ (decimal (x_of waiter) ++ (codes " " ++ (decimal (y_of waited) ++ (codes "V" ++ (decimal (below_of step)
    ++ (codes "H" ++ (decimal (x_of actor) ++ (codes "V" ++ (decimal (y_of step) ++ codes "\"/>\n")))))))))

abbrev pub is_end : Op → Bool
is_end (Run (End n cpu)) = true
is_end op = false

abbrev pub callout_marks : (i step : ℕ) → Watch → Entry → List ℕ
callout_marks i step w e = text_if (w.serviced && is_end e.op) (bar_text i e.actor w.since step) ++ text_if (wakes e.reply) (arrow_text w.waiter w.waited e.actor step)

abbrev pub marks_of : (step : ℕ) → List Watch → Place → AnyEntry → List ℕ
marks_of step scene (place.Timer i) (of.Timer e) = callout_marks i step (watch_of scene i) e
marks_of step scene p entry = []

abbrev pub figure : (step : ℕ) → List Watch → Line → List ℕ
figure step scene l = marks_of step scene l.place l.entry ++ point_text step l

-- ---- the frame

abbrev pub column_head : Script → (steps : ℕ) → ℕ → List ℕ
column_head s steps a =
    codes "<path class=\"c\" d=\"M" ++ (decimal (x_of a) ++ (codes " 66V" ++ (decimal (y_of steps) ++ (codes "\"/><text class=\"h\" x=\"" ++ (decimal (x_of a) ++ (codes "\" y=\"58\">" ++ (actor_word s a ++ codes "</text>\n")))))))

abbrev pub style_text : List ℕ
style_text = codes "<style>text{font:11px monospace}.l{fill:#888}.h{font:bold 14px sans-serif}.n{font:12px sans-serif;fill:#444}.c{stroke:#ccc}.a{stroke:#c00;stroke-width:1.5;fill:none;stroke-dasharray:4 2;marker-end:url(#m)}rect{fill-opacity:.55}.t0{fill:#4e79a7}.t1{fill:#f28e2b}.t2{fill:#59a14f}.t3{fill:#b07aa1}.t4{fill:#edc948}.t5{fill:#76b7b2}.t6{fill:#e15759}.t7{fill:#9c755f}</style>\n<marker id=\"m\" viewBox=\"0 0 8 8\" refX=\"8\" refY=\"4\" markerWidth=\"5\" markerHeight=\"5\" orient=\"auto\"><path d=\"M0 0L8 4L0 8z\" fill=\"#c00\"/></marker>\n"

abbrev pub legend_text : List ℕ
legend_text = codes "<text class=\"n\" x=\"8\" y=\"20\">Steps from top to bottom in one order; a column for each actor; at the left the line of the report.</text>\n<text class=\"n\" x=\"8\" y=\"36\">A bar is a service, in the colour of its callout; a dashed arrow goes from a drain that waits to the end that wakes it.</text>\n"

-- the size, the style and the legend
abbrev pub frame_head : (actors steps : ℕ) → List ℕ
frame_head actors steps =
    codes "<svg xmlns=\"http://www.w3.org/2000/svg\" width=\"" ++ (decimal (x_of actors) ++ (codes "\" height=\"" ++ (decimal (y_of steps) ++ (codes "\">\n<rect width=\"100%\" height=\"100%\" style=\"fill:#fff;fill-opacity:1\"/>\n"
    ++ (style_text ++ legend_text)))))

-- and the columns, for so many steps
abbrev pub frame_text : Script → (steps : ℕ) → List ℕ
frame_text s steps = frame_head (actor_count s) steps ++ flat_map (column_head s steps) (range_with_len 0 (actor_count s))
