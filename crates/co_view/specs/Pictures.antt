-- Pictures of a report: what is told of each note of an order, one by one, by what is known of the callouts before it.
use Rattle.std.specs.Prelude.{ℕ, ◌+◌, List, [], ◌∷◌, ◌++◌, Option, Some, None, codes, length, replicate, slice_get}
use Rattle.co_program.specs.declared.script.Script.{Script}
use Rattle.co_report.specs.declared.line.Line.{Line}
use Rattle.co_view.specs.declared.picture.Picture.{Picture}
use Rattle.co_view.specs.declared.picture.Picture.TheVariants.{Trace, Svg}
use Rattle.co_view.specs.declared.scene.Watch.{Watch}
use Rattle.co_view.specs.Scenes.{quiet, scene_after}
use Rattle.co_view.specs.Trace.{trace_events, head_text}
use Rattle.co_view.specs.Svg.{figure, frame_text}

-- what is told of the note of this step
abbrev pub picture_told : Picture → (step : ℕ) → List Watch → Line → List ℕ
picture_told Trace step scene l = trace_events step scene l
picture_told Svg step scene l = figure step scene l

abbrev pub told_of : Picture → (step : ℕ) → List Watch → Option Line → List ℕ
told_of p step scene (Some l) = picture_told p step scene l
told_of p step scene None = []

-- the notes of these indices one by one, from this step on
abbrev pub story : Picture → List Line → (step : ℕ) → List Watch → List ℕ → List ℕ
story p lines step scene [] = []
story p lines step scene (i ∷ is) = told_of p step scene (slice_get lines i) ++ story p lines (step + 1) (scene_after step scene (slice_get lines i)) is

-- what stands before the notes, for so many steps, and behind them
abbrev pub front_text : Picture → Script → (steps : ℕ) → List ℕ
front_text Trace s steps = head_text s
front_text Svg s steps = frame_text s steps

abbrev pub back_text : Picture → List ℕ
back_text Trace = codes "\n]}\n"
back_text Svg = codes "</svg>\n"

abbrev pub picture_text : Picture → Script → List Line → List ℕ → List ℕ
picture_text p s lines order = front_text p s (length order) ++ (story p lines 0 (replicate (length s.timers) quiet) order ++ back_text p)
