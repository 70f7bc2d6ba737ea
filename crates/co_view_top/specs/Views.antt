-- The words that are a view of a report, and what each view is.
use Rattle.std.specs.Prelude.{◌≡◌, ℕ, ◌^◌, List, [], ◌∷◌, Option, Some, None, Result, Ok, Err, codes, nat_lt, if◌then◌else◌}
use Rattle.co_text.specs.Values.{Word, is_word, number}
use Rattle.co_text.specs.declared.cause.Cause.{Cause}
use Rattle.co_report.specs.declared.line.Report.{Report}
use Rattle.co_view.specs.declared.lanes.Focus.TheVariants as focus
use Rattle.co_view_top.specs.declared.views.View.{View}
use Rattle.co_view_top.specs.declared.views.View.TheVariants.{Lanes, Summary, Picture}
use Rattle.co_view.specs.declared.picture.Picture.TheVariants as picture
use Rattle.co_view.specs.Lanes.{lanes_text}
use Rattle.co_view.specs.Pictures.{picture_text}
use Rattle.co_view.specs.Summary.{summary_text}
use Rattle.co_order.specs.Order.{IsOrder}

-- a view of one word
abbrev pub lone_view : Word → Option View
lone_view word = if is_word word (codes "lanes") then Some (Lanes focus.All)
    else (if is_word word (codes "summary") then Some Summary
    else (if is_word word (codes "trace") then Some (Picture picture.Trace)
    else (if is_word word (codes "svg") then Some (Picture picture.Svg) else None)))

-- the number of an object, below 2 ^ 32
abbrev pub small_number : Result ℕ Cause → Option ℕ
small_number (Ok n) = if nat_lt n (2 ^ 32) then Some n else None
small_number (Err c) = None

-- a view of one object
abbrev pub object_view : Word → Option ℕ → Option View
object_view word None = None
object_view word (Some n) = if is_word word (codes "timer") then Some (Lanes (focus.Timer n))
    else (if is_word word (codes "cpu") then Some (Lanes (focus.Cpu n)) else None)

-- `lanes`, which may be left out, `timer N`, `cpu N`, `summary`, `trace` and `svg`
abbrev pub view_of : List Word → Option View
view_of [] = Some (Lanes focus.All)
view_of (word ∷ []) = lone_view word
view_of (word ∷ n ∷ []) = object_view word (small_number (number n))
view_of words = None

-- the text of a view of a report, in an order of its notes
abbrev pub view_text : View → Report → List ℕ → List ℕ
view_text (Lanes f) r order = lanes_text f r.script r.lines order
view_text Summary r order = summary_text r.script r.lines
view_text (Picture p) r order = picture_text p r.script r.lines order

-- the text is that of the view in some order of all notes
pub record IsShown (view : View) (r : Report) (text : List ℕ) : Type 0 where
  pub order : List ℕ
  pub ordered : IsOrder r.script r.lines order
  pub text_is : text ≡ view_text view r order
