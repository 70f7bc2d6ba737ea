-- What a call promises: for each status what was read, and what was written.
use Rattle.std.specs.Prelude.{◌≡◌, ℕ, List, Option, Some, None, Ok, Err, codes}
use Rattle.co_text.specs.Values.{Word}
use Rattle.co_report.specs.Reading.{report_read}
use Rattle.co_report.specs.declared.line.Report.{Report}
use Rattle.co_text.specs.Fallible.{Refusal}
use Rattle.co_view_top.specs.declared.status.Status.{Status}
use Rattle.co_view_top.specs.declared.status.Status.TheVariants.{Done, BadReport, Usage, ReadFault, WriteFault, NoMemory, NoOrder}
use Rattle.co_front.specs.Outside.{Outside, ReadsToEnd, Reads, ReadFails, Writes, WritesFront}
use Rattle.co_front.specs.Texts.{fault_text, refusal_text}
use Rattle.co_view_top.specs.Texts.{usage_text}
use Rattle.co_order.specs.Order.{IsOrder, IsStuck}
use Rattle.co_view_top.specs.Views.{IsShown, view_of}
use Rattle.co_view_top.specs.declared.views.View.{View}

-- no more bytes than a report may have, which are 256 MiB
abbrev pub limit : ℕ
limit = 268435456

-- the bytes are a report, and the text shows it
pub record IsView (view : View) (bytes text : List ℕ) : Type 0 where
  pub report : Report
  pub read : report_read bytes ≡ Ok report
  pub shown : IsShown view report text

-- the bytes are no report, and the text says which line is bad, and why
pub record IsRefused (bytes text : List ℕ) : Type 0 where
  pub refusal : Refusal
  pub refused : report_read bytes ≡ Err refusal
  pub said : text ≡ refusal_text refusal

-- the bytes are a report that has no order; the text names the first line whose note is left where nothing more may come
pub record IsUnordered (bytes text : List ℕ) : Type 0 where
  pub report : Report
  pub read : report_read bytes ≡ Ok report
  pub line : ℕ
  pub stuck : IsStuck report.script report.lines line
  pub none : (order : List ℕ) → IsOrder report.script report.lines order → ⊥
  pub said : text ≡ fault_text line (codes "order")

-- what is made of the bytes that are read: the status, and the text for it
abbrev pub Gives : View → List ℕ → Status → List ℕ → Type 0
Gives view bytes Done text = IsView view bytes text
Gives view bytes BadReport text = IsRefused bytes text
Gives view bytes NoOrder text = IsUnordered bytes text
Gives view bytes status text = ⊥

module _ (before after : Outside) where
  -- what was read: all of it where it is a report; else all, or more than the limit
  abbrev pub HasRead : Status → List ℕ → Type 0
  HasRead BadReport bytes = Reads before.input after.input limit bytes
  HasRead status bytes = ReadsToEnd before.input after.input bytes

  -- the words come to this status, for which this text is to be written
  abbrev pub ComesTo : Option View → Status → List ℕ → Type 0
  ComesTo None Usage text = (after.input ≡ before.input) × (text ≡ usage_text)
  ComesTo (Some view) status text = (bytes : List ℕ) × HasRead status bytes × Gives view bytes status text
  ComesTo view status text = ⊥

  -- the text of this status was written
  abbrev pub Answers : Option View → Status → Type 0
  Answers view status = (text : List ℕ) × ComesTo view status text × Writes before.output after.output text

  -- the sink failed in the text of some status
  abbrev pub FailsIn : Option View → Type 0
  FailsIn view = (status : Status) × (text : List ℕ) × ComesTo view status text × WritesFront before.output after.output text

  -- there is a view, to which this happened, and nothing was written
  abbrev pub Stops : Option View → Type 0 → Type 0
  Stops None happened = ⊥
  Stops (Some view) happened = happened × (after.output ≡ before.output)

  -- what a status says
  abbrev pub Says : Option View → Status → Type 0
  Says view ReadFault = Stops view (ReadFails before.input after.input)
  Says view WriteFault = FailsIn view
  Says view NoMemory = Stops view (Unit {0})
  Says view status = Answers view status

-- what a call with these words says by how it ends
abbrev pub IsHeadline : List Word → Outside → Outside → Status → Type 0
IsHeadline words before after status = Says before after (view_of words) status
