-- What a call says by its status: what was read, what was made of it, and what was written.
use Rattle.std.proofs.Common.{◌≡◌, ℕ, ◌<◌, ◌≤◌, Bool, true, false, List, length, Option, Some, None, inl, inr, refl, sym, subst, arith}
use Rattle.std.specs.Prelude.{◌↔◌, IsTrue}
use Rattle.std.specs.Io.KnownBytes.{Consumes, IsAtEnd}
use Rattle.co_view_top.specs.declared.views.View.{View}
use Rattle.co_view_top.specs.declared.status.Status.{Status}
use Rattle.co_view_top.specs.declared.status.Status.TheVariants.{Done, BadReport, Usage, ReadFault, WriteFault, NoMemory, NoOrder}
use Rattle.co_view_top.specs.Texts.{usage_text}
use Rattle.co_view_top.specs.Headline.{Gives, HasRead, Says, limit}
use Rattle.co_front.specs.Outside.{Outside, Reads, ReadsToEnd, Writes, Tells}
use Rattle.co_view_top.proofs.Accepted.{report_short}

-- the bytes that were read of the source, and whether there were more than the limit
pub record WasRead (before after : Outside) (bytes : List ℕ) (over : Bool) : Type 0 where
  pub read : Consumes before.input.left after.input.left bytes
  pub end : over ≡ false → IsAtEnd after.input.left
  pub longer : IsTrue over ↔ (limit < length bytes)

-- the words are no view: the source stays unread, and the usage line is written or a front of it
pub unknown : (before after : Outside) (result : Status) → after.input ≡ before.input → Tells WriteFault Usage usage_text before.output after.output result → Says before after None result
unknown before after result unread (inl whole) = subst (λ (x : Status). Says before after None x) (sym whole.0) (usage_text, (unread, refl), whole.1)
unknown before after result unread (inr front) = subst (λ (x : Status). Says before after None x) (sym front.0) (Usage, usage_text, (unread, refl), front.1)

module _ (before after : Outside) (bytes : List ℕ) where
  within : (over : Bool) → WasRead before after bytes over → length bytes ≤ limit → ReadsToEnd before.input after.input bytes
  within false has short = record { read = has.read; ended = has.end refl }
  within true has short = let long : limit < length bytes = has.longer.0 refl in absurd (omega (arith, long, short))

  either : (over : Bool) → WasRead before after bytes over → Reads before.input after.input limit bytes
  either false has = inl (record { read = has.read; ended = has.end refl })
  either true has = inr (record { read = has.read; over = has.longer.0 refl })

  has_read : (view : View) (over : Bool) (status : Status) (text : List ℕ) → WasRead before after bytes over → Gives view bytes status text → HasRead before after status bytes
  has_read view over Done text has given = within over has (report_short bytes given.report given.read)
  has_read view over BadReport text has given = either over has
  has_read view over NoOrder text has given = within over has (report_short bytes given.report given.read)
  has_read view over Usage text has given = absurd given
  has_read view over ReadFault text has given = absurd given
  has_read view over WriteFault text has given = absurd given
  has_read view over NoMemory text has given = absurd given

  written : (view : View) (over : Bool) (status : Status) (text : List ℕ) → WasRead before after bytes over → Gives view bytes status text → Writes before.output after.output text → Says before after (Some view) status
  written view over Done text has given wrote = (text, (bytes, has_read view over Done text has given, given), wrote)
  written view over BadReport text has given wrote = (text, (bytes, has_read view over BadReport text has given, given), wrote)
  written view over NoOrder text has given wrote = (text, (bytes, has_read view over NoOrder text has given, given), wrote)
  written view over Usage text has given wrote = absurd given
  written view over ReadFault text has given wrote = absurd given
  written view over WriteFault text has given wrote = absurd given
  written view over NoMemory text has given wrote = absurd given

  pub said : (view : View) (over : Bool) (status result : Status) (text : List ℕ) → WasRead before after bytes over → Gives view bytes status text → Tells WriteFault status text before.output after.output result → Says before after (Some view) result
  said view over status result text has given (inl whole) = subst (λ (x : Status). Says before after (Some view) x) (sym whole.0) (written view over status text has given whole.1)
  said view over status result text has given (inr front) = subst (λ (x : Status). Says before after (Some view) x) (sym front.0) (status, text, (bytes, has_read view over status text has given, given), front.1)

-- what is said of a view is said of the words that are it
pub of_words : (before after : Outside) (asked : Option View) (view : View) (result : Status) → Some view ≡ asked → Says before after (Some view) result → Says before after asked result
of_words before after asked view result is says = subst (λ (x : Option View). Says before after x result) is says

pub no_words : (before after : Outside) (asked : Option View) (result : Status) → None ≡ asked → Says before after None result → Says before after asked result
no_words before after asked result is says = subst (λ (x : Option View). Says before after x result) is says
