-- The lines that are ahead in histories, told one after the other.
use Rattle.std.proofs.Common.{◌≡◌, ℕ, ◌-◌, List, [], ◌∷◌, ◌++◌, length, refl, ap, sym, subst, ◌∙◌, append_assoc}
use Rattle.std.specs.Borrow.{Bor}
use Rattle.std.specs.Prelude.{Option, Some, None, Result, Ok, Err}
use Rattle.co_text.specs.Fallible.{Refusal, GivesOrNoMemory}
use Rattle.co_text.specs.Lines.{Line as TextLine}
use Rattle.co_text.specs.declared.cause.ScriptFault.{ScriptFault}
use Rattle.co_text.specs.declared.cause.ScriptFault.TheVariants as fault
use Rattle.co_report.specs.declared.line.Line.{Line}
use Rattle.co_report.specs.declared.line.Report.{Report}
use Rattle.co_report.specs.declared.reading.line_by_line.Reader.{Reader}
use Rattle.co_report.specs.declared.reading.progress.Progress.{Progress as Kept}
use Rattle.co_report.specs.LineByLine.{Ahead, Opening, Standing, AreTold, AreAllTold, HasTakenMore, behind, before_all, standing, ReadsOn}
use Rattle.co_report.specs.ReadingViews.{one_or_none}
use Rattle.co_report.proofs.LineByLine.{further, passed-note, passed-quiet, IsPassed}

pub behind-none : (a : Result Ahead Refusal) → behind [] a ≡ a
behind-none (Ok x) = refl
behind-none (Err e) = refl

pub behind-both : (xs ys : List Line) (a : Result Ahead Refusal) → behind xs (behind ys a) ≡ behind (xs ++ ys) a
behind-both xs ys (Ok a) = ap (λ ls. Ok (record { lines = ls; end = a.end })) (sym (append_assoc xs ys a.lines))
behind-both xs ys (Err e) = refl

nothing-more : (xs : List Line) → xs ++ [] ≡ xs
nothing-more [] = refl
nothing-more (x ∷ xs) = ap (λ ys. x ∷ ys) (nothing-more xs)

-- more lines are told behind others
pub taken-more : {L : Type 0} (has : L → List Line → Type 0) (x y z : L) (front more : List Line) → HasTakenMore has x y front → HasTakenMore has y z more → HasTakenMore has x z (front ++ more)
taken-more has x y z front more h k = λ lines before. subst (has z) (append_assoc lines front more) (k (lines ++ front) (h lines before))

pub taken-none : {L : Type 0} (has : L → List Line → Type 0) (x : L) → HasTakenMore has x x []
taken-none has x = λ lines h. subst (has x) (sym (nothing-more lines)) h

pub told-none : {L : Type 0} (has : L → List Line → Type 0) (x : L) (r : Reader) → AreTold has x x r r
told-none has x r = record { lines = []; ahead = behind-none (standing r).ahead; taken = taken-none has x }

pub told-more : {L : Type 0} (has : L → List Line → Type 0) (x y z : L) (r s t : Reader) → AreTold has x y r s → AreTold has y z s t → AreTold has x z r t
told-more has x y z r s t h k = record {
  lines = h.lines ++ k.lines;
  ahead = sym (behind-both h.lines k.lines (standing t).ahead) ∙ (ap (behind h.lines) k.ahead ∙ h.ahead);
  taken = taken-more has x y z h.lines k.lines h.taken k.taken;
}

-- a line is read, and the note that it shows is told, if it shows one
module _ {L : Type 0} (has : L → List Line → Type 0) (old new : L) (x : Reader) (p : Kept) (rest : Bor (List ℕ)) (l : TextLine) where
  pub line-told : (found : Option Line) → IsPassed x p rest l found → HasTakenMore has old new (one_or_none found) → ReadsOn x (further x p rest l) × AreTold has old new x (further x p rest l)
  line-told None h taken =
      let quiet = passed-quiet x p rest l h in
      (quiet.0, record { lines = []; ahead = behind-none (standing (further x p rest l)).ahead ∙ quiet.1; taken = taken })
  line-told (Some n) h taken =
      let found = passed-note x p rest l (length x.text.now - length x.rest.now) n refl h in
      (found.on, record { lines = n ∷ []; ahead = sym found.ahead; taken = taken })

-- a list that was empty has all that was ahead
pub all_in_list : (x : Reader) (o : Opening) (old new : List Line) (result : Result ℕ ScriptFault) → standing x ≡ before_all o → old ≡ [] → AreAllTold (λ (taken lines : List Line). taken ≡ lines) old new x result
    → GivesOrNoMemory (λ end. record { lines = new; end = end }) result (before_all o).ahead
all_in_list x o old new (Ok end) is none told = sym (ap (λ (t : Standing). t.ahead) is) ∙ (told.1 ∙ ap (λ ls. Ok (record { lines = ls; end = end })) (sym (told.2 [] none)))
all_in_list x o old new (Err fault.NoMemory) is none told = tt
all_in_list x o old new (Err (fault.Bad k c)) is none told = sym (ap (λ (t : Standing). t.ahead) is) ∙ told

-- what is read of an opened report is what is read of its text
pub all_of_text : (text all : Result Report Refusal) (result : Result Report ScriptFault) → text ≡ all → GivesOrNoMemory (λ r. r) result all → GivesOrNoMemory (λ r. r) result text
all_of_text text all (Ok r) same h = same ∙ h
all_of_text text all (Err fault.NoMemory) same h = tt
all_of_text text all (Err (fault.Bad k c)) same h = same ∙ h
