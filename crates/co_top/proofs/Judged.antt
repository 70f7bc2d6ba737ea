-- What is said of a script's walk, and of a report's verdict.
use Rattle.std.proofs.Common.{◌≡◌, ℕ, List, Ok, Err, Result, IfOk, refl, sym, subst}
use Rattle.std.specs.List.{concat}
use Rattle.co_program.specs.declared.script.Script.{Script}
use Rattle.co_script.specs.Reading.{script_of}
use Rattle.co_report.specs.declared.line.Report.{Report}
use Rattle.co_report.specs.Reading.{report_read}
use Rattle.co_check.specs.Verdict.{verdict}
use Rattle.co_check.specs.declared.verdict.Verdict.{Verdict}
use Rattle.co_check.specs.declared.verdict.Verdict.TheVariants.{Legal, Not}
use Rattle.co_top.specs.declared.answer.Answer.{Answer}
use Rattle.co_top.specs.declared.command.Reading.TheVariants.{Check, Steps}
use Rattle.co_top.specs.declared.status.Status.{Status}
use Rattle.co_top.specs.declared.status.Status.TheVariants.{Done, NotLegal}
use Rattle.co_top.specs.Commands.{legal_text}
use Rattle.co_top.specs.Headline.{Gives, IsJudged, IsLegalReport, IsReportOfWalk}

pub walked_gives : {E : Type 0} (bytes : List ℕ) (s : Script) (r : Result Answer E) → script_of bytes ≡ Ok s → IfOk r (λ a. a.status ≡ Done) → IfOk r (λ a. IsReportOfWalk s (concat a.pieces)) →
    IfOk r (λ a. Gives Steps bytes a.status (concat a.pieces))
walked_gives bytes s (Ok a) read is report = subst (λ (x : Status). Gives Steps bytes x (concat a.pieces)) (sym is) (record { script = s; read = read; holds = report })
walked_gives bytes s (Err e) read is report = tt

gives : (bytes : List ℕ) (report : Report) (found : Verdict) (status : Status) (text : List ℕ) → report_read bytes ≡ Ok report → found ≡ verdict report →
    IsJudged found status text → Gives Check bytes status text
gives bytes report Legal status text read is judged =
    subst (λ (x : Status). Gives Check bytes x text) (sym judged.0) (record { report = report; read = read; judged = subst (λ (v : Verdict). IsJudged v Done text) is (refl, judged.1) })
gives bytes report (Not number cause) status text read is judged =
    subst (λ (x : Status). Gives Check bytes x text) (sym judged.0) (record { report = report; read = read; judged = subst (λ (v : Verdict). IsJudged v NotLegal text) is (refl, judged.1) })

pub judged_gives : {E : Type 0} (bytes : List ℕ) (report : Report) (r : Result Answer E) → report_read bytes ≡ Ok report → IfOk r (λ a. IsJudged (verdict report) a.status (concat a.pieces)) →
    IfOk r (λ a. Gives Check bytes a.status (concat a.pieces))
judged_gives bytes report (Ok a) read judged = gives bytes report (verdict report) a.status (concat a.pieces) read refl judged
judged_gives bytes report (Err e) read judged = tt

-- a legal report is judged so
pub legal_judged : (text : List ℕ) → IsLegalReport text → Gives Check text Done legal_text
legal_judged text legal = record { report = legal.report; read = legal.read; judged = subst (λ (v : Verdict). IsJudged v Done legal_text) (sym legal.legal) (refl, refl) }
