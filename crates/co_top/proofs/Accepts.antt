-- The report of a run is legal.
use Rattle.std.proofs.Common.{◌≡◌, ℕ, ◌≤◌, true, List, length, sym, subst}
use Rattle.co_object.specs.declared.Note.{Note}
use Rattle.co_program.specs.declared.Script.{Script}
use Rattle.co_program.specs.Runs.{IsRunOf}
use Rattle.co_program.proofs.ListsLook.{acts}
use Rattle.co_script.specs.Fits.{fits}
use Rattle.co_script.proofs.Accepted.{fits-accepted}
use Rattle.co_print.specs.Histories.{shown_history}
use Rattle.co_report.specs.Laws.{report_of_histories}
use Rattle.co_print.specs.Reports.{report_of}
use Rattle.co_report.specs.Typed.{ListsTyped}
use Rattle.co_service.specs.Closing.{ClosingView}
use Rattle.co_run.specs.Ran.{IsRan}
use Rattle.co_check.specs.Runs.{IsReadAsLegal}
use Rattle.co_check.proofs.RunReports.{read-as-legal}
use Rattle.co_top.specs.Headline.{IsLegalReport, IsReportOf, IsReportOfRun}

pub run_legal : (s : Script) → fits s ≡ true → (lists : List (List Note)) → IsRunOf s lists → ListsTyped lists → length (report_of s lists) ≤ 268435456 → IsLegalReport (report_of s lists)
run_legal s f lists run typed short =
    let back : IsReadAsLegal s lists = read-as-legal s lists f run typed short in
    record { report = report_of_histories s (shown_history lists); read = back.read; legal = back.legal }

pub reported_run : (s : Script) → fits s ≡ true → (lists : List (List Note)) (text : List ℕ) → IsRunOf s lists → ListsTyped lists → text ≡ report_of s lists → IsReportOf s lists text
reported_run s f lists text run typed shown = record {
  run = run;
  programs = λ a below. acts s lists a (fits-accepted s f) run below;
  shown = shown;
  legal = λ short. subst IsLegalReport (sym shown) (run_legal s f lists run typed (subst (λ (bytes : List ℕ). length bytes ≤ 268435456) shown short));
}

-- of a run on threads
pub reported_ran : (s : Script) → fits s ≡ true → (lists : List (List Note)) (closing : ClosingView) (text : List ℕ) → IsRan s (record { lists = lists; closing = closing }) → ListsTyped lists → text ≡ report_of s lists → IsReportOfRun s closing text
reported_ran s f lists closing text ran typed shown = record { lists = lists; report = reported_run s f lists text ran.run typed shown; timers = ran.timers; cpus = ran.cpus }
