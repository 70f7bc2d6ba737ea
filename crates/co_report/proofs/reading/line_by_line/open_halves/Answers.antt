-- The script fits, so it is small and accepted.
use Rattle.std.proofs.Common.{◌≡◌, true, arith}
use Rattle.co_script.specs.Reading.{script_of}
use Rattle.co_script.specs.Fits.{fits}
use Rattle.co_report.specs.ReadingViews.{halves_view}
use Rattle.co_report.proofs.LineByLine.{halves-ahead}
use Rattle.co_notes.proofs.OneSpelling.{small_script}
use Rattle.co_report.proofs.ScriptLines.{in_report-ok}
use Rattle.co_report.proofs.reading.line_by_line.open_halves.Goals as goal

pub names_of-names-requires : goal.names_of-names-requires
names_of-names-requires c =
    let text = c.args.halves.script.now in
    small_script c.in_ok-script.script (c.read_scripts_fit.ensures text c.in_ok-script.script (in_report-ok (script_of text) c.in_ok-script.script c.in_ok-script.ensures))

pub invariant_of-result : goal.invariant_of-result
invariant_of-result c =
    let text = c.args.halves.script.now in
    let fit : fits c.in_ok-script.script ≡ true = c.read_scripts_fit.ensures text c.in_ok-script.script (in_report-ok (script_of text) c.in_ok-script.script c.in_ok-script.ensures) in
    record {
      accepted = c.fitting_scripts_are_accepted.ensures c.in_ok-script.script fit;
      small = small_script c.in_ok-script.script fit;
      places = c.in-Ok.ensures;
      named = c.names_of-names.ensures.value;
      actors = c.names_of-names.ensures.few;
      few = omega (arith, c.requires.count, c.requires.notes);
    }

pub returns : goal.returns
returns c = record {
  opened = halves-ahead c.in_ok-script.script (halves_view c.args.halves) c.in_ok-script.ensures c.in_ok-is_canonical.ensures;
  short = c.requires.notes;
}
