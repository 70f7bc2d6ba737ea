use Rattle.std.proofs.Common.{drop, ap, sym, subst}
use Rattle.co_text.specs.Fallible.{Faults, fault_at}
use Rattle.co_text.specs.Lines.{lines_of}
use Rattle.co_script.specs.Reading.{lines_read}
use Rattle.co_script.proofs.Nexts.{refused}
use Rattle.co_script.proofs.reader.read_by_words.Goals as goal

pub returns-in-Err-clause-fault : goal.returns-in-Err-clause-fault
returns-in-Err-clause-fault c = λ k.
    let line = c.in-Some.ensures.line in
    subst (Faults (fault_at k c.in-Err.fault)) (sym (ap (lines_read k c.args.draft.now) line.1))
    (refused k c.args.draft.now line.0 (lines_of (drop c.in-Some.behind c.args.text.now)) c.in-Err.fault (c.in-Err.ensures line.0 line.2))
