-- One more line is read, and counted once.
use Rattle.std.proofs.Common.{◌≡◌, ℕ, ◌+◌, ◌≤◌, ◌<◌, length, drop, ap, sym, subst, ◌∙◌, arith}
use Rattle.std.specs.Prelude.{MatchOption}
use Rattle.co_text.specs.Fallible.{Faults, fault_at}
use Rattle.co_text.specs.Lines.{lines_of}
use Rattle.co_script.specs.Beside.{ReadsNext, left_read}
use Rattle.co_script.specs.Reading.{lines_read}
use Rattle.co_script.proofs.LinesFold.{lines-cons}
use Rattle.co_script.proofs.reader.read_to.Goals as goal

one-further : (number at behind : ℕ) → number ≤ at → at < behind → number + 1 ≤ behind
one-further number at behind few further = omega arith

pub loop-at-preserved : goal.loop-at-preserved
loop-at-preserved c =
    let before = c.loop-at.invariant in
    let number = c.loop-at.number + 1 in
    let next = subst (λ o. MatchOption o (c.loop-at.at ≡ length c.args.text.now) (λ to. ReadsNext c.args.text.now c.loop-at.draft c.read_next.new.draft c.loop-at.at to)) c.in-Ok-Some.field-0-is c.in-Ok-Some.ensures.read in
    record {
      within = next.is.within;
      few = one-further c.loop-at.number c.loop-at.at c.in-Ok-Some.behind before.few next.is.further;
      same = before.same ∙ (ap (lines_read number c.loop-at.draft) next.is.lines ∙ lines-cons number c.loop-at.draft c.read_next.new.draft next.line (lines_of (drop c.in-Ok-Some.behind c.args.text.now)) next.reads);
    }

pub returns-in-Err-clause-fault : goal.returns-in-Err-clause-fault
returns-in-Err-clause-fault c =
    let number = c.loop-at.number + 1 in
    subst (λ f. Faults f (left_read c.args.text.now c.args.draft.now c.args.from)) (sym c.at.ensures)
    (subst (Faults (fault_at number c.in-Err.fault)) (sym c.loop-at.invariant.same) (c.in-Err.ensures.fault number))
