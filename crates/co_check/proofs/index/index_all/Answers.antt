-- A line more is indexed, or its number is wrong; and at the end all are.
use Rattle.std.proofs.Common.{◌≤◌, length, take, ap, sym, subst, ◌∙◌, arith}
use Rattle.std.specs.Prelude.{Some}
use Rattle.std.proofs.lemmas.List.{length-take-le, take_all, at_drop_all}
use Rattle.co_report.specs.PackedLines.{line_of}
use Rattle.co_check.specs.Index.{IsIndexed}
use Rattle.co_check.specs.Numbers.{number_at}
use Rattle.co_check.specs.Replay.{first_bad}
use Rattle.co_check.specs.declared.verdict.Unfit.TheVariants.{Number}
use Rattle.co_check.proofs.Along.{front, first-on, first-at, line-ahead, some-ahead}
use Rattle.co_check.proofs.Noted.{fits-at}
use Rattle.co_check.proofs.index.index_all.Goals as goal

pub returns-then-not-take : goal.returns-then-not-take
returns-then-not-take c =
    let lines = c.args.lines.now in
    let ahead = line-ahead c.args.lines.now c.loop-i.i c.loop-i.invariant.notes c.next_head-head.ensures.1 in
    let l = line_of ahead.0 c.next_head-head.ensures.0 in
    let here = ahead.1 in
    c.loop-i.invariant.rest
    ∙ (first-at (number_at lines) lines c.loop-i.i l here Number
    (c.if-not-take.ensures c.next_head-head.ensures.0 ahead.0 lines (take c.loop-i.i lines) c.next_head-head.ensures.2 (fits-at c.args.script.now lines c.loop-i.i ahead.0 c.next_head-head.ensures.0 c.requires.lines ahead.1) (sym (length-take-le c.loop-i.i lines (omega arith))) c.loop-i.invariant.after)
    ∙ ap (λ line. Some (record { line = line; cause = Number })) (sym (c.number.ensures l here)))

pub loop-i-preserved : goal.loop-i-preserved
loop-i-preserved c =
    let lines = c.args.lines.now in
    let ahead = line-ahead c.args.lines.now c.loop-i.i c.loop-i.invariant.notes c.next_head-head.ensures.1 in
    let l = line_of ahead.0 c.next_head-head.ensures.0 in
    let here = ahead.1 in
    let taken = c.if-not-take.ensures c.next_head-head.ensures.0 ahead.0 lines (take c.loop-i.i lines) c.next_head-head.ensures.2 (fits-at c.args.script.now lines c.loop-i.i ahead.0 c.next_head-head.ensures.0 c.requires.lines ahead.1) (sym (length-take-le c.loop-i.i lines (omega arith))) c.loop-i.invariant.after in
    record {
      notes = ahead.2;
      after = subst (λ above. IsIndexed c.args.script.now lines above c.take.new.self) (sym (front lines c.loop-i.i l here)) taken.1;
      rest = c.loop-i.invariant.rest ∙ first-on (number_at lines) lines c.loop-i.i l here taken.0;
    }

pub take-requires-clause-line : goal.take-requires-clause-line
take-requires-clause-line c =
    let ahead = line-ahead c.args.lines.now c.loop-i.i c.loop-i.invariant.notes c.next_head-head.ensures.1 in
    (c.next_head-head.ensures.0, c.next_head-head.ensures.2, fits-at c.args.script.now c.args.lines.now c.loop-i.i ahead.0 c.next_head-head.ensures.0 c.requires.lines ahead.1)

pub next_head-head-requires : goal.next_head-head-requires
next_head-head-requires c = some-ahead c.args.lines.now c.loop-i.i (omega arith) c.loop-i.invariant.notes

pub take-requires-clause-indexed : goal.take-requires-clause-indexed
take-requires-clause-indexed c = (c.args.lines.now, take c.loop-i.i c.args.lines.now, c.loop-i.invariant.after, c.requires.few)

pub returns : goal.returns
returns c =
    let lines = c.args.lines.now in
    let over : length lines ≤ c.loop-i.i = omega arith in (
      c.loop-i.invariant.rest ∙ at_drop_all (first_bad (number_at lines) (take c.loop-i.i lines)) lines c.loop-i.i over,
      subst (λ above. IsIndexed c.args.script.now lines above c.loop-i.index) (take_all c.loop-i.i lines over) c.loop-i.invariant.after,
    )
