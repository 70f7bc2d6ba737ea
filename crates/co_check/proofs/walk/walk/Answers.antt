-- One note more is of the program, or is not.
use Rattle.std.proofs.Common.{◌<◌, length, refl, ap, sym, ◌∙◌, arith}
use Rattle.std.specs.Prelude.{Some}
use Rattle.std.proofs.lemmas.Option.{slice_get_read}
use Rattle.co_report.specs.PackedLines.{line_of}
use Rattle.co_check.proofs.Walking.{walked-on, walked-off, few-facts}
use Rattle.co_check.proofs.walk.walk.Goals as goal

pub note-note-requires : goal.note-note-requires
note-note-requires c =
    let here = slice_get_read c.args.row.now (length c.args.row.now) c.loop-slot.slot-index c.slot-item.result refl c.loop-slot-test.true c.slot-item.is ∙ ap Some (sym c.line.ensures ∙ c.in-Some.is) in
    c.requires.row c.loop-slot.slot-index c.in-Some.i here

pub number-requires : goal.number-requires
number-requires c =
    let here = slice_get_read c.args.row.now (length c.args.row.now) c.loop-slot.slot-index c.slot-item.result refl c.loop-slot-test.true c.slot-item.is ∙ ap Some (sym c.line.ensures ∙ c.in-Some.is) in
    c.requires.row c.loop-slot.slot-index c.in-Some.i here

pub bounds-facts-i : goal.bounds-facts-i
bounds-facts-i c =
    let here = slice_get_read c.args.row.now (length c.args.row.now) c.loop-slot.slot-index c.slot-item.result refl c.loop-slot-test.true c.slot-item.is ∙ ap Some (sym c.line.ensures ∙ c.in-Some.is) in
    omega (arith, c.requires.row c.loop-slot.slot-index c.in-Some.i here, few-facts c.args.script.now c.args.lines.now c.args.facts.now c.requires.facts)

pub returns-then-not-walk_note : goal.returns-then-not-walk_note
returns-then-not-walk_note c =
    let here = slice_get_read c.args.row.now (length c.args.row.now) c.loop-slot.slot-index c.slot-item.result refl c.loop-slot-test.true c.slot-item.is ∙ ap Some (sym c.line.ensures ∙ c.in-Some.is) in
    let within : c.in-Some.i < length c.args.lines.now = c.requires.row c.loop-slot.slot-index c.in-Some.i here in
    let known : c.in-Some.i < length c.args.facts.now = omega (arith, within, few-facts c.args.script.now c.args.lines.now c.args.facts.now c.requires.facts) in
    let l = line_of c.note-note.ensures.0 c.note-note.result in
    c.loop-slot.invariant.astray
    ∙ (walked-off c.args.script.now c.args.actor c.args.lines.now c.args.facts.now c.args.row.now c.loop-slot.slot-index c.in-Some.i c.loop-slot.cursor l c.index-facts-i.result
    c.requires.facts here c.note-note.ensures.1 (slice_get_read c.args.facts.now (length c.args.facts.now) c.in-Some.i c.index-facts-i.result refl known c.index-facts-i.is) c.walk_note.new.cursor (c.if-not-walk_note.ensures.note c.note-note.ensures.0)
    ∙ ap Some (sym (c.number.ensures l c.note-note.ensures.1)))

pub loop-slot-preserved : goal.loop-slot-preserved
loop-slot-preserved c =
    let here = slice_get_read c.args.row.now (length c.args.row.now) c.loop-slot.slot-index c.slot-item.result refl c.loop-slot-test.true c.slot-item.is ∙ ap Some (sym c.line.ensures ∙ c.in-Some.is) in
    let within : c.in-Some.i < length c.args.lines.now = c.requires.row c.loop-slot.slot-index c.in-Some.i here in
    let known : c.in-Some.i < length c.args.facts.now = omega (arith, within, few-facts c.args.script.now c.args.lines.now c.args.facts.now c.requires.facts) in
    let l = line_of c.note-note.ensures.0 c.note-note.result in
    let on = walked-on c.args.script.now c.args.actor c.args.lines.now c.args.facts.now c.args.row.now c.loop-slot.slot-index c.in-Some.i c.loop-slot.cursor l c.index-facts-i.result
    c.requires.facts here c.note-note.ensures.1 (slice_get_read c.args.facts.now (length c.args.facts.now) c.in-Some.i c.index-facts-i.result refl known c.index-facts-i.is) c.walk_note.new.cursor (c.if-not-walk_note.ensures.note c.note-note.ensures.0) in
    record {
      astray = c.loop-slot.invariant.astray ∙ on.0;
      place = c.loop-slot.invariant.place ∙ on.1;
      counted = omega (arith, c.if-not-walk_note.ensures.counted refl, c.loop-slot.invariant.counted);
    }
