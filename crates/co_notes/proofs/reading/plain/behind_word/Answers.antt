use Rattle.std.proofs.Common.{◌∙◌, arith}
use Rattle.co_notes.proofs.PlainParts.{too_short, byte_passed}
use Rattle.co_notes.proofs.reading.plain.behind_word.Goals as goal

pub returns-then-text-wanted : goal.returns-then-text-wanted
returns-then-text-wanted c = too_short c.args.wanted.now c.args.text.now (omega arith)

pub loop-i-preserved : goal.loop-i-preserved
loop-i-preserved c =
    c.loop-i.invariant ∙ byte_passed c.args.wanted.now c.args.text.now c.loop-i.i c.loop-i-test.true (omega (arith, c.loop-i-test.true, c.if-text-wanted.false)) c.if-wanted-i-eq32.false c.if-text-i.false
