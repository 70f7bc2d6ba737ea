use Rattle.std.proofs.Common.{◌≡◌, ◌-◌, ◌+◌, ◌∙◌, sym, arith}
use Rattle.co_packed.proofs.Storing.{after_more, after_none}
use Rattle.co_packed.proofs.notes.after_rows.Goals as goal

pub loop-at-preserved : goal.loop-at-preserved
loop-at-preserved c =
    let e : c.args.count - (c.loop-at._at + 1) ≡ c.args.count - c.loop-at._at - 1 = omega arith in
    let more = after_more (c.args.count - c.loop-at._at) c.loop-at.rest.now (omega arith) in
    rw (e, c.after_row-rest.ensures) (sym more ∙ c.loop-at.invariant)

pub returns : goal.returns
returns c =
    let e : c.args.count - c.loop-at._at ≡ 0 = omega arith in
    sym (after_none c.loop-at.rest.now) ∙ rw e at c.loop-at.invariant
