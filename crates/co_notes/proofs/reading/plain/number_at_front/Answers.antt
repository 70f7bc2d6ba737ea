use Rattle.std.proofs.Common.{◌∙◌, sym, arith}
use Rattle.co_notes.proofs.PlainParts.{digits_split}
use Rattle.co_notes.proofs.reading.plain.number_at_front.Goals as goal

pub returns : goal.returns
returns c =
    let front = c.digits_at_front-value in
    let short = sym c.is_shortest.ensures ∙ c.if-not-is_shortest.false in (
      front.ensures.small,
      digits_split c.args.text.now _ _ front.result.0 front.result.1 c.split_at.ensures.front c.split_at.ensures.back (front.ensures.value (omega arith)) front.ensures.small front.ensures.digits short c.if-count-eq0.false
          front.ensures.bound,
    )
