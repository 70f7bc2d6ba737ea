use Rattle.std.proofs.Common.{◌≡◌, ◌-◌, length, take, drop, arith}
use Rattle.std.proofs.lemmas.List.{take_all, length-drop}
use Rattle.co_text.proofs.Contents.{content-feed}
use Rattle.co_text.proofs.lines.next_content.Goals as goal

pub returns-in-len1-up-clause-line : goal.returns-in-len1-up-clause-line
returns-in-len1-up-clause-line c =
    let rest = c.split_at.result.1.now in
    let after : take (length rest - 1) (drop 1 rest) ≡ drop 1 rest = take_all (length rest - 1) (drop 1 rest) (omega (arith, length-drop 1 rest)) in
    content-feed c.args.text.now _ rest _ c.content_length.result c.content_length.ensures.value c.split_at.ensures.front c.split_at.ensures.back after c.in-len1-up.len_at_least c.if-first-eq10.true
