-- The lines of one chunk more are written.
use Rattle.std.proofs.Common.{◌≡◌, ◌++◌, length, drop, sym, ap, ◌∙◌, arith, append_assoc, length-append, length-drop}
use Rattle.std.specs.Slice.Iter.{chunks_rest}
use Rattle.std.proofs.lemmas.Grind.{flat_map-append}
use Rattle.co_text.specs.Lines.{text}
use Rattle.co_text.proofs.Spacing.{text_append}
use Rattle.co_print.specs.Origins.{origin_lines, lines_from}
use Rattle.co_print.proofs.origin.print_from.Goals as goal

pub loop-chunk-preserved : goal.loop-chunk-preserved
loop-chunk-preserved c =
    let steps = c.in-Some.ensures.steps in
    let before = c.loop-chunk.invariant in
    let s = c.args.script.now in
    let lists = c.args.lists.now in
    let chunk = c.in-Some.chunk.now in
    let rest = chunks_rest c.next.new.self in
    let lines : text (lines_from s lists (chunks_rest c.loop-chunk.chunk-iterator)) ≡ text (lines_from s lists chunk) ++ text (lines_from s lists rest) =
    ap (λ os. text (lines_from s lists os)) steps.1.0
    ∙ (ap text (flat_map-append (origin_lines s lists) chunk rest) ∙ text_append (lines_from s lists chunk) (lines_from s lists rest)) in (
      omega (arith, steps.0, before.0),
      tt,
      steps.0 ∙ before.2,
      omega (arith, before.3, steps.0, before.2, steps.1.1, length-append c.print_chunk.new.copies (drop (length chunk) c.loop-chunk.copies), length-drop (length chunk) c.loop-chunk.copies, c.print_chunk.auto.copies),
      ap (λ t. t ++ text (lines_from s lists rest)) c.in_ok-print_chunk.ensures
          ∙ (append_assoc c.loop-chunk.page (text (lines_from s lists chunk)) (text (lines_from s lists rest))
          ∙ (ap (λ t. c.loop-chunk.page ++ t) (sym lines) ∙ before.4)),
    )
