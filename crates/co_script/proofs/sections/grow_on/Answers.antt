use Rattle.std.proofs.Common.{◌≡◌, drop, refl, subst, ◌∙◌, arith}
use Rattle.std.specs.Prelude.{MatchOption}
use Rattle.co_text.specs.Lines.{lines_of}
use Rattle.co_script.specs.Beside.{GrowsNext}
use Rattle.co_script.proofs.Beside.{frame-same, frame-further, reads-none, reads-more}
use Rattle.co_script.proofs.sections.grow_on.Goals as goal

pub loop-behind-init : goal.loop-behind-init
loop-behind-init c = record {
  frame = frame-same c.args.draft.now;
  kind = refl;
  reads = reads-none c.args.draft.now c.args.draft.now c.args.draft.now.stage (lines_of (drop c.args.from c.args.text.now)) c.requires.begins;
  within = c.requires.from;
  few = omega arith;
}

pub loop-behind-preserved : goal.loop-behind-preserved
loop-behind-preserved c =
    let before = c.loop-behind.invariant in
    let next = subst (λ o. MatchOption o (c.grow_next.new.draft ≡ c.loop-behind.draft) (λ to. GrowsNext c.args.text.now c.loop-behind.draft c.grow_next.new.draft c.loop-behind.end to)) c.in-Some.is c.in_ok-behind.ensures in
    record {
      frame = frame-further c.args.draft.now c.loop-behind.draft c.grow_next.new.draft before.frame next.grows.frame;
      kind = next.grows.kind ∙ before.kind;
      reads = reads-more c.args.draft.now c.loop-behind.draft c.grow_next.new.draft c.args.draft.now.stage (lines_of (drop c.args.from c.args.text.now)) (lines_of (drop c.loop-behind.end c.args.text.now)) (lines_of (drop c.in-Some.behind c.args.text.now)) next.line c.loop-behind.lines
          before.frame before.kind next.is.lines before.reads next.grows;
      within = next.is.within;
      few = omega (arith, before.few, next.is.further);
    }
