use Rattle.std.proofs.Common.{ap, ◌∙◌}
use Rattle.co_text.specs.Lines.{content}
use Rattle.co_text.proofs.Contents.{content-ends, content-comment, content-other}
use Rattle.co_text.proofs.lines.content.Goals as goal

pub returns-in-empty : goal.returns-in-empty
returns-in-empty c = ap (λ e. content (record { bytes = c.args.line.now; ended = e })) c.if-not-ended.false
    ∙ content-ends c.args.line.now _ _ c.content_length.result c.content_length.ensures.value c.split_at.ensures.front c.split_at.ensures.back c.in-empty.len_below

pub returns-in-len1-up : goal.returns-in-len1-up
returns-in-len1-up c = ap (λ e. content (record { bytes = c.args.line.now; ended = e })) c.if-not-ended.false
    ∙ content-comment c.args.line.now _ _ c.content_length.result c.content_length.ensures.value c.split_at.ensures.front c.split_at.ensures.back c.if-first-eq35.true

pub returns-in_default : goal.returns-in_default
returns-in_default c = ap (λ e. content (record { bytes = c.args.line.now; ended = e })) c.if-not-ended.false
    ∙ content-other c.args.line.now _ c.content_length.result c.content_length.ensures.value c.split_at.ensures.back c.in-len1-up.len_at_least c.if-first-eq35.false
