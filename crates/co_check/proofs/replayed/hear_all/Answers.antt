-- All lines are heard.
use Rattle.std.proofs.Common.{[], Ok, ap, subst, sym, ◌∙◌}
use Rattle.co_check.specs.Hearing.{ComesTo}
use Rattle.co_check.proofs.replayed.hear_all.Goals as goal

pub returns-in-Ok-clause-read : goal.returns-in-Ok-clause-read
returns-in-Ok-clause-read g c =
    let told = c.in-Ok.ensures in
    let read = c.read_of.ensures.read told.0 (told.2 [] c.requires.heard) in
    told.1 ∙ (ap (λ ls. Ok (record { lines = ls; end = c.in-Ok.end })) (sym read.0) ∙ ap (λ n. Ok (record { lines = c.read_of.result.lines; end = n })) (sym c.read_of.ensures.end))

pub returns-in-Ok-clause-replayed : goal.returns-in-Ok-clause-replayed
returns-in-Ok-clause-replayed g c =
    let told = c.in-Ok.ensures in
    let read = c.read_of.ensures.read told.0 (told.2 [] c.requires.heard) in
    subst (λ ls. ComesTo g.S.Subject.script ls c.read_of.result.replayed) (sym read.0) read.1
