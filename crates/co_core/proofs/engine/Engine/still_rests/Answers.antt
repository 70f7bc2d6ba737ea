-- An actor that is kept from what it takes next rests still.
use Rattle.std.proofs.Common.{Bool, false, subst, sym, ◌∙◌}
use Rattle.co_core.specs.Resting.{RestsStill}
use Rattle.co_core.proofs.tables.Options.{some_is}
use Rattle.co_core.proofs.walked.Known.{kept_out}
use Rattle.co_core.proofs.engine.Engine.still_rests.Goals as goal

pub returns-then-keeps_out-clause-rests : goal.returns-then-keeps_out-clause-rests
returns-then-keeps_out-clause-rests c ended is s w written have =
    let a = c.args.actor in
    let held = c.in-Wants.held in
    subst (λ (e : Bool). RestsStill s w a e) (some_is false ended is)
    (kept_out s w a held (have.wanted a held (sym c.known.ensures ∙ c.in-Wants.is)) (c.keeps_out.ensures c.if-keeps_out.true s w written))
