-- The service has made the call, and this is its reply.
use Rattle.std.proofs.Common.{◌≡◌, true, ap, rules, ◌∙◌}
use Rattle.std.specs.Option.{option_copied}
use Rattle.co_lock.specs.Covers.{covers}
use Rattle.co_object.specs.declared.op.CallOp.TheVariants.{Plain}
use Rattle.co_desk.specs.Call.{notes_in}
use Rattle.co_desk.specs.declared.params.Params.{Params}
use Rattle.co_desk.specs.Params.{spec_at}
use Rattle.co_run.proofs.port.ask.Goals as goal

pub returns-clause-came : goal.returns-clause-came
returns-clause-came g c =
    let covered : covers (option_copied c.args.hold) (spec_at c.args.service.now c.args.i) (Plain c.args.op.now) ≡ true = search rules in
    (ap (λ (r : Params). covers (option_copied c.args.hold) (spec_at r c.args.i) (Plain c.args.op.now)) c.requires.of.params_are ∙ covered, (notes_in c.call-made.result.notes, c.call-made.ensures.called))
