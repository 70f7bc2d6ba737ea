use Rattle.std.proofs.Common.{sym, ap, ◌∙◌, subst}
use Rattle.std.specs.List.{All}
use Rattle.co_service.specs.Closing.{Ends}
use Rattle.co_desk.specs.Lines.{made}
use Rattle.co_service.proofs.Ended.{ends_met}
use Rattle.co_service.proofs.closing.end_place.Goals as goal

pub returns : goal.returns
returns g c =
    let k = c.take-keeper.result in
    record {
      passes = c.meet_all.ensures.passes;
      ends =
          subst (λ h. All (Ends g.S.Kind.kind (made h) c.args.i) c.args.passes.now.items) (sym (c.close.ensures.history ∙ ap (λ v. v.history) c.meet_all.ensures.keeper))
          (ends_met g.S.Kind.kind (g.S.Kind.kind.lives g.N.Name.name) c.take-keeper.ensures.0 c.args.i k c.args.passes.now.items c.take-keeper.ensures.1 c.meet_all.ensures.met);
    }
