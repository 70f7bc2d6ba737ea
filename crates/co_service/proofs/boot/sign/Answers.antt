use Rattle.std.proofs.Common.{◌+◌, refl, sym, ap, subst, rules, [], ◌∷◌, ◌++◌}
use Rattle.co_desk.specs.declared.line.Line.TheVariants.{Opening}
use Rattle.co_service.specs.Booted.{IsOpened}
use Rattle.co_service.proofs.Signing.{opened_next, opened_seated}
use Rattle.co_service.proofs.boot.sign.Goals as goal

pub write-requires-clause-legal : goal.write-requires-clause-legal
write-requires-clause-legal g c =
    c.requires.may.legal (c.args.keeper.now.history ++ Opening c.args.actor c.args.place c.of.result ∷ []) (c.args.actor + 1)
    (opened_next c.args.params.now c.args.place c.args.actor c.args.keeper.now.history (Opening c.args.actor c.args.place c.of.result) (c.of.ensures, refl) c.requires.opened)

pub returns : goal.returns
returns g c =
    let opened = subst (λ h. IsOpened c.args.params.now c.args.place (c.args.actor + 1) h) (sym (ap (λ k. k.history) c.write.ensures.keeper))
    (opened_next c.args.params.now c.args.place c.args.actor c.args.keeper.now.history (Opening c.args.actor c.args.place c.of.result) (c.of.ensures, refl) c.requires.opened) in
    record {
      keeper = search rules;
      opened = opened;
      pass = c.write.ensures.pass;
      seated = opened_seated c.args.params.now c.args.place c.args.actor c.write.new.keeper.history opened;
    }
