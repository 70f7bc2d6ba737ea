use Rattle.std.proofs.Common.{◌≡◌, ◌≤◌, inl, length, replicate, refl, ap, sym, subst, ◌∙◌, arith}
use Rattle.std.specs.List.{All}
use Rattle.std.proofs.lemmas.List.Elements.{All-replicate}
use Rattle.co_desk.specs.Params.{IsSpec, no_spec}
use Rattle.co_single.proofs.Opening.{length-replicate}
use Rattle.co_single.proofs.fresh.plain_service.Goals as goal

pub boot-requires : goal.boot-requires
boot-requires c =
    let is : c.as_slice.result.now ≡ replicate c.args.callouts no_spec = c.as_slice.ensures ∙ c.in_ok-specs.ensures in
    let long : length c.as_slice.result.now ≡ c.args.callouts = ap (λ l. length l) is ∙ length-replicate c.args.callouts no_spec in
    let some : 1 ≤ c.args.callouts = c.requires.some in
    let limit : c.args.callouts ≤ 1024 = c.requires.limit in
    record {
      version = inl refl;
      clients = omega arith;
      cpus = (omega arith, omega arith);
      buckets = (omega arith, omega arith, (8, refl));
      size = (omega (arith, long, some), omega (arith, long, limit));
      specs = subst (All (IsSpec 1)) (sym is) (All-replicate (IsSpec 1) c.args.callouts no_spec (record { unlocked = λ _. refl; free = inl refl; later = λ _. refl }));
    }
