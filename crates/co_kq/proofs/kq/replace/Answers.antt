use Rattle.std.proofs.Common.{◌≡◌, ◌∙◌, ap, sym, arith}
use Rattle.co_kq.specs.Numbers.{use_at}
use Rattle.co_kq.specs.declared.numbers.Use.TheVariants.{Held}
use Rattle.co_kq.proofs.Putting.{is_below, put_old}
use Rattle.co_kq.proofs.kq.replace.Goals as goal

pub arm-requires-clause-callout : goal.arm-requires-clause-callout
arm-requires-clause-callout g c =
    let h = c.rewrite-timer.ensures.had in
    let of_key : use_at c.args.uses.now c.rewrite-timer.result ≡ Held c.args.key = ap (use_at c.args.uses.now) (sym h.timer) ∙ c.requires.kept.numbered.held c.args.key h.slot h.there in
    omega (arith, is_below c.args.uses.now c.rewrite-timer.result c.args.key of_key, c.requires.kept.callouts)

pub returns : goal.returns
returns g c =
    let e = c.rewrite-timer.ensures in
    record {
      put = put_old c.args.act c.args.knote c.args.due c.args.knotes.now c.rewrite-timer.new.self c.args.uses.now c.args.single.now c.arm.new.self c.args.key c.rewrite-timer.result c.requires.kept e.had
          e.put c.requires.due c.requires.fresh c.arm.ensures.armed c.arm.ensures.entries;
    }
