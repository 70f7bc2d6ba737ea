use Rattle.std.proofs.Common.{sym, subst}
use Rattle.co_desk.specs.Views.{PassesView}
use Rattle.co_single.specs.Acts.{IsArmed}
use Rattle.co_single.specs.Seen.{AddsEntries}
use Rattle.co_kq.specs.Numbers.{IsPut}
use Rattle.co_kq.proofs.Putting.{put_new}
use Rattle.co_kq.proofs.kq.place.Goals as goal

pub returns-clause-put : goal.returns-clause-put
returns-clause-put g c =
    let e = c.insert-key.ensures in
    let f = c.first_loose-callout.ensures in
    -- whatever the service has seen then, if the callout is armed in it
    let put = λ (q : PassesView) (armed : IsArmed c.args.single.now c.first_loose-callout.result c.args.due 0 q) (entries : AddsEntries c.args.single.now c.args.act q).
    subst (λ u. IsPut c.args.act c.args.knote c.args.knotes.now c.args.single.now c.insert-key.new.self u q) (sym c.hold.ensures)
    (put_new c.args.act c.args.knote c.args.due c.args.knotes.now c.insert-key.new.self c.args.uses.now c.args.single.now q c.insert-key.result c.first_loose-callout.result c.requires
    e.vacant f.below f.loose e.put armed entries) in
    search put
