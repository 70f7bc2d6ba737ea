-- The next time and the count are the expiration's.
use Rattle.std.proofs.Common.{ap, ◌∙◌}
use Rattle.co_kq.specs.Kevents.{next_after}
use Rattle.co_kq.proofs.knotes.expire.Goals as goal

pub returns : goal.returns
returns c =
    let k = c.args.knote.now in
    ap (λ next. record k { next = next; count = c.saturating_add-knote.result }) c.next_after-knote.ensures
    ∙ ap (λ n. record k { next = next_after k.oneshot k.span k.next; count = n }) c.saturating_add-knote.ensures
