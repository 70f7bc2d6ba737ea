-- Something has come due where one of the lanes has a first.
use Rattle.std.proofs.Common.{◌+◌, ℕ, sym, subst, ◌∙◌, arith, List}
use Rattle.co_queue.specs.Timers.{Timers}
use Rattle.co_bucket.specs.Earliest.{IsEarliest, IsEarliestAt, IsFirst}
use Rattle.co_bucket.specs.Rings.{list_of}
use Rattle.co_bucket.proofs.Foremost.{earliest-come, earliest-waits, come-in, none-in}
use Rattle.co_bucket.proofs.wheel_queue.WheelQueue.earliest.Goals as goal

pub returns-then-is_some : goal.returns-then-is_some
returns-then-is_some c =
    let a = c.self.inside in
    let w = c.self.invariant in
    let some = come-in a.n.items (list_of a.rings a.buckets) c.first.result c.first.ensures (sym c.is_some.ensures ∙ c.if-is_some.true) in
    subst (IsEarliestAt c.args.self.now) (sym c.last-last.ensures)
    (subst (λ (s : Timers). IsEarliestAt s s.last) c.self.view_is
    (earliest-come a.rings.size a.buckets a.direct.items a.n.items a.t.items a.last (list_of a.rings) w.timely (omega (arith, some))))

pub returns-then-is_some-2 : goal.returns-then-is_some-2
returns-then-is_some-2 c =
    let a = c.self.inside in
    let w = c.self.invariant in
    let some = come-in a.n.items (list_of a.rings (a.buckets + 1)) c.first-2.result c.first-2.ensures (sym c.is_some-2.ensures ∙ c.if-is_some-2.true) in
    subst (IsEarliestAt c.args.self.now) (sym c.last-last.ensures)
    (subst (λ (s : Timers). IsEarliestAt s s.last) c.self.view_is
    (earliest-come a.rings.size a.buckets a.direct.items a.n.items a.t.items a.last (list_of a.rings) w.timely (omega (arith, some))))

pub returns : goal.returns
returns c =
    let a = c.self.inside in
    let none = none-in (list_of a.rings a.buckets) c.first.result c.first.ensures (sym c.is_some.ensures ∙ c.if-is_some.false) in
    let none2 = none-in (list_of a.rings (a.buckets + 1)) c.first-2.result c.first-2.ensures (sym c.is_some-2.ensures ∙ c.if-is_some-2.false) in
    subst (λ (s : Timers). IsEarliest s c.first_of_all.result) c.self.view_is
    (earliest-waits a.rings.size a.buckets a.direct.items a.n.items a.t.items a.last (list_of a.rings) c.first_of_all.result
    (subst (λ (ts : List ℕ). IsFirst a.buckets ts (list_of a.rings) c.first_of_all.result) c.deref.ensures.value c.first_of_all.ensures) none none2)
