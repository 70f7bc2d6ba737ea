-- A client's next act, or the service under way, takes this lock, and so does the action.
use Rattle.std.proofs.Common.{◌∙◌, sym}
use Rattle.co_core.proofs.steps.NextLock.{client-takes, service-takes, none-there}
use Rattle.co_core.proofs.blocked.taking.takes_next.Goals as goal

pub returns-else-is_some-2 : goal.returns-else-is_some-2
returns-else-is_some-2 c = λ held is.
    (client-takes c.args.script.now c.args.actor c.args.cursor.now held
    (none-there c.args.cursor.now.parcel (sym c.is_some.ensures ∙ c.if-is_some.false)) (none-there c.args.cursor.now.hold (sym c.is_some-in-Ready.ensures ∙ c.if-is_some-2.false)) c.in-Ready.is
    (sym c.client_lock.ensures ∙ is))

pub returns-in-Locking : goal.returns-in-Locking
returns-in-Locking c = λ held is.
    (service-takes c.args.script.now c.args.actor c.args.cursor.now c.in-Locking.service held (none-there c.args.cursor.now.parcel (sym c.is_some.ensures ∙ c.if-is_some.false)) c.in-Locking.is (sym c.service_lock.ensures ∙ is))
