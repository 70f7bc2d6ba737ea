use Rattle.std.proofs.Common.{◌≡◌, sym, subst, None, set, true}
use Rattle.co_kq.specs.Kevents.{put_in_order, event_of}
use Rattle.co_kq.specs.Slots.{knotes_in, TellsOne, IsFirstReady}
use Rattle.co_kq.proofs.InSlots.{emptied, taken_out}
use Rattle.co_kq.proofs.Telling.{tells_first, behind_first, first_at}
use Rattle.co_kq.proofs.knotes.Knotes.tell_once.Goals as goal

pub returns-clause-tells : goal.returns-clause-tells
returns-clause-tells c =
    let old = c.args.self.now in
    let x = c.remove.result in
    let there = c.remove.ensures.was in
    let rest = knotes_in (set old.slots c.args.key None) in
    let base : knotes_in old.slots ≡ put_in_order x.knote rest = taken_out old.slots c.args.key x there (c.requires.distinct c.args.key x there) in
    let first : IsFirstReady old.slots c.args.key = first_at old.slots c.args.key x c.requires.first there in
    let tells : TellsOne (put_in_order x.knote rest) (event_of x.knote) rest = tells_first true x.knote rest (c.requires.once x there) first.ready (behind_first old.slots c.args.key first c.requires.distinct) in
    subst (λ l. TellsOne l (event_of x.knote) (knotes_in c.remove.new.self.slots)) (sym base)
    (subst (λ l. TellsOne (put_in_order x.knote rest) (event_of x.knote) l) (sym (emptied old c.remove.new.self c.args.key x there c.remove.ensures.changed.updates)) tells)
