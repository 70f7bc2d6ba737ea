use Rattle.std.proofs.Common.{ℕ, List, sym, subst}
use Rattle.std.specs.declared.option.Option.{Option}
use Rattle.co_object.specs.declared.note.Note.{Note}
use Rattle.co_desk.specs.declared.finished.Finished.{Finished}
use Rattle.co_desk.specs.Ends.{finished_notes}
use Rattle.co_desk.specs.Moving.{IsOfService, MovingView, target_of}
use Rattle.co_desk.specs.Services.{IsEnded, IsEndedBut, IsLanded}
use Rattle.co_service.proofs.WholeCall.{ended_here, ended_landed, finished_landed}
use Rattle.co_service.proofs.service.Service.land_ended.Goals as goal

pub returns-in_default : goal.returns-in_default
returns-in_default g c = λ direct p cpu d done.
    let told = c.args.told.now in
    let q = c.args.passes.now in
    let notes : List Note = finished_notes p.actor c.args.act told in
    ended_here direct p q cpu c.args.act d told.out.reply notes
    (subst (λ (o : Option MovingView). IsEndedBut direct p cpu c.args.act d told.out.reply (target_of o) notes q) c.in_default.is done.ended)

pub returns-in-Some : goal.returns-in-Some
returns-in-Some g c = λ direct p cpu d done.
    let told = c.args.told.now in
    let q = c.args.passes.now in
    let m = c.in-Some.moving in
    let x = c.land.result in
    let notes : List Note = finished_notes p.actor c.args.act told in
    let here = subst (IsOfService p.params d.i) c.in-Some.is done.leaves in
    let ended = subst (λ (o : Option MovingView). IsEndedBut direct p cpu c.args.act d told.out.reply (target_of o) notes q) c.in-Some.is done.ended in
    let landed = subst (λ (i : ℕ). IsLanded q c.args.act i m.target x c.land.new.passes) here.1 c.land.ensures in
    subst (λ (t : Finished). IsEnded direct p cpu c.args.act d t.out.reply (finished_notes p.actor c.args.act t) c.land.new.passes) (sym c.tell_insert.ensures)
    (subst (λ (ns : List Note). IsEnded direct p cpu c.args.act d told.out.reply ns c.land.new.passes) (finished_landed p.actor c.args.act told x d.i done.callout done.room)
    (ended_landed direct p q cpu c.args.act d told.out.reply notes m.target x c.land.new.passes ended landed))
