use Rattle.std.proofs.Common.{◌≡◌, ℕ, length, List, Bool, [], ◌∷◌, ◌++◌, refl, sym, ap, ◌∙◌, subst, arith}
use Rattle.std.specs.Prelude.{slice_set}
use Rattle.std.specs.declared.option.Option.TheVariants.{Some}
use Rattle.co_object.specs.declared.note.Entry.{Entry}
use Rattle.co_object.specs.declared.alone.Alone.{Alone}
use Rattle.co_object.specs.Scan.{is_direct}
use Rattle.co_object.specs.declared.queue.QOp.{QOp}
use Rattle.co_object.specs.declared.queue.QReply.{QReply}
use Rattle.co_object.specs.declared.queue.QOp.TheVariants.{Insert}
use Rattle.co_object.specs.declared.queue.QReply.TheVariants.{At}
use Rattle.co_desk.specs.Books.{BooksView, history_at, is_kept, with_history}
use Rattle.co_wheel.specs.Callouts.{callout}
use Rattle.co_desk.specs.declared.params.Params.{Params}
use Rattle.co_desk.specs.Desk.{IsDesk, alone_after}
use Rattle.co_desk.specs.Lines.{made}
use Rattle.co_desk.specs.Moving.{MovingView, params_in}
use Rattle.co_desk.specs.declared.told.Inserted.{Inserted}
use Rattle.co_desk.specs.Outcomes.{noted_turn, queue_entry_by}
use Rattle.co_desk.specs.Params.{directs}
use Rattle.co_desk.specs.Stories.{IsHistory}
use Rattle.co_desk.specs.Views.{IsKeeperOf, PassesView}
use Rattle.co_desk.specs.Writes.{Writes}
use Rattle.co_desk.proofs.Lanes.{direct_spec}
use Rattle.co_desk.proofs.LandSection.{Comes, absent_at, landed_desk}
use Rattle.co_desk.proofs.Noting.{turn_written}
use Rattle.co_desk.proofs.desk.Desk.land.Goals as goal

pub invariant_of-self : goal.invariant_of-self
invariant_of-self g c =
    let m = c.moving.inside in
    let i : ℕ = m.parcel.i in
    let b : BooksView = c.meet.new.self in
    let H : List Entry = made m.keeper.history in
    let at_is : c.callout-i.result ≡ i = c.callout-i.ensures ∙ ap (λ (v : MovingView). v.i) (sym c.moving.view_is) in
    let desk : IsDesk c.self.inside.wheel b c.self.inside.scans = subst (λ b. IsDesk c.self.inside.wheel b c.self.inside.scans) (sym c.meet.ensures.kept) c.self.invariant in
    let params : c.moving.invariant.params ≡ b.params =
    ap params_in (sym c.moving.invariant.kept.opened) ∙ (ap (λ (v : MovingView). v.params) c.moving.view_is ∙ (c.requires.params ∙ (sym c.meet.ensures.params ∙ ap (λ (v : BooksView). v.params) (sym c.meet.ensures.kept)))) in
    let long : length b.timers ≡ length c.self.inside.books.timers = ap (λ (v : BooksView). length v.timers) c.meet.ensures.kept in
    let kept : is_kept b i ≡ is_kept c.self.inside.books c.callout-i.result = (λ d. is_kept (c.meet.ensures.kept d) (sym at_is d)) in
    let cpu : b.cpu ≡ c.self.inside.books.cpu = ap (λ (v : BooksView). v.cpu) c.meet.ensures.kept in
    let target : m.parcel.arming.cpu ≡ c.args.moving.target.cpu = ap (λ (v : MovingView). v.target.cpu) c.moving.view_is in
    let comes : Comes b m.parcel H m.n m.due = record {
      below = (let n = c.size.ensures in let f = c.if-size-i.false in omega arith);
      absent = (let h = c.has.ensures in let f = c.if-has.false in cc);
      callout_is = c.moving.invariant.callout ∙ (λ d. alone_after (params d) i H);
      idle = c.moving.invariant.idle;
      armed = c.moving.invariant.armed;
      here = (let h = c.cpu.ensures in let t = c.cpu-cpu.ensures in let f = c.if-cpu.false in omega arith);
      number = c.moving.invariant.number;
      due_is = c.moving.invariant.due_is;
    } in
    let put : c.put.new.self ≡ with_history b i (Some H) = c.put.ensures.books ∙ (λ d. with_history b (at_is d) (Some H)) in
    let wrote : c.write_landed.new.books ≡ record b { timers = slice_set b.timers i (Some H); journal = b.journal ++ queue_entry_by c.meet.new.passes c.args.act (Insert c.callout-i.result m.n m.due) (At c.land-at.result) ∷ [] } =
    c.write_landed.ensures.written.books ∙ (λ d. record (put d) { journal = (put d).journal ++ queue_entry_by c.meet.new.passes c.args.act (Insert c.callout-i.result m.n m.due) (At c.land-at.result) ∷ [] }) in
    subst (λ v. IsDesk c.land-at.new.self v c.self.inside.scans) (sym wrote)
    (landed_desk c.self.inside.wheel b c.self.inside.scans m.parcel H m.n m.due desk comes c.land-at.new.self c.land-at.result c.land-at.ensures
    (queue_entry_by c.meet.new.passes c.args.act (Insert c.callout-i.result m.n m.due) (At c.land-at.result)) (ap (λ (k : ℕ). Insert k m.n m.due) at_is) refl)

pub returns-clause-landed : goal.returns-clause-landed
returns-clause-landed g c =
    let m = c.moving.inside in
    let x = c.write_landed.result in
    let p = c.args.passes.now in
    let w = c.write_landed.ensures in
    let cpu : c.put.new.self.cpu ≡ c.args.moving.target.cpu =
    (let a = ap (λ (v : BooksView). v.cpu) c.put.ensures.books in let b = ap (λ (v : BooksView). v.cpu) c.meet.ensures.kept in let h = c.cpu.ensures in let t = c.cpu-cpu.ensures in let f = c.if-cpu.false in omega arith) in
    let told = w.told in
    record {
      cpu = ap (λ (y : Inserted). y.cpu) told ∙ cpu;
      number = ap (λ (y : Inserted). y.n) told ∙ ap (λ (v : MovingView). v.target.n) c.moving.view_is;
      due_is = ap (λ (y : Inserted). y.due) told ∙ ap (λ (v : MovingView). v.target.due) c.moving.view_is;
      written = subst (λ (t : PassesView × QOp × QReply). Writes t.0 (noted_turn t.0.actor c.args.act x.cpu t.1 t.2 x.pos ∷ []) c.write_landed.new.passes)
          (λ d. (c.meet.ensures.passes d, Insert (c.callout-i.ensures d) (sym (ap (λ (y : Inserted). y.n) told) d) (sym (ap (λ (y : Inserted). y.due) told) d), At (sym (ap (λ (y : Inserted). y.at) told) d)))
          (turn_written c.meet.new.passes c.write_landed.new.passes c.args.act c.put.new.self.cpu x.cpu (Insert c.callout-i.result m.n m.due) (At c.land-at.result) x.pos c.write_landed.new.books.journal (ap (λ (y : Inserted). y.cpu) told) w.written.written);
    }

pub land-at-requires-clause-absent : goal.land-at-requires-clause-absent
land-at-requires-clause-absent g c =
    let i : ℕ = c.moving.inside.parcel.i in
    let b : BooksView = c.self.inside.books in
    let at_is : c.callout-i.result ≡ i = c.callout-i.ensures ∙ ap (λ (v : MovingView). v.i) (sym c.moving.view_is) in
    absent_at b.params i (callout c.self.inside.wheel.callouts i) (history_at b i) (c.self.invariant.stand.each i) (ap (is_kept b) (sym at_is) ∙ (sym c.has.ensures ∙ c.if-has.false))

pub land-at-requires-clause-lane : goal.land-at-requires-clause-lane
land-at-requires-clause-lane g c =
    let i : ℕ = c.moving.inside.parcel.i in
    let params : c.moving.invariant.params ≡ c.self.inside.books.params =
    ap params_in (sym c.moving.invariant.kept.opened) ∙ (ap (λ (v : MovingView). v.params) c.moving.view_is ∙ (c.requires.params ∙ sym c.meet.ensures.params)) in
    ap (λ (a : Alone). a.spec.direct) c.moving.invariant.callout
    ∙ (sym (direct_spec c.moving.invariant.params i)
    ∙ (ap (λ (p : Params). is_direct (directs p) i) params
    ∙ ap (λ (l : List Bool). is_direct l i) (sym c.self.invariant.of.direct)))

pub put-requires-clause-keeper : goal.put-requires-clause-keeper
put-requires-clause-keeper g c =
    let m = c.moving.inside in
    let at_is : c.callout-i.result ≡ m.parcel.i = c.callout-i.ensures ∙ ap (λ (v : MovingView). v.i) (sym c.moving.view_is) in
    let params : c.moving.invariant.params ≡ c.meet.new.self.params =
    ap params_in (sym c.moving.invariant.kept.opened) ∙ (ap (λ (v : MovingView). v.params) c.moving.view_is ∙ (c.requires.params ∙ (sym c.meet.ensures.params ∙ ap (λ (v : BooksView). v.params) (sym c.meet.ensures.kept)))) in
    subst (λ (t : Params × ℕ). IsKeeperOf IsHistory g.N.Name.name.timers t.0 t.1 m.keeper) (λ d. (params d, sym at_is d)) c.moving.invariant.kept
