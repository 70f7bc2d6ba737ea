use Rattle.std.proofs.Common.{ℕ, List, sym, ap, subst}
use Rattle.std.specs.Prelude.{is_some}
use Rattle.std.specs.declared.option.Option.{Option}
use Rattle.std.specs.declared.option.Option.TheVariants.{Some}
use Rattle.co_object.specs.declared.note.Note.{Note}
use Rattle.co_object.specs.declared.op.CallOp.{CallOp}
use Rattle.co_desk.specs.declared.told.Told.{Told}
use Rattle.co_desk.specs.Call.{IsAnswer, IsCalled, told_notes}
use Rattle.co_desk.specs.Moving.{IsDone, IsOfService, MovingView, target_of}
use Rattle.co_desk.specs.Services.{IsLanded}
use Rattle.co_desk.specs.Views.{PassesView}
use Rattle.co_service.proofs.Lasting.{still_of}
use Rattle.co_service.proofs.Lasts.{called_keeps}
use Rattle.co_service.proofs.WholeCall.{done_leaves, done_same, told_landed, whole_here, whole_landed}
use Rattle.co_service.proofs.service.Service.land_left.Goals as goal

pub land-requires : goal.land-requires
land-requires g c =
    let p = c.requires.0 in
    let q = c.args.passes.now in
    let op = c.requires.1 in
    let goes = subst (IsOfService q.params c.args.i) c.in-Some.is (done_leaves p q c.args.act c.args.i op c.args.told.now c.args.leaves c.requires.3) in
    record {
      passes = still_of g.N.Name.name c.args.self.now p q (done_same p q c.args.act c.args.i op c.args.told.now c.args.leaves c.requires.3) c.requires.2;
      params_are = goes.0;
    }

pub returns-in_default : goal.returns-in_default
returns-in_default g c =
    let told = c.args.told.now in
    let q = c.args.passes.now in
    let called : (p : PassesView) (op : CallOp) → IsDone p c.args.act c.args.i op told c.args.leaves q → IsCalled p c.args.act c.args.i op told.out.reply (told_notes p.actor c.args.act c.args.i op told) q = λ p op done.
    let notes : List Note = told_notes p.actor c.args.act c.args.i op told in
    whole_here p q c.args.act c.args.i op told.out.reply notes (subst (λ (o : Option MovingView). IsAnswer p c.args.act c.args.i op told.out.reply (target_of o) notes q) c.in_default.is done.answer) in
    record {
      called = called;
      kept = λ p op are done. called_keeps p q c.args.act c.args.i op told.out.reply (told_notes p.actor c.args.act c.args.i op told) (called p op done) g.N.Name.name c.args.self.now are;
    }

pub returns-in-Some : goal.returns-in-Some
returns-in-Some g c =
    let told = c.args.told.now in
    let told' = record told { insertion = Some c.land.result } in
    let q = c.args.passes.now in
    let r = c.land.new.passes in
    let m = c.in-Some.moving in
    let called : (p : PassesView) (op : CallOp) → IsDone p c.args.act c.args.i op told c.args.leaves q → IsCalled p c.args.act c.args.i op told.out.reply (told_notes p.actor c.args.act c.args.i op told') r = λ p op done.
    let notes : List Note = told_notes p.actor c.args.act c.args.i op told in
    let here = subst (IsOfService p.params c.args.i) c.in-Some.is done.leaving in
    let goes = subst (λ (o : Option MovingView). IsAnswer p c.args.act c.args.i op told.out.reply (target_of o) notes q) c.in-Some.is done.answer in
    let landed = subst (λ (i : ℕ). IsLanded q c.args.act i m.target c.land.result r) here.1 c.land.ensures in
    subst (λ (ns : List Note). IsCalled p c.args.act c.args.i op told.out.reply ns r) (told_landed p.actor c.args.act c.args.i op told c.land.result (done.room (ap is_some c.in-Some.is)))
    (whole_landed p q c.args.act c.args.i op told.out.reply notes m.target c.land.result r goes landed) in
    record {
      called = subst (λ (t : Told). (p : PassesView) (op : CallOp) → IsDone p c.args.act c.args.i op told c.args.leaves q → IsCalled p c.args.act c.args.i op t.out.reply (told_notes p.actor c.args.act c.args.i op t) r) (sym c.tell_insert.ensures) called;
      kept = λ p op are done. called_keeps p r c.args.act c.args.i op told.out.reply (told_notes p.actor c.args.act c.args.i op told') (called p op done) g.N.Name.name c.args.self.now are;
    }
