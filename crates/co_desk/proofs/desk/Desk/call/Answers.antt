use Rattle.std.proofs.Common.{◌≡◌, ℕ, true, List, refl, sym, ap, ◌∙◌, subst, arith, rules, true≢false}
use Rattle.std.specs.Prelude.{is_some}
use Rattle.std.specs.declared.option.Option.{Option}
use Rattle.std.specs.declared.option.Option.TheVariants.{Some, None}
use Rattle.co_object.specs.declared.alone.Alone.{Alone}
use Rattle.co_object.specs.declared.note.Entry.{Entry}
use Rattle.co_object.specs.declared.reply.Reply.{Reply}
use Rattle.co_desk.specs.Books.{BooksView, history_at, is_kept}
use Rattle.co_wheel.specs.declared.outs.CallOut.{CallOut}
use Rattle.co_wheel.specs.Callouts.{callout}
use Rattle.co_wheel.specs.Parcel.{Parcel}
use Rattle.co_desk.specs.Call.{IsAnswer, due_named, number_accepted, told_notes}
use Rattle.co_desk.specs.declared.params.Params.{Params}
use Rattle.co_desk.specs.Desk.{IsDesk, StandsAs}
use Rattle.co_desk.specs.Moving.{IsOfService, MayDepart, MovingView, departed, moving_from, target_of}
use Rattle.co_desk.specs.Views.{PassesView}
use Rattle.co_desk.specs.Written.{AreTogether}
use Rattle.co_desk.proofs.CallSection.{answer_section, desk_section, leaves_nothing, may_section, off_here, owes_section, reply_here, service_section}
use Rattle.co_desk.proofs.ServedDesk.{some_of}
use Rattle.co_desk.proofs.desk.Desk.call.Goals as goal

pub returns-then-not-has-clause-why : goal.returns-then-not-has-clause-why
returns-then-not-has-clause-why g c = λ _. ap (λ (b : BooksView). is_kept b c.args.i) (sym c.self.view_is) ∙ (sym c.has.ensures ∙ c.if-not-has.true)

-- a callout whose history stands here is at the wheel
stands : (p : Params) (i : ℕ) (a : Option Alone) (o : Option (List Entry)) → StandsAs p i a o → is_some o ≡ true → is_some a ≡ true
stands p i None None st some = some
stands p i None (Some H) st some = absurd st
stands p i (Some a) o st some = refl

pub call_into-requires : goal.call_into-requires
call_into-requires g c =
    let b = c.self.inside.books in
    stands b.params c.args.i (callout c.self.inside.wheel.callouts c.args.i) (history_at b c.args.i) (c.self.invariant.stand.each c.args.i) (sym c.has.ensures ∙ c.if-not-has.false)

pub write_group-requires-clause-may : goal.write_group-requires-clause-may
write_group-requires-clause-may g c =
    let desk : IsDesk c.self.inside.wheel c.meet.new.self c.self.inside.scans = subst (λ b. IsDesk c.self.inside.wheel b c.self.inside.scans) (sym c.meet.ensures.kept) c.self.invariant in
    let same : is_kept c.meet.new.self c.args.i ≡ is_kept c.self.inside.books c.args.i = ap (λ (b : BooksView). is_kept b c.args.i) c.meet.ensures.kept in
    let here : (H : List Entry) × (history_at c.meet.new.self c.args.i ≡ Some H) = some_of (history_at c.meet.new.self c.args.i) (same ∙ (sym c.has.ensures ∙ c.if-not-has.false)) in
    let at = c.self.inside.scans in
    record {
      here = ap is_some here.1;
      reply = reply_here c.self.inside.wheel c.call_into.new.self c.meet.new.self at c.args.i c.args.op.now c.call_into.new.out here.0 desk here.1 c.call_into.ensures;
      removed = search rules;
      off = off_here c.self.inside.wheel c.call_into.new.self c.meet.new.self at c.args.i c.args.op.now c.call_into.new.out here.0 desk here.1 c.call_into.ensures;
      owes = (c.call_into.new.self, owes_section c.self.inside.wheel c.call_into.new.self c.meet.new.self at c.args.i c.args.op.now c.call_into.new.out here.0 desk here.1 c.call_into.ensures);
    }

pub depart-requires-clause-may : goal.depart-requires-clause-may
depart-requires-clause-may g c =
    let desk : IsDesk c.self.inside.wheel c.meet.new.self c.self.inside.scans = subst (λ b. IsDesk c.self.inside.wheel b c.self.inside.scans) (sym c.meet.ensures.kept) c.self.invariant in
    let same : is_kept c.meet.new.self c.args.i ≡ is_kept c.self.inside.books c.args.i = ap (λ (b : BooksView). is_kept b c.args.i) c.meet.ensures.kept in
    let here : (H : List Entry) × (history_at c.meet.new.self c.args.i ≡ Some H) = some_of (history_at c.meet.new.self c.args.i) (same ∙ (sym c.has.ensures ∙ c.if-not-has.false)) in
    let out = c.write_group.ensures.out in
    let number : c.number-n.result ≡ number_accepted c.call_into.new.out.reply = c.number-n.ensures ∙ ap (λ (o : CallOut). number_accepted o.reply) out in
    subst (λ (t : ℕ × ℕ × Option Parcel). MayDepart c.write_group.new.books t.0 t.1 t.2) (λ d. (sym number d, sym c.time.ensures d, sym (ap (λ (o : CallOut). o.leaves) out) d))
    (may_section c.self.inside.wheel c.call_into.new.self c.meet.new.self c.self.inside.scans c.args.i c.args.op.now c.call_into.new.out here.0 desk here.1 c.call_into.ensures c.meet.new.passes c.args.act c.write_group.new.books c.write_group.ensures.books)

pub invariant_of-self : goal.invariant_of-self
invariant_of-self g c =
    let desk : IsDesk c.self.inside.wheel c.meet.new.self c.self.inside.scans = subst (λ b. IsDesk c.self.inside.wheel b c.self.inside.scans) (sym c.meet.ensures.kept) c.self.invariant in
    let same : is_kept c.meet.new.self c.args.i ≡ is_kept c.self.inside.books c.args.i = ap (λ (b : BooksView). is_kept b c.args.i) c.meet.ensures.kept in
    let here : (H : List Entry) × (history_at c.meet.new.self c.args.i ≡ Some H) = some_of (history_at c.meet.new.self c.args.i) (same ∙ (sym c.has.ensures ∙ c.if-not-has.false)) in
    let goes = ap (λ (o : CallOut). o.leaves) c.write_group.ensures.out in
    subst (λ b. IsDesk c.call_into.new.self b c.self.inside.scans) (sym (c.depart.ensures.books ∙ ap (departed c.write_group.new.books) goes))
    (desk_section c.self.inside.wheel c.call_into.new.self c.meet.new.self c.self.inside.scans c.args.i c.args.op.now c.call_into.new.out here.0 desk here.1 c.call_into.ensures c.meet.new.passes c.args.act c.write_group.new.books c.write_group.ensures.books
    (c.write_group.ensures.goes_on c.call_into.new.self (owes_section c.self.inside.wheel c.call_into.new.self c.meet.new.self c.self.inside.scans c.args.i c.args.op.now c.call_into.new.out here.0 desk here.1 c.call_into.ensures))
    (let before = desk.counted in let same = c.write_group.ensures.scans in omega arith))

pub returns-clause-tried : goal.returns-clause-tried
returns-clause-tried g c = record {
  none = λ gone. absurd (true≢false gone);
  some = λ _.
      let p = c.args.passes.now in
      let i = c.args.i in
      let act = c.args.act in
      let op = c.args.op.now in
      let w = c.self.inside.wheel in
      let w' = c.call_into.new.self in
      let b = c.meet.new.self in
      let b' = c.write_group.new.books in
      let at = c.self.inside.scans in
      let answer = c.call_into.new.out in
      let desk : IsDesk w b at = subst (λ b. IsDesk w b at) (sym c.meet.ensures.kept) c.self.invariant in
      let same : is_kept b i ≡ is_kept c.self.inside.books i = ap (λ (b : BooksView). is_kept b i) c.meet.ensures.kept in
      let here : (H : List Entry) × (history_at b i ≡ Some H) = some_of (history_at b i) (same ∙ (sym c.has.ensures ∙ c.if-not-has.false)) in
      let params : b.params ≡ p.params = ap (λ (b : BooksView). b.params) c.meet.ensures.kept ∙ c.meet.ensures.params in
      let out = c.write_group.ensures.out in
      let number : c.number-n.result ≡ number_accepted answer.reply = c.number-n.ensures ∙ ap (λ (o : CallOut). number_accepted o.reply) out in
      let moves = c.depart.ensures.moving ∙ (λ d. moving_from b' (number d) (c.time.ensures d) (out d).leaves) in
      record {
        answer =
            let written = answer_section w w' b at i op answer here.0 desk here.1 c.call_into.ensures c.meet.new.passes act b' c.write_group.ensures.books
            c.write_group.new.passes (told_notes c.meet.new.passes.actor act i op c.write_group.new.told) (params ∙ ap (λ (p : PassesView). p.params) (sym c.meet.ensures.passes)) c.write_group.ensures.placed c.write_group.ensures.seen c.write_group.ensures.written in
            subst (λ (t : PassesView × Option MovingView × Reply). IsAnswer t.0 act i op t.2 (target_of t.1) (told_notes t.0.actor act i op c.write_group.new.told) c.write_group.new.passes)
            (λ d. (c.meet.ensures.passes d, sym moves d, sym (ap (λ (o : CallOut). o.reply) out) d)) written;
        leaving = subst (λ (m : Option MovingView). IsOfService p.params i m) (sym moves) (service_section w w' b at i op answer here.0 desk here.1 c.call_into.ensures c.meet.new.passes act b' c.write_group.ensures.books p.params params);
        room = λ some. c.write_group.ensures.room (leaves_nothing w w' b at i op answer here.0 desk here.1 c.call_into.ensures b' (number_accepted answer.reply) (due_named op) (ap is_some (sym moves) ∙ some));
      };
}

pub write_group-requires-clause-together : goal.write_group-requires-clause-together
write_group-requires-clause-together g c =
    let met = c.meet.ensures in
    subst (λ (t : PassesView × BooksView). AreTogether g.N.Name.name c.args.places.now t.0 t.1) (λ d. (sym met.passes d, sym met.kept d)) record { here = c.requires.service; params_are = met.params }
