use Rattle.std.proofs.Common.{◌≡◌, ap, sym, subst, ◌∙◌, arith, length, set}
use Rattle.co_kq.specs.Kevents.{deleted_count, deleted}
use Rattle.co_kq.proofs.Adding.{none_deleted}
use Rattle.std.proofs.lemmas.List.{length-set}
use Rattle.co_kq.specs.Numbers.{AreKept, left_use}
use Rattle.co_kq.proofs.Putting.{is_below, gone_kept}
use Rattle.co_kq.proofs.kq.Kq.delete.Goals as goal

pub returns-in_err-key-clause-answer : goal.returns-in_err-key-clause-answer
returns-in_err-key-clause-answer g c =
    c.from_residual.ensures
    ∙ (sym (none_deleted c.self.inside.clock c.args.ident c.self.inside.knotes.slots c.in_err-key.ensures.absent).0
    ∙ ap (λ b. deleted_count b.list c.args.ident) c.self.view_is)

pub returns-in_err-key-clause-list : goal.returns-in_err-key-clause-list
returns-in_err-key-clause-list g c =
    subst (λ b. b.list ≡ deleted b.list c.args.ident) c.self.view_is
    (sym (none_deleted c.self.inside.clock c.args.ident c.self.inside.knotes.slots c.in_err-key.ensures.absent).1)

pub release-requires : goal.release-requires
release-requires g c =
    is_below c.self.inside.uses c.remove-slot.result.timer c.in_ok-key.key (c.self.invariant.kept.numbered.held c.in_ok-key.key c.remove-slot.result c.remove-slot.ensures.was)

pub invariant_of-self : goal.invariant_of-self
invariant_of-self g c =
    let e = c.remove-slot.ensures in
    let x = c.remove-slot.result in
    let uses = c.self.inside.uses in
    let all : length c.release.new.self ≡ length uses = ap length c.release.ensures ∙ length-set uses x.timer (left_use x) in
    let kept : AreKept c.self.inside.work c.remove-slot.new.self.slots (set uses x.timer (left_use x)) c.self.inside.single =
    gone_kept c.self.inside.work c.self.inside.knotes c.remove-slot.new.self uses c.self.inside.single c.in_ok-key.key x c.self.invariant.kept e.was e.changed in
    record {
      kept = subst (λ u. AreKept c.self.inside.work c.remove-slot.new.self.slots u c.self.inside.single) (sym c.release.ensures) kept;
      all = all ∙ c.self.invariant.all;
      has = omega (arith, e.changed.capacity, c.self.invariant.has);
      last = c.self.invariant.last;
    }

pub returns-clause-room : goal.returns-clause-room
returns-clause-room g c = ap (λ b. b.room) c.self.view_is

pub returns-clause-work : goal.returns-clause-work
returns-clause-work g c = ap (λ b. b.work) c.self.view_is

pub returns-clause-passes : goal.returns-clause-passes
returns-clause-passes g c = ap (λ b. b.passes) c.self.view_is
