use Rattle.std.proofs.Common.{◌≡◌, ◌∙◌, ap, sym, subst, refl, arith, Option, length, set}
use Rattle.std.specs.Option.{IfNone}
use Rattle.co_kq.specs.declared.kevent.Event.{Event}
use Rattle.co_kq.specs.Slots.{HasNoEvent}
use Rattle.co_kq.proofs.Telling.{is_quiet}
use Rattle.std.proofs.lemmas.List.{length-set}
use Rattle.co_kq.specs.Numbers.{AreKept, left_use}
use Rattle.co_kq.proofs.Putting.{is_below, gone_kept, told_kept}
use Rattle.co_kq.proofs.kq.Kq.tell.Goals as goal

pub returns-in_err-key-clause-none : goal.returns-in_err-key-clause-none
returns-in_err-key-clause-none g c =
    subst (λ (r : Option Event). IfNone r ((c.args.self.now.list ≡ c.args.self.now.list) × HasNoEvent c.args.self.now.list.knotes)) (sym c.from_residual.ensures)
    (refl, subst (λ b. HasNoEvent b.list.knotes) c.self.view_is (is_quiet c.self.inside.knotes.slots c.in_err-key.ensures.none))

pub release-requires : goal.release-requires
release-requires g c =
    is_below c.self.inside.uses c.tell_once-slot.result.timer c.in_ok-key.key (c.self.invariant.kept.numbered.held c.in_ok-key.key c.tell_once-slot.result c.tell_once-slot.ensures.was)

pub invariant_of-self : goal.invariant_of-self
invariant_of-self g c =
    let e = c.tell_once-slot.ensures in
    let x = c.tell_once-slot.result in
    let uses = c.self.inside.uses in
    let all : length c.release.new.self ≡ length uses = ap length c.release.ensures ∙ length-set uses x.timer (left_use x) in
    let kept : AreKept c.self.inside.work c.tell_once-slot.new.self.slots (set uses x.timer (left_use x)) c.self.inside.single =
    gone_kept c.self.inside.work c.self.inside.knotes c.tell_once-slot.new.self uses c.self.inside.single c.in_ok-key.key x c.self.invariant.kept e.was e.changed in
    record {
      kept = subst (λ u. AreKept c.self.inside.work c.tell_once-slot.new.self.slots u c.self.inside.single) (sym c.release.ensures) kept;
      all = all ∙ c.self.invariant.all;
      has = omega (arith, e.changed.capacity, c.self.invariant.has);
      last = c.self.invariant.last;
    }

pub invariant_of-self-2 : goal.invariant_of-self-2
invariant_of-self-2 g c =
    let e = c.tell_again.ensures in
    let first = c.in_ok-key.ensures.first in
    record {
      kept = told_kept c.self.inside.work c.self.inside.knotes c.tell_again.new.self c.self.inside.uses c.self.inside.single c.in_ok-key.key first.slot c.self.invariant.kept first.there e.changed;
      all = c.self.invariant.all;
      has = omega (arith, e.changed.capacity, c.self.invariant.has);
      last = c.self.invariant.last;
    }

pub tell_once-slot-requires-clause-distinct : goal.tell_once-slot-requires-clause-distinct
tell_once-slot-requires-clause-distinct g c = c.self.invariant.kept.distinct

pub tell_again-requires-clause-distinct : goal.tell_again-requires-clause-distinct
tell_again-requires-clause-distinct g c = c.self.invariant.kept.distinct

pub returns-then-is_once-clause-room : goal.returns-then-is_once-clause-room
returns-then-is_once-clause-room g c = ap (λ b. b.room) c.self.view_is

pub returns-then-is_once-clause-work : goal.returns-then-is_once-clause-work
returns-then-is_once-clause-work g c = ap (λ b. b.work) c.self.view_is

pub returns-then-is_once-clause-passes : goal.returns-then-is_once-clause-passes
returns-then-is_once-clause-passes g c = ap (λ b. b.passes) c.self.view_is

pub returns-then-is_once-clause-clock : goal.returns-then-is_once-clause-clock
returns-then-is_once-clause-clock g c = ap (λ b. b.list.clock) c.self.view_is

pub returns-clause-room : goal.returns-clause-room
returns-clause-room g c = ap (λ b. b.room) c.self.view_is

pub returns-clause-work : goal.returns-clause-work
returns-clause-work g c = ap (λ b. b.work) c.self.view_is

pub returns-clause-passes : goal.returns-clause-passes
returns-clause-passes g c = ap (λ b. b.passes) c.self.view_is

pub returns-clause-clock : goal.returns-clause-clock
returns-clause-clock g c = ap (λ b. b.list.clock) c.self.view_is
