use Rattle.std.proofs.Common.{◌<◌, false, length, sym, subst}
use Rattle.co_desk.specs.declared.params.Params.{Params}
use Rattle.co_single.specs.Acts.{IsDisarmed}
use Rattle.co_single.specs.Alarms.{callout_count}
use Rattle.co_single.specs.Rest.{IsSingle}
use Rattle.co_single.specs.Seen.{AddsEntries}
use Rattle.co_single.proofs.Arming.{is_disarmed_now, rests_disarmed, disarmed_adds}
use Rattle.co_single.proofs.Told.{written_is}
use Rattle.co_single.proofs.single.Single.disarm.Goals as goal

pub invariant_of-self : goal.invariant_of-self
invariant_of-self g c =
    let n = length c.self.inside.service.specs in
    let p = c.self.inside.passes in
    let q = c.call_alone.new.passes in
    let called = c.call_alone.ensures.called in
    let written = written_is n p q _ _ c.self.invariant.single called.group_is called.written in
    let low : c.args.i < callout_count p = subst (λ v. c.args.i < callout_count v) (sym c.self.view_is) c.requires.callout in
    subst (λ (s : Params). IsSingle g.N.Name.name s q c.self.inside.ending) (sym c.call_alone.ensures.kept.params_are) record {
      of = c.call_alone.ensures.kept.keeps.of;
      single = written.1;
      free = c.call_alone.ensures.kept.keeps.free false 0 c.self.invariant.free;
      rest = rests_disarmed n p q c.self.invariant.single written.1 c.self.invariant.rest c.args.i c.args.act called.time low c.call_alone.new.told.out.reply written.0;
      nothing = c.self.invariant.nothing;
      room = c.self.invariant.room;
    }

pub returns-clause-disarmed : goal.returns-clause-disarmed
returns-clause-disarmed g c =
    let n = length c.self.inside.service.specs in
    let p = c.self.inside.passes in
    let q = c.call_alone.new.passes in
    let called = c.call_alone.ensures.called in
    let written = written_is n p q _ _ c.self.invariant.single called.group_is called.written in
    let low : c.args.i < callout_count p = subst (λ v. c.args.i < callout_count v) (sym c.self.view_is) c.requires.callout in
    subst (λ v. IsDisarmed v c.args.i q) c.self.view_is
    (is_disarmed_now n p q c.self.invariant.single written.1 c.self.invariant.rest c.args.i c.args.act called.time low c.call_alone.new.told.out.reply written.0)

pub returns-clause-entries : goal.returns-clause-entries
returns-clause-entries g c =
    let n = length c.self.inside.service.specs in
    let p = c.self.inside.passes in
    let q = c.call_alone.new.passes in
    let called = c.call_alone.ensures.called in
    let written = written_is n p q _ _ c.self.invariant.single called.group_is called.written in
    let low : c.args.i < callout_count p = subst (λ v. c.args.i < callout_count v) (sym c.self.view_is) c.requires.callout in
    subst (λ v. AddsEntries v c.args.act q) c.self.view_is
    (disarmed_adds n p q c.self.invariant.single written.1 c.self.invariant.rest c.args.i c.args.act called.time low c.call_alone.new.told.out.reply written.0)
