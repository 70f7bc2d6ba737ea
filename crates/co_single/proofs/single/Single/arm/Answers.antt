use Rattle.std.proofs.Common.{◌<◌, ◌^◌, false, length, sym, subst}
use Rattle.co_desk.specs.declared.params.Params.{Params}
use Rattle.co_single.specs.Acts.{IsArmed}
use Rattle.co_single.specs.Alarms.{callout_count, made_at}
use Rattle.co_single.specs.Rest.{IsSingle}
use Rattle.co_single.specs.Seen.{AddsEntries}
use Rattle.co_single.proofs.Arming.{is_armed_now, rests_armed, armed_adds}
use Rattle.co_single.proofs.Told.{written_is}
use Rattle.co_single.proofs.single.Single.arm.Goals as goal

pub invariant_of-self : goal.invariant_of-self
invariant_of-self g c =
    let n = length c.self.inside.service.specs in
    let p = c.self.inside.passes in
    let q = c.call_alone.new.passes in
    let called = c.call_alone.ensures.called in
    let written = written_is n p q _ _ c.self.invariant.single called.group_is called.written in
    let low : c.args.i < callout_count p = subst (λ v. c.args.i < callout_count v) (sym c.self.view_is) c.requires.callout in
    let fresh : made_at p c.args.i < 2 ^ 62 = subst (λ v. made_at v c.args.i < 2 ^ 62) (sym c.self.view_is) c.requires.made in
    subst (λ (s : Params). IsSingle g.N.Name.name s q c.self.inside.ending) (sym c.call_alone.ensures.kept.params_are) record {
      of = c.call_alone.ensures.kept.keeps.of;
      single = written.1;
      free = c.call_alone.ensures.kept.keeps.free false 0 c.self.invariant.free;
      rest = rests_armed n p q c.self.invariant.single written.1 c.self.invariant.rest c.args.i c.args.act called.time low c.args.due _ c.args.arg fresh c.call_alone.new.told.out.reply written.0;
      nothing = c.self.invariant.nothing;
      room = c.self.invariant.room;
    }

pub returns-clause-armed : goal.returns-clause-armed
returns-clause-armed g c =
    let n = length c.self.inside.service.specs in
    let p = c.self.inside.passes in
    let q = c.call_alone.new.passes in
    let called = c.call_alone.ensures.called in
    let written = written_is n p q _ _ c.self.invariant.single called.group_is called.written in
    let low : c.args.i < callout_count p = subst (λ v. c.args.i < callout_count v) (sym c.self.view_is) c.requires.callout in
    let fresh : made_at p c.args.i < 2 ^ 62 = subst (λ v. made_at v c.args.i < 2 ^ 62) (sym c.self.view_is) c.requires.made in
    subst (λ v. IsArmed v c.args.i c.args.due c.args.arg q) c.self.view_is
    (is_armed_now n p q c.self.invariant.single written.1 c.self.invariant.rest c.args.i c.args.act called.time low c.args.due _ c.args.arg fresh c.call_alone.new.told.out.reply written.0)

pub returns-clause-entries : goal.returns-clause-entries
returns-clause-entries g c =
    let n = length c.self.inside.service.specs in
    let p = c.self.inside.passes in
    let q = c.call_alone.new.passes in
    let called = c.call_alone.ensures.called in
    let written = written_is n p q _ _ c.self.invariant.single called.group_is called.written in
    let low : c.args.i < callout_count p = subst (λ v. c.args.i < callout_count v) (sym c.self.view_is) c.requires.callout in
    let fresh : made_at p c.args.i < 2 ^ 62 = subst (λ v. made_at v c.args.i < 2 ^ 62) (sym c.self.view_is) c.requires.made in
    subst (λ v. AddsEntries v c.args.act q) c.self.view_is
    (armed_adds n p q c.self.invariant.single written.1 c.self.invariant.rest c.args.i c.args.act called.time low c.args.due _ c.args.arg fresh c.call_alone.new.told.out.reply written.0)
