use Rattle.std.proofs.Common.{ap, subst, sym, ◌∙◌}
use Rattle.std.specs.Prelude.{length, ◌<◌, ◌≡◌, true}
use Rattle.co_lock.specs.Covers.{covers}
use Rattle.co_object.specs.declared.reply.Reply.{Reply}
use Rattle.co_desk.specs.Call.{NamesCpu, told_notes}
use Rattle.co_desk.specs.Params.{spec_at}
use Rattle.co_desk.specs.Views.{AreOf}
use Rattle.std.specs.Option.{option_copied}
use Rattle.co_timers.specs.Acts.{IsCallMade}
use Rattle.co_timers.proofs.Asked.{cleared, handle_of, made_of}
use Rattle.co_timers.proofs.timers.Timers.make.Goals as goal

pub call_into-requires-clause-callout : goal.call_into-requires-clause-callout
call_into-requires-clause-callout g c =
    let same = c.self.invariant.same ∙ ap (λ v. v.params) c.self.view_is in
    subst (λ r. c.args.i < length r.specs) (sym same) (cleared c.args.self.now.params (option_copied c.args.hold) c.args.i c.args.op.now c.requires.cleared).callout

pub call_into-requires-clause-cpu : goal.call_into-requires-clause-cpu
call_into-requires-clause-cpu g c =
    let same = c.self.invariant.same ∙ ap (λ v. v.params) c.self.view_is in
    subst (λ r. NamesCpu r.cpus c.args.op.now) (sym same) (cleared c.args.self.now.params (option_copied c.args.hold) c.args.i c.args.op.now c.requires.cleared).cpu

pub call_into-requires-clause-covered : goal.call_into-requires-clause-covered
call_into-requires-clause-covered g c =
    let same = c.self.invariant.same ∙ ap (λ v. v.params) c.self.view_is in
    subst (λ r. covers (option_copied c.args.hold) (spec_at r c.args.i) c.args.op.now ≡ true) (sym same) (cleared c.args.self.now.params (option_copied c.args.hold) c.args.i c.args.op.now c.requires.cleared).covered

pub returns-clause-handle : goal.returns-clause-handle
returns-clause-handle g c =
    let out = c.call_into in
    let p = c.args.passes.now in
    let q = out.new.passes in
    let same = c.self.invariant.same ∙ ap (λ v. v.params) c.self.view_is in
    handle_of g.N.Name.name c.args.self.now.params p q c.args.act c.args.i c.args.op.now out.new.told.out.reply (told_notes p.actor c.args.act c.args.i c.args.op.now out.new.told) c.requires.handle
    (subst (λ r. AreOf g.N.Name.name r q) same out.ensures.kept.of) out.ensures.called

pub returns-clause-made : goal.returns-clause-made
returns-clause-made g c =
    let out = c.call_into in
    let p = c.args.passes.now in
    subst (λ (r : Reply). IsCallMade p c.args.act c.args.i c.args.op.now r out.new.passes) (sym c.reply.ensures)
    (made_of p out.new.passes c.args.act c.args.i c.args.op.now out.new.told.out.reply (told_notes p.actor c.args.act c.args.i c.args.op.now out.new.told) out.ensures.called)
