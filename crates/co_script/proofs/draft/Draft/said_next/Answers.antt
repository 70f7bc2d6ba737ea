use Rattle.std.proofs.Common.{◌≡◌, true, sym, subst}
use Rattle.co_grammar.specs.Keywords.{may_act}
use Rattle.co_script.specs.Beside.{SaysNext}
use Rattle.co_script.specs.Drafts.{Draft}
use Rattle.co_script.specs.Refusals.{AddsAct}
use Rattle.co_script.proofs.Nexts.{says-next}
use Rattle.co_script.proofs.draft.Draft.said_next.Goals as goal

pub returns-in-Ok : goal.returns-in-Ok
returns-in-Ok c =
    let here = c.self.inside in
    let held : Draft = record { script = here.script; stage = here.stage; funcs = here.funcs; acts = here.acts; clock = here.clock; count = here.count } in
    let may : may_act here.stage c.in_ok-verb.verb ≡ true = cc in
    let adds : AddsAct held c.act_ahead.new.into = subst (λ (d : Draft). AddsAct d c.act_ahead.new.into) (sym c.self.view_is) c.in-Ok.ensures in
    subst (λ (d : Draft). SaysNext d c.args.text.now c.act_ahead.new.into c.in_ok-verb.after.now) c.self.view_is
    (says-next held c.args.text.now c.in_ok-verb.after.now c.in_ok-verb.verb c.act_ahead.new.into c.in_ok-verb.ensures may adds)
