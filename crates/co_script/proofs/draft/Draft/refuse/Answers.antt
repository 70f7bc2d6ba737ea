-- All that comes before the want of room is in order.
use Rattle.std.proofs.Common.{◌≡◌, true, false, Err, refl, sym, subst}
use Rattle.co_program.specs.declared.Act.{Act}
use Rattle.co_grammar.specs.Checks.{act_fits, act_kind_fits, act_rises}
use Rattle.co_grammar.specs.Statements as states
use Rattle.co_text.specs.declared.Cause.TheVariants as cause
use Rattle.co_script.specs.Drafts.{Draft}
use Rattle.co_script.specs.Refusals.{draft_after, has_room_for_act}
use Rattle.co_script.proofs.draft.Draft.refuse.Goals as goal

full : (d : Draft) (a : Act) → act_fits d.funcs d.script a ≡ true → act_kind_fits d.script a ≡ true → act_rises d.clock a ≡ true → has_room_for_act d ≡ false → draft_after d d.script (states.Does a) ≡ Err cause.Many
full d a fits kind rises room = rw (fits, kind, rises, room) refl

pub returns-then-not-has_room_for_act : goal.returns-then-not-has_room_for_act
returns-then-not-has_room_for_act c =
    let here = c.self.inside in
    let held : Draft = record { script = here.script; stage = here.stage; funcs = here.funcs; acts = here.acts; clock = here.clock; count = here.count } in
    let rises : act_rises here.clock c.args.act.now ≡ true = cc in
    let fits : act_fits here.funcs here.script c.args.act.now ≡ true = cc in
    let kind : act_kind_fits here.script c.args.act.now ≡ true = cc in
    let room : has_room_for_act c.args.self.now ≡ false = cc in
    subst (λ (d : Draft). draft_after d d.script (states.Does c.args.act.now) ≡ Err cause.Many) c.self.view_is
    (full held c.args.act.now fits kind rises (subst (λ (d : Draft). has_room_for_act d ≡ false) (sym c.self.view_is) room))
