use Rattle.std.proofs.Common.{◌<◌, length, ap, ◌∙◌, subst}
use Rattle.std.specs.Prelude.{slice_get}
use Rattle.co_desk.specs.Meeting.{IsMet}
use Rattle.co_desk.specs.Kinds.{timer_kind}
use Rattle.co_desk.specs.Stories.{by}
use Rattle.co_desk.specs.Views.{passes_of}
use Rattle.co_desk.proofs.BooksKept.{seat_opened, seat_shown}
use Rattle.co_desk.proofs.Entries.{all_made}
use Rattle.co_desk.proofs.Writing.{below_get}
use Rattle.co_desk.proofs.kinds.TimerStoryKindEntry.meet_at.Goals as goal

pub returns : goal.returns
returns c =
    let p = c.passes.inside in
    let h = c.args.keeper.now.history in
    let o = c.passes.invariant.timers_opened in
    let below : c.args.i < length p.timers.name = below_get p.timers.name c.args.i c.args.life.now (ap (λ v. slice_get v.name.timers c.args.i) c.passes.view_is ∙ c.requires.place.at) in
    record {
      keeper = c.meet.ensures.keeper;
      same = (λ d. passes_of p.actor p.params.value (c.meet.ensures.same d) p.cpus) ∙ c.passes.view_is;
      met = subst (IsMet timer_kind c.args.i c.args.keeper.now) c.passes.view_is record {
        shown = seat_shown by p.params.value p.actor (length p.params.value.specs) c.args.i p.timers o h c.meet.ensures.shown;
        opened = seat_opened by p.params.value p.actor (length p.params.value.specs) c.args.i p.timers o h c.meet.ensures.shown c.requires.opened.0 below c.requires.opened.1;
        actors = all_made by c.args.keeper.now.actors h c.meet.ensures.actors;
      };
    }
