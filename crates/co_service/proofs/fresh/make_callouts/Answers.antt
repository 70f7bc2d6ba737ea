use Rattle.std.proofs.Common.{length, ap, subst}
use Rattle.std.proofs.lemmas.Result.{IfOk-weaker}
use Rattle.co_service.specs.Booted.{AreSetUp}
use Rattle.co_desk.specs.Stories.{IsHistory}
use Rattle.co_service.proofs.SetUp.{no_history, timer_opener, set_up, story_opened}
use Rattle.co_service.proofs.fresh.make_callouts.Goals as goal

pub make_places-requires-clause-may : goal.make_places-requires-clause-may
make_places-requires-clause-may c = λ i. record { legal = λ h n is. story_opened IsHistory c.args.params.now i n h (no_history c.args.params.now i) is; by = timer_opener }

pub returns : goal.returns
returns c =
    let p = c.args.params.now in
    IfOk-weaker c.make_places.result _ _
    (λ made is. subst (λ n. AreSetUp IsHistory p n made.lives made.keepers.items made.seats.items) (ap length c.as_slice.ensures)
    (set_up IsHistory p _ c.args.actors made.lives made.keepers.items made.seats.items (no_history p) c.requires.actors.0 c.requires.actors.1 is)) c.make_places.ensures
