use Rattle.std.proofs.lemmas.Result.{IfOk-weaker}
use Rattle.co_desk.specs.Stories.{IsJournal}
use Rattle.co_service.proofs.SetUp.{no_journal, cpu_opener, set_up, story_opened}
use Rattle.co_service.proofs.fresh.make_cpus.Goals as goal

pub make_places-requires-clause-may : goal.make_places-requires-clause-may
make_places-requires-clause-may c = λ i. record { legal = λ h n is. story_opened IsJournal c.args.params.now i n h (no_journal c.args.params.now i) is; by = cpu_opener }

pub returns : goal.returns
returns c =
    let p = c.args.params.now in
    IfOk-weaker c.make_places.result _ _ (λ made is. set_up IsJournal p _ c.args.actors made.lives made.keepers.items made.seats.items (no_journal p) c.requires.actors.0 c.requires.actors.1 is) c.make_places.ensures
