use Rattle.co_view.proofs.Stories.{effect_is}
use Rattle.co_view.proofs.trace.print_effect.Goals as goal

pub returns-in-Timer-entry : goal.returns-in-Timer-entry
returns-in-Timer-entry c = effect_is c.print_callout.result c.args.page.now c.print_callout.new.page c.args.step c.args.scene.now c.args.place c.args.entry.now c.in-Timer.i c.in-Timer-entry.entry c.watch_of.result c.watch_of.ensures c.in-Timer.is c.in-Timer-entry.is c.print_callout.ensures
