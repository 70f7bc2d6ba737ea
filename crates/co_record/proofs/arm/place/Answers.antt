-- An arming is deferred exactly where the slot has the callout.
use Rattle.std.proofs.Common.{rules}
use Rattle.co_record.proofs.arm.place.Goals as goal

pub defer-requires-clause-held : goal.defer-requires-clause-held
defer-requires-clause-held c = search rules

pub stand-requires-clause-here : goal.stand-requires-clause-here
stand-requires-clause-here c = search rules
