-- The actors rely on what the run relies on.
use Rattle.std.proofs.Common.{◌∙◌}
use Rattle.co_run.proofs.runs.play_books.Goals as goal

pub invariant_of-shared : goal.invariant_of-shared
invariant_of-shared g c = record {
  valid = c.requires.may.script;
  lockable = c.requires.may.locks;
  kinds = c.in_ok-locks.ensures ∙ c.as_slice.ensures;
  params = c.requires.may.params;
  named = c.requires.may.named;
  short = c.longest_of.ensures.short;
  few = c.longest_of.ensures.few;
}

pub returns-clause-over : goal.returns-clause-over
returns-clause-over g c = c.add_crew.ensures.over

pub add_crew-requires-clause-crew : goal.add_crew-requires-clause-crew
add_crew-requires-clause-crew g c = c.in_ok-crew-2.ensures
