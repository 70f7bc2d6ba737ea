-- An arm leaves the actor as it was, or as its call does.
use Rattle.std.proofs.Common.{refl, rules}
use Rattle.std.proofs.lemmas.Bool.{false≢true}
use Rattle.co_run.proofs.actor.Actor.step.Goals as goal

pub returns-in-Nothing : goal.returns-in-Nothing
returns-in-Nothing g c = record { tried = record { gone_on = record { ready = c.requires.ready; number = refl }; rests = tt }; over = search rules }

pub returns-in-Silent : goal.returns-in-Silent
returns-in-Silent g c = record { tried = record { gone_on = record { ready = c.pass.ensures.ready; number = c.pass.ensures.number }; rests = tt }; over = λ e. absurd (false≢true e) }

pub returns-in-Take : goal.returns-in-Take
returns-in-Take g c = record { tried = record { gone_on = record { ready = c.take.ensures.ready; number = c.take.ensures.number }; rests = tt }; over = λ e. absurd (false≢true e) }

pub returns-in-Ok : goal.returns-in-Ok
returns-in-Ok g c = record { tried = record { gone_on = c.ask.ensures.gone_on; rests = tt }; over = λ e. absurd (false≢true e) }

pub returns-in-Err : goal.returns-in-Err
returns-in-Err g c = record { tried = record { gone_on = c.ask.ensures.gone_on; rests = c.in-Err.ensures.rests }; over = tt }
