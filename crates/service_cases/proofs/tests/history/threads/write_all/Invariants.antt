-- The pass has seen the entries so far.
use Rattle.std.proofs.Common.{◌≡◌}
use Rattle.service_cases.specs.Histories.{said_by, numbered}
use Rattle.co_life.specs.Seen.{own}
use Rattle.service_cases.proofs.tests.history.threads.write_all.Given as goal

abbrev pub invariant-loop-value : goal.invariant-loop-value
invariant-loop-value g l = (l.pass.life ≡ l.life) × (l.pass.actor ≡ l.actor) × (own said_by l.actor l.pass.seen ≡ numbered l.actor l.value)
