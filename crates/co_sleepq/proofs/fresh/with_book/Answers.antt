use Rattle.std.proofs.Common.{ℕ, ap, sym, subst}
use Rattle.co_service.specs.Booted.{AreBooted}
use Rattle.co_sleepq.specs.Fresh.{AreFreshPasses}
use Rattle.co_sleepq.specs.Params.{actors}
use Rattle.co_sleepq.proofs.FirstPasses.{first-fresh}
use Rattle.co_sleepq.proofs.fresh.with_book.Goals as goal

pub invariant_of-fresh : goal.invariant_of-fresh
invariant_of-fresh c = first-fresh c.args.sleepers c.args.clients c.in_ok-service.service.params c.in_ok-life.life c.in_ok-life.keeper c.args.book c.requires.sleepers.0 c.requires.sleepers.1 c.requires.clients c.in_ok-service.ensures.params c.in_ok-life.ensures.keeper c.requires.book

pub pair-all-requires-clause-passes : goal.pair-all-requires-clause-passes
pair-all-requires-clause-passes c = subst (AreBooted c.in_ok-service.service.name c.in_ok-service.service.params) (sym c.into_vec.ensures) c.in_ok-service.ensures.passes

pub returns-clause-passes : goal.returns-clause-passes
returns-clause-passes c = subst (λ (n : ℕ). AreFreshPasses (record { service = c.in_ok-service.service.name; book = c.in_ok-life.life }) c.in_ok-service.service.params n c.pair-all.result) (ap actors c.in_ok-service.ensures.params) c.pair-all.ensures
