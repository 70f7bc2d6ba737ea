use Rattle.co_core.proofs.ledger.Ledger.write_landing.Goals as goal

pub returns-clause-made : goal.returns-clause-made
returns-clause-made g c = c.write_queue.ensures.made
