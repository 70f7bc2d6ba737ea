use Rattle.std.proofs.Common.{rules, ◌≡◌, [], true, false, refl, arith}
use Rattle.co_core.proofs.written.Notes.{none_written}
use Rattle.co_core.proofs.ledger.Ledger.write_removal.Goals as goal

pub returns-then-not-removed-clause-made : goal.returns-then-not-removed-clause-made
returns-then-not-removed-clause-made g c = record {
  notes = [];
  count = refl;
  few = omega arith;
  stays = λ none. (refl, refl);
  written = λ queue is. absurd (let clash : true ≡ false = search (rules, is) in cc);
  wrote = none_written g.N.Listener.has g.N.Listener.room c.args.author.actor c.args.self.now c.args.listener.now;
}

pub returns-clause-made : goal.returns-clause-made
returns-clause-made g c =
    let one = c.in_ok-write_queue.ensures.made in record {
      notes = one.notes;
      count = one.one;
      few = omega arith;
      stays = λ none. absurd (let clash : true ≡ false = search (rules, none) in cc);
      written = λ queue is. one.written queue;
      wrote = one.wrote;
    }
