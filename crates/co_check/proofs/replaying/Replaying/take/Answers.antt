-- One line more is replayed and counted, or something is wrong with it.
use Rattle.std.proofs.Common.{refl, ◌∙◌, arith}
use Rattle.co_program.specs.Actors.{actor_count}
use Rattle.co_report.specs.PackedLines.{line_of}
use Rattle.co_check.proofs.Hearing.{still-fit, facts-more}
use Rattle.co_check.proofs.replaying.Replaying.take.Goals as goal

pub take-requires-clause-line : goal.take-requires-clause-line
take-requires-clause-line c = (line_of c.args.line c.args.note.now, refl, refl, c.requires.line)

pub take-requires-clause-after : goal.take-requires-clause-after
take-requires-clause-after c = let h = c.requires.after in (h.0, h.1.after, h.2)

pub count_entry-requires-clause-actor : goal.count_entry-requires-clause-actor
count_entry-requires-clause-actor c = let h = c.requires.after in omega (arith, c.requires.line.actor, h.1.counted.long)

pub returns-in_ok-push-in-Ok : goal.returns-in_ok-push-in-Ok
returns-in_ok-push-in-Ok c above h =
    let s = c.args.script.now in
    let l = line_of c.args.line c.args.note.now in
    let taken = c.in-Ok.ensures above l refl refl h.after in
    record {
      after = taken.1;
      fit = still-fit s above l h.fit taken.0;
      facts = c.in_ok-push-in-Ok.ensures.ok ∙ facts-more s above l c.args.self.now.facts c.in-Ok.fact h.facts taken.2;
      counted = c.count_entry.ensures (actor_count s) l above refl h.counted;
    }

pub returns-in-Err : goal.returns-in-Err
returns-in-Err c above h = c.in-Err.ensures above (line_of c.args.line c.args.note.now) refl refl h.after
