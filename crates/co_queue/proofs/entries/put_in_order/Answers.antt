-- An entry that is fewer buckets on comes out before.
use Rattle.std.proofs.Common.{rules}
use Rattle.co_queue.proofs.Loops.{put_before-more}
use Rattle.co_queue.proofs.entries.put_in_order.Goals as goal

pub loop-at-preserved : goal.loop-at-preserved
loop-at-preserved c =
    record {
      within = search rules;
      before = put_before-more c.args.buckets c.args.last c.args.entry c.args.due.now.items c.loop-at.at c.index.result.now c.loop-at.invariant.before (search rules) (search rules) (search rules);
    }
