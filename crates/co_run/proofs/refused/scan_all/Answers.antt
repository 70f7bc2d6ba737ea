-- One Scan more has been seen.
use Rattle.std.proofs.Common.{◌∙◌, arith}
use Rattle.co_run.proofs.kept.ByOwedScans.{scan_counts}
use Rattle.co_run.proofs.refused.scan_all.Goals as goal

pub loop-tick-preserved : goal.loop-tick-preserved
loop-tick-preserved g c =
    let more = scan_counts c.loop-tick.passes c.scan-scanned.new.passes c.args.cpu c.args.act _ c.scan-scanned.result c.scan-scanned.ensures.scanned in
    let before = c.loop-tick.invariant.scans in
    record {
      of = c.scan-scanned.ensures.kept.of;
      actor = c.scan-scanned.ensures.kept.actor ∙ c.loop-tick.invariant.actor;
      scans = omega (arith, before, more);
      free = λ direct x h. c.scan-scanned.ensures.kept.free direct x (c.loop-tick.invariant.free direct x h);
    }
