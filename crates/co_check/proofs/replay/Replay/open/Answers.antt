-- Each callout and each queue is as it is made.
use Rattle.std.proofs.Common.{map, ap, ◌∙◌}
use Rattle.co_check.specs.Replayed.{opened}
use Rattle.co_check.proofs.Opening.{opened-after}
use Rattle.co_check.proofs.replay.Replay.open.Goals as goal

pub returns : goal.returns
returns c = opened-after c.args.script.now _ (c.in_ok-callouts.ensures ∙ ap (map opened) c.as_slice.ensures) c.in_ok-cpus.ensures (c.into_vec-scans.ensures ∙ c.in_ok-filled.ensures)
