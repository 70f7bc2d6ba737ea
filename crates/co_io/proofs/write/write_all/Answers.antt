-- One more write moves the seam between what is written and the rest. A write that takes nothing is no success.
use Rattle.std.proofs.Common.{◌++◌, arith, take}
use Rattle.std.proofs.KnownBytes.{Appends-trans}
use Rattle.co_io.proofs.Turns.{filled_more, moves_seam}
use Rattle.co_io.proofs.write.write_all.Goals as goal

pub loop-rest-preserved : goal.loop-rest-preserved
loop-rest-preserved g c =
    let i = c.loop-rest.invariant in
    let rest = c.loop-rest.rest.now in
    let taken = c.in-Ok.ensures in
    let n = c.in-Ok.count in record {
      done = i.done ++ take n rest;
      split = moves_seam _ i.done rest n i.split;
      appended = Appends-trans _ _ _ _ _ i.appended taken.bytes;
      filled = filled_more _ _ _ i.done rest n taken.bound i.filled taken.room;
      faults = omega (arith, taken.faults);
      idle = omega (arith, taken.idle);
    }

pub returns-in-Ok-eq0-clause-ok : goal.returns-in-Ok-eq0-clause-ok
returns-in-Ok-eq0-clause-ok g c = tt

pub returns-in-Ok-eq0-clause-room : goal.returns-in-Ok-eq0-clause-room
returns-in-Ok-eq0-clause-room g c = tt
