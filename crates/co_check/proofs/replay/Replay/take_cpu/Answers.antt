-- The queue takes the entry, or refuses it.
use Rattle.std.proofs.Common.{◌<◌, ◌+◌, set, length, refl, ap, sym, arith}
use Rattle.std.proofs.lemmas.Option.{slice_get_read, get_or_from_slice_get}
use Rattle.co_check.specs.Replay.{queue_after}
use Rattle.co_check.proofs.Taken.{refused-queue, taken-queue, room}
use Rattle.co_check.proofs.replay.Replay.take_cpu.Goals as goal

pub overflow_add-scans : goal.overflow_add-scans
overflow_add-scans c =
    let below : c.args.cpu < length c.args.self.now.scans.items = omega (arith, c.requires.after.1.counts) in
    let count = get_or_from_slice_get c.args.self.now.scans.items c.args.cpu c.index-scans.result.now 0 (slice_get_read c.args.self.now.scans.items (length c.args.self.now.scans.items) c.args.cpu c.index-scans.result.now refl below c.index-scans.ensures) in
    omega (arith, c.one_scan.ensures, room c.args.script.now c.requires.after.0 c.args.self.now c.args.cpu c.index-scans.result.now c.args.entry.now.op c.requires.after.1 c.requires.after.2 c.requires.cpu (sym count))

pub new-requires : goal.new-requires
new-requires c =
    let below : c.args.cpu < length c.args.self.now.scans.items = omega (arith, c.requires.after.1.counts) in
    let count = get_or_from_slice_get c.args.self.now.scans.items c.args.cpu c.index-scans.result.now 0 (slice_get_read c.args.self.now.scans.items (length c.args.self.now.scans.items) c.args.cpu c.index-scans.result.now refl below c.index-scans.ensures) in
    omega (arith, room c.args.script.now c.requires.after.0 c.args.self.now c.args.cpu c.index-scans.result.now c.args.entry.now.op c.requires.after.1 c.requires.after.2 c.requires.cpu (sym count))

pub returns-in-Ok : goal.returns-in-Ok
returns-in-Ok c above l p q h =
    let below : c.args.cpu < length c.args.self.now.cpus.items = omega (arith, h.cpus, c.requires.cpu) in
    let at = slice_get_read c.args.self.now.cpus.items (length c.args.self.now.cpus.items) c.args.cpu c.index_mut-queue.result.now refl below c.index_mut-queue.ensures.value in
    let counted : c.args.cpu < length c.args.self.now.scans.items = omega (arith, h.counts, c.requires.cpu) in
    let count = get_or_from_slice_get c.args.self.now.scans.items c.args.cpu c.index-scans.result.now 0 (slice_get_read c.args.self.now.scans.items (length c.args.self.now.scans.items) c.args.cpu c.index-scans.result.now refl counted c.index-scans.ensures) in
    taken-queue c.args.script.now above l c.args.cpu c.args.entry.now c.args.self.now c.index_mut-queue.result.now c.take_queue.new.queue c.index-scans.result.now p q h c.requires.cpu at
    c.in-Ok.ensures.size c.in-Ok.ensures.buckets c.in-Ok.ensures.direct
    (c.in-Ok.ensures.taken (queue_after c.args.script.now above c.args.cpu) (h.cpu c.args.cpu c.index_mut-queue.result.now at).queue)
    (sym count) c.new.result c.new.ensures _ refl refl (ap (λ n. set c.args.self.now.scans.items c.args.cpu (c.index-scans.result.now + n)) c.one_scan.ensures)

pub returns-in-Err : goal.returns-in-Err
returns-in-Err c above l p q h =
    let below : c.args.cpu < length c.args.self.now.cpus.items = omega (arith, h.cpus, c.requires.cpu) in
    let at = slice_get_read c.args.self.now.cpus.items (length c.args.self.now.cpus.items) c.args.cpu c.index_mut-queue.result.now refl below c.index_mut-queue.ensures.value in
    refused-queue c.args.script.now above l c.args.cpu c.args.entry.now c.args.self.now c.index_mut-queue.result.now c.take_queue.new.queue c.in-Err.cause p q h at (c.in-Err.ensures.taken (queue_after c.args.script.now above c.args.cpu) (h.cpu c.args.cpu c.index_mut-queue.result.now at).queue)
