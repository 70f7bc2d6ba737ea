-- The ledger has how many Scans a CPU's journal has.
use Rattle.std.proofs.Common.{sym, ◌∙◌, refl, arith, lt-ltb, le-ltb}
use Rattle.co_program.specs.Follows.{scan_count}
use Rattle.co_core.proofs.steps.Waits.{scans-is}
use Rattle.co_world.specs.World.{lists_of}
use Rattle.co_core.specs.Written.{with_lists}
use Rattle.co_core.proofs.engine.Engine.tick_waits.Goals as goal

pub returns-then-scans-from : goal.returns-then-scans-from
returns-then-scans-from c = λ s w h below.
    (let count = sym (scans-is s (with_lists c.args.self.now.ledger (lists_of s w)) w h c.args.cpu below) ∙ sym c.scans.ensures in
    let less = c.if-scans-from.true in
    let first = c.from.ensures in
    rw (lt-ltb (scan_count (w.cpus c.args.cpu).journal) c.args.first (omega (arith, count, less, first))) refl)

pub returns-else-scans-from : goal.returns-else-scans-from
returns-else-scans-from c = λ s w h below.
    (let count = sym (scans-is s (with_lists c.args.self.now.ledger (lists_of s w)) w h c.args.cpu below) ∙ sym c.scans.ensures in
    let most = c.if-scans-from.false in
    let first = c.from.ensures in
    rw (le-ltb (scan_count (w.cpus c.args.cpu).journal) c.args.first (omega (arith, count, most, first))) refl)
