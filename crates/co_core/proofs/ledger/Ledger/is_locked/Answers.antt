-- The table has the holders of the lock, and says whether one of them excludes the hold.
use Rattle.std.proofs.Common.{rules, ◌≡◌, ◌<◌, length, get_or, ap, ◌∙◌}
use Rattle.std.specs.List.{list_any}
use Rattle.co_program.specs.declared.cursor.Cursor.{Cursor as CursorAt}
use Rattle.co_world.specs.Blocked.{is_excluded_by}
use Rattle.co_core.specs.Holders.{no_holders}
use Rattle.co_core.specs.Written.{Booked}
use Rattle.co_core.proofs.written.LockHolders.{locked}
use Rattle.co_core.proofs.ledger.Ledger.is_locked.Goals as goal

pub returns-in-Some : goal.returns-in-Some
returns-in-Some c =
    let below : c.args.held.now.id < length c.self.inside.holders.items = search rules in
    let is : c.in-Some.holders.now ≡ get_or c.self.inside.holders.items c.args.held.now.id no_holders = search rules in
    c.exclude.ensures ∙ (locked c.self.inside.holders.items c.self.inside.cursors.items c.args.held.now c.in-Some.holders.now c.self.invariant below is
    ∙ ap (λ (x : Booked). list_any (λ (p : CursorAt). is_excluded_by c.args.held.now p.hold) x.cursors) c.self.view_is)
