-- The table of holders follows the actor to its new place.
use Rattle.std.proofs.Common.{rules, arith, ◌≡◌, ◌<◌, ◌^◌, List, sym, subst, ap, ◌∙◌, length, get_or, set}
use Rattle.std.proofs.lemmas.List.{get_or_read}
use Rattle.co_program.specs.declared.cursor.Cursor.{Cursor as CursorAt}
use Rattle.co_core.specs.declared.ledger.holders.Holders.{Holders}
use Rattle.co_core.specs.Holders.{AreHolders, HaveRoom, released, hold_taken}
use Rattle.co_core.specs.Written.{Booked, first_cursor}
use Rattle.co_core.proofs.written.LockHolders.{moved, few-left}
use Rattle.co_core.proofs.ledger.Ledger.go.Goals as goal

pub rehold-requires : goal.rehold-requires
rehold-requires c =
    let within : c.args.actor < length c.self.inside.cursors.items = subst (λ (x : Booked). c.args.actor < length x.cursors) (sym c.self.view_is) c.requires.actor in
    let read : c.index_mut-cursor.result.now ≡ get_or c.self.inside.cursors.items c.args.actor first_cursor = get_or_read c.self.inside.cursors.items c.args.actor c.index_mut-cursor.result.now within c.index_mut-cursor.ensures.value first_cursor in
    let long : length c.self.inside.cursors.items < 2 ^ 64 = search rules in
    subst (λ (p : CursorAt). HaveRoom (released p.hold c.self.inside.holders.items)) (sym read) (λ k below.
    (let few = few-left c.self.inside.holders.items c.self.inside.cursors.items c.args.actor c.self.invariant within k below in
    let shared = few.0 in
    let exclusive = few.1 in
    record { shared = omega (arith, shared, long); exclusive = omega (arith, exclusive, long) }))

pub invariant_of-self : goal.invariant_of-self
invariant_of-self c =
    let within : c.args.actor < length c.self.inside.cursors.items = subst (λ (x : Booked). c.args.actor < length x.cursors) (sym c.self.view_is) c.requires.actor in
    let read : c.index_mut-cursor.result.now ≡ get_or c.self.inside.cursors.items c.args.actor first_cursor = get_or_read c.self.inside.cursors.items c.args.actor c.index_mut-cursor.result.now within c.index_mut-cursor.ensures.value first_cursor in
    let all : c.rehold.new.holders.items ≡ hold_taken c.go.new.cursor.hold (released (get_or c.self.inside.cursors.items c.args.actor first_cursor).hold c.self.inside.holders.items) =
    c.rehold.ensures ∙ ap (λ (p : CursorAt). hold_taken c.go.new.cursor.hold (released p.hold c.self.inside.holders.items)) read in
    subst (λ (t : List Holders). AreHolders t (set c.self.inside.cursors.items c.args.actor c.go.new.cursor)) (sym all) (moved c.self.inside.holders.items c.self.inside.cursors.items c.args.actor c.go.new.cursor c.self.invariant within)
