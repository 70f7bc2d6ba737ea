use Rattle.std.proofs.Common.{◌≡◌, ◌+◌, ◌<◌, sym, subst, ap, ◌∙◌, length, set}
use Rattle.std.proofs.lemmas.List.{get_or_read}
use Rattle.co_core.specs.contracts.ledger.Ledger.{the_view}
use Rattle.co_core.specs.Written.{Booked, first_cursor, booked_at}
use Rattle.co_program.specs.Indexed.{ActsAreCounted, cursor_of}
use Rattle.co_program.specs.declared.cursor.Cursor.{Cursor as CursorAt}
use Rattle.co_program.specs.Advance.{advance}
use Rattle.co_core.proofs.written.LockHolders.{stayed}
use Rattle.co_core.proofs.ledger.Ledger.write.Goals as goal

pub returns-clause-booked : goal.returns-clause-booked
returns-clause-booked g c =
    let x : Booked = the_view c.self.inside in
    let a = c.args.actor in
    let there : a < length x.cursors = subst (λ (y : Booked). a < length y.cursors) (sym c.self.view_is) c.requires.may.cursor in
    let from : c.index_mut-cursor.result.now ≡ booked_at c.args.self.now a =
    get_or_read c.self.inside.cursors.items a c.index_mut-cursor.result.now there c.index_mut-cursor.ensures.value first_cursor ∙ ap (λ (y : Booked). booked_at y a) c.self.view_is in
    record {
      to = c.advance.new.cursor;
      place = subst (λ (p : CursorAt). cursor_of c.args.script.now a c.advance.new.cursor ≡ advance c.args.script.now (cursor_of c.args.script.now a p) c.args.listed c.args.note.now.place c.args.note.now.entry) from (c.advance.ensures.cursor a);
      counts = subst (λ (p : CursorAt). ActsAreCounted p c.advance.new.cursor 1) from c.advance.ensures.counted;
      went = ap (λ (y : Booked). record y { cursors = set y.cursors a c.advance.new.cursor; made = y.made + 1 }) c.self.view_is;
    }

pub returns-clause-wrote : goal.returns-clause-wrote
returns-clause-wrote g c = record {
  made = ap (λ (x : Booked). x.made + 1) c.self.view_is;
  heard = c.in_ok-write.ensures.has;
  spare = c.in_ok-write.ensures.room;
}

pub invariant_of-self : goal.invariant_of-self
invariant_of-self g c =
    let x : Booked = the_view c.self.inside in
    let a = c.args.actor in
    let there : a < length x.cursors = subst (λ (y : Booked). a < length y.cursors) (sym c.self.view_is) c.requires.may.cursor in
    let from : c.index_mut-cursor.result.now ≡ booked_at x a = get_or_read c.self.inside.cursors.items a c.index_mut-cursor.result.now there c.index_mut-cursor.ensures.value first_cursor in
    stayed c.self.inside.holders.items c.self.inside.cursors.items a c.advance.new.cursor c.self.invariant there (c.advance.ensures.hold ∙ ap (λ (p : CursorAt). p.hold) from)
