use Rattle.std.proofs.Common.{◌≡◌, true, false, sym, ◌∙◌}
use Rattle.std.specs.Prelude.{is_some}
use Rattle.co_object.specs.Group.{off_of}
use Rattle.co_desk.proofs.CallNoted.{no_removal, removal_written}
use Rattle.co_desk.proofs.calling.write_removal.Goals as goal

pub returns-then-not-removed : goal.returns-then-not-removed
returns-then-not-removed g c =
    let none : is_some (off_of c.args.reply.now) ≡ false = sym c.requires.removed ∙ c.if-not-removed.true in
    no_removal c.args.passes.now c.args.books.now c.args.act c.args.i 0 (off_of c.args.reply.now) none

pub returns : goal.returns
returns g c =
    let w = c.write_turn in
    let some : is_some (off_of c.args.reply.now) ≡ true = sym c.requires.removed ∙ c.if-not-removed.false in
    removal_written c.args.passes.now w.new.passes c.args.books.now w.new.books c.args.act c.args.i w.result (off_of c.args.reply.now) some c.requires.here w.ensures
