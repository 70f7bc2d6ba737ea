-- The notes of a call are told one after another.
use Rattle.std.proofs.Common.{◌++◌, ◌∷◌, ◌∙◌, ap, subst, arith}
use Rattle.co_object.specs.declared.Note.{Note}
use Rattle.co_program.specs.Indexed.{cursor_of}
use Rattle.co_run.specs.Counted.{HasTold}
use Rattle.co_run.specs.Noted.{gone_on}
use Rattle.co_object.specs.Group.{off_of}
use Rattle.co_desk.specs.Call.{insertion_told, removal_told}
use Rattle.co_run.proofs.shown.CallNotes.{call_few, call_gone, call_noted, call_spent, insertion_few, removal_few}
use Rattle.co_run.proofs.calls.tell_call.Goals as goal

pub tell_here-requires-clause-can : goal.tell_here-requires-clause-can
tell_here-requires-clause-can g c =
    let told = c.args.told.now in
    let few = removal_few c.args.actor c.args.act c.args.i (off_of told.out.reply) told.removal in
    let spent = c.tell_removal.ensures.told.spent in
    record { numbers = c.tell_removal.ensures.told.numbers; room = omega (arith, few, spent, c.requires.can.room) }

pub tell_insertion-requires-clause-can : goal.tell_insertion-requires-clause-can
tell_insertion-requires-clause-can g c =
    let told = c.args.told.now in
    let few = removal_few c.args.actor c.args.act c.args.i (off_of told.out.reply) told.removal in
    let first = c.tell_removal.ensures.told.spent in
    let second = c.tell_here.ensures.told.spent in
    record { numbers = c.tell_here.ensures.told.numbers; room = omega (arith, few, first, second, c.requires.can.room) }

pub returns-clause-cursor : goal.returns-clause-cursor
returns-clause-cursor g c = λ a.
    let told = c.args.told.now in
    let before = removal_told c.args.actor c.args.act c.args.i (off_of told.out.reply) told.removal in
    let after = insertion_told c.args.actor c.args.act c.args.i told.insertion in
    call_gone c.args.script.now _ _ _ _ before _ c.args.actor c.args.act c.args.i told.insertion _ c.has_insertion.ensures
    (c.tell_removal.ensures.cursor a) (c.tell_here.ensures.cursor a) (c.tell_insertion.ensures.cursor a)
    ∙ ap (λ (note : Note). gone_on c.args.script.now (cursor_of c.args.script.now a c.args.cursor.now) (before ++ note ∷ after)) c.note_of_entry-entry.ensures

pub returns-clause-told : goal.returns-clause-told
returns-clause-told g c =
    let told = c.args.told.now in
    let before = removal_told c.args.actor c.args.act c.args.i (off_of told.out.reply) told.removal in
    let after = insertion_told c.args.actor c.args.act c.args.i told.insertion in
    let first = c.tell_removal.ensures.told in
    let second = c.tell_here.ensures.told in
    let third = c.tell_insertion.ensures.told in
    subst (λ (note : Note). HasTold g.B.Book.notes g.B.Book.spare c.tell_insertion.new.cursor c.args.book.now c.tell_insertion.new.book (before ++ note ∷ after)) c.note_of_entry-entry.ensures
    (record {
      added = call_noted _ _ _ _ before c.note_of_entry-entry.result after first.added second.added third.added;
      spent = call_spent _ _ _ _ before c.note_of_entry-entry.result after first.spent second.spent third.spent;
      numbers = third.numbers;
    })

pub returns-clause-few : goal.returns-clause-few
returns-clause-few g c =
    let told = c.args.told.now in
    call_few (removal_told c.args.actor c.args.act c.args.i (off_of told.out.reply) told.removal) _ (insertion_told c.args.actor c.args.act c.args.i told.insertion)
    (removal_few c.args.actor c.args.act c.args.i (off_of told.out.reply) told.removal) (insertion_few c.args.actor c.args.act c.args.i told.insertion)
