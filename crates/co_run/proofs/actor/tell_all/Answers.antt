-- The notes are told one after another.
use Rattle.co_run.proofs.shown.ThreeNotes.{three_items, all_few, all_gone, all_noted, all_spent}
use Rattle.co_run.proofs.actor.tell_all.Goals as goal

pub returns-clause-cursor : goal.returns-clause-cursor
returns-clause-cursor g c = λ actor.
    all_gone c.args.script.now _ _ _ _ c.args.notes.now _ _ _ _ _ (three_items c.args.notes.now c.index-notes-0.result c.index-notes-1.result c.index-notes-2.result c.type_inv.notes)
    c.either.ensures c.is_some.ensures (c.tell_some.ensures.cursor actor) (c.tell_some-2.ensures.cursor actor) (c.tell_some-3.ensures.cursor actor)

pub returns-clause-told : goal.returns-clause-told
returns-clause-told g c =
    let first = c.tell_some.ensures.told in
    let second = c.tell_some-2.ensures.told in
    let third = c.tell_some-3.ensures.told in
    let items = three_items c.args.notes.now c.index-notes-0.result c.index-notes-1.result c.index-notes-2.result c.type_inv.notes in
    record {
      added = all_noted _ _ _ _ c.args.notes.now _ _ _ items first.added second.added third.added;
      spent = all_spent _ _ _ _ c.args.notes.now _ _ _ items first.spent second.spent third.spent;
      numbers = third.numbers;
    }

pub returns-clause-few : goal.returns-clause-few
returns-clause-few g c =
    all_few c.args.notes.now _ _ _ (three_items c.args.notes.now c.index-notes-0.result c.index-notes-1.result c.index-notes-2.result c.type_inv.notes)
