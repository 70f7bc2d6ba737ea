use Rattle.std.proofs.Common.{◌≡◌, ◌<◌, List, length, subst, sym}
use Rattle.co_object.specs.declared.note.Note.{Note}
use Rattle.co_listener.specs.MadeNotes.{lists_by}
use Rattle.co_listener.proofs.Grown.{put_back}
use Rattle.co_listener.proofs.kept.KeptListsListener.write.Goals as goal

pub returns-clause-has : goal.returns-clause-has
returns-clause-has c made are =
    let within = subst (λ (l : List (List Note)). c.args.actor < length l) (sym c.self.view_is) c.requires.actor in
    let listed = subst (λ (l : List (List Note)). l ≡ lists_by (length l) made) (sym c.self.view_is) are in
    put_back c.self.inside.lists made c.args.actor c.args.note.now c.replace-notes.result c.new.result within listed c.replace-notes.ensures.replaced
    c.replace-notes.new.self c.replace-empty.new.self c.in_ok-with_note.field-0 c.replace-notes.ensures.set c.replace-empty.ensures.set c.in_ok-with_note.ensures
