use Rattle.std.proofs.Common.{◌≡◌, sym, subst}
use Rattle.co_program.specs.Action.{action_with}
use Rattle.co_program.specs.Existing.{ActionExists}
use Rattle.co_program.specs.Indexed.{action_as, cursor_as, cursor_of}
use Rattle.co_program.proofs.Existing.{action_exists}
use Rattle.co_program.proofs.action.action_for.Goals as goal

pub returns-clause-existing : goal.returns-clause-existing
returns-clause-existing c below inside =
    let s = c.args.script.now in
    let place = c.args.cursor.now in
    let here = subst (λ r. let at = cursor_as s r place in action_as s r place c.action_with.new.next ≡ action_with s r at at.parcel) c.role_of.ensures c.action_with.ensures.action in
    subst (ActionExists s) (sym here) (action_exists s c.requires.script c.args.actor below (cursor_of s c.args.actor place) inside)
