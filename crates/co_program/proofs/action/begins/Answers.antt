-- The role's acts tell which task comes next: none, a soft act or one of them.
use Rattle.std.proofs.Common.{◌≡◌, ℕ, ◌≤◌, ◌<◌, ◌∙◌, sym, ap, subst, List, [], ◌∷◌, drop, length, true, false, refl, Some, slice_get}
use Rattle.std.proofs.lemmas.Option.{slice_get_read}
use Rattle.co_object.specs.declared.QOp.{QOp}
use Rattle.co_program.proofs.Remaining.{none_left, soft_left, act_left}
use Rattle.co_program.specs.declared.act.Act.{Act}
use Rattle.co_program.specs.declared.action.Action.{Action as ActionAt}
use Rattle.co_program.specs.declared.action.Asked.TheVariants.{Queue}
use Rattle.co_program.specs.declared.program.Task.TheVariants.{Soft}
use Rattle.co_program.specs.Actors.{program_of, cpu_of}
use Rattle.co_program.specs.Action.{Asks, begins_next}
use Rattle.co_program.specs.Advance.{tail_of}
use Rattle.co_program.specs.Indexed.{action_as, acts_of, cursor_as, is_soft}
use Rattle.co_program.proofs.action.begins.Goals as goal

pub does-requires-clause-next : goal.does-requires-clause-next
does-requires-clause-next c =
    let s = c.args.script.now in
    let role = c.args.role in
    let at = c.args.cursor.now.task in
    let acts = c.acts_of-acts.result.now in
    let act = c.index-acts-index.result in
    let hard : is_soft s role ≡ false = sym c.is_soft.ensures ∙ c.if-is_soft.false in
    let found : slice_get acts at ≡ Some act = slice_get_read acts (length acts) at act refl c.if-index-acts.false c.index-acts-index.is in
    act_left s role at act hard (subst (λ (xs : List Act). slice_get xs at ≡ Some act) c.acts_of-acts.ensures found)

pub returns-then-index-acts-clause-action : goal.returns-then-index-acts-clause-action
returns-then-index-acts-clause-action c =
    let s = c.args.script.now in
    let role = c.args.role in
    let at = c.args.cursor.now.task in
    let none : drop at (program_of s role) ≡ [] = none_left s role at (subst (λ (xs : List Act). length xs ≤ at) c.acts_of-acts.ensures c.if-index-acts.true) in
    c.ends.ensures.action s role none ∙ ap (begins_next s role (cursor_as s role c.args.cursor.now)) (sym none)

pub returns-then-is_soft-clause-action : goal.returns-then-is_soft-clause-action
returns-then-is_soft-clause-action c =
    let s = c.args.script.now in
    let role = c.args.role in
    let cursor = c.args.cursor.now in
    let at = cursor.task in
    let soft : is_soft s role ≡ true = sym c.is_soft.ensures ∙ c.if-is_soft.true in
    let low : at < length (acts_of s role) = subst (λ (xs : List Act). at < length xs) c.acts_of-acts.ensures c.if-index-acts.false in
    let next : drop at (program_of s role) ≡ Soft at ∷ tail_of (drop at (program_of s role)) = soft_left s role at soft low in
    ap (λ (x : ActionAt). action_as s role cursor x) c.asks_queue.ensures
    ∙ (ap (λ (n : ℕ). Asks cursor.act (Queue n c.pop_of.result)) c.cpu_of.ensures
    ∙ (ap (λ (op : QOp). Asks cursor.act (Queue (cpu_of s role) op)) c.pop_of.ensures
    ∙ ap (begins_next s role (cursor_as s role cursor)) (sym next)))
