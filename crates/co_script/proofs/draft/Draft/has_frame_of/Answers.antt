use Rattle.std.proofs.Common.{rules, ◌≡◌, true, refl, sym, ◌∙◌, length}
use Rattle.co_lock.specs.declared.LockKind.{LockKind}
use Rattle.co_lock.specs.declared.LockKind.TheVariants as lock
use Rattle.co_lock.specs.contracts.lock_kind.LockKindPartialEq.TheImpl as kinds
use Rattle.co_script.proofs.Beside.{same_by, frame_of_parts}
use Rattle.co_script.proofs.TurnLines.{not-false}
use Rattle.co_script.proofs.draft.Draft.has_frame_of.Goals as goal

told : (x y : LockKind) → kinds.ghosts.eq x y ≡ true → x ≡ y
told lock.Mtx lock.Mtx h = refl
told lock.Mtx lock.Rw h = cc
told lock.Rw lock.Mtx h = cc
told lock.Rw lock.Rw h = refl

pub returns-then-self-frame-3 : goal.returns-then-self-frame-3
returns-then-self-frame-3 c h =
    let one = c.frame.inside in
    let two = c.self.inside in
    let version : one.script.version ≡ two.script.version = search rules in
    let cpus : one.script.cpus ≡ two.script.cpus = search rules in
    let locks : one.script.locks ≡ two.script.locks = sym (sym c.as_slice.ensures ∙ (same_by _ told _ _ (not-false _ (sym c.ne.ensures ∙ c.if-ne.false)) ∙ c.as_slice-2.ensures)) in
    let timers : length one.script.timers ≡ length two.script.timers = search rules in
    let funcs : one.funcs ≡ two.funcs = search rules in
    frame_of_parts _ _ c.args.frame.now c.args.self.now c.frame.view_is c.self.view_is version cpus locks timers funcs
