-- One actor more is done, or its notes are not of its program; and at the end all are. Of the actors' count nothing is named, so that a body that forgets an actor
-- is refused for that.
use Rattle.std.proofs.Common.{◌<◌, ◌≤◌, ◌+◌, ◌∙◌, sym, subst, arith}
use Rattle.co_program.specs.Actors.{actor_count}
use Rattle.co_program.specs.Indexed.{cursor_of}
use Rattle.co_check.proofs.ByActor.{slot-within, row-few}
use Rattle.co_check.proofs.Programs.{AreDone, one-done, astray-found, all-done}
use Rattle.co_check.proofs.checking.check_programs.Goals as goal

pub walk-requires-clause-row : goal.walk-requires-clause-row
walk-requires-clause-row c k i here =
    let slots = c.row.ensures c.args.script.now c.args.lines.now c.args.lines.now c.requires.index in
    slot-within c.args.lines.now c.loop-actor.actor c.row.result.now slots k i here

pub walk-requires-clause-few : goal.walk-requires-clause-few
walk-requires-clause-few c =
    let slots = c.row.ensures c.args.script.now c.args.lines.now c.args.lines.now c.requires.index in
    row-few c.args.lines.now c.loop-actor.actor c.row.result.now slots c.requires.few

pub returns-in-Astray : goal.returns-in-Astray
returns-in-Astray c =
    let s = c.args.script.now in
    let slots = c.row.ensures s c.args.lines.now c.args.lines.now c.requires.index in
    let below : c.loop-actor.actor < actor_count s = omega arith in
    sym (astray-found s c.args.lines.now c.loop-actor.actor c.row.result.now slots c.loop-actor.unfinished c.in-Astray.line c.args.end below c.loop-actor.invariant
    c.in-Astray.ensures)

pub loop-actor-preserved : goal.loop-actor-preserved
loop-actor-preserved c =
    let s = c.args.script.now in
    let slots = c.row.ensures s c.args.lines.now c.args.lines.now c.requires.index in
    let below : c.loop-actor.actor < actor_count s = omega arith in
    subst (AreDone s c.args.lines.now (c.loop-actor.actor + 1)) (sym c.unfinished_after-unfinished.ensures)
    (one-done s c.args.lines.now c.loop-actor.actor c.row.result.now slots c.loop-actor.unfinished c.is_finished-finished.result (cursor_of s c.loop-actor.actor c.in-At.cursor) below c.loop-actor.invariant
    c.in-At.ensures.0
    c.in-At.ensures.1
    c.is_finished-finished.ensures)

pub returns : goal.returns
returns c =
    let s = c.args.script.now in
    let past : actor_count s ≤ c.loop-actor.actor = omega arith in
    c.at_end.ensures ∙ all-done s c.args.lines.now c.loop-actor.actor c.loop-actor.unfinished c.args.end past c.loop-actor.invariant
