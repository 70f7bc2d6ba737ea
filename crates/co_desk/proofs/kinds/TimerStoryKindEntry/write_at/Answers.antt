use Rattle.std.proofs.Common.{◌-◌, List, refl, sym, ap, ◌∙◌, arith}
use Rattle.std.specs.Prelude.{slice_get}
use Rattle.co_life.specs.Identity.{LifeId}
use Rattle.co_desk.specs.Stories.{by, IsHistory}
use Rattle.co_desk.specs.Views.{PassesView}
use Rattle.co_desk.proofs.BooksKept.{same_life}
use Rattle.co_desk.proofs.PassesKept.{timer_written, timers_kept}
use Rattle.co_desk.proofs.Writing.{below_get, story_next, keeper_next, history_next}
use Rattle.co_desk.proofs.kinds.TimerStoryKindEntry.write_at.Goals as goal

pub write-number-requires-clause-legal : goal.write-number-requires-clause-legal
write-number-requires-clause-legal c =
    story_next by IsHistory c.args.lives.now c.args.passes.now.params c.args.i c.args.keeper.now c.args.entry c.requires.may.keeper c.requires.may.legal

pub returns-clause-kept : goal.returns-clause-kept
returns-clause-kept c = record {
  keeper = keeper_next by IsHistory c.args.lives.now c.args.passes.now.params c.args.i c.args.keeper.now c.args.entry c.requires.may.keeper c.requires.may.legal c.write-number.new.keeper c.write-number.ensures.keeper;
  history = history_next by IsHistory c.args.lives.now c.args.passes.now.params c.args.i c.args.keeper.now c.args.entry c.requires.may.keeper c.requires.may.legal c.write-number.new.keeper c.write-number.ensures.keeper;
}

pub returns-clause-written : goal.returns-clause-written
returns-clause-written c =
    timer_written c.passes.inside.actors c.passes.inside.actor c.passes.inside.params.value c.passes.inside.timers c.passes.inside.cpus c.args.passes.now c.passes.invariant c.passes.view_is c.args.i c.write-number.result c.saturating_sub.result (omega arith)
    (c.saturating_sub.ensures ∙ ap (λ n. c.write-number.result - n) c.from.ensures)
    c.args.lives.now c.args.entry c.args.keeper.now c.write-number.new.keeper c.write-number.new.self c.write-number.ensures c.requires.name c.requires.may.keeper c.requires.may.legal c.requires.own

pub invariant_of-passes : goal.invariant_of-passes
invariant_of-passes c =
    timers_kept c.passes.inside.actors c.passes.inside.actor c.passes.inside.params.value c.passes.inside.timers c.passes.inside.cpus c.args.passes.now c.passes.invariant c.passes.view_is c.args.i c.write-number.result c.saturating_sub.result (omega arith)
    (c.saturating_sub.ensures ∙ ap (λ n. c.write-number.result - n) c.from.ensures)
    c.args.lives.now c.args.entry c.args.keeper.now c.write-number.new.keeper c.write-number.new.self c.write-number.ensures c.requires.may.keeper c.requires.may.legal

pub get-life-requires : goal.get-life-requires
get-life-requires c = below_get c.args.lives.now c.args.i c.args.keeper.now.life c.requires.may.keeper.life

pub write-number-requires-clause-place : goal.write-number-requires-clause-place
write-number-requires-clause-place c = record {
  at = ap (λ (l : List LifeId). slice_get l c.args.i) (ap (λ (p : PassesView). p.name.timers) c.passes.view_is ∙ c.requires.name) ∙ c.get-life.ensures;
  keeper = same_life c.args.lives.now c.args.lives.now c.args.i c.args.keeper.now.life c.get-life.result.now refl c.requires.may.keeper.life c.get-life.ensures;
}

pub write-number-requires-clause-actor : goal.write-number-requires-clause-actor
write-number-requires-clause-actor c = c.requires.own ∙ (ap (λ (p : PassesView). p.actor) (sym c.passes.view_is) ∙ sym c.passes.invariant.timers_opened.own)
