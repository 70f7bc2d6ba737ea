use Rattle.std.proofs.Common.{◌≡◌, ap, ◌∙◌, arith}
use Rattle.co_program.specs.declared.Act.TheVariants as act
use Rattle.co_gen.specs.Generator.{first, tick, tick_acts}
use Rattle.co_gen.proofs.Ranges.{pushed}
use Rattle.co_gen.proofs.acts.tick_acts.Goals as goal

pub loop-number-preserved : goal.loop-number-preserved
loop-number-preserved c = pushed tick c.loop-number.number c.loop-number.acts c.push_act.new.acts (act.Tick c.time.result) c.loop-number.invariant (ap act.Tick c.time.ensures) c.in_ok-push_act.ensures

pub returns : goal.returns
unfolding tick_acts
returns c = c.loop-number.invariant ∙ (let all : c.loop-number.number ≡ 1280 = omega arith in ap (first tick) all)
