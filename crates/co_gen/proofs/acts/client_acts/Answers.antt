use Rattle.std.proofs.Common.{◌≡◌, ◌++◌, sym, ap, ◌∙◌, arith}
use Rattle.co_gen.specs.declared.choice.Choice.{Choice}
use Rattle.co_gen.specs.Generator.{next_state, draw_of, draw, choice_of, group, group_of, groups, client_acts}
use Rattle.co_gen.proofs.Drawing.{no-draws, one-draw-more}
use Rattle.co_gen.proofs.Ranges.{parts-more}
use Rattle.co_gen.proofs.acts.client_acts.Goals as goal

pub loop-number-init : goal.loop-number-init
loop-number-init c = record { draws = sym (no-draws c.args.draws.now); acts = c.in_ok-acts.ensures }

pub loop-number-preserved : goal.loop-number-preserved
loop-number-preserved c =
    let state = c.draw.ensures.state ∙ ap next_state c.loop-number.invariant.draws in
    let choice : c.choice_of-choice.result ≡ choice_of (draw c.args.draws.now c.loop-number.number) = c.choice_of-choice.ensures ∙ ap choice_of (c.draw.ensures.number ∙ ap draw_of state) in record {
      draws = state ∙ sym (one-draw-more c.args.draws.now c.loop-number.number);
      acts = c.in_ok-push_group.ensures
          ∙ (ap (λ acts. acts ++ group c.loop-number.number c.choice_of-choice.result) c.loop-number.invariant.acts
          ∙ (ap (λ (x : Choice). groups c.args.draws.now c.loop-number.number ++ group c.loop-number.number x) choice
          ∙ sym (parts-more (group_of c.args.draws.now) c.loop-number.number)));
    }

pub returns-clause-acts : goal.returns-clause-acts
unfolding client_acts
returns-clause-acts c = c.loop-number.invariant.acts ∙ (let all : c.loop-number.number ≡ 1024 = omega arith in ap (groups c.args.draws.now) all)
