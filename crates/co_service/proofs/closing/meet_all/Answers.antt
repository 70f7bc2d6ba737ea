use Rattle.std.proofs.Common.{◌≡◌, ◌<◌, length, set, ap, ◌∙◌, subst, arith}
use Rattle.std.specs.Prelude.{slice_get, slice_index_or}
use Rattle.std.specs.declared.option.Option.TheVariants.{Some}
use Rattle.co_desk.specs.Meeting.{IsMet}
use Rattle.co_desk.proofs.Items.{all_at, all_taken, all_of_taken, set_same, get_here}
use Rattle.co_service.proofs.closing.meet_all.Goals as goal

pub meet_at-requires-clause-place : goal.meet_at-requires-clause-place
meet_at-requires-clause-place g c =
    let at = c.loop-at in
    let i = at.invariant in
    let x = c.index_mut-one.result.now in
    let xs = c.args.passes.now.items in
    let here = c.index_mut-one.ensures.value ∙ ap (λ l. slice_index_or l at.at x) i.passes in
    let few : at.at < length xs = (let n = c.len-at-end.ensures in let t = c.loop-at-test.true in let l = c.args.passes.now.ok.0 in omega arith) in
    record {
      at = all_at (λ q. slice_get (g.S.Kind.kind.lives q.name) c.args.i ≡ Some c.args.life.now) xs at.at x c.requires.at (get_here xs at.at x few here);
      keeper = ap (λ k. k.life) i.keeper ∙ c.requires.life;
    }

pub loop-at-preserved : goal.loop-at-preserved
loop-at-preserved g c =
    let at = c.loop-at in
    let i = at.invariant in
    let m = c.meet_at.ensures in
    let x = c.index_mut-one.result.now in
    let xs = c.args.passes.now.items in
    let here = c.index_mut-one.ensures.value ∙ ap (λ l. slice_index_or l at.at x) i.passes in
    let few : at.at < length xs = (let n = c.len-at-end.ensures in let t = c.loop-at-test.true in let l = c.args.passes.now.ok.0 in omega arith) in
    record {
      keeper = m.keeper ∙ i.keeper;
      passes = ap (set at.passes.items at.at) m.same ∙ (ap (λ l. set l at.at x) i.passes ∙ set_same xs at.at x (get_here xs at.at x few here));
      met = all_taken (IsMet g.S.Kind.kind c.args.i c.args.keeper.now) xs at.at x few i.met here (subst (λ k. IsMet g.S.Kind.kind c.args.i k x) i.keeper m.met);
    }

pub returns : goal.returns
returns g c =
    let at = c.loop-at in
    record {
      keeper = at.invariant.keeper;
      passes = at.invariant.passes;
      met = all_of_taken (IsMet g.S.Kind.kind c.args.i c.args.keeper.now) c.args.passes.now.items at.at (let n = c.len-at-end.ensures in let t = c.loop-at-test.false in let l = c.args.passes.now.ok.0 in omega arith) at.invariant.met;
    }
