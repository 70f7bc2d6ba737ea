-- One job more, of the actor before.
use Rattle.std.proofs.Common.{◌≡◌, ◌+◌, ◌∷◌, [], ◌∙◌, ap, length, length-append, subst, sym, arith}
use Rattle.co_run.specs.Jobs.{AreJobs, IsGroup}
use Rattle.co_run.proofs.groups.Deals.{group_dealt, left_job, left_less}
use Rattle.co_run.proofs.jobs.deal.Goals as goal

pub loop-dealt-preserved : goal.loop-dealt-preserved
loop-dealt-preserved g c =
    let s = c.args.script.now in
    let name = g.N.Name.name in
    let notes = g.B.Book.notes in
    let spare = g.B.Book.spare in
    let passes = c.take_last.new.all.items in
    let Are = AreJobs s name notes spare in
    let one : length c.loop-dealt.passes.items ≡ length passes + 1 = ap length c.take_last.ensures ∙ length-append passes (c.take_last.result ∷ []) in
    let left = c.loop-dealt.invariant.left in
    record {
      less = (let before = c.loop-dealt.invariant.less in omega (arith, one, before));
      left = left_less s name notes spare _ passes c.take_last.result _ c.take_last-in-loop-dealt.new.all.items c.take_last-in-loop-dealt.result c.take_last.ensures c.take_last-in-loop-dealt.ensures left;
      group = subst (IsGroup Are (length passes) (length c.args.passes.now.items)) (sym c.in_ok-push.ensures.ok)
          (group_dealt s name notes spare c.loop-dealt.seats _ (length c.loop-dealt.passes.items) (length passes) (length c.args.passes.now.items) one c.loop-dealt.invariant.group
          (left_job s name notes spare _ passes c.take_last.result _ c.take_last-in-loop-dealt.new.all.items c.take_last-in-loop-dealt.result c.take_last.ensures c.take_last-in-loop-dealt.ensures left));
    }

pub returns : goal.returns
returns g c =
    let Are = AreJobs c.args.script.now g.N.Name.name g.B.Book.notes g.B.Book.spare in
    let less = c.loop-dealt.invariant.less in
    record {
      left = c.loop-dealt.invariant.left;
      less = omega (arith, less, c.loop-dealt-test.false, c.loop-dealt.auto.dealt-end);
      dealt = subst (IsGroup Are (length c.loop-dealt.passes.items) (length c.args.passes.now.items)) (sym c.into_vec.ensures) c.loop-dealt.invariant.group;
    }
