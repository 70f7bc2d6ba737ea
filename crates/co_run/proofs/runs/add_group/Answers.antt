-- One more actor is over, and the rest of the group is of those behind it.
use Rattle.std.proofs.Common.{ℕ, ◌+◌, ◌∙◌, ap, arith, length, subst, sym}
use Rattle.std.proofs.lemmas.Result.{IfOk-at_ok}
use Rattle.co_run.specs.Jobs.{HavePlayed, IsGroup}
use Rattle.co_run.specs.Over.{IsActorOver}
use Rattle.co_run.proofs.groups.Seats.{played_first, played_less}
use Rattle.co_run.proofs.runs.add_group.Goals as goal

pub loop-next-init : goal.loop-next-init
loop-next-init g c =
    let have = HavePlayed g.B.Book.notes c.args.script.now g.N.Name.name in
    let same = sym (ap length c.as_slice-next.ensures) in
    record {
      over = c.requires.over;
      count = same;
      group = subst (λ (n : ℕ). IsGroup have n c.args.end c.args.group.items) same c.requires.group;
    }

pub add-requires-clause-one : goal.add-requires-clause-one
add-requires-clause-one g c =
    let s = c.args.script.now in
    let have = HavePlayed g.B.Book.notes s g.N.Name.name in
    let group = subst (IsGroup have c.loop-next.next c.args.end) c.take_last.ensures c.loop-next.invariant.group in
    subst (λ (a : ℕ). IsActorOver s g.N.Name.name a c.in_ok-one.one.passes (g.B.Book.notes c.in_ok-one.one.book)) (sym c.loop-next.invariant.count)
    (IfOk-at_ok (λ kit. IsActorOver s g.N.Name.name c.loop-next.next kit.passes (g.B.Book.notes kit.book)) c.in_ok-one.was
    (played_first s g.N.Name.name g.B.Book.notes c.take_last.new.all.items c.take_last.result c.loop-next.next c.args.end group))

pub loop-next-preserved : goal.loop-next-preserved
loop-next-preserved g c =
    let have = HavePlayed g.B.Book.notes c.args.script.now g.N.Name.name in
    record {
      over = c.in_ok-add.ensures.over;
      count = c.in_ok-add.ensures.count ∙ ap (λ (n : ℕ). n + 1) c.loop-next.invariant.count;
      group = played_less c.args.script.now g.N.Name.name g.B.Book.notes c.take_last.new.all.items c.take_last.result c.loop-next.next c.args.end
          (subst (IsGroup have c.loop-next.next c.args.end) c.take_last.ensures c.loop-next.invariant.group);
    }

pub returns : goal.returns
returns g c =
    let count = c.loop-next.invariant.count in
    let left = c.loop-next.invariant.group.count in
    record { over = c.loop-next.invariant.over; count = omega (arith, count, left, c.loop-next-test.false) }
