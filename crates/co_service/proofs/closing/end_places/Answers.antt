use Rattle.std.proofs.Common.{◌≡◌, ◌+◌, [], ◌∷◌, ◌++◌, length, map, sym, ap, ◌∙◌, subst, arith, append_assoc, length-append}
use Rattle.std.specs.Prelude.{slice_get}
use Rattle.std.specs.List.{All}
use Rattle.std.specs.Vec.Iter.{into_iter_items}
use Rattle.std.proofs.lemmas.Grind.{common_steps}
use Rattle.std.proofs.lemmas.List.{length-map}
use Rattle.co_service.specs.Closing.{EndEach, Ends}
use Rattle.co_desk.specs.Lines.{made}
use Rattle.co_desk.specs.Views.{PassesView}
use Rattle.co_desk.proofs.Items.{each_place, get_mid, map_more}
use Rattle.co_service.proofs.closing.end_places.Goals as goal

pub loop-life-preserved : goal.loop-life-preserved
loop-life-preserved g c =
    let at = c.loop-life in
    let i = at.invariant in
    let x = c.in-Some.life in
    let all = c.args.passes.now.items in
    let closed = c.end_place-closed.result in
    let e = c.end_place-closed.ensures in
    let steps : into_iter_items at.life-iterator ≡ x ∷ into_iter_items c.next.new.self = c.in-Some.ensures.steps.0 in
    let pushed : c.push.new.self.items ≡ at.room.items ++ closed ∷ [] = c.push.ensures.items in
    let ended : All (Ends g.S.Kind.kind (made closed) at.i) all = subst (λ l. All (Ends g.S.Kind.kind (made closed) at.i) l) i.passes e.ends in
    record {
      yields = append_assoc at.yielded (x ∷ []) _ ∙ rw (← steps) i.yields;
      left = (let was = i.left in let gone = c.in-Some.ensures.steps.1 in let short = ap length steps in omega arith);
      at = ap (λ n. n + 1) i.at ∙ sym (length-append at.yielded (x ∷ []));
      passes = e.passes ∙ i.passes;
      count = ap length pushed ∙ (length-append at.room.items (closed ∷ []) ∙ ap (λ n. n + 1) i.count);
      spare = (let s = i.spare in let short = ap length steps in let p = c.push.ensures.spare in omega arith);
      ends = λ k H is. each_place (λ j v. All (Ends g.S.Kind.kind v j) all) (map made at.room.items) (made closed) i.ends
          (subst (λ n. All (Ends g.S.Kind.kind (made closed) n) all) (sym (length-map at.room.items made ∙ i.count)) ended) k H (ap (λ l. slice_get l k) (sym (ap (map made) pushed ∙ map_more made at.room.items closed)) ∙ is);
    }

pub returns : goal.returns
returns g c = record {
  passes = c.loop-life.invariant.passes;
  count = grind (arith, common_steps);
  ends = subst (λ l. EndEach g.S.Kind.kind c.args.passes.now.items (map made l)) (sym c.into_seq.ensures) c.loop-life.invariant.ends;
}

pub loop-life-init : goal.loop-life-init
loop-life-init g c =
    let gives = c.into_iter-life-iterator.ensures.into_iter_gives in
    record {
      yields = λ _. into_iter_items c.into_iter-life-iterator.result;
      left = (let a = ap length gives.0 in let b = gives.1 in let m = c.into_vec-life-items.result.ok.0 in omega arith);
      at = λ _. 0;
      passes = λ _. c.args.passes.now.items;
      count = ap length c.requires.may.empty;
      spare = (let a = ap length gives.0 in let b = ap length (c.into_vec-life-items.ensures ∙ c.requires.may.lives_are) in let s = c.requires.may.spare in omega arith);
      ends = λ k H is. (let none = ap (λ l. slice_get (map made l) k) (sym c.requires.may.empty) ∙ is in absurd (cc));
    }

pub end_place-closed-requires-clause-at : goal.end_place-closed-requires-clause-at
end_place-closed-requires-clause-at g c =
    let at = c.loop-life in
    let x = c.in-Some.life in
    let rest = into_iter_items c.next.new.self in
    let steps : into_iter_items at.life-iterator ≡ x ∷ rest = c.in-Some.ensures.steps.0 in
    let all = ap (λ l. at.yielded ++ l) (sym steps) ∙ (at.invariant.yields ∙ (c.into_iter-life-iterator.ensures.into_iter_gives.0 ∙ (c.into_vec-life-items.ensures ∙ c.requires.may.lives_are))) in
    ap (λ l. slice_get l at.i) (sym all) ∙ (ap (slice_get (at.yielded ++ x ∷ rest)) at.invariant.at ∙ get_mid at.yielded x rest)

pub end_place-closed-requires-clause-passes : goal.end_place-closed-requires-clause-passes
end_place-closed-requires-clause-passes g c = subst (All (λ (q : PassesView). q.name ≡ g.N.Name.name)) (sym c.loop-life.invariant.passes) c.requires.passes

pub push-requires : goal.push-requires
push-requires g c = let short = ap length c.in-Some.ensures.steps.0 in let s = c.loop-life.invariant.spare in omega arith
