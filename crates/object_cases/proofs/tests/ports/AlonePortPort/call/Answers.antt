-- The callout that answered keeps its spec, so that the specs stay.
use Rattle.std.proofs.Common.{◌≡◌, ℕ, zero, suc, List, [], ◌∷◌, map, slice_set, get_or, refl, sym, ap, ◌∙◌}
use Rattle.co_object.specs.declared.alone.Alone.{Alone}
use Rattle.object_cases.proofs.tests.ports.AlonePortPort.call.Goals as goal

-- a list of what is read of each item stays where an item is put in for one that reads the same
map-slice_set : {A B : Type 0} (f : A → B) (xs : List A) (i : ℕ) (x y : A) → x ≡ get_or xs i x → f y ≡ f x → map f (slice_set xs i y) ≡ map f xs
map-slice_set f [] i x y at same = refl
map-slice_set f (z ∷ xs) zero x y at same = ap (λ w. w ∷ map f xs) (same ∙ ap f at)
map-slice_set f (z ∷ xs) (suc i) x y at same = ap (λ ws. f z ∷ ws) (map-slice_set f xs i x y at same)

pub returns-clause-made : goal.returns-clause-made
returns-clause-made c =
    let at = c.index-callouts-i.is in
    let same : c.answer_of-answer.new.callout.spec ≡ c.index-callouts-i.result.spec = c.answer_of-answer.ensures.spec ∙ sym (ap (λ (callout : Alone). callout.spec) at) in
    let specs = map-slice_set (λ (callout : Alone). callout.spec) c.args.self.now.callouts.now c.args.i c.index-callouts-i.result c.answer_of-answer.new.callout at same in
    rw (specs, c.push.ensures.items, c.call_of-call.ensures) refl
