-- The places of a report, added one by one.
use Rattle.std.proofs.Common.{◌≡◌, ℕ, ◌+◌, ◌≤◌, true, List, [], ◌∷◌, ◌++◌, take, length, get_or, ap, sym, ◌∙◌, arith}
use Rattle.std.proofs.lemmas.List.{map-id, take_all}
use Rattle.co_object.specs.declared.Place.{Place}
use Rattle.co_program.specs.declared.Script.{Script}
use Rattle.co_program.specs.Places.{place_exists}
use Rattle.co_print.specs.Order.{place_index, place_count}
use Rattle.co_print.specs.Reports.{places}
use Rattle.co_print.proofs.Counts.{taken_more}
use Rattle.co_print.proofs.Places.{index_below}
use Rattle.co_print.proofs.PlaceLists.{at-place, length-places}

module _ (s : Script) where
  pub length-all : length (places s) ≡ place_count s
  length-all = ap length (sym (map-id (places s))) ∙ length-places s (λ p. p)

  pub at-index : (p : Place) → place_exists s p ≡ true → get_or (places s) (place_index s p) p ≡ p
  at-index p exists = ap (λ ps. get_or ps (place_index s p) p) (sym (map-id (places s))) ∙ at-place s (λ q. q) p p exists

  pub place_added : (p : Place) (i : ℕ) (old new : List Place) → place_exists s p ≡ true → place_index s p ≡ i → old ≡ take i (places s) → new ≡ old ++ p ∷ [] → new ≡ take (i + 1) (places s)
  place_added p i old new exists is before put =
      let at : p ≡ get_or (places s) i p = sym (ap (λ j. get_or (places s) j p) (sym is) ∙ at-index p exists) in
      put ∙ (ap (λ ps. ps ++ p ∷ []) before ∙ sym (taken_more (places s) i p (omega (arith, is, index_below s p exists, length-all)) at))

  pub all_places : (n : ℕ) (all : List Place) → all ≡ take n (places s) → place_count s ≤ n → all ≡ places s
  all_places n all is many = is ∙ take_all n (places s) (omega (arith, many, length-all))
