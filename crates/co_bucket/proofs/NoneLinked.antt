-- Where each head is alone in its ring, every list is empty.
use Rattle.std.proofs.Common.{◌≡◌, ℕ, ◌+◌, ◌<◌, List, [], refl, sym, subst, arith, get_or, replicate}
use Rattle.std.specs.List.{range_with_len}
use Rattle.std.proofs.lemmas.List.Elements.{All-nil}
use Rattle.co_bucket.specs.declared.rings.Rings.{Rings}
use Rattle.co_bucket.specs.Rings.{IsRings, Become, AreEmpty}
use Rattle.co_bucket.proofs.Ranges.{range-at, length-range, replicate-at, length-replicate}
use Rattle.co_bucket.proofs.Linked.{become}

abbrev pub no_lists : ℕ → List ℕ
no_lists k = []

-- where each head is alone in its ring
pub none-linked : (size count : ℕ) → IsRings size count (range_with_len 0 (size + count)) (range_with_len 0 (size + count)) (replicate size count) no_lists
none-linked size count = record {
  path = λ k in'. let at' = range-at 0 (size + count) (size + k) (omega arith) in (omega (arith, at'), omega (arith, at'));
  placed = λ k in'. All-nil (λ x. (x < size) × (get_or (replicate size count) x 0 ≡ k));
  there = λ i small in'. absurd (omega (arith, in', replicate-at size count i small));
  next_long = length-range 0 (size + count);
  prev_long = length-range 0 (size + count);
  place_long = length-replicate size count;
}

pub made-empty : (size count : ℕ) (r : Rings) → r.size ≡ size → r.count ≡ count → r.next.items ≡ range_with_len 0 (size + count) → r.prev.items ≡ range_with_len 0 (size + count) → r.place.items ≡ replicate size count → AreEmpty size count r
made-empty size count r s c n p l = record { size = s; count = c; linked = b.linked; are = λ k in'. b.are k (omega (arith, c)) } where
  rings : IsRings r.size r.count r.next.items r.prev.items r.place.items no_lists
  rings =
      subst (λ (x : ℕ). IsRings x r.count r.next.items r.prev.items r.place.items no_lists) (sym s)
      (subst (λ (x : ℕ). IsRings size x r.next.items r.prev.items r.place.items no_lists) (sym c)
      (subst (λ (xs : List ℕ). IsRings size count xs r.prev.items r.place.items no_lists) (sym n)
      (subst (λ (xs : List ℕ). IsRings size count (range_with_len 0 (size + count)) xs r.place.items no_lists) (sym p)
      (subst (λ (xs : List ℕ). IsRings size count (range_with_len 0 (size + count)) (range_with_len 0 (size + count)) xs no_lists) (sym l) (none-linked size count)))))

  b : Become r r no_lists
  b = become r r no_lists refl refl rings
