-- A wheel looks at as many entries as stand in the visited buckets of the plain queue that it shows.
use Rattle.std.proofs.Common.{◌≡◌, ℕ, ◌+◌, ◌==◌, ◌%◌, Bool, true, false, cond, List, [], ◌∷◌, length, map, max, refl, sym, ap, ◌∙◌, arith, length-append}
use Rattle.std.specs.Prelude.{nat_lt}
use Rattle.std.specs.List.{flat_map, range_with_len}
use Rattle.co_sbt.specs.Time.{hash}
use Rattle.co_object.specs.Queue.{Waiting, Queue}
use Rattle.co_queue.specs.declared.timed.Timed.{Timed}
use Rattle.co_queue.specs.Timers.{Timers, in_bucket, bucket_of}
use Rattle.co_queue.specs.StandsFor.{StandsFor, timed, put_by_serial, newest_first}
use Rattle.co_bucket.specs.Visits.{visits, visited, looks_at_visited}
use Rattle.co_desk.specs.Outcomes.{looks_in}

module _ (m b : ℕ) where
  abbrev is_in : Waiting → Bool
  is_in w = bucket_of m (timed w).t == b

  abbrev count : List Waiting → ℕ
  count ws = length (in_bucket m b (map timed ws))

  one_more : (x : Timed) (t : Bool) (r s : List Timed) (n : ℕ) → length r ≡ length s + n → length (cond t (x ∷ r) r) ≡ length (cond t (x ∷ s) s) + n
  one_more x true r s n e = omega arith
  one_more x false r s n e = e

  alone : (x : Timed) (t : Bool) (r : List Timed) → length (cond t (x ∷ r) r) ≡ length r + length (cond t (x ∷ []) [])
  alone x true r = omega arith
  alone x false r = omega arith

  put_test : (x y : Waiting) (ys : List Waiting) (t : Bool) → count (put_by_serial x ys) ≡ count ys + count (x ∷ []) → count (cond t (x ∷ y ∷ ys) (y ∷ put_by_serial x ys)) ≡ count (y ∷ ys) + count (x ∷ [])
  put_test x y ys true later = alone (timed x) (is_in x) (in_bucket m b (map timed (y ∷ ys)))
  put_test x y ys false later = one_more (timed y) (is_in y) (in_bucket m b (map timed (put_by_serial x ys))) (in_bucket m b (map timed ys)) (count (x ∷ [])) later

  put : (x : Waiting) (ys : List Waiting) → count (put_by_serial x ys) ≡ count ys + count (x ∷ [])
  put x [] = omega arith
  put x (y ∷ ys) = put_test x y ys (nat_lt y.serial x.serial) (put x ys)

  pub newest-count : (ws : List Waiting) → count (newest_first ws) ≡ count ws
  newest-count [] = refl
  newest-count (x ∷ ws) = put x (newest_first ws) ∙ (ap (λ (n : ℕ). n + count (x ∷ [])) (newest-count ws) ∙ sym (alone (timed x) (is_in x) (in_bucket m b (map timed ws))))

same_lengths : (f g : ℕ → List Timed) → ((d : ℕ) → length (f d) ≡ length (g d)) → (ds : List ℕ) → length (flat_map f ds) ≡ length (flat_map g ds)
same_lengths f g same [] = refl
same_lengths f g same (d ∷ ds) = let h = same d in let t = same_lengths f g same ds in length-append (f d) (flat_map f ds) ∙ ((let e : length (f d) + length (flat_map f ds) ≡ length (g d) + length (flat_map g ds) = omega arith in e) ∙ sym (length-append (g d) (flat_map g ds)))

pub looks_shown : (s : Timers) (q : Queue) (m now : ℕ) → StandsFor s q → s.buckets ≡ m → looks_at_visited s now ≡ looks_in m q now
looks_shown s q m now is same =
    ap (λ (k : ℕ). length (visited k s.last (max s.last now) s.content)) same
    ∙ (ap (λ (l : ℕ). length (visited m l (max l now) s.content)) (sym is.last)
    ∙ same_lengths (λ d. in_bucket m ((hash q.last + d) % m) s.content) (λ d. in_bucket m ((hash q.last + d) % m) (map timed q.content))
    (λ d. ap (λ (k : ℕ). length (in_bucket k ((hash q.last + d) % m) s.content)) (sym same) ∙ (sym (ap length (is.content ((hash q.last + d) % m))) ∙ (ap (λ (k : ℕ). length (in_bucket k ((hash q.last + d) % m) (map timed (newest_first q.content)))) same ∙ newest-count m ((hash q.last + d) % m) q.content)))
    (range_with_len 0 (visits m q.last (max q.last now))))
