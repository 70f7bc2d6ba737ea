-- The sizes that the tests let through are sizes of a queue, and the list of the direct callouts goes on as it is made.
use Rattle.std.proofs.Common.{◌≡◌, ℕ, ◌+◌, Bool, true, false, ◌==◌, ◌&&◌, ◌||◌, List, [], ◌∷◌, ◌++◌, map, length, refl, ap, sym, subst, ◌∙◌, arith, nat_le, nat_lt, lit≤}
use Rattle.std.specs.List.{list_any, range_with_len}
use Rattle.co_object.proofs.Each.{Each}
use Rattle.co_object.proofs.Numbers.{same_number}
use Rattle.co_bucket.proofs.Ranges.{range-more, length-range}
use Rattle.co_queue.specs.Timers.{IsWheel}
use Rattle.co_object.specs.Queue.{is_wheel_size}
use Rattle.co_embed.specs.Sizes.{are_sizes, directs}

any-of : (p : ℕ → Bool) (P : ℕ → Type 0) (xs : List ℕ) → Each P xs → list_any p xs ≡ true → (k : ℕ) × (p k ≡ true) × P k
any-of p P [] each h = absurd (no h) where
  no : false ≡ true → ⊥
  no h = cc
any-of p P (x ∷ xs) each h = at_test (p x) refl h (any-of p P xs each.1) where
  at_test : (b : Bool) → p x ≡ b → (p x || list_any p xs) ≡ true → (list_any p xs ≡ true → (k : ℕ) × (p k ≡ true) × P k) → (k : ℕ) × (p k ≡ true) × P k
  at_test true is h rest = (x, is, each.0)
  at_test false is h rest = rest (sym (ap (λ b. b || list_any p xs) is) ∙ h)

abbrev sizes : List ℕ
sizes = 16 ∷ 32 ∷ 64 ∷ 128 ∷ 256 ∷ 512 ∷ 1024 ∷ 2048 ∷ 4096 ∷ 8192 ∷ 16384 ∷ 32768 ∷ 65536 ∷ []

all-wheels : Each IsWheel sizes
all-wheels = ((lit≤ tt, lit≤ tt, (4, refl)), ((lit≤ tt, lit≤ tt, (5, refl)), ((lit≤ tt, lit≤ tt, (6, refl)), ((lit≤ tt, lit≤ tt, (7, refl)), ((lit≤ tt, lit≤ tt, (8, refl)), ((lit≤ tt, lit≤ tt, (9, refl)), ((lit≤ tt, lit≤ tt, (10, refl)), ((lit≤ tt, lit≤ tt, (11, refl)), ((lit≤ tt, lit≤ tt, (12, refl)), ((lit≤ tt, lit≤ tt, (13, refl)), ((lit≤ tt, lit≤ tt, (14, refl)), ((lit≤ tt, lit≤ tt, (15, refl)), ((lit≤ tt, lit≤ tt, (16, refl)), tt)))))))))))))

pub wheel-size : (n : ℕ) → is_wheel_size n ≡ true → IsWheel n
wheel-size n h = let k = any-of (λ size. n == size) IsWheel sizes all-wheels h in subst IsWheel (sym (same_number n k.0 k.1)) k.2

left : (x y : Bool) → (x && y) ≡ true → x ≡ true
left true y h = refl
left false y h = cc

right : (x y : Bool) → (x && y) ≡ true → y ≡ true
right true y h = h
right false y h = cc

pub wheel-of : (cpu buckets callouts direct : ℕ) → are_sizes cpu buckets callouts direct ≡ true → is_wheel_size buckets ≡ true
wheel-of cpu buckets callouts direct h =
    right (nat_lt cpu 4294967294) (is_wheel_size buckets) (left (nat_lt cpu 4294967294 && is_wheel_size buckets) (nat_le 1 callouts)
    (left (nat_lt cpu 4294967294 && is_wheel_size buckets && nat_le 1 callouts) (nat_le callouts 1048576)
    (left (nat_lt cpu 4294967294 && is_wheel_size buckets && nat_le 1 callouts && nat_le callouts 1048576) (nat_le direct callouts) h)))

map-append : (f : ℕ → Bool) (xs ys : List ℕ) → map f (xs ++ ys) ≡ map f xs ++ map f ys
map-append f [] ys = refl
map-append f (x ∷ xs) ys = ap (λ bs. f x ∷ bs) (map-append f xs ys)

pub directs-more : (first n : ℕ) → directs (n + 1) first ≡ directs n first ++ nat_le first n ∷ []
directs-more first n =
    ap (map (λ i. nat_le first i)) (range-more 0 n) ∙ map-append (λ i. nat_le first i) (range_with_len 0 n) ((0 + n) ∷ [])
    ∙ ap (λ k. directs n first ++ nat_le first k ∷ []) zero-on where
      zero-on : 0 + n ≡ n
      zero-on = omega arith

length-map : (f : ℕ → Bool) (xs : List ℕ) → length (map f xs) ≡ length xs
length-map f [] = refl
length-map f (x ∷ xs) = omega (arith, length-map f xs)

pub directs-long : (n first : ℕ) → length (directs n first) ≡ n
directs-long n first = length-map (λ i. nat_le first i) (range_with_len 0 n) ∙ length-range 0 n
