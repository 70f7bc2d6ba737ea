-- Locks that count on: one more at the end, and what the lock at a place is.
use Rattle.std.proofs.Common.{◌≡◌, ◌∙◌, sym, ap, ℕ, zero, suc, ◌+◌, ◌<◌, List, [], ◌∷◌, ◌++◌, length, map, get_or, arith, Some, slice_get}
use Rattle.std.proofs.lemmas.List.{length-map}
use Rattle.co_lock.specs.declared.lock_kind.LockKind.{LockKind}
use Rattle.co_lock.specs.declared.client_lock.ClientLock.{ClientLock}
use Rattle.co_lock.specs.Locks.{AreNumbered, kind_of}

pub one_more : (n : ℕ) (locks : List ClientLock) (lock : ClientLock) → AreNumbered n locks → lock.number ≡ n + length locks → AreNumbered n (locks ++ lock ∷ [])
one_more n [] lock numbered at = (omega (arith, at), tt)
one_more n (l ∷ ls) lock numbered at = (numbered.0, one_more (n + 1) ls lock numbered.1 (omega (arith, at)))

number_at : (n : ℕ) (locks : List ClientLock) (i : ℕ) (lock : ClientLock) → AreNumbered n locks → i < length locks → lock ≡ get_or locks i lock → lock.number ≡ n + i
number_at n [] i lock numbered below at = omega (arith, below)
number_at n (l ∷ ls) zero lock numbered below at = omega (arith, numbered.0, ap (λ (x : ClientLock). x.number) at)
number_at n (l ∷ ls) (suc i) lock numbered below at = omega (arith, number_at (n + 1) ls i lock numbered.1 (omega (arith, below)) at)

pub number_in : (locks : List ClientLock) (kinds : List LockKind) (i : ℕ) (lock : ClientLock) → AreNumbered 0 locks → map kind_of locks ≡ kinds → i < length kinds → lock ≡ get_or locks i lock → lock.number ≡ i
number_in locks kinds i lock numbered are below at =
    let short = sym (length-map locks kind_of) ∙ ap length are in
    omega (arith, number_at 0 locks i lock numbered (omega (arith, below, short)) at)

pub kind_at : (locks : List ClientLock) (i : ℕ) (lock : ClientLock) (kind : LockKind) → slice_get (map kind_of locks) i ≡ Some kind → lock ≡ get_or locks i lock → kind_of lock ≡ kind
kind_at [] i lock kind found at = cc found
kind_at (l ∷ ls) zero lock kind found at = ap kind_of at ∙ cc found
kind_at (l ∷ ls) (suc i) lock kind found at = kind_at ls i lock kind found at
