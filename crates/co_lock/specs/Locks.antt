-- The client locks and their holds, as contracts see them.
use Rattle.std.specs.Prelude.{◌≡◌, ℕ, ◌+◌, ◌<◌, Bool, true, false, List, [], ◌∷◌, length, slice_get, Some}
use Rattle.co_lock.specs.declared.lock_kind.LockKind.{LockKind}
use Rattle.co_lock.specs.declared.lock_kind.LockKind.TheVariants as kind
use Rattle.co_lock.specs.declared.client_lock.ClientLock.{ClientLock}
use Rattle.co_lock.specs.declared.client_lock.Latch.{Latch}
use Rattle.co_lock.specs.declared.client_lock.Latch.TheVariants as latch
use Rattle.co_lock.specs.declared.client_lock.Guard.{Guard}
use Rattle.co_lock.specs.declared.client_lock.Guard.TheVariants.{Mtx, Write, Read}

abbrev pub latch_kind : Latch → LockKind
latch_kind (latch.Mtx l) = kind.Mtx
latch_kind (latch.Rw l) = kind.Rw

-- a lock of this number exists, and is a reader-writer lock where it is taken to read
abbrev pub CanBeHeld : List LockKind → (exclusive : Bool) → ℕ → Type 0
CanBeHeld kinds true id = id < length kinds
CanBeHeld kinds false id = slice_get kinds id ≡ Some kind.Rw

abbrev pub kind_of : ClientLock → LockKind
kind_of lock = latch_kind lock.latch

-- the locks know their numbers, which count on from this one
abbrev pub AreNumbered : ℕ → List ClientLock → Type 0
AreNumbered n [] = Unit {0}
AreNumbered n (lock ∷ locks) = (lock.number ≡ n) × AreNumbered (n + 1) locks

-- the guard excludes all others
abbrev pub excludes : Guard → Bool
excludes (Mtx guard) = true
excludes (Write guard) = true
excludes (Read guard) = false
