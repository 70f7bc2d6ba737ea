use Rattle.std.proofs.Common.{◌≡◌, map, take}
use Rattle.co_lock.specs.Locks.{kind_of, AreNumbered}
use Rattle.co_lock.proofs.client_locks.ClientLocks.new.Given as goal

abbrev pub invariant-loop-kind : goal.invariant-loop-kind
invariant-loop-kind l = record { kinds : map kind_of l.locks ≡ take l.kind-index l.kinds; numbers : AreNumbered 0 l.locks }
