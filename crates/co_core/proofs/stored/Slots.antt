-- An operation that takes nothing into service and ends none leaves the slots.
use Rattle.std.proofs.Common.{◌≡◌, ℕ, ◌⊎◌, inl, inr, Bool, List, refl, sym, ap, ◌∙◌, subst, Option, Some, None}
use Rattle.co_object.specs.declared.State.{State}
use Rattle.co_object.specs.declared.QOp.{QOp}
use Rattle.co_object.specs.declared.QOp.TheVariants.{Pop, Free, PopDirect, FreeDirect}
use Rattle.co_object.specs.declared.QReply.{QReply}
use Rattle.co_object.specs.Journal as journal
use Rattle.co_object.specs.Queue.{Queue as TimerQueue}
use Rattle.co_program.specs.declared.role.Role.{Role}
use Rattle.co_program.specs.declared.role.Role.TheVariants as role
use Rattle.co_program.specs.Cursor.{Cursor}
use Rattle.co_world.specs.World.{World}
use Rattle.co_world.specs.Placed.{server_slot}
use Rattle.co_world.proofs.kept.Invariant.{queues_of}
use Rattle.co_world.proofs.basics.Changes.{decide}
use Rattle.co_world.proofs.kept.Passages.{changed, serving_stays, directing_stays}
use Rattle.co_world.proofs.sections.Ways.{Goes}
use Rattle.co_core.proofs.tables.Options.{some_is}

-- an operation that takes nothing into service and ends none leaves the slots
pub quiet_slots : (m : ℕ) (direct : List Bool) (q : TimerQueue) (op : QOp) (o : TimerQueue × QReply) → journal.step m direct q op ≡ Some o → (op ≡ Pop → ⊥) → (op ≡ Free → ⊥) → (op ≡ PopDirect → ⊥) → (op ≡ FreeDirect → ⊥) →
    (ro : Role) → server_slot ro o.0 ≡ server_slot ro q
quiet_slots m direct q op o is a b c d (role.Client k) = refl
quiet_slots m direct q op o is a b c d (role.Cpu y) = serving_stays m direct q op o.1 o.0 (changed m direct q op o is) a b
quiet_slots m direct q op o is a b c d (role.Interrupt y) = directing_stays m direct q op o.1 o.0 (changed m direct q op o is) c d

-- the queue after an operation that has this reply
pub answered_so : (o : Option (TimerQueue × QReply)) (q : TimerQueue) (reply : QReply) → journal.reply_of o ≡ Some reply → o ≡ Some (journal.queue_of o q, reply)
answered_so None q reply is = cc
answered_so (Some p) q reply is = ap (λ (y : QReply). Some (p.0, y)) (some_is p.1 reply is)

-- the slots of all queues are as before
pub all_slots : (w w' : World) (i cpu a : ℕ) (state : State) (stand : ℕ) (queue : TimerQueue) (place : Cursor) → Goes w w' i cpu a state stand queue place → ((ro : Role) → server_slot ro queue ≡ server_slot ro (queues_of w cpu)) →
    (ro : Role) (y : ℕ) → server_slot ro (queues_of w' y) ≡ server_slot ro (queues_of w y)
all_slots w w' i cpu a state stand queue place goes quiet ro y = go (decide y cpu) where
  go : (y ≡ cpu) ⊎ (y ≡ cpu → ⊥) → server_slot ro (queues_of w' y) ≡ server_slot ro (queues_of w y)
  go (inl same) = subst (λ k. server_slot ro (queues_of w' k) ≡ server_slot ro (queues_of w k)) (sym same) (ap (server_slot ro) goes.queues.here ∙ quiet ro)
  go (inr other) = ap (server_slot ro) (goes.queues.else y other)
