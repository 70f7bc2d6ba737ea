-- What is due between two steps is possible: with Sections, each operation that an unblocked step asks for.
use Rattle.std.proofs.Common.{◌≡◌, ℕ, max, Bool, true, false, cond, refl, ap, arith, Option, Some, None, eq-eqb}
use Rattle.std.specs.Prelude.{is_some, ◌==◌, ◌&&◌}
use Rattle.std.specs.Prelude.{List}
use Rattle.co_object.specs.declared.QReply.{QReply}
use Rattle.co_object.specs.declared.QReply.TheVariants.{At}
use Rattle.co_object.specs.declared.Reply.{Reply}
use Rattle.co_object.specs.declared.Run.{Run}
use Rattle.co_object.specs.declared.Run.TheVariants as run
use Rattle.co_object.specs.declared.State.{State}
use Rattle.co_object.specs.Queue.{Queue, Due, holds}
use Rattle.co_object.specs.Journal as journal
use Rattle.co_object.specs.Serve.{begin_run, end_run, ended, go as go_run}
use Rattle.co_object.specs.declared.Reply.TheVariants.{Skip}
use Rattle.co_object.proofs.PassageOnce.{stands, stands-some}
use Rattle.co_object.proofs.QueueChanges.{inserted}
use Rattle.co_program.specs.declared.Role.{Role}
use Rattle.co_program.specs.declared.Role.TheVariants.{Client, Cpu, Interrupt}
use Rattle.co_program.specs.Action.{pop_of}
use Rattle.co_world.proofs.kept.Servers.{IsServer}
use Rattle.co_world.proofs.kept.Invariant.{IsTaken, IsOver, serving_of}

-- a callout that stands nowhere in the queue can be inserted
pub insert_possible : (q : Queue) (i n t : ℕ) → stands i q ≡ 0 → is_some (journal.insert q i n t) ≡ true
insert_possible q i n t empty = go (holds q i) refl where
  go : (b : Bool) → holds q i ≡ b → is_some {T = Queue × QReply} (cond b None (Some (inserted q i n t, At (max t q.last)))) ≡ true
  go true h = absurd (let some = stands-some i q h in omega arith)
  go false h = refl

-- a server that has no service can pop
pub pop_possible : (m : ℕ) (direct : List Bool) (q : Queue) (role : Role) → IsServer role → serving_of q role ≡ false → is_some (journal.step m direct q (pop_of role)) ≡ true
pop_possible m direct q (Client c) server free = absurd server
pop_possible m direct q (Cpu x) server free = go q.serving free where
  go : (o : Option Due) → is_some o ≡ false → is_some (journal.pop_unless q o) ≡ true
  go None h = refl
  go (Some d) h = cc
pop_possible m direct q (Interrupt x) server free = go q.directing free where
  go : (o : Option Due) → is_some o ≡ false → is_some (journal.pop_direct_unless q o) ≡ true
  go None h = refl
  go (Some d) h = cc

both : (a b n cpu : ℕ) → a ≡ n → b ≡ cpu → (a == n && b == cpu) ≡ true
both a b n cpu h k = go (a == n) (b == cpu) (eq-eqb a n h) (eq-eqb b cpu k) where
  go : (x y : Bool) → x ≡ true → y ≡ true → (x && y) ≡ true
  go true true p q = refl
  go x y p q = cc

-- a service that has its lock can begin
pub begin_possible : (state : State) (r : Run) (n cpu : ℕ) → IsTaken r n cpu → is_some (begin_run state r n cpu) ≡ true
begin_possible state run.Idle n cpu h = absurd h
begin_possible state (run.Picked a) n cpu h = ap (λ (b : Bool). is_some (cond b (Some (go_run state a)) None)) (both a.n a.cpu n cpu h.0 h.1)
begin_possible state (run.Cancelled m at) n cpu h = ap (λ (b : Bool). is_some {T = State × Reply} (cond b (Some (state, Skip)) None)) (both m at n cpu h.0 h.1)
begin_possible state (run.Running m at) n cpu h = absurd h

-- and one that is over can end
pub end_possible : (state : State) (r : Run) (n cpu : ℕ) → IsOver r n cpu → is_some (end_run state r n cpu) ≡ true
end_possible state run.Idle n cpu h = absurd h
end_possible state (run.Picked a) n cpu h = absurd h
end_possible state (run.Cancelled m at) n cpu h = ap (λ (b : Bool). is_some (cond b (Some (ended state cpu)) None)) (both m at n cpu h.0 h.1)
end_possible state (run.Running m at) n cpu h = ap (λ (b : Bool). is_some (cond b (Some (ended state cpu)) None)) (both m at n cpu h.0 h.1)
