-- What a Pick, a Begin and an End, a Pop and a Free are answered.
use Rattle.std.proofs.Common.{◌≡◌, ℕ, ◌⊎◌, inl, inr, Bool, true, false, cond, ◌&&◌, ◌==◌, List, [], ◌∷◌, refl, sym, ap, Option, Some, None}
use Rattle.co_object.specs.declared.LockUse.{LockUse}
use Rattle.co_object.specs.declared.LockUse.TheVariants.{Free, Mtx, Rw, RwShared}
use Rattle.co_object.specs.declared.state.Arming.{Arming}
use Rattle.co_object.specs.declared.state.Run.{Run as RunState}
use Rattle.co_object.specs.declared.state.Run.TheVariants.{Idle, Picked, Cancelled, Running}
use Rattle.co_object.specs.declared.Spec.{Spec}
use Rattle.co_object.specs.declared.State.{State}
use Rattle.co_object.specs.declared.Next.{Next}
use Rattle.co_object.specs.declared.QReply.{QReply}
use Rattle.co_object.specs.declared.QReply.TheVariants.{Got, Empty, Freed}
use Rattle.co_object.specs.declared.Reply.{Reply}
use Rattle.co_object.specs.declared.Reply.TheVariants.{Go, Hold, Skip, Ended}
use Rattle.co_object.specs.Journal as journal
use Rattle.co_object.specs.Queue.{Queue, Due}
use Rattle.co_object.specs.Serve.{pick_armed, taken, go, is_due, has_lock, begin_run, end_run, ended as over_with}
use Rattle.co_object.specs.Stand.{is_idle}
use Rattle.co_lock.specs.declared.Held.{Held}
use Rattle.co_lock.specs.Service.{hold_of}
use Rattle.co_program.specs.declared.role.Role.{Role}
use Rattle.co_program.specs.declared.role.Role.TheVariants.{Client, Cpu, Interrupt}
use Rattle.co_program.specs.Action.{pop_of, free_of}
use Rattle.co_program.proofs.Options.{none-some, some-is}

-- a function, or a lock that is waited for
abbrev pub Picks : Spec → Reply → Type 0
Picks spec r = ((func : ℕ) × (arg : ℕ) × (r ≡ Go func arg)) ⊎ ((r ≡ Hold) × ((held : Held) × (hold_of spec.lock ≡ Some held)))

pub pick-replies : (spec : Spec) (t : State) (o : Option Arming) (n cpu at : ℕ) (after : State) (reply : Reply) → pick_armed spec t o n cpu at ≡ Some (after, reply) → Picks spec reply
pick-replies spec t None n cpu at after reply h = absurd (none-some {X = State × Reply} (after, reply) h)
pick-replies spec t (Some m) n cpu at after reply h = at_test (is_due m n cpu at && is_idle t.run) h where
  at_lock : (lock : LockUse) → (cond (has_lock lock) (record t { armed = None; run = Picked m }, Hold) (go (record t { armed = None }) m)).1 ≡ reply →
      ((func : ℕ) × (arg : ℕ) × (reply ≡ Go func arg)) ⊎ ((reply ≡ Hold) × ((held : Held) × (hold_of lock ≡ Some held)))
  at_lock Free g = inl (m.func, m.arg, sym g)
  at_lock (Mtx id) g = inr (sym g, (record { id = id; exclusive = true }, refl))
  at_lock (Rw id) g = inr (sym g, (record { id = id; exclusive = true }, refl))
  at_lock (RwShared id) g = inr (sym g, (record { id = id; exclusive = false }, refl))

  at_test : (b : Bool) → cond b (Some (taken spec t m)) None ≡ Some (after, reply) → Picks spec reply
  at_test true g = at_lock spec.lock (ap (λ (x : State × Reply). x.1) (some-is g))
  at_test false g = absurd (none-some {X = State × Reply} (after, reply) g)

abbrev pub Begins : Reply → Type 0
Begins r = ((func : ℕ) × (arg : ℕ) × (r ≡ Go func arg)) ⊎ (r ≡ Skip)

pub begin-replies : (t : State) (r : RunState) (n cpu : ℕ) (after : State) (reply : Reply) → begin_run t r n cpu ≡ Some (after, reply) → Begins reply
begin-replies t Idle n cpu after reply h = absurd (none-some {X = State × Reply} (after, reply) h)
begin-replies t (Running m at) n cpu after reply h = absurd (none-some {X = State × Reply} (after, reply) h)
begin-replies t (Picked m) n cpu after reply h = at_test (m.n == n && m.cpu == cpu) h where
  at_test : (b : Bool) → cond b (Some (go t m)) None ≡ Some (after, reply) → Begins reply
  at_test true g = inl (m.func, m.arg, sym (ap (λ (x : State × Reply). x.1) (some-is g)))
  at_test false g = absurd (none-some {X = State × Reply} (after, reply) g)
begin-replies t (Cancelled m at) n cpu after reply h = at_test (m == n && at == cpu) h where
  at_test : (b : Bool) → cond {A = Option (State × Reply)} b (Some (t, Skip)) None ≡ Some (after, reply) → Begins reply
  at_test true g = inr (sym (ap (λ (x : State × Reply). x.1) (some-is g)))
  at_test false g = absurd (none-some {X = State × Reply} (after, reply) g)

abbrev Ends : Reply → Type 0
Ends r = (drain : Option ℕ) × (next : Option Next) × (woke : Bool) × (r ≡ Ended drain next woke)

pub end-replies : (t : State) (r : RunState) (n cpu : ℕ) (after : State) (reply : Reply) → end_run t r n cpu ≡ Some (after, reply) → Ends reply
end-replies t Idle n cpu after reply h = absurd (none-some {X = State × Reply} (after, reply) h)
end-replies t (Picked m) n cpu after reply h = absurd (none-some {X = State × Reply} (after, reply) h)
end-replies t (Cancelled m at) n cpu after reply h = at_test (m == n && at == cpu) h where
  at_test : (b : Bool) → cond b (Some (over_with t cpu)) None ≡ Some (after, reply) → Ends reply
  at_test true g = (_, _, _, sym (ap (λ (x : State × Reply). x.1) (some-is g)))
  at_test false g = absurd (none-some {X = State × Reply} (after, reply) g)
end-replies t (Running m at) n cpu after reply h = at_test (m == n && at == cpu) h where
  at_test : (b : Bool) → cond b (Some (over_with t cpu)) None ≡ Some (after, reply) → Ends reply
  at_test true g = (_, _, _, sym (ap (λ (x : State × Reply). x.1) (some-is g)))
  at_test false g = absurd (none-some {X = State × Reply} (after, reply) g)

-- nothing, or an arming
abbrev pub Pops : QReply → Type 0
Pops r = (r ≡ Empty) ⊎ ((i : ℕ) × (n : ℕ) × (at : ℕ) × (r ≡ Got i n at))

pub pop-replies : (m : ℕ) (direct : List Bool) (role : Role) (q : Queue) (r : QReply) → journal.reply_of (journal.step m direct q (pop_of role)) ≡ Some r → Pops r
pop-replies m direct role q r h = at_role role h where
  soft : (ds : List Due) → journal.reply_of (Some (journal.pop_first q ds)) ≡ Some r → Pops r
  soft [] g = inl (sym (some-is g))
  soft (d ∷ ds) g = inr (d.i, d.n, q.last, sym (some-is g))

  hard : (ds : List Due) → journal.reply_of (Some (journal.pop_urgent q ds)) ≡ Some r → Pops r
  hard [] g = inl (sym (some-is g))
  hard (d ∷ ds) g = inr (d.i, d.n, q.last, sym (some-is g))

  plain : (o : Option Due) → journal.reply_of (journal.pop_unless q o) ≡ Some r → Pops r
  plain None g = soft q.expired g
  plain (Some d) g = absurd (none-some r g)

  urgent : (o : Option Due) → journal.reply_of (journal.pop_direct_unless q o) ≡ Some r → Pops r
  urgent None g = hard q.urgent g
  urgent (Some d) g = absurd (none-some r g)

  at_role : (role : Role) → journal.reply_of (journal.step m direct q (pop_of role)) ≡ Some r → Pops r
  at_role (Client c) g = plain q.serving g
  at_role (Cpu x) g = plain q.serving g
  at_role (Interrupt x) g = urgent q.directing g

pub free-replies : (m : ℕ) (direct : List Bool) (role : Role) (q : Queue) (r : QReply) → journal.reply_of (journal.step m direct q (free_of role)) ≡ Some r → r ≡ Freed
free-replies m direct role q r h = at_role role h where
  plain : (o : Option Due) → journal.reply_of (journal.free_if q o) ≡ Some r → r ≡ Freed
  plain None g = absurd (none-some r g)
  plain (Some d) g = sym (some-is g)

  urgent : (o : Option Due) → journal.reply_of (journal.free_direct_if q o) ≡ Some r → r ≡ Freed
  urgent None g = absurd (none-some r g)
  urgent (Some d) g = sym (some-is g)

  at_role : (role : Role) → journal.reply_of (journal.step m direct q (free_of role)) ≡ Some r → r ≡ Freed
  at_role (Client c) g = plain q.serving g
  at_role (Cpu x) g = plain q.serving g
  at_role (Interrupt x) g = urgent q.directing g
