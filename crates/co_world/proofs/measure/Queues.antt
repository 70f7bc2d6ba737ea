-- What an operation on a queue leaves to do, of the queue and of the actor that makes it.
use Rattle.std.proofs.Common.{◌≡◌, ℕ, suc, ◌+◌, ◌*◌, ◌≤◌, Bool, true, false, cond, List, [], ◌∷◌, length, refl, sym, ap, subst, ◌∙◌, arith, not, Option}
use Rattle.std.specs.Prelude.{◌==◌}
use Rattle.std.specs.List.{filter}
use Rattle.std.proofs.Math.Nat.{mul-suc, mul-le-mul_left, mul_comm}
use Rattle.co_object.specs.declared.State.{State}
use Rattle.co_object.specs.declared.QOp.{QOp}
use Rattle.co_object.specs.declared.QOp.TheVariants.{Scan, Pop, PopDirect}
use Rattle.co_object.specs.declared.QReply.{QReply}
use Rattle.co_object.specs.declared.QReply.TheVariants.{Got, Empty}
use Rattle.co_object.specs.Queue.{Queue as TimerQueue, Due}
use Rattle.co_object.proofs.QueueChanges.{QChange}
use Rattle.co_object.proofs.QueueChanges as change
use Rattle.co_lock.specs.declared.held.Held.{Held}
use Rattle.co_program.specs.declared.Script.{Script}
use Rattle.co_program.specs.declared.Act.TheVariants.{Tick}
use Rattle.co_program.specs.declared.Task.{Task}
use Rattle.co_program.specs.declared.Task.TheVariants.{Does, Soft}
use Rattle.co_program.specs.declared.Role.{Role}
use Rattle.co_program.specs.declared.Role.TheVariants.{Client, Cpu, Interrupt}
use Rattle.co_program.specs.Stages.{Stage, Ready, Popping, Freeing}
use Rattle.co_program.specs.declared.InService.{InService}
use Rattle.co_program.specs.Cursor.{Cursor}
use Rattle.co_program.specs.declared.PendingInsert.{PendingInsert}
use Rattle.co_program.specs.Action.{Asks, pop_of, free_of}
use Rattle.co_program.specs.declared.Asked.TheVariants.{Queue}
use Rattle.co_program.specs.Advance.{tail_of, advance_queue, pop_answered, drain_acts, parcel_of}
use Rattle.co_world.specs.Measure.{whole_round, whole_act, steps_left, actor_left, queue_left}
use Rattle.co_world.proofs.basics.Actions.{IsAction, scans, starts, pops, frees}
use Rattle.co_world.proofs.kept.Stages.{place, pop_goes, free_goes}
use Rattle.co_world.proofs.measure.Actors.{three_left, round_pick, one_tail, at_most_one, draining_left, longest_drain}

-- ---- the callouts that have come due

abbrev pub crowd : TimerQueue → ℕ
crowd q = length q.expired + length q.urgent

abbrev pub is_scan : QOp → Bool
is_scan (Scan now) = true
is_scan op = false

abbrev pub is_pop : QOp → Bool
is_pop Pop = true
is_pop PopDirect = true
is_pop op = false

length_filter : {X : Type 0} (keep : X → Bool) (xs : List X) → length (filter keep xs) ≤ length xs
length_filter keep [] = omega arith
length_filter keep (x ∷ xs) = go (keep x) (length_filter keep xs) where
  go : (b : Bool) → length (filter keep xs) ≤ length xs → length (cond b (x ∷ filter keep xs) (filter keep xs)) ≤ suc (length xs)
  go true rest = omega arith
  go false rest = omega arith

module _ (m : ℕ) (direct : List Bool) where
  -- a scan alone makes them more
  pub crowd_falls : (q : TimerQueue) (op : QOp) (r : QReply) (t : TimerQueue) → QChange m direct q op r t → is_scan op ≡ false → crowd t ≤ crowd q
  crowd_falls q op r t (change.inserts i n u free) h = omega arith
  crowd_falls q op r t (change.removes i held) h = omega (arith, length_filter (λ (d : Due). not (d.i == i)) q.expired, length_filter (λ (d : Due). not (d.i == i)) q.urgent)
  crowd_falls q op r t (change.misses i) h = omega arith
  crowd_falls q op r t (change.scans now count) h = cc
  crowd_falls q op r t (change.pops d ds is) h = omega (arith, ap length is)
  crowd_falls q op r t change.finds_none h = omega arith
  crowd_falls q op r t change.frees h = omega arith
  crowd_falls q op r t (change.pops_direct d ds is) h = omega (arith, ap length is)
  crowd_falls q op r t change.finds_no_direct h = omega arith
  crowd_falls q op r t change.frees_direct h = omega arith

  -- a Pop takes one of them, or finds none
  pub data HasPopped (q : TimerQueue) : QReply → TimerQueue → Type 0 where
    one : (i n time : ℕ) (t : TimerQueue) → crowd q ≡ suc (crowd t) → HasPopped q (Got i n time) t
    empty : HasPopped q Empty q

  pub has_popped : (q : TimerQueue) (op : QOp) (r : QReply) (t : TimerQueue) → QChange m direct q op r t → is_pop op ≡ true → HasPopped q r t
  has_popped q op r t (change.inserts i n u free) h = cc
  has_popped q op r t (change.removes i held) h = cc
  has_popped q op r t (change.misses i) h = cc
  has_popped q op r t (change.scans now count) h = cc
  has_popped q op r t (change.pops d ds is) h = one d.i d.n q.last _ (omega (arith, ap length is))
  has_popped q op r t change.finds_none h = empty
  has_popped q op r t change.frees h = cc
  has_popped q op r t (change.pops_direct d ds is) h = one d.i d.n q.last _ (omega (arith, ap length is))
  has_popped q op r t change.finds_no_direct h = empty
  has_popped q op r t change.frees_direct h = cc

-- a scan may bring each callout to service
many_left : (s : Script) (n : ℕ) → n ≤ length s.timers → whole_round s * n + 3 ≤ whole_act s
unfolding whole_act
many_left s n few = omega (arith, mul-le-mul_left (whole_round s) few, mul_comm (length s.timers) (whole_round s))

pub queue_falls : (s : Script) (q t : TimerQueue) → crowd t ≤ crowd q → queue_left s t ≤ queue_left s q
queue_falls s q t few = mul-le-mul_left (whole_round s) few

-- ---- an operation, and where it leaves its actor

pop_pops : (role : Role) → is_pop (pop_of role) ≡ true
pop_pops (Client k) = refl
pop_pops (Cpu x) = refl
pop_pops (Interrupt x) = refl

pub free_scans_none : (role : Role) → is_scan (free_of role) ≡ false
free_scans_none (Client k) = refl
free_scans_none (Cpu x) = refl
free_scans_none (Interrupt x) = refl

module _ (s : Script) (role : Role) (left : List Task) (number now : ℕ) (held : Option Held) (removed : Option ℕ) (parcel : Option PendingInsert) (states : ℕ → State) where
  abbrev at : Stage → Cursor
  at stage = place left number now held stage removed parcel

  -- the actor and its queue have less to do
  abbrev Leave : TimerQueue → TimerQueue → Stage → Cursor → Type 0
  Leave q t stage to = actor_left s states to + queue_left s t + 1 ≤ actor_left s states (at stage) + queue_left s q

  got_leaves : (m : ℕ) (direct : List Bool) (q : TimerQueue) (reply : QReply) (t : TimerQueue) (n act : ℕ) (stage : Stage) → HasPopped m direct q reply t → whole_act s * length (tail_of left) + 1 ≤ steps_left s states left stage → Leave q t stage (pop_answered (place left n now held stage removed parcel) act reply)
  got_leaves m direct q reply t n act stage (one i k time u fewer) begun =
      let v : InService = record { act = act; i = i; n = k; at = time } in
      let before : whole_round s * crowd q ≡ whole_round s * crowd u + whole_round s = ap (λ (x : ℕ). whole_round s * x) fewer ∙ mul-suc (whole_round s) (crowd u) in
      omega (arith, before, round_pick s v, begun)
  got_leaves m direct q reply t n act stage empty begun = omega (arith, begun)

  pub queue_leaves : (m : ℕ) (direct : List Bool) (q t : TimerQueue) (stage : Stage) (act cpu : ℕ) (op : QOp) (reply : QReply) → IsAction s role (at stage) stage (Asks act (Queue cpu op)) → QChange m direct q op reply t → (is_scan op ≡ true → crowd t ≤ length s.timers) →
      Leave q t stage (advance_queue s (at stage) cpu op reply)
  queue_leaves m direct q t stage act cpu op reply (scans time more is) did few = omega (arith, many_left s (crowd t) (few refl), one_tail s left more (Does (Tick time)) is)
  queue_leaves m direct q t stage act cpu op reply (starts j more is) did few =
      subst (Leave q t Ready) (sym (pop_goes s role (at Ready) cpu reply)) (got_leaves m direct q reply t (number + 1) number Ready (has_popped m direct q op reply t did (pop_pops role)) (omega (arith, one_tail s left more (Soft j) is, three_left s)))
  queue_leaves m direct q t stage act cpu op reply (pops act') did few =
      subst (Leave q t (Popping act')) (sym (pop_goes s role (at (Popping act')) cpu reply)) (got_leaves m direct q reply t number act' (Popping act') (has_popped m direct q op reply t did (pop_pops role)) (omega arith))
  queue_leaves m direct q t stage act cpu op reply (frees v drain next) did few =
      subst (Leave q t (Freeing v drain next)) (sym (free_goes s role (at (Freeing v drain next)) cpu reply))
      (omega (arith, draining_left s states left v (drain_acts s drain), longest_drain s drain, at_most_one (parcel_of v next), queue_falls s q t (crowd_falls m direct q op reply t did (free_scans_none role))))
