-- What has expired is not direct, and what is urgent is: so in each lane what is in service is the lane's.
use Rattle.std.proofs.Common.{◌≡◌, ℕ, Bool, true, false, cond, not, List, [], ◌∷◌, ◌++◌, map, max, refl, ◌∙◌, subst, zero, suc}
use Rattle.std.specs.Prelude.{slice_index_or}
use Rattle.std.specs.List.{filter, fold}
use Rattle.std.specs.declared.option.Option.{Option}
use Rattle.std.specs.declared.option.Option.TheVariants.{Some, None}
use Rattle.co_object.specs.declared.note.QEntry.{QEntry}
use Rattle.co_object.specs.declared.queue.QOp.{QOp}
use Rattle.co_object.specs.declared.queue.QReply.{QReply}
use Rattle.co_object.specs.declared.queue.QReply.TheVariants.{Got}
use Rattle.co_object.specs.declared.spec.Spec.{Spec}
use Rattle.co_object.specs.Actors.{Actors}
use Rattle.co_object.specs.Journal as journal
use Rattle.co_object.specs.Machine.{IsLegalFrom}
use Rattle.co_object.specs.Queue.{Waiting, Due, Queue, empty_queue}
use Rattle.co_object.specs.Scan.{as_due, due_by, is_direct}
use Rattle.co_object.proofs.QueueChanges.{QChange, inserts, removes, misses, scans, pops, finds_none, frees, pops_direct, finds_no_direct, frees_direct}
use Rattle.co_object.proofs.QueueChanges as queue
use Rattle.co_wheel.specs.Turns.{pop_of}
use Rattle.co_desk.specs.declared.params.Params.{Params}
use Rattle.co_desk.specs.Params.{directs, no_spec, spec_at}
use Rattle.co_desk.specs.Serving.{served, slot}
use Rattle.co_desk.proofs.Serving.{slot_after}

module _ (direct : List Bool) where
  abbrev AreOf : Bool → List Due → Type 0
  AreOf lane [] = Unit {0}
  AreOf lane (d ∷ ds) = (is_direct direct d.i ≡ lane) × AreOf lane ds

  abbrev IsOf : Bool → Option Due → Type 0
  IsOf lane None = Unit {0}
  IsOf lane (Some d) = is_direct direct d.i ≡ lane

  record AreLaned (q : Queue) : Type 0 where
    expired : AreOf false q.expired
    urgent : AreOf true q.urgent
    serving : IsOf false q.serving
    directing : IsOf true q.directing

  kept_one : (lane b : Bool) (d : Due) (ds : List Due) → is_direct direct d.i ≡ lane → AreOf lane ds → AreOf lane (cond b (d ∷ ds) ds)
  kept_one lane true d ds h rest = (h, rest)
  kept_one lane false d ds h rest = rest

  kept_all : (lane : Bool) (test : Due → Bool) (ds : List Due) → AreOf lane ds → AreOf lane (filter test ds)
  kept_all lane test [] h = tt
  kept_all lane test (d ∷ ds) h = kept_one lane (test d) d (filter test ds) h.0 (kept_all lane test ds h.1)

  both_lists : (lane : Bool) (ds es : List Due) → AreOf lane ds → AreOf lane es → AreOf lane (ds ++ es)
  both_lists lane [] es h k = k
  both_lists lane (d ∷ ds) es h k = (h.0, both_lists lane ds es h.1 k)

  slow_one : (b : Bool) (w : Waiting) (ws : List Waiting) → is_direct direct w.i ≡ b → AreOf false (map as_due ws) → AreOf false (map as_due (cond (not b) (w ∷ ws) ws))
  slow_one true w ws h rest = rest
  slow_one false w ws h rest = (h, rest)

  slow_all : (ws : List Waiting) → AreOf false (map as_due (filter (λ w. not (is_direct direct w.i)) ws))
  slow_all [] = tt
  slow_all (w ∷ ws) = slow_one (is_direct direct w.i) w (filter (λ w. not (is_direct direct w.i)) ws) refl (slow_all ws)

  fast_one : (b : Bool) (w : Waiting) (ws : List Waiting) → is_direct direct w.i ≡ b → AreOf true (map as_due ws) → AreOf true (map as_due (cond b (w ∷ ws) ws))
  fast_one true w ws h rest = (h, rest)
  fast_one false w ws h rest = rest

  fast_all : (ws : List Waiting) → AreOf true (map as_due (filter (λ w. is_direct direct w.i) ws))
  fast_all [] = tt
  fast_all (w ∷ ws) = fast_one (is_direct direct w.i) w (filter (λ w. is_direct direct w.i) ws) refl (fast_all ws)

  laned_after : (m : ℕ) (q : Queue) (op : QOp) (r : QReply) (t : Queue) → QChange m direct q op r t → AreLaned q → AreLaned t
  laned_after m q op r t (inserts i n at free) l = record { expired = l.expired; urgent = l.urgent; serving = l.serving; directing = l.directing }
  laned_after m q op r t (removes i stood) l = record { expired = kept_all false _ q.expired l.expired; urgent = kept_all true _ q.urgent l.urgent; serving = l.serving; directing = l.directing }
  laned_after m q op r t (misses i) l = l
  laned_after m q op r t (scans now count) l =
      let due : List Waiting = due_by m q (max q.last now) in
      record { expired = both_lists false q.expired _ l.expired (slow_all due); urgent = both_lists true q.urgent _ l.urgent (fast_all due); serving = l.serving; directing = l.directing }
  laned_after m q op r t (pops d ds first) l =
      let all : AreOf false (d ∷ ds) = subst (AreOf false) first l.expired in record { expired = all.1; urgent = l.urgent; serving = all.0; directing = l.directing }
  laned_after m q op r t finds_none l = l
  laned_after m q op r t frees l = record { expired = l.expired; urgent = l.urgent; serving = tt; directing = l.directing }
  laned_after m q op r t (pops_direct d ds first) l =
      let all : AreOf true (d ∷ ds) = subst (AreOf true) first l.urgent in record { expired = l.expired; urgent = all.1; serving = l.serving; directing = all.0 }
  laned_after m q op r t finds_no_direct l = l
  laned_after m q op r t frees_direct l = record { expired = l.expired; urgent = l.urgent; serving = l.serving; directing = tt }

  laned_next : (m : ℕ) (q : Queue) (op : QOp) (r : QReply) → journal.reply_of (journal.step m direct q op) ≡ Some r → AreLaned q → AreLaned (journal.queue_of (journal.step m direct q op) q)
  laned_next m q op r h l = laned_after m q op r _ (queue.change m direct q op r h) l

  laned_from : (m : ℕ) (actors : Actors) (cpu : ℕ) (J : List QEntry) (q : Queue) → IsLegalFrom (journal.next m direct) (journal.May actors cpu m direct) q J → AreLaned q → AreLaned (fold (journal.next m direct) q J)
  laned_from m actors cpu [] q legal l = l
  laned_from m actors cpu (e ∷ J) q legal l = laned_from m actors cpu J (journal.next m direct q e) legal.1 (laned_next m q e.op e.reply legal.0.0 l)

  laned : (m : ℕ) (actors : Actors) (cpu : ℕ) (J : List QEntry) → journal.IsLegalQueue actors cpu m direct J → AreLaned (journal.queue m direct J)
  laned m actors cpu J legal = laned_from m actors cpu J empty_queue legal record { expired = tt; urgent = tt; serving = tt; directing = tt }

  of_slot : (lane : Bool) (q : Queue) → AreLaned q → IsOf lane (slot lane q)
  of_slot false q l = l.serving
  of_slot true q l = l.directing

  pub serves_lane : (m : ℕ) (actors : Actors) (cpu : ℕ) (J : List QEntry) (lane : Bool) (d : Due) → journal.IsLegalQueue actors cpu m direct J → slot lane (journal.queue m direct J) ≡ Some d → is_direct direct d.i ≡ lane
  serves_lane m actors cpu J lane d legal is = subst (IsOf lane) is (of_slot lane (journal.queue m direct J) (laned m actors cpu J legal))

  got_slot : (lane : Bool) (s : Option Due) (i n at : ℕ) → served lane s (pop_of lane) (Got i n at) ≡ Some (record { i = i; n = n })
  got_slot false s i n at = refl
  got_slot true s i n at = refl

  -- what is taken from a lane is the lane's
  pub popped_lane : (m : ℕ) (actors : Actors) (cpu : ℕ) (J : List QEntry) (lane : Bool) (i n at : ℕ) → journal.IsLegalQueue actors cpu m direct J
      → journal.reply_of (journal.step m direct (journal.queue m direct J) (pop_of lane)) ≡ Some (Got i n at) → is_direct direct i ≡ lane
  popped_lane m actors cpu J lane i n at legal h =
      let q : Queue = journal.queue m direct J in
      subst (IsOf lane)
      (slot_after m direct lane q (pop_of lane) (Got i n at) _ (queue.change m direct q (pop_of lane) (Got i n at) h) ∙ got_slot lane (slot lane q) i n at)
      (of_slot lane _ (laned_next m q (pop_of lane) (Got i n at) h (laned m actors cpu J legal)))

lane_of : (specs : List Spec) (i : ℕ) → is_direct (map (λ (s : Spec). s.direct) specs) i ≡ (slice_index_or specs i no_spec).direct
lane_of [] i = refl
lane_of (s ∷ ss) zero = refl
lane_of (s ∷ ss) (suc i) = lane_of ss i

-- a callout is direct exactly where the queue says so of its number
pub direct_spec : (p : Params) (i : ℕ) → is_direct (directs p) i ≡ (spec_at p i).direct
direct_spec p i = lane_of p.specs i
