-- What an operation keeps of a queue's lanes, and what holds of its entries.
use Rattle.std.proofs.Common.{◌≡◌, ℕ, ◌≤◌, Bool, true, false, cond, not, List, [], ◌∷◌, map, max, refl, ap, subst, arith, eq-eqb}
use Rattle.std.specs.Prelude.{⊤, ◌==◌}
use Rattle.std.specs.List.{filter}
use Rattle.co_object.specs.declared.QOp.{QOp}
use Rattle.co_object.specs.declared.QOp.TheVariants.{Pop, PopDirect}
use Rattle.co_object.specs.declared.QReply.{QReply}
use Rattle.co_object.specs.declared.QReply.TheVariants.{Got}
use Rattle.co_object.specs.Queue.{Waiting, Due, Queue}
use Rattle.co_object.specs.Scan.{is_direct, due_by, as_due}
use Rattle.co_object.proofs.Each.{Each, each-append, each-all, each-filter, each-map}
use Rattle.co_object.proofs.Passing.{passing, one_if}
use Rattle.co_object.proofs.QueueChanges.{QChange, inserts, removes, misses, scans, pops, finds_none, frees, pops_direct, finds_no_direct, frees_direct}
use Rattle.co_object.proofs.PassageOnce.{stands, balanced}
use Rattle.co_program.specs.declared.Script.{Script}
use Rattle.co_program.specs.declared.Role.{Role}
use Rattle.co_program.specs.declared.Role.TheVariants.{Client, Cpu, Interrupt}
use Rattle.co_program.specs.Action.{pop_of}
use Rattle.co_world.specs.Step.{are_direct}
use Rattle.co_world.proofs.kept.Invariant.{IsLane, serves_direct}
use Rattle.co_object.proofs.EntriesKept.{EntriesFit}
use Rattle.co_world.proofs.kept.Servers.{IsServer}

-- ---- lists

each_true : {X : Type 0} (xs : List X) → Each (λ x. ⊤) xs
each_true [] = tt
each_true (x ∷ xs) = (tt, each_true xs)

each_both : {X : Type 0} (P R : X → Type 0) (xs : List X) → Each P xs → Each R xs → Each (λ x. P x × R x) xs
each_both P R [] h k = tt
each_both P R (x ∷ xs) h k = ((h.0, k.0), each_both P R xs h.1 k.1)

-- each element counts itself
each_counted : {X : Type 0} (key : X → ℕ) (xs : List X) → Each (λ x. 1 ≤ passing (λ z. key z == key x) xs) xs
each_counted key [] = tt
each_counted key (x ∷ xs) = (
  (let one : one_if (λ z. key z == key x) x ≡ 1 = ap (λ (b : Bool). cond b 1 0) (eq-eqb (key x) (key x) refl) in omega arith),
  each-all (λ y. 1 ≤ passing (λ z. key z == key y) xs) (λ y. 1 ≤ passing (λ z. key z == key y) (x ∷ xs)) (λ y h. omega arith) xs (each_counted key xs),
)

not_so : (b : Bool) → not b ≡ true → b ≡ false
not_so true h = cc
not_so false h = refl

-- ---- lanes

module _ (s : Script) where
  pub lane_kept : (q : Queue) (op : QOp) (r : QReply) (t : Queue) → QChange s.buckets (are_direct s) q op r t → IsLane s q → IsLane s t
  lane_kept q op r t change lane = record {
    expired = (go q op r t change lane).0;
    urgent = (go q op r t change lane).1;
    once = λ i. (balanced i s.buckets (are_direct s) q op r t change (lane.once i)).0;
  } where
    Slow : Due → Type 0
    Slow d = is_direct (are_direct s) d.i ≡ false

    Fast : Due → Type 0
    Fast d = is_direct (are_direct s) d.i ≡ true

    go : (q : Queue) (op : QOp) (r : QReply) (t : Queue) → QChange s.buckets (are_direct s) q op r t → IsLane s q → Each (λ d. is_direct (are_direct s) d.i ≡ false) t.expired × Each (λ d. is_direct (are_direct s) d.i ≡ true) t.urgent
    go q op r t (inserts i n u free) lane = (lane.expired, lane.urgent)
    go q op r t (removes i held) lane = (
      each-filter (λ (d : Due). is_direct (are_direct s) d.i ≡ false) (λ d. is_direct (are_direct s) d.i ≡ false) (λ d. not (d.i == i)) (λ d k h. h) q.expired lane.expired,
      each-filter (λ (d : Due). is_direct (are_direct s) d.i ≡ true) (λ d. is_direct (are_direct s) d.i ≡ true) (λ d. not (d.i == i)) (λ d k h. h) q.urgent lane.urgent,
    )
    go q op r t (misses i) lane = (lane.expired, lane.urgent)
    go q op r t (scans now count) lane =
        let due : List Waiting = due_by s.buckets q (max q.last now) in (
          each-append (λ (d : Due). is_direct (are_direct s) d.i ≡ false) q.expired (map as_due (filter (λ w. not (is_direct (are_direct s) w.i)) due)) lane.expired
              (each-map (λ (d : Due). is_direct (are_direct s) d.i ≡ false) as_due (filter (λ w. not (is_direct (are_direct s) w.i)) due)
              (each-filter (λ (w : Waiting). ⊤) (λ w. is_direct (are_direct s) w.i ≡ false) (λ w. not (is_direct (are_direct s) w.i)) (λ w k h. not_so (is_direct (are_direct s) w.i) k) due (each_true due))),
          each-append (λ (d : Due). is_direct (are_direct s) d.i ≡ true) q.urgent (map as_due (filter (λ w. is_direct (are_direct s) w.i) due)) lane.urgent
              (each-map (λ (d : Due). is_direct (are_direct s) d.i ≡ true) as_due (filter (λ w. is_direct (are_direct s) w.i) due)
              (each-filter (λ (w : Waiting). ⊤) (λ w. is_direct (are_direct s) w.i ≡ true) (λ w. is_direct (are_direct s) w.i) (λ w k h. k) due (each_true due))),
        )
    go q op r t (pops d ds is) lane = ((subst (Each (λ (x : Due). is_direct (are_direct s) x.i ≡ false)) is lane.expired).1, lane.urgent)
    go q op r t finds_none lane = (lane.expired, lane.urgent)
    go q op r t frees lane = (lane.expired, lane.urgent)
    go q op r t (pops_direct d ds is) lane = (lane.expired, (subst (Each (λ (x : Due). is_direct (are_direct s) x.i ≡ true)) is lane.urgent).1)
    go q op r t finds_no_direct lane = (lane.expired, lane.urgent)
    go q op r t frees_direct lane = (lane.expired, lane.urgent)

  -- what a Pop answers is of the actor's lane
  pub lane_got : (role : Role) (q : Queue) (op : QOp) (r : QReply) (t : Queue) → IsServer role → op ≡ pop_of role → QChange s.buckets (are_direct s) q op r t → IsLane s q → (i n time : ℕ) → r ≡ Got i n time → is_direct (are_direct s) i ≡ serves_direct role
  lane_got role q op r t server is (inserts j m u free) lane i n time got = cc
  lane_got role q op r t server is (removes j held) lane i n time got = cc
  lane_got role q op r t server is (misses j) lane i n time got = cc
  lane_got role q op r t server is (scans now count) lane i n time got = cc
  lane_got role q op r t server is (pops d ds first) lane i n time got = go role server is where
    here : is_direct (are_direct s) i ≡ false
    here = let same : d.i ≡ i = cc in subst (λ (k : ℕ). is_direct (are_direct s) k ≡ false) same (subst (Each (λ (x : Due). is_direct (are_direct s) x.i ≡ false)) first lane.expired).0

    go : (x : Role) → IsServer x → Pop ≡ pop_of x → is_direct (are_direct s) i ≡ serves_direct x
    go (Client c) h e = absurd h
    go (Cpu c) h e = here
    go (Interrupt c) h e = cc
  lane_got role q op r t server is finds_none lane i n time got = cc
  lane_got role q op r t server is frees lane i n time got = cc
  lane_got role q op r t server is (pops_direct d ds first) lane i n time got = go role server is where
    here : is_direct (are_direct s) i ≡ true
    here = let same : d.i ≡ i = cc in subst (λ (k : ℕ). is_direct (are_direct s) k ≡ true) same (subst (Each (λ (x : Due). is_direct (are_direct s) x.i ≡ true)) first lane.urgent).0

    go : (x : Role) → IsServer x → PopDirect ≡ pop_of x → is_direct (are_direct s) i ≡ serves_direct x
    go (Client c) h e = absurd h
    go (Cpu c) h e = cc
    go (Interrupt c) h e = here
  lane_got role q op r t server is finds_no_direct lane i n time got = cc
  lane_got role q op r t server is frees_direct lane i n time got = cc

-- ---- entries

pub entries_all : (P R : ℕ → ℕ → ℕ → Type 0) → ((i n t : ℕ) → P i n t → R i n t) → (q : Queue) → EntriesFit P q → EntriesFit R q
entries_all P R f q fit = record {
  content = each-all (λ (w : Waiting). P w.i w.n w.t) (λ w. R w.i w.n w.t) (λ w h. f w.i w.n w.t h) q.content fit.content;
  expired = each-all (λ (d : Due). P d.i d.n q.last) (λ d. R d.i d.n q.last) (λ d h. f d.i d.n q.last h) q.expired fit.expired;
  urgent = each-all (λ (d : Due). P d.i d.n q.last) (λ d. R d.i d.n q.last) (λ d h. f d.i d.n q.last h) q.urgent fit.urgent;
}

pub entries_both : (P R : ℕ → ℕ → ℕ → Type 0) (q : Queue) → EntriesFit P q → EntriesFit R q → EntriesFit (λ i n t. P i n t × R i n t) q
entries_both P R q h k = record {
  content = each_both (λ (w : Waiting). P w.i w.n w.t) (λ w. R w.i w.n w.t) q.content h.content k.content;
  expired = each_both (λ (d : Due). P d.i d.n q.last) (λ d. R d.i d.n q.last) q.expired h.expired k.expired;
  urgent = each_both (λ (d : Due). P d.i d.n q.last) (λ d. R d.i d.n q.last) q.urgent h.urgent k.urgent;
}

-- each entry's callout stands in the queue
pub entries_stand : (q : Queue) → EntriesFit (λ i n t. 1 ≤ stands i q) q
entries_stand q = record {
  content = each-all (λ (w : Waiting). 1 ≤ passing (λ (z : Waiting). z.i == w.i) q.content) (λ w. 1 ≤ stands w.i q) (λ w h. omega arith) q.content (each_counted (λ (z : Waiting). z.i) q.content);
  expired = each-all (λ (d : Due). 1 ≤ passing (λ (z : Due). z.i == d.i) q.expired) (λ d. 1 ≤ stands d.i q) (λ d h. omega arith) q.expired (each_counted (λ (z : Due). z.i) q.expired);
  urgent = each-all (λ (d : Due). 1 ≤ passing (λ (z : Due). z.i == d.i) q.urgent) (λ d. 1 ≤ stands d.i q) (λ d h. omega arith) q.urgent (each_counted (λ (z : Due). z.i) q.urgent);
}
