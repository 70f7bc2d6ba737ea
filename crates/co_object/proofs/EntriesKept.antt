-- What holds of each entry of a timer queue, whatever the times at which it is not due after: it holds after each operation
-- where it does of what is inserted, and of what a Pop answers.
use Rattle.std.proofs.Common.{◌≡◌, ℕ, ◌≤◌, Bool, true, false, cond, not, List, [], ◌∷◌, map, max, refl, subst, arith}
use Rattle.std.specs.Prelude.{◌==◌, nat_le, nat_lt}
use Rattle.std.specs.List.{filter}
use Rattle.std.proofs.lemmas.Bool.Decides.{nat_tests}
use Rattle.co_object.specs.declared.queue.QOp.{QOp}
use Rattle.co_object.specs.declared.queue.QOp.TheVariants.{Insert}
use Rattle.co_object.specs.declared.queue.QReply.{QReply}
use Rattle.co_object.specs.declared.queue.QReply.TheVariants.{Got}
use Rattle.co_object.specs.Queue.{Waiting, Due, Queue}
use Rattle.co_object.specs.Scan.{is_direct, in_order, put_in_order, comes_first, due_by, as_due}
use Rattle.co_object.proofs.Each.{Each, each-append, each-all, each-filter, each-map}
use Rattle.co_object.proofs.QueueChanges.{QChange, inserts, removes, misses, scans, pops, finds_none, frees, pops_direct, finds_no_direct, frees_direct}

-- each entry of a queue fits: its callout, its arming, and a time that it is not due after
pub record EntriesFit (P : ℕ → ℕ → ℕ → Type 0) (q : Queue) : Type 0 where
  pub content : Each (λ w. P w.i w.n w.t) q.content
  pub expired : Each (λ d. P d.i d.n q.last) q.expired
  pub urgent : Each (λ d. P d.i d.n q.last) q.urgent

each_put : (P : Waiting → Type 0) (m last : ℕ) (x : Waiting) (ys : List Waiting) → P x → Each P ys → Each P (put_in_order m last x ys)
each_put P m last x [] p h = (p, tt)
each_put P m last x (y ∷ ys) p h = go (comes_first m last x y) (each_put P m last x ys p h.1) where
  go : (b : Bool) → Each P (put_in_order m last x ys) → Each P (cond b (x ∷ y ∷ ys) (y ∷ put_in_order m last x ys))
  go true rest = (p, h)
  go false rest = (h.0, rest)

each_order : (P : Waiting → Type 0) (m last : ℕ) (xs : List Waiting) → Each P xs → Each P (in_order m last xs)
each_order P m last [] h = tt
each_order P m last (x ∷ xs) h = each_put P m last x (in_order m last xs) h.0 (each_order P m last xs h.1)

no_later : (a b : ℕ) → nat_le a b ≡ true → a ≤ b
no_later a b h = grind (arith, nat_tests)

pub max_left : (a b : ℕ) → a ≤ max a b
max_left a b = grind arith

module _ (P : ℕ → ℕ → ℕ → Type 0) (later : (i n t u : ℕ) → t ≤ u → P i n t → P i n u) (m : ℕ) (direct : List Bool) where
  pub entries_change : (q : Queue) (op : QOp) (r : QReply) (t : Queue) → QChange m direct q op r t → ((i n u : ℕ) → op ≡ Insert i n u → P i n (max u q.last)) → EntriesFit P q → EntriesFit P t
  entries_change q op r t (inserts i n u free) new fit = record {
    content = each-append (λ (w : Waiting). P w.i w.n w.t) q.content (record { i = i; n = n; t = max u q.last; serial = q.next_serial } ∷ []) fit.content (new i n u refl, tt);
    expired = fit.expired;
    urgent = fit.urgent;
  }
  entries_change q op r t (removes i held) new fit = record {
    content = each-filter (λ (w : Waiting). P w.i w.n w.t) (λ w. P w.i w.n w.t) (λ w. not (w.i == i)) (λ w k h. h) q.content fit.content;
    expired = each-filter (λ (d : Due). P d.i d.n q.last) (λ d. P d.i d.n q.last) (λ d. not (d.i == i)) (λ d k h. h) q.expired fit.expired;
    urgent = each-filter (λ (d : Due). P d.i d.n q.last) (λ d. P d.i d.n q.last) (λ d. not (d.i == i)) (λ d k h. h) q.urgent fit.urgent;
  }
  entries_change q op r t (misses i) new fit = fit
  entries_change q op r t (scans now count) new fit =
      let time : ℕ = max q.last now in
      let after : q.last ≤ time = max_left q.last now in
      let due : List Waiting = due_by m q time in
      let due_fit : Each (λ (w : Waiting). P w.i w.n time) due = each_order (λ (w : Waiting). P w.i w.n time) m q.last (filter (λ w. nat_le w.t time) q.content)
      (each-filter (λ (w : Waiting). P w.i w.n w.t) (λ w. P w.i w.n time) (λ w. nat_le w.t time) (λ w k h. later w.i w.n w.t time (no_later w.t time k) h) q.content fit.content) in
      record {
        content = each-filter (λ (w : Waiting). P w.i w.n w.t) (λ w. P w.i w.n w.t) (λ w. nat_lt time w.t) (λ w k h. h) q.content fit.content;
        expired = each-append (λ (d : Due). P d.i d.n time) q.expired (map as_due (filter (λ w. not (is_direct direct w.i)) due))
            (each-all (λ (d : Due). P d.i d.n q.last) (λ d. P d.i d.n time) (λ d h. later d.i d.n q.last time after h) q.expired fit.expired)
            (each-map (λ (d : Due). P d.i d.n time) as_due (filter (λ w. not (is_direct direct w.i)) due)
            (each-filter (λ (w : Waiting). P w.i w.n time) (λ w. P w.i w.n time) (λ w. not (is_direct direct w.i)) (λ w k h. h) due due_fit));
        urgent = each-append (λ (d : Due). P d.i d.n time) q.urgent (map as_due (filter (λ w. is_direct direct w.i) due))
            (each-all (λ (d : Due). P d.i d.n q.last) (λ d. P d.i d.n time) (λ d h. later d.i d.n q.last time after h) q.urgent fit.urgent)
            (each-map (λ (d : Due). P d.i d.n time) as_due (filter (λ w. is_direct direct w.i) due)
            (each-filter (λ (w : Waiting). P w.i w.n time) (λ w. P w.i w.n time) (λ w. is_direct direct w.i) (λ w k h. h) due due_fit));
      }
  entries_change q op r t (pops d ds is) new fit = record { content = fit.content; expired = (subst (Each (λ (x : Due). P x.i x.n q.last)) is fit.expired).1; urgent = fit.urgent }
  entries_change q op r t finds_none new fit = fit
  entries_change q op r t frees new fit = record { content = fit.content; expired = fit.expired; urgent = fit.urgent }
  entries_change q op r t (pops_direct d ds is) new fit = record { content = fit.content; expired = fit.expired; urgent = (subst (Each (λ (x : Due). P x.i x.n q.last)) is fit.urgent).1 }
  entries_change q op r t finds_no_direct new fit = fit
  entries_change q op r t frees_direct new fit = record { content = fit.content; expired = fit.expired; urgent = fit.urgent }

  -- what a Pop answers was an entry
  pub entries_got : (q : Queue) (op : QOp) (r : QReply) (t : Queue) (i n time : ℕ) → QChange m direct q op r t → r ≡ Got i n time → EntriesFit P q → P i n time
  entries_got q op r t i n time (inserts j k u free) got fit = cc
  entries_got q op r t i n time (removes j held) got fit = cc
  entries_got q op r t i n time (misses j) got fit = cc
  entries_got q op r t i n time (scans now count) got fit = cc
  entries_got q op r t i n time (pops d ds is) got fit =
      let a : d.i ≡ i = cc in
      let b : d.n ≡ n = cc in
      let c : q.last ≡ time = cc in
      move d.i d.n q.last a b c (subst (Each (λ (x : Due). P x.i x.n q.last)) is fit.expired).0 where
        move : (j k u : ℕ) → j ≡ i → k ≡ n → u ≡ time → P j k u → P i n time
        move j k u a b c h = subst (λ (x : ℕ). P x n time) a (subst (λ (x : ℕ). P j x time) b (subst (P j k) c h))
  entries_got q op r t i n time finds_none got fit = cc
  entries_got q op r t i n time frees got fit = cc
  entries_got q op r t i n time (pops_direct d ds is) got fit =
      let a : d.i ≡ i = cc in
      let b : d.n ≡ n = cc in
      let c : q.last ≡ time = cc in
      move d.i d.n q.last a b c (subst (Each (λ (x : Due). P x.i x.n q.last)) is fit.urgent).0 where
        move : (j k u : ℕ) → j ≡ i → k ≡ n → u ≡ time → P j k u → P i n time
        move j k u a b c h = subst (λ (x : ℕ). P x n time) a (subst (λ (x : ℕ). P j x time) b (subst (P j k) c h))
  entries_got q op r t i n time finds_no_direct got fit = cc
  entries_got q op r t i n time frees_direct got fit = cc
