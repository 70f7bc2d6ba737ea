-- How the lists that the one actor has seen go on, and what of it stays.
use Rattle.std.proofs.Common.{◌≡◌, ◌≢◌, ℕ, ◌+◌, inl, inr, List, [], ◌∷◌, ◌++◌, refl, ap, sym, subst, ◌∙◌, arith, fold}
use Rattle.std.proofs.lemmas.Bool.{cases_eq}
use Rattle.std.proofs.lemmas.List.Sums.{fold-append}
use Rattle.co_object.proofs.Histories.{legal-last, legal-rest, state-snoc}
use Rattle.co_object.specs.declared.note.Entry.{Entry}
use Rattle.co_object.specs.declared.note.QEntry.{QEntry}
use Rattle.co_object.specs.declared.queue.QOp.{QOp}
use Rattle.co_object.specs.declared.queue.QOp.TheVariants.{Insert, Remove, Scan, Pop, Free, PopDirect, FreeDirect}
use Rattle.co_object.specs.declared.state.State.{State}
use Rattle.co_object.specs.Callout.{opening}
use Rattle.co_object.specs.History.{state, next, May}
use Rattle.co_object.specs.Journal as journal
use Rattle.co_object.specs.Machine.{IsLegalFrom}
use Rattle.co_object.specs.Queue.{Queue, empty_queue}
use Rattle.co_desk.specs.Params.{actors_of, spec_at, no_spec, directs}
use Rattle.co_desk.specs.Stories.{IsHistory, IsJournal}
use Rattle.co_desk.specs.Views.{PassesView, seen_of, journal_seen}
use Rattle.co_single.specs.Acts.{OthersStay}
use Rattle.co_single.specs.Alarms.{alarm_of, callout_seen, queue_in, gos, scan_times, scanned_before}
use Rattle.co_single.specs.Seen.{AreSingle}
use Rattle.co_single.proofs.Calls.{GoesOn}
use Rattle.co_single.proofs.Told.{no_lock}

pub gos-append : (H G : List Entry) → gos (H ++ G) ≡ gos H + gos G
gos-append [] G = omega arith
gos-append (e ∷ H) G = let rest = gos-append H G in omega (arith, rest)

pub scans-append : (J K : List QEntry) → scan_times (J ++ K) ≡ scan_times J ++ scan_times K
scans-append [] K = refl
scans-append (e ∷ J) K = ap (scanned_before e.op) (scans-append J K) ∙ before e.op where
  before : (op : QOp) → scanned_before op (scan_times J ++ scan_times K) ≡ scanned_before op (scan_times J) ++ scan_times K
  before (Insert i n t) = refl
  before (Remove i) = refl
  before (Scan now) = refl
  before Pop = refl
  before Free = refl
  before PopDirect = refl
  before FreeDirect = refl

pub others_of : (p q : PassesView) (i : ℕ) (es : List Entry) → GoesOn p i es q → OthersStay p i q
others_of p q i es g = record {
  count = g.count;
  alarms = λ j other. ap (λ l. alarm_of (state no_spec l).armed) (g.others j other);
  made = λ j other. ap (λ l. (state no_spec l).made) (g.others j other);
  fired = λ j other. ap gos (g.others j other);
}

-- what holds of callout i after its entries, and of the others before them
pub all_of : (P : ℕ → State → Type 0) (p q : PassesView) (i : ℕ) (es : List Entry) → GoesOn p i es q → P i (callout_seen q i) → ((j : ℕ) → j ≢ i → P j (callout_seen p j)) → (j : ℕ) → P j (callout_seen q j)
all_of P p q i es g here others j = elim (cases_eq j i) [
  | inl same ↦ subst (λ k. P k (callout_seen q k)) (sym same) here
  | inr other ↦ subst (λ l. P j (state no_spec l)) (sym (g.others j other)) (others j other)
]

pub state_after : (H : List Entry) (e : Entry) (l : List Entry) → l ≡ H ++ e ∷ [] → state no_spec l ≡ next no_spec (state no_spec H) e
state_after H e l is = ap (state no_spec) is ∙ state-snoc (next no_spec) (May (record { version = 1; clients = 0; cpus = 1 }) no_spec) (opening 0) H e

abbrev pub turned : PassesView → Queue → QEntry → Queue
turned p = journal.next 256 (directs p.params)

abbrev pub MayTurn : PassesView → Queue → QEntry → Type 0
MayTurn p = journal.May (actors_of p.params) 0 256 (directs p.params)

module _ (n : ℕ) (p q : PassesView) (s : AreSingle n p) (t : AreSingle n q) where
  spec_is : (i : ℕ) → spec_at q.params i ≡ no_spec
  spec_is i = ap (λ x. spec_at x i) t.params ∙ no_lock n i

  same_params : q.params ≡ p.params
  same_params = t.params ∙ sym s.params

  -- the entry that ends what is seen of callout i could stand there
  pub may_last : (i : ℕ) (H : List Entry) (e : Entry) → seen_of q i ≡ H ++ e ∷ [] → May (actors_of q.params) no_spec (state no_spec H) e
  may_last i H e is =
      let legal = subst (λ l. IsHistory q.params i l) is (t.legal.timers i) in
      let may : May (actors_of q.params) (spec_at q.params i) (state (spec_at q.params i) H) e = legal-last (next (spec_at q.params i)) (May (actors_of q.params) (spec_at q.params i)) (opening 0) H e legal.legal in
      subst (λ x. May (actors_of q.params) x (state x H) e) (spec_is i) may

  module _ (K : List QEntry) (is : journal_seen q 0 ≡ journal_seen p 0 ++ K) where
    -- what comes after in the CPU's journal is legal from where it stood
    pub legal_turns : IsLegalFrom (turned p) (MayTurn p) (queue_in p) K
    legal_turns =
        let J = journal_seen p 0 in
        let there = subst (λ x. IsJournal x 0 (journal_seen q 0)) same_params (t.legal.cpus 0) in
        let legal = subst (λ l. IsJournal p.params 0 l) is there in
        let whole = subst (λ m. IsLegalFrom (journal.next m (directs p.params)) (journal.May (actors_of p.params) 0 m (directs p.params)) empty_queue (J ++ K)) (ap (λ x. x.buckets) s.params) legal.legal in
        legal-rest (turned p) (MayTurn p) empty_queue J K whole

    -- and the queue is what it leaves
    pub queue_after : queue_in q ≡ fold (turned p) (queue_in p) K
    queue_after =
        ap (λ x. journal.queue 256 (directs x) (journal_seen q 0)) same_params
        ∙ (ap (journal.queue 256 (directs p.params)) is
        ∙ fold-append (turned p) empty_queue (journal_seen p 0) K)
