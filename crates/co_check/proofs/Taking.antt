-- A line is taken: the history of its place grows by its entry, and that of no other.
use Rattle.std.proofs.Common.{◌≡◌, ◌≢◌, ℕ, zero, suc, ◌+◌, ◌<◌, ◌==◌, cond, List, [], ◌∷◌, ◌++◌, length, get_or, set, get_or-set_same, get_or-set_other, refl, ap, sym, subst, ◌∙◌, arith, inl, inr}
use Rattle.std.specs.Prelude.{Option, Some, None, slice_get}
use Rattle.std.specs.List.{cons_option}
use Rattle.std.proofs.lemmas.Bool.{cases_eq}
use Rattle.std.proofs.lemmas.Bool.Decides.{nat_tests}
use Rattle.std.proofs.lemmas.List.{length-set}
use Rattle.std.proofs.lemmas.List.Elements.{filter_map-append}
use Rattle.co_object.specs.declared.Alone.{Alone}
use Rattle.co_object.specs.declared.Entry.{Entry}
use Rattle.co_object.specs.declared.QEntry.{QEntry}
use Rattle.co_object.specs.declared.Place.TheVariants as place
use Rattle.co_object.specs.declared.AnyEntry.{AnyEntry}
use Rattle.co_object.specs.declared.AnyEntry.TheVariants as of
use Rattle.co_object.specs.declared.State.{State}
use Rattle.co_object.specs.Callout.{opening}
use Rattle.co_object.specs.History.{next, state}
use Rattle.co_object.specs.Journal as journal
use Rattle.co_object.specs.Queue.{Queue, empty_queue}
use Rattle.co_object.proofs.Histories.{state-snoc}
use Rattle.co_program.specs.declared.script.Script.{Script}
use Rattle.co_program.specs.Action.{spec_at}
use Rattle.co_program.specs.Follows.{one_scan, scan_count}
use Rattle.co_program.specs.Runs.{are_direct}
use Rattle.co_check.specs.declared.cpu.CpuQueue.{CpuQueue}
use Rattle.co_report.specs.declared.line.Line.{Line}
use Rattle.co_check.specs.declared.replay.Replay.{Replay}
use Rattle.co_check.specs.Cpu.{ShowsQueue}
use Rattle.co_check.specs.Replay.{state_after, queue_after}
use Rattle.co_check.specs.Replayed.{IsAfter, IsCpuAfter, alone_after}
use Rattle.co_check.specs.Shown.{callout_entry_at, queue_entry_at, callout_history, cpu_journal}

-- ---- an array with one item set

pub get-set-same : {X : Type 0} (xs : List X) (i : ℕ) (x y : X) → slice_get xs i ≡ Some x → slice_get (set xs i y) i ≡ Some y
get-set-same [] i x y h = cc
get-set-same (z ∷ zs) zero x y h = refl
get-set-same (z ∷ zs) (suc i) x y h = get-set-same zs i x y h

pub get-set-other : {X : Type 0} (xs : List X) (i j : ℕ) (y : X) → j ≢ i → slice_get (set xs i y) j ≡ slice_get xs j
get-set-other [] i j y apart = refl
get-set-other (z ∷ zs) zero zero y apart = absurd (apart refl)
get-set-other (z ∷ zs) zero (suc j) y apart = refl
get-set-other (z ∷ zs) (suc i) zero y apart = refl
get-set-other (z ∷ zs) (suc i) (suc j) y apart = get-set-other zs i j y (λ h. apart (ap suc h))

pub some-is : {X : Type 0} (x y : X) → Some x ≡ Some y → x ≡ y
some-is x y h = cc

-- ---- one line more

callout-more : (i : ℕ) (above : List Line) (l : Line) → callout_history i (above ++ l ∷ []) ≡ callout_history i above ++ cons_option (callout_entry_at i l.place l.entry) []
callout-more i above l = filter_map-append (λ (x : Line). callout_entry_at i x.place x.entry) above (l ∷ [])

journal-more : (cpu : ℕ) (above : List Line) (l : Line) → cpu_journal cpu (above ++ l ∷ []) ≡ cpu_journal cpu above ++ cons_option (queue_entry_at cpu l.place l.entry) []
journal-more cpu above l = filter_map-append (λ (x : Line). queue_entry_at cpu x.place x.entry) above (l ∷ [])

append-none : {X : Type 0} (xs ys : List X) → ys ≡ xs ++ [] → ys ≡ xs
append-none [] ys h = h
append-none (x ∷ xs) ys h = h ∙ ap (λ zs. x ∷ zs) (append-none xs (xs ++ []) refl)

-- a line that is no entry of this callout, or of this CPU
pub callout-unmoved : (i : ℕ) (above : List Line) (l : Line) → callout_entry_at i l.place l.entry ≡ None → callout_history i (above ++ l ∷ []) ≡ callout_history i above
callout-unmoved i above l none = append-none _ _ (callout-more i above l ∙ ap (λ o. callout_history i above ++ cons_option o []) none)

pub journal-unmoved : (cpu : ℕ) (above : List Line) (l : Line) → queue_entry_at cpu l.place l.entry ≡ None → cpu_journal cpu (above ++ l ∷ []) ≡ cpu_journal cpu above
journal-unmoved cpu above l none = append-none _ _ (journal-more cpu above l ∙ ap (λ o. cpu_journal cpu above ++ cons_option o []) none)

pub callout-grows : (i : ℕ) (above : List Line) (l : Line) (e : Entry) → callout_entry_at i l.place l.entry ≡ Some e → callout_history i (above ++ l ∷ []) ≡ callout_history i above ++ e ∷ []
callout-grows i above l e some = callout-more i above l ∙ ap (λ o. callout_history i above ++ cons_option o []) some

pub journal-grows : (cpu : ℕ) (above : List Line) (l : Line) (e : QEntry) → queue_entry_at cpu l.place l.entry ≡ Some e → cpu_journal cpu (above ++ l ∷ []) ≡ cpu_journal cpu above ++ e ∷ []
journal-grows cpu above l e some = journal-more cpu above l ∙ ap (λ o. cpu_journal cpu above ++ cons_option o []) some

pub own-callout : (i : ℕ) (l : Line) (e : Entry) → l.place ≡ place.Timer i → l.entry ≡ of.Timer e → callout_entry_at i l.place l.entry ≡ Some e
own-callout i l e p q = ap (λ x. callout_entry_at i x l.entry) p ∙ (ap (callout_entry_at i (place.Timer i)) q ∙ itself i e) where
  itself : (i : ℕ) (e : Entry) → cond {A = Option Entry} (i == i) (Some e) None ≡ Some e
  itself i e = grind (arith, nat_tests)

pub other-callout : (i j : ℕ) (l : Line) (e : Entry) → l.place ≡ place.Timer i → l.entry ≡ of.Timer e → j ≢ i → callout_entry_at j l.place l.entry ≡ None
other-callout i j l e p q apart = ap (λ x. callout_entry_at j x l.entry) p ∙ (ap (callout_entry_at j (place.Timer i)) q ∙ another i j e apart) where
  another : (i j : ℕ) (e : Entry) → j ≢ i → cond {A = Option Entry} (i == j) (Some e) None ≡ None
  another i j e apart = grind (arith, nat_tests)

pub no-callout : (j cpu : ℕ) (l : Line) → l.place ≡ place.Cpu cpu → callout_entry_at j l.place l.entry ≡ None
no-callout j cpu l p = ap (λ x. callout_entry_at j x l.entry) p ∙ none l.entry where
  none : (e : AnyEntry) → callout_entry_at j (place.Cpu cpu) e ≡ None
  none (of.Timer e) = refl
  none (of.Cpu e) = refl
  none (of.Own e) = refl

pub own-queue : (cpu : ℕ) (l : Line) (e : QEntry) → l.place ≡ place.Cpu cpu → l.entry ≡ of.Cpu e → queue_entry_at cpu l.place l.entry ≡ Some e
own-queue cpu l e p q = ap (λ x. queue_entry_at cpu x l.entry) p ∙ (ap (queue_entry_at cpu (place.Cpu cpu)) q ∙ itself cpu e) where
  itself : (i : ℕ) (e : QEntry) → cond {A = Option QEntry} (i == i) (Some e) None ≡ Some e
  itself i e = grind (arith, nat_tests)

pub other-queue : (cpu j : ℕ) (l : Line) (e : QEntry) → l.place ≡ place.Cpu cpu → l.entry ≡ of.Cpu e → j ≢ cpu → queue_entry_at j l.place l.entry ≡ None
other-queue cpu j l e p q apart = ap (λ x. queue_entry_at j x l.entry) p ∙ (ap (queue_entry_at j (place.Cpu cpu)) q ∙ another cpu j e apart) where
  another : (i j : ℕ) (e : QEntry) → j ≢ i → cond {A = Option QEntry} (i == j) (Some e) None ≡ None
  another i j e apart = grind (arith, nat_tests)

pub no-queue : (j i : ℕ) (l : Line) → l.place ≡ place.Timer i → queue_entry_at j l.place l.entry ≡ None
no-queue j i l p = ap (λ x. queue_entry_at j x l.entry) p ∙ none l.entry where
  none : (e : AnyEntry) → queue_entry_at j (place.Timer i) e ≡ None
  none (of.Timer e) = refl
  none (of.Cpu e) = refl
  none (of.Own e) = refl

-- ---- states

pub state-moved : (s : Script) (above : List Line) (l : Line) (i : ℕ) (e : Entry) → l.place ≡ place.Timer i → l.entry ≡ of.Timer e →
    state_after s (above ++ l ∷ []) i ≡ next (spec_at s i) (state_after s above i) e
state-moved s above l i e p q =
    ap (state (spec_at s i)) (callout-grows i above l e (own-callout i l e p q)) ∙ state-snoc (next (spec_at s i)) (λ a b. Unit {0}) (opening 0) (callout_history i above) e

pub state-unmoved : (s : Script) (above : List Line) (l : Line) (i : ℕ) → callout_entry_at i l.place l.entry ≡ None → state_after s (above ++ l ∷ []) i ≡ state_after s above i
state-unmoved s above l i none = ap (state (spec_at s i)) (callout-unmoved i above l none)

pub queue-moved : (s : Script) (above : List Line) (l : Line) (cpu : ℕ) (e : QEntry) → l.place ≡ place.Cpu cpu → l.entry ≡ of.Cpu e →
    queue_after s (above ++ l ∷ []) cpu ≡ journal.next s.buckets (are_direct s) (queue_after s above cpu) e
queue-moved s above l cpu e p q =
    ap (journal.queue s.buckets (are_direct s)) (journal-grows cpu above l e (own-queue cpu l e p q)) ∙ state-snoc (journal.next s.buckets (are_direct s)) (λ a b. Unit {0}) empty_queue (cpu_journal cpu above) e

pub queue-unmoved : (s : Script) (above : List Line) (l : Line) (cpu : ℕ) → queue_entry_at cpu l.place l.entry ≡ None → queue_after s (above ++ l ∷ []) cpu ≡ queue_after s above cpu
queue-unmoved s above l cpu none = ap (journal.queue s.buckets (are_direct s)) (journal-unmoved cpu above l none)

scan_count-snoc : (J : List QEntry) (e : QEntry) → scan_count (J ++ e ∷ []) ≡ scan_count J + one_scan e.op
scan_count-snoc [] e = omega arith
scan_count-snoc (f ∷ J) e = omega (arith, scan_count-snoc J e)

pub scans-moved : (above : List Line) (l : Line) (cpu : ℕ) (e : QEntry) → l.place ≡ place.Cpu cpu → l.entry ≡ of.Cpu e →
    scan_count (cpu_journal cpu (above ++ l ∷ [])) ≡ scan_count (cpu_journal cpu above) + one_scan e.op
scans-moved above l cpu e p q = ap scan_count (journal-grows cpu above l e (own-queue cpu l e p q)) ∙ scan_count-snoc (cpu_journal cpu above) e

-- ---- what the code keeps

kept-cpu : (s : Script) (above : List Line) (l : Line) (cpu : ℕ) (kept : CpuQueue) → queue_entry_at cpu l.place l.entry ≡ None → IsCpuAfter s above cpu kept → IsCpuAfter s (above ++ l ∷ []) cpu kept
kept-cpu s above l cpu kept none h = record {
  size = h.size;
  buckets = h.buckets;
  direct = h.direct;
  queue = subst (λ (q : Queue). ShowsQueue q kept) (sym (queue-unmoved s above l cpu none)) h.queue;
}

kept-alone : (s : Script) (above : List Line) (l : Line) (i : ℕ) (alone : Alone) → callout_entry_at i l.place l.entry ≡ None → alone ≡ alone_after s above i → alone ≡ alone_after s (above ++ l ∷ []) i
kept-alone s above l i alone none h = h ∙ ap (λ (x : State). record { spec = spec_at s i; state = x }) (sym (state-unmoved s above l i none))

-- an entry of a callout
pub after-callout : (s : Script) (above : List Line) (l : Line) (i : ℕ) (e : Entry) (r : Replay) (before after : Alone) (callouts : List Alone) → l.place ≡ place.Timer i → l.entry ≡ of.Timer e → IsAfter s above r
    → slice_get r.callouts.items i ≡ Some before → after ≡ record before { state = next before.spec before.state e } → callouts ≡ set r.callouts.items i after
    → (new : Replay) → new.callouts.items ≡ callouts → new.cpus.items ≡ r.cpus.items → new.scans.items ≡ r.scans.items → IsAfter s (above ++ l ∷ []) new
after-callout s above l i e r before after callouts p q h at is set_is new new_is cpus_are scans_are = record {
  callouts = ap length all ∙ (length-set r.callouts.items i after ∙ h.callouts);
  cpus = ap length cpus_are ∙ h.cpus;
  counts = ap length scans_are ∙ h.counts;
  callout = λ j alone there. elim (cases_eq j i) [
    | inl same ↦ moved j alone same there
    | inr apart ↦ kept-alone s above l j alone (other-callout i j l e p q apart) (h.callout j alone (sym (get-set-other r.callouts.items i j after apart) ∙ (ap (λ xs. slice_get xs j) (sym all) ∙ there)))
  ];
  cpu = λ cpu kept there. kept-cpu s above l cpu kept (no-queue cpu i l p) (h.cpu cpu kept (ap (λ xs. slice_get xs cpu) (sym cpus_are) ∙ there));
  scans = λ cpu below. ap (λ xs. get_or xs cpu 0) scans_are ∙ (h.scans cpu below ∙ ap scan_count (sym (journal-unmoved cpu above l (no-queue cpu i l p))));
}
  where
    all : new.callouts.items ≡ set r.callouts.items i after
    all = new_is ∙ set_is

    was : before ≡ alone_after s above i
    was = h.callout i before at

    now : after ≡ alone_after s (above ++ l ∷ []) i
    now = is ∙ (ap (λ (x : Alone). record x { state = next x.spec x.state e }) was ∙ ap (λ (x : State). record { spec = spec_at s i; state = x }) (sym (state-moved s above l i e p q)))

    moved : (j : ℕ) (alone : Alone) → j ≡ i → slice_get new.callouts.items j ≡ Some alone → alone ≡ alone_after s (above ++ l ∷ []) j
    moved j alone same there =
        some-is alone after (sym there ∙ (ap (λ xs. slice_get xs j) all ∙ (ap (slice_get (set r.callouts.items i after)) same ∙ get-set-same r.callouts.items i before after at)))
        ∙ (now ∙ ap (alone_after s (above ++ l ∷ [])) (sym same))

-- an entry of a CPU's journal
pub after-queue : (s : Script) (above : List Line) (l : Line) (cpu : ℕ) (e : QEntry) (r : Replay) (before after : CpuQueue) (scans : ℕ) → l.place ≡ place.Cpu cpu → l.entry ≡ of.Cpu e → IsAfter s above r → cpu < s.cpus
    → slice_get r.cpus.items cpu ≡ Some before → after.queue.size ≡ before.queue.size → after.queue.buckets ≡ before.queue.buckets → after.queue.direct ≡ before.queue.direct
    → ShowsQueue (journal.next before.queue.buckets before.queue.direct (queue_after s above cpu) e) after → scans ≡ get_or r.scans.items cpu 0
    → (new : Replay) → new.cpus.items ≡ set r.cpus.items cpu after → new.callouts.items ≡ r.callouts.items → new.scans.items ≡ set r.scans.items cpu (scans + one_scan e.op) → IsAfter s (above ++ l ∷ []) new
after-queue s above l cpu e r before after scans p q h below at size buckets direct for count new cpus_are callouts_are scans_are = record {
  callouts = ap length callouts_are ∙ h.callouts;
  cpus = ap length cpus_are ∙ (length-set r.cpus.items cpu after ∙ h.cpus);
  counts = ap length scans_are ∙ (length-set r.scans.items cpu (scans + one_scan e.op) ∙ h.counts);
  callout = λ j alone there. kept-alone s above l j alone (no-callout j cpu l p) (h.callout j alone (ap (λ xs. slice_get xs j) (sym callouts_are) ∙ there));
  cpu = λ j kept there. elim (cases_eq j cpu) [
    | inl same ↦ moved j kept same there
    | inr apart ↦ kept-cpu s above l j kept (other-queue cpu j l e p q apart) (h.cpu j kept (sym (get-set-other r.cpus.items cpu j after apart) ∙ (ap (λ xs. slice_get xs j) (sym cpus_are) ∙ there)))
  ];
  scans = λ j in_range. ap (λ xs. get_or xs j 0) scans_are ∙ elim (cases_eq j cpu) [
    | inl same ↦ counted j same
    | inr apart ↦ get_or-set_other r.scans.items cpu j (scans + one_scan e.op) 0 apart ∙ (h.scans j in_range ∙ ap scan_count (sym (journal-unmoved j above l (other-queue cpu j l e p q apart))))
  ];
}
  where
    was : IsCpuAfter s above cpu before
    was = h.cpu cpu before at

    now : IsCpuAfter s (above ++ l ∷ []) cpu after
    now = record {
      size = size ∙ was.size;
      buckets = buckets ∙ was.buckets;
      direct = direct ∙ was.direct;
      queue = subst (λ (x : Queue). ShowsQueue x after)
          (ap (λ m. journal.next m before.queue.direct (queue_after s above cpu) e) was.buckets
          ∙ (ap (λ d. journal.next s.buckets d (queue_after s above cpu) e) was.direct ∙ sym (queue-moved s above l cpu e p q))) for;
    }

    moved : (j : ℕ) (kept : CpuQueue) → j ≡ cpu → slice_get new.cpus.items j ≡ Some kept → IsCpuAfter s (above ++ l ∷ []) j kept
    moved j kept same there =
        let it : kept ≡ after = some-is kept after (sym there ∙ (ap (λ xs. slice_get xs j) cpus_are ∙ (ap (slice_get (set r.cpus.items cpu after)) same ∙ get-set-same r.cpus.items cpu before after at))) in
        subst (λ (k : CpuQueue). IsCpuAfter s (above ++ l ∷ []) j k) (sym it) (subst (λ (x : ℕ). IsCpuAfter s (above ++ l ∷ []) x after) (sym same) now)

    inside : cpu < length r.scans.items
    inside = omega (arith, h.counts, below)

    counted : (j : ℕ) → j ≡ cpu → get_or (set r.scans.items cpu (scans + one_scan e.op)) j 0 ≡ scan_count (cpu_journal j (above ++ l ∷ []))
    counted j same =
        ap (λ x. get_or (set r.scans.items cpu (scans + one_scan e.op)) x 0) same
        ∙ (get_or-set_same r.scans.items cpu (scans + one_scan e.op) 0 inside
        ∙ (ap (λ n. n + one_scan e.op) (count ∙ h.scans cpu below)
        ∙ (sym (scans-moved above l cpu e p q) ∙ ap (λ x. scan_count (cpu_journal x (above ++ l ∷ []))) (sym same))))

-- an entry of no callout and no CPU
pub after-other : (s : Script) (above : List Line) (l : Line) (r : Replay) → ((i : ℕ) → callout_entry_at i l.place l.entry ≡ None) → ((cpu : ℕ) → queue_entry_at cpu l.place l.entry ≡ None) → IsAfter s above r → IsAfter s (above ++ l ∷ []) r
after-other s above l r no_call no_queue h = record {
  callouts = h.callouts;
  cpus = h.cpus;
  counts = h.counts;
  callout = λ j alone there. kept-alone s above l j alone (no_call j) (h.callout j alone there);
  cpu = λ cpu kept there. kept-cpu s above l cpu kept (no_queue cpu) (h.cpu cpu kept there);
  scans = λ cpu below. h.scans cpu below ∙ ap scan_count (sym (journal-unmoved cpu above l (no_queue cpu)));
}
