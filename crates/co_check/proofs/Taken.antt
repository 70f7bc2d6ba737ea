-- What a line is answered: from what its callout or its CPU's queue answers.
use Rattle.std.proofs.Common.{◌≡◌, ℕ, suc, ◌+◌, ◌<◌, ◌≤◌, ◌^◌, length, arith, Bool, true, false, List, [], ◌∷◌, ◌++◌, get_or, set, refl, ap, sym, ◌∙◌}
use Rattle.std.specs.Prelude.{Option, Some, None, Ok, Err, is_some, slice_get}
use Rattle.std.specs.List.{cons_option}
use Rattle.co_object.specs.declared.Alone.{Alone}
use Rattle.co_object.specs.declared.QOp.{QOp}
use Rattle.co_object.specs.declared.QOp.TheVariants.{Insert, Remove, Scan, Pop, Free, PopDirect, FreeDirect}
use Rattle.co_object.specs.declared.QReply.{QReply}
use Rattle.co_object.specs.Actors.{Actors}
use Rattle.co_object.specs.Queue.{Queue}
use Rattle.co_object.specs.Journal as journal
use Rattle.co_object.specs.declared.Entry.{Entry}
use Rattle.co_object.specs.declared.QEntry.{QEntry}
use Rattle.co_object.specs.declared.Place.TheVariants as place
use Rattle.co_object.specs.declared.AnyEntry.{AnyEntry}
use Rattle.co_object.specs.declared.AnyEntry.TheVariants as of
use Rattle.co_object.specs.Stand.{off}
use Rattle.co_program.specs.declared.script.Script.{Script}
use Rattle.co_program.specs.Follows.{one_scan, scan_count}
use Rattle.co_program.specs.Runs.{actors_of, are_direct}
use Rattle.co_check.specs.declared.cpu.CpuQueue.{CpuQueue}
use Rattle.co_report.specs.declared.line.Line.{Line}
use Rattle.co_check.specs.Facts.{Fact}
use Rattle.co_check.specs.declared.replay.Replay.{Replay}
use Rattle.co_check.specs.declared.verdict.Unfit.{Unfit}
use Rattle.co_check.specs.Cpu.{ShowsQueue, IsOutcome}
use Rattle.co_check.specs.Lines.{lines_max}
use Rattle.co_check.specs.Replay.{callout_unfit, queue_unfit, queue_after, unfit_at, unfit_unless, is_answer, may_work}
use Rattle.co_check.specs.Same.{same_answer}
use Rattle.co_check.specs.Replayed.{IsAfter, IsCpuAfter, IsCalloutTaken, IsQueueTaken, IsLineTaken, alone_after}
use Rattle.co_check.specs.Shown.{callout_entry_at, queue_entry_at, cpu_journal, is_queued, scans_above}
use Rattle.co_check.proofs.Taking.{get-set-same, some-is, after-callout, after-queue, after-other}

abbrev fact : Bool → ℕ → Fact
fact listed scans = record { listed = listed; scans = scans }

unfit-callout : (s : Script) (above : List Line) (l : Line) (i : ℕ) (e : Entry) (before : Alone) → l.place ≡ place.Timer i → l.entry ≡ of.Timer e → before ≡ alone_after s above i →
    unfit_at s above l.place l.entry ≡ callout_unfit (actors_of s) before.spec before.state e
unfit-callout s above l i e before p q was =
    ap (λ x. unfit_at s above x l.entry) p ∙ (ap (unfit_at s above (place.Timer i)) q ∙ ap (λ (x : Alone). callout_unfit (actors_of s) x.spec x.state e) (sym was))

pub refused-callout : (s : Script) (above : List Line) (l : Line) (i : ℕ) (e : Entry) (r : Replay) (before after : Alone) (cause : Unfit) → l.place ≡ place.Timer i → l.entry ≡ of.Timer e → IsAfter s above r
    → slice_get r.callouts.items i ≡ Some before → IsCalloutTaken (actors_of s) before e (Err cause) after → unfit_at s above l.place l.entry ≡ Some cause
refused-callout s above l i e r before after cause p q h at is = unfit-callout s above l i e before p q (h.callout i before at) ∙ is

pub taken-callout : (s : Script) (above : List Line) (l : Line) (i : ℕ) (e : Entry) (r : Replay) (before after : Alone) (listed : Bool) → l.place ≡ place.Timer i → l.entry ≡ of.Timer e → IsAfter s above r
    → slice_get r.callouts.items i ≡ Some before → IsCalloutTaken (actors_of s) before e (Ok listed) after
    → (f : Fact) → f ≡ fact listed 0 → (new : Replay) → new.callouts.items ≡ set r.callouts.items i after → new.cpus.items ≡ r.cpus.items → new.scans.items ≡ r.scans.items → IsLineTaken s above l (Ok f) new
taken-callout s above l i e r before after listed p q h at is f f_is new callouts cpus scans = (
  unfit-callout s above l i e before p q (h.callout i before at) ∙ is.0,
  then,
  f_is ∙ (ap (λ b. fact b 0) (is.2 ∙ (ap (λ (x : Alone). is_some (off x.state)) now ∙ ap (is_queued s (above ++ l ∷ [])) (sym p))) ∙ ap (fact (is_queued s (above ++ l ∷ []) l.place)) (ap (scans_above above) (sym p))),
)
  where
    then : IsAfter s (above ++ l ∷ []) new
    then = after-callout s above l i e r before after (set r.callouts.items i after) p q h at is.1 refl new callouts cpus scans

    now : after ≡ alone_after s (above ++ l ∷ []) i
    now = then.callout i after (ap (λ xs. slice_get xs i) callouts ∙ get-set-same r.callouts.items i before after at)

unfit-queue : (s : Script) (above : List Line) (l : Line) (cpu : ℕ) (e : QEntry) (before : CpuQueue) → l.place ≡ place.Cpu cpu → l.entry ≡ of.Cpu e → IsCpuAfter s above cpu before →
    unfit_at s above l.place l.entry ≡ queue_unfit (actors_of s) cpu before.queue.buckets before.queue.direct (queue_after s above cpu) e
unfit-queue s above l cpu e before p q was =
    ap (λ x. unfit_at s above x l.entry) p ∙ (ap (unfit_at s above (place.Cpu cpu)) q
    ∙ (ap (λ m. queue_unfit (actors_of s) cpu m (are_direct s) (queue_after s above cpu) e) (sym was.buckets)
    ∙ ap (λ d. queue_unfit (actors_of s) cpu before.queue.buckets d (queue_after s above cpu) e) (sym was.direct)))

pub refused-queue : (s : Script) (above : List Line) (l : Line) (cpu : ℕ) (e : QEntry) (r : Replay) (before after : CpuQueue) (cause : Unfit) → l.place ≡ place.Cpu cpu → l.entry ≡ of.Cpu e → IsAfter s above r
    → slice_get r.cpus.items cpu ≡ Some before → IsQueueTaken (actors_of s) cpu before.queue.buckets before.queue.direct (queue_after s above cpu) e (Err cause) after → unfit_at s above l.place l.entry ≡ Some cause
refused-queue s above l cpu e r before after cause p q h at is = unfit-queue s above l cpu e before p q (h.cpu cpu before at) ∙ is

pub taken-queue : (s : Script) (above : List Line) (l : Line) (cpu : ℕ) (e : QEntry) (r : Replay) (before after : CpuQueue) (scans : ℕ) → l.place ≡ place.Cpu cpu → l.entry ≡ of.Cpu e → IsAfter s above r → cpu < s.cpus
    → slice_get r.cpus.items cpu ≡ Some before → after.queue.size ≡ before.queue.size → after.queue.buckets ≡ before.queue.buckets → after.queue.direct ≡ before.queue.direct
    → IsQueueTaken (actors_of s) cpu before.queue.buckets before.queue.direct (queue_after s above cpu) e (Ok tt) after → scans ≡ get_or r.scans.items cpu 0
    → (f : Fact) → f ≡ fact false scans → (new : Replay) → new.cpus.items ≡ set r.cpus.items cpu after → new.callouts.items ≡ r.callouts.items → new.scans.items ≡ set r.scans.items cpu (scans + one_scan e.op) → IsLineTaken s above l (Ok f) new
taken-queue s above l cpu e r before after scans p q h below at size buckets direct is count f f_is new cpus callouts scans_are = (
  unfit-queue s above l cpu e before p q (h.cpu cpu before at) ∙ is.0,
  after-queue s above l cpu e r before after scans p q h below at size buckets direct is.1 count new cpus callouts scans_are,
  f_is ∙ (ap (fact false) (count ∙ (h.scans cpu below ∙ ap (scans_above above) (sym p))) ∙ ap (λ b. fact b (scans_above above l.place)) (ap (is_queued s (above ++ l ∷ [])) (sym p))),
)

-- ---- a note of an actor's own

module _ (a : ℕ) where
  no_callout-own : (j : ℕ) (e : AnyEntry) → callout_entry_at j (place.Actor a) e ≡ None
  no_callout-own j (of.Timer x) = refl
  no_callout-own j (of.Cpu x) = refl
  no_callout-own j (of.Own x) = refl

  no_queue-own : (j : ℕ) (e : AnyEntry) → queue_entry_at j (place.Actor a) e ≡ None
  no_queue-own j (of.Timer x) = refl
  no_queue-own j (of.Cpu x) = refl
  no_queue-own j (of.Own x) = refl

  fit-own : (s : Script) (above : List Line) (e : AnyEntry) → unfit_at s above (place.Actor a) e ≡ None
  fit-own s above (of.Timer x) = refl
  fit-own s above (of.Cpu x) = refl
  fit-own s above (of.Own x) = refl

pub taken-own : (s : Script) (above : List Line) (l : Line) (a : ℕ) (r : Replay) → l.place ≡ place.Actor a → IsAfter s above r → (f : Fact) → f ≡ fact false 0 → IsLineTaken s above l (Ok f) r
taken-own s above l a r p h f f_is = (
  ap (λ x. unfit_at s above x l.entry) p ∙ fit-own a s above l.entry,
  after-other s above l r (λ i. ap (λ x. callout_entry_at i x l.entry) p ∙ no_callout-own a i l.entry) (λ cpu. ap (λ x. queue_entry_at cpu x l.entry) p ∙ no_queue-own a cpu l.entry) h,
  f_is ∙ (ap (λ b. fact b 0) (ap (is_queued s (above ++ l ∷ [])) (sym p)) ∙ ap (fact (is_queued s (above ++ l ∷ []) l.place)) (ap (scans_above above) (sym p))),
)

-- ---- a CPU's queue

took : (o : Option (Queue × QReply)) (may : Bool) (reply given : QReply) (q : Queue) (after : CpuQueue) → may ≡ true → IsOutcome o (Some reply) after → same_answer reply given ≡ true
    → (unfit_unless may (is_answer (journal.reply_of o) given) ≡ None) × ShowsQueue (journal.queue_of o q) after
took None may reply given q after ok is same = cc
took (Some x) may reply given q after ok is same =
    let answered : same_answer x.1 given ≡ true = ap (λ r. same_answer r given) (some-is x.1 reply (sym is.0)) ∙ same in
    (ap (λ b. unfit_unless b (same_answer x.1 given)) ok ∙ ap (unfit_unless true) answered, is.1)

-- the queue's reply is the one given
pub queue-took : (actors : Actors) (cpu m : ℕ) (direct : List Bool) (q : Queue) (e : QEntry) (reply : QReply) (after : CpuQueue) → may_work actors cpu e.actor e.op ≡ true
    → IsOutcome (journal.step m direct q e.op) (Some reply) after → same_answer reply e.reply ≡ true → IsQueueTaken actors cpu m direct q e (Ok tt) after
queue-took actors cpu m direct q e reply after may is same = took (journal.step m direct q e.op) (may_work actors cpu e.actor e.op) reply e.reply q after may is same

-- ---- counts

one_scan-few : (op : QOp) → one_scan op ≤ 1
one_scan-few (Insert i n t) = omega arith
one_scan-few (Remove i) = omega arith
one_scan-few (Scan now) = omega arith
one_scan-few Pop = omega arith
one_scan-few Free = omega arith
one_scan-few PopDirect = omega arith
one_scan-few FreeDirect = omega arith

scans-few : (cpu : ℕ) (above : List Line) → scan_count (cpu_journal cpu above) ≤ length above
scans-few cpu [] = omega arith
scans-few cpu (l ∷ ls) = at_entry (queue_entry_at cpu l.place l.entry) (scans-few cpu ls) where
  at_entry : (o : Option QEntry) → scan_count (cpu_journal cpu ls) ≤ length ls → scan_count (cons_option o (cpu_journal cpu ls)) ≤ suc (length ls)
  at_entry None rest = omega (arith, rest)
  at_entry (Some e) rest = omega (arith, rest, one_scan-few e.op)

-- the count of Scans has room for one more
pub room : (s : Script) (above : List Line) (r : Replay) (cpu scans : ℕ) (op : QOp) → IsAfter s above r → length above < lines_max → cpu < s.cpus → scans ≡ get_or r.scans.items cpu 0 → scans + one_scan op < 2 ^ 31
room s above r cpu scans op h few below count = omega (arith, scans-few cpu above, one_scan-few op, h.scans cpu below)
