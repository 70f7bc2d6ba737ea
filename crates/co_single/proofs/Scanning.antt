-- A scan: what it leaves of the one actor's passes.
use Rattle.std.proofs.Common.{◌≡◌, ℕ, ◌≤◌, false, List, [], ◌∷◌, ◌++◌, map, length, max, replicate, zero, suc, get_or, refl, ap, sym, subst, ◌∙◌, arith}
use Rattle.std.proofs.lemmas.List.{length-map}
use Rattle.co_object.specs.declared.note.QEntry.{QEntry}
use Rattle.co_object.specs.declared.queue.QOp.TheVariants.{Scan}
use Rattle.co_object.specs.declared.queue.QReply.TheVariants.{Count}
use Rattle.co_object.specs.declared.spec.Spec.{Spec}
use Rattle.co_object.specs.History.{state}
use Rattle.co_object.specs.Queue.{Due, Queue}
use Rattle.co_object.specs.Scan.{due_by, as_due, is_direct, scanned}
use Rattle.co_object.proofs.EntriesKept.{max_left}
use Rattle.co_desk.specs.Outcomes.{queue_entry_by}
use Rattle.co_desk.specs.Params.{no_spec, directs}
use Rattle.co_desk.specs.Views.{PassesView, journal_seen}
use Rattle.co_single.specs.Acts.{CalloutsStay, IsScanned}
use Rattle.co_single.specs.Alarms.{alarm_of, alarm_at, callout_seen, queue_in, due_once, gos, scan_times, waiting_of}
use Rattle.co_single.specs.Rest.{HasNoService, IsCalm, ArmingStands, come}
use Rattle.co_single.specs.Seen.{with_entries, scan_entries, AreSingle}
use Rattle.co_single.proofs.Calls.{journal_on}
use Rattle.co_single.proofs.Going.{scans-append, legal_turns, queue_after}
use Rattle.co_single.proofs.Queues.{numbers, times_come}
use Rattle.co_single.proofs.Scans.{expired_is, urgent_is, sorted}

none_plain : (n i : ℕ) → get_or (map (λ (spec : Spec). spec.direct) (replicate n no_spec)) i false ≡ false
none_plain zero i = refl
none_plain (suc n) zero = refl
none_plain (suc n) (suc i) = none_plain n i

-- no callout is direct
pub plain_at : (n : ℕ) (p : PassesView) → AreSingle n p → (i : ℕ) → is_direct (directs p.params) i ≡ false
plain_at n p s i = ap (λ x. is_direct (directs x) i) s.params ∙ none_plain n i

-- who sees the same of the callouts finds the same
pub callouts_stay : (p q : PassesView) → q.timers ≡ p.timers → CalloutsStay p q
callouts_stay p q is = record {
  count = ap (λ ts. length ts) is;
  alarms = λ j. ap (λ ts. alarm_of (state no_spec (get_or ts j [])).armed) is;
  made = λ j. ap (λ ts. (state no_spec (get_or ts j [])).made) is;
  fired = λ j. ap (λ ts. gos (get_or ts j [])) is;
}

pub callout_still : (p q : PassesView) → q.timers ≡ p.timers → (j : ℕ) → callout_seen q j ≡ callout_seen p j
callout_still p q is j = ap (λ ts. state no_spec (get_or ts j [])) is

pub no_numbers : (ds : List Due) → numbers ds ≡ [] → ds ≡ []
no_numbers [] h = refl
no_numbers (d ∷ ds) h = cc

module _ (n : ℕ) (p q : PassesView) (s : AreSingle n p) (t : AreSingle n q) (rest : HasNoService p) (act now k : ℕ) (is : q ≡ with_entries p (scan_entries p act now k)) (served : waiting_of p ≡ []) where
  abbrev scan_turn : QEntry
  scan_turn = queue_entry_by p act (Scan now) (Count k)

  abbrev time : ℕ
  time = max (queue_in p).last now

  same : q.timers ≡ p.timers
  same = ap (λ v. v.timers) is

  seen : journal_seen q 0 ≡ journal_seen p 0 ++ scan_turn ∷ []
  seen = ap (λ v. journal_seen v 0) is ∙ journal_on p scan_turn (let one = s.cpus in omega (arith, one))

  queue_is : queue_in q ≡ scanned 256 (directs p.params) (queue_in p) time
  queue_is = queue_after n p q s t (scan_turn ∷ []) seen

  none : (queue_in p).expired ≡ []
  none = no_numbers (queue_in p).expired served

  after : (queue_in p).last ≤ time
  after = max_left (queue_in p).last now

  expired : (queue_in q).expired ≡ map as_due (due_by 256 (queue_in p) time)
  expired = ap (λ (x : Queue). x.expired) queue_is ∙ expired_is 256 (directs p.params) (queue_in p) time after (plain_at n p s) none

  counted : k ≡ length (due_by 256 (queue_in p) time)
  counted = let legal = legal_turns n p q s t (scan_turn ∷ []) seen in let h = legal.0.0 in cc

  pub is_scanned_now : IsScanned p now k q
  is_scanned_now = record {
    callouts = callouts_stay p q same;
    scans = ap scan_times seen ∙ scans-append (journal_seen p 0) (scan_turn ∷ []);
    clock = ap (λ (x : Queue). x.last) queue_is;
    waiting = λ i.
        times_come i (queue_in q).expired
        ∙ (ap (λ (x : Queue). length (come x i)) queue_is
        ∙ ((sorted 256 (directs p.params) (queue_in p) time after (plain_at n p s) none i (callout_seen p i).armed (rest.placed i)).once
        ∙ ap (due_once (alarm_at p i)) (sym (ap (λ (x : Queue). x.last) queue_is))));
    count = counted ∙ sym (ap (λ ds. length (numbers ds)) expired ∙ (length-map (map as_due (due_by 256 (queue_in p) time)) (λ d. d.i) ∙ length-map (due_by 256 (queue_in p) time) as_due));
  }

  pub rests_scanned : HasNoService q
  rests_scanned = record {
    calm = λ j. subst IsCalm (sym (callout_still p q same j)) (rest.calm j);
    serving = ap (λ (x : Queue). x.serving) queue_is ∙ rest.serving;
    urgent = ap (λ (x : Queue). x.urgent) queue_is ∙ urgent_is 256 (directs p.params) (queue_in p) time after (plain_at n p s) none rest.urgent;
    placed = λ j. subst (λ v. ArmingStands v j (callout_seen q j).armed) (sym queue_is) (subst (λ x. ArmingStands (scanned 256 (directs p.params) (queue_in p) time) j x.armed) (sym (callout_still p q same j)) (sorted 256 (directs p.params) (queue_in p) time after (plain_at n p s) none j (callout_seen p j).armed (rest.placed j)).placed);
  }
