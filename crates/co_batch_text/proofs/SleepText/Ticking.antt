-- A tick leaves what the sleep queue with a clock leaves, and is answered as it.
use Rattle.std.proofs.Common.{◌≡◌, ◌≢◌, ℕ, zero, suc, ◌+◌, ◌<◌, ◌≤◌, ◌==◌, ◌&&◌, Bool, true, false, List, [], ◌∷◌, length, map, refl, sym, ap, ◌∙◌, subst, arith}
use Rattle.std.specs.Prelude.{if◌then◌else◌, nat_le}
use Rattle.std.specs.List.{cons_option, count_by, filter_map, find, range_with_len}
use Rattle.std.specs.declared.option.Option.{Option}
use Rattle.std.specs.declared.option.Option.TheVariants.{Some, None}
use Rattle.std.proofs.lemmas.Bool.Decides.{nat_tests}
use Rattle.std.proofs.lemmas.List.Sums.{sum_by-cons}
use Rattle.co_single.specs.Alarms.{due_once, times_in}
use Rattle.co_single.specs.Alarms as single
use Rattle.co_sleepq.specs.declared.op.SleepOp.TheVariants as op
use Rattle.co_sleepq.specs.declared.reply.SleepReply.{SleepReply}
use Rattle.co_sleepq.specs.declared.sleep.Sleep.{Sleep}
use Rattle.co_sleepq.specs.Sleepers.{Sleepers}
use Rattle.co_sleepq.specs.Queue.{step, time_out}
use Rattle.co_sleepq.specs.Ticks.{is_late, is_out}
use Rattle.co_batch_text.specs.Sleep.Clock.{SleepAlarm, alarm_in, alarm_left, time_outs}
use Rattle.co_batch_text.specs.Sleep.Matching.{as_alarm}
use Rattle.co_batch_text.proofs.SleepText.Played.{replies}
use Rattle.co_batch_text.proofs.SleepText.Serving.{Is, apart, same, arg_of, times-apart, times-here, which}
use Rattle.co_batch_text.proofs.SleepText.Timeouts.{one_of}

-- ---- the sleepers whose timers are due

abbrev pub keep : Option SleepAlarm → (now i : ℕ) → List ℕ → List ℕ
keep None now i l = l
keep (Some a) now i l = if nat_le a.due now then i ∷ l else l

abbrev pub dues : (ℕ → Option SleepAlarm) → ℕ → List ℕ → List ℕ
dues A now [] = []
dues A now (i ∷ is) = keep (A i) now i (dues A now is)

dues-head : (g : ℕ → ℕ) (now i : ℕ) (o : Option SleepAlarm) (l : List ℕ) → arg_of (as_alarm o) ≡ g i → cons_option (alarm_in o now) (map g l) ≡ map g (keep o now i l)
dues-head g now i None l e = refl
dues-head g now i (Some a) l e = go (nat_le a.due now) where
  go : (b : Bool) → cons_option (if b then Some a.s else None) (map g l) ≡ map g (if b then i ∷ l else l)
  go true = ap (λ (x : ℕ). x ∷ map g l) e
  go false = refl

pub dues-map : (A : ℕ → Option SleepAlarm) (now : ℕ) (is : List ℕ) → filter_map (λ i. alarm_in (A i) now) is ≡ map (λ i. arg_of (as_alarm (A i))) (dues A now is)
dues-map A now [] = refl
dues-map A now (i ∷ is) = ap (cons_option (alarm_in (A i) now)) (dues-map A now is) ∙ dues-head (λ j. arg_of (as_alarm (A j))) now i (A i) (dues A now is) refl

kept-here : (o : Option SleepAlarm) (now i : ℕ) (l : List ℕ) → times_in i (keep o now i l) ≡ due_once (as_alarm o) now + times_in i l
kept-here None now i l = omega arith
kept-here (Some a) now i l = go (nat_le a.due now) where
  go : (b : Bool) → times_in i (if b then i ∷ l else l) ≡ one_of b + times_in i l
  go true = times-here i i l refl
  go false = omega arith

kept-apart : (o : Option SleepAlarm) (now j i : ℕ) (l : List ℕ) → i ≢ j → times_in i (keep o now j l) ≡ times_in i l
kept-apart None now j i l non = refl
kept-apart (Some a) now j i l non = go (nat_le a.due now) where
  go : (b : Bool) → times_in i (if b then j ∷ l else l) ≡ times_in i l
  go true = times-apart j i l non
  go false = refl

above : (a i : ℕ) → a ≤ i → i ≢ a → a + 1 ≤ i
above a i from non = grind (arith, nat_tests, from, non)

module _ (A : ℕ → Option SleepAlarm) (now : ℕ) where
  dues-before : (n a i : ℕ) → i < a → times_in i (dues A now (range_with_len a n)) ≡ 0
  dues-before zero a i low = refl
  dues-before (suc n) a i low = kept-apart (A a) now a i (dues A now (range_with_len (a + 1) n)) (λ e. absurd (omega (arith, low, e))) ∙ dues-before n (a + 1) i (omega (arith, low))

  pub dues-once : (n a i : ℕ) → ((j : ℕ) → a + n ≤ j → due_once (as_alarm (A j)) now ≡ 0) → a ≤ i → times_in i (dues A now (range_with_len a n)) ≡ due_once (as_alarm (A i)) now
  dues-once zero a i past from = sym (past i (omega (arith, from)))
  dues-once (suc n) a i past from = go (which i a) (dues-once n (a + 1) i (λ j h. past j (omega (arith, h)))) where
    go : Is i a → (a + 1 ≤ i → times_in i (dues A now (range_with_len (a + 1) n)) ≡ due_once (as_alarm (A i)) now) → times_in i (dues A now (range_with_len a (suc n))) ≡ due_once (as_alarm (A i)) now
    go (same e) rest = subst (λ (j : ℕ). times_in j (dues A now (range_with_len a (suc n))) ≡ due_once (as_alarm (A j)) now) (sym e)
        (let h = kept-here (A a) now a (dues A now (range_with_len (a + 1) n)) in let z = dues-before n (a + 1) a (omega arith) in omega (arith, h, z))
    go (apart non) rest = kept-apart (A a) now a i (dues A now (range_with_len (a + 1) n)) non ∙ rest (above a i from non)

pub due-most : (o : Option single.Alarm) (now : ℕ) → due_once o now ≤ 1
due-most None now = omega arith
due-most (Some a) now = go (nat_le a.due now) where
  go : (b : Bool) → one_of b ≤ 1
  go true = omega arith
  go false = omega arith

pub left-is : (o : Option SleepAlarm) (now : ℕ) (x : Option single.Alarm) → (due_once (as_alarm o) now ≡ 0 → x ≡ as_alarm o) → (0 < due_once (as_alarm o) now → x ≡ None) → x ≡ as_alarm (alarm_left o now)
left-is None now x stay gone = stay refl
left-is (Some a) now x stay gone = go (nat_le a.due now) stay gone where
  go : (b : Bool) → (one_of b ≡ 0 → x ≡ as_alarm (Some a)) → (0 < one_of b → x ≡ None) → x ≡ as_alarm (if b then None else Some a)
  go true st gn = gn (omega arith)
  go false st gn = st refl

-- ---- the counts

pub count-replies : (test : SleepReply → Bool) (fs : List (ℕ × SleepReply)) → count_by (λ f. test f.1) fs ≡ count_by test (replies fs)
count-replies test [] = refl
count-replies test (f ∷ fs) =
    sum_by-cons (λ (x : ℕ × SleepReply). one_of (test x.1)) f fs
    ∙ (ap (λ (m : ℕ). one_of (test f.1) + m) (count-replies test fs) ∙ sym (sum_by-cons (λ (x : SleepReply). one_of (test x)) f.1 (replies fs)))

out-or-late : (q : Sleepers) (o : Option Sleep) → one_of (is_out (time_out q o).1) + one_of (is_late (time_out q o).1) ≡ 1
out-or-late q None = refl
out-or-late q (Some x) = refl

-- each timeout ends a sleep or comes late
pub all-counted : (ss : List ℕ) (q : Sleepers) → count_by is_out (time_outs q ss).1 + count_by is_late (time_outs q ss).1 ≡ length ss
all-counted [] q = refl
all-counted (s ∷ ss) q =
    let one = step q (op.Timeout s) in
    let rest = all-counted ss one.0 in
    let outs = sum_by-cons (λ (x : SleepReply). one_of (is_out x)) one.1 (time_outs one.0 ss).1 in
    let lates = sum_by-cons (λ (x : SleepReply). one_of (is_late x)) one.1 (time_outs one.0 ss).1 in
    let here = out-or-late q (find (λ x. x.s == s && x.timed) q.sleeps) in
    omega (arith, rest, outs, lates, here)
