-- Each command leaves what the sleep queue with a clock leaves, and is answered as it.
use Rattle.std.proofs.Common.{◌≡◌, ℕ, suc, length, get_or, ◌+◌, ◌<◌, ◌≤◌, ◌^◌, ◌==◌, Bool, true, false, List, [], ◌∷◌, ◌++◌, refl, sym, ap, ◌∙◌, subst, arith, append-nil}
use Rattle.std.specs.Prelude.{not, pos, if◌then◌else◌}
use Rattle.std.specs.Option.{option_to_list}
use Rattle.std.specs.declared.option.Option.{Option}
use Rattle.std.specs.declared.option.Option.TheVariants.{Some, None}
use Rattle.co_object.specs.declared.op.CallOp.TheVariants.{Plain}
use Rattle.co_object.specs.declared.op.PlainOp.TheVariants.{Reset, Stop}
use Rattle.co_object.specs.declared.reply.Reply.{Reply}
use Rattle.co_sbt.specs.Time.{sat_add, from_ticks}
use Rattle.co_desk.specs.Views.{PassesView}
use Rattle.co_single.specs.Acts.{OthersStay, TimeStays}
use Rattle.co_object.specs.declared.note.Entry.{Entry}
use Rattle.co_single.specs.Alarms.{all_gos, callout_count, fired_at, gos, made_at, scan_times_of}
use Rattle.co_sleepq.specs.declared.op.SleepOp.TheVariants as op
use Rattle.co_sleepq.specs.declared.outs.SleepMade.{SleepMade}
use Rattle.co_sleepq.specs.declared.outs.Ticked.{Ticked}
use Rattle.co_sleepq.specs.declared.reply.SleepReply.{SleepReply}
use Rattle.co_sleepq.specs.declared.reply.SleepReply.TheVariants.{Began, Already, Worn, Woke, One, Nobody, TimedOut, Late, Asleep, Was}
use Rattle.co_sleepq.specs.Queue.{step}
use Rattle.co_sleepq.specs.Shared.{TellsReply}
use Rattle.co_sleepq.specs.Ticks.{IsTicked}
use Rattle.co_sleepq.specs.Timers.{Calls, IsAwake, IsSlept, hz, reset_for, stop_for}
use Rattle.co_sleepq.specs.Views.{SleepPassesView}
use Rattle.co_batch_text.specs.Sleep.Clock.{Answer, Clocked, Told, alarms_after, obey, stopped_by}
use Rattle.co_batch_text.specs.Sleep.Clock as clock
use Rattle.co_batch_text.specs.Sleep.Commands.{clock_of}
use Rattle.co_batch_text.specs.Sleep.Ends.{calls_in}
use Rattle.co_batch_text.specs.Sleep.Matching.{IsMatched, IsObeyed, IsBetweenCalls}
use Rattle.co_batch_text.specs.declared.sleep.command.SleepCommand.{SleepCommand}
use Rattle.co_batch_text.specs.declared.sleep.command.SleepCommand.TheVariants.{Sleep, Wakeup, WakeupOne, Awake, Tick}
use Rattle.co_batch_text.proofs.SleepText.Played.{arms, disarms}
use Rattle.co_batch_text.proofs.SleepText.Serving.{Is, apart, same, which}
use Rattle.co_batch_text.proofs.SleepText.Telling.{book_told, wakeup_done, wakeup_one_done}
use Rattle.co_batch_text.proofs.SleepText.Timing.{asked, stop_done}
use Rattle.co_batch_text.proofs.SleepText.WholeTick.{tick_done}

-- histories that call their functions equally often, place by place
gos_same : (Hs Gs : List (List Entry)) → length Hs ≡ length Gs → ((j : ℕ) → gos (get_or Hs j []) ≡ gos (get_or Gs j [])) → all_gos Hs ≡ all_gos Gs
gos_same [] [] long each = refl
gos_same [] (G ∷ Gs) long each = absurd (omega (arith, long))
gos_same (H ∷ Hs) [] long each = absurd (omega (arith, long))
gos_same (H ∷ Hs) (G ∷ Gs) long each =
    let here : gos H ≡ gos G = each 0 in
    let rest = gos_same Hs Gs (omega (arith, long)) (λ j. each (suc j)) in
    omega (arith, here, rest)

-- nothing is scanned and nothing fires, and at most one arming is made
pub record Keeps (p q : PassesView) : Type 0 where
  pub scans : scan_times_of q ≡ scan_times_of p
  pub gos : all_gos q.timers ≡ all_gos p.timers
  pub made : (i : ℕ) → made_at q i ≤ made_at p i + 1

keeps-all : (p q : PassesView) → q ≡ p → Keeps p q
keeps-all p q is = record { scans = ap scan_times_of is; gos = ap (λ (v : PassesView). all_gos v.timers) is; made = λ i. (let e = ap (λ (v : PassesView). made_at v i) is in omega (arith, e)) }

-- one callout changed
module _ (p q : PassesView) (i : ℕ) (others : OthersStay p i q) (time : TimeStays p q) (fired : fired_at q i ≡ fired_at p i) (made : made_at q i ≤ made_at p i + 1) where
  fired-all : (j : ℕ) → Is j i → fired_at q j ≡ fired_at p j
  fired-all j (same e) = subst (λ (k : ℕ). fired_at q k ≡ fired_at p k) (sym e) fired
  fired-all j (apart non) = others.fired j non

  made-all : (j : ℕ) → Is j i → made_at q j ≤ made_at p j + 1
  made-all j (same e) = subst (λ (k : ℕ). made_at q k ≤ made_at p k + 1) (sym e) made
  made-all j (apart non) = (let o = others.made j non in omega (arith, o))

  keeps-one : Keeps p q
  keeps-one = record {
    scans = time.scans;
    gos = gos_same q.timers p.timers others.count (λ j. fired-all j (which j i));
    made = λ j. made-all j (which j i);
  }

pub asked-keeps : (n : ℕ) (p q : SleepPassesView) (act i timo now : ℕ) (r : SleepReply) (tm : Option Reply) → IsBetweenCalls n p.service → i < callout_count p.service → made_at p.service i < 2 ^ 62 → Calls p act i (reset_for r timo now) tm q → Keeps p.service q.service
asked-keeps n p q act i timo now (Began s) tm quiet low fresh is = go (timo == 0) tm is where
  go : (b : Bool) (t : Option Reply) → Calls p act i (if b then None else Some (Plain (Reset (sat_add now (from_ticks (pos timo) hz)) 0 0 s None))) t q → Keeps p.service q.service
  go true None h = keeps-all p.service q.service (ap (λ (v : SleepPassesView). v.service) h)
  go true (Some r) h = absurd h
  go false None h = absurd h
  go false (Some reply) h =
      let a = (arms n p.service q.service quiet act i (sat_add now (from_ticks (pos timo) hz)) s reply h.0 low fresh h.1).0 in
      keeps-one p.service q.service i a.others a.time a.fired (let m = a.made in omega (arith, m))
asked-keeps n p q act i timo now Already None quiet low fresh is = keeps-all p.service q.service (ap (λ (v : SleepPassesView). v.service) is)
asked-keeps n p q act i timo now Worn None quiet low fresh is = keeps-all p.service q.service (ap (λ (v : SleepPassesView). v.service) is)
asked-keeps n p q act i timo now (Woke k) None quiet low fresh is = keeps-all p.service q.service (ap (λ (v : SleepPassesView). v.service) is)
asked-keeps n p q act i timo now (One k) None quiet low fresh is = keeps-all p.service q.service (ap (λ (v : SleepPassesView). v.service) is)
asked-keeps n p q act i timo now Nobody None quiet low fresh is = keeps-all p.service q.service (ap (λ (v : SleepPassesView). v.service) is)
asked-keeps n p q act i timo now (TimedOut k) None quiet low fresh is = keeps-all p.service q.service (ap (λ (v : SleepPassesView). v.service) is)
asked-keeps n p q act i timo now Late None quiet low fresh is = keeps-all p.service q.service (ap (λ (v : SleepPassesView). v.service) is)
asked-keeps n p q act i timo now Asleep None quiet low fresh is = keeps-all p.service q.service (ap (λ (v : SleepPassesView). v.service) is)
asked-keeps n p q act i timo now (Was e) None quiet low fresh is = keeps-all p.service q.service (ap (λ (v : SleepPassesView). v.service) is)
asked-keeps n p q act i timo now Already (Some r) quiet low fresh is = absurd is
asked-keeps n p q act i timo now Worn (Some r) quiet low fresh is = absurd is
asked-keeps n p q act i timo now (Woke k) (Some r) quiet low fresh is = absurd is
asked-keeps n p q act i timo now (One k) (Some r) quiet low fresh is = absurd is
asked-keeps n p q act i timo now Nobody (Some r) quiet low fresh is = absurd is
asked-keeps n p q act i timo now (TimedOut k) (Some r) quiet low fresh is = absurd is
asked-keeps n p q act i timo now Late (Some r) quiet low fresh is = absurd is
asked-keeps n p q act i timo now Asleep (Some r) quiet low fresh is = absurd is
asked-keeps n p q act i timo now (Was e) (Some r) quiet low fresh is = absurd is

-- a stop of a timer that is wanted
stopped : (n : ℕ) (c : Clocked) (p q : SleepPassesView) (act i : ℕ) (tm : Option Reply) → IsMatched n c p → i < callout_count p.service → Calls p act i (Some (Plain Stop)) tm q →
    IsMatched n (record c { alarms = clock.with_alarm i None c.alarms }) q × Keeps p.service q.service
stopped n c p q act i None m low h = absurd h
stopped n c p q act i (Some reply) m low h =
    let d = (disarms n p.service q.service m.quiet act i reply h.0 low h.1).0 in (
      stop_done n c p q m (ap (λ (v : SleepPassesView). v.seen) h.2) i act reply h.0 low h.1,
      keeps-one p.service q.service i d.others d.time d.fired (let m = d.made in omega (arith, m)),
    )

-- what an awake asks of its timer
woken : (n : ℕ) (c : Clocked) (p q : SleepPassesView) (act i : ℕ) (r : SleepReply) (tm : Option Reply) → IsMatched n c p → i < callout_count p.service → Calls p act i (stop_for r) tm q →
    IsMatched n (record c { alarms = stopped_by r i c.alarms }) q × Keeps p.service q.service
woken n c p q act i Asleep None m low is = (subst (IsMatched n c) (sym is) m, keeps-all p.service q.service (ap (λ (v : SleepPassesView). v.service) is))
woken n c p q act i Asleep (Some r) m low is = absurd is
woken n c p q act i (Began s) tm m low is = stopped n c p q act i tm m low is
woken n c p q act i Already tm m low is = stopped n c p q act i tm m low is
woken n c p q act i Worn tm m low is = stopped n c p q act i tm m low is
woken n c p q act i (Woke k) tm m low is = stopped n c p q act i tm m low is
woken n c p q act i (One k) tm m low is = stopped n c p q act i tm m low is
woken n c p q act i Nobody tm m low is = stopped n c p q act i tm m low is
woken n c p q act i (TimedOut k) tm m low is = stopped n c p q act i tm m low is
woken n c p q act i Late tm m low is = stopped n c p q act i tm m low is
woken n c p q act i (Was e) tm m low is = stopped n c p q act i tm m low is

-- ---- each command

module _ (n : ℕ) (c : Clocked) (p q : SleepPassesView) (m : IsMatched n c p) where
  told : (x : SleepCommand) → IsMatched n (obey n c x).0 q → option_to_list (clock_of x) ≡ [] → calls_in (obey n c x).1 ≡ 0 → Keeps p.service q.service → IsObeyed n c x p q
  told x matched none calls k = record {
    matched = matched;
    served = record {
      state = refl;
      scans = k.scans ∙ (sym (append-nil (scan_times_of p.service)) ∙ ap (λ (l : List ℕ). scan_times_of p.service ++ l) (sym none));
      gos = (let g = k.gos in omega (arith, g, calls));
    };
    made = k.made;
  }

  pub sleep_done : (act i chan timo : ℕ) (out : SleepMade) → i < callout_count p.service → ((j : ℕ) → made_at p.service j < 2 ^ 62) → IsSlept 1 p act i chan timo c.now out q → IsObeyed n c (Sleep i chan timo) p q × (Told out.reply ≡ (obey n c (Sleep i chan timo)).1)
  sleep_done act i chan timo out low fresh s =
      let o = op.Sleep i chan (not (timo == 0)) in
      let b = book_told n c o out.reply p s.between m s.told in
      let there : i < callout_count s.between.service = subst (λ (v : PassesView). i < callout_count v) (sym b.2) low in
      let few : made_at s.between.service i < 2 ^ 62 = subst (λ (v : PassesView). made_at v i < 2 ^ 62) (sym b.2) (fresh i) in
      let after = asked n (record c { queue = (step c.queue o).0 }) s.between q act i timo out.reply out.timer b.0 there few s.timer in
      let keeps = asked-keeps n s.between q act i timo c.now out.reply out.timer b.0.quiet there few s.timer in (
        told (Sleep i chan timo) (subst (λ (r : SleepReply). IsMatched n (record c { queue = (step c.queue o).0; alarms = alarms_after r i timo c.now c.alarms }) q) b.1 after) refl refl (subst (λ (v : PassesView). Keeps v q.service) b.2 keeps),
        ap Told b.1,
      )

  pub awake_done : (act i : ℕ) (out : SleepMade) → i < callout_count p.service → IsAwake 1 p act i out q → IsObeyed n c (Awake i) p q × (Told out.reply ≡ (obey n c (Awake i)).1)
  awake_done act i out low s =
      let b = book_told n c (op.Awake i) out.reply p s.between m s.told in
      let there : i < callout_count s.between.service = subst (λ (v : PassesView). i < callout_count v) (sym b.2) low in
      let w = woken n (record c { queue = (step c.queue (op.Awake i)).0 }) s.between q act i out.reply out.timer b.0 there s.timer in (
        told (Awake i) (subst (λ (r : SleepReply). IsMatched n (record c { alarms = stopped_by r i c.alarms }) q) b.1 w.0) refl refl (subst (λ (v : PassesView). Keeps v q.service) b.2 w.1),
        ap Told b.1,
      )

  pub wakeup_obeyed : (chan : ℕ) (r : SleepReply) → TellsReply 1 p (op.Wakeup chan) r q → IsObeyed n c (Wakeup chan) p q × (Told r ≡ (obey n c (Wakeup chan)).1)
  wakeup_obeyed chan r t = let d = wakeup_done n c chan r p q m t in (told (Wakeup chan) d.matched refl refl (keeps-all p.service q.service d.service), d.answer)

  pub wakeup_one_obeyed : (chan : ℕ) (r : SleepReply) → TellsReply 1 p (op.WakeupOne chan) r q → IsObeyed n c (WakeupOne chan) p q × (Told r ≡ (obey n c (WakeupOne chan)).1)
  wakeup_one_obeyed chan r t = let d = wakeup_one_done n c chan r p q m t in (told (WakeupOne chan) d.matched refl refl (keeps-all p.service q.service d.service), d.answer)

  pub tick_obeyed : (act time : ℕ) (out : Ticked) → IsTicked 1 p act time out q → IsObeyed n c (Tick time) p q × (clock.Ticked out.out out.late ≡ (obey n c (Tick time)).1)
  tick_obeyed act time out t =
      let d = tick_done n c act time out p q m t in (
        record {
          matched = d.matched;
          served = record {
            state = refl;
            scans = d.scans;
            gos = d.gos ∙ ap (λ (a : Answer). all_gos p.service.timers + calls_in a) d.answer;
          };
          made = λ i. (let e = d.made i in omega (arith, e));
        },
        d.answer,
      )
