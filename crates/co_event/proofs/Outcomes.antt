-- Each call keeps what the queue stands for: the events stay sound, and the wheel and the deadlines follow them.
use Rattle.std.proofs.Common.{◌≡◌, ℕ, ◌+◌, ◌<◌, ◌≤◌, Bool, true, false, cond, not, ◌==◌, List, [], ◌∷◌, ◌++◌, replicate, get_or, set, length, max, ℤ, pos, negsuc, zero, suc, refl, ap, sym, subst, ◌∙◌, arith, nat_lt, IfSome}
use Rattle.std.specs.List.{filter}
use Rattle.std.specs.declared.option.Option.{Option}
use Rattle.std.specs.declared.option.Option.TheVariants.{Some, None}
use Rattle.co_sbt.specs.Time.{sat_add}
use Rattle.co_object.specs.declared.queue.QOp.TheVariants.{Insert, Remove, Scan}
use Rattle.co_object.specs.declared.queue.QReply.TheVariants.{At, Count}
use Rattle.co_object.specs.Scan.{is_direct}
use Rattle.co_object.proofs.Each.{Each, each-all, each-append, each-filter}
use Rattle.co_object.proofs.Numbers.{same_number, same_itself}
use Rattle.co_object.proofs.Passing.{passing, passing-append, passing-filter_none}
use Rattle.co_queue.specs.Timers.{Timers, empty_timers}
use Rattle.co_queue.specs.StandsFor.{StandsFor as QueueStandsFor, Answers as QueueAnswers, removed}
use Rattle.co_queue.proofs.Numbers.{passing-fewer}
use Rattle.co_event.specs.declared.event_queue.Armed.{Armed}
use Rattle.co_event.specs.Events.{Window, Events, no_events, deadline, next_moment, is_pending, others}
use Rattle.co_event.specs.AsQueue.{queue_of}
use Rattle.co_event.specs.Calls.{arm, stop, take_at, fired, settle}
use Rattle.co_event.specs.GiveOut.{cleared, IsGivenOut}
use Rattle.co_event.specs.EventTimers.{EventTimers, first_deadline}
use Rattle.co_event.specs.StandsFor.{StandsFor, Answers}
use Rattle.co_event.proofs.Windows.{any-none_left}
use Rattle.co_event.proofs.Moment.{first, each-none, moment-first, moment-one}
use Rattle.co_event.proofs.Standing.{Sound, sound-of, of-sound, next-is, wheel-removed, wheel-inserted, wheel-taken, Deadlines, deadlines-stopped, deadlines-armed, deadlines-taken}

-- ---- the events stay sound

once-rest : (i j : ℕ) (ws : List Window) → passing (λ w. w.i == j) ws ≤ 1 → passing (λ w. w.i == j) (filter (λ w. not (w.i == i)) ws) + cond (i == j) 1 0 ≤ 1
once-rest i j ws h = at_test (i == j) refl where
  at_test : (b : Bool) → (i == j) ≡ b → passing (λ w. w.i == j) (filter (λ w. not (w.i == i)) ws) + cond b 1 0 ≤ 1
  at_test true is =
      let none = passing-filter_none (λ w. w.i == j) (λ w. not (w.i == i)) (λ w same. ap not (same_itself w.i i (same_number w.i j same ∙ sym (same_number i j is)))) ws in
      omega (arith, none)
  at_test false is = omega (arith, passing-fewer (λ w. w.i == j) (λ w. not (w.i == i)) ws, h)

each-kept : (P : Window → Type 0) (keep : Window → Bool) (ws : List Window) → Each P ws → Each P (filter keep ws)
each-kept P keep ws h = each-filter P P keep (λ w _ p. p) ws h

pub sound-armed : (e : Events) (i due prec : ℕ) → max due e.now ≤ sat_add (max due e.now) prec → Sound e → Sound (arm e i due prec).0
sound-armed e i due prec ends h =
    let w : Window = record { i = i; due = max due e.now; prec = prec; serial = e.next_serial } in
    record {
      once = λ j. omega (arith, passing-append (λ x. x.i == j) (others e i) (w ∷ []), once-rest i j e.pending (h.once j));
      ahead = each-append (λ x. e.now ≤ deadline x) (others e i) (w ∷ []) (each-kept (λ x. e.now ≤ deadline x) (λ x. not (x.i == i)) e.pending h.ahead) (omega (arith, ends), tt);
      windows = each-append (λ x. x.due ≤ deadline x) (others e i) (w ∷ []) (each-kept (λ x. x.due ≤ deadline x) (λ x. not (x.i == i)) e.pending h.windows) (ends, tt);
      taken = h.taken;
    }

pub sound-stopped : (e : Events) (i : ℕ) → Sound e → Sound (stop e i).0
sound-stopped e i h = record {
  once = λ j. omega (arith, passing-fewer (λ x. x.i == j) (λ x. not (x.i == i)) e.pending, h.once j);
  ahead = each-kept (λ x. e.now ≤ deadline x) (λ x. not (x.i == i)) e.pending h.ahead;
  windows = each-kept (λ x. x.due ≤ deadline x) (λ x. not (x.i == i)) e.pending h.windows;
  taken = h.taken;
}

pub sound-taken : (e : Events) (moment : ℕ) → next_moment e ≡ Some moment → Sound e → Sound (take_at e (Some moment)).0
sound-taken e moment is h = record {
  once = λ j. omega (arith, passing-fewer (λ x. x.i == j) (λ x. nat_lt moment x.due) e.pending, h.once j);
  ahead = each-kept (λ x. moment ≤ deadline x) (λ x. nat_lt moment x.due) e.pending (moment-first e.pending moment is);
  windows = each-kept (λ x. x.due ≤ deadline x) (λ x. nat_lt moment x.due) e.pending h.windows;
  taken = omega arith;
}

pub sound-settled : (e : Events) (now : ℕ) → Each (λ w. now < deadline w) e.pending → Sound e → Sound (settle e now).0
sound-settled e now clear h = record {
  once = h.once;
  ahead = both e.pending h.ahead clear;
  windows = h.windows;
  taken = let before = h.taken in omega arith;
} where
  both : (ws : List Window) → Each (λ w. e.now ≤ deadline w) ws → Each (λ w. now < deadline w) ws → Each (λ w. max e.now now ≤ deadline w) ws
  both [] g f = tt
  both (w ∷ ws) g f = ((let a = g.0 in let b = f.0 in omega arith), both ws g.1 f.1)

none-over : (now : ℕ) (ws : List Window) → first ws ≡ None → Each (λ w. now < deadline w) ws
none-over now ws is = each-all (λ w. now + 1 ≤ deadline w) (λ w. now < deadline w) (λ w f. omega (arith, f)) ws (each-none (now + 1) ws is)

-- no window ends by a time before the first deadline
pub clear-of : (e : Events) (now : ℕ) (next : Option ℕ) → next ≡ next_moment e → IfSome next (λ moment. now < moment) → Each (λ w. now < deadline w) e.pending
clear-of e now next is h = at_next next is h where
  at_next : (x : Option ℕ) → x ≡ next_moment e → IfSome x (λ moment. now < moment) → Each (λ w. now < deadline w) e.pending
  at_next None is g = none-over now e.pending (sym is)
  at_next (Some moment) is g = each-all (λ w. moment ≤ deadline w) (λ w. now < deadline w) (λ w f. omega (arith, f, g)) e.pending (moment-first e.pending moment (sym is))

-- the next moment is not past
pub ahead-of : (e : Events) (next : Option ℕ) → next ≡ next_moment e → Sound e → IfSome next (λ moment. e.now ≤ moment)
ahead-of e next is h = at_next next is where
  at_next : (x : Option ℕ) → x ≡ next_moment e → IfSome x (λ moment. e.now ≤ moment)
  at_next None is = tt
  at_next (Some moment) is = moment-one (λ n. e.now ≤ n) e.pending moment (sym is) h.ahead

-- ---- the calls

module _ (s : EventTimers) (e : Events) (h : StandsFor s e) where
  stood : Sound e
  stood = sound-of e h.sound

  pub armed : (i due prec from at : ℕ) (u v : Timers) (found : Bool) (deadlines : List (Option ℕ)) → i < length s.deadlines → from ≡ max due s.clock →
      QueueAnswers s.timers u (Remove i) (removed found) → QueueAnswers u v (Insert i 0 from) (At at) → at ≤ sat_add at prec → deadlines ≡ set s.deadlines i (Some (sat_add at prec)) →
      (found ≡ is_pending e i) × (at ≡ max due e.now) × StandsFor (record { timers = v; deadlines = deadlines; clock = s.clock }) (arm e i due prec).0
  armed i due prec from at u v found deadlines within from-is out in' ends set-is =
      let gone = wheel-removed s.timers u e i found h.pending out in
      let now-is : max due e.now ≡ from = ap (max due) h.now ∙ sym from-is in
      let later : e.last ≤ from = (let t = stood.taken in omega (arith, now-is, t)) in
      let put = wheel-inserted u v (stop e i).0 i from prec at gone.1 (any-none_left (λ w. w.i == i) e.pending) later in' in
      let at-is : at ≡ max due e.now = put.0 ∙ sym now-is in
      let w : Window = record { i = i; due = max due e.now; prec = prec; serial = e.next_serial } in (
        gone.0,
        at-is,
        record {
          sound = of-sound (arm e i due prec).0 (sound-armed e i due prec (subst (λ (t : ℕ). t ≤ sat_add t prec) at-is ends) stood);
          now = h.now;
          pending = subst (λ (t : ℕ). QueueStandsFor v (queue_of (record e { pending = others e i ++ (record { i = i; due = t; prec = prec; serial = e.next_serial }) ∷ []; next_serial = e.next_serial + 1 }))) (sym now-is) put.1;
          deadlines = subst (λ (ds : List (Option ℕ)). Deadlines (others e i ++ w ∷ []) ds) (ap (λ (t : ℕ). set s.deadlines i (Some (sat_add t prec))) (sym at-is) ∙ sym set-is)
              (deadlines-armed e.pending s.deadlines h.deadlines i w refl within);
        },
      )

  pub stopped : (i : ℕ) (u : Timers) (found : Bool) (deadlines : List (Option ℕ)) →
      QueueAnswers s.timers u (Remove i) (removed found) → deadlines ≡ set s.deadlines i None →
      (found ≡ is_pending e i) × StandsFor (record { timers = u; deadlines = deadlines; clock = s.clock }) (stop e i).0
  stopped i u found deadlines out set-is =
      let gone = wheel-removed s.timers u e i found h.pending out in (
        gone.0,
        record {
          sound = of-sound (stop e i).0 (sound-stopped e i stood);
          now = h.now;
          pending = gone.1;
          deadlines = subst (λ (ds : List (Option ℕ)). Deadlines (others e i) ds) (sym set-is) (deadlines-stopped e.pending s.deadlines h.deadlines i);
        },
      )

  pub taken : (moment count : ℕ) (u v : Timers) (deadlines : List (Option ℕ)) → s.timers.buckets ≡ 256 → ((i : ℕ) → is_direct s.timers.direct i ≡ false) → first_deadline s ≡ Some moment →
      QueueAnswers s.timers u (Scan moment) (Count count) → IsGivenOut u v → deadlines ≡ cleared (fired e moment) s.deadlines →
      StandsFor (record { timers = v; deadlines = deadlines; clock = moment }) (take_at e (Some moment)).0
  taken moment count u v deadlines m none first-is out given cleared-is =
      let is : next_moment e ≡ Some moment = sym (next-is s e h) ∙ first-is in
      let then = sound-taken e moment is stood in
      let later : e.last ≤ moment = (let t = stood.taken in let now : e.now ≤ moment = moment-one (λ n. e.now ≤ n) e.pending moment is stood.ahead in omega (arith, t, now)) in
      record {
        sound = of-sound (take_at e (Some moment)).0 then;
        now = refl;
        pending = wheel-taken s.timers u v e moment count h.pending m none later out given;
        deadlines = subst (λ (ds : List (Option ℕ)). Deadlines (filter (λ w. nat_lt moment w.due) e.pending) ds) (sym cleared-is) (deadlines-taken e s.deadlines moment stood.once h.deadlines);
      }

  pub settled : (now clock : ℕ) → IfSome (first_deadline s) (λ moment. now < moment) → clock ≡ max s.clock now →
      StandsFor (record s { clock = clock }) (settle e now).0
  settled now clock clear is = record {
    sound = of-sound (settle e now).0 (sound-settled e now (clear-of e now (first_deadline s) (next-is s e h) clear) stood);
    now = ap (λ (t : ℕ). max t now) h.now ∙ sym is;
    pending = h.pending;
    deadlines = h.deadlines;
  }

-- ---- what the calls answer

-- the queue before a call, by its view
pub from-view : {R : Type 0} (s t after : EventTimers) (call : Events → Events × R) (reply : R) → s ≡ t → Answers s after call reply → Answers t after call reply
from-view s t after call reply is h = subst (λ (x : EventTimers). Answers x after call reply) is h

pub arm-answers : (s : EventTimers) (i due prec from at : ℕ) (u v : Timers) (found : Bool) (deadlines : List (Option ℕ)) (code : ℤ) → i < length s.deadlines → from ≡ max due s.clock →
    QueueAnswers s.timers u (Remove i) (removed found) → QueueAnswers u v (Insert i 0 from) (At at) → at ≤ sat_add at prec → deadlines ≡ set s.deadlines i (Some (sat_add at prec)) → code ≡ cond found (pos 1) (pos 0) →
    Answers s (record { timers = v; deadlines = deadlines; clock = s.clock }) (λ e. arm e i due prec) (record { code = code; due = at })
arm-answers s i due prec from at u v found deadlines code within from-is out in' ends set-is code-is = record {
  size = in'.size ∙ out.size;
  outcome = λ e h.
      let then = armed s e h i due prec from at u v found deadlines within from-is out in' ends set-is in
      let code-as : cond (is_pending e i) (pos 1) (pos 0) ≡ code = ap (λ (b : Bool). cond b (pos 1) (pos 0)) (sym then.0) ∙ sym code-is in
      let made : ℤ → ℕ → Armed = λ z t. record { code = z; due = t } in
      (ap (λ (z : ℤ). made z (max due e.now)) code-as ∙ ap (made code) (sym then.1), then.2);
}

pub stop-answers : (s : EventTimers) (i : ℕ) (u : Timers) (found : Bool) (deadlines : List (Option ℕ)) (code : ℤ) →
    QueueAnswers s.timers u (Remove i) (removed found) → deadlines ≡ set s.deadlines i None → code ≡ cond found (pos 1) (negsuc 0) →
    Answers s (record { timers = u; deadlines = deadlines; clock = s.clock }) (λ e. stop e i) code
stop-answers s i u found deadlines code out set-is code-is = record {
  size = out.size;
  outcome = λ e h.
      let then = stopped s e h i u found deadlines out set-is in
      (ap (λ (b : Bool). cond b (pos 1) (negsuc 0)) (sym then.0) ∙ sym code-is, then.1);
}

pub settle-answers : (s : EventTimers) (now clock : ℕ) → IfSome (first_deadline s) (λ moment. now < moment) → clock ≡ max s.clock now →
    Answers {R = Unit {0}} s (record s { clock = clock }) (λ e. settle e now) tt
settle-answers s now clock clear is = record { size = refl; outcome = λ e h. (refl, settled s e h now clock clear is) }

-- ---- a new queue

get-none : (n j : ℕ) → None ≡ get_or {A = Option ℕ} (replicate n None) j None
get-none zero j = refl
get-none (suc n) zero = refl
get-none (suc n) (suc j) = get-none n j

pub none-direct : (n i : ℕ) → is_direct (replicate n false) i ≡ false
none-direct zero i = refl
none-direct (suc n) zero = refl
none-direct (suc n) (suc i) = none-direct n i

pub new-stands : (size : ℕ) (direct : List Bool) (wheel : Timers) (deadlines : List (Option ℕ)) (clock : ℕ) →
    wheel ≡ empty_timers size 256 direct → deadlines ≡ replicate size None → clock ≡ 0 → StandsFor (record { timers = wheel; deadlines = deadlines; clock = clock }) no_events
new-stands size direct wheel deadlines clock wheel-is deadlines-are clock-is = record {
  sound = of-sound no_events (record { once = λ i. omega arith; ahead = tt; windows = tt; taken = omega arith });
  now = sym clock-is;
  pending = subst (λ (s : Timers). QueueStandsFor s (queue_of no_events)) (sym wheel-is) (record { expired = refl; urgent = refl; last = refl; content = λ b. refl; numbered = refl });
  deadlines = λ j. get-none size j ∙ ap (λ (ds : List (Option ℕ)). get_or ds j None) (sym deadlines-are);
}
