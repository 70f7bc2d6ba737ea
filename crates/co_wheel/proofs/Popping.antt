-- The first callout that has come due goes into service: what the queue gives is armed and listed here, and the rest is kept.
-- One lane is followed for both: `direct` says which list is popped and which service it fills.
use Rattle.std.proofs.Common.{◌≡◌, ◌≢◌, ℕ, ◌≤◌, ◌<◌, Bool, true, false, cond, not, ◌&&◌, ◌==◌, List, [], ◌∷◌, ◌++◌, map, length, refl, ap, sym, subst, ◌∙◌}
use Rattle.std.specs.Prelude.{is_some}
use Rattle.std.specs.List.{filter}
use Rattle.std.specs.declared.option.Option.{Option}
use Rattle.std.specs.declared.option.Option.TheVariants.{Some, None}
use Rattle.std.proofs.lemmas.List.{get_or-set_same}
use Rattle.co_object.specs.declared.alone.Alone.{Alone}
use Rattle.co_object.specs.declared.spec.Spec.{Spec}
use Rattle.co_object.specs.declared.state.Arming.{Arming}
use Rattle.co_object.specs.declared.state.State.{State}
use Rattle.co_object.specs.declared.reply.Reply.{Reply}
use Rattle.co_object.specs.declared.queue.QReply.{QReply}
use Rattle.co_object.specs.declared.queue.QReply.TheVariants.{Got, Empty}
use Rattle.co_object.specs.Serve.{pick, pick_armed, taken, has_lock, is_due, go}
use Rattle.co_object.specs.Stand.{off, is_idle}
use Rattle.co_object.specs.Queue.{Waiting, Due, Queue}
use Rattle.co_object.specs.Journal.{step, queue_of, reply_of, pop_unless, pop_direct_unless, pop_first, pop_urgent}
use Rattle.co_object.proofs.Numbers.{same_itself}
use Rattle.co_queue.specs.Timers.{Timers}
use Rattle.co_queue.specs.StandsFor.{StandsFor, Answers, IsAtRest}
use Rattle.co_queue.proofs.Order.{unlike}
use Rattle.co_wheel.specs.Agreed.{Came, waits, came, entries, HasCome, IsListedAs, AgreesWith, IsOfItsLane, IsKeptBut, IsWheel}
use Rattle.co_wheel.specs.Callouts.{Callouts, callout, with_callout, in_service, with_service, is_direct_at, is_here, arming_number, due_at, IsDueAt}
use Rattle.co_wheel.specs.Cpu.{cpu_of}
use Rattle.co_wheel.specs.Service.{moved_on, pick_at, pick_it, pick_outcome}
use Rattle.co_wheel.specs.Turns.{Shows, Turns, pop_of}
use Rattle.co_wheel.proofs.Parts.{direct_of, arming_of_callout, off_of_callout}
use Rattle.co_wheel.proofs.Calling.{unarmed-off}
use Rattle.co_wheel.proofs.Entries.{none-all}
use Rattle.co_wheel.proofs.Keeping.{there-within}
use Rattle.co_wheel.proofs.Scanning.{two}
use Rattle.co_wheel.proofs.AgreedAfter.{but-with, closed, some-same}
use Rattle.co_object.specs.declared.reply.Reply.TheVariants.{Hold}
use Rattle.co_object.specs.declared.state.Run.TheVariants.{Picked}

-- what has come due for the CPU, or for its interrupt
abbrev lane_due : Bool → Queue → List Due
lane_due direct q = cond direct q.urgent q.expired

abbrev service_of : Bool → Queue → Option Due
service_of direct q = cond direct q.directing q.serving

-- the queue once d is in service, with this left in its lane
abbrev took : Bool → Queue → Due → List Due → Queue
took direct q d ds = cond direct (record q { urgent = ds; directing = Some d }) (record q { expired = ds; serving = Some d })

abbrev pop_lane : Bool → Queue → List Due → Queue × QReply
pop_lane direct q [] = (q, Empty)
pop_lane direct q (d ∷ ds) = (took direct q d ds, Got d.i d.n q.last)

pop-is : (m : ℕ) (lanes : List Bool) (q : Queue) (direct : Bool) → service_of direct q ≡ None → step m lanes q (pop_of direct) ≡ Some (pop_lane direct q (lane_due direct q))
pop-is m lanes q true rests = ap (pop_direct_unless q) rests ∙ by_list q.urgent where
  by_list : (ds : List Due) → Some (pop_urgent q ds) ≡ Some (pop_lane true q ds)
  by_list [] = refl
  by_list (d ∷ ds) = refl
pop-is m lanes q false rests = ap (pop_unless q) rests ∙ by_list q.expired where
  by_list : (ds : List Due) → Some (pop_first q ds) ≡ Some (pop_lane false q ds)
  by_list [] = refl
  by_list (d ∷ ds) = refl

at-rest : (q : Queue) (direct : Bool) → service_of direct q ≡ None → IsAtRest q (pop_of direct)
at-rest q true rests = rests
at-rest q false rests = rests

abbrev due : ℕ → ℕ → Due
due i n = record { i = i; n = n }

-- the first of the lane is callout i's arming n
pub record IsFirst (direct : Bool) (q : Queue) (i n last : ℕ) : Type 0 where
  pub rest : List Due
  pub first : lane_due direct q ≡ due i n ∷ rest
  pub scanned : q.last ≡ last

got-same : (i n t j m u : ℕ) → Some (Got i n t) ≡ Some (Got j m u) → (i ≡ j) × (n ≡ m) × (t ≡ u)
got-same i n t j m u h = (cc, cc, cc)

first-is : (direct : Bool) (q : Queue) (i n last : ℕ) → Some (pop_lane direct q (lane_due direct q)).1 ≡ Some (Got i n last) → IsFirst direct q i n last
first-is direct q i n last h = by_list (lane_due direct q) refl h where
  by_list : (xs : List Due) → lane_due direct q ≡ xs → Some (pop_lane direct q xs).1 ≡ Some (Got i n last) → IsFirst direct q i n last
  by_list [] is h = cc
  by_list (d ∷ ds) is h =
      let e = got-same d.i d.n q.last i n last h in
      record { rest = ds; first = is ∙ ap (λ k. due k d.n ∷ ds) e.0 ∙ ap (λ k. due i k ∷ ds) e.1; scanned = e.2 }

-- the only entry of a callout, where it is one that has come due
only : (cpu last : ℕ) (o : Option Alone) (direct : Bool) (ws : List Waiting) (d : Due) (xs ys : List Due) →
    AgreesWith cpu last o (map waits ws ++ map (came false) (cond direct ys (d ∷ xs)) ++ map (came true) (cond direct (d ∷ xs) ys)) →
    (ws ≡ []) × (xs ≡ []) × (ys ≡ []) × AgreesWith cpu last o (Came direct d.n ∷ [])
only cpu last o true [] d [] [] h = (refl, refl, refl, h)
only cpu last o false [] d [] [] h = (refl, refl, refl, h)
only cpu last o true [] d (x ∷ xs) [] h = absurd (two cpu last o _ _ _ h)
only cpu last o true [] d xs (y ∷ []) h = absurd (two cpu last o _ _ _ h)
only cpu last o true [] d xs (y ∷ z ∷ ys) h = absurd (two cpu last o _ _ _ h)
only cpu last o true (w ∷ []) d xs [] h = absurd (two cpu last o _ _ _ h)
only cpu last o true (w ∷ []) d xs (y ∷ ys) h = absurd (two cpu last o _ _ _ h)
only cpu last o true (w ∷ v ∷ ws) d xs ys h = absurd (two cpu last o _ _ _ h)
only cpu last o false [] d (x ∷ xs) ys h = absurd (two cpu last o _ _ _ h)
only cpu last o false [] d [] (y ∷ ys) h = absurd (two cpu last o _ _ _ h)
only cpu last o false (w ∷ []) d xs ys h = absurd (two cpu last o _ _ _ h)
only cpu last o false (w ∷ v ∷ ws) d xs ys h = absurd (two cpu last o _ _ _ h)

-- the callout whose arming n has come due here
pub record HasComeHere (direct : Bool) (c : Callouts) (i n last : ℕ) : Type 0 where
  pub alone : Alone
  pub there : callout c i ≡ Some alone
  pub arming : Arming
  pub armed : alone.state.armed ≡ Some arming
  pub listed : off alone.state ≡ Some c.cpu
  pub has_come : HasCome alone.spec.direct last arming direct n

come-here : (direct : Bool) (c : Callouts) (i n last : ℕ) → AgreesWith c.cpu last (callout c i) (Came direct n ∷ []) → HasComeHere direct c i n last
come-here direct c i n last h = by_callout (callout c i) refl h where
  by_callout : (o : Option Alone) → callout c i ≡ o → AgreesWith c.cpu last o (Came direct n ∷ []) → HasComeHere direct c i n last
  by_callout None is h = cc
  by_callout (Some a) is h = by_off a.state.armed (off a.state) refl refl h where
    by_off : (x : Option Arming) (y : Option ℕ) → a.state.armed ≡ x → off a.state ≡ y → IsListedAs a.spec.direct c.cpu last x y (Came direct n ∷ []) → HasComeHere direct c i n last
    by_off x None e f h = cc
    by_off None (Some at) e f h = absurd h
    by_off (Some m) (Some at) e f h = record { alone = a; there = is; arming = m; armed = e; listed = f ∙ ap Some h.0; has_come = h.1 }

-- a pick takes the arming away
picked-unarmed : (spec : Spec) (s : State) (n cpu at : ℕ) (o : State × Reply) → pick spec s n cpu at ≡ Some o → o.0.armed ≡ None
picked-unarmed spec s n cpu at o h = by_arming s.armed h where
  by_lock : (a : Arming) (b : Bool) → taken spec s a ≡ o → has_lock spec.lock ≡ b → o.0.armed ≡ None
  by_lock a true e is = sym (ap (λ x. x.0.armed) e) ∙ ap (λ b. (cond b (record s { armed = None; run = Picked a }, Hold) (go (record s { armed = None }) a)).0.armed) is
  by_lock a false e is = sym (ap (λ x. x.0.armed) e) ∙ ap (λ b. (cond b (record s { armed = None; run = Picked a }, Hold) (go (record s { armed = None }) a)).0.armed) is

  by_test : (a : Arming) (b : Bool) → cond b (Some (taken spec s a)) None ≡ Some o → o.0.armed ≡ None
  by_test a true h = by_lock a (has_lock spec.lock) (some-same (taken spec s a) o h) refl
  by_test a false h = cc

  by_arming : (x : Option Arming) → pick_armed spec s x n cpu at ≡ Some o → o.0.armed ≡ None
  by_arming None h = cc
  by_arming (Some a) h = by_test a (is_due a n cpu at && is_idle s.run) h

-- what a pick does to the callouts
pub record IsTaken (direct : Bool) (c c' : Callouts) (i n : ℕ) (a : Alone) (s : State) : Type 0 where
  pub callouts : c' ≡ with_service direct (with_callout c i (Some (moved_on a s))) (Some (due i n))
  pub unarmed : s.armed ≡ None

taken-is : (direct : Bool) (c c' : Callouts) (i n at : ℕ) (r : Reply) (a : Alone) → callout c i ≡ Some a → Some (c', r) ≡ pick_at direct c (due i n) at →
    (s : State) × IsTaken direct c c' i n a s
taken-is direct c c' i n at r a there h = by_outcome (pick a.spec a.state n c.cpu at) refl (h ∙ ap (pick_it direct c (due i n) at) there) where
  by_outcome : (o : Option (State × Reply)) → pick a.spec a.state n c.cpu at ≡ o → Some (c', r) ≡ pick_outcome direct c (due i n) a o → (s : State) × IsTaken direct c c' i n a s
  by_outcome None is h = cc
  by_outcome (Some o) is h =
      let e = some-same (c', r) (with_service direct (with_callout c i (Some (moved_on a o.0))) (Some (due i n)), o.1) h in
      (o.0, record { callouts = ap (λ x. x.0) e; unarmed = picked-unarmed a.spec a.state n c.cpu at o is })

module _ (q : Queue) (i n : ℕ) (rest : List Due) where
  own : filter (λ d. d.i == i) (due i n ∷ rest) ≡ due i n ∷ filter (λ d. d.i == i) rest
  own = ap (λ b. cond b (due i n ∷ filter (λ d. d.i == i) rest) (filter (λ d. d.i == i) rest)) (same_itself i i refl)

  entries-is : (e : Bool) → lane_due e q ≡ due i n ∷ rest → entries q i
      ≡ map waits (filter (λ w. w.i == i) q.content)
      ++ map (came false) (cond e (filter (λ d. d.i == i) (lane_due (not e) q)) (due i n ∷ filter (λ d. d.i == i) rest))
      ++ map (came true) (cond e (due i n ∷ filter (λ d. d.i == i) rest) (filter (λ d. d.i == i) (lane_due (not e) q)))
  entries-is true first = ap (λ us. map waits (filter (λ w. w.i == i) q.content) ++ map (came false) (filter (λ d. d.i == i) q.expired) ++ map (came true) us) (ap (filter (λ d. d.i == i)) first ∙ own)
  entries-is false first = ap (λ us. map waits (filter (λ w. w.i == i) q.content) ++ map (came false) us ++ map (came true) (filter (λ d. d.i == i) q.urgent)) (ap (filter (λ d. d.i == i)) first ∙ own)

  took-gone : (e : Bool) → filter (λ w. w.i == i) q.content ≡ [] → filter (λ d. d.i == i) rest ≡ [] → filter (λ d. d.i == i) (lane_due (not e) q) ≡ [] → entries (took e q (due i n) rest) i ≡ []
  took-gone true content mine other = none-all i (took true q (due i n) rest) (record { content = content; expired = other; urgent = mine })
  took-gone false content mine other = none-all i (took false q (due i n) rest) (record { content = content; expired = mine; urgent = other })

  took-other : (e : Bool) (j : ℕ) → j ≢ i → lane_due e q ≡ due i n ∷ rest → entries (took e q (due i n) rest) j ≡ entries q j
  took-other true j ne first = sym (ap (λ us. map waits (filter (λ w. w.i == j) q.content) ++ map (came false) (filter (λ d. d.i == j) q.expired) ++ map (came true) us)
      (ap (filter (λ d. d.i == j)) first ∙ ap (λ b. cond b (due i n ∷ filter (λ d. d.i == j) rest) (filter (λ d. d.i == j) rest)) (unlike i j (λ e. ne (sym e)))))
  took-other false j ne first = sym (ap (λ us. map waits (filter (λ w. w.i == j) q.content) ++ map (came false) us ++ map (came true) (filter (λ d. d.i == j) q.urgent))
      (ap (filter (λ d. d.i == j)) first ∙ ap (λ b. cond b (due i n ∷ filter (λ d. d.i == j) rest) (filter (λ d. d.i == j) rest)) (unlike i j (λ e. ne (sym e)))))

  took-last : (e : Bool) → (took e q (due i n) rest).last ≡ q.last
  took-last true = refl
  took-last false = refl

-- callout i's arming n was the first of its lane
module _ (direct : Bool) (c : Callouts) (s t : Timers) (i n : ℕ) (free : in_service direct c ≡ None) (answers : Answers s t (pop_of direct) (Got i n s.last)) where
  service-none : (e : Bool) (q : Queue) → Shows (cpu_of c s) q → in_service e c ≡ None → service_of e q ≡ None
  service-none true q shows h = shows.directing ∙ h
  service-none false q shows h = shows.serving ∙ h

  module _ (q : Queue) (shows : Shows (cpu_of c s) q) where
    step-is : step s.buckets s.direct q (pop_of direct) ≡ Some (pop_lane direct q (lane_due direct q))
    step-is = pop-is s.buckets s.direct q direct (service-none direct q shows free)

    answered : (reply_of (step s.buckets s.direct q (pop_of direct)) ≡ Some (Got i n s.last)) × StandsFor t (queue_of (step s.buckets s.direct q (pop_of direct)) q)
    answered = answers.outcome q shows.timers (at-rest q direct (service-none direct q shows free))

    first : IsFirst direct q i n s.last
    first = first-is direct q i n s.last (sym (ap reply_of step-is) ∙ answered.0)

    after-is : queue_of (step s.buckets s.direct q (pop_of direct)) q ≡ took direct q (due i n) first.rest
    after-is = ap (λ o. queue_of o q) step-is ∙ ap (λ ds. (pop_lane direct q ds).0) first.first

    stands-after : StandsFor t (took direct q (due i n) first.rest)
    stands-after = subst (StandsFor t) after-is answered.1

  took-shows : (e : Bool) (b : Callouts) (q : Queue) (rest : List Due) → q.serving ≡ b.serving → q.directing ≡ b.directing → StandsFor t (took e q (due i n) rest) →
      Shows (cpu_of (with_service e b (Some (due i n))) t) (took e q (due i n) rest)
  took-shows true b q rest serving directing stands = record { timers = stands; serving = serving; directing = refl }
  took-shows false b q rest serving directing stands = record { timers = stands; serving = refl; directing = directing }

  -- the queue's part
  pop-turn : (o : Option Alone) → Turns (cpu_of c s) ((pop_of direct, Got i n s.last) ∷ []) (cpu_of (with_service direct (with_callout c i o) (Some (due i n))) t)
  pop-turn o = record {
    size = answers.size;
    buckets = answers.buckets;
    direct = answers.direct;
    outcome = λ q shows. (
      (answered q shows).0,
      subst (Shows (cpu_of (with_service direct (with_callout c i o) (Some (due i n))) t)) (sym (after-is q shows))
          (took-shows direct (with_callout c i o) q (first q shows).rest shows.serving shows.directing (stands-after q shows)),
    );
  }

  module _ (kept : IsWheel (cpu_of c s)) where
    abbrev here : IsFirst direct kept.0 i n s.last
    here = first kept.0 kept.1.shows

    same-last : t.last ≡ s.last
    same-last = sym (stands-after kept.0 kept.1.shows).last ∙ took-last kept.0 i n here.rest direct ∙ here.scanned

    alone-there : (filter (λ w. w.i == i) kept.0.content ≡ []) × (filter (λ d. d.i == i) here.rest ≡ []) × (filter (λ d. d.i == i) (lane_due (not direct) kept.0) ≡ [])
        × AgreesWith c.cpu kept.0.last (callout c i) (Came direct n ∷ [])
    alone-there = only c.cpu kept.0.last (callout c i) direct (filter (λ w. w.i == i) kept.0.content) (due i n) (filter (λ d. d.i == i) here.rest) (filter (λ d. d.i == i) (lane_due (not direct) kept.0))
        (subst (AgreesWith c.cpu kept.0.last (callout c i)) (entries-is kept.0 i n here.rest direct here.first) (kept.1.agrees.each i))

    found : HasComeHere direct c i n kept.0.last
    found = come-here direct c i n kept.0.last alone-there.3

    pub taken-here : is_here c i ≡ true
    taken-here = ap is_some found.there

    pub taken-lane : is_direct_at c i ≡ direct
    taken-lane = ap direct_of found.there ∙ sym found.has_come.lane_is

    pub taken-number : due_at c i ≡ due i n
    taken-number = ap (λ o. due i (arming_number o)) (ap arming_of_callout found.there ∙ found.armed) ∙ ap (due i) (sym found.has_come.number)

    pub taken-due : IsDueAt c i t.last
    taken-due = record {
      arming = found.arming;
      armed = ap arming_of_callout found.there ∙ found.armed;
      listed = ap off_of_callout found.there ∙ found.listed;
      due = subst (λ x. found.arming.due ≤ x) (here.scanned ∙ sym same-last) found.has_come.due;
    }

    within : i < length c.here
    within = there-within c i found.alone found.there

    -- the callouts that stay agree with the queue that stays
    but-first : IsKeptBut i (cpu_of (with_service direct c (Some (due i n))) t) (took direct kept.0 (due i n) here.rest)
    but-first = record {
      shows = took-shows direct c kept.0 here.rest kept.1.shows.serving kept.1.shows.directing (stands-after kept.0 kept.1.shows);
      gone = took-gone kept.0 i n here.rest direct alone-there.0 alone-there.1 alone-there.2;
      agrees = λ j ne. at_lane direct j (subst (λ l. AgreesWith c.cpu l (callout c j) (entries (took direct kept.0 (due i n) here.rest) j)) (sym (took-last kept.0 i n here.rest direct))
          (subst (AgreesWith c.cpu kept.0.last (callout c j)) (sym (took-other kept.0 i n here.rest direct j ne here.first)) (kept.1.agrees.each j)));
      lanes = λ j. lane_at direct j (subst (λ d. IsOfItsLane d j (callout c j)) (sym answers.direct) (kept.1.lanes j));
      size = same_size direct ∙ kept.1.size ∙ sym answers.size;
    } where
      at_lane : (e : Bool) (j : ℕ) → AgreesWith c.cpu (took direct kept.0 (due i n) here.rest).last (callout c j) (entries (took direct kept.0 (due i n) here.rest) j) →
          AgreesWith (with_service e c (Some (due i n))).cpu (took direct kept.0 (due i n) here.rest).last (callout (with_service e c (Some (due i n))) j) (entries (took direct kept.0 (due i n) here.rest) j)
      at_lane true j h = h
      at_lane false j h = h

      lane_at : (e : Bool) (j : ℕ) → IsOfItsLane t.direct j (callout c j) → IsOfItsLane t.direct j (callout (with_service e c (Some (due i n))) j)
      lane_at true j h = h
      lane_at false j h = h

      same_size : (e : Bool) → length (with_service e c (Some (due i n))).here ≡ length c.here
      same_size true = refl
      same_size false = refl

    module _ (c' : Callouts) (r : Reply) (at : ℕ) (h : Some (c', r) ≡ pick_at direct c (due i n) at) where
      after : (u : State) × IsTaken direct c c' i n found.alone u
      after = taken-is direct c c' i n at r found.alone found.there h

      kept-at : (e : Bool) (o : Option Alone) → with_callout (with_service e c (Some (due i n))) i o ≡ with_service e (with_callout c i o) (Some (due i n))
      kept-at true o = refl
      kept-at false o = refl

      within-at : (e : Bool) → i < length (with_service e c (Some (due i n))).here
      within-at true = within
      within-at false = within

      pub taken-kept : IsWheel (cpu_of c' t)
      taken-kept =
          let b = with_service direct c (Some (due i n)) in
          let o = Some (moved_on found.alone after.0) in
          subst (λ x. IsWheel (cpu_of x t)) (kept-at direct o ∙ sym after.1.callouts)
          (closed i (with_callout b i o) t (ap off_of_callout (get_or-set_same b.here i o None (within-at direct)) ∙ unarmed-off after.0 after.1.unarmed)
          (but-with i b t o (took direct kept.0 (due i n) here.rest, but-first)
          (subst (λ d. IsOfItsLane d i o) (sym answers.direct) (subst (IsOfItsLane s.direct i) found.there (kept.1.lanes i))) (within-at direct)))

      pub taken-turn : Turns (cpu_of c s) ((pop_of direct, Got i n t.last) ∷ []) (cpu_of c' t)
      taken-turn = subst (λ x. Turns (cpu_of c s) ((pop_of direct, Got i n x) ∷ []) (cpu_of c' t)) (sym same-last)
          (subst (λ x. Turns (cpu_of c s) ((pop_of direct, Got i n s.last) ∷ []) (cpu_of x t)) (sym after.1.callouts) (pop-turn (Some (moved_on found.alone after.0))))
