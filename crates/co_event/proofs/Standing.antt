-- What each call makes of the events that the queue stands for: first of the wheel's plain state, then of the deadlines.
use Rattle.std.proofs.Common.{◌≡◌, ℕ, ◌+◌, ◌<◌, ◌≤◌, Bool, true, false, cond, not, ◌||◌, ◌==◌, List, [], ◌∷◌, ◌++◌, map, set, get_or, length, max, refl, ap, sym, subst, ◌∙◌, arith, nat_lt, nat_le}
use Rattle.std.specs.List.{filter, list_any, find}
use Rattle.std.specs.Option.{option_map}
use Rattle.std.specs.declared.option.Option.{Option}
use Rattle.std.specs.declared.option.Option.TheVariants.{Some, None}
use Rattle.std.proofs.lemmas.Bool.Decides.{nat_tests}
use Rattle.std.proofs.lemmas.List.{get_or-set_same, get_or-set_other, map-append}
use Rattle.co_object.specs.declared.queue.QOp.TheVariants.{Insert, Remove, Scan}
use Rattle.co_object.specs.declared.queue.QReply.{QReply}
use Rattle.co_object.specs.declared.queue.QReply.TheVariants.{At, Off, Missing, Count}
use Rattle.co_object.specs.Queue.{Waiting, Due, Queue, holds, without}
use Rattle.co_object.specs.Scan.{due_by, is_direct, scanned, as_due}
use Rattle.co_object.specs.Journal.{step, reply_of, queue_of as then_queue}
use Rattle.co_object.proofs.Each.{Each}
use Rattle.co_object.proofs.Numbers.{same_number, same_itself}
use Rattle.co_object.proofs.Passing.{passing, count-passing, passing-map, passing-none, passing-some, passing-parts}
use Rattle.co_queue.specs.Timers.{Timers}
use Rattle.co_queue.specs.StandsFor.{StandsFor as QueueStandsFor, Answers as QueueAnswers, removed}
use Rattle.co_queue.proofs.Lists.{filter-map, any-map, filter_not-none}
use Rattle.co_bucket.proofs.Elements.{each-of, all-of}
use Rattle.co_event.specs.Events.{Window, Events, deadline, next_moment, is_pending, others}
use Rattle.co_event.specs.AsQueue.{as_waiting, queue_of}
use Rattle.co_event.specs.Calls.{fired}
use Rattle.co_event.specs.GiveOut.{cleared, IsGivenOut}
use Rattle.co_event.specs.EventTimers.{EventTimers, first_deadline}
use Rattle.co_event.specs.Sound.{AreSound}
use Rattle.co_event.specs.StandsFor.{StandsFor}
use Rattle.co_event.proofs.Windows.{unlike, any-none_left, find-none, find-last, find-before, find-kept, find-apart, find-passing_none, passing-in_order, get-set_none, get-cleared}
use Rattle.co_event.proofs.Moment.{first-kept}

-- ---- soundness, by recursion

pub record Sound (e : Events) : Type 0 where
  pub once : (i : ℕ) → passing (λ w. w.i == i) e.pending ≤ 1
  pub ahead : Each (λ w. e.now ≤ deadline w) e.pending
  pub windows : Each (λ w. w.due ≤ deadline w) e.pending
  pub taken : e.last ≤ e.now

pub sound-of : (e : Events) → AreSound e → Sound e
sound-of e h = record {
  once = λ i. omega (arith, h.once i, count-passing (λ w. w.i == i) e.pending);
  ahead = each-of (λ w. e.now ≤ deadline w) e.pending h.ahead;
  windows = each-of (λ w. w.due ≤ deadline w) e.pending h.windows;
  taken = h.taken;
}

pub of-sound : (e : Events) → Sound e → AreSound e
of-sound e h = record {
  once = λ i. omega (arith, h.once i, count-passing (λ w. w.i == i) e.pending);
  ahead = all-of (λ w. e.now ≤ deadline w) e.pending h.ahead;
  windows = all-of (λ w. w.due ≤ deadline w) e.pending h.windows;
  taken = h.taken;
}

-- the moment for which the clock is programmed
pub next-is : (s : EventTimers) (e : Events) → StandsFor s e → first_deadline s ≡ next_moment e
next-is s e h = first-kept e.pending s.deadlines (sound-of e h.sound).once h.deadlines

-- ---- the wheel

pub holds-is : (e : Events) (i : ℕ) → holds (queue_of e) i ≡ is_pending e i
holds-is e i =
    let or-false : (b : Bool) → (b || false || false) ≡ b = λ b. elim b as (λ c. (c || false || false) ≡ c) [ true ↦ refl | false ↦ refl ] in
    ap (λ b. b || false || false) (any-map as_waiting (λ w. w.i == i) e.pending) ∙ or-false (is_pending e i)

-- the wheel stands for the same pending windows, written in another way
pub with-content : (s : Timers) (q : Queue) (ws : List Waiting) → q.content ≡ ws → QueueStandsFor s q → QueueStandsFor s (record q { content = ws })
with-content s q ws is h = subst (λ (xs : List Waiting). QueueStandsFor s (record q { content = xs })) is h

module _ (s u : Timers) (e : Events) (i : ℕ) (found : Bool) (h : QueueStandsFor s (queue_of e)) (answer : QueueAnswers s u (Remove i) (removed found)) where
  abbrev without-i : Events
  without-i = record e { pending = others e i }

  found-as : (b c : Bool) → removed b ≡ cond c Off Missing → b ≡ c
  found-as true true is = refl
  found-as true false is = cc
  found-as false true is = cc
  found-as false false is = refl

  reply-some : (x y : QReply) → Some x ≡ Some y → x ≡ y
  reply-some x y is = cc

  pub wheel-removed : (found ≡ is_pending e i) × QueueStandsFor u (queue_of without-i)
  wheel-removed =
      let out = answer.outcome (queue_of e) h tt in
      at_test (holds (queue_of e) i) refl (sym (holds-is e i)) out.0 out.1 where
        at_test : (b : Bool) → holds (queue_of e) i ≡ b → is_pending e i ≡ holds (queue_of e) i →
            reply_of (Some (cond {A = Queue × QReply} (holds (queue_of e) i) (without (queue_of e) i, Off) (queue_of e, Missing))) ≡ Some (removed found) →
            QueueStandsFor u (then_queue (Some (cond {A = Queue × QReply} (holds (queue_of e) i) (without (queue_of e) i, Off) (queue_of e, Missing))) (queue_of e)) →
            (found ≡ is_pending e i) × QueueStandsFor u (queue_of without-i)
        at_test true is same reply stands =
            let off = reply-some _ _ (sym reply ∙ ap (λ b. reply_of (Some (cond {A = Queue × QReply} b (without (queue_of e) i, Off) (queue_of e, Missing)))) is) in
            let then : QueueStandsFor u (without (queue_of e) i) =
            subst (λ (b : Bool). QueueStandsFor u (then_queue (Some (cond {A = Queue × QReply} b (without (queue_of e) i, Off) (queue_of e, Missing))) (queue_of e))) is stands in
            (found-as found true off ∙ sym (same ∙ is), with-content u (without (queue_of e) i) (map as_waiting (others e i)) (filter-map as_waiting (λ w. not (w.i == i)) e.pending) then)
        at_test false is same reply stands =
            let off = reply-some _ _ (sym reply ∙ ap (λ b. reply_of (Some (cond {A = Queue × QReply} b (without (queue_of e) i, Off) (queue_of e, Missing)))) is) in
            let then : QueueStandsFor u (queue_of e) =
            subst (λ (b : Bool). QueueStandsFor u (then_queue (Some (cond {A = Queue × QReply} b (without (queue_of e) i, Off) (queue_of e, Missing))) (queue_of e))) is stands in
            (found-as found false off ∙ sym (same ∙ is), with-content u (queue_of e) (map as_waiting (others e i)) (ap (map as_waiting) (sym (filter_not-none (λ w. w.i == i) e.pending (same ∙ is)))) then)

-- a callout that is not pending goes in last
module _ (s u : Timers) (e : Events) (i due prec at : ℕ) (h : QueueStandsFor s (queue_of e)) (absent : is_pending e i ≡ false) (later : e.last ≤ due) (answer : QueueAnswers s u (Insert i 0 due) (At at)) where
  abbrev with-i : Events
  with-i = record e { pending = e.pending ++ (record { i = i; due = due; prec = prec; serial = e.next_serial }) ∷ []; next_serial = e.next_serial + 1 }

  abbrev put : ℕ → Queue
  put t = record (queue_of e) { content = map as_waiting e.pending ++ (record { i = i; n = 0; t = t; serial = e.next_serial }) ∷ []; next_serial = e.next_serial + 1 }

  at-some : (a b : ℕ) → Some (At a) ≡ Some (At b) → a ≡ b
  at-some a b is = cc

  pub wheel-inserted : (at ≡ due) × QueueStandsFor u (queue_of with-i)
  wheel-inserted =
      let out = answer.outcome (queue_of e) h tt in
      let free : holds (queue_of e) i ≡ false = holds-is e i ∙ absent in
      let same : max due e.last ≡ due = omega arith in
      let is : step s.buckets s.direct (queue_of e) (Insert i 0 due) ≡ Some (put due, At due) =
      ap (λ b. cond b None (Some (put (max due e.last), At (max due e.last)))) free ∙ ap (λ (t : ℕ). Some (put t, At t)) same in
      let then : QueueStandsFor u (put due) = subst (λ (o : Option (Queue × QReply)). QueueStandsFor u (then_queue o (queue_of e))) is out.1 in (
        at-some at due (sym out.0 ∙ ap reply_of is),
        with-content u (put due) (map as_waiting with-i.pending) (sym (map-append as_waiting e.pending ((record { i = i; due = due; prec = prec; serial = e.next_serial }) ∷ []))) then,
      )

-- what a scan takes is given out, and the rest is pending
module _ (s u v : Timers) (e : Events) (moment count : ℕ) (h : QueueStandsFor s (queue_of e)) (m : s.buckets ≡ 256) (none : (i : ℕ) → is_direct s.direct i ≡ false) (later : e.last ≤ moment) (answer : QueueAnswers s u (Scan moment) (Count count)) where
  abbrev after : Events
  after = record e { now = moment; last = moment; pending = filter (λ w. nat_lt moment w.due) e.pending }

  abbrev due : List Waiting
  due = due_by 256 (queue_of e) moment

  all-expired : (ws : List Waiting) → filter (λ w. not (is_direct s.direct w.i)) ws ≡ ws
  all-expired [] = refl
  all-expired (w ∷ ws) = ap (λ b. cond (not b) (w ∷ filter (λ w. not (is_direct s.direct w.i)) ws) (filter (λ w. not (is_direct s.direct w.i)) ws)) (none w.i) ∙ ap (λ (xs : List Waiting). w ∷ xs) (all-expired ws)

  none-urgent : (ws : List Waiting) → filter (λ w. is_direct s.direct w.i) ws ≡ []
  none-urgent [] = refl
  none-urgent (w ∷ ws) = ap (λ b. cond b (w ∷ filter (λ w. is_direct s.direct w.i) ws) (filter (λ w. is_direct s.direct w.i) ws)) (none w.i) ∙ none-urgent ws

  abbrev moved : List Waiting → List Due → List Due → Queue
  moved content expired urgent = record (queue_of e) { content = content; expired = expired; urgent = urgent; last = moment }

  scanned-is : scanned s.buckets s.direct (queue_of e) (max e.last moment) ≡ record (queue_of after) { expired = map as_due due }
  scanned-is =
      let same : max e.last moment ≡ moment = omega arith in
      ap (λ (n : ℕ). scanned n s.direct (queue_of e) (max e.last moment)) m
      ∙ ap (λ (t : ℕ). scanned 256 s.direct (queue_of e) t) same
      ∙ ap (λ (ws : List Waiting). moved ws (map as_due (filter (λ w. not (is_direct s.direct w.i)) due)) (map as_due (filter (λ w. is_direct s.direct w.i) due))) (filter-map as_waiting (λ w. nat_lt moment w.t) e.pending)
      ∙ ap (λ (ws : List Waiting). moved (map as_waiting after.pending) (map as_due ws) (map as_due (filter (λ w. is_direct s.direct w.i) due))) (all-expired due)
      ∙ ap (λ (ws : List Waiting). moved (map as_waiting after.pending) (map as_due due) (map as_due ws)) (none-urgent due)

  pub wheel-scanned : QueueStandsFor u (record (queue_of after) { expired = map as_due due })
  wheel-scanned = subst (λ (q : Queue). QueueStandsFor u q) scanned-is (answer.outcome (queue_of e) h tt).1

  pub wheel-taken : IsGivenOut u v → QueueStandsFor v (queue_of after)
  wheel-taken given = given.outcome (record (queue_of after) { expired = map as_due due }) wheel-scanned

  pub numbers-taken : map (λ d. d.i) u.expired ≡ fired e moment
  numbers-taken = ap (map (λ d. d.i)) (sym wheel-scanned.expired) ∙ each-number due where
    each-number : (ws : List Waiting) → map (λ d. d.i) (map as_due ws) ≡ map (λ w. w.i) ws
    each-number [] = refl
    each-number (w ∷ ws) = ap (λ (is : List ℕ). w.i ∷ is) (each-number ws)

-- ---- the deadlines

-- each callout has its deadline
abbrev pub Deadlines : List Window → List (Option ℕ) → Type 0
Deadlines ws deadlines = (j : ℕ) → option_map deadline (find (λ w. w.i == j) ws) ≡ get_or deadlines j None

module _ (ws : List Window) (deadlines : List (Option ℕ)) (h : Deadlines ws deadlines) (i : ℕ) where
  abbrev rest : List Window
  rest = filter (λ w. not (w.i == i)) ws

  -- the others keep theirs
  other-found : (j : ℕ) → (j == i) ≡ false → find (λ w. w.i == j) rest ≡ find (λ w. w.i == j) ws
  other-found j apart = find-kept (λ w. w.i == j) (λ w. not (w.i == i)) (λ w is. ap not (unlike w.i i (λ e. let same = same_itself j i (sym (same_number w.i j is) ∙ e) in cc))) ws

  pub deadlines-stopped : Deadlines rest (set deadlines i None)
  deadlines-stopped j = at_test (j == i) refl ∙ sym (get-set_none deadlines i j) where
    at_test : (b : Bool) → (j == i) ≡ b → option_map deadline (find (λ w. w.i == j) rest) ≡ cond (j == i) None (get_or deadlines j None)
    at_test true is =
        ap (λ (k : ℕ). option_map deadline (find (λ w. w.i == k) rest)) (same_number j i is)
        ∙ ap (option_map deadline) (find-none (λ w. w.i == i) rest (any-none_left (λ w. w.i == i) ws))
        ∙ ap (λ (b : Bool). cond b None (get_or deadlines j None)) (sym is)
    at_test false is = ap (option_map deadline) (other-found j is) ∙ h j ∙ ap (λ (b : Bool). cond b None (get_or deadlines j None)) (sym is)

  pub deadlines-armed : (w : Window) → w.i ≡ i → i < length deadlines → Deadlines (rest ++ w ∷ []) (set deadlines i (Some (deadline w)))
  deadlines-armed w its within j = at_test (j == i) refl where
    here : j ≡ i → option_map deadline (find (λ x. x.i == j) (rest ++ w ∷ [])) ≡ get_or (set deadlines i (Some (deadline w))) j None
    here e =
        ap (λ (k : ℕ). option_map deadline (find (λ x. x.i == k) (rest ++ w ∷ []))) e
        ∙ ap (option_map deadline) (find-last (λ x. x.i == i) rest w (any-none_left (λ x. x.i == i) ws))
        ∙ ap (λ (b : Bool). option_map deadline (cond b (Some w) None)) (same_itself w.i i its)
        ∙ sym (ap (λ (k : ℕ). get_or (set deadlines i (Some (deadline w))) k None) e ∙ get_or-set_same deadlines i (Some (deadline w)) None within)

    at_test : (b : Bool) → (j == i) ≡ b → option_map deadline (find (λ x. x.i == j) (rest ++ w ∷ [])) ≡ get_or (set deadlines i (Some (deadline w))) j None
    at_test true is = here (same_number j i is)
    at_test false is =
        let apart : j ≡ i → ⊥ = (λ e. let same = same_itself j i e in cc) in
        ap (option_map deadline) (find-before (λ x. x.i == j) rest w (unlike w.i j (λ e. apart (sym e ∙ its))))
        ∙ ap (option_map deadline) (other-found j is) ∙ h j ∙ sym (get_or-set_other deadlines i j (Some (deadline w)) None apart)

-- what is due by a moment and what is not
pub later-not_due : (moment t : ℕ) → nat_lt moment t ≡ not (nat_le t moment)
later-not_due moment t = at_test (nat_le t moment) refl where
  at_test : (b : Bool) → nat_le t moment ≡ b → nat_lt moment t ≡ not b
  at_test true is = grind (arith, nat_tests)
  at_test false is = grind (arith, nat_tests)

-- how often a callout fires
pub passing-fired : (e : Events) (moment j : ℕ) → passing (λ i. i == j) (fired e moment) ≡ passing (λ w. w.i == j) (filter (λ w. nat_le w.due moment) e.pending)
passing-fired e moment j =
    passing-map (λ i. i == j) (λ w. w.i) (due_by 256 (queue_of e) moment)
    ∙ passing-in_order (λ w. w.i == j) 256 e.last (filter (λ w. nat_le w.t moment) (map as_waiting e.pending))
    ∙ ap (passing (λ w. w.i == j)) (filter-map as_waiting (λ w. nat_le w.t moment) e.pending)
    ∙ passing-map (λ w. w.i == j) as_waiting (filter (λ w. nat_le w.due moment) e.pending)

pub deadlines-taken : (e : Events) (deadlines : List (Option ℕ)) (moment : ℕ) → ((i : ℕ) → passing (λ w. w.i == i) e.pending ≤ 1) → Deadlines e.pending deadlines →
    Deadlines (filter (λ w. nat_lt moment w.due) e.pending) (cleared (fired e moment) deadlines)
deadlines-taken e deadlines moment once h j = at_test (list_any (λ i. i == j) (fired e moment)) refl ∙ sym (get-cleared (fired e moment) deadlines j) where
  at_test : (b : Bool) → list_any (λ i. i == j) (fired e moment) ≡ b → option_map deadline (find (λ w. w.i == j) (filter (λ w. nat_lt moment w.due) e.pending)) ≡ cond (list_any (λ i. i == j) (fired e moment)) None (get_or deadlines j None)
  at_test true is =
      let gone : passing (λ w. w.i == j) (filter (λ w. nat_lt moment w.due) e.pending) ≡ 0 =
      omega (
        arith,
        once j,
        passing-fired e moment j,
        passing-some (λ i. i == j) (fired e moment) is,
        passing-parts (λ w. w.i == j) (λ w. nat_le w.due moment) (λ w. nat_lt moment w.due) (λ w. later-not_due moment w.due) e.pending,
      ) in
      ap (option_map deadline) (find-passing_none (λ w. w.i == j) (filter (λ w. nat_lt moment w.due) e.pending) gone) ∙ ap (λ (b : Bool). cond b None (get_or deadlines j None)) (sym is)
  at_test false is =
      let stays : passing (λ w. w.i == j) (filter (λ w. nat_le w.due moment) e.pending) ≡ 0 = sym (passing-fired e moment j) ∙ passing-none (λ i. i == j) (fired e moment) is in
      ap (option_map deadline) (find-apart (λ w. w.i == j) (λ w. nat_le w.due moment) (λ w. nat_lt moment w.due) (λ w. later-not_due moment w.due) e.pending stays)
      ∙ h j ∙ ap (λ (b : Bool). cond b None (get_or deadlines j None)) (sym is)
