-- The laws: of a take by the definition of its moment, and of lists of calls by what each call keeps.
use Rattle.std.proofs.Common.{◌≡◌, ◌∙◌, ℕ, ◌<◌, ◌≤◌, Bool, true, false, ◌==◌, ◌&&◌, ◌||◌, List, [], ◌∷◌, map, max, length, refl, ap, sym, subst, arith, nat_le}
use Rattle.std.specs.List.{filter, list_any, All}
use Rattle.std.specs.declared.option.Option.{Option}
use Rattle.std.specs.declared.option.Option.TheVariants.{Some, None}
use Rattle.std.proofs.lemmas.Bool.Decides.{nat_tests}
use Rattle.co_sbt.specs.Time.{IsTime, sat_add}
use Rattle.co_object.specs.Queue.{Waiting}
use Rattle.co_object.specs.Scan.{due_by}
use Rattle.co_object.proofs.Each.{Each, each-all, each-filter, each-map}
use Rattle.co_object.proofs.Histories.{kept}
use Rattle.co_object.proofs.Numbers.{same_itself}
use Rattle.co_queue.proofs.Lists.{filter-map}
use Rattle.co_bucket.proofs.Elements.{each-of, all-of}
use Rattle.co_event.specs.declared.event_queue.Event.{Event}
use Rattle.co_event.specs.Events.{Window, Events, no_events, deadline, next_moment}
use Rattle.co_event.specs.AsQueue.{as_waiting, queue_of}
use Rattle.co_event.specs.Calls.{take_at, fired}
use Rattle.co_event.specs.Laws.{may_fire, EachFiresInItsWindow, NextMomentIsTheLatest, EachListOfCallsIsSound, NextMomentIsNeverPast}
use Rattle.co_event.specs.History.{Call, after, May, events, AreLegal}
use Rattle.co_event.specs.History.Call.{Arm, Stop, Take, Settle}
use Rattle.co_event.proofs.Lists.{each-both}
use Rattle.co_event.proofs.Windows.{each-in_order}
use Rattle.co_event.proofs.Moment.{moment-first, moment-one, moment-missed}
use Rattle.co_event.proofs.Standing.{Sound, of-sound}
use Rattle.co_event.proofs.Outcomes.{sound-armed, sound-stopped, sound-taken, sound-settled, ahead-of}

pub latest : NextMomentIsTheLatest
latest e moment is = (all-of (λ w. moment ≤ deadline w) e.pending (moment-first e.pending moment is), λ later h. moment-missed e.pending moment later is h)

-- ---- what fires

any-itself : {X : Type 0} (R : X → X → Bool) (xs : List X) → Each (λ x. R x x ≡ true → list_any (R x) xs ≡ true) xs
any-itself R [] = tt
any-itself R (x ∷ xs) = (
  λ is. ap (λ b. b || list_any (R x) xs) is,
  each-all (λ y. R y y ≡ true → list_any (R y) xs ≡ true) (λ y. R y y ≡ true → list_any (R y) (x ∷ xs) ≡ true) (λ y h is. or_true (R y x) (list_any (R y) xs) (h is)) xs (any-itself R xs),
) where
  or_true : (a b : Bool) → b ≡ true → (a || b) ≡ true
  or_true true b h = refl
  or_true false b h = h

module _ (e : Events) (moment : ℕ) (is : next_moment e ≡ Some moment) where
  abbrev fits : Window → Window → Bool
  fits w x = x.i == w.i && nat_le x.due moment && nat_le moment (deadline x)

  fits-itself : (w : Window) → nat_le w.due moment ≡ true → moment ≤ deadline w → fits w w ≡ true
  fits-itself w due h =
      let ends : nat_le moment (deadline w) ≡ true = higher moment (deadline w) h in
      ap (λ b. b && nat_le w.due moment && nat_le moment (deadline w)) (same_itself w.i w.i refl)
      ∙ ap (λ b. true && b && nat_le moment (deadline w)) due ∙ ends where
        higher : (a b : ℕ) → a ≤ b → nat_le a b ≡ true
        higher a b h = grind (arith, nat_tests)

  each-due : Each (λ w. may_fire e w.i moment ≡ true) (filter (λ w. nat_le w.due moment) e.pending)
  each-due =
      each-filter (λ w. (fits w w ≡ true → list_any (fits w) e.pending ≡ true) × (moment ≤ deadline w)) (λ w. may_fire e w.i moment ≡ true) (λ w. nat_le w.due moment)
      (λ w due h. h.0 (fits-itself w due h.1)) e.pending
      (each-both (λ w. fits w w ≡ true → list_any (fits w) e.pending ≡ true) (λ w. moment ≤ deadline w) e.pending (any-itself fits e.pending) (moment-first e.pending moment is))

  each-fired : Each (λ i. may_fire e i moment ≡ true) (fired e moment)
  each-fired =
      each-map (λ i. may_fire e i moment ≡ true) (λ w. w.i) (due_by 256 (queue_of e) moment)
      (each-in_order (λ w. may_fire e w.i moment ≡ true) 256 e.last (filter (λ w. nat_le w.t moment) (map as_waiting e.pending))
      (subst (λ (ws : List Waiting). Each (λ w. may_fire e w.i moment ≡ true) ws) (sym (filter-map as_waiting (λ w. nat_le w.t moment) e.pending))
      (each-map (λ w. may_fire e w.i moment ≡ true) as_waiting (filter (λ w. nat_le w.due moment) e.pending) each-due)))

moment-of : (moment count : ℕ) (event : Event) → Some (record { at = moment; count = count }) ≡ Some event → moment ≡ event.at
moment-of moment count event is = ap (λ (x : Option Event). at-of x) is where
  at-of : Option Event → ℕ
  at-of None = 0
  at-of (Some event) = event.at

pub fires-in_window : EachFiresInItsWindow
fires-in_window e event numbers took = at_next (next_moment e) refl took where
  at_next : (x : Option ℕ) → next_moment e ≡ x → (take_at e x).1 ≡ (Some event, numbers) → All (λ i. may_fire e i event.at ≡ true) numbers
  at_next None is took = let none : None ≡ Some event = ap (λ (r : Option Event × List ℕ). r.0) took in cc
  at_next (Some moment) is took =
      let at' : moment ≡ event.at = moment-of moment (length (fired e moment)) event (ap (λ (r : Option Event × List ℕ). r.0) took) in
      let are : fired e moment ≡ numbers = ap (λ (r : Option Event × List ℕ). r.1) took in
      subst (λ (m : ℕ). All (λ i. may_fire e i m ≡ true) numbers) at'
      (all-of (λ i. may_fire e i moment ≡ true) numbers (subst (λ (is' : List ℕ). Each (λ i. may_fire e i moment ≡ true) is') are (each-fired e moment is)))

-- ---- what every list of calls keeps

abbrev Kept : Events → Type 0
Kept e = Sound e × IsTime e.now

each-any : (P : Window → Type 0) → ((w : Window) → P w) → (ws : List Window) → Each P ws
each-any P f [] = tt
each-any P f (w ∷ ws) = (f w, each-any P f ws)

-- a deadline is a time, and no earlier than the time from which it counts
deadline-time : (w : Window) → IsTime (deadline w)
deadline-time w = omega arith

deadline-after : (now due prec : ℕ) → IsTime now → IsTime due → max due now ≤ sat_add (max due now) prec
deadline-after now due prec h g = omega arith

later-time : (a b : ℕ) → IsTime a → IsTime b → IsTime (max a b)
later-time a b h g = omega arith

each-kept : (e : Events) (call : Call) → Kept e → May e call → Kept (after e call)
each-kept e (Arm i due prec) h may = (sound-armed e i due prec (deadline-after e.now due prec h.1 may) h.0, h.1)
each-kept e (Stop i) h may = (sound-stopped e i h.0, h.1)
each-kept e Take h may = at_next (next_moment e) refl where
  at_next : (x : Option ℕ) → next_moment e ≡ x → Kept (take_at e x).0
  at_next None is = h
  at_next (Some moment) is = (sound-taken e moment is h.0, moment-one IsTime e.pending moment is (each-any (λ w. IsTime (deadline w)) deadline-time e.pending))
each-kept e (Settle now) h may = (sound-settled e now (each-of (λ w. now < deadline w) e.pending may.1) h.0, later-time e.now now h.1 may.0)

opening : Kept no_events
opening = (record { once = λ i. omega arith; ahead = tt; windows = tt; taken = omega arith }, omega arith)

always : (calls : List Call) → AreLegal calls → Kept (events calls)
always calls legal = kept after May Kept each-kept no_events calls opening legal

pub sound-after : EachListOfCallsIsSound
sound-after calls legal = of-sound (events calls) (always calls legal).0

pub never-past : NextMomentIsNeverPast
never-past calls moment legal is = ahead-of (events calls) (Some moment) (sym is) (always calls legal).0
