-- The events that come by a time: each takes something of what is pending, and in the end none comes.
use Rattle.std.proofs.Common.{◌≡◌, ℕ, zero, suc, ◌==◌, ◌<◌, ◌≤◌, Bool, true, false, cond, List, [], ◌∷◌, ◌++◌, length, refl, ap, sym, subst, ◌∙◌, arith, nat_le, nat_lt}
use Rattle.std.specs.declared.option.Option.{Option}
use Rattle.std.specs.declared.option.Option.TheVariants.{Some, None}
use Rattle.std.proofs.lemmas.Bool.{le-leb, leb-false, lt-leb}
use Rattle.std.specs.Ordering.{is_gt, nat_cmp}
use Rattle.std.specs.declared.cmp.Ordering.TheVariants.{Less, Equal, Greater}
use Rattle.co_object.proofs.Numbers.{same_itself}
use Rattle.co_event.specs.declared.Event.{Event}
use Rattle.co_event.specs.Events.{Window, Events, next_moment}
use Rattle.co_event.specs.Calls.{take, take_at}
use Rattle.co_event.specs.EventTimers.{EventTimers}
use Rattle.co_event.specs.StandsFor.{Answers, StandsFor}
use Rattle.co_event.proofs.Moment.{first}
use Rattle.co_event.proofs.Standing.{Sound, sound-of}
use Rattle.co_event.proofs.Outcomes.{sound-taken}
use Rattle.co_event.proofs.Later.{fewer}
use Rattle.co_event_text.specs.Answers.{Answered, comes_by, take_by, until_answered, with_event, event_lines, events_by}
use Rattle.co_event_text.specs.Laws.{EachUntilTakesAll}

abbrev Taken : Type 0
Taken = Events × (Option Event × List ℕ)

-- the next event by its moment
abbrev by : ℕ → Events → Option ℕ → Taken
by t e x = cond (comes_by t x) (take_at e x) (e, (None, []))

-- where an event was taken fewer are pending
fewer-at : (t : ℕ) (e : Events) (x : Option ℕ) (event : Event) (numbers : List ℕ) → next_moment e ≡ x → Sound e → (by t e x).1 ≡ (Some event, numbers) → length (by t e x).0.pending < length e.pending
fewer-at t e None event numbers is h took = let none : None ≡ Some event = ap (λ (r : Option Event × List ℕ). r.0) took in cc
fewer-at t e (Some m) event numbers is h took = at_test (nat_le m t) took where
  at_test : (b : Bool) → (cond {A = Taken} b (take_at e (Some m)) (e, (None, []))).1 ≡ (Some event, numbers) → length (cond {A = Taken} b (take_at e (Some m)) (e, (None, []))).0.pending < length e.pending
  at_test true took = fewer e m is h
  at_test false took = let none : None ≡ Some event = ap (λ (r : Option Event × List ℕ). r.0) took in cc

pub fewer-by : (t : ℕ) (e : Events) (event : Event) (numbers : List ℕ) → Sound e → (take_by t e).1 ≡ (Some event, numbers) → length (take_by t e).0.pending < length e.pending
fewer-by t e event numbers h took = fewer-at t e (next_moment e) event numbers refl h took

-- where none was nothing has changed
same-at : (t : ℕ) (e : Events) (x : Option ℕ) (numbers : List ℕ) → (by t e x).1 ≡ (None, numbers) → (by t e x).0 ≡ e
same-at t e None numbers took = refl
same-at t e (Some m) numbers took = at_test (nat_le m t) took where
  at_test : (b : Bool) → (cond {A = Taken} b (take_at e (Some m)) (e, (None, []))).1 ≡ (None, numbers) → (cond {A = Taken} b (take_at e (Some m)) (e, (None, []))).0 ≡ e
  at_test true took = let some = ap (λ (r : Option Event × List ℕ). r.0) took in cc
  at_test false took = refl

-- one event more
pub with-some : (t : ℕ) (x : Taken) (rest : Answered) (event : Event) (numbers : List ℕ) → x.1 ≡ (Some event, numbers) → with_event t x rest ≡ (rest.0, event_lines event numbers ++ rest.1)
with-some t (e, r) rest event numbers took = ap (λ (q : Option Event × List ℕ). with_event t (e, q) rest) took

with-none : (t : ℕ) (x : Taken) (rest : Answered) (numbers : List ℕ) → x.1 ≡ (None, numbers) → with_event t x rest ≡ until_answered t x.0
with-none t (e, r) rest numbers took = ap (λ (q : Option Event × List ℕ). with_event t (e, q) rest) took

-- no event more
pub ended : (t most : ℕ) (e : Events) (numbers : List ℕ) → (take_by t e).1 ≡ (None, numbers) → events_by t most e ≡ until_answered t (take_by t e).0
ended t zero e numbers took = ap (until_answered t) (sym (same-at t e (next_moment e) numbers took))
ended t (suc most) e numbers took = with-none t (take_by t e) (events_by t most (take_by t e).0) numbers took

-- nothing is pending
none-at_all : (t : ℕ) (ws : List Window) → length ws ≤ 0 → comes_by t (first ws) ≡ false
none-at_all t [] h = refl
none-at_all t (w ∷ ws) h = absurd (omega (arith, h))

takes-all : (t most : ℕ) (e : Events) → Sound e → length e.pending ≤ most → comes_by t (next_moment (events_by t most e).0) ≡ false
takes-all t zero e h few = none-at_all t e.pending few
takes-all t (suc most) e h few = at_next (next_moment e) refl (λ f sound less. takes-all t most f sound less) where
  Rest : Type 0
  Rest = (f : Events) → Sound f → length f.pending ≤ most → comes_by t (next_moment (events_by t most f).0) ≡ false

  at_next : (x : Option ℕ) → next_moment e ≡ x → Rest → comes_by t (next_moment (with_event t (by t e x) (events_by t most (by t e x).0)).0) ≡ false
  at_next None is rest = ap (comes_by t) is
  at_next (Some m) is rest = at_test (nat_le m t) refl where
    at_test : (b : Bool) → nat_le m t ≡ b →
        comes_by t (next_moment (with_event t (cond {A = Taken} b (take_at e (Some m)) (e, (None, []))) (events_by t most (cond {A = Taken} b (take_at e (Some m)) (e, (None, []))).0)).0) ≡ false
    at_test true come = rest (take_at e (Some m)).0 (sound-taken e m is h) (let less = fewer e m is h in omega (arith, less, few))
    at_test false come = ap (comes_by t) is ∙ come

pub takes_all : EachUntilTakesAll
takes_all t e h = takes-all t (length e.pending) e (sound-of e h) (omega arith)

-- what a comparison says
pub later_of : (m t : ℕ) → is_gt (nat_cmp m t) ≡ true → t < m
later_of m t h = at_less (nat_lt m t) refl h where
  at_same : (b : Bool) → (m == t) ≡ b → t < suc m → is_gt (cond b Equal Greater) ≡ true → t < m
  at_same true e above h = cc
  at_same false e above h = let apart : m ≡ t → ⊥ = (λ g. let same = same_itself m t g in cc) in omega (arith, above, apart)

  at_less : (b : Bool) → nat_lt m t ≡ b → is_gt (cond b Less (cond (m == t) Equal Greater)) ≡ true → t < m
  at_less true e h = cc
  at_less false e h = at_same (m == t) refl (leb-false (suc m) t e) h

-- where the next moment is later none comes by the time
pub none_comes : (t m : ℕ) (s : EventTimers) → ((e : Events) → StandsFor s e → Some m ≡ next_moment e) → t < m → Answers s s (take_by t) (None, [])
none_comes t m s moment late = record { size = refl; outcome = λ e stood. (let none = no_take e (moment e stood) in (ap (λ (r : Taken). r.1) none, subst (λ (r : Taken). StandsFor s r.0) (sym none) stood)) } where
  no_take : (e : Events) → Some m ≡ next_moment e → take_by t e ≡ (e, (None, []))
  no_take e is = ap (by t e) (sym is) ∙ ap (λ b. cond {A = Taken} b (take_at e (Some m)) (e, (None, []))) (lt-leb m t late)

-- where the next moment is no later it is taken
pub comes : (t m : ℕ) (s u : EventTimers) (r : Option Event × List ℕ) → ((e : Events) → StandsFor s e → Some m ≡ next_moment e) → m ≤ t → Answers s u take r → Answers s u (take_by t) r
comes t m s u r moment early answer = record { size = answer.size; outcome = λ e stood. subst (λ (x : Taken). (x.1 ≡ r) × StandsFor u x.0) (sym (takes e (moment e stood))) (answer.outcome e stood) } where
  takes : (e : Events) → Some m ≡ next_moment e → take_by t e ≡ take e
  takes e is = ap (by t e) (sym is) ∙ ap (λ b. cond {A = Taken} b (take_at e (Some m)) (e, (None, []))) (le-leb m t early) ∙ ap (take_at e) is
