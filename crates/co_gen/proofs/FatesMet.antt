-- The fates that are told along a history are those of its accepted armings. An entry decides the fate of the one arming that
-- was to fire before it, if any; so over all numbers of armings the fates that it decides are that one.
use Rattle.std.proofs.Common.{◌≡◌, ◌≢◌, ℕ, zero, suc, ◌+◌, ◌<◌, ◌≤◌, ◌==◌, Bool, true, false, cond, not, ◌&&◌, ◌||◌, inl, inr, List, [], ◌∷◌, ◌++◌, length, refl, ap, sym, ◌∙◌, arith, fold, append-nil, length-append}
use Rattle.std.specs.Prelude.{Option, Some, None}
use Rattle.std.specs.List.{flat_map, range_with_len}
use Rattle.std.proofs.lemmas.Bool.{cases_eq, cases_lt}
use Rattle.std.proofs.lemmas.Bool.Decides.{nat_tests}
use Rattle.co_object.specs.declared.Spec.{Spec}
use Rattle.co_object.specs.declared.Arming.{Arming}
use Rattle.co_object.specs.declared.Run.{Run}
use Rattle.co_object.specs.declared.Run.TheVariants.{Idle, Picked, Cancelled, Running}
use Rattle.co_object.specs.declared.State.{State}
use Rattle.co_object.specs.declared.Op.{Op}
use Rattle.co_object.specs.declared.Reply.{Reply}
use Rattle.co_object.specs.declared.Entry.{Entry}
use Rattle.co_object.specs.Actors.{Actors}
use Rattle.co_object.specs.Arm.{is_picked}
use Rattle.co_object.specs.Callout.{opening}
use Rattle.co_object.specs.Entries.{is_armed}
use Rattle.co_object.specs.Fate.{Fate, Pending, Fired, Superseded, Stopped, is_armed_with, is_picked_with, is_open, fate_by, fate_at, fates_from, fates}
use Rattle.co_object.specs.History.{next, May, state, IsLegal}
use Rattle.co_object.specs.Laws.Facts.{IsSound}
use Rattle.co_object.specs.Laws.OneFate.{is_fired}
use Rattle.co_object.specs.Machine.{IsLegalFrom}
use Rattle.co_object.proofs.Changes.{Change, same, refused, armed, stopped, rested, awaits, cleared, retires, inits, drained, waits, held, fired, begun, over, change}
use Rattle.co_object.proofs.FateOnce.{one_fate}
use Rattle.co_object.proofs.Numbers.{same_itself}
use Rattle.co_object.proofs.Passing.{passing, passing-append}
use Rattle.co_object.proofs.Replies.{no-armed}
use Rattle.co_object.proofs.Sound.{sound-next, sound-opening}
use Rattle.co_gen.specs.declared.fates.ToFire.TheVariants.{Nothing}
use Rattle.co_gen.specs.Soak.{is_superseded, is_stopped, is_pending, all_fates}
use Rattle.co_gen.specs.Fates.{fate_told, fates_told, to_fire_after}
use Rattle.co_gen.proofs.OneToFire.{open_in, open_arming, to_fire, is_it, closed_by, IsBelow, told-next}

abbrev pub one_if : Bool → ℕ
one_if b = cond b 1 0

abbrev pub accepts : Entry → Bool
accepts e = is_armed e.reply

-- ---- lists of which at most one is not empty

abbrev at : Option ℕ → (ℕ → List Fate) → List Fate
at None f = []
at (Some m) f = f m

outside : (f : ℕ → List Fate) (a N : ℕ) → ((n : ℕ) → a ≤ n → n < a + N → f n ≡ []) → flat_map f (range_with_len a N) ≡ []
outside f a zero none = refl
outside f a (suc N) none =
    ap (λ xs. xs ++ flat_map f (range_with_len (a + 1) N)) (none a (omega arith) (omega arith))
    ∙ outside f (a + 1) N (λ n above below. none n (omega (arith, above)) (omega (arith, below)))

inside : (f : ℕ → List Fate) (m a N : ℕ) → ((n : ℕ) → n ≢ m → f n ≡ []) → a ≤ m → m < a + N → flat_map f (range_with_len a N) ≡ f m
inside f m a zero none above below = absurd (omega (arith, above, below))
inside f m a (suc N) none above below = elim (cases_eq a m) [ inl here ↦ at_it here | inr apart ↦ behind apart (inside f m (a + 1) N none (omega (arith, above, apart)) (omega (arith, below))) ]
  where
    at_it : a ≡ m → flat_map f (range_with_len a (suc N)) ≡ f m
    at_it here =
        ap (λ xs. f a ++ xs) (outside f (a + 1) N (λ n up low. none n (λ is. omega (arith, up, is, here))))
        ∙ (append-nil (f a) ∙ ap f here)

    behind : a ≢ m → flat_map f (range_with_len (a + 1) N) ≡ f m → flat_map f (range_with_len a (suc N)) ≡ f m
    behind apart rest =
        ap (λ xs. xs ++ flat_map f (range_with_len (a + 1) N)) (none a apart)
        ∙ rest

different : (m n : ℕ) → n ≢ m → (m == n) ≡ false
different m n apart = grind (arith, nat_tests)

-- all lists but one, and all from a bound on, are empty
alone : (f : ℕ → List Fate) (o : Option ℕ) (N : ℕ) → ((n : ℕ) → is_it o n ≡ false → f n ≡ []) → ((n : ℕ) → N ≤ n → f n ≡ []) → flat_map f (range_with_len 0 N) ≡ at o f
alone f None N none beyond = outside f 0 N (λ n above below. none n refl)
alone f (Some m) N none beyond = elim (cases_lt m N) [ inl low ↦ inside f m 0 N others (omega arith) (omega (arith, low)) | inr high ↦ past high ]
  where
    others : (n : ℕ) → n ≢ m → f n ≡ []
    others n apart = none n (different m n apart)

    past : N ≤ m → flat_map f (range_with_len 0 N) ≡ f m
    past high = outside f 0 N (λ n above below. others n (λ is. omega (arith, below, is, high))) ∙ sym (beyond m high)

-- the tests that pass of lists joined number by number
joined : (P : Fate → Bool) (f g : ℕ → List Fate) (ns : List ℕ)
    → passing P (flat_map (λ n. f n ++ g n) ns) ≡ passing P (flat_map f ns) + passing P (flat_map g ns)
joined P f g [] = refl
joined P f g (n ∷ ns) =
    let rest = joined P f g ns in
    let here = passing-append P (f n ++ g n) (flat_map (λ k. f k ++ g k) ns) in
    let two = passing-append P (f n) (g n) in
    omega (arith, rest, here, two, passing-append P (f n) (flat_map f ns), passing-append P (g n) (flat_map g ns))

both-empty : (xs ys : List Fate) → xs ++ ys ≡ [] → (xs ≡ []) × (ys ≡ [])
both-empty [] ys h = (refl, h)
both-empty (x ∷ xs) ys h = cc

-- ---- the open arming

or_false : (x : Bool) → (x || false) ≡ x
or_false true = refl
or_false false = refl

open-in : (o : Option Arming) (r : Run) → (is_picked r ≡ true → o ≡ None) → (n : ℕ) → (is_armed_with o n || is_picked_with r n) ≡ is_it (open_in o r) n
open-in None Idle h n = refl
open-in None (Picked a) h n = refl
open-in None (Cancelled m cpu) h n = refl
open-in None (Running m cpu) h n = refl
open-in (Some a) Idle h n = or_false (a.n == n)
open-in (Some a) (Picked b) h n = let none = h refl in cc
open-in (Some a) (Cancelled m cpu) h n = or_false (a.n == n)
open-in (Some a) (Running m cpu) h n = or_false (a.n == n)

open-is : (s : State) → IsSound s → (n : ℕ) → is_open s n ≡ is_it (open_arming s) n
open-is s h n = open-in s.armed s.run h.picked n

-- a test that passes no pending arming passes nothing at the end
none-at-end : (P : Fate → Bool) → P Pending ≡ false → (spec : Spec) (s : State) (ns : List ℕ) → passing P (flat_map (fates_from spec s []) ns) ≡ 0
none-at-end P no_end spec s [] = refl
none-at-end P no_end spec s (n ∷ ns) = by_test (is_open s n) (none-at-end P no_end spec s ns) where
  by_test : (b : Bool) → passing P (flat_map (fates_from spec s []) ns) ≡ 0 → passing P (cond b (Pending ∷ []) [] ++ flat_map (fates_from spec s []) ns) ≡ 0
  by_test true rest = let none : one_if (P Pending) ≡ 0 = ap one_if no_end in omega (arith, none, rest)
  by_test false rest = rest

module _ (spec : Spec) where
  -- what an entry decides is of the open arming
  decides-one : (s t : State) (f : Fate) (o p : Option ℕ) → ((n : ℕ) → is_open s n ≡ is_it o n) → ((n : ℕ) → is_open t n ≡ is_it p n)
      → at o (λ n. cond (is_open s n && not (is_open t n)) (f ∷ []) []) ≡ cond (closed_by o p) (f ∷ []) []
  decides-one s t f None p was is = refl
  decides-one s t f (Some m) p was is =
      ap (λ b. cond (b && not (is_open t m)) (f ∷ []) []) (was m ∙ same_itself m m refl)
      ∙ ap (λ b. cond (not b) (f ∷ []) []) (is m)

  not-open : (s : State) (e : Entry) (n : ℕ) → is_open s n ≡ false → fate_at spec s e n ≡ []
  not-open s e n is = ap (λ b. cond (b && not (is_open (next spec s e) n)) (fate_by e.op ∷ []) []) is

  module _ (actors : Actors) (P : Fate → Bool) (no_end : P Pending ≡ false) (N : ℕ) where
    -- the fates of all armings are those that are told one after the other
    sum-fates : (s : State) (H : List Entry) → IsSound s → IsBelow (open_arming s) s.made → IsLegalFrom (next spec) (May actors spec) s H
        → ((n : ℕ) → N ≤ n → fates_from spec s H n ≡ [])
        → passing P (flat_map (fates_from spec s H) (range_with_len 0 N)) ≡ passing P (fates_told (to_fire s) H)
    sum-fates s [] h below legal beyond = none-at-end P no_end spec s (range_with_len 0 N)
    sum-fates s (e ∷ H) h below legal beyond =
        let t : State = next spec s e in
        let sound : IsSound t = sound-next actors spec s e h legal.0 in
        let tells = told-next actors spec s e h below legal.0 in
        let here : flat_map (fate_at spec s e) (range_with_len 0 N) ≡ fate_told (to_fire s) e =
        alone (fate_at spec s e) (open_arming s) N (λ n other. not-open s e n (open-is s h n ∙ other)) (λ n above. (both-empty (fate_at spec s e n) (fates_from spec t H n) (beyond n above)).0)
        ∙ (decides-one s t (fate_by e.op) (open_arming s) (open_arming t) (open-is s h) (open-is t sound)
        ∙ ap (λ b. cond b (fate_by e.op ∷ []) []) tells.decided) in
        let later : passing P (flat_map (fates_from spec t H) (range_with_len 0 N)) ≡ passing P (fates_told (to_fire_after (to_fire s) e.op e.reply) H) =
        sum-fates t H sound tells.below legal.1 (λ n above. (both-empty (fate_at spec s e n) (fates_from spec t H n) (beyond n above)).1)
        ∙ ap (λ x. passing P (fates_told x H)) (sym tells.after_is) in
        let split : passing P (flat_map (λ n. fate_at spec s e n ++ fates_from spec t H n) (range_with_len 0 N)) ≡ passing P (flat_map (fate_at spec s e) (range_with_len 0 N)) + passing P (flat_map (fates_from spec t H) (range_with_len 0 N)) =
        joined P (fate_at spec s e) (fates_from spec t H) (range_with_len 0 N) in
        omega (arith, split, ap (passing P) here, later, passing-append P (fate_told (to_fire s) e) (fates_told (to_fire_after (to_fire s) e.op e.reply) H))

-- ---- the accepted armings

made-change : (s : State) (op : Op) (r : Reply) (t : State) → Change s op r t → t.made ≡ s.made + one_if (is_armed r)
made-change s op r t (same _ _ nothing _ _) = let none : one_if (is_armed r) ≡ 0 = ap one_if (no-armed r nothing) in omega (arith, none)
made-change s op r t (refused _ _ _ _) = omega arith
made-change s op r t (armed _ _ _ _ _ _ _ _ _ _ _) = refl
made-change s op r t (stopped _ _ _) = omega arith
made-change s op r t (rested _ _ _ _ _) = omega arith
made-change s op r t (awaits _ _ _ _ _) = omega arith
made-change s op r t (cleared _) = omega arith
made-change s op r t (retires _ _ _) = omega arith
made-change s op r t (inits _) = omega arith
made-change s op r t (drained _ _ _ _) = omega arith
made-change s op r t (waits _ _ _ _ _) = omega arith
made-change s op r t (held _ _ _ _ _ _ _ _) = omega arith
made-change s op r t (fired _ _ _ _ _ _ _ _) = omega arith
made-change s op r t (begun _ _ _ _ _) = omega arith
made-change s op r t (over _ _ _ _ _) = omega arith

module _ (actors : Actors) (spec : Spec) where
  made-along : (s : State) (H : List Entry) → IsLegalFrom (next spec) (May actors spec) s H → (fold (next spec) s H).made ≡ s.made + passing accepts H
  made-along s [] legal = omega arith
  made-along s (e ∷ H) legal =
      let first = made-change s e.op e.reply (next spec s e) (change spec s e.op e.reply legal.0.0) in
      let rest = made-along (next spec s e) H legal.1 in
      omega (arith, first, rest)

  pub made-is : (H : List Entry) → IsLegal actors spec H → (state spec H).made ≡ passing accepts H
  made-is H legal = omega (arith, made-along (opening 0) H legal)

  -- the fates of the accepted armings are those that are told, and the pending ones
  pub fates-met : (P : Fate → Bool) → P Pending ≡ false → (H : List Entry) → IsLegal actors spec H → passing P (all_fates spec H) ≡ passing P (fates_told Nothing H)
  fates-met P no_end H legal =
      sum-fates spec actors P no_end (state spec H).made (opening 0) H sound-opening tt legal (λ n above. (one_fate actors spec H n legal).others above)

  -- one fate each
  one-each : (f : ℕ → List Fate) (a N : ℕ) → ((n : ℕ) → n < a + N → length (f n) ≡ 1) → length (flat_map f (range_with_len a N)) ≡ N
  one-each f a zero one = refl
  one-each f a (suc N) one =
      let rest = one-each f (a + 1) N (λ n below. one n (omega (arith, below))) in
      omega (arith, one a (omega arith), rest, length-append (f a) (flat_map f (range_with_len (a + 1) N)))

  pub fates-count : (H : List Entry) → IsLegal actors spec H → length (all_fates spec H) ≡ (state spec H).made
  fates-count H legal = one-each (fates spec H) 0 (state spec H).made (λ n below. (one_fate actors spec H n legal).accepted (omega (arith, below)))

-- a fate is one of four
pub four-kinds : (fs : List Fate) → length fs ≡ passing is_fired fs + passing is_superseded fs + passing is_stopped fs + passing is_pending fs
four-kinds [] = refl
four-kinds (Pending ∷ fs) = omega (arith, four-kinds fs)
four-kinds (Fired ∷ fs) = omega (arith, four-kinds fs)
four-kinds (Superseded ∷ fs) = omega (arith, four-kinds fs)
four-kinds (Stopped ∷ fs) = omega (arith, four-kinds fs)
