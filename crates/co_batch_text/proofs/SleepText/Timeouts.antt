-- The timeouts of a tick may come in any order: the queue after them and the counts of their replies are the same.
use Rattle.std.proofs.Common.{◌≡◌, ℕ, ◌+◌, ◌<◌, ◌==◌, ◌&&◌, Bool, true, false, not, List, [], ◌∷◌, refl, sym, ap, ◌∙◌, subst, arith}
use Rattle.std.specs.Prelude.{if◌then◌else◌}
use Rattle.std.specs.List.{count_by, find}
use Rattle.std.specs.declared.option.Option.{Option}
use Rattle.std.specs.declared.option.Option.TheVariants.{Some, None}
use Rattle.std.proofs.lemmas.Bool.Decides.{nat_tests}
use Rattle.std.proofs.lemmas.List.Sums.{sum_by-cons}
use Rattle.co_single.specs.Alarms.{times_in}
use Rattle.co_sleepq.specs.declared.op.SleepOp.TheVariants as op
use Rattle.co_sleepq.specs.declared.reply.End.{End}
use Rattle.co_sleepq.specs.declared.reply.End.TheVariants.{TimedOut}
use Rattle.co_sleepq.specs.declared.reply.SleepReply.{SleepReply}
use Rattle.co_sleepq.specs.declared.sleep.Sleep.{Sleep}
use Rattle.co_sleepq.specs.Sleepers.{Sleepers, is_asleep, without, ends_with}
use Rattle.co_sleepq.specs.Queue.{step, time_out}
use Rattle.co_batch_text.specs.Sleep.Clock.{time_outs}

-- x is the timed sleep s
abbrev is_timed : ℕ → Sleep → Bool
is_timed s x = x.s == s && x.timed

-- ---- one sleep leaves, and then another

without-first : (s : ℕ) (x : Sleep) (b : Bool) (xs : List Sleep) → (x.s == s) ≡ b → without s (x ∷ xs) ≡ (if b then without s xs else x ∷ without s xs)
without-first s x true xs e = ap (λ (c : Bool). if not c then x ∷ without s xs else without s xs) e
without-first s x false xs e = ap (λ (c : Bool). if not c then x ∷ without s xs else without s xs) e

both-leave : (s t : ℕ) (x : Sleep) (xs : List Sleep) (b c : Bool) → (x.s == s) ≡ b → (x.s == t) ≡ c → without s (without t xs) ≡ without t (without s xs) → without s (without t (x ∷ xs)) ≡ without t (without s (x ∷ xs))
both-leave s t x xs true true e f h = ap (without s) (without-first t x true xs f) ∙ (h ∙ ap (without t) (sym (without-first s x true xs e)))
both-leave s t x xs true false e f h =
    ap (without s) (without-first t x false xs f) ∙ (without-first s x true (without t xs) e ∙ (h ∙ ap (without t) (sym (without-first s x true xs e))))
both-leave s t x xs false true e f h =
    ap (without s) (without-first t x true xs f) ∙ (h ∙ (sym (without-first t x true (without s xs) f) ∙ ap (without t) (sym (without-first s x false xs e))))
both-leave s t x xs false false e f h =
    ap (without s) (without-first t x false xs f) ∙ (without-first s x false (without t xs) e ∙ (ap (λ (l : List Sleep). x ∷ l) h ∙ (sym (without-first t x false (without s xs) f) ∙ ap (without t) (sym (without-first s x false xs e)))))

leave-both : (s t : ℕ) (xs : List Sleep) → without s (without t xs) ≡ without t (without s xs)
leave-both s t [] = refl
leave-both s t (x ∷ xs) = both-leave s t x xs (x.s == s) (x.s == t) refl refl (leave-both s t xs)

either-ended : (b c : Bool) (how e : End) → (if b then how else if c then how else e) ≡ (if c then how else if b then how else e)
either-ended true true how e = refl
either-ended true false how e = refl
either-ended false true how e = refl
either-ended false false how e = refl

end-both : (x y : Sleep) (ends : ℕ → End) (i : ℕ) → ends_with (x ∷ []) TimedOut (ends_with (y ∷ []) TimedOut ends) i ≡ ends_with (y ∷ []) TimedOut (ends_with (x ∷ []) TimedOut ends) i
end-both x y ends i = either-ended (is_asleep (x ∷ []) i) (is_asleep (y ∷ []) i) TimedOut (ends i)

time-out-both : (q : Sleepers) (a b : Option Sleep) → (time_out (time_out q a).0 b).0 ≡ (time_out (time_out q b).0 a).0
time-out-both q None None = refl
time-out-both q None (Some y) = refl
time-out-both q (Some x) None = refl
time-out-both q (Some x) (Some y) = (λ p. record q { sleeps = leave-both y.s x.s q.sleeps p; ends = λ i. end-both y x q.ends i p })

reply-is : (q t : Sleepers) (a : Option Sleep) → (time_out q a).1 ≡ (time_out t a).1
reply-is q t None = refl
reply-is q t (Some x) = refl

-- ---- a sleep is found though another has left

pub found-at : (a b : ℕ) → (a == b) ≡ true → a ≡ b
found-at a b h = grind (arith, nat_tests)

found-after : (s t : ℕ) (x : Sleep) (xs : List Sleep) (b : Bool) → (t ≡ s → ⊥) → (x.s == s) ≡ b → find (is_timed t) (without s xs) ≡ find (is_timed t) xs → find (is_timed t) (without s (x ∷ xs)) ≡ find (is_timed t) (x ∷ xs)
found-after s t x xs true non e h =
    let other : (x.s == t) ≡ false = (let is = found-at x.s s e in grind (arith, nat_tests)) in
    ap (find (is_timed t)) (without-first s x true xs e) ∙ (h ∙ sym (ap (λ (c : Bool). if c && x.timed then Some x else find (is_timed t) xs) other))
found-after s t x xs false non e h =
    ap (find (is_timed t)) (without-first s x false xs e) ∙ ap (λ (o : Option Sleep). if is_timed t x then Some x else o) h

finds-after : (s t : ℕ) (xs : List Sleep) → (t ≡ s → ⊥) → find (is_timed t) (without s xs) ≡ find (is_timed t) xs
finds-after s t [] non = refl
finds-after s t (x ∷ xs) non = found-after s t x xs (x.s == s) non refl (finds-after s t xs non)

both-first : (b c : Bool) → (b && c) ≡ true → b ≡ true
both-first true c h = refl
both-first false c h = absurd (cc)

found-passes : (p : Sleep → Bool) (xs : List Sleep) (x : Sleep) → find p xs ≡ Some x → p x ≡ true
found-passes p [] x h = absurd (cc)
found-passes p (y ∷ ys) x h = passes (p y) refl h (found-passes p ys x) where
  passes : (b : Bool) → p y ≡ b → (if b then Some y else find p ys) ≡ Some x → (find p ys ≡ Some x → p x ≡ true) → p x ≡ true
  passes true e is rest = let same : y ≡ x = cc in subst (λ (z : Sleep). p z ≡ true) same e
  passes false e is rest = rest is

timed-after : (q : Sleepers) (s t : ℕ) (o : Option Sleep) → (t ≡ s → ⊥) → find (is_timed s) q.sleeps ≡ o → find (is_timed t) (time_out q o).0.sleeps ≡ find (is_timed t) q.sleeps
timed-after q s t None non e = refl
timed-after q s t (Some x) non e =
    let is : x.s ≡ s = found-at x.s s (both-first (x.s == s) x.timed (found-passes (is_timed s) q.sleeps x e)) in
    ap (λ (k : ℕ). find (is_timed t) (without k q.sleeps)) is ∙ finds-after s t q.sleeps non

-- ---- two timeouts, in either order

abbrev pub after : Sleepers → ℕ → Sleepers
after q s = (step q (op.Timeout s)).0

abbrev pub reply : Sleepers → ℕ → SleepReply
reply q s = (step q (op.Timeout s)).1

after-both : (q : Sleepers) (s t : ℕ) → (t ≡ s → ⊥) → step (after q s) (op.Timeout t) ≡ time_out (time_out q (find (is_timed s) q.sleeps)).0 (find (is_timed t) q.sleeps)
after-both q s t non = ap (λ (o : Option Sleep). time_out (time_out q (find (is_timed s) q.sleeps)).0 o) (timed-after q s t (find (is_timed s) q.sleeps) non refl)

pub reply-stays : (q : Sleepers) (s t : ℕ) → (t ≡ s → ⊥) → reply (after q s) t ≡ reply q t
reply-stays q s t non = ap (λ (m : Sleepers × SleepReply). m.1) (after-both q s t non) ∙ reply-is _ _ (find (is_timed t) q.sleeps)

pub either-first : (q : Sleepers) (s t : ℕ) → (t ≡ s → ⊥) → after (after q s) t ≡ after (after q t) s
either-first q s t non =
    ap (λ (m : Sleepers × SleepReply). m.0) (after-both q s t non)
    ∙ (time-out-both q (find (is_timed s) q.sleeps) (find (is_timed t) q.sleeps)
    ∙ sym (ap (λ (m : Sleepers × SleepReply). m.0) (after-both q t s (λ e. non (sym e)))))

-- ---- any order

-- the queue is the same, and as many replies pass each test
pub record AreAlike (a b : Sleepers × List SleepReply) : Type 0 where
  pub queue : a.0 ≡ b.0
  pub counts : (test : SleepReply → Bool) → count_by test a.1 ≡ count_by test b.1

abbrev pub one_of : Bool → ℕ
one_of b = if b then 1 else 0

count-first : (test : SleepReply → Bool) (r : SleepReply) (rs : List SleepReply) → count_by test (r ∷ rs) ≡ one_of (test r) + count_by test rs
count-first test r rs = sum_by-cons (λ (x : SleepReply). one_of (test x)) r rs

alike-trans : (a b c : Sleepers × List SleepReply) → AreAlike a b → AreAlike b c → AreAlike a c
alike-trans a b c h k = record { queue = h.queue ∙ k.queue; counts = λ test. h.counts test ∙ k.counts test }

alike-same : (a b : Sleepers × List SleepReply) → a ≡ b → AreAlike a b
alike-same a b e = record { queue = ap (λ (m : Sleepers × List SleepReply). m.0) e; counts = λ test. ap (λ (m : Sleepers × List SleepReply). count_by test m.1) e }

-- one timeout before
alike-more : (q : Sleepers) (s : ℕ) (xs ys : List ℕ) → AreAlike (time_outs (after q s) xs) (time_outs (after q s) ys) → AreAlike (time_outs q (s ∷ xs)) (time_outs q (s ∷ ys))
alike-more q s xs ys h = record {
  queue = h.queue;
  counts = λ test. count-first test (reply q s) (time_outs (after q s) xs).1 ∙ (ap (λ (n : ℕ). one_of (test (reply q s)) + n) (h.counts test) ∙ sym (count-first test (reply q s) (time_outs (after q s) ys).1));
}

count-two : (test : SleepReply → Bool) (a b : SleepReply) (rs : List SleepReply) → count_by test (a ∷ b ∷ rs) ≡ one_of (test a) + (one_of (test b) + count_by test rs)
count-two test a b rs = count-first test a (b ∷ rs) ∙ ap (λ (n : ℕ). one_of (test a) + n) (count-first test b rs)

swapped : (q : Sleepers) (s t : ℕ) (xs : List ℕ) → (t ≡ s → ⊥) → AreAlike (time_outs q (s ∷ t ∷ xs)) (time_outs q (t ∷ s ∷ xs))
swapped q s t xs non = record {
  queue = ap (λ (m : Sleepers). (time_outs m xs).0) (either-first q s t non);
  counts = λ test.
      let here = count-two test (reply q s) (reply (after q s) t) (time_outs (after (after q s) t) xs).1 in
      let there = count-two test (reply q t) (reply (after q t) s) (time_outs (after (after q t) s) xs).1 in
      let rest = ap (λ (m : Sleepers). count_by test (time_outs m xs).1) (either-first q s t non) in
      let second = ap (λ (r : SleepReply). one_of (test r)) (reply-stays q s t non) in
      let first = ap (λ (r : SleepReply). one_of (test r)) (reply-stays q t s (λ e. non (sym e))) in
      omega (arith, here, there, rest, first, second);
}

-- a list without the first s
abbrev pub less : ℕ → List ℕ → List ℕ
less s [] = []
less s (y ∷ ys) = if y == s then ys else y ∷ less s ys

pub times-less : (k s : ℕ) (ys : List ℕ) → 0 < times_in s ys → times_in k ys ≡ one_of (s == k) + times_in k (less s ys)
times-less k s [] h = absurd (omega (arith, h))
times-less k s (y ∷ ys) h = go (y == s) refl (times-less k s ys) where
  go : (b : Bool) → (y == s) ≡ b → (0 < times_in s ys → times_in k ys ≡ one_of (s == k) + times_in k (less s ys)) → one_of (y == k) + times_in k ys ≡ one_of (s == k) + times_in k (if b then ys else y ∷ less s ys)
  go true e more = ap (λ (n : ℕ). one_of (n == k) + times_in k ys) (found-at y s e)
  go false e more =
      let g : one_of (y == s) ≡ 0 = ap one_of e in
      let rest = more (omega (arith, g, h)) in
      omega (arith, rest)

-- a timeout of the list may come first
to-front : (s : ℕ) (ys : List ℕ) (q : Sleepers) → 0 < times_in s ys → AreAlike (time_outs q ys) (time_outs q (s ∷ less s ys))
to-front s [] q h = absurd (omega (arith, h))
to-front s (y ∷ ys) q h = go (y == s) refl (to-front s ys (after q y)) where
  go : (b : Bool) → (y == s) ≡ b → (0 < times_in s ys → AreAlike (time_outs (after q y) ys) (time_outs (after q y) (s ∷ less s ys))) → AreAlike (time_outs q (y ∷ ys)) (time_outs q (s ∷ (if b then ys else y ∷ less s ys)))
  go true e more = alike-same _ _ (ap (λ (n : ℕ). time_outs q (n ∷ ys)) (found-at y s e))
  go false e more =
      let g : one_of (y == s) ≡ 0 = ap one_of e in
      let differ : s ≡ y → ⊥ = λ (is : s ≡ y). absurd (grind (arith, nat_tests)) in
      alike-trans _ _ _ (alike-more q y ys (s ∷ less s ys) (more (omega (arith, g, h)))) (swapped q y s (less s ys) differ)

pub times-head : (s : ℕ) (ys : List ℕ) → 0 < times_in s (s ∷ ys)
times-head s ys = (let e : (s == s) ≡ true = grind (arith, nat_tests) in let g : one_of (s == s) ≡ 1 = ap one_of e in omega (arith, g))

-- two lists in which each number stands equally often
pub any-order : (xs ys : List ℕ) (q : Sleepers) → ((k : ℕ) → times_in k xs ≡ times_in k ys) → AreAlike (time_outs q xs) (time_outs q ys)
any-order [] [] q h = alike-same _ _ refl
any-order [] (y ∷ ys) q h = absurd (let e = h y in let g = times-head y ys in omega (arith, e, g))
any-order (x ∷ xs) ys q h =
    let e = h x in
    let g = times-head x xs in
    let inside : 0 < times_in x ys = omega (arith, e, g) in
    let front = to-front x ys q inside in
    let rest = any-order xs (less x ys) (after q x) (λ k. let a = h k in let b = times-less k x ys inside in omega (arith, a, b)) in
    alike-trans _ _ _ (alike-more q x xs (less x ys) rest) (record { queue = sym front.queue; counts = λ test. sym (front.counts test) })
