-- Where the armings stand in a timer queue: what a removal, an insert, a scan and a service leave of each callout's entries.
use Rattle.std.proofs.Common.{◌≡◌, ◌≢◌, ℕ, ◌+◌, ◌≤◌, Bool, true, false, cond, not, ◌==◌, List, [], ◌∷◌, ◌++◌, map, length, max, refl, ap, sym, ◌∙◌, arith}
use Rattle.std.specs.List.{filter}
use Rattle.std.specs.declared.option.Option.{Option}
use Rattle.std.specs.declared.option.Option.TheVariants.{Some, None}
use Rattle.std.proofs.lemmas.List.Elements.{filter-append}
use Rattle.co_object.specs.declared.state.Arming.{Arming}
use Rattle.co_object.specs.Queue.{Waiting, Due, Queue, without}
use Rattle.co_object.proofs.Numbers.{same_number, same_itself}
use Rattle.co_object.proofs.QueueChanges.{inserted}
use Rattle.co_queue.proofs.Lists.{filter-map}
use Rattle.co_single.specs.Alarms.{but, times_in}
use Rattle.co_single.specs.Rest.{ArmingStands, nowhere, listed, due, entries_of, come}

pub differs : (a b : ℕ) → a ≢ b → (a == b) ≡ false
differs a b h = go (a == b) refl where
  go : (c : Bool) → (a == b) ≡ c → c ≡ false
  go false is = refl
  go true is = absurd (h (same_number a b is))

module _ {X : Type 0} where
  -- a test that fails where another one passes
  pub filter-none : (p q : X → Bool) → ((x : X) → p x ≡ true → q x ≡ false) → (xs : List X) → filter p (filter q xs) ≡ []
  filter-none p q h [] = refl
  filter-none p q h (x ∷ xs) = go (q x) refl (filter-none p q h xs) where
    at_p : (b : Bool) → p x ≡ b → q x ≡ true → filter p (filter q xs) ≡ [] → cond (p x) (x ∷ filter p (filter q xs)) (filter p (filter q xs)) ≡ []
    at_p true is passed rest = let e = h x is in cc
    at_p false is passed rest = ap (λ b. cond b (x ∷ filter p (filter q xs)) (filter p (filter q xs))) is ∙ rest

    go : (b : Bool) → q x ≡ b → filter p (filter q xs) ≡ [] → filter p (cond (q x) (x ∷ filter q xs) (filter q xs)) ≡ []
    go true is rest = ap (λ b. filter p (cond b (x ∷ filter q xs) (filter q xs))) is ∙ at_p (p x) refl is rest
    go false is rest = ap (λ b. filter p (cond b (x ∷ filter q xs) (filter q xs))) is ∙ rest

  -- a test that passes wherever another one does
  pub filter-same : (p q : X → Bool) → ((x : X) → p x ≡ true → q x ≡ true) → (xs : List X) → filter p (filter q xs) ≡ filter p xs
  filter-same p q h [] = refl
  filter-same p q h (x ∷ xs) = go (q x) refl (filter-same p q h xs) where
    at_p : (b : Bool) → p x ≡ b → q x ≡ false → filter p (filter q xs) ≡ filter p xs → filter p (filter q xs) ≡ cond (p x) (x ∷ filter p xs) (filter p xs)
    at_p true is failed rest = let e = h x is in cc
    at_p false is failed rest = rest ∙ sym (ap (λ b. cond b (x ∷ filter p xs) (filter p xs)) is)

    go : (b : Bool) → q x ≡ b → filter p (filter q xs) ≡ filter p xs → filter p (cond (q x) (x ∷ filter q xs) (filter q xs)) ≡ cond (p x) (x ∷ filter p xs) (filter p xs)
    go true is rest = ap (λ b. filter p (cond b (x ∷ filter q xs) (filter q xs))) is ∙ ap (λ zs. cond (p x) (x ∷ zs) zs) rest
    go false is rest = ap (λ b. filter p (cond b (x ∷ filter q xs) (filter q xs))) is ∙ at_p (p x) refl is rest

  pub filter-out : (p : X → Bool) (x : X) → p x ≡ false → filter p (x ∷ []) ≡ []
  filter-out p x h = ap (λ b. cond b (x ∷ []) []) h

  pub filter-in : (p : X → Bool) (x : X) → p x ≡ true → filter p (x ∷ []) ≡ x ∷ []
  filter-in p x h = ap (λ b. cond b (x ∷ []) []) h

  -- what has nothing that passes is kept whole by the contrary test
  pub filter-whole : (p : X → Bool) (xs : List X) → filter p xs ≡ [] → filter (λ x. not (p x)) xs ≡ xs
  filter-whole p [] h = refl
  filter-whole p (x ∷ xs) h = go (p x) refl h (λ k. filter-whole p xs k) where
    go : (b : Bool) → p x ≡ b → cond b (x ∷ filter p xs) (filter p xs) ≡ [] → (filter p xs ≡ [] → filter (λ x. not (p x)) xs ≡ xs) →
        cond (not (p x)) (x ∷ filter (λ x. not (p x)) xs) (filter (λ x. not (p x)) xs) ≡ x ∷ xs
    go true is h rest = cc
    go false is h rest = ap (λ b. cond (not b) (x ∷ filter (λ x. not (p x)) xs) (filter (λ x. not (p x)) xs)) is ∙ ap (λ ys. x ∷ ys) (rest h)

-- the callouts in a list of armings that have come due
abbrev pub numbers : List Due → List ℕ
numbers ds = map (λ d. d.i) ds

not_same : (x i : ℕ) → (x == i) ≡ true → not (x == i) ≡ false
not_same x i h = ap not h

not_other : (x i j : ℕ) → j ≢ i → (x == j) ≡ true → not (x == i) ≡ true
not_other x i j h is = ap not (differs x i (λ e. h (sym (same_number x j is) ∙ e)))

-- nothing in service, and nothing for the interrupt
pub record IsQuiet (q : Queue) : Type 0 where
  pub serving : q.serving ≡ None
  pub urgent : q.urgent ≡ []

-- t is q without callout i
pub record IsOut (q : Queue) (i : ℕ) (t : Queue) : Type 0 where
  pub quiet : IsQuiet t
  pub last : t.last ≡ q.last
  pub none_stands : entries_of t i ≡ []
  pub none_come : come t i ≡ []
  pub others_stand : (j : ℕ) → j ≢ i → entries_of t j ≡ entries_of q j
  pub others_come : (j : ℕ) → j ≢ i → come t j ≡ come q j
  pub waiting : numbers t.expired ≡ but i (numbers q.expired)

pub out_without : (q : Queue) (i : ℕ) → IsQuiet q → IsOut q i (without q i)
out_without q i h = record {
  quiet = record { serving = h.serving; urgent = ap (filter (λ d. not (d.i == i))) h.urgent };
  last = refl;
  none_stands = filter-none (λ w. w.i == i) (λ w. not (w.i == i)) (λ w. not_same w.i i) q.content;
  none_come = filter-none (λ d. d.i == i) (λ d. not (d.i == i)) (λ d. not_same d.i i) q.expired;
  others_stand = λ j other. filter-same (λ w. w.i == j) (λ w. not (w.i == i)) (λ w. not_other w.i i j other) q.content;
  others_come = λ j other. filter-same (λ d. d.i == j) (λ d. not (d.i == i)) (λ d. not_other d.i i j other) q.expired;
  waiting = sym (filter-map (λ d. d.i) (λ j. not (j == i)) q.expired);
}

pub out_nowhere : (q : Queue) (i : ℕ) → IsQuiet q → entries_of q i ≡ [] → come q i ≡ [] → IsOut q i q
out_nowhere q i h stands comes = record {
  quiet = h;
  last = refl;
  none_stands = stands;
  none_come = comes;
  others_stand = λ j other. refl;
  others_come = λ j other. refl;
  waiting = sym (filter-map (λ d. d.i) (λ j. not (j == i)) q.expired ∙ ap numbers (filter-whole (λ d. d.i == i) q.expired comes));
}

is_nowhere : (q : Queue) (i : ℕ) (o : Option Arming) → o ≡ None → ArmingStands q i o → (entries_of q i ≡ []) × (come q i ≡ [])
is_nowhere q i o none (nowhere s c) = (s, c)
is_nowhere q i o none (listed a l) = cc
is_nowhere q i o none (due a l) = cc

pub nowhere_of : (q : Queue) (i : ℕ) → ArmingStands q i None → (entries_of q i ≡ []) × (come q i ≡ [])
nowhere_of q i h = is_nowhere q i None refl h

-- an arming keeps its place where its entries stay
pub placed_still : (q t : Queue) (i : ℕ) (o : Option Arming) → entries_of t i ≡ entries_of q i → come t i ≡ come q i → q.last ≤ t.last → ArmingStands q i o → ArmingStands t i o
placed_still q t i o s c later (nowhere x y) = nowhere (s ∙ x) (c ∙ y)
placed_still q t i o s c later (listed a l) = listed a (record {
  entry = l.entry;
  scan = l.scan;
  stands = s ∙ l.stands;
  none_come = c ∙ l.none_come;
  number = l.number;
  time = l.time;
  passed = (let p = l.passed in omega (arith, p, later));
})
placed_still q t i o s c later (due a l) = due a (record {
  entry = l.entry;
  none_stands = s ∙ l.none_stands;
  comes = c ∙ l.comes;
  number = l.number;
  due = (let p = l.due in omega (arith, p, later));
})

pub same_last : (q t : Queue) → t.last ≡ q.last → q.last ≤ t.last
same_last q t h = omega (arith, h)

-- where callout i is taken out, it is nowhere, and the others keep their places
pub placed_out : (q t : Queue) (i : ℕ) (o : ℕ → Option Arming) → IsOut q i t → ((j : ℕ) → ArmingStands q j (o j)) → (j : ℕ) → j ≢ i → ArmingStands t j (o j)
placed_out q t i o h each j other = placed_still q t j (o j) (h.others_stand j other) (h.others_come j other) (same_last q t h.last) (each j)

-- callout i's arming n is inserted where it was taken out
module _ (q t : Queue) (i n time : ℕ) (h : IsOut q i t) where
  abbrev entry : Waiting
  entry = record { i = i; n = n; t = max time t.last; serial = t.next_serial }

  pub placed_in : (a : Arming) → a.n ≡ n → a.due ≡ time → ArmingStands (inserted t i n time) i (Some a)
  placed_in a number at = listed a (record {
    entry = entry;
    scan = t.last;
    stands = filter-append (λ w. w.i == i) t.content (entry ∷ []) ∙ (ap (λ ws. ws ++ filter (λ (w : Waiting). w.i == i) (entry ∷ [])) h.none_stands ∙ filter-in (λ (w : Waiting). w.i == i) entry (same_itself i i refl));
    none_come = h.none_come;
    number = sym number;
    time = ap (λ d. max d t.last) (sym at);
    passed = omega arith;
  })

  pub placed_beside : (o : ℕ → Option Arming) → ((j : ℕ) → ArmingStands q j (o j)) → (j : ℕ) → j ≢ i → ArmingStands (inserted t i n time) j (o j)
  placed_beside o each j other = placed_still t (inserted t i n time) j (o j)
      (filter-append (λ w. w.i == j) t.content (entry ∷ []) ∙ (ap (λ ws. filter (λ (w : Waiting). w.i == j) t.content ++ ws) (filter-out (λ (w : Waiting). w.i == j) entry (differs i j (λ e. other (sym e)))) ∙ append_nil (filter (λ (w : Waiting). w.i == j) t.content)))
      refl (same_last t (inserted t i n time) refl) (placed_out q t i o h each j other) where
        append_nil : (ws : List Waiting) → ws ++ [] ≡ ws
        append_nil [] = refl
        append_nil (w ∷ ws) = ap (λ zs. w ∷ zs) (append_nil ws)

-- how often a callout waits, by its entries
pub times_come : (i : ℕ) (ds : List Due) → times_in i (numbers ds) ≡ length (filter (λ d. d.i == i) ds)
times_come i [] = refl
times_come i (d ∷ ds) = go (d.i == i) (times_come i ds) where
  go : (b : Bool) → times_in i (numbers ds) ≡ length (filter (λ d. d.i == i) ds) → cond b 1 0 + times_in i (numbers ds) ≡ length (cond b (d ∷ filter (λ d. d.i == i) ds) (filter (λ d. d.i == i) ds))
  go true h = omega (arith, h)
  go false h = omega (arith, h)
