-- Readers that take exactly what printing gives, and how they are put together.
use Rattle.std.proofs.Common.{◌≡◌, Bool, true, ◌&&◌, List, [], ◌∷◌, ◌++◌, length, refl, ap, sym, subst, ◌∙◌, append_assoc, append-nil}
use Rattle.std.specs.Prelude.{Result, Ok, nat_lt}
use Rattle.std.specs.List.{list_all, AllByRecursion}
use Rattle.std.proofs.lemmas.Bool.{and_parts, ltb-true}
use Rattle.std.proofs.lemmas.Slice.Eq.{bytes_eq-Decides}
use Rattle.co_text.specs.Fallible.{◌>>=◌, unless}
use Rattle.co_text.specs.Values.{Word, is_word}
use Rattle.co_text.specs.Taking.{Read, next, ended}
use Rattle.co_text.specs.declared.Cause.{Cause}
use Rattle.co_text.specs.declared.Cause.TheVariants.{Form}
use Rattle.co_notes.proofs.PartSplits.{IsPart, AreParts, is_mark}
use Rattle.co_script.proofs.told.Steps.{bind-ok, unless-ok, cond-ok}
use Rattle.co_notes.specs.NoteForms.{Reader, reads_nothing, both, literal, behind_literal, made, choice, one_of, whole, such}

pub same_word : (w v : Word) → is_word w v ≡ true → w ≡ v
same_word w v e = (bytes_eq-Decides w v).0 e

-- a word of printable bytes, by computation
pub lit : (w : Word) → (nat_lt 0 (length w) && list_all is_mark w) ≡ true → IsPart w
lit w e = let both = and_parts (nat_lt 0 (length w)) (list_all is_mark w) e in record { some = ltb-true 0 (length w) both.0; marks = both.1 }

-- a value is read from a word exactly where the word is what it's written by
pub record IsSpelling {X : Type 0} (Fits : X → Type 0) (word : X → Word) (value : Word → Result X Cause) : Type 0 where
  pub back : (x : X) → Fits x → value (word x) ≡ Ok x
  pub told : (w : Word) (x : X) → value w ≡ Ok x → Fits x × (w ≡ word x)
  pub ink : (x : X) → Fits x → IsPart (word x)

-- the same of words at the front
pub record Exact {X : Type 0} (Fits : X → Type 0) (words : X → List Word) (read : Reader X) : Type 0 where
  pub back : (x : X) (ws : List Word) → Fits x → read (words x ++ ws) ≡ Ok (x, ws)
  pub told : (ws : List Word) (x : X) (rest : List Word) → read ws ≡ Ok (x, rest) → Fits x × (ws ≡ words x ++ rest)
  pub ink : (x : X) → Fits x → AreParts (words x)

-- a pair that is answered, by its parts
pub same_pair : {X : Type 0} (a x : X) (b y : List Word) → ◌≡◌ {A = Read X} (Ok (a, b)) (Ok (x, y)) → (a ≡ x) × (b ≡ y)
same_pair {X} a x b y e = let p : ◌≡◌ {A = X × List Word} (a, b) (x, y) = cc in (ap (λ (q : X × List Word). q.0) p, ap (λ (q : X × List Word). q.1) p)

pub words-append : (vs ws : List Word) → AreParts vs → AreParts ws → AreParts (vs ++ ws)
words-append [] ws a b = b
words-append (v ∷ vs) ws a b = (a.0, words-append vs ws a.1 b)

pub one : {X : Type 0} {F : X → Type 0} {word : X → Word} {value : Word → Result X Cause} → IsSpelling F word value → Exact F (λ x. word x ∷ []) (next value)
one {X} {F} {word} {value} s = record { back = λ x ws h. ap (λ r. r >>= λ v. Ok (v, ws)) (s.back x h); told = told; ink = λ x h. (s.ink x h, tt) } where
  told : (ws : List Word) (x : X) (rest : List Word) → next value ws ≡ Ok (x, rest) → F x × (ws ≡ word x ∷ rest)
  told [] x rest h = cc
  told (w ∷ ws) x rest h =
      let b = bind-ok (value w) (λ v. Ok (v, ws)) (x, rest) h in
      let e = same_pair b.0 x ws rest b.2 in
      let t = s.told w b.0 b.1 in
      (subst F e.0 t.0, ap (λ v. v ∷ ws) (t.1 ∙ ap word e.0) ∙ ap (λ l. word x ∷ l) e.1)

-- one thing and then another
pub two_told : {A B : Type 0} (F : A → Type 0) (G : B → Type 0) (v : A → List Word) (w : B → List Word) (r : Reader A) (q : Reader B)
    → ((ws : List Word) (x : A) (rest : List Word) → r ws ≡ Ok (x, rest) → F x × (ws ≡ v x ++ rest))
    → ((ws : List Word) (x : B) (rest : List Word) → q ws ≡ Ok (x, rest) → G x × (ws ≡ w x ++ rest))
    → (ws : List Word) (p : A × B) (rest : List Word) → both r q ws ≡ Ok (p, rest) → (F p.0 × G p.1) × (ws ≡ (v p.0 ++ w p.1) ++ rest)
two_told {A} {B} F G v w r q x y ws p rest h =
    let a = bind-ok (r ws) (λ a. q a.1 >>= λ b. Ok ((a.0, b.0), b.1)) (p, rest) h in
    let b = bind-ok (q a.0.1) (λ b. Ok ((a.0.0, b.0), b.1)) (p, rest) a.2 in
    let e = same_pair (a.0.0, b.0.0) p b.0.1 rest b.2 in
    let s = x ws a.0.0 a.0.1 a.1 in
    let t = y a.0.1 b.0.0 b.0.1 b.1 in (
      subst (λ (z : A × B). F z.0 × G z.1) e.0 (s.0, t.0),
      s.1 ∙ (ap (λ u. v a.0.0 ++ u) t.1
          ∙ (sym (append_assoc (v a.0.0) (w b.0.0) b.0.1)
          ∙ (ap (λ (z : A × B). (v z.0 ++ w z.1) ++ b.0.1) e.0 ∙ ap (λ u. (v p.0 ++ w p.1) ++ u) e.1))),
    )

pub two : {A B : Type 0} {F : A → Type 0} {G : B → Type 0} {v : A → List Word} {w : B → List Word} {r : Reader A} {q : Reader B} → Exact F v r → Exact G w q
    → Exact (λ (p : A × B). F p.0 × G p.1) (λ p. v p.0 ++ w p.1) (both r q)
two {A} {B} {F} {G} {v} {w} {r} {q} x y = record {
  back = λ p ws h.
      ap (both r q) (append_assoc (v p.0) (w p.1) ws)
      ∙ (ap (λ z. z >>= λ a. q a.1 >>= λ b. Ok ((a.0, b.0), b.1)) (x.back p.0 (w p.1 ++ ws) h.0)
      ∙ ap (λ z. z >>= λ b. Ok ((p.0, b.0), b.1)) (y.back p.1 ws h.1));
  told = two_told F G v w r q x.told y.told;
  ink = λ p h. words-append (v p.0) (w p.1) (x.ink p.0 h.0) (y.ink p.1 h.1);
}

-- the same words, said otherwise
pub reword : {X : Type 0} {F : X → Type 0} {v w : X → List Word} {r : Reader X} → Exact F v r → ((x : X) → v x ≡ w x) → Exact F w r
reword {X} {F} {v} {w} {r} e same = record {
  back = λ x ws h. ap (λ u. r (u ++ ws)) (sym (same x)) ∙ e.back x ws h;
  told = λ ws x rest h. let t = e.told ws x rest h in (t.0, t.1 ∙ ap (λ u. u ++ rest) (same x));
  ink = λ x h. subst AreParts (same x) (e.ink x h);
}

-- something, where its test passed
abbrev passed_by : {A : Type 0} → Bool → A → List Word → Read A
passed_by b a ws = unless b Form >>= λ _. Ok (a, ws)

-- something that passes a test
pub such_exact : {A : Type 0} {F : A → Type 0} {v : A → List Word} {r : Reader A} (test : A → Bool) → Exact F v r → Exact (λ (a : A). F a × (test a ≡ true)) v (such test r)
such_exact {A} {F} {v} {r} test x = record {
  back = λ a ws h.
      ap (λ (z : Read A). z >>= λ y. unless (test y.0) Form >>= λ _. Ok y) (x.back a ws h.0)
      ∙ ap (λ (b : Bool). passed_by b a ws) h.1;
  told = told;
  ink = λ a h. x.ink a h.0;
} where
  told : (ws : List Word) (a : A) (rest : List Word) → such test r ws ≡ Ok (a, rest) → (F a × (test a ≡ true)) × (ws ≡ v a ++ rest)
  told ws a rest h =
      let y = bind-ok (r ws) (λ y. unless (test y.0) Form >>= λ _. Ok y) (a, rest) h in
      let b = bind-ok (unless (test y.0.0) Form) (λ _. Ok y.0) (a, rest) y.2 in
      let e = same_pair y.0.0 a y.0.1 rest b.2 in
      let t = x.told ws y.0.0 y.0.1 y.1 in
      let passed : test y.0.0 ≡ true = unless-ok (test y.0.0) Form b.0 b.1 in (
        (subst F e.0 t.0, ap test (sym e.0) ∙ passed),
        t.1 ∙ (ap (λ (z : A). v z ++ y.0.1) e.0 ∙ ap (λ (u : List Word). v a ++ u) e.1),
      )

literal-told : (k : Word) (ws : List Word) (l : Bool × List Word) → literal k ws ≡ Ok l → ws ≡ k ∷ l.1
literal-told k [] l h = cc
literal-told k (w ∷ ws) l h =
    let b = bind-ok (unless (is_word w k) Form) (λ x. Ok (x, ws)) l h in
    let e = same_pair b.0 l.0 ws l.1 b.2 in
    ap (λ x. x ∷ ws) (same_word w k (unless-ok (is_word w k) Form b.0 b.1)) ∙ ap (λ x. k ∷ x) e.1

abbrev by_test : Bool → List Word → Read Bool
by_test b ws = unless b Form >>= λ l. Ok (l, ws)

literal-back : (k : Word) (ws : List Word) → is_word k k ≡ true → literal k (k ∷ ws) ≡ Ok (true, ws)
literal-back k ws same = ap (λ b. by_test b ws) same

-- something behind a word
pub behind : {A : Type 0} {F : A → Type 0} {v : A → List Word} {r : Reader A} (k : Word) → is_word k k ≡ true → IsPart k → Exact F v r → Exact F (λ x. k ∷ v x) (behind_literal k r)
behind {A} {F} {v} {r} k same ink x = record {
  back = λ a ws h. ap (λ (z : Read Bool). z >>= λ l. r l.1) (literal-back k (v a ++ ws) same) ∙ x.back a ws h;
  told = told;
  ink = λ a h. (ink, x.ink a h);
} where
  told : (ws : List Word) (a : A) (rest : List Word) → behind_literal k r ws ≡ Ok (a, rest) → F a × (ws ≡ k ∷ (v a ++ rest))
  told ws a rest h =
      let l = bind-ok (literal k ws) (λ l. r l.1) (a, rest) h in
      let t = x.told l.0.1 a rest l.2 in
      (t.0, literal-told k ws l.0 l.1 ∙ ap (λ u. k ∷ u) t.1)

-- ---- what is made of what was read

pub made-back : {A B : Type 0} {F : A → Type 0} {v : A → List Word} {r : Reader A} (make : A → B) → Exact F v r → (a : A) (ws : List Word) → F a → made make r (v a ++ ws) ≡ Ok (make a, ws)
made-back make x a ws h = ap (λ z. z >>= λ a. Ok (make a.0, a.1)) (x.back a ws h)

pub made-told : {A B : Type 0} {F : A → Type 0} {v : A → List Word} {r : Reader A} (make : A → B) → Exact F v r
    → (P : B → List Word → Type 0) (ws : List Word) (rest : List Word) → ((a : A) → F a → ws ≡ v a ++ rest → P (make a) rest)
    → (y : B) → made make r ws ≡ Ok (y, rest) → P y rest
made-told {A} {B} {F} {v} {r} make x P ws rest f y h =
    let a = bind-ok (r ws) (λ a. Ok (make a.0, a.1)) (y, rest) h in
    let e = same_pair (make a.0.0) y a.0.1 rest a.2 in
    let t = x.told ws a.0.0 a.0.1 a.1 in
    subst (λ z. P z rest) e.0 (f a.0.0 t.0 (t.1 ∙ ap (λ u. v a.0.0 ++ u) e.1))

-- ---- a choice by the first word

-- a reader behind this word tells what was written
pub record Tells {X : Type 0} (Fits : X → Type 0) (words : X → List Word) (k : Word) (r : Reader X) : Type 0 where
  pub told : (ws : List Word) (x : X) (rest : List Word) → r ws ≡ Ok (x, rest) → Fits x × (k ∷ ws ≡ words x ++ rest)

pub tells-made : {A X : Type 0} (Fits : X → Type 0) (words : X → List Word) (k : Word) {F : A → Type 0} {v : A → List Word} {r : Reader A} (make : A → X) → Exact F v r
    → ((a : A) → F a → Fits (make a)) → ((a : A) (rest : List Word) → k ∷ (v a ++ rest) ≡ words (make a) ++ rest) → Tells Fits words k (made make r)
tells-made {A} {X} Fits words k {F} {v} {r} make x fits same = record {
  told = λ ws y rest h. made-told make x (λ z rest. Fits z × (k ∷ ws ≡ words z ++ rest)) ws rest (λ a f e. (fits a f, ap (λ u. k ∷ u) e ∙ same a rest)) y h;
}

pub tells-nothing : {X : Type 0} (Fits : X → Type 0) (words : X → List Word) (k : Word) (x : X) → Fits x → ((rest : List Word) → k ∷ rest ≡ words x ++ rest) → Tells Fits words k (reads_nothing x)
tells-nothing {X} Fits words k x fits same = record { told = told } where
  told : (ws : List Word) (y : X) (rest : List Word) → reads_nothing x ws ≡ Ok (y, rest) → Fits y × (k ∷ ws ≡ words y ++ rest)
  told ws y rest h =
      let e = same_pair x y ws rest h in
      (subst Fits e.0 fits, ap (λ u. k ∷ u) e.1 ∙ (same rest ∙ ap (λ z. words z ++ rest) e.0))

abbrev pub EachTells : {X : Type 0} → (X → Type 0) → (X → List Word) → List (Word × Reader X) → Type 0
EachTells Fits words cs = AllByRecursion (λ c. Tells Fits words c.0 c.1) cs

choice-tells : {X : Type 0} (Fits : X → Type 0) (words : X → List Word) (cs : List (Word × Reader X)) → EachTells Fits words cs
    → (w : Word) (ws : List Word) (x : X) (rest : List Word) → choice cs w ws ≡ Ok (x, rest) → Fits x × (w ∷ ws ≡ words x ++ rest)
choice-tells Fits words [] all w ws x rest h = cc
choice-tells {X} Fits words (c ∷ cs) all w ws x rest h =
    cond-ok (Fits x × (w ∷ ws ≡ words x ++ rest)) (is_word w c.0) (c.1 ws) (choice cs w ws) (x, rest)
    (λ e k. let t = all.0.told ws x rest k in (t.0, ap (λ v. v ∷ ws) (same_word w c.0 e) ∙ t.1))
    (λ k. choice-tells Fits words cs all.1 w ws x rest k)
    h

pub choice-told : {X : Type 0} (Fits : X → Type 0) (words : X → List Word) (cs : List (Word × Reader X)) → EachTells Fits words cs
    → (ws : List Word) (x : X) (rest : List Word) → one_of cs ws ≡ Ok (x, rest) → Fits x × (ws ≡ words x ++ rest)
choice-told Fits words cs all [] x rest h = cc
choice-told Fits words cs all (w ∷ ws) x rest h = choice-tells Fits words cs all w ws x rest h

-- ---- a whole line

pub whole-back : {X : Type 0} {F : X → Type 0} {v : X → List Word} {r : Reader X} → Exact F v r → (x : X) → F x → whole r (v x) ≡ Ok x
whole-back {X} {F} {v} {r} e x h = ap (whole r) (sym (append-nil (v x))) ∙ ap (λ z. z >>= λ a. ended a.1 >>= λ _. Ok a.0) (e.back x [] h)

pub whole-told : {X : Type 0} {F : X → Type 0} {v : X → List Word} {r : Reader X} → Exact F v r → (ws : List Word) (x : X) → whole r ws ≡ Ok x → F x × (ws ≡ v x)
whole-told {X} {F} {v} {r} e ws x h =
    let a = bind-ok (r ws) (λ a. ended a.1 >>= λ _. Ok a.0) x h in
    let b = bind-ok (ended a.0.1) (λ _. Ok a.0.0) x a.2 in
    let same : a.0.0 ≡ x = cc in
    let t = e.told ws a.0.0 a.0.1 a.1 in
    (subst F same t.0, t.1 ∙ (ap (λ u. v a.0.0 ++ u) (none a.0.1 b.0 b.1) ∙ (append-nil (v a.0.0) ∙ ap v same)))
  where
    none : (ws : List Word) (b : Bool) → ended ws ≡ Ok b → ws ≡ []
    none [] b h = refl
    none (w ∷ ws) b h = cc
