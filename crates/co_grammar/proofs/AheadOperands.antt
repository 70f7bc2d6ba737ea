-- Operands at the front of a text: each is the word that stands there, with its value.
use Rattle.std.proofs.Common.{◌≡◌, ℕ, ◌-◌, ◌*◌, ◌^◌, ◌<◌, ◌≤◌, Bool, true, false, List, [], ◌∷◌, ◌++◌, length, drop, get_or, refl, ap, sym, ◌∙◌, arith, length-append}
use Rattle.std.specs.Prelude.{Result, Ok, codes}
use Rattle.std.proofs.lemmas.List.{drop_more}
use Rattle.std.proofs.lemmas.Slice.Eq.{bytes_eq-Decides}
use Rattle.co_text.specs.Fallible.{◌>>=◌}
use Rattle.co_text.specs.Values.{Word, is_word, number, time, func, argument}
use Rattle.co_text.specs.declared.Cause.{Cause}
use Rattle.co_text.proofs.LinesBack.{and_both}
use Rattle.co_program.specs.declared.Who.TheVariants as callout
use Rattle.co_program.specs.declared.When.TheVariants as when
use Rattle.co_program.specs.declared.Where.TheVariants as cpu
use Rattle.co_grammar.specs.Ahead.{IsNumber, is_inked, IsAhead, IsNext, EndsCpu}
use Rattle.co_grammar.specs.Operands.{who, moment, cpu_choice}
use Rattle.co_grammar.proofs.AheadWords.{digits-inked, letter-inked, one-more}
use Rattle.co_grammar.proofs.Digits.{number-read, units-read, seconds-read}

-- bytes that were read at the front
pub one-read : (text rest : List ℕ) (a : ℕ) → 0 < length text → get_or text 0 0 ≡ a → rest ≡ drop 1 text → text ≡ a ∷ rest
one-read text rest a some first back = drop_more text 0 0 some ∙ (ap (λ c. c ∷ drop 1 text) first ∙ ap (λ r. a ∷ r) (sym back))

pub two-read : (text rest : List ℕ) (a b : ℕ) → 1 < length text → get_or text 0 0 ≡ a → get_or text 1 0 ≡ b → rest ≡ drop 2 text → text ≡ a ∷ b ∷ rest
two-read text rest a b some first second back = one-read text (b ∷ rest) a (omega (arith, some)) first (sym (drop_more text 1 0 some ∙ (ap (λ c. c ∷ drop 2 text) second ∙ ap (λ r. b ∷ r) (sym back))))

-- times

pub units-front : (text t r : List ℕ) (n : ℕ) → text ≡ 117 ∷ t → IsNumber t n r → n < 2 ^ 63 → IsAhead time text n r
units-front text t r n letter h small = record {
  word = 117 ∷ h.word;
  front = letter ∙ ap (λ s. 117 ∷ s) h.front;
  inked = letter-inked 117 h.word refl (digits-inked h.word h.some h.spells.all);
  reads = units-read h.word n h.some h.spells small;
}

pub seconds-front : (text r : List ℕ) (n : ℕ) → IsNumber text n r → n < 2 ^ 31 → length text - length r ≤ 10 → IsAhead time text (n * 2 ^ 32) r
seconds-front text r n h small few =
    let short : length h.word ≤ 10 = omega (arith, few, ap length h.front, length-append h.word r) in
    record {
      word = h.word;
      front = h.front;
      inked = digits-inked h.word h.some h.spells.all;
      reads = seconds-read h.word n h.some short h.spells small;
    }

pub after-front : (rest text r : List ℕ) (u t : ℕ) → rest ≡ 32 ∷ 43 ∷ text → IsAhead time text u r → t ≡ u → IsNext moment rest (when.After t) r
after-front rest text r u t begins h is = (
  43 ∷ text,
  begins,
  record {
    word = 43 ∷ h.word;
    front = ap (λ s. 43 ∷ s) h.front;
    inked = letter-inked 43 h.word refl h.inked;
    reads = ap (λ (x : Result ℕ Cause). x >>= λ t. Ok (when.After t)) (h.reads ∙ ap (λ k. Ok k) (sym is));
  },
)

pub at-front : (rest text r : List ℕ) (u t : ℕ) → rest ≡ 32 ∷ 61 ∷ text → IsAhead time text u r → t ≡ u → IsNext moment rest (when.At t) r
at-front rest text r u t begins h is = (
  61 ∷ text,
  begins,
  record {
    word = 61 ∷ h.word;
    front = ap (λ s. 61 ∷ s) h.front;
    inked = letter-inked 61 h.word refl h.inked;
    reads = ap (λ (x : Result ℕ Cause). x >>= λ t. Ok (when.At t)) (h.reads ∙ ap (λ k. Ok k) (sym is));
  },
)

-- numbers

pub next-front : {X : Type 0} (value : Word → Result X Cause) (rest text r : List ℕ) (x : X) → rest ≡ 32 ∷ text → IsAhead value text x r → IsNext value rest x r
next-front value rest text r x begins h = (text, begins, h)

pub number-next : (rest text r : List ℕ) (n : ℕ) → rest ≡ 32 ∷ text → IsNumber text n r → IsNext number rest n r
number-next rest text r n begins h = (
  text,
  begins,
  record {
    word = h.word;
    front = h.front;
    inked = digits-inked h.word h.some h.spells.all;
    reads = number-read h.word n h.some h.spells;
  },
)

pub func-next : (rest text r : List ℕ) (n : ℕ) → rest ≡ 32 ∷ 102 ∷ text → IsNumber text n r → IsNext func rest n r
func-next rest text r n begins h = (
  102 ∷ text,
  begins,
  record {
    word = 102 ∷ h.word;
    front = ap (λ s. 102 ∷ s) h.front;
    inked = letter-inked 102 h.word refl (digits-inked h.word h.some h.spells.all);
    reads = number-read h.word n h.some h.spells;
  },
)

pub argument-next : (rest text r : List ℕ) (n : ℕ) → rest ≡ 32 ∷ 97 ∷ text → IsNumber text n r → IsNext argument rest n r
argument-next rest text r n begins h = (
  97 ∷ text,
  begins,
  record {
    word = 97 ∷ h.word;
    front = ap (λ s. 97 ∷ s) h.front;
    inked = letter-inked 97 h.word refl (digits-inked h.word h.some h.spells.all);
    reads = number-read h.word n h.some h.spells;
  },
)

-- a word that a number is, is no other word

no-number : (w v : Word) (n : ℕ) → (number v ≡ Ok n → ⊥) → number w ≡ Ok n → is_word w v ≡ false
no-number w v n not-v h = by (is_word w v) refl
  where
    by : (b : Bool) → is_word w v ≡ b → is_word w v ≡ false
    by true e = absurd (not-v (ap number (sym ((bytes_eq-Decides w v).0 e)) ∙ h))
    by false e = e

no-me : (n : ℕ) → number (codes "me") ≡ Ok n → ⊥
no-me n e = cc

no-here : (n : ℕ) → number (codes "here") ≡ Ok n → ⊥
no-here n e = cc

-- `me` names the callout that a function is about
pub who-me : (serviced : Bool) (w : Word) → serviced ≡ true → is_word w (codes "me") ≡ true → who serviced w ≡ Ok callout.Me
who-me serviced w e f = rw (e, f) refl

-- what names a callout where there is none that `me` names, does so too where there is one
pub who-serviced : (serviced : Bool) (w : Word) (n : ℕ) → number w ≡ Ok n → who serviced w ≡ Ok (callout.Timer n)
who-serviced false w n e = ap (λ (x : Result ℕ Cause). x >>= λ i. Ok (callout.Timer i)) e
who-serviced true w n e = rw (no-number w (codes "me") n (no-me n) e, e) refl

cpu-read : (w : Word) (n : ℕ) → number w ≡ Ok n → cpu_choice w ≡ Ok (cpu.Cpu n)
cpu-read w n e = rw (no-number w (codes "here") n (no-here n) e, e) refl

-- the ends of lines

pub no-cpu : (rest after : List ℕ) → rest ≡ 10 ∷ after → EndsCpu rest cpu.Home after
no-cpu rest after ends = record { others = []; front = ends; inked = refl; reads = λ serviced. refl }

pub cpu-ends : (rest text r after : List ℕ) (n : ℕ) → rest ≡ 32 ∷ (codes "cpu" ++ text) → IsNext number text n r → r ≡ 10 ∷ after → EndsCpu rest (cpu.Cpu n) after
cpu-ends rest text r after n begins h ends =
    let w : Word = h.2.word in
    record {
      others = codes "cpu" ∷ w ∷ [];
      front = one-more rest (codes "cpu" ++ text) text after (codes "cpu") (w ∷ []) begins refl (one-more text h.0 r after w [] h.1 h.2.front ends);
      inked = and_both (is_inked w) _ h.2.inked refl;
      reads = λ serviced. rw (cpu-read w n h.2.reads) refl;
    }
