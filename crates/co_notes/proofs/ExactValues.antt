-- The values of notes are read exactly from the words that they are written by.
use Rattle.std.proofs.Common.{◌≡◌, ℕ, zero, suc, ◌+◌, ◌-◌, ◌*◌, ◌^◌, ◌<◌, ◌≤◌, Bool, true, false, not, ◌&&◌, ◌||◌, List, [], ◌∷◌, length, get_or, refl, ap, sym, subst, ◌∙◌, arith, rules, ℤ, pos, negsuc, decimal}
use Rattle.std.specs.Prelude.{Option, Some, None, Result, Ok, Err, nat_lt, nat_le, ◌==◌, if◌then◌else◌, codes, neg_ℤ, fold}
use Rattle.std.specs.List.{list_all}
use Rattle.std.specs.Char.{is_ascii_digit, digit_value}
use Rattle.std.specs.Fmt.{signed_decimal}
use Rattle.std.specs.Str.Parse.{AllDigits}
use Rattle.std.proofs.lemmas.Fmt.{decimal_is_IsNumeral, decimal-digits_value, first_decimal, decimal_digit}
use Rattle.std.proofs.lemmas.Str.Parse.{IsNumeralModel, numerals_by_fold}
use Rattle.std.proofs.lemmas.Bool.{and_parts, ltb-true, lt-ltb, leb-true, eqb-true, eqb-false, eq-eqb, and_from}
use Rattle.std.proofs.lemmas.Bool.Decides.{nat_tests}
use Rattle.co_sbt.specs.Seconds.{are_digits, number as spelled}
use Rattle.co_text.specs.Fallible.{◌>>=◌, unless}
use Rattle.co_text.specs.Values.{Word, is_word, number, is_shortest, behind}
use Rattle.co_text.specs.Written.{units_word, argument_word}
use Rattle.co_text.specs.declared.Cause.{Cause}
use Rattle.co_text.specs.declared.Cause.TheVariants.{Form}
use Rattle.co_notes.proofs.PartSplits.{IsPart, is_mark, part_of}
use Rattle.co_text.proofs.ValuesBack.{number-back, decimal-word, signed-word}
use Rattle.co_script.proofs.told.Steps.{bind-ok, unless-ok, cond-ok}
use Rattle.co_notes.specs.NoteTexts.{arming_word, truth_word, word_or_dash}
use Rattle.co_notes.specs.NoteValues.{below, lettered, count64, count32, time_in_units, arming, given, or_dash, truth, negative, positive, code, own_kind}
use Rattle.co_notes.specs.NoteFits.{IsTime, IsLong, IsCode}
use Rattle.co_object.specs.declared.OwnKind.{OwnKind}
use Rattle.co_object.specs.declared.OwnKind.TheVariants.{NotHeld, HoldsLock, Holding, NotHolding}
use Rattle.co_notes.proofs.Exact.{IsSpelling, same_word, lit}

-- ---- numbers

-- digits, read from the left
abbrev read_on : ℕ → List ℕ → ℕ
read_on n ds = fold (λ n c. n * 10 + (c - 48)) n ds

numerals : IsNumeralModel (λ ds. list_all is_ascii_digit ds ≡ true) (read_on 0)
numerals = numerals_by_fold _ (search rules) read_on (search rules)

-- a number is written without a zero in front
or-true : (b : Bool) → (b || true) ≡ true
or-true true = refl
or-true false = refl

above-zero : (w : Word) → 48 < get_or w 0 0 → is_shortest w ≡ true
above-zero [] f = refl
above-zero (c ∷ w) f =
    let other : (c == 48) ≡ false = grind (arith, nat_tests) in
    ap (λ b. (length w == 0) || not b) other ∙ or-true (length w == 0)

pub shortest : (n : ℕ) → n < 2 ^ 64 → is_shortest (decimal n) ≡ true
shortest zero h = ap is_shortest (decimal_digit 0 (omega arith))
shortest (suc n) h = above-zero (decimal (suc n)) (first_decimal (suc n) (omega arith) h)

alone : (c : ℕ) (w : Word) (a b : Bool) → (length w == 0) ≡ a → (c == 48) ≡ b → (a || not b) ≡ true → c ≡ 48 → length (c ∷ w) ≡ 1
alone c w true b ea eb k z = let none : length w ≡ 0 = eqb-true (length w) 0 ea in omega (arith, none)
alone c w false true ea eb k z = cc
alone c w false false ea eb k z = absurd (eqb-false c 48 eb z)

zero-alone : (w : Word) → is_shortest w ≡ true → get_or w 0 0 ≡ 48 → length w ≡ 1
zero-alone [] e z = absurd (omega (arith, z))
zero-alone (c ∷ w) e z = alone c w (length w == 0) (c == 48) refl refl e z

-- a word of digits without a zero in front is what its number is written by
pub shortest-told : (w : Word) → is_shortest w ≡ true → list_all is_ascii_digit w ≡ true → 0 < length w → spelled w < 2 ^ 64 → w ≡ decimal (spelled w)
shortest-told w s all some small = sym (decimal-digits_value numerals w all some (zero-alone w s) small)

-- a number below a bound of at most 64 bits
pub numbers : (bound : ℕ) → bound ≤ 2 ^ 64 → IsSpelling (λ n. n < bound) decimal (below bound)
numbers bound few = record { back = back; told = told; ink = λ n h. part_of (decimal n) (decimal-word n (omega (arith, h, few))) } where
  back : (n : ℕ) → n < bound → below bound (decimal n) ≡ Ok n
  back n h =
      let small : n < 2 ^ 64 = omega (arith, h, few) in
      ap (λ b. unless b Form >>= λ _. number (decimal n) >>= λ m. unless (nat_lt m bound) Form >>= λ _. Ok m) (shortest n small)
      ∙ (ap (λ r. r >>= λ m. unless (nat_lt m bound) Form >>= λ _. Ok m) (number-back n small)
      ∙ ap (λ b. unless b Form >>= λ _. Ok n) (lt-ltb n bound h))

  told : (w : Word) (n : ℕ) → below bound w ≡ Ok n → (n < bound) × (w ≡ decimal n)
  told w n h =
      let s = bind-ok (unless (is_shortest w) Form) (λ _. number w >>= λ m. unless (nat_lt m bound) Form >>= λ _. Ok m) n h in
      let m = bind-ok (number w) (λ m. unless (nat_lt m bound) Form >>= λ _. Ok m) n s.2 in
      let t = bind-ok (unless (nat_lt m.0 bound) Form) (λ _. Ok m.0) n m.2 in
      let d = bind-ok (unless (are_digits 1 20 w) Form) (λ _. Ok (spelled w)) m.0 m.1 in
      let same : spelled w ≡ n = cc in
      let here : m.0 ≡ n = cc in
      let less : n < bound = subst (λ (k : ℕ). k < bound) here (ltb-true m.0 bound (unless-ok (nat_lt m.0 bound) Form t.0 t.1)) in
      let parts = and_parts (nat_le 1 (length w) && nat_le (length w) 20) (list_all is_ascii_digit w) (unless-ok (are_digits 1 20 w) Form d.0 d.1) in
      let some = leb-true 1 (length w) (and_parts (nat_le 1 (length w)) (nat_le (length w) 20) parts.0).0 in
      let small : spelled w < 2 ^ 64 = omega (arith, same, less, few) in
      (less, shortest-told w (unless-ok (is_shortest w) Form s.0 s.1) parts.1 some small ∙ ap decimal same)

behind-told : (c : ℕ) (w v : Word) → behind c w ≡ Ok v → w ≡ c ∷ v
behind-told c [] v h = cc
behind-told c (d ∷ w) v h = go (d == c) refl h where
  go : (b : Bool) → (d == c) ≡ b → (if b then Ok w else Err Form) ≡ Ok v → d ∷ w ≡ c ∷ v
  go true e k = let same : w ≡ v = cc in ap (λ x. x ∷ w) (eqb-true d c e) ∙ ap (λ x. c ∷ x) same
  go false e k = cc

pub behind-back : (c : ℕ) (w : Word) → behind c (c ∷ w) ≡ Ok w
behind-back c w = ap (λ b. if b then Ok w else Err Form) (eq-eqb c c refl)

pub lettered-part : (c n : ℕ) → is_mark c ≡ true → n < 2 ^ 64 → IsPart (c ∷ decimal n)
lettered-part c n e h = record { some = omega arith; marks = and_from (is_mark c) (list_all is_mark (decimal n)) e (part_of (decimal n) (decimal-word n h)).marks }

-- a letter and a number
pub letters : (c bound : ℕ) → is_mark c ≡ true → bound ≤ 2 ^ 64 → IsSpelling (λ n. n < bound) (λ n. c ∷ decimal n) (lettered c bound)
letters c bound ink few = record { back = back; told = told; ink = λ n h. lettered-part c n ink (omega (arith, h, few)) } where
  back : (n : ℕ) → n < bound → lettered c bound (c ∷ decimal n) ≡ Ok n
  back n h = ap (λ r. r >>= below bound) (behind-back c (decimal n)) ∙ (numbers bound few).back n h

  told : (w : Word) (n : ℕ) → lettered c bound w ≡ Ok n → (n < bound) × (w ≡ c ∷ decimal n)
  told w n h =
      let b = bind-ok (behind c w) (below bound) n h in
      let t = (numbers bound few).told b.0 n b.2 in
      (t.0, behind-told c w b.0 b.1 ∙ ap (λ x. c ∷ x) t.1)

pub times : IsSpelling IsTime units_word time_in_units
times = letters 117 (2 ^ 63) refl (omega arith)

pub armings : IsSpelling IsLong arming_word arming
armings = letters 35 (2 ^ 64) refl (omega arith)

pub arguments : IsSpelling IsLong argument_word given
arguments = letters 97 (2 ^ 64) refl (omega arith)

pub longs : IsSpelling IsLong decimal count64
longs = numbers (2 ^ 64) (omega arith)

pub counts : IsSpelling (λ n. n < 2 ^ 32) decimal count32
counts = numbers (2 ^ 32) (omega arith)

-- ---- truth values and codes

pub truths : IsSpelling (λ b. Unit {0}) truth_word truth
truths = record { back = back; told = told; ink = ink } where
  back : (b : Bool) → Unit {0} → truth (truth_word b) ≡ Ok b
  back true h = refl
  back false h = refl

  told : (w : Word) (b : Bool) → truth w ≡ Ok b → Unit {0} × (w ≡ truth_word b)
  told w b h =
      cond-ok (Unit {0} × (w ≡ truth_word b)) (is_word w (codes "1")) (Ok true) (if is_word w (codes "0") then Ok false else Err Form) b
      (λ e k. let same : true ≡ b = cc in (tt, same_word w (codes "1") e ∙ ap truth_word same))
      (λ k. cond-ok (Unit {0} × (w ≡ truth_word b)) (is_word w (codes "0")) (Ok false) (Err Form) b (λ e l. let same : false ≡ b = cc in (tt, same_word w (codes "0") e ∙ ap truth_word same)) (λ l. cc) k)
      h

  ink : (b : Bool) → Unit {0} → IsPart (truth_word b)
  ink true h = lit (codes "1") refl
  ink false h = lit (codes "0") refl

pub code-plain : (w : Word) → AllDigits 10 w → code w ≡ positive w
code-plain [] all = refl
code-plain (c ∷ w) all = ap (λ b. if b then (below (2 ^ 31 + 1) w >>= negative) else positive (c ∷ w)) (differs c all.0) where
  differs : (c : ℕ) → digit_value c < 10 → (c == 45) ≡ false
  differs c d = grind (arith, nat_tests)

code-digits : (w : Word) (n : ℕ) → AllDigits 10 w → below (2 ^ 31) w ≡ Ok n → code w ≡ Ok (pos n)
code-digits w n all e = code-plain w all ∙ ap (λ r. r >>= λ k. Ok (pos k)) e

negative-told : (m : ℕ) (z : ℤ) (w : Word) → negative m ≡ Ok z → m < 2 ^ 31 + 1 → w ≡ decimal m → IsCode z × (45 ∷ w ≡ signed_decimal z)
negative-told zero z w h small e = cc
negative-told (suc k) z w h small e =
    let b = bind-ok (unless (nat_lt 0 (suc k)) Form) (λ _. Ok (neg_ℤ (pos (suc k)))) z h in
    let same : negsuc k ≡ z = cc in
    let less : k < 2 ^ 31 = omega (arith, small) in
    (subst IsCode same less, ap (λ x. 45 ∷ x) e ∙ ap signed_decimal same)

pub codes-exact : IsSpelling IsCode signed_decimal code
codes-exact = record { back = back; told = told; ink = ink } where
  back : (z : ℤ) → IsCode z → code (signed_decimal z) ≡ Ok z
  back (pos n) h = code-digits (decimal n) n (decimal_is_IsNumeral n (omega (arith, h))).0.1 ((numbers (2 ^ 31) (omega arith)).back n h)
  back (negsuc n) h =
      ap (λ r. r >>= negative) ((numbers (2 ^ 31 + 1) (omega arith)).back (suc n) (omega (arith, h)))
      ∙ ap (λ b. unless b Form >>= λ _. Ok (negsuc n)) (lt-ltb 0 (suc n) (omega arith))

  told : (w : Word) (z : ℤ) → code w ≡ Ok z → IsCode z × (w ≡ signed_decimal z)
  told [] z h = cc
  told (c ∷ w) z h =
      cond-ok (IsCode z × (c ∷ w ≡ signed_decimal z)) (c == 45) (below (2 ^ 31 + 1) w >>= negative) (below (2 ^ 31) (c ∷ w) >>= λ n. Ok (pos n)) z
      (λ e k.
      let b = bind-ok (below (2 ^ 31 + 1) w) negative z k in
      let t = (numbers (2 ^ 31 + 1) (omega arith)).told w b.0 b.1 in
      let n = negative-told b.0 z w b.2 t.0 t.1 in
      (n.0, ap (λ x. x ∷ w) (eqb-true c 45 e) ∙ n.1))
      (λ k.
      let b = bind-ok (below (2 ^ 31) (c ∷ w)) (λ n. Ok (pos n)) z k in
      let t = (numbers (2 ^ 31) (omega arith)).told (c ∷ w) b.0 b.1 in
      let same : pos b.0 ≡ z = cc in
      (subst IsCode same t.0, t.1 ∙ ap signed_decimal same))
      h

  ink : (z : ℤ) → IsCode z → IsPart (signed_decimal z)
  ink (pos n) h = part_of (signed_decimal (pos n)) (signed-word (pos n) h)
  ink (negsuc n) h = part_of (signed_decimal (negsuc n)) (signed-word (negsuc n) h)

-- ---- a value or `-`

-- `G` says of an option what `F` says of its value
pub or_dashes : {X : Type 0} (F : X → Type 0) (G : Option X → Type 0) (word : X → Word) (value : Word → Result X Cause) → G None → ((x : X) → F x → G (Some x)) → ((x : X) → G (Some x) → F x)
    → IsSpelling F word value → ((x : X) → is_word (word x) (codes "-") ≡ false) → IsSpelling G (word_or_dash word) (or_dash value)
or_dashes {X} F G word value none some of_some s other = record { back = back; told = told; ink = ink } where
  back : (o : Option X) → G o → or_dash value (word_or_dash word o) ≡ Ok o
  back None h = refl
  back (Some x) h = ap (λ b. if b then Ok None else (value (word x) >>= λ v. Ok (Some v))) (other x) ∙ ap (λ r. r >>= λ v. Ok (Some v)) (s.back x (of_some x h))

  told : (w : Word) (o : Option X) → or_dash value w ≡ Ok o → G o × (w ≡ word_or_dash word o)
  told w o h =
      cond-ok (G o × (w ≡ word_or_dash word o)) (is_word w (codes "-")) (Ok None) (value w >>= λ v. Ok (Some v)) o
      (λ e k. let same : None ≡ o = cc in subst (λ (p : Option X). G p × (w ≡ word_or_dash word p)) same (none, same_word w (codes "-") e))
      (λ k.
      let b = bind-ok (value w) (λ v. Ok (Some v)) o k in
      let t = s.told w b.0 b.1 in
      let same : Some b.0 ≡ o = cc in
      subst (λ (p : Option X). G p × (w ≡ word_or_dash word p)) same (some b.0 t.0, t.1))
      h

  ink : (o : Option X) → G o → IsPart (word_or_dash word o)
  ink None h = lit (codes "-") refl
  ink (Some x) h = s.ink x (of_some x h)

-- ---- own notes

abbrev pub kind_word : OwnKind → Word
kind_word NotHeld = codes "notheld"
kind_word HoldsLock = codes "holdslock"
kind_word Holding = codes "holding"
kind_word NotHolding = codes "notholding"

abbrev Same : Word → OwnKind → Type 0
Same w k = Unit {0} × (w ≡ kind_word k)

pub kinds : IsSpelling (λ k. Unit {0}) kind_word own_kind
kinds = record { back = back; told = told; ink = ink } where
  back : (k : OwnKind) → Unit {0} → own_kind (kind_word k) ≡ Ok k
  back NotHeld h = refl
  back HoldsLock h = refl
  back Holding h = refl
  back NotHolding h = refl

  told : (w : Word) (k : OwnKind) → own_kind w ≡ Ok k → Unit {0} × (w ≡ kind_word k)
  told w k h =
      cond-ok (Same w k) (is_word w (codes "notheld")) (Ok NotHeld) (if is_word w (codes "holdslock") then Ok HoldsLock else (if is_word w (codes "holding") then Ok Holding else (if is_word w (codes "notholding") then Ok NotHolding else Err Form))) k (λ e l. let same : NotHeld ≡ k = cc in (tt, same_word w (codes "notheld") e ∙ ap kind_word same))
      (λ h1. cond-ok (Same w k) (is_word w (codes "holdslock")) (Ok HoldsLock) (if is_word w (codes "holding") then Ok Holding else (if is_word w (codes "notholding") then Ok NotHolding else Err Form)) k (λ e l. let same : HoldsLock ≡ k = cc in (tt, same_word w (codes "holdslock") e ∙ ap kind_word same))
      (λ h2. cond-ok (Same w k) (is_word w (codes "holding")) (Ok Holding) (if is_word w (codes "notholding") then Ok NotHolding else Err Form) k (λ e l. let same : Holding ≡ k = cc in (tt, same_word w (codes "holding") e ∙ ap kind_word same))
      (λ h3. cond-ok (Same w k) (is_word w (codes "notholding")) (Ok NotHolding) (Err Form) k (λ e l. let same : NotHolding ≡ k = cc in (tt, same_word w (codes "notholding") e ∙ ap kind_word same)) (λ l. cc)
      h3) h2) h1) h

  ink : (k : OwnKind) → Unit {0} → IsPart (kind_word k)
  ink NotHeld h = lit (codes "notheld") refl
  ink HoldsLock h = lit (codes "holdslock") refl
  ink Holding h = lit (codes "holding") refl
  ink NotHolding h = lit (codes "notholding") refl
