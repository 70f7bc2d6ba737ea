-- What stands at the front of a text is its first part, or the front of it.
use Rattle.std.proofs.Common.{◌≡◌, ℕ, ◌+◌, ◌^◌, ◌<◌, ◌≤◌, Bool, true, false, not, ◌&&◌, List, [], ◌∷◌, ◌++◌, length, take, drop, get_or, refl, ap, sym, subst, ◌∙◌, arith, decimal, append-nil, ℤ, pos}
use Rattle.std.specs.Prelude.{Option, Some, None, MatchBool, Result, Ok, Err, codes, nat_lt, ◌==◌, if◌then◌else◌}
use Rattle.std.proofs.lemmas.Fmt.{decimal_is_IsNumeral}
use Rattle.std.proofs.lemmas.List.{drop_more, length-take-le, take-append-drop}
use Rattle.std.specs.List.{list_all}
use Rattle.std.specs.Char.{is_ascii_digit}
use Rattle.std.proofs.lemmas.Bool.{and_parts, and_from, not-true, eqb-true, eq-eqb, lt-ltb, le-ltb}
use Rattle.std.proofs.lemmas.Bool.Decides.{nat_tests}
use Rattle.std.proofs.lemmas.Slice.Eq.{bytes_eq-Decides}
use Rattle.co_sbt.specs.Seconds.{number as spelled}
use Rattle.co_text.specs.Fallible.{◌>>=◌, unless, Gives}
use Rattle.co_text.specs.Values.{Word, is_word, number, is_shortest}
use Rattle.co_text.specs.Taking.{Read, next, is_next, after_next, option}
use Rattle.co_text.specs.declared.cause.Cause.{Cause}
use Rattle.co_text.specs.declared.cause.Cause.TheVariants.{Form}
use Rattle.co_text.proofs.ValuesBack.{number-back, decimal-word}
use Rattle.co_notes.proofs.PartSplits.{is_mark, part_of, mark-space, parts-some}
use Rattle.co_notes.proofs.Exact.{same_word, same_pair}
use Rattle.co_notes.proofs.ExactValues.{shortest, shortest-told, letters, behind-back, code-plain, codes-exact}
use Rattle.co_notes.proofs.ExactActors.{maker-parts, lettered-plain}
use Rattle.co_notes.specs.declared.reading.names.Names.{Names}
use Rattle.co_notes.specs.declared.reading.plain.ActorAct.{ActorAct}
use Rattle.co_notes.specs.Plain.{behind_end, behind_word, is_actor_letter, by_word}
use Rattle.co_notes.specs.NoteForms.{literal}
use Rattle.co_notes.specs.Parts.{is_space, parts_behind, parts, parts_left}
use Rattle.co_notes.specs.NoteValues.{below, lettered, or_dash, truth, count64, count32, negative, code, actor_in, is_slash, maker}

-- ---- no space

abbrev pub is_tight : ℕ → Bool
is_tight c = not (is_space c)

tight-marks : (w : Word) → list_all is_mark w ≡ true → list_all is_tight w ≡ true
tight-marks [] e = refl
tight-marks (c ∷ w) e =
    let both = and_parts (is_mark c) (list_all is_mark w) e in
    and_from (is_tight c) (list_all is_tight w) (ap not (mark-space c both.0)) (tight-marks w both.1)

tight-decimal : (n : ℕ) → n < 2 ^ 64 → list_all is_tight (decimal n) ≡ true
tight-decimal n h = tight-marks (decimal n) (part_of (decimal n) (decimal-word n h)).marks

-- bytes without a space, in front of the first part
tight-front : (w bs : List ℕ) (v : Word) (ws : List Word) → list_all is_tight w ≡ true → parts bs ≡ v ∷ ws → parts (w ++ bs) ≡ (w ++ v) ∷ ws
tight-front [] bs v ws tight e = e
tight-front (c ∷ cs) bs v ws tight e =
    let both = and_parts (is_tight c) (list_all is_tight cs) tight in
    ap (λ b. parts_behind b c (parts (cs ++ bs))) (not-true (is_space c) both.0) ∙ ap (λ ps. parts_behind false c ps) (tight-front cs bs v ws both.1 e)

-- ---- the first part, compared with a word

ends_first : (text : List ℕ) (ps : List Word) → behind_end text ≡ Some ps → parts text ≡ [] ∷ ps
ends_first [] ps e = let same : [] ≡ ps = cc in ap (λ qs. [] ∷ qs) same
ends_first (c ∷ text) ps e = go (is_space c) refl e where
  go : (b : Bool) → is_space c ≡ b → (if b then Some (parts text) else None) ≡ Some ps → parts (c ∷ text) ≡ [] ∷ ps
  go true f h = let same : parts text ≡ ps = cc in ap (λ b. parts_behind b c (parts text)) f ∙ ap (λ qs. [] ∷ qs) same
  go false f h = cc

pub ended_none : (text : List ℕ) → length text ≡ 0 → behind_end text ≡ Some (parts_left text)
ended_none [] none = refl
ended_none (c ∷ text) none = absurd (omega arith)

pub ended_here : (text : List ℕ) (b : Bool) → 0 < length text → b ≡ (get_or text 0 0 == 32) → MatchBool b (behind_end text ≡ Some (parts_left text)) (behind_end text ≡ None)
ended_here [] b some e = absurd (omega arith)
ended_here (c ∷ text) true some e = ap (λ k. if k then Some (parts text) else None) (sym e)
ended_here (c ∷ text) false some e = ap (λ k. if k then Some (parts text) else None) (sym e)

-- what is left behind a part
pub left_none : (rest : List ℕ) → length rest ≡ 0 → parts_left rest ≡ []
left_none [] none = refl
left_none (c ∷ text) none = absurd (omega arith)

pub left_text : (rest text : List ℕ) → 0 < length rest → text ≡ drop 1 rest → parts_left rest ≡ parts text
left_text [] text some e = absurd (omega arith)
left_text (c ∷ behind) text some e = ap parts (sym e)

-- either the text begins with this word as its first part, or another part is first
abbrev Told : Word → List Word → Option (List Word) → Type 0
Told w ws None = is_next w ws ≡ false
Told w ws (Some ps) = ws ≡ w ∷ ps

longer : (c : ℕ) (qs : List Word) → is_next [] (parts_behind false c qs) ≡ false
longer c [] = refl
longer c (q ∷ qs) = refl

told_end : (b : Bool) (c : ℕ) (qs : List Word) → Told [] (parts_behind b c qs) (if b then Some qs else None)
told_end true c qs = refl
told_end false c qs = longer c qs

-- a first part that begins otherwise
other_byte : (b : Bool) (c d : ℕ) (w : Word) (qs : List Word) → (d == c) ≡ false → is_next (c ∷ w) (parts_behind b d qs) ≡ false
other_byte true c d w qs e = refl
other_byte false c d w [] e = ap (λ b. b && is_word [] w) e
other_byte false c d w (q ∷ qs) e = ap (λ b. b && is_word q w) e

same_byte : (c d : ℕ) (w : Word) (qs : List Word) (o : Option (List Word)) → 0 < length qs → c ≡ d → Told w qs o → Told (c ∷ w) (parts_behind false d qs) o
same_byte c d w [] o some e t = absurd (omega arith)
same_byte c d w (q ∷ qs) None some e t = ap (λ b. b && is_word q w) (eq-eqb d c (sym e)) ∙ t
same_byte c d w (q ∷ qs) (Some ps) some e t = let f : q ≡ w = cc in let g : qs ≡ ps = cc in ap (λ x. (d ∷ x) ∷ qs) f ∙ (ap (λ x. (x ∷ w) ∷ qs) (sym e) ∙ ap (λ xs. (c ∷ w) ∷ xs) g)

told_byte : (a b : Bool) (c d : ℕ) (w : Word) (qs : List Word) (o : Option (List Word)) → (c == d) ≡ a → is_space c ≡ b → 0 < length qs → Told w qs o
    → Told (c ∷ w) (parts_behind (is_space d) d qs) (if a && not b then o else None)
told_byte false b c d w qs o ea eb some t = other_byte (is_space d) c d w qs (differ c d ea) where
  differ : (c d : ℕ) → (c == d) ≡ false → (d == c) ≡ false
  differ c d e = grind (arith, nat_tests)
told_byte true true c d w qs o ea eb some t = ap (λ k. is_next (c ∷ w) (parts_behind k d qs)) (sym (ap is_space (eqb-true c d ea)) ∙ eb)
told_byte true false c d w qs o ea eb some t =
    subst (λ k. Told (c ∷ w) (parts_behind k d qs) o) (sym eb ∙ ap is_space (eqb-true c d ea)) (same_byte c d w qs o some (eqb-true c d ea) t)

told : (w : Word) (text : List ℕ) → Told w (parts text) (behind_word w text)
told [] [] = refl
told [] (c ∷ text) = told_end (is_space c) c (parts text)
told (c ∷ w) [] = refl
told (c ∷ w) (d ∷ text) = told_byte (c == d) (is_space c) c d w (parts text) (behind_word w text) refl refl (parts-some text) (told w text)

-- ---- a text shorter than the word

pub too_short : (w text : List ℕ) → length text < length w → behind_word w text ≡ None
too_short [] text less = absurd (omega arith)
too_short (c ∷ w) [] less = refl
too_short (c ∷ w) (d ∷ text) less = ap (λ (o : Option (List Word)). if (c == d) && not (is_space c) then o else None) (too_short w text (omega arith)) ∙ none ((c == d) && not (is_space c)) where
  none : (b : Bool) → ◌≡◌ {A = Option (List Word)} (if b then None else None) None
  none true = refl
  none false = refl

-- a byte that both begin with is passed
pub byte_passed : (w text : List ℕ) (i : ℕ) → i < length w → i < length text → (get_or w i 0 ≡ 32 → ⊥) → get_or text i 0 ≡ get_or w i 0 → behind_word (drop i w) (drop i text) ≡ behind_word (drop (i + 1) w) (drop (i + 1) text)
byte_passed w text i in_w in_text other same =
    let tight : (get_or w i 0 == 32) ≡ false = grind (arith, nat_tests) in
    ap (λ v. behind_word v (drop i text)) (drop_more w i 0 in_w)
    ∙ (ap (behind_word (get_or w i 0 ∷ drop (i + 1) w)) (drop_more text i 0 in_text)
    ∙ (ap (λ b. if b && not (get_or w i 0 == 32) then behind_word (drop (i + 1) w) (drop (i + 1) text) else None) (eq-eqb (get_or w i 0) (get_or text i 0) (sym same))
    ∙ ap (λ b. if not b then behind_word (drop (i + 1) w) (drop (i + 1) text) else None) tight))

-- what taking a word from the front gives
pub not_next : (w : Word) (text : List ℕ) → behind_word w text ≡ None → option w (parts text) ≡ Ok (false, parts text)
not_next w text e = ap (λ b. if b then Ok (true, after_next (parts text)) else Ok (false, parts text)) (subst (Told w (parts text)) e (told w text))

pub is_taken : (w : Word) (text : List ℕ) (ps : List Word) → behind_word w text ≡ Some ps → option w (parts text) ≡ Ok (true, ps)
is_taken w text ps e = ap (option w) (subst (Told w (parts text)) e (told w text)) ∙ ap (λ b. if b then Ok (true, ps) else Ok (false, w ∷ ps)) (same w) where
  same : (w : Word) → is_word w w ≡ true
  same w = (bytes_eq-Decides w w).1 refl

-- ---- words that are next, and choices among them

-- a value of a word that is taken first
pub next_if : {X : Type 0} (v : Word) (x : X) (f : Word → Result X Cause) (ws : List Word)
    → next (λ w. if is_word w v then Ok x else f w) ws ≡ ◌>>=◌ {A = Bool × List Word} (option v ws) (λ o. if o.0 then Ok (x, o.1) else next f o.1)
next_if v x f [] = refl
next_if {X} v x f (w ∷ ws) = go (is_word w v) where
  go : (b : Bool) → ◌>>=◌ {A = X} (if b then Ok x else f w) (λ y. Ok (y, ws)) ≡ ◌>>=◌ {A = Bool × List Word} (if b then Ok (true, ws) else Ok (false, w ∷ ws)) (λ o. if o.0 then Ok (x, o.1) else next f o.1)
  go true = refl
  go false = refl

pub taken_head : (v : Word) (ws us : List Word) → option v ws ≡ Ok (true, us) → ws ≡ v ∷ us
taken_head v [] us e = let f : false ≡ true = (same_pair false true [] us e).0 in cc
taken_head v (w ∷ ws) us e = go (is_word w v) refl e where
  go : (b : Bool) → is_word w v ≡ b → ◌≡◌ {A = Read Bool} (if b then Ok (true, ws) else Ok (false, w ∷ ws)) (Ok (true, us)) → w ∷ ws ≡ v ∷ us
  go true f h = ap (λ x. x ∷ ws) (same_word w v f) ∙ ap (λ xs. v ∷ xs) (same_pair true true ws us h).1
  go false f h = let g : false ≡ true = (same_pair false true (w ∷ ws) us h).0 in cc

pub not_taken : (v : Word) (ws us : List Word) → option v ws ≡ Ok (false, us) → us ≡ ws
not_taken v [] us e = sym (same_pair false false [] us e).1
not_taken v (w ∷ ws) us e = go (is_word w v) e where
  go : (b : Bool) → ◌≡◌ {A = Read Bool} (if b then Ok (true, ws) else Ok (false, w ∷ ws)) (Ok (false, us)) → us ≡ w ∷ ws
  go true h = let f : true ≡ false = (same_pair true false ws us h).0 in cc
  go false h = sym (same_pair false false (w ∷ ws) us h).1

-- ---- numbers

pub number_first : (n : ℕ) (text behind : List ℕ) (ps : List Word) → n < 2 ^ 64 → text ≡ decimal n ++ behind → behind_end behind ≡ Some ps → parts text ≡ decimal n ∷ ps
number_first n text behind ps h e ends =
    ap parts e ∙ (tight-front (decimal n) behind [] ps (tight-decimal n h) (ends_first behind ps ends) ∙ ap (λ v. v ∷ ps) (append-nil (decimal n)))

pub letter_first : (c : ℕ) (text digits : List ℕ) (w : Word) (ps : List Word) → is_space c ≡ false → text ≡ c ∷ digits → parts digits ≡ w ∷ ps → parts text ≡ (c ∷ w) ∷ ps
letter_first c text digits w ps other e f = ap parts e ∙ (ap (λ b. parts_behind b c (parts digits)) other ∙ ap (λ qs. parts_behind false c qs) f)

-- a byte that was read at the front
pub front_read : (text rest : List ℕ) (c : ℕ) → 0 < length text → get_or text 0 0 ≡ c → rest ≡ drop 1 text → text ≡ c ∷ rest
front_read text rest c some first back = drop_more text 0 0 some ∙ (ap (λ d. d ∷ drop 1 text) first ∙ ap (λ r. c ∷ r) (sym back))

pub number_front : (n : ℕ) (text behind : List ℕ) (w : Word) (ps : List Word) → n < 2 ^ 64 → text ≡ decimal n ++ behind → parts behind ≡ w ∷ ps → parts text ≡ (decimal n ++ w) ∷ ps
number_front n text behind w ps h e f = ap parts e ∙ tight-front (decimal n) behind w ps (tight-decimal n h) f

-- digits without a zero in front
digits_front : (w text rest : List ℕ) (n : ℕ) → n ≡ spelled w → n < 2 ^ 64 → list_all is_ascii_digit w ≡ true → is_shortest w ≡ true → 0 < length w → text ≡ w ++ rest → text ≡ decimal n ++ rest
digits_front w text rest n is small all short some e =
    let less : spelled w < 2 ^ 64 = omega (arith, is, small) in
    e ∙ ap (λ v. v ++ rest) (shortest-told w short all some less ∙ ap decimal (sym is))

pub digits_split : (text front rest : List ℕ) (n count : ℕ) → front ≡ take count text → rest ≡ drop count text → n ≡ spelled (take count text) → n < 2 ^ 64 → list_all is_ascii_digit (take count text) ≡ true
    → is_shortest front ≡ true → (count ≡ 0 → ⊥) → count ≤ length text → text ≡ decimal n ++ rest
digits_split text front rest n count ef er is small all short some fits =
    let long : 0 < length (take count text) = omega (arith, length-take-le count text fits, some) in
    let cut : text ≡ take count text ++ rest = sym (ap (λ r. take count text ++ r) er ∙ take-append-drop count text) in
    digits_front (take count text) text rest n is small all (ap is_shortest (sym ef) ∙ short) long cut

-- a number is below a bound or not
pub below_decimal : (bound n : ℕ) → n < 2 ^ 64 → below bound (decimal n) ≡ (unless (nat_lt n bound) Form >>= λ _. Ok n)
below_decimal bound n small =
    ap (λ b. unless b Form >>= λ _. number (decimal n) >>= λ m. unless (nat_lt m bound) Form >>= λ _. Ok m) (shortest n small)
    ∙ ap (λ r. r >>= λ m. unless (nat_lt m bound) Form >>= λ _. Ok m) (number-back n small)

-- ---- who made a note

letter-space : (c : ℕ) → is_actor_letter c ≡ true → is_space c ≡ false
letter-space c e = grind (arith, nat_tests)

letter-slash : (c : ℕ) → is_actor_letter c ≡ true → not (is_slash c) ≡ true
letter-slash c e = grind (arith, nat_tests)

pub maker_first : (by : ActorAct) (text behind : List ℕ) (ps : List Word) → is_actor_letter by.letter ≡ true → by.number < 2 ^ 64 → 0 < length text → get_or text 0 0 ≡ by.letter
    → drop 1 text ≡ decimal by.number ++ behind → parts behind ≡ (47 ∷ decimal by.act) ∷ ps → parts text ≡ by_word by ∷ ps
maker_first by text behind ps letter small some first f g =
    let whole : text ≡ by.letter ∷ drop 1 text = drop_more text 0 0 some ∙ ap (λ c. c ∷ drop 1 text) first in
    letter_first by.letter text (drop 1 text) (decimal by.number ++ 47 ∷ decimal by.act) ps (letter-space by.letter letter) whole
    (number_front by.number (drop 1 text) behind (47 ∷ decimal by.act) ps small f g)

maker-by : (n : Names) (c number act : ℕ) → is_actor_letter c ≡ true → number < 2 ^ 64 → act < 2 ^ 64
    → maker n (c ∷ (decimal number ++ 47 ∷ decimal act)) ≡ (actor_in n (c ∷ decimal number) >>= λ a. Ok (record { actor = a; act = act }))
maker-by n c number act letter small few =
    maker-parts n (c ∷ decimal number) (decimal act) (lettered-plain c number (letter-slash c letter) small)
    ∙ ap (λ r. actor_in n (c ∷ decimal number) >>= λ a. r >>= λ m. Ok (record { actor = a; act = m })) ((letters 47 (2 ^ 64) refl (omega arith)).back act few)

pub maker_ok : (n : Names) (c number act a : ℕ) → is_actor_letter c ≡ true → number < 2 ^ 64 → act < 2 ^ 64 → actor_in n (c ∷ decimal number) ≡ Ok a
    → maker n (c ∷ (decimal number ++ 47 ∷ decimal act)) ≡ Ok (record { actor = a; act = act })
maker_ok n c number act a letter small few e = maker-by n c number act letter small few ∙ ap (λ r. r >>= λ a. Ok (record { actor = a; act = act })) e

pub maker_failed : (n : Names) (c number act : ℕ) (k : Cause) → is_actor_letter c ≡ true → number < 2 ^ 64 → act < 2 ^ 64 → actor_in n (c ∷ decimal number) ≡ Err k
    → maker n (c ∷ (decimal number ++ 47 ∷ decimal act)) ≡ Err k
maker_failed n c number act k letter small few e = maker-by n c number act letter small few ∙ ap (λ r. r >>= λ a. Ok (record { actor = a; act = act })) e

-- ---- values that are next

pub carried : {X Y : Type 0} (value : Word → Result Y Cause) (view : X → Y) (w : Word) (ws us : List Word) (r : Result X Cause) → ws ≡ w ∷ us → Gives view r (value w)
    → Gives (λ x. (view x, us)) r (next value ws)
carried value view w ws us (Ok x) e h = ap (next value) e ∙ ap (λ z. z >>= λ y. Ok (y, us)) h
carried value view w ws us (Err c) e h = ap (next value) e ∙ ap (λ z. z >>= λ y. Ok (y, us)) h

-- the same of a word that was taken
pub word_carried : {X Y : Type 0} (value : Word → Result Y Cause) (view : X → Y) (w : Word) (ws us : List Word) (r : Result X Cause) → next Ok ws ≡ Ok (w, us) → Gives view r (value w)
    → Gives (λ x. (view x, us)) r (next value ws)
word_carried value view w [] us r e h = cc
word_carried value view w (v ∷ ws) us r e h =
    let same = same_pair v w ws us e in
    carried value view w (v ∷ ws) us r (ap (λ x. x ∷ ws) same.0 ∙ ap (λ xs. w ∷ xs) same.1) h

-- and where nothing was taken before
pub word_left : {X Y : Type 0} (value : Word → Result Y Cause) (view : X → Y) (w : Word) (ws vs us : List Word) (r : Result X Cause) → vs ≡ ws → next Ok vs ≡ Ok (w, us) → Gives view r (value w)
    → Gives (λ x. (view x, us)) r (next value ws)
word_left value view w ws vs us r e f h = word_carried value view w ws us r (ap (λ (xs : List Word). next {X = Word} Ok xs) (sym e) ∙ f) h

pub below_bound : (bound n : ℕ) → n < 2 ^ 64 → n < bound → below bound (decimal n) ≡ Ok n
below_bound bound n small less = below_decimal bound n small ∙ ap (λ b. unless b Form >>= λ _. Ok n) (lt-ltb n bound less)

pub not_below : (bound n : ℕ) → n < 2 ^ 64 → bound ≤ n → below bound (decimal n) ≡ Err Form
not_below bound n small more = below_decimal bound n small ∙ ap (λ b. unless b Form >>= λ _. Ok n) (le-ltb n bound more)

pub count_carried : (n : ℕ) (ws us : List Word) (r : Result ℕ Cause) → ws ≡ decimal n ∷ us → Gives (λ x. x) r (below (2 ^ 64) (decimal n)) → Gives (λ x. (x, us)) r (next count64 ws)
count_carried n ws us r e h = carried count64 (λ x. x) (decimal n) ws us r e h

lettered-below : (c bound n : ℕ) → lettered c bound (c ∷ decimal n) ≡ below bound (decimal n)
lettered-below c bound n = ap (λ r. r >>= below bound) (behind-back c (decimal n))

pub lettered_carried : (c bound n : ℕ) (ws us : List Word) (r : Result ℕ Cause) → ws ≡ (c ∷ decimal n) ∷ us → Gives (λ x. x) r (below bound (decimal n)) → Gives (λ x. (x, us)) r (next (lettered c bound) ws)
lettered_carried c bound n ws us r e h = carried (lettered c bound) (λ x. x) (c ∷ decimal n) ws us r e (subst (Gives (λ x. x) r) (sym (lettered-below c bound n)) h)

pub half_carried : (n : ℕ) (ws us : List Word) (r : Result ℕ Cause) → ws ≡ decimal n ∷ us → Gives (λ x. x) r (below (2 ^ 32) (decimal n)) → Gives (λ x. (x, us)) r (next count32 ws)
half_carried n ws us r e h = carried count32 (λ x. x) (decimal n) ws us r e h

-- ---- codes

pub code_below : (n : ℕ) → n < 2 ^ 31 → code (decimal n) ≡ Ok (pos n)
code_below n h = codes-exact.back (pos n) h

pub code_above : (n : ℕ) → n < 2 ^ 64 → 2 ^ 31 ≤ n → code (decimal n) ≡ Err Form
code_above n small more = code-plain (decimal n) (decimal_is_IsNumeral n small).0.1 ∙ ap (λ r. r >>= λ k. Ok (pos k)) (not_below (2 ^ 31) n small more)

pub code_negative : (n : ℕ) (r : Result ℤ Cause) → n < 2 ^ 64 → n < 2 ^ 31 + 1 → Gives (λ z. z) r (negative n) → Gives (λ z. z) r (code (45 ∷ decimal n))
code_negative n r small less h = subst (Gives (λ z. z) r) (sym (ap (λ x. x >>= negative) (below_bound (2 ^ 31 + 1) n small less))) h

pub code_too_low : (n : ℕ) → n < 2 ^ 64 → 2 ^ 31 + 1 ≤ n → code (45 ∷ decimal n) ≡ Err Form
code_too_low n small more = ap (λ x. x >>= negative) (not_below (2 ^ 31 + 1) n small more)

pub code_carried : (w : Word) (ws us : List Word) (r : Result ℤ Cause) → ws ≡ w ∷ us → Gives (λ z. z) r (code w) → Gives (λ x. (x, us)) r (next code ws)
code_carried w ws us r e h = carried code (λ z. z) w ws us r e h

pub code_left : {X : Type 0} (view : X → ℤ × List Word) (r : Result X Cause) (ws us : List Word) → us ≡ ws → Gives view r (next code us) → Gives view r (next code ws)
code_left view r ws us e h = subst (λ (vs : List Word). Gives view r (next code vs)) e h

-- ---- words that are next

pub dash_taken : {X : Type 0} (value : Word → Result X Cause) (ws us : List Word) → option (codes "-") ws ≡ Ok (true, us) → next (or_dash value) ws ≡ Ok (None, us)
dash_taken value ws us e = ap (next (or_dash value)) (taken_head (codes "-") ws us e)

some-next : {X : Type 0} (value : Word → Result X Cause) (us : List Word) → next (λ w. value w >>= λ v. Ok (Some v)) us ≡ ◌>>=◌ {A = X × List Word} {B = Option X × List Word} (next value us) (λ x. Ok (Some x.0, x.1))
some-next value [] = refl
some-next {X} value (w ∷ ws) = go (value w) where
  go : (r : Result X Cause) → ◌>>=◌ {A = Option X} {B = Option X × List Word} (r >>= λ v. Ok (Some v)) (λ y. Ok (y, ws)) ≡ ◌>>=◌ {A = X × List Word} {B = Option X × List Word} (◌>>=◌ {A = X} {B = X × List Word} r (λ y. Ok (y, ws))) (λ x. Ok (Some x.0, x.1))
  go (Ok v) = refl
  go (Err c) = refl

dash-left : {X : Type 0} (value : Word → Result X Cause) (ws us : List Word) → option (codes "-") ws ≡ Ok (false, us) → next (or_dash value) ws ≡ ◌>>=◌ {A = X × List Word} {B = Option X × List Word} (next value us) (λ x. Ok (Some x.0, x.1))
dash-left value ws us e =
    next_if (codes "-") None (λ w. value w >>= λ v. Ok (Some v)) ws
    ∙ (ap (λ (r : Read Bool). r >>= λ o. if o.0 then Ok (None, o.1) else next (λ w. value w >>= λ v. Ok (Some v)) o.1) e
    ∙ some-next value us)

pub dash_some : {X : Type 0} (value : Word → Result X Cause) (ws us vs : List Word) (x : X) → option (codes "-") ws ≡ Ok (false, us) → next value us ≡ Ok (x, vs) → next (or_dash value) ws ≡ Ok (Some x, vs)
dash_some {X} value ws us vs x e f = dash-left value ws us e ∙ ap (λ r. ◌>>=◌ {A = X × List Word} {B = Option X × List Word} r (λ y. Ok (Some y.0, y.1))) f

pub dash_failed : {X : Type 0} (value : Word → Result X Cause) (v : Word) (ws us : List Word) (b : Bool) (c : Cause) → v ≡ codes "-" → option v ws ≡ Ok (b, us) → b ≡ false → next value us ≡ Err c
    → next (or_dash value) ws ≡ Err c
dash_failed {X} value v ws us b c is e f h =
    let left : option (codes "-") ws ≡ Ok (false, us) = subst (λ (k : Bool). option (codes "-") ws ≡ Ok (k, us)) f (ap (λ w. option w ws) (sym is) ∙ e) in
    dash-left value ws us left ∙ ap (λ r. ◌>>=◌ {A = X × List Word} {B = Option X × List Word} r (λ y. Ok (Some y.0, y.1))) h

pub one_taken : (ws us : List Word) → option (codes "1") ws ≡ Ok (true, us) → next truth ws ≡ Ok (true, us)
one_taken ws us e = ap (next truth) (taken_head (codes "1") ws us e)

pub zero_taken : (ws us vs : List Word) → option (codes "1") ws ≡ Ok (false, us) → option (codes "0") us ≡ Ok (true, vs) → next truth ws ≡ Ok (false, vs)
zero_taken ws us vs e f = ap (next truth) (sym (not_taken (codes "1") ws us e) ∙ taken_head (codes "0") us vs f)

no-word : {X : Type 0} (us : List Word) → ◌≡◌ {A = Read X} (next (λ w. Err Form) us) (Err Form)
no-word [] = refl
no-word (w ∷ us) = refl

pub neither_taken : (ws us vs : List Word) → option (codes "1") ws ≡ Ok (false, us) → option (codes "0") us ≡ Ok (false, vs) → next truth ws ≡ Err Form
neither_taken ws us vs e f =
    next_if (codes "1") true (λ w. if is_word w (codes "0") then Ok false else Err Form) ws
    ∙ (ap (λ (r : Read Bool). r >>= λ o. if o.0 then Ok (true, o.1) else next (λ w. if is_word w (codes "0") then Ok false else Err Form) o.1) e
    ∙ (next_if (codes "0") false (λ w. Err Form) us
    ∙ (ap (λ (r : Read Bool). r >>= λ o. if o.0 then Ok (false, o.1) else next (λ w. Err Form) o.1) f
    ∙ no-word vs)))

pub literal_taken : (v : Word) (ws us : List Word) → option v ws ≡ Ok (true, us) → literal v ws ≡ Ok (true, us)
literal_taken v ws us e = ap (literal v) (taken_head v ws us e) ∙ ap (λ b. unless b Form >>= λ x. Ok (x, us)) ((bytes_eq-Decides v v).1 refl)

pub literal_left : (v : Word) (ws us : List Word) → option v ws ≡ Ok (false, us) → literal v ws ≡ Err Form
literal_left v [] us e = refl
literal_left v (w ∷ ws) us e = go (is_word w v) e where
  go : (b : Bool) → ◌≡◌ {A = Read Bool} (if b then Ok (true, ws) else Ok (false, w ∷ ws)) (Ok (false, us)) → ◌≡◌ {A = Read Bool} (◌>>=◌ {B = Bool × List Word} (unless b Form) (λ x. Ok (x, ws))) (Err Form)
  go true h = let f : true ≡ false = (same_pair true false ws us h).0 in cc
  go false h = refl
