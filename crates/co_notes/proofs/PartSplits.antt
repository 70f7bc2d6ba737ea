-- The parts of a line, one after the other; words that are joined by spaces have these words as their parts, and each line
-- is its parts, joined.
use Rattle.std.proofs.Common.{◌≡◌, ℕ, ◌+◌, ◌<◌, ◌≤◌, Bool, true, false, cond, not, ◌&&◌, List, [], ◌∷◌, ◌++◌, length, take, drop, get_or, refl, ap, sym, ◌∙◌, arith, append-nil, append_assoc, map}
use Rattle.std.specs.Prelude.{Err, nat_le, ◌==◌}
use Rattle.co_text.specs.declared.cause.Cause.TheVariants.{Form}
use Rattle.std.specs.List.{list_all, position_or_len, AllByRecursion}
use Rattle.std.proofs.lemmas.Bool.{and_parts, and_from, eqb-true, eq-eqb, not-true}
use Rattle.std.proofs.lemmas.Bool.Decides.{nat_tests}
use Rattle.std.proofs.lemmas.List.{take_all, drop_all, drop_more, drop-drop, length-drop}
use Rattle.co_text.specs.Lines.{Line, lines_of, lines_behind, is_feed, spaced, line_text, text}
use Rattle.co_text.specs.Values.{Word}
use Rattle.co_text.specs.Taking.{ended}
use Rattle.co_text.proofs.Splits.{take-one, drop-one}
use Rattle.co_text.proofs.LinesBack.{IsWord, is_ink}
use Rattle.co_notes.specs.Parts.{is_space, parts_behind, parts, parts_left, joined}

-- ---- the first part

ended_step : (b : Bool) (c : ℕ) (cs : List ℕ) (p : ℕ) → is_space c ≡ b
    → (p < length cs → parts cs ≡ take p cs ∷ parts (drop (p + 1) cs))
    → cond (not b) (1 + p) 0 < length (c ∷ cs)
    → parts_behind b c (parts cs) ≡ take (cond (not b) (1 + p) 0) (c ∷ cs) ∷ parts (drop (cond (not b) (1 + p) 0 + 1) (c ∷ cs))
ended_step true c cs p e ih inside = refl
ended_step false c cs p e ih inside =
    let here : p < length cs = omega arith in
    let more : 1 + p + 1 ≡ 1 + (p + 1) = omega arith in
    ap (λ ps. parts_behind false c ps) (ih here)
    ∙ (ap (λ w. w ∷ parts (drop (p + 1) cs)) (sym (take-one p c cs))
    ∙ ap (λ r. take (1 + p) (c ∷ cs) ∷ parts r) (sym (ap (λ k. drop k (c ∷ cs)) more ∙ drop-one (p + 1) c cs)))

parts-ended : (bs : List ℕ) → position_or_len is_space bs < length bs → parts bs ≡ take (position_or_len is_space bs) bs ∷ parts (drop (position_or_len is_space bs + 1) bs)
parts-ended [] inside = absurd (omega arith)
parts-ended (c ∷ cs) inside = ended_step (is_space c) c cs (position_or_len is_space cs) refl (parts-ended cs) inside

last_step : (b : Bool) (c : ℕ) (cs : List ℕ) (p : ℕ) → is_space c ≡ b → (length cs ≤ p → parts cs ≡ cs ∷ []) → length (c ∷ cs) ≤ cond (not b) (1 + p) 0 → parts_behind b c (parts cs) ≡ (c ∷ cs) ∷ []
last_step true c cs p e ih outside = absurd (omega arith)
last_step false c cs p e ih outside = ap (λ ps. parts_behind false c ps) (ih (omega arith))

parts-last : (bs : List ℕ) → length bs ≤ position_or_len is_space bs → parts bs ≡ bs ∷ []
parts-last [] outside = refl
parts-last (c ∷ cs) outside = last_step (is_space c) c cs (position_or_len is_space cs) refl (parts-last cs) outside

-- cut at the first space
pub first_part : (bs first rest after : List ℕ) (n : ℕ) → n ≡ position_or_len is_space bs → first ≡ take n bs → rest ≡ drop n bs → after ≡ drop 1 rest → 0 < length rest → parts bs ≡ first ∷ parts after
first_part bs first rest after n en ef er ea some =
    let inside : position_or_len is_space bs < length bs = omega (arith, ap length er, length-drop {A = ℕ} n bs) in
    let place : drop (position_or_len is_space bs + 1) bs ≡ after = ap (λ k. drop (k + 1) bs) (sym en) ∙ (sym (drop-drop 1 n bs) ∙ (ap (drop 1) (sym er) ∙ sym ea)) in
    let front : take (position_or_len is_space bs) bs ≡ first = ap (λ k. take k bs) (sym en) ∙ sym ef in
    parts-ended bs inside ∙ (ap (λ w. w ∷ parts (drop (position_or_len is_space bs + 1) bs)) front ∙ ap (λ r. first ∷ parts r) place)

-- or whole
pub only_part : (bs first rest : List ℕ) (n : ℕ) → n ≡ position_or_len is_space bs → n ≤ length bs → first ≡ take n bs → rest ≡ drop n bs → length rest ≡ 0 → parts bs ≡ first ∷ []
only_part bs first rest n en fits ef er none =
    let outside : length bs ≤ position_or_len is_space bs = omega (arith, ap length er, length-drop {A = ℕ} n bs) in
    let far : length bs ≤ n = omega (arith, outside) in
    parts-last bs outside ∙ ap (λ w. w ∷ []) (sym (ef ∙ take_all n bs far))

-- the first part, and what is left behind it
pub split_part : (bs first rest : List ℕ) (n : ℕ) → n ≡ position_or_len is_space bs → n ≤ length bs → first ≡ take n bs → rest ≡ drop n bs → parts bs ≡ first ∷ parts_left rest
split_part bs first [] n en fits ef er = only_part bs first [] n en fits ef er refl
split_part bs first (c ∷ after) n en fits ef er = first_part bs first (c ∷ after) after n en ef er refl (omega arith)

-- ---- the first of some bytes, looked for one by one

pub place_more : (end : ℕ) (text : List ℕ) (i : ℕ) → i < length text → (get_or text i 0 == end) ≡ false → i + position_or_len (λ c. c == end) (drop i text) ≡ i + 1 + position_or_len (λ c. c == end) (drop (i + 1) text)
place_more end text i within other =
    let there : position_or_len (λ c. c == end) (drop i text) ≡ 1 + position_or_len (λ c. c == end) (drop (i + 1) text) =
    ap (position_or_len (λ c. c == end)) (drop_more text i 0 within) ∙ ap (λ b. cond (not b) (1 + position_or_len (λ c. c == end) (drop (i + 1) text)) 0) other in
    omega (arith, there)

pub place_here : (end : ℕ) (text : List ℕ) (i : ℕ) → i < length text → get_or text i 0 ≡ end → position_or_len (λ c. c == end) (drop i text) ≡ 0
place_here end text i within same = ap (position_or_len (λ c. c == end)) (drop_more text i 0 within) ∙ ap (λ b. cond (not b) (1 + position_or_len (λ c. c == end) (drop (i + 1) text)) 0) (eq-eqb (get_or text i 0) end same)

pub place_none : (end : ℕ) (text : List ℕ) (i : ℕ) → length text ≤ i → position_or_len (λ c. c == end) (drop i text) ≡ 0
place_none end text i past = ap (position_or_len (λ c. c == end)) (drop_all i text past)

-- ---- the parts of joined words

-- a printable byte but the space
abbrev pub is_mark : ℕ → Bool
is_mark c = nat_le 33 c && nat_le c 126

pub record IsPart (w : Word) : Type 0 where
  pub some : 0 < length w
  pub marks : list_all is_mark w ≡ true

abbrev pub AreParts : List Word → Type 0
AreParts ws = AllByRecursion IsPart ws

pub mark-space : (c : ℕ) → is_mark c ≡ true → is_space c ≡ false
mark-space c e = grind (arith, nat_tests)

mark-feed : (c : ℕ) → is_mark c ≡ true → is_feed c ≡ false
mark-feed c e = grind (arith, nat_tests)

ink-mark : (c : ℕ) → is_ink c ≡ true → is_mark c ≡ true
ink-mark c e = grind (arith, nat_tests)

all-marks : (w : Word) → list_all is_ink w ≡ true → list_all is_mark w ≡ true
all-marks [] e = refl
all-marks (c ∷ cs) e =
    let both = and_parts (is_ink c) (list_all is_ink cs) e in
    and_from (is_mark c) (list_all is_mark cs) (ink-mark c both.0) (all-marks cs both.1)

-- a word of a script is one
pub part_of : (w : Word) → IsWord w → IsPart w
part_of w h = record { some = h.some; marks = all-marks w h.ink }

parts-word : (w bs : List ℕ) (v : Word) (ws : List Word) → list_all is_mark w ≡ true → parts bs ≡ v ∷ ws → parts (w ++ bs) ≡ (w ++ v) ∷ ws
parts-word [] bs v ws ink e = e
parts-word (c ∷ cs) bs v ws ink e =
    let both = and_parts (is_mark c) (list_all is_mark cs) ink in
    ap (λ b. parts_behind b c (parts (cs ++ bs))) (mark-space c both.0) ∙ ap (λ ps. parts_behind false c ps) (parts-word cs bs v ws both.1 e)

parts-spaced : (ws : List Word) → AreParts ws → parts (spaced ws) ≡ [] ∷ ws
parts-spaced [] all = refl
parts-spaced (w ∷ ws) all = ap (λ ps. [] ∷ ps) (parts-word w (spaced ws) [] ws all.0.marks (parts-spaced ws all.1) ∙ ap (λ v. v ∷ ws) (append-nil w))

-- at least one word
pub parts-joined : (w : Word) (ws : List Word) → AreParts (w ∷ ws) → parts (joined (w ∷ ws)) ≡ w ∷ ws
parts-joined w ws all = parts-word w (spaced ws) [] ws all.0.marks (parts-spaced ws all.1) ∙ ap (λ v. v ∷ ws) (append-nil w)

-- ---- a line is its parts, joined

behind : (b : Bool) (c : ℕ) (ps : List Word) → is_space c ≡ b → 0 < length ps → joined (parts_behind b c ps) ≡ c ∷ joined ps
behind b c [] e some = absurd (omega arith)
behind true c (p ∷ ps) e some = ap (λ d. d ∷ joined (p ∷ ps)) (sym (eqb-true c 32 e))
behind false c (p ∷ ps) e some = refl

some_behind : (b : Bool) (c : ℕ) (ps : List Word) → 0 < length (parts_behind b c ps)
some_behind true c ps = omega arith
some_behind false c [] = omega arith
some_behind false c (p ∷ ps) = omega arith

pub parts-some : (bs : List ℕ) → 0 < length (parts bs)
parts-some [] = omega arith
parts-some (c ∷ cs) = some_behind (is_space c) c (parts cs)

-- so a line has a first part
no_end : (ps : List Word) → 0 < length ps → ended ps ≡ Err Form
no_end [] some = absurd (omega arith)
no_end (p ∷ ps) some = refl

pub parts_not_ended : (bs : List ℕ) → ended (parts bs) ≡ Err Form
parts_not_ended bs = no_end (parts bs) (parts-some bs)

pub joined-parts : (bs : List ℕ) → joined (parts bs) ≡ bs
joined-parts [] = refl
joined-parts (c ∷ cs) = behind (is_space c) c (parts cs) refl (parts-some cs) ∙ ap (λ l. c ∷ l) (joined-parts cs)

-- ---- the lines of a text of such words

mark-line : (bs rest : List ℕ) → list_all (λ c. not (is_feed c)) bs ≡ true → lines_of (bs ++ 10 ∷ rest) ≡ record { bytes = bs; ended = true } ∷ lines_of rest
mark-line [] rest e = refl
mark-line (c ∷ cs) rest e =
    let both = and_parts (not (is_feed c)) (list_all (λ c. not (is_feed c)) cs) e in
    ap (λ b. lines_behind b c (lines_of (cs ++ 10 ∷ rest))) (not-true (is_feed c) both.0) ∙ ap (λ ls. lines_behind false c ls) (mark-line cs rest both.1)

no-feed : (w rest : List ℕ) → list_all is_mark w ≡ true → list_all (λ c. not (is_feed c)) rest ≡ true → list_all (λ c. not (is_feed c)) (w ++ rest) ≡ true
no-feed [] rest e f = f
no-feed (c ∷ cs) rest e f =
    let both = and_parts (is_mark c) (list_all is_mark cs) e in
    and_from (not (is_feed c)) (list_all (λ c. not (is_feed c)) (cs ++ rest)) (ap not (mark-feed c both.0)) (no-feed cs rest both.1 f)

spaced-feed : (ws : List Word) → AreParts ws → list_all (λ c. not (is_feed c)) (spaced ws) ≡ true
spaced-feed [] all = refl
spaced-feed (w ∷ ws) all = no-feed w (spaced ws) all.0.marks (spaced-feed ws all.1)

joined-feed : (ws : List Word) → AreParts ws → list_all (λ c. not (is_feed c)) (joined ws) ≡ true
joined-feed [] all = refl
joined-feed (w ∷ ws) all = no-feed w (spaced ws) all.0.marks (spaced-feed ws all.1)

line-joined : (ws : List Word) → line_text ws ≡ joined ws ++ 10 ∷ []
line-joined [] = refl
line-joined (w ∷ ws) = sym (append_assoc w (spaced ws) (10 ∷ []))

-- a line of words
abbrev pub line_of : List Word → Line
line_of ws = record { bytes = joined ws; ended = true }

pub line-first : (ws : List Word) (rest : List ℕ) → AreParts ws → lines_of (line_text ws ++ rest) ≡ line_of ws ∷ lines_of rest
line-first ws rest all =
    ap (λ t. lines_of (t ++ rest)) (line-joined ws)
    ∙ (ap lines_of (append_assoc (joined ws) (10 ∷ []) rest)
    ∙ mark-line (joined ws) rest (joined-feed ws all))

abbrev pub AreLines : List (List Word) → Type 0
AreLines lines = AllByRecursion AreParts lines

pub lines-all : (lines : List (List Word)) → AreLines lines → lines_of (text lines) ≡ map line_of lines
lines-all [] all = refl
lines-all (ws ∷ more) all = line-first ws (text more) all.0 ∙ ap (λ ls. line_of ws ∷ ls) (lines-all more all.1)
