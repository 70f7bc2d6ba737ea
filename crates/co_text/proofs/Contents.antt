-- The part of a line that is read, in one walk: up to the comment, or the first byte that may not stand there.
use Rattle.std.proofs.Common.{◌≡◌, ℕ, ◌+◌, ◌-◌, ◌<◌, ◌≤◌, Bool, true, false, cond, not, ◌&&◌, ◌||◌, List, [], ◌∷◌, length, take, drop, refl, ap, sym, ◌∙◌, arith}
use Rattle.std.specs.Prelude.{Result, Ok, Err, ◌==◌, slice_index_or}
use Rattle.std.specs.List.{list_all, position_or_len}
use Rattle.std.proofs.lemmas.Bool.Decides.{nat_tests}
use Rattle.co_text.specs.Fallible.{◌>>◌, unless}
use Rattle.std.proofs.lemmas.List.{take_all, length-drop, drop-drop}
use Rattle.co_text.specs.Lines.{Line, lines_of, content, is_feed, is_hash, is_plain}
use Rattle.co_text.specs.declared.cause.Cause.{Cause}
use Rattle.co_text.specs.declared.cause.Cause.TheVariants.{Byte}
use Rattle.co_text.proofs.Splits.{take-one, drop-one}
use Rattle.co_text.proofs.LinesBack.{and_both}
use Rattle.co_text.proofs.LineSplits.{lines-first}

-- the part that is read ends before this byte
abbrev pub is_stop : ℕ → Bool
is_stop c = is_hash c || not (is_plain c)

-- a walk stops at n, and the comment begins at m
record Walk (bs : List ℕ) (n m : ℕ) : Type 0 where
  plain : list_all is_plain (take n bs) ≡ true
  ends : length (drop n bs) ≡ 0 → m ≡ n
  comment : slice_index_or (drop n bs) 0 0 ≡ 35 → m ≡ n
  other : 1 ≤ length (drop n bs) → (slice_index_or (drop n bs) 0 0 ≡ 35 → ⊥) → list_all is_plain (take m bs) ≡ false

is-hash : (c : ℕ) → (c == 35) ≡ true → c ≡ 35
is-hash c e = grind (arith, nat_tests)

no-hash : (c : ℕ) → (c == 35) ≡ false → c ≡ 35 → ⊥
no-hash c e h = grind (arith, nat_tests)

and-false : (a b : Bool) → a ≡ false → (a && b) ≡ false
and-false true b e = cc
and-false false b e = refl

and-second : (a b : Bool) → b ≡ false → (a && b) ≡ false
and-second true b e = e
and-second false b e = refl

walk-step : (h p : Bool) (c : ℕ) (cs : List ℕ) (n m : ℕ) → (c == 35) ≡ h → is_plain c ≡ p → Walk cs n m
    → Walk (c ∷ cs) (cond (not (h || not p)) (1 + n) 0) (cond (not h) (1 + m) 0)
walk-step true p c cs n m eh ep w = record {
  plain = refl;
  ends = λ e. refl;
  comment = λ e. refl;
  other = λ some differs. absurd (differs (is-hash c eh));
}
walk-step false true c cs n m eh ep w = record {
  plain = ap (list_all is_plain) (take-one n c cs) ∙ and_both (is_plain c) _ ep w.plain;
  ends = λ e. ap (λ k. 1 + k) (w.ends (sym (ap length (drop-one n c cs)) ∙ e));
  comment = λ e. ap (λ k. 1 + k) (w.comment (sym (ap (λ bs. slice_index_or bs 0 0) (drop-one n c cs)) ∙ e));
  other = λ some differs. ap (list_all is_plain) (take-one m c cs) ∙ and-second (is_plain c) _ (w.other
      (omega (arith, some, ap length (drop-one n c cs)))
      (λ h. differs (ap (λ bs. slice_index_or bs 0 0) (drop-one n c cs) ∙ h)));
}
walk-step false false c cs n m eh ep w = record {
  plain = refl;
  ends = λ e. absurd (omega (arith, e));
  comment = λ e. absurd (no-hash c eh e);
  other = λ some differs. ap (list_all is_plain) (take-one m c cs) ∙ and-false (is_plain c) _ ep;
}

walk : (bs : List ℕ) → Walk bs (position_or_len is_stop bs) (position_or_len is_hash bs)
walk [] = record { plain = refl; ends = λ e. refl; comment = λ e. refl; other = λ some differs. absurd (omega (arith, some)) }
walk (c ∷ cs) = walk-step (c == 35) (is_plain c) c cs _ _ refl refl (walk cs)

abbrev read_as : Bool → List ℕ → Result (List ℕ) Cause
read_as plain part = unless plain Byte >> Ok part

-- the walk went to the comment or to the end
good : (bs part : List ℕ) (n : ℕ) → n ≡ position_or_len is_stop bs → part ≡ take n bs → position_or_len is_hash bs ≡ position_or_len is_stop bs
    → content (record { bytes = bs; ended = true }) ≡ Ok part
good bs part n en ep same =
    let here : part ≡ take (position_or_len is_stop bs) bs = ep ∙ ap (λ k. take k bs) en in
    let whole : take (position_or_len is_hash bs) bs ≡ part = ap (λ k. take k bs) same ∙ sym here in
    let plain : list_all is_plain part ≡ true = ap (list_all is_plain) here ∙ (walk bs).plain in
    ap (λ w. read_as (list_all is_plain w) w) whole ∙ ap (λ b. read_as b part) plain

pub content-ends : (bs part rest : List ℕ) (n : ℕ) → n ≡ position_or_len is_stop bs → part ≡ take n bs → rest ≡ drop n bs → length rest < 1
    → content (record { bytes = bs; ended = true }) ≡ Ok part
content-ends bs part rest n en ep er none =
    let empty : length (drop (position_or_len is_stop bs) bs) ≡ 0 = omega (arith, none, ap length (er ∙ ap (λ k. drop k bs) en)) in
    good bs part n en ep ((walk bs).ends empty)

pub content-comment : (bs part rest : List ℕ) (n : ℕ) → n ≡ position_or_len is_stop bs → part ≡ take n bs → rest ≡ drop n bs → slice_index_or rest 0 0 ≡ 35
    → content (record { bytes = bs; ended = true }) ≡ Ok part
content-comment bs part rest n en ep er hash = good bs part n en ep ((walk bs).comment (ap (λ r. slice_index_or r 0 0) (sym (er ∙ ap (λ k. drop k bs) en)) ∙ hash))

pub content-other : (bs rest : List ℕ) (n : ℕ) → n ≡ position_or_len is_stop bs → rest ≡ drop n bs → 1 ≤ length rest → (slice_index_or rest 0 0 ≡ 35 → ⊥)
    → content (record { bytes = bs; ended = true }) ≡ Err Byte
content-other bs rest n en er some differs =
    let place : rest ≡ drop (position_or_len is_stop bs) bs = er ∙ ap (λ k. drop k bs) en in
    let bad = (walk bs).other (omega (arith, some, ap length place)) (λ h. differs (ap (λ r. slice_index_or r 0 0) place ∙ h)) in
    ap (λ b. read_as b (take (position_or_len is_hash bs) bs)) bad

-- a walk by fours

clear-one : (c : ℕ) (cs : List ℕ) → is_stop c ≡ false → position_or_len is_stop (c ∷ cs) ≡ 1 + position_or_len is_stop cs
clear-one c cs e = ap (λ b. cond (not b) (1 + position_or_len is_stop cs) 0) e

or-first : (a b : Bool) → (a || b) ≡ false → a ≡ false
or-first true b e = e
or-first false b e = refl

or-second : (a b : Bool) → (a || b) ≡ false → b ≡ false
or-second true b e = absurd (cc)
or-second false b e = e

clear-four : (bs after : List ℕ) → 4 ≤ length bs → after ≡ drop 4 bs
    → is_stop (slice_index_or bs 0 0) ≡ false → is_stop (slice_index_or bs 1 0) ≡ false → is_stop (slice_index_or bs 2 0) ≡ false → is_stop (slice_index_or bs 3 0) ≡ false
    → position_or_len is_stop bs ≡ 4 + position_or_len is_stop after
clear-four [] after some e ha hb hc hd = absurd (omega (arith, some))
clear-four (a ∷ []) after some e ha hb hc hd = absurd (omega (arith, some))
clear-four (a ∷ b ∷ []) after some e ha hb hc hd = absurd (omega (arith, some))
clear-four (a ∷ b ∷ c ∷ []) after some e ha hb hc hd = absurd (omega (arith, some))
clear-four (a ∷ b ∷ c ∷ d ∷ cs) after some e ha hb hc hd =
    omega (arith, clear-one a (b ∷ c ∷ d ∷ cs) ha, clear-one b (c ∷ d ∷ cs) hb, clear-one c (d ∷ cs) hc, clear-one d cs hd, ap (position_or_len is_stop) e)

-- what a walk by fours has left of a text
pub record Left (text rest : List ℕ) : Type 0 where
  pub bound : length rest ≤ length text
  pub place : rest ≡ drop (length text - length rest) text
  pub value : position_or_len is_stop text ≡ length text - length rest + position_or_len is_stop rest

four-left : (text rest after : List ℕ) → Left text rest → 4 ≤ length rest → after ≡ drop 4 rest → position_or_len is_stop rest ≡ 4 + position_or_len is_stop after → Left text after
four-left text rest after l some e more =
    let long : length after ≡ length rest - 4 = ap length e ∙ length-drop 4 rest in
    let on : length text - length rest + 4 ≡ length text - length after = omega (arith, long, some, l.bound) in record {
      bound = omega (arith, long, l.bound);
      place = e ∙ ap (drop 4) l.place ∙ drop-drop 4 (length text - length rest) text ∙ ap (λ n. drop n text) on;
      value = omega (arith, l.value, more, on);
    }

-- none of the four tests passes
pub left-step : (text rest after : List ℕ) (p q r s : Bool) → Left text rest → 4 ≤ length rest → after ≡ take (length rest - 4) (drop 4 rest)
    → p ≡ is_stop (slice_index_or rest 0 0) → q ≡ is_stop (slice_index_or rest 1 0) → r ≡ is_stop (slice_index_or rest 2 0) → s ≡ is_stop (slice_index_or rest 3 0)
    → (((p || q) || r) || s) ≡ false → Left text after
left-step text rest after p q r s l some e ep eq er es none =
    let here : after ≡ drop 4 rest = e ∙ take_all (length rest - 4) (drop 4 rest) (omega (arith, length-drop 4 rest)) in
    let no_r = or-first ((p || q) || r) s none in
    let no_q = or-first (p || q) r no_r in
    four-left text rest after l some here (clear-four rest after some here
    (sym ep ∙ or-first p q no_q) (sym eq ∙ or-second p q no_q) (sym er ∙ or-second (p || q) r no_r) (sym es ∙ or-second ((p || q) || r) s none))

-- the walk went to a line feed: no other stands before it

feed-itself : (c : ℕ) → c ≡ 10 → is_feed c ≡ true
feed-itself c e = grind (arith, nat_tests)

no-feed : (c : ℕ) → is_stop c ≡ false → is_feed c ≡ false
no-feed c e = grind (arith, nat_tests)

feed-step : (b : Bool) (c : ℕ) (cs : List ℕ) (n m : ℕ) → is_stop c ≡ b → (slice_index_or (drop n cs) 0 0 ≡ 10 → m ≡ n)
    → slice_index_or (drop (cond (not b) (1 + n) 0) (c ∷ cs)) 0 0 ≡ 10 → cond (not (is_feed c)) (1 + m) 0 ≡ cond (not b) (1 + n) 0
feed-step true c cs n m e ih feed = ap (λ f. cond (not f) (1 + m) 0) (feed-itself c feed)
feed-step false c cs n m e ih feed = ap (λ f. cond (not f) (1 + m) 0) (no-feed c e)
    ∙ ap (λ k. 1 + k) (ih (sym (ap (λ bs. slice_index_or bs 0 0) (drop-one n c cs)) ∙ feed))

feed-at : (bs : List ℕ) → slice_index_or (drop (position_or_len is_stop bs) bs) 0 0 ≡ 10 → position_or_len is_feed bs ≡ position_or_len is_stop bs
feed-at [] feed = refl
feed-at (c ∷ cs) feed = feed-step (is_stop c) c cs _ _ refl (feed-at cs) feed

whole-step : (b : Bool) (c : ℕ) (cs : List ℕ) (n : ℕ) → is_stop c ≡ b → position_or_len is_stop (take n cs) ≡ length (take n cs)
    → position_or_len is_stop (take (cond (not b) (1 + n) 0) (c ∷ cs)) ≡ length (take (cond (not b) (1 + n) 0) (c ∷ cs))
whole-step true c cs n e ih = refl
whole-step false c cs n e ih =
    let one : position_or_len is_stop (c ∷ take n cs) ≡ 1 + position_or_len is_stop (take n cs) = ap (λ b. cond (not b) (1 + position_or_len is_stop (take n cs)) 0) e in
    let both : position_or_len is_stop (c ∷ take n cs) ≡ length (c ∷ take n cs) = omega (arith, one, ih) in
    ap (position_or_len is_stop) (take-one n c cs) ∙ (both ∙ sym (ap length (take-one n c cs)))

part-whole : (bs : List ℕ) → position_or_len is_stop (take (position_or_len is_stop bs) bs) ≡ length (take (position_or_len is_stop bs) bs)
part-whole [] = refl
part-whole (c ∷ cs) = whole-step (is_stop c) c cs _ refl (part-whole cs)

pub content-feed : (bs part rest after : List ℕ) (n : ℕ) → n ≡ position_or_len is_stop bs → part ≡ take n bs → rest ≡ drop n bs → after ≡ drop 1 rest → 1 ≤ length rest → slice_index_or rest 0 0 ≡ 10
    → (line : Line) × (lines_of bs ≡ line ∷ lines_of after) × (content line ≡ Ok part)
content-feed bs part rest after n en ep er ea some feed =
    let place : rest ≡ drop (position_or_len is_stop bs) bs = er ∙ ap (λ k. drop k bs) en in
    let first : n ≡ position_or_len is_feed bs = en ∙ sym (feed-at bs (ap (λ r. slice_index_or r 0 0) (sym place) ∙ feed)) in
    let here : part ≡ take (position_or_len is_stop bs) bs = ep ∙ ap (λ k. take k bs) en in
    let m : ℕ = position_or_len is_stop part in
    let all : m ≡ length part = ap (position_or_len is_stop) here ∙ (part-whole bs ∙ ap length (sym here)) in
    let none : length (drop m part) < 1 = omega (arith, all, length-drop {A = ℕ} m part) in (
      record { bytes = part; ended = true },
      lines-first bs part rest after n first ep er ea (omega (arith, some)),
      content-ends part part (drop m part) m refl (sym (take_all m part (omega (arith, all)))) refl none,
    )
