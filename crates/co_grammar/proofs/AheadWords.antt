-- Acts at the front of a text whose line isn't cut yet: what is read of it are its line's words.
use Rattle.std.proofs.Common.{◌≡◌, ℕ, ◌<◌, Bool, true, false, ◌&&◌, List, [], ◌∷◌, ◌++◌, length, refl, ap, sym, ◌∙◌, arith, append_assoc, length-append}
use Rattle.std.specs.Prelude.{Option, Some, ◌==◌, if◌then◌else◌, codes}
use Rattle.std.specs.List.{list_all}
use Rattle.std.specs.Char.{is_ascii_digit}
use Rattle.std.proofs.lemmas.Bool.Decides.{nat_tests}
use Rattle.co_text.specs.Lines.{lines_of, spaced, line_text}
use Rattle.co_text.specs.Values.{Word, is_word}
use Rattle.co_text.proofs.LinesBack.{IsWord, AreWords, and_left, and_right, and_both, whole, joined, line-back, content-back, words-back}
use Rattle.co_program.specs.declared.Act.{Act}
use Rattle.co_grammar.specs.Ahead.{verb_word, is_old, BeginsWith, is_ink, is_inked, EndsBy, SaysAhead}
use Rattle.co_grammar.specs.Forms.{act_form}
use Rattle.co_grammar.specs.Keywords.{old_verb_of, verb_of}
use Rattle.co_grammar.specs.declared.keyword.Verb.{Verb}
use Rattle.co_grammar.specs.declared.keyword.Verb.TheVariants as verb

-- the words of verbs

neither : (b c d : Bool) (x y z : Option Verb) → c ≡ false → d ≡ false → (if b && c then x else (if b && d then y else z)) ≡ z
neither true true d x y z e f = cc
neither true false true x y z e f = cc
neither true false false x y z e f = refl
neither false c d x y z e f = refl

in-each : (version : ℕ) (w : Word) (v : Verb) → is_word w (codes "init") ≡ false → is_word w (codes "retire") ≡ false → old_verb_of w ≡ Some v → verb_of version w ≡ Some v
in-each version w v init retire is = neither (version == 2) (is_word w (codes "init")) (is_word w (codes "retire")) (Some verb.Init) (Some verb.Retire) (old_verb_of w) init retire ∙ is

pub verb-back : (version : ℕ) (v : Verb) → is_old v ≡ true → verb_of version (verb_word v) ≡ Some v
verb-back version verb.Now old = in-each version (codes "now") verb.Now refl refl refl
verb-back version verb.Lock old = in-each version (codes "lock") verb.Lock refl refl refl
verb-back version verb.ReadLock old = in-each version (codes "rlock") verb.ReadLock refl refl refl
verb-back version verb.Unlock old = in-each version (codes "unlock") verb.Unlock refl refl refl
verb-back version verb.Reset old = in-each version (codes "reset") verb.Reset refl refl refl
verb-back version verb.Ticks old = in-each version (codes "ticks") verb.Ticks refl refl refl
verb-back version verb.Schedule old = in-each version (codes "schedule") verb.Schedule refl refl refl
verb-back version verb.Stop old = in-each version (codes "stop") verb.Stop refl refl refl
verb-back version verb.Drain old = in-each version (codes "drain") verb.Drain refl refl refl
verb-back version verb.AsyncDrain old = in-each version (codes "adrain") verb.AsyncDrain refl refl refl
verb-back version verb.Active old = in-each version (codes "active") verb.Active refl refl refl
verb-back version verb.Pending old = in-each version (codes "pending") verb.Pending refl refl refl
verb-back version verb.Deactivate old = in-each version (codes "deactivate") verb.Deactivate refl refl refl
verb-back version verb.Init old = cc
verb-back version verb.Retire old = cc
verb-back version verb.Tick old = in-each version (codes "tick") verb.Tick refl refl refl

verb-inked : (v : Verb) → is_inked (verb_word v) ≡ true
verb-inked verb.Now = refl
verb-inked verb.Lock = refl
verb-inked verb.ReadLock = refl
verb-inked verb.Unlock = refl
verb-inked verb.Reset = refl
verb-inked verb.Ticks = refl
verb-inked verb.Schedule = refl
verb-inked verb.Stop = refl
verb-inked verb.Drain = refl
verb-inked verb.AsyncDrain = refl
verb-inked verb.Active = refl
verb-inked verb.Pending = refl
verb-inked verb.Deactivate = refl
verb-inked verb.Init = refl
verb-inked verb.Retire = refl
verb-inked verb.Tick = refl

-- words without blanks and `#`

inked-word : (w : Word) → is_inked w ≡ true → IsWord w
inked-word [] e = cc
inked-word (c ∷ w) e = record { some = omega arith; ink = e }

inked-words : (ws : List Word) → list_all is_inked ws ≡ true → AreWords ws
inked-words [] e = tt
inked-words (w ∷ ws) e = (inked-word w (and_left (is_inked w) _ e), inked-words ws (and_right (is_inked w) _ e))

digit-ink : (c : ℕ) → is_ascii_digit c ≡ true → is_ink c ≡ true
digit-ink c e = grind (arith, nat_tests)

digits-ink : (w : Word) → list_all is_ascii_digit w ≡ true → list_all is_ink w ≡ true
digits-ink [] e = refl
digits-ink (c ∷ w) e = and_both (is_ink c) _ (digit-ink c (and_left (is_ascii_digit c) _ e)) (digits-ink w (and_right (is_ascii_digit c) _ e))

pub digits-inked : (w : Word) → 0 < length w → list_all is_ascii_digit w ≡ true → is_inked w ≡ true
digits-inked [] some e = absurd (omega (arith, some))
digits-inked (c ∷ w) some e = digits-ink (c ∷ w) e

-- a letter before digits
pub letter-inked : (c : ℕ) (w : Word) → is_ink c ≡ true → is_inked w ≡ true → is_inked (c ∷ w) ≡ true
letter-inked c [] e f = cc
letter-inked c (d ∷ w) e f = and_both (is_ink c) _ e f

-- the words of a line, one by one

pub one-more : (rest text r after : List ℕ) (w : Word) (ws : List Word) → rest ≡ 32 ∷ text → text ≡ w ++ r → r ≡ spaced ws ++ 10 ∷ after → rest ≡ spaced (w ∷ ws) ++ 10 ∷ after
one-more rest text r after w ws space front more = rw (space, front, more) (ap (λ t. 32 ∷ t) (sym (append_assoc w (spaced ws) (10 ∷ after))))

-- the line of a verb and of the words behind it
pub says : (text rest after : List ℕ) (v : Verb) (a : Act) → BeginsWith text v rest → EndsBy (λ serviced. act_form serviced v) rest a after → SaysAhead text v a after
says text rest after v a begins ends =
    let w : Word = verb_word v in
    let ws : List Word = ends.others in
    let are : AreWords (w ∷ ws) = (inked-word w (verb-inked v), inked-words ws ends.inked) in
    let is : text ≡ line_text (w ∷ ws) ++ after = rw (begins.front, ends.front) (sym (pieces w (spaced ws) after)) in
    let some : 0 < length w = are.0.some in
    record {
      first = w;
      others = ws;
      has = record {
        line = whole (joined (w ∷ ws));
        part = joined (w ∷ ws);
        lines = ap lines_of is ∙ line-back (w ∷ ws) after are;
        reads = content-back (w ∷ ws) are;
        splits = words-back (w ∷ ws) are;
        shorter = omega (arith, some, ap length is, length-append (w ++ (spaced ws ++ 10 ∷ [])) after, length-append w (spaced ws ++ 10 ∷ []));
      };
      verb = λ version. verb-back version v begins.old;
      form = ends.reads;
    }
  where
    pieces : (w s after : List ℕ) → (w ++ (s ++ 10 ∷ [])) ++ after ≡ w ++ (s ++ 10 ∷ after)
    pieces w s after = simp append_assoc
