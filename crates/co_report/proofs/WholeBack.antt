-- The text of a report, from its first line to its last, is read as its script and exactly its notes.
use Rattle.std.proofs.Common.{◌≡◌, ℕ, zero, suc, ◌+◌, ◌<◌, ◌≤◌, Bool, true, false, ◌&&◌, List, [], ◌∷◌, ◌++◌, length, map, refl, ap, sym, subst, ◌∙◌, arith, append_assoc, decimal}
use Rattle.std.specs.Prelude.{Option, Some, None, Result, Ok, Err, nat_le, ◌==◌, if◌then◌else◌, codes, bytes_eq}
use Rattle.std.specs.List.{AllByRecursion, list_all, flat_map, range_with_len}
use Rattle.std.specs.Option.{option_map}
use Rattle.std.proofs.lemmas.Fmt.{decimal_digit}
use Rattle.std.proofs.lemmas.Bool.{le-leb, lt-ltb, ltb-true}
use Rattle.std.proofs.lemmas.Slice.Eq.{bytes_eq-Decides}
use Rattle.co_object.specs.declared.Place.{Place}
use Rattle.co_object.specs.declared.Place.TheVariants as place
use Rattle.co_program.specs.declared.Script.{Script}
use Rattle.co_program.specs.Actors.{actor_count}
use Rattle.co_program.specs.Places.{place_exists}
use Rattle.co_text.specs.Fallible.{◌>>=◌, ◌>>◌, unless, some_or, at_line, Refusal}
use Rattle.co_text.specs.Lines.{Line, lines_of, lines_behind, is_feed, content, words, uncommented, is_plain, line_text, text}
use Rattle.co_text.specs.Values.{Word, is_word}
use Rattle.co_text.specs.declared.cause.Cause.{Cause}
use Rattle.co_text.specs.declared.cause.Cause.TheVariants as cause
use Rattle.co_text.proofs.LinesBack.{whole}
use Rattle.co_notes.proofs.PartSplits.{AreParts, AreLines, part_of, line_of, line-first, lines-all}
use Rattle.co_text.proofs.ValuesBack.{decimal-word}
use Rattle.co_text.proofs.Spacing.{text_append}
use Rattle.co_grammar.specs.Spelling.{numbered}
use Rattle.co_script.specs.Drafts.{Draft}
use Rattle.co_script.specs.Reading.{script_of, lines_script, lines_read, line_read, line_of_words, line_after, opener_by, may_stand, opened_line, text_end}
use Rattle.co_script.specs.Canonical.{canonical, canonical_lines}
use Rattle.co_script.specs.Fits.{fits}
use Rattle.co_script.proofs.told.Steps.{bind-ok, unless-ok}
use Rattle.co_script.proofs.CanonicalBack.{reads-back}
use Rattle.co_grammar.specs.Keywords.{act_kind, old_verb_of, is_section}
use Rattle.co_grammar.specs.declared.Verb.{Verb}
use Rattle.co_grammar.specs.declared.Verb.TheVariants as verb
use Rattle.co_report.specs.declared.line.Report.{Report}
use Rattle.co_print.specs.Histories.{PlaceHistories}
use Rattle.co_notes.specs.declared.reading.notes.NumberedEntry.{NumberedEntry}
use Rattle.co_notes.specs.NoteTexts.{shown_words}
use Rattle.co_print.specs.Reports.{places, heading, place_lines, report, report_lines}
use Rattle.co_notes.specs.NoteFits.{ShownFits}
use Rattle.co_report.specs.Laws.{report_of_histories, HistoriesFit}
use Rattle.co_notes.specs.Parts.{joined}
use Rattle.co_report.specs.Reading.{is_line, none_cut, first_line, Halves, halves, line_before, in_report, same_lines, end_read, notes_read, halves_read, lines_report, report_read}
use Rattle.co_notes.proofs.Exact.{lit}
use Rattle.co_notes.specs.NoteValues.{IsSmallScript}
use Rattle.co_notes.proofs.ExactActors.{actor-ink}
use Rattle.co_notes.proofs.ExactNotes.{note_exact}
use Rattle.co_notes.proofs.OneSpelling.{small_script}
use Rattle.co_script.specs.LineBytes.{line_bytes}
use Rattle.co_script.proofs.WholeLines.{bytes_of, bytes-back}
use Rattle.co_report.proofs.ReadsBack.{sections-steps, sections}

-- ---- the lines of a text that ends with a line feed, and of what follows it

behind-some : (b : Bool) (c : ℕ) (l : Line) (ls more : List Line) → lines_behind b c ((l ∷ ls) ++ more) ≡ lines_behind b c (l ∷ ls) ++ more
behind-some true c l ls more = refl
behind-some false c l ls more = refl

-- one line more in front of a text that begins with a line
fed : (xs rest : List ℕ) → lines_of ((xs ++ 10 ∷ []) ++ rest) ≡ lines_of (xs ++ 10 ∷ []) ++ lines_of rest
fed [] rest = refl
fed (c ∷ cs) rest = ap (lines_behind (is_feed c) c) (fed cs rest) ∙ go (is_feed c) (lines_of (cs ++ 10 ∷ [])) (some cs) where
  some : (cs : List ℕ) → 0 < length (lines_of (cs ++ 10 ∷ []))
  some [] = omega arith
  some (d ∷ ds) = behind (is_feed d) (lines_of (ds ++ 10 ∷ [])) where
    behind : (b : Bool) (ls : List Line) → 0 < length (lines_behind b d ls)
    behind true ls = omega arith
    behind false [] = omega arith
    behind false (l ∷ ls) = omega arith

  go : (b : Bool) (ls : List Line) → 0 < length ls → lines_behind b c (ls ++ lines_of rest) ≡ lines_behind b c ls ++ lines_of rest
  go b [] h = absurd (omega arith)
  go b (l ∷ ls) h = behind-some b c l ls (lines_of rest)

line-fed : (ws : List Word) → (xs : List ℕ) × (line_text ws ≡ xs ++ 10 ∷ [])
line-fed [] = ([], refl)
line-fed (w ∷ ws) = (joined (w ∷ ws), sym (append_assoc w _ (10 ∷ [])))

text-fed : (lines : List (List Word)) (rest : List ℕ) → lines_of (text lines ++ rest) ≡ lines_of (text lines) ++ lines_of rest
text-fed [] rest = refl
text-fed (ws ∷ more) rest =
    let x = line-fed ws in
    let e : line_text ws ≡ x.0 ++ 10 ∷ [] = x.1 in
    ap lines_of (append_assoc (line_text ws) (text more) rest)
    ∙ (ap (λ t. lines_of (t ++ (text more ++ rest))) e
    ∙ (fed x.0 (text more ++ rest)
    ∙ (ap (λ ls. lines_of (x.0 ++ 10 ∷ []) ++ ls) (text-fed more rest)
    ∙ (sym (append_assoc (lines_of (x.0 ++ 10 ∷ [])) (lines_of (text more)) (lines_of rest))
    ∙ ap (λ ls. ls ++ lines_of rest) (sym (fed x.0 (text more)) ∙ ap (λ t. lines_of (t ++ text more)) (sym e))))))

-- ---- a line of a script that is read has its line feed and isn't `histories`

pub record IsOfScript (l : Line) : Type 0 where
  pub ended : l.ended ≡ true
  pub other : is_line (codes "histories") l ≡ false

abbrev verb_by : Bool → Option Verb
verb_by b = if b && is_word (codes "histories") (codes "init") then Some verb.Init else (if b && is_word (codes "histories") (codes "retire") then Some verb.Retire else old_verb_of (codes "histories"))

no-verb : (b : Bool) → verb_by b ≡ None
no-verb true = refl
no-verb false = refl

no-opener : (d : Draft) → line_after d (codes "histories") [] ≡ Err cause.Word
no-opener d = ap (λ (v : Option Verb). opener_by (is_section d.stage) (act_kind (codes "histories")) v >>= λ o. unless (may_stand d.stage o) cause.Order >>= λ _. opened_line d o []) (no-verb (d.script.version == 2))

apart : (c : Cause) (x : Option Draft) → ◌≡◌ {A = Result (Option Draft) Cause} (Err c) (Ok x) → true ≡ false
apart c x h = cc

not-read : (d e : Option Draft) → line_read d (whole (codes "histories")) ≡ Ok e → true ≡ false
not-read None e h = apart cause.Version e h
not-read (Some d) e h =
    let refused : line_read (Some d) (whole (codes "histories")) ≡ Err cause.Word = ap (λ (r : Result Draft Cause). r >>= λ x. Ok (Some x)) (no-opener d) in
    apart cause.Word e (sym refused ∙ h)

of-script : (d e : Option Draft) (l : Line) → line_read d l ≡ Ok e → IsOfScript l
of-script d e l h =
    let part = bind-ok (content l) (λ part. line_of_words d (words part)) e h in
    let fed = bind-ok (unless l.ended cause.Cut) (λ _. unless (list_all is_plain (uncommented l.bytes)) cause.Byte >>= λ _. Ok (uncommented l.bytes)) part.0 part.1 in
    let ended : l.ended ≡ true = unless-ok l.ended cause.Cut fed.0 fed.1 in
    record { ended = ended; other = go (is_line (codes "histories") l) refl ended }
  where
    go : (b : Bool) → is_line (codes "histories") l ≡ b → l.ended ≡ true → is_line (codes "histories") l ≡ false
    go false same ended = same
    go true same ended =
        let bytes : l.bytes ≡ codes "histories" = (bytes_eq-Decides l.bytes (codes "histories")).0 same in
        let this : l ≡ whole (codes "histories") = ap (λ bs. record { bytes = bs; ended = l.ended }) bytes ∙ ap (λ t. record { bytes = codes "histories"; ended = t }) ended in
        same ∙ not-read d e (subst (λ (x : Line). line_read d x ≡ Ok e) this h)

all-of-script : (ls : List Line) (k : ℕ) (d e : Option Draft) → lines_read k d ls ≡ Ok e → AllByRecursion IsOfScript ls
all-of-script [] k d e h = tt
all-of-script (l ∷ ls) k d e h =
    let b = bind-ok (at_line k (line_read d l)) (λ x. lines_read (k + 1) x ls) e h in
    (of-script d b.0 l (at_line-ok k (line_read d l) b.0 b.1), all-of-script ls (k + 1) b.0 e b.2)
  where
    at_line-ok : (k : ℕ) (r : Result (Option Draft) Cause) (x : Option Draft) → at_line k r ≡ Ok x → r ≡ Ok x
    at_line-ok k (Ok y) x h = let same : y ≡ x = cc in ap (λ z. Ok z) same
    at_line-ok k (Err c) x h = cc

script-lines : (bytes : List ℕ) (s : Script) → script_of bytes ≡ Ok s → AllByRecursion IsOfScript (lines_of bytes)
unfolding script_of
script-lines bytes s h =
    let a = bind-ok (at_line 0 (unless (nat_le (length bytes) 67108864) cause.Size)) (λ _. lines_script (lines_of bytes)) s h in
    let b = bind-ok (lines_read 1 None (lines_of bytes)) (λ d. at_line 0 (text_end d)) s a.2 in
    all-of-script (lines_of bytes) 1 None b.0 b.1

-- ---- the steps of reading

no-cut : (k : ℕ) (ls : List Line) → AllByRecursion (λ l. l.ended ≡ true) ls → none_cut k ls ≡ Ok true
no-cut k [] all = refl
no-cut k (l ∷ ls) all = ap (λ b. at_line k (unless b cause.Cut) >> none_cut (k + 1) ls) all.0 ∙ no-cut (k + 1) ls all.1

halves-at : (ls more : List Line) (l : Line) → AllByRecursion IsOfScript ls → is_line (codes "histories") l ≡ true
    → halves (ls ++ l ∷ more) ≡ Some (record { script = bytes_of ls; count = length ls; notes = more })
halves-at [] more l all h = ap (λ b. if b then Some (record { script = []; count = 0; notes = more }) else option_map (line_before l) (halves more)) h
halves-at (x ∷ ls) more l all h =
    let e : length ls + 1 ≡ length (x ∷ ls) = omega arith in
    ap (λ b. if b then Some (record { script = []; count = 0; notes = ls ++ l ∷ more }) else option_map (line_before x) (halves (ls ++ l ∷ more))) all.0.other
    ∙ (ap (option_map (line_before x)) (halves-at ls more l all.1 h)
    ∙ ap (λ n. Some (record { script = line_bytes x ++ bytes_of ls; count = n; notes = more })) e)

same-self : (k : ℕ) (ls : List Line) → same_lines k ls ls ≡ Ok true
same-self k [] = refl
same-self k (l ∷ ls) = ap (λ b. at_line k (unless b cause.Form) >> same_lines (k + 1) ls ls) ((bytes_eq-Decides l.bytes l.bytes).1 refl) ∙ same-self (k + 1) ls

-- ---- the places

range-all : (P : ℕ → Type 0) (a n : ℕ) → ((i : ℕ) → i < a + n → P i) → AllByRecursion P (range_with_len a n)
range-all P a zero f = tt
range-all P a (suc n) f = (f a (omega arith), range-all P (a + 1) n (λ i h. f i (omega (arith, h))))

map-all : (P : Place → Type 0) (kind : ℕ → Place) (ks : List ℕ) → AllByRecursion (λ k. P (kind k)) ks → AllByRecursion P (map kind ks)
map-all P kind [] all = tt
map-all P kind (k ∷ ks) all = (all.0, map-all P kind ks all.1)

append-all : {X : Type 0} (P : X → Type 0) (xs ys : List X) → AllByRecursion P xs → AllByRecursion P ys → AllByRecursion P (xs ++ ys)
append-all P [] ys a b = b
append-all P (x ∷ xs) ys a b = (a.0, append-all P xs ys a.1 b)

-- what holds of each place that exists
pub each-place : (s : Script) (P : Place → Type 0) → ((p : Place) → place_exists s p ≡ true → P p) → AllByRecursion P (places s)
each-place s P f =
    append-all P (map place.Timer (range_with_len 0 (length s.timers))) (map place.Cpu (range_with_len 0 s.cpus) ++ map place.Actor (range_with_len 0 (actor_count s)))
    (map-all P place.Timer (range_with_len 0 (length s.timers)) (range-all (λ k. P (place.Timer k)) 0 (length s.timers) (λ i h. f (place.Timer i) (lt-ltb i (length s.timers) (omega (arith, h))))))
    (append-all P (map place.Cpu (range_with_len 0 s.cpus)) (map place.Actor (range_with_len 0 (actor_count s)))
    (map-all P place.Cpu (range_with_len 0 s.cpus) (range-all (λ k. P (place.Cpu k)) 0 s.cpus (λ i h. f (place.Cpu i) (lt-ltb i s.cpus (omega (arith, h))))))
    (map-all P place.Actor (range_with_len 0 (actor_count s)) (range-all (λ k. P (place.Actor k)) 0 (actor_count s) (λ i h. f (place.Actor i) (lt-ltb i (actor_count s) (omega (arith, h)))))))

-- ---- the words of the histories

lines-append : (xs ys : List (List Word)) → AreLines xs → AreLines ys → AreLines (xs ++ ys)
lines-append xs ys a b = append-all AreParts xs ys a b

heading-words : (s : Script) (small : IsSmallScript s) (p : Place) → place_exists s p ≡ true → AreParts (heading s p)
heading-words s small (place.Timer i) h = let less = ltb-true i (length s.timers) h in (lit (codes "timer") refl, (part_of (decimal i) (decimal-word i (omega (arith, less, small.timers))), tt))
heading-words s small (place.Cpu c) h = let less = ltb-true c s.cpus h in (lit (codes "wheel") refl, (part_of (decimal c) (decimal-word c (omega (arith, less, small.cpus))), tt))
heading-words s small (place.Actor a) h = (lit (codes "actor") refl, (actor-ink s small a (ltb-true a (actor_count s) h), tt))

notes-words : (s : Script) (small : IsSmallScript s) (p : Place) (xs : List NumberedEntry) → AllByRecursion (ShownFits s p) xs → AreLines (map (shown_words s) xs)
notes-words s small p [] all = tt
notes-words s small p (x ∷ xs) all = ((note_exact s small p).ink x all.0, notes-words s small p xs all.1)

sections-words : (s : Script) (small : IsSmallScript s) (h : PlaceHistories) (ps : List Place) → AllByRecursion (λ p. (place_exists s p ≡ true) × AllByRecursion (ShownFits s p) (h p)) ps → AreLines (sections s small h ps)
sections-words s small h [] all = tt
sections-words s small h (p ∷ ps) all =
    lines-append (place_lines s h p) (sections s small h ps) (heading-words s small p all.0.0, notes-words s small p (h p) all.0.1) (sections-words s small h ps all.1)

-- ---- the whole

module _ (s : Script) (h : PlaceHistories) (f : fits s ≡ true) (all : HistoriesFit s h) where
  small : IsSmallScript s
  small = small_script s f

  abbrev head : List Word
  head = numbered (codes "callout-report") 1

  abbrev mark : List Word
  mark = codes "histories" ∷ []

  -- the lines behind `histories`
  abbrev behind_mark : List (List Word)
  behind_mark = flat_map (place_lines s h) (places s) ++ (codes "end" ∷ []) ∷ []

  abbrev script_part : List Line
  script_part = lines_of (canonical s)

  fit : AllByRecursion (λ p. AllByRecursion (ShownFits s p) (h p)) (places s)
  fit = each-place s (λ p. AllByRecursion (ShownFits s p) (h p)) all

  exist : AllByRecursion (λ p. (place_exists s p ≡ true) × AllByRecursion (ShownFits s p) (h p)) (places s)
  exist = each-place s (λ p. (place_exists s p ≡ true) × AllByRecursion (ShownFits s p) (h p)) (λ p e. (e, all p e))

  behind-words : AreLines behind_mark
  behind-words = lines-append (flat_map (place_lines s h) (places s)) ((codes "end" ∷ []) ∷ []) (sections-words s small h (places s) exist) ((lit (codes "end") refl, tt), tt)

  lines-are : lines_of (report s h) ≡ line_of head ∷ (script_part ++ line_of mark ∷ map line_of behind_mark)
  unfolding report report_lines canonical
  lines-are =
      line-first head (text (canonical_lines s ++ mark ∷ behind_mark)) (lit (codes "callout-report") refl, (part_of (decimal 1) (decimal-word 1 (omega arith)), tt))
      ∙ ap (λ ls. line_of head ∷ ls)
      (ap lines_of (text_append (canonical_lines s) (mark ∷ behind_mark))
      ∙ (text-fed (canonical_lines s) (text (mark ∷ behind_mark))
      ∙ ap (λ ls. lines_of (text (canonical_lines s)) ++ ls)
      (line-first mark (text behind_mark) (lit (codes "histories") refl, tt)
      ∙ ap (λ ls. line_of mark ∷ ls) (lines-all behind_mark behind-words))))

  of-script-all : AllByRecursion IsOfScript script_part
  of-script-all = script-lines (canonical s) s (reads-back s f)

  abbrev notes_part : List Line
  notes_part = map line_of behind_mark

  whole-all : (ls : List (List Word)) → AllByRecursion (λ (l : Line). l.ended ≡ true) (map line_of ls)
  whole-all [] = tt
  whole-all (l ∷ ls) = (refl, whole-all ls)

  ended-all : (ls : List Line) → AllByRecursion IsOfScript ls → AllByRecursion (λ (l : Line). l.ended ≡ true) ls
  ended-all [] a = tt
  ended-all (l ∷ ls) a = (a.0.ended, ended-all ls a.1)

  ended : AllByRecursion (λ (l : Line). l.ended ≡ true) (line_of head ∷ (script_part ++ line_of mark ∷ notes_part))
  ended = (refl, append-all (λ (l : Line). l.ended ≡ true) script_part (line_of mark ∷ notes_part) (ended-all script_part of-script-all) (refl, whole-all behind_mark))

  first-is : is_line (codes "callout-report 1") (line_of head) ≡ true
  first-is = ap (λ (w : Word). bytes_eq (codes "callout-report" ++ 32 ∷ (w ++ [])) (codes "callout-report 1")) (decimal_digit 1 (omega arith))

  abbrev cut_in_two : Halves
  cut_in_two = record { script = bytes_of script_part; count = length script_part; notes = notes_part }

  script-is : in_report (script_of (bytes_of script_part)) ≡ Ok s
  script-is = ap (λ b. in_report (script_of b)) (bytes-back (canonical s)) ∙ ap (λ r. in_report r) (reads-back s f)

  canonical-is : same_lines 2 (lines_of (bytes_of script_part)) script_part ≡ Ok true
  canonical-is = ap (λ b. same_lines 2 (lines_of b) script_part) (bytes-back (canonical s)) ∙ same-self 2 script_part

  notes-are : notes_read s (length script_part + 3) notes_part ≡ Ok (report_of_histories s h)
  notes-are =
      ap (λ r. r >>= λ d. end_read (length script_part + 3 + length notes_part) d >>= λ e. Ok (record { script = s; lines = d.lines; end = e }))
      (sections-steps s small h (length script_part + 3) None (places s) [] fit)

  halves-are : halves_read cut_in_two ≡ Ok (report_of_histories s h)
  halves-are =
      ap (λ r. r >>= λ t. same_lines 2 (lines_of (bytes_of script_part)) (lines_of (canonical t)) >>= λ _. notes_read t (length script_part + 3) notes_part) script-is
      ∙ (ap (λ r. r >>= λ _. notes_read s (length script_part + 3) notes_part) canonical-is
      ∙ notes-are)

  abbrev behind_first : List Line → Result Report Refusal
  behind_first ls = at_line 0 (some_or (halves ls) cause.Note) >>= halves_read

  lines-read : lines_report (line_of head ∷ (script_part ++ line_of mark ∷ notes_part)) ≡ Ok (report_of_histories s h)
  lines-read =
      ap (λ r. r >>= λ _. first_line (line_of head ∷ (script_part ++ line_of mark ∷ notes_part)) >>= behind_first) (no-cut 1 (line_of head ∷ (script_part ++ line_of mark ∷ notes_part)) ended)
      ∙ (ap (λ b. (at_line 1 (unless b cause.Version) >>= λ _. Ok (script_part ++ line_of mark ∷ notes_part)) >>= behind_first) first-is
      ∙ (ap (λ o. at_line 0 (some_or o cause.Note) >>= halves_read) (halves-at script_part notes_part (line_of mark) of-script-all refl)
      ∙ halves-are))

  pub report-back : length (report s h) ≤ 268435456 → report_read (report s h) ≡ Ok (report_of_histories s h)
  unfolding report_read
  report-back few =
      ap (λ b. at_line 0 (unless b cause.Size) >>= λ _. lines_report (lines_of (report s h))) (le-leb (length (report s h)) 268435456 few)
      ∙ (ap lines_report lines-are ∙ lines-read)
