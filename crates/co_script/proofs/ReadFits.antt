-- What is read fits: the script that a text stands for keeps all ranges and limits.
use Rattle.std.proofs.Common.{◌≡◌, ℕ, ◌+◌, ◌<◌, Bool, true, false, cond, ◌&&◌, List, [], ◌∷◌, length, refl, ap, subst, arith}
use Rattle.std.specs.Prelude.{Option, Some, None, Result, Ok, Err, nat_lt, nat_le, codes}
use Rattle.std.proofs.lemmas.Bool.{ltb-true}
use Rattle.co_object.specs.declared.Spec.{Spec}
use Rattle.co_text.specs.Fallible.{◌>>=◌, unless, some_or, at_line}
use Rattle.co_text.specs.Lines.{Line, lines_of, content, words}
use Rattle.co_text.specs.Values.{Word, is_word}
use Rattle.co_text.specs.declared.Cause.{Cause}
use Rattle.co_text.specs.declared.Cause.TheVariants as cause
use Rattle.co_program.specs.declared.Script.{Script}
use Rattle.co_program.specs.declared.Act.{Act}
use Rattle.co_grammar.specs.declared.Kind.{Kind}
use Rattle.co_grammar.specs.declared.Kind.TheVariants as kind
use Rattle.co_grammar.specs.declared.Opener.{Opener}
use Rattle.co_grammar.specs.declared.Opener.TheVariants.{Frame, Act as Does}
use Rattle.co_grammar.specs.Keywords.{act_kind, verb_of, is_section}
use Rattle.co_grammar.specs.Checks.{is_within}
use Rattle.co_script.specs.Drafts.{Draft, first_draft, closed, with_section, finished}
use Rattle.co_script.specs.Reading.{opener_of, may_stand, opened_line, line_after, version_of, version_line, line_of_words, line_read, lines_read, text_end, lines_script, script_of}
use Rattle.co_script.specs.Fits.{fits}
use Rattle.co_script.proofs.told.Steps.{bind-ok, unless-ok}
use Rattle.co_script.proofs.drafts.Named.{named_by}
use Rattle.co_script.proofs.drafts.Sections.{empty-section}
use Rattle.co_script.proofs.drafts.Firm.{Fine, close}
use Rattle.co_script.proofs.drafts.FrameLines.{frame-fine}
use Rattle.co_script.proofs.drafts.ActLines.{of-version, opener-verb, act-fine}
use Rattle.co_script.proofs.drafts.Finished.{firm-fits}

line-fine : (d : Draft) (w : Word) (ws : List Word) (e : Draft) → Fine d → line_after d w ws ≡ Ok e → Fine e
line-fine d w ws e h read =
    let o = bind-ok (opener_of d w) (λ opener. unless (may_stand d.stage opener) cause.Order >>= λ _. opened_line d opener ws) e read in
    let u = bind-ok (unless (may_stand d.stage o.0) cause.Order) (λ _. opened_line d o.0 ws) e o.2 in
    go o.0 o.1 (unless-ok (may_stand d.stage o.0) cause.Order u.0 u.1) u.2 where
      go : (o : Opener) → opener_of d w ≡ Ok o → may_stand d.stage o ≡ true → opened_line d o ws ≡ Ok e → Fine e
      go (Frame k) is order read = frame-fine d k ws e h order read
      go (Does v) is order read =
          act-fine d v ws e h (of-version d.script.version w v (opener-verb (is_section d.stage) (act_kind w) (verb_of d.script.version w) v is)) order read

opening-fine : (v : ℕ) → is_within 1 2 v ≡ true → Fine (first_draft v)
opening-fine v known = record {
  firm = record {
    version = known;
    hz = refl;
    cpus = refl;
    buckets = refl;
    funcs_most = omega arith;
    locks_most = omega arith;
    timers_most = omega arith;
    clients_most = omega arith;
    funcs_room = omega arith;
    ticks_room = omega arith;
    specs = refl;
    funcs_fit = refl;
    clients_fit = refl;
    ticks_fit = refl;
    total = omega arith;
    count_most = omega arith;
    turns_most = omega arith;
    turns_fit = refl;
    no_timers = λ _. refl;
    no_funcs = λ _. refl;
    no_clients = λ _. refl;
    no_ticks = λ _. refl;
    no_turns = λ _. refl;
  };
  funcs_room = omega arith;
  clients_room = omega arith;
  ticks_room = omega arith;
  acts = empty-section 0 (named_by (first_draft v).script) kind.Callout;
  clock = refl;
  total = omega arith;
}

version-known : (ws : List Word) (v : ℕ) → version_of ws ≡ Some v → is_within 1 2 v ≡ true
version-known [] v h = cc
version-known (a ∷ []) v h = cc
version-known (a ∷ b ∷ []) v h = go (is_word a (codes "callout")) (is_word b (codes "1")) (is_word b (codes "2")) h where
  go : (x y z : Bool) → cond (x && y) (Some 1) (cond (x && z) (Some 2) None) ≡ Some v → is_within 1 2 v ≡ true
  go true true z k = let same : 1 ≡ v = cc in subst (λ n. is_within 1 2 n ≡ true) same refl
  go true false true k = let same : 2 ≡ v = cc in subst (λ n. is_within 1 2 n ≡ true) same refl
  go true false false k = cc
  go false y z k = cc
version-known (a ∷ b ∷ c ∷ ws) v h = cc

version-fine : (ws : List Word) (d : Draft) → version_line ws ≡ Ok d → Fine d
version-fine ws d h =
    let v = bind-ok (some_or (version_of ws) cause.Version) (λ v. Ok (first_draft v)) d h in
    let same : first_draft v.0 ≡ d = cc in
    subst (λ x. Fine x) same (opening-fine v.0 (version-known ws v.0 (some (version_of ws) v.1))) where
      some : (o : Option ℕ) {x : ℕ} → some_or o cause.Version ≡ Ok x → o ≡ Some x
      some None h = cc
      some (Some y) h = cc

-- before the first line with words there is no draft
abbrev IsFine : Option Draft → Type 0
IsFine None = Unit {0}
IsFine (Some d) = Fine d

words-fine : (d : Option Draft) (ws : List Word) (e : Option Draft) → IsFine d → line_of_words d ws ≡ Ok e → IsFine e
words-fine d [] e h read = let same : d ≡ e = cc in subst (λ x. IsFine x) same h
words-fine None (w ∷ ws) e h read =
    let d = bind-ok (version_line (w ∷ ws)) (λ d. Ok (Some d)) e read in
    let same : Some d.0 ≡ e = cc in
    subst (λ x. IsFine x) same (version-fine (w ∷ ws) d.0 d.1)
words-fine (Some d) (w ∷ ws) e h read =
    let x = bind-ok (line_after d w ws) (λ x. Ok (Some x)) e read in
    let same : Some x.0 ≡ e = cc in
    subst (λ x. IsFine x) same (line-fine d w ws x.0 h x.1)

at_line-ok : {A : Type 0} (k : ℕ) (r : Result A Cause) (x : A) → at_line k r ≡ Ok x → r ≡ Ok x
at_line-ok k (Ok y) x h = cc
at_line-ok k (Err c) x h = cc

lines-fine : (k : ℕ) (d : Option Draft) (ls : List Line) (e : Option Draft) → IsFine d → lines_read k d ls ≡ Ok e → IsFine e
lines-fine k d [] e h read = let same : d ≡ e = cc in subst (λ x. IsFine x) same h
lines-fine k d (l ∷ ls) e h read =
    let x = bind-ok (at_line k (line_read d l)) (λ x. lines_read (k + 1) x ls) e read in
    let part = bind-ok (content l) (λ part. line_of_words d (words part)) x.0 (at_line-ok k (line_read d l) x.0 x.1) in
    lines-fine (k + 1) x.0 ls e (words-fine d (words part.0) x.0 h part.2) x.2

-- ---- the end of the text

pub timers-closed : (stage : Kind) (s : Script) (acts : List Act) → (with_section stage s acts).timers ≡ s.timers
timers-closed kind.Callout s acts = refl
timers-closed kind.Hz s acts = refl
timers-closed kind.Cpus s acts = refl
timers-closed kind.Wheel s acts = refl
timers-closed kind.Funcs s acts = refl
timers-closed kind.Lock s acts = refl
timers-closed kind.Timer s acts = refl
timers-closed kind.Func s acts = refl
timers-closed kind.Client s acts = refl
timers-closed kind.Cpu s acts = refl
timers-closed kind.Turns s acts = refl

end-fits : (d : Option Draft) (s : Script) → IsFine d → text_end d ≡ Ok s → fits s ≡ true
end-fits None s h read = cc
end-fits (Some d) s h read =
    let u = bind-ok (unless (nat_lt 0 (length d.script.timers)) cause.Timer) (λ _. Ok (finished d)) s read in
    let some : 0 < length d.script.timers = ltb-true 0 (length d.script.timers) (unless-ok (nat_lt 0 (length d.script.timers)) cause.Timer u.0 u.1) in
    let kept : length (closed d).timers ≡ length d.script.timers = ap (λ (xs : List Spec). length xs) (timers-closed d.stage d.script d.acts) in
    let same : finished d ≡ s = cc in
    subst (λ t. fits t ≡ true) same (firm-fits d.funcs d.count d.stage (closed d) (close d h) (omega (arith, some, kept)))

-- what is read fits
pub read-fits : (bytes : List ℕ) (s : Script) → script_of bytes ≡ Ok s → fits s ≡ true
unfolding script_of
read-fits bytes s read =
    let size = bind-ok (at_line 0 (unless (nat_le (length bytes) 67108864) cause.Size)) (λ _. lines_script (lines_of bytes)) s read in
    let d = bind-ok (lines_read 1 None (lines_of bytes)) (λ d. at_line 0 (text_end d)) s size.2 in
    end-fits d.0 s (lines-fine 1 None (lines_of bytes) d.0 tt d.1) (at_line-ok 0 (text_end d.0) s d.2)
