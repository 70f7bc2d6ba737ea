-- The callouts of a canonical text are read again.
use Rattle.std.proofs.Common.{◌≡◌, ℕ, ◌<◌, ◌≤◌, Bool, true, false, not, ◌&&◌, ◌||◌, List, [], ◌∷◌, ◌++◌, length, refl, sym, subst, ◌∙◌, arith, decimal}
use Rattle.std.specs.Prelude.{◌==◌, codes, sum_by}
use Rattle.std.proofs.lemmas.Bool.{and_parts, and_from, not-true, ltb-true}
use Rattle.co_text.specs.Values.{Word}
use Rattle.co_text.proofs.LinesBack.{IsWord, AreWords}
use Rattle.co_text.proofs.ValuesBack.{decimal-word}
use Rattle.co_object.specs.declared.Spec.{Spec}
use Rattle.co_object.specs.declared.LockUse.{LockUse}
use Rattle.co_object.specs.declared.LockUse.TheVariants.{Free, Mtx, Rw, RwShared}
use Rattle.co_program.specs.declared.Script.{Script}
use Rattle.co_grammar.specs.declared.Kind.TheVariants as kind
use Rattle.co_grammar.specs.Statements as states
use Rattle.co_grammar.specs.Checks.{is_next_of, spec_exists, spec_kind_fits}
use Rattle.co_grammar.specs.Spelling.{use_words, word_if, spec_words, timer_line}
use Rattle.co_grammar.proofs.ActsBack.{IsShort}
use Rattle.co_grammar.proofs.FrameBack.{timer-line, SpecStands}
use Rattle.co_grammar.proofs.Sizes.{timer-short}
use Rattle.co_script.specs.Drafts.{Draft}
use Rattle.co_script.specs.Refusals.{draft_with}
use Rattle.co_script.specs.Canonical.{each_from}
use Rattle.co_script.specs.Fits.{is_free, spec_fits}
use Rattle.co_script.proofs.drafts.Named.{exists-locked, use-locked}
use Rattle.co_script.proofs.LinesFold.{frame-read, opens-anywhere, no-verb}
use Rattle.co_script.proofs.Leads.{Leads, no-lines, one-more, all-lead}
use Rattle.co_script.proofs.parts.Fitting.{Fitting}
use Rattle.co_script.proofs.parts.Among.{among-below, among-passes}
use Rattle.co_script.proofs.parts.After.{After, later-place, version-after, may-stand, next-of, letters, locked, timed}

flag-words : (b : Bool) (w : Word) (ws : List Word) → IsWord w → AreWords ws → AreWords (word_if b w ++ ws)
flag-words true w ws h all = (h, all)
flag-words false w ws h all = all

flag-word : (b : Bool) (w : Word) → IsWord w → AreWords (word_if b w)
flag-word true w h = (h, tt)
flag-word false w h = tt

flags : (direct returns : Bool) → AreWords (word_if direct (codes "direct") ++ word_if returns (codes "returnunlocked"))
flags direct returns = flag-words direct (codes "direct") (word_if returns (codes "returnunlocked")) (letters (codes "direct") (omega arith) refl) (flag-word returns (codes "returnunlocked") (letters (codes "returnunlocked") (omega arith) refl))

spec-are-words : (version : ℕ) (l : LockUse) (returns direct : Bool) → SpecStands version l returns direct → AreWords (use_words l ++ (word_if direct (codes "direct") ++ word_if returns (codes "returnunlocked")))
spec-are-words version Free returns direct h = (letters (codes "mpsafe") (omega arith) refl, flags direct returns)
spec-are-words version (Mtx l) returns direct h = (letters (codes "mtx") (omega arith) refl, (decimal-word l h.1, flags direct returns))
spec-are-words version (Rw l) returns direct h = (letters (codes "rw") (omega arith) refl, (decimal-word l h.1, flags direct returns))
spec-are-words version (RwShared l) returns direct h = (letters (codes "rw") (omega arith) refl, (decimal-word l h.1, (letters (codes "shared") (omega arith) refl, flags direct returns)))

not-direct : (direct : Bool) → (not direct || false) ≡ true → direct ≡ false
not-direct true h = sym h
not-direct false h = refl

free-direct : (direct two : Bool) → (not direct || (true && two)) ≡ true → direct ≡ true → two ≡ true
free-direct true two h is = h
free-direct false two h is = cc

spec-stands : (s : Script) (l : LockUse) (returns direct : Bool) → length s.locks ≤ 256 → spec_exists s l ≡ true → not (is_free l && returns) ≡ true → (not direct || (is_free l && (s.version == 2))) ≡ true → SpecStands s.version l returns direct
spec-stands s Free returns direct few exists unlocked by = (not-true returns unlocked, free-direct direct (s.version == 2) by)
spec-stands s (Mtx l) returns direct few exists unlocked by = (not-direct direct by, let below : l < length s.locks = ltb-true l (length s.locks) exists in omega (arith, below, few))
spec-stands s (Rw l) returns direct few exists unlocked by = (not-direct direct by, let below : l < length s.locks = ltb-true l (length s.locks) exists in omega (arith, below, few))
spec-stands s (RwShared l) returns direct few exists unlocked by = (not-direct direct by, let below : l < length s.locks = ltb-true l (length s.locks) exists in omega (arith, below, few))

module _ (s : Script) (f : Fitting s) where
  timer-leads : (done : List Spec) (x : Spec) (later : List Spec) (d : Draft) → done ++ x ∷ later ≡ s.timers → After (timed s done) (length s.funcs) 0 6 d
      → Leads d (timer_line (length done) x) 150 (After (timed s (done ++ x ∷ [])) (length s.funcs) 0 6)
  timer-leads done x later d is at =
      let n : ℕ = length done in
      let t : Script = timed s done in
      let P : Draft → Type 0 = After (timed s (done ++ x ∷ [])) (length s.funcs) 0 6 in
      let below : n < length s.timers = among-below done x later s.timers is in
      let short : IsShort n = omega (arith, below, f.small.timers) in
      let exists = and_parts (spec_exists s x.lock) (spec_kind_fits s x.lock && (not (is_free x.lock && x.returns_unlocked) && (not x.direct || (is_free x.lock && (s.version == 2))))) (among-passes done x later s.timers is (spec_fits s) f.specs) in
      let kinds = and_parts (spec_kind_fits s x.lock) (not (is_free x.lock && x.returns_unlocked) && (not x.direct || (is_free x.lock && (s.version == 2)))) exists.1 in
      let flag = and_parts (not (is_free x.lock && x.returns_unlocked)) (not x.direct || (is_free x.lock && (s.version == 2))) kinds.1 in
      let version : s.version ≡ d.script.version = sym (version-after t (length s.funcs) 0 6 d at) in
      let stands : SpecStands d.script.version x.lock x.returns_unlocked x.direct = subst (λ v. SpecStands v x.lock x.returns_unlocked x.direct) version (spec-stands s x.lock x.returns_unlocked x.direct f.small.locks exists.0 flag.0 flag.1) in
      let words : AreWords (codes "timer" ∷ decimal n ∷ spec_words x) = (letters (codes "timer") (omega arith) refl, (decimal-word n short, spec-are-words d.script.version x.lock x.returns_unlocked x.direct stands)) in
      one-more d (draft_with d t (states.Timer n x)) (codes "timer" ∷ decimal n ∷ spec_words x) [] 150 0 P words (timer-short d.script.version n x.lock x.returns_unlocked x.direct short stands)
      (frame-read d t kind.Timer (codes "timer") (decimal n ∷ spec_words x) (states.Timer n x) at.script_is words
      (opens-anywhere d kind.Timer (codes "timer") (no-verb d.script.version (codes "timer") refl refl refl) refl)
      (may-stand d.stage kind.Timer at.stage refl)
      (timer-line d.script.version n x short stands)
      (record {
        numbers = and_from (is_next_of 1024 n n) (spec_exists t x.lock) (next-of 1024 n (omega (arith, below, f.small.timers))) (exists-locked t x.lock ∙ (sym (exists-locked s x.lock) ∙ exists.0));
        kinds = use-locked t x.lock ∙ (sym (use-locked s x.lock) ∙ kinds.0);
        times = refl;
        room = refl;
      }))
      (no-lines (draft_with d t (states.Timer n x)) P (record { script_is = refl; funcs_are = at.funcs_are; count_is = at.count_is; stage = omega arith }))

  pub timers-lead : (d : Draft) → After (locked s s.locks) (length s.funcs) 0 5 d → Leads d (each_from timer_line 0 s.timers) (sum_by (λ (x : Spec). 150) s.timers) (After (timed s s.timers) (length s.funcs) 0 6)
  timers-lead d at = all-lead timer_line (λ (x : Spec). 150) s.timers (λ done e. After (timed s done) (length s.funcs) 0 6 e) timer-leads d (later-place (locked s s.locks) (length s.funcs) 0 5 6 d (omega arith) at)
