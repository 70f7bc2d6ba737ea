-- The locks of a canonical text are read again.
use Rattle.std.proofs.Common.{◌≡◌, ℕ, ◌<◌, List, [], ◌∷◌, ◌++◌, length, refl, arith, decimal}
use Rattle.std.specs.Prelude.{codes, sum_by}
use Rattle.co_text.proofs.LinesBack.{IsWord, AreWords}
use Rattle.co_text.proofs.ValuesBack.{decimal-word}
use Rattle.co_lock.specs.declared.LockKind.{LockKind}
use Rattle.co_lock.specs.declared.LockKind.TheVariants as lock
use Rattle.co_program.specs.declared.Script.{Script}
use Rattle.co_grammar.specs.declared.Kind.TheVariants as kind
use Rattle.co_grammar.specs.Statements as states
use Rattle.co_grammar.specs.Spelling.{lock_words, lock_line}
use Rattle.co_grammar.proofs.ActsBack.{IsShort}
use Rattle.co_grammar.proofs.FrameBack.{lock-line}
use Rattle.co_grammar.proofs.Sizes.{lock-short}
use Rattle.co_script.specs.Drafts.{Draft}
use Rattle.co_script.specs.Refusals.{draft_with}
use Rattle.co_script.specs.Canonical.{each_from}
use Rattle.co_script.proofs.LinesFold.{frame-read, opens-outside}
use Rattle.co_script.proofs.Leads.{Leads, no-lines, one-more, all-lead}
use Rattle.co_script.proofs.parts.Fitting.{Fitting}
use Rattle.co_script.proofs.parts.Among.{among-below}
use Rattle.co_script.proofs.parts.After.{After, later-place, may-stand, outside, next-of, letters, headed, locked}

kind-word : (k : LockKind) → IsWord (lock_words k)
kind-word lock.Mtx = letters (codes "mtx") (omega arith) refl
kind-word lock.Rw = letters (codes "rw") (omega arith) refl

module _ (s : Script) (f : Fitting s) where
  lock-leads : (done : List LockKind) (k : LockKind) (later : List LockKind) (d : Draft) → done ++ k ∷ later ≡ s.locks → After (locked s done) (length s.funcs) 0 5 d
      → Leads d (lock_line (length done) k) 150 (After (locked s (done ++ k ∷ [])) (length s.funcs) 0 5)
  lock-leads done k later d is at =
      let n : ℕ = length done in
      let t : Script = locked s done in
      let P : Draft → Type 0 = After (locked s (done ++ k ∷ [])) (length s.funcs) 0 5 in
      let below : n < length s.locks = among-below done k later s.locks is in
      let short : IsShort n = omega (arith, below, f.small.locks) in
      let words : AreWords (codes "lock" ∷ decimal n ∷ lock_words k ∷ []) = (letters (codes "lock") (omega arith) refl, (decimal-word n short, (kind-word k, tt))) in
      one-more d (draft_with d t (states.Lock n k)) (codes "lock" ∷ decimal n ∷ lock_words k ∷ []) [] 150 0 P words (lock-short n k short)
      (frame-read d t kind.Lock (codes "lock") (decimal n ∷ lock_words k ∷ []) (states.Lock n k) at.script_is words
      (opens-outside d kind.Lock (codes "lock") (outside d.stage (omega (arith, at.stage))) refl)
      (may-stand d.stage kind.Lock at.stage refl)
      (lock-line n k short)
      (record { numbers = next-of 256 n (omega (arith, below, f.small.locks)); kinds = refl; times = refl; room = refl }))
      (no-lines (draft_with d t (states.Lock n k)) P (record { script_is = refl; funcs_are = at.funcs_are; count_is = at.count_is; stage = omega arith }))

  pub locks-lead : (d : Draft) → After (headed s) (length s.funcs) 0 4 d → Leads d (each_from lock_line 0 s.locks) (sum_by (λ (k : LockKind). 150) s.locks) (After (locked s s.locks) (length s.funcs) 0 5)
  locks-lead d at = all-lead lock_line (λ (k : LockKind). 150) s.locks (λ done e. After (locked s done) (length s.funcs) 0 5 e) lock-leads d (later-place (headed s) (length s.funcs) 0 4 5 d (omega arith) at)
