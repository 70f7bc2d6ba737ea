-- Each spec that is read is one that a callout may have.
use Rattle.std.proofs.Common.{◌≡◌, ℕ, Bool, true, false, cond, not, ◌&&◌, ◌||◌, List, [], ◌∷◌, refl}
use Rattle.std.specs.Prelude.{Ok, Err, ◌==◌, if◌then◌else◌, codes}
use Rattle.co_object.specs.declared.Spec.{Spec}
use Rattle.co_object.specs.declared.LockUse.{LockUse}
use Rattle.co_object.specs.declared.LockUse.TheVariants.{Free, Mtx, Rw, RwShared}
use Rattle.co_text.specs.Fallible.{◌>>=◌}
use Rattle.co_text.specs.Values.{Word, is_word, number}
use Rattle.co_text.specs.Taking.{Read, next, is_next, after_next, option}
use Rattle.co_text.specs.declared.Cause.TheVariants.{Form}
use Rattle.co_grammar.specs.Forms.{free_spec, locked_spec, mtx_spec, rw_spec, spec}
use Rattle.co_script.specs.Fits.{is_free}
use Rattle.co_script.proofs.told.Steps.{bind-ok, cond-ok}

-- what the form of a timer's line tells of its spec
pub record IsSpecFormed (version : ℕ) (x : Spec) : Type 0 where
  pub unlocked : not (is_free x.lock && x.returns_unlocked) ≡ true
  pub direct : (not x.direct || (is_free x.lock && (version == 2))) ≡ true

locked-ok : (version : ℕ) (use' : LockUse) (ws : List Word) (x : Spec × List Word) → is_free use' ≡ false → locked_spec use' ws ≡ Ok x → IsSpecFormed version x.0
locked-ok version use' ws x locked h =
    let r = bind-ok (option (codes "returnunlocked") ws) (λ r. Ok (record { lock = use'; returns_unlocked = r.0; direct = false }, r.1)) x h in
    let same : x.0 ≡ record { lock = use'; returns_unlocked = r.0.0; direct = false } = cc in
    rw same (record { unlocked = rw locked refl; direct = refl })

pub spec-ok : (version : ℕ) (ws : List Word) (x : Spec × List Word) → spec version ws ≡ Ok x → IsSpecFormed version x.0
spec-ok version [] x h = cc
spec-ok version (w ∷ ws) x h =
    cond-ok (IsSpecFormed version x.0) (is_word w (codes "mpsafe")) (free_spec version ws) (if is_word w (codes "mtx") then mtx_spec ws else (if is_word w (codes "rw") then rw_spec ws else Err Form)) x
    (λ _ k. free (version == 2) (is_next (codes "direct") ws) refl k)
    (λ k. cond-ok (IsSpecFormed version x.0) (is_word w (codes "mtx")) (mtx_spec ws) (if is_word w (codes "rw") then rw_spec ws else Err Form) x
    (λ _ l. let n = bind-ok (next number ws) (λ l. locked_spec (Mtx l.0) l.1) x l in locked-ok version (Mtx n.0.0) n.0.1 x refl n.2)
    (λ l. cond-ok (IsSpecFormed version x.0) (is_word w (codes "rw")) (rw_spec ws) (Err Form) x (λ _ m. read m) (λ m. cc) l)
    k)
    h where
      free : (a b : Bool) → (version == 2) ≡ a
          → cond {A = Read Spec} (a && b) (Ok (record { lock = Free; returns_unlocked = false; direct = true }, after_next ws)) (Ok (record { lock = Free; returns_unlocked = false; direct = false }, ws)) ≡ Ok x
          → IsSpecFormed version x.0
      free true true is k =
          let same : x.0 ≡ record { lock = Free; returns_unlocked = false; direct = true } = cc in
          rw same (record { unlocked = refl; direct = is })
      free true false is k =
          let same : x.0 ≡ record { lock = Free; returns_unlocked = false; direct = false } = cc in
          rw same (record { unlocked = refl; direct = refl })
      free false b is k =
          let same : x.0 ≡ record { lock = Free; returns_unlocked = false; direct = false } = cc in
          rw same (record { unlocked = refl; direct = refl })

      locks_of : (b : Bool) (l : ℕ) → is_free (if b then RwShared l else Rw l) ≡ false
      locks_of true l = refl
      locks_of false l = refl

      read : rw_spec ws ≡ Ok x → IsSpecFormed version x.0
      read m =
          let n = bind-ok (next number ws) (λ l. option (codes "shared") l.1 >>= λ shared. locked_spec (if shared.0 then RwShared l.0 else Rw l.0) shared.1) x m in
          let s = bind-ok (option (codes "shared") n.0.1) (λ shared. locked_spec (if shared.0 then RwShared n.0.0 else Rw n.0.0) shared.1) x n.2 in
          locked-ok version (if s.0.0 then RwShared n.0.0 else Rw n.0.0) s.0.1 x (locks_of s.0.0 n.0.0) s.2
