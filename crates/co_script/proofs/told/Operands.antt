-- What is read as a moment, a callout or a precision has times that are times, and is `me` in a function alone.
use Rattle.std.proofs.Common.{◌≡◌, ℕ, Bool, true, false, not, ◌&&◌, ◌||◌, List, [], ◌∷◌, refl, subst}
use Rattle.std.specs.Prelude.{Ok, Err, ◌==◌, if◌then◌else◌, codes}
use Rattle.co_text.specs.Fallible.{◌>>=◌}
use Rattle.co_text.specs.Values.{Word, is_word, number, time}
use Rattle.co_text.specs.Taking.{next, option}
use Rattle.co_text.specs.declared.Cause.TheVariants.{Form}
use Rattle.co_program.specs.declared.Who.{Who}
use Rattle.co_program.specs.declared.Who.TheVariants as callout
use Rattle.co_program.specs.declared.When.{When}
use Rattle.co_program.specs.declared.When.TheVariants as when
use Rattle.co_grammar.specs.Operands.{moment, who}
use Rattle.co_grammar.specs.Forms.{optional_precision}
use Rattle.co_script.specs.Fits.{is_time, is_moment}
use Rattle.co_program.specs.Calls.{is_me}
use Rattle.co_script.proofs.told.Steps.{bind-ok, cond-ok, next-ok}
use Rattle.co_script.proofs.told.Times.{time-ok}

pub moment-ok : (w : Word) (m : When) → moment w ≡ Ok m → is_moment m ≡ true
moment-ok [] m h = cc
moment-ok (c ∷ w) m h =
    cond-ok (is_moment m ≡ true) (c == 43) (time w >>= λ t. Ok (when.After t)) (if c == 61 then (time w >>= λ t. Ok (when.At t)) else Err Form) m
    (λ _ k. let b = bind-ok (time w) (λ t. Ok (when.After t)) m k in let same : when.After b.0 ≡ m = cc in subst (λ v. is_moment v ≡ true) same (time-ok w b.0 b.1))
    (λ k. cond-ok (is_moment m ≡ true) (c == 61) (time w >>= λ t. Ok (when.At t)) (Err Form) m
    (λ _ l. let b = bind-ok (time w) (λ t. Ok (when.At t)) m l in let same : when.At b.0 ≡ m = cc in subst (λ v. is_moment v ≡ true) same (time-ok w b.0 b.1))
    (λ l. cc)
    k)
    h

-- `me` is read in a function alone
pub who-ok : (serviced : Bool) (w : Word) (x : Who) → who serviced w ≡ Ok x → (serviced || not (is_me x)) ≡ true
who-ok serviced w x h = go serviced (is_word w (codes "me")) h where
  go : (s b : Bool) → (if s && b then Ok callout.Me else (number w >>= λ i. Ok (callout.Timer i))) ≡ Ok x → (s || not (is_me x)) ≡ true
  go true true k = refl
  go true false k = refl
  go false b k =
      let n = bind-ok (number w) (λ i. Ok (callout.Timer i)) x k in
      let same : callout.Timer n.0 ≡ x = cc in
      subst (λ v. not (is_me v) ≡ true) same refl

pub precision-ok : (ws : List Word) (p : ℕ × List Word) → optional_precision ws ≡ Ok p → is_time p.0 ≡ true
precision-ok ws p h =
    let b = bind-ok (option (codes "pr") ws) (λ stands. if stands.0 then next time stands.1 else Ok (0, stands.1)) p h in
    cond-ok (is_time p.0 ≡ true) b.0.0 (next time b.0.1) (Ok (0, b.0.1)) p
    (λ _ k. let w = next-ok time b.0.1 p k in time-ok w.0 p.0 w.1)
    (λ k. let same : p.0 ≡ 0 = cc in rw same refl)
    b.2
