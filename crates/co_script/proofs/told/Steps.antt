-- A reading that was not refused, taken apart into its steps.
use Rattle.std.proofs.Common.{◌≡◌, Bool, true, false, cond, List, [], ◌∷◌, refl, ap, sym, ◌∙◌}
use Rattle.std.specs.Prelude.{Result, Ok, Err}
use Rattle.co_text.specs.Fallible.{◌>>=◌, unless}
use Rattle.co_text.specs.Values.{Word}
use Rattle.co_text.specs.Taking.{next, ended, lone}
use Rattle.co_text.specs.declared.Cause.{Cause}

pub bind-ok : {A B E : Type 0} (r : Result A E) (f : A → Result B E) (y : B) → (r >>= f) ≡ Ok y → (x : A) × (r ≡ Ok x) × (f x ≡ Ok y)
bind-ok (Ok x) f y h = (x, refl, h)
bind-ok (Err e) f y h = cc

pub unless-ok : {E : Type 0} (b : Bool) (e : E) (y : Bool) → unless b e ≡ Ok y → b ≡ true
unless-ok true e y h = refl
unless-ok false e y h = cc

-- a choice that was not refused, by its branches
pub cond-ok : {A E : Type 0} (P : Type 0) (b : Bool) (x y : Result A E) (z : A) → (b ≡ true → x ≡ Ok z → P) → (y ≡ Ok z → P) → cond b x y ≡ Ok z → P
cond-ok P true x y z first second h = first refl h
cond-ok P false x y z first second h = second h

pub next-ok : {X : Type 0} (value : Word → Result X Cause) (ws : List Word) (x : X × List Word) → next value ws ≡ Ok x → (w : Word) × (value w ≡ Ok x.0)
next-ok value [] x h = cc
next-ok value (w ∷ ws) x h =
    let b = bind-ok (value w) (λ v. Ok (v, ws)) x h in
    let same : x.0 ≡ b.0 = cc in
    (w, b.1 ∙ ap (λ v. Ok v) (sym same))

pub lone-ok : {X : Type 0} (value : Word → Result X Cause) (ws : List Word) (x : X) → lone value ws ≡ Ok x → (w : Word) × (value w ≡ Ok x)
lone-ok value ws x h =
    let b = bind-ok (next value ws) (λ p. ended p.1 >>= λ _. Ok p.0) x h in
    let e = bind-ok (ended b.0.1) (λ _. Ok b.0.0) x b.2 in
    let read = next-ok value ws b.0 b.1 in
    let same : b.0.0 ≡ x = cc in
    (read.0, read.1 ∙ ap (λ v. Ok v) same)
