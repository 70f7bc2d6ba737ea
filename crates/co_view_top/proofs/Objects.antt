-- The views of one object.
use Rattle.std.proofs.Common.{◌≡◌, ℕ, Bool, true, false, cond, codes, Option, Some, refl, ap, sym, subst, ◌∙◌}
use Rattle.co_text.specs.Values.{Word, is_word}
use Rattle.co_view.specs.declared.lanes.Focus.TheVariants as focus
use Rattle.co_view_top.specs.declared.views.View.TheVariants.{Lanes}
use Rattle.co_view_top.specs.Views.{object_view}

if_true : {X : Type 0} (b : Bool) (x y : X) → b ≡ true → x ≡ cond b x y
if_true true x y h = refl
if_true false x y h = cc

pub timer_is : (word text : Word) (number : Option ℕ) (n : ℕ) (same : Bool) → number ≡ Some n → text ≡ codes "timer" → same ≡ is_word word text → same ≡ true → Some (Lanes (focus.Timer n)) ≡ object_view word number
timer_is word text number n same a e f g =
    let yes : is_word word (codes "timer") ≡ true = ap (is_word word) (sym e) ∙ (sym f ∙ g) in
    subst (λ (asked : Option ℕ). Some (Lanes (focus.Timer n)) ≡ object_view word asked) (sym a) (if_true (is_word word (codes "timer")) (Some (Lanes (focus.Timer n))) _ yes)
