-- Notes that are told one by one.
use Rattle.std.proofs.Common.{◌≡◌, ℕ, zero, suc, ◌+◌, ◌<◌, ◌≤◌, List, [], ◌∷◌, ◌++◌, length, drop, get_or, refl, ap, sym, ◌∙◌, arith, append_assoc, append-nil}
use Rattle.std.specs.Prelude.{OnOk, Result, Some, slice_get}
use Rattle.co_object.specs.declared.Entry.{Entry}
use Rattle.co_object.specs.declared.AnyEntry.{AnyEntry}
use Rattle.co_object.specs.declared.AnyEntry.TheVariants as of
use Rattle.co_object.specs.declared.Place.{Place}
use Rattle.co_object.specs.declared.Place.TheVariants as place
use Rattle.co_report.specs.declared.line.Line.{Line}
use Rattle.co_view.specs.declared.picture.Picture.{Picture}
use Rattle.co_view.specs.declared.scene.Watch.{Watch}
use Rattle.co_view.specs.Pictures.{picture_told, story, told_of}
use Rattle.co_view.specs.Scenes.{scene_after, watch_of}
use Rattle.co_view.specs.Svg.{callout_marks, marks_of}
use Rattle.co_view.specs.Trace.{callout_text, effect_text}
use Rattle.co_view.proofs.Rows.{ok_then}

drop_item : (xs : List ℕ) (i : ℕ) → i < length xs → drop i xs ≡ get_or xs i 0 ∷ drop (i + 1) xs
drop_item [] i h = absurd (omega arith)
drop_item (x ∷ xs) zero h = refl
drop_item (x ∷ xs) (suc i) h = (let n : suc i + 1 ≡ suc (i + 1) = omega arith in drop_item xs i (omega arith) ∙ ap (λ k. get_or xs i 0 ∷ drop k (x ∷ xs)) (sym n))

drop_all : (xs : List ℕ) (i : ℕ) → length xs ≤ i → drop i xs ≡ []
drop_all [] zero h = refl
drop_all [] (suc i) h = refl
drop_all (x ∷ xs) zero h = absurd (omega arith)
drop_all (x ∷ xs) (suc i) h = drop_all xs i (omega arith)

-- one more note
pub story_more : (p : Picture) (lines : List Line) (order : List ℕ) (step : ℕ) (scene scene' : List Watch) (old new whole : List ℕ) → step < length order →
    old ++ story p lines step scene (drop step order) ≡ whole → new ≡ old ++ told_of p step scene (slice_get lines (get_or order step 0)) → scene' ≡ scene_after step scene (slice_get lines (get_or order step 0)) →
    new ++ story p lines (step + 1) scene' (drop (step + 1) order) ≡ whole
story_more p lines order step scene scene' old new whole below before told after =
    let x : ℕ = get_or order step 0 in
    let rest : List ℕ = story p lines (step + 1) (scene_after step scene (slice_get lines x)) (drop (step + 1) order) in
    ap (λ t. t ++ story p lines (step + 1) scene' (drop (step + 1) order)) told
    ∙ (ap (λ s. (old ++ told_of p step scene (slice_get lines x)) ++ story p lines (step + 1) s (drop (step + 1) order)) after
    ∙ (append_assoc old (told_of p step scene (slice_get lines x)) rest
    ∙ (ap (λ xs. old ++ story p lines step scene xs) (sym (drop_item order step below)) ∙ before)))

-- all are told
pub story_all : (p : Picture) (lines : List Line) (order : List ℕ) (step : ℕ) (scene : List Watch) (new whole : List ℕ) → length order ≤ step → new ++ story p lines step scene (drop step order) ≡ whole → new ≡ whole
story_all p lines order step scene new whole past h = sym (append-nil new) ∙ (ap (λ xs. new ++ story p lines step scene xs) (sym (drop_all order step past)) ∙ h)

-- what is told of the note of a line that there is
pub told_is : (p : Picture) (lines : List Line) (i step : ℕ) (scene seen : List Watch) (l : Line) (old new : List ℕ) → slice_get lines i ≡ Some l → seen ≡ scene → new ≡ old ++ picture_told p step seen l → new ≡ old ++ told_of p step scene (slice_get lines i)
told_is p lines i step scene seen l old new at same told = told ∙ (ap (λ s. old ++ picture_told p step s l) same ∙ sym (ap (λ o. old ++ told_of p step scene o) at))

-- ---- an entry of a callout, in its place

pub marks_is : {X E : Type 0} (r : Result X E) (old new : List ℕ) (step : ℕ) (scene : List Watch) (p : Place) (any : AnyEntry) (i : ℕ) (e : Entry) (w : Watch) → w ≡ watch_of scene i → p ≡ place.Timer i → any ≡ of.Timer e →
    OnOk r (new ≡ old ++ callout_marks i step w e) → OnOk r (new ≡ old ++ marks_of step scene p any)
marks_is r old new step scene p any i e w w_is p_is e_is h =
    let same : callout_marks i step w e ≡ marks_of step scene p any =
    ap (λ v. callout_marks i step v e) w_is ∙ (sym (ap (λ a. marks_of step scene (place.Timer i) a) e_is) ∙ sym (ap (λ q. marks_of step scene q any) p_is)) in
    ok_then r h (λ is. is ∙ ap (λ t. old ++ t) same)

pub effect_is : {X E : Type 0} (r : Result X E) (old new : List ℕ) (step : ℕ) (scene : List Watch) (p : Place) (any : AnyEntry) (i : ℕ) (e : Entry) (w : Watch) → w ≡ watch_of scene i → p ≡ place.Timer i → any ≡ of.Timer e →
    OnOk r (new ≡ old ++ callout_text i step w e) → OnOk r (new ≡ old ++ effect_text step scene p any)
effect_is r old new step scene p any i e w w_is p_is e_is h =
    let same : callout_text i step w e ≡ effect_text step scene p any =
    ap (λ v. callout_text i step v e) w_is ∙ (sym (ap (λ a. effect_text step scene (place.Timer i) a) e_is) ∙ sym (ap (λ q. effect_text step scene q any) p_is)) in
    ok_then r h (λ is. is ∙ ap (λ t. old ++ t) same)
