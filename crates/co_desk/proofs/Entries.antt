-- Shared histories with one entry more, and their entries without the opening ones.
use Rattle.std.proofs.Common.{◌≡◌, ℕ, ◌+◌, ◌-◌, ◌<◌, ◌^◌, ◌==◌, Bool, true, false, cond, List, [], ◌∷◌, ◌++◌, length, Some, refl, sym, ap, ◌∙◌, arith}
use Rattle.std.specs.List.{All}
use Rattle.std.proofs.lemmas.List.Elements.{All-head, All-tail, All-cons}
use Rattle.co_life.specs.Seen.{own, StartsWith, Extends}
use Rattle.co_life.specs.Rule.{capped}
use Rattle.co_desk.specs.declared.params.Params.{Params}
use Rattle.co_desk.specs.declared.line.Line.{Line}
use Rattle.co_desk.specs.declared.line.Line.TheVariants.{Opening, Made}
use Rattle.co_desk.specs.Lines.{actor_in, made, openings, opening_of, AllCarry}
use Rattle.co_desk.specs.Seats.{IsShown}
use Rattle.co_desk.specs.Views.{IsPlace}

module _ {E : Type 0} where
  pub made-append : (xs ys : List (Line E)) → made (xs ++ ys) ≡ made xs ++ made ys
  made-append [] ys = refl
  made-append (Opening a i p ∷ xs) ys = made-append xs ys
  made-append (Made e ∷ xs) ys = ap (λ (l : List E). e ∷ l) (made-append xs ys)

  pub length-made : (xs : List (Line E)) → length xs ≡ length (made xs) + openings xs
  length-made [] = refl
  length-made (Opening a i p ∷ xs) = let h = length-made xs in omega arith
  length-made (Made e ∷ xs) = let h = length-made xs in omega arith

  pub carry-made : (p : Params) (i : ℕ) (xs : List (Line E)) (e : E) → AllCarry p i xs → AllCarry p i (xs ++ Made e ∷ [])
  carry-made p i [] e c = tt
  carry-made p i (Opening a j q ∷ xs) e c = (c.0, c.1, carry-made p i xs e c.2)
  carry-made p i (Made f ∷ xs) e c = carry-made p i xs e c

  pub openings-made : (xs : List (Line E)) (e : E) → openings (xs ++ Made e ∷ []) ≡ openings xs
  openings-made [] e = refl
  openings-made (Opening a i p ∷ xs) e = ap (λ (n : ℕ). n + 1) (openings-made xs e)
  openings-made (Made f ∷ xs) e = openings-made xs e

  -- a longer history has the same opening
  pub opening-longer : (xs ys : List (Line E)) (o : Params × ℕ) → opening_of xs ≡ Some o → opening_of (xs ++ ys) ≡ Some o
  opening-longer [] ys o is = absurd (cc)
  opening-longer (Opening a i p ∷ xs) ys o is = is
  opening-longer (Made e ∷ xs) ys o is = absurd (cc)

  -- what a pass has seen and the whole history are of one place
  pub same_opening : (h seen : List (Line E)) (o u : Params × ℕ) → StartsWith h seen → opening_of seen ≡ Some u → opening_of h ≡ Some o → o ≡ u
  same_opening h seen o u starts theirs ours = let longer = opening-longer seen starts.0 u theirs in let there = ap opening_of starts.1 in cc

  module _ (by : E → ℕ) where
    kept_opening : (b : Bool) (l : Line E) (r : List (Line E)) → made (l ∷ r) ≡ made r → made (cond b (l ∷ r) r) ≡ made r
    kept_opening true l r e = e
    kept_opening false l r e = refl

    kept_made : (b : Bool) (e : E) (r : List (Line E)) → made (cond b (Made e ∷ r) r) ≡ cond b (e ∷ made r) (made r)
    kept_made true e r = refl
    kept_made false e r = refl

    pub made-own : (a : ℕ) (xs : List (Line E)) → made (own (actor_in by) a xs) ≡ own by a (made xs)
    made-own a [] = refl
    made-own a (Opening b i p ∷ xs) = kept_opening (b == a) (Opening b i p) (own (actor_in by) a xs) refl ∙ made-own a xs
    made-own a (Made e ∷ xs) = kept_made (by e == a) e (own (actor_in by) a xs) ∙ ap (λ (l : List E). cond (by e == a) (e ∷ l) l) (made-own a xs)

    pub all_made : (n : ℕ) (xs : List (Line E)) → All (λ l. actor_in by l < n) xs → All (λ e. by e < n) (made xs)
    all_made n [] all = λ k d below. absurd (omega arith)
    all_made n (Opening a i p ∷ xs) all = all_made n xs (All-tail (λ l. actor_in by l < n) (Opening a i p) xs all)
    all_made n (Made e ∷ xs) all =
        All-cons (λ e. by e < n) e (made xs) (All-head (λ l. actor_in by l < n) (Made e) xs all) (all_made n xs (All-tail (λ l. actor_in by l < n) (Made e) xs all))

    pub extends_made : (a : ℕ) (xs ys : List (Line E)) (e : E) → Extends (actor_in by) a xs (Made e) ys → Extends by a (made xs) e (made ys)
    extends_made a xs ys e x = (
      made x.0,
      sym (made-own a x.0) ∙ ap made x.1,
      ap made x.2 ∙ (made-append (xs ++ x.0) (Made e ∷ []) ∙ ap (λ (l : List E). l ++ e ∷ []) (made-append xs x.0)),
    )

    pub shown_made : (a : ℕ) (h seen : List (Line E)) → IsShown (actor_in by) a h seen → IsShown by a (made h) (made seen)
    shown_made a h seen s = record {
      prefix = (made s.prefix.0, ap made s.prefix.1 ∙ made-append seen s.prefix.0);
      all_own = sym (made-own a h) ∙ (ap made s.all_own ∙ made-own a seen);
    }

pub placed : (before entries opened number pos : ℕ) → entries ≡ before + opened → number ≡ capped entries → pos ≡ number - opened → opened < 2 ^ 32 → IsPlace pos before
placed before entries opened number pos is number_is pos_is few = ((λ small. omega arith), (λ large. omega arith))
