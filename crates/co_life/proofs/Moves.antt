-- Each step keeps the rule: the lemma `moves` says so of any step that moves or changes one pass, and each of the six kinds is shown to be one,
-- but the start and the making of a pass, which are shown by themselves.
use Rattle.std.proofs.Common.{◌≡◌, ◌≢◌, ◌⊎◌, ℕ, zero, suc, ◌+◌, ◌<◌, List, [], ◌∷◌, ◌++◌, length, set, Option, Some, None, refl, sym, ap, ◌∙◌, subst, inl, inr, ⊎_elim, arith}
use Rattle.std.specs.List.{All}
use Rattle.std.proofs.lemmas.List.Elements.{All-append}
use mathlib.Core.Option.{some, some-injective, some-ne-none}
use mathlib.Core.Logic.{dite}
use native.Mathlib.Decide.{ℕ_discrete}
use Rattle.atomic_table.specs.Table.{State, Me, Step, keeps, Allows, Splits, Joins}
use Rattle.atomic_table.proofs.Lists.{at_set, set_again, set_here, set_else, at_longer, at_last}
use Rattle.co_life.specs.declared.view.SeatView.{SeatView}
use Rattle.co_life.specs.declared.view.SeatView.TheVariants.{Keeps, Has, Spent}
use Rattle.co_life.specs.declared.view.Glance.{Glance}
use lib.ListN.{get_elem?}
use Rattle.co_life.specs.Rule.{glance, opening_view, pass_in, HasPass, Fits, IsKept, Kept}
use Rattle.co_life.specs.Steps.{dealing, dealt, entered, left_by, let_out, Learns, Tells, Looks, Appends, MayAppend}
use Rattle.co_life.specs.Views.{history_in, made_in}
use Rattle.co_life.proofs.Histories.{starts_self, starts_longer, own-other}

module _ {A : Type 0} where
  pub at_snoc : (l : List A) (a b : A) (j : ℕ) → get_elem? (l ++ a ∷ []) j ≡ some b → (get_elem? l j ≡ some b) ⊎ ((j ≡ length l) × (a ≡ b))
  at_snoc [] a b zero e = inr (refl, some-injective a b e)
  at_snoc [] a b (suc j) e = absurd (some-ne-none b (sym e))
  at_snoc (x ∷ xs) a b zero e = inl e
  at_snoc (x ∷ xs) a b (suc j) e = ⊎_elim inl (λ (t : (j ≡ length xs) × (a ≡ b)). inr (ap suc t.0, t.1)) (at_snoc xs a b j e)

  pub at_inside : (l : List A) (j : ℕ) (b : A) → get_elem? l j ≡ some b → j < length l
  at_inside [] j b e = absurd (some-ne-none b (sym e))
  at_inside (x ∷ xs) zero b e = omega arith
  at_inside (x ∷ xs) (suc j) b e = let h = at_inside xs j b e in omega arith

module _ {E : Type 0} (actor : E → ℕ) (legal : List E → Type 0) where
  -- the keeper's view tells which state it is
  pub at_keeper : (s : State E (SeatView E)) (id : ℕ) (h : List E) (n : ℕ) (i : Option (Glance E)) → Kept actor legal s → get_elem? s.views id ≡ some (Keeps h n i) → IsKept actor legal s.views id h n i
  at_keeper s id h n i k at =
      let me = k.4.alone id n h i at in
      let same : Keeps k.1 k.2 k.3 ≡ Keeps h n i = some-injective _ _ (sym k.4.keeps ∙ (ap (get_elem? s.views) (sym me) ∙ at)) in
      let hs : k.1 ≡ h = cc in
      let ns : k.2 ≡ n = cc in
      let is : k.3 ≡ i = cc in
      subst (λ (t : ℕ × List E × ℕ × Option (Glance E)). IsKept actor legal s.views t.0 t.1 t.2 t.3) (λ j. (sym me j, hs j, ns j, is j)) k.4

  -- the pass p of the seat `from` is the pass q of the seat `to` afterwards, and no other pass changes
  pub record Moved (before after : List (SeatView E)) (from to : ℕ) (p q : Glance E) : Type 0 where
    pub same_actor : q.actor ≡ p.actor
    pub was : HasPass before from p
    pub is : HasPass after to q
    pub forth : (k : ℕ) (r : Glance E) → HasPass before k r → k ≢ from → HasPass after k r
    pub back : (k : ℕ) (r : Glance E) → HasPass after k r → ((k ≡ to) × (r ≡ q)) ⊎ ((k ≢ from) × HasPass before k r)

  module _ (before after : List (SeatView E)) (keeper : ℕ) (h h' : List E) (n : ℕ) (i i' : Option (Glance E)) where
    moves : (from to : ℕ) (p q : Glance E) → IsKept actor legal before keeper h n i → Moved before after from to p q
        → ((r : Glance E) → r.actor ≢ p.actor → Fits actor h r → Fits actor h' r) → Fits actor h' q
        → get_elem? after keeper ≡ some (Keeps h' n i')
        → ((k m : ℕ) (x : List E) (j : Option (Glance E)) → get_elem? after k ≡ some (Keeps x m j) → k ≡ keeper)
        → All (λ e. actor e < n) h' → legal h' → IsKept actor legal after keeper h' n i'
    moves from to p q old m grows fits kept alone actors is_legal = record {
      keeps = kept;
      alone = alone;
      fits = λ k r has. ⊎_elim
          (λ (t : (k ≡ to) × (r ≡ q)). subst (λ (x : Glance E). (x.actor < n) × Fits actor h' x) (sym t.1) (subst (λ (a : ℕ). a < n) (sym m.same_actor) (old.fits from p m.was).0, fits))
          (λ (t : (k ≢ from) × HasPass before k r). let f = old.fits k r t.1 in (f.0, grows r (λ same. t.0 (old.apart k from r p t.1 m.was same)) f.1))
          (m.back k r has);
      apart = λ k l r s has has' same. ⊎_elim
          (λ (t : (k ≡ to) × (r ≡ q)). ⊎_elim
          (λ (u : (l ≡ to) × (s ≡ q)). t.0 ∙ sym u.0)
          (λ (u : (l ≢ from) × HasPass before l s). absurd (u.0 (old.apart l from s p u.1 m.was (sym same ∙ (ap (λ (x : Glance E). x.actor) t.1 ∙ m.same_actor)))))
          (m.back l s has'))
          (λ (t : (k ≢ from) × HasPass before k r). ⊎_elim
          (λ (u : (l ≡ to) × (s ≡ q)). absurd (t.0 (old.apart k from r p t.1 m.was (same ∙ (ap (λ (x : Glance E). x.actor) u.1 ∙ m.same_actor)))))
          (λ (u : (l ≢ from) × HasPass before l s). old.apart k l r s t.1 u.1 same)
          (m.back l s has'))
          (m.back k r has);
      each = λ a below. let o = old.each a below in dite (ℕ_discrete o.0 from)
          (λ here. (to, q, m.is, m.same_actor ∙ (sym (ap (λ (x : Glance E). x.actor) (one_pass o.0 from o.1 p here o.2 m.was)) ∙ o.3)))
          (λ there. (o.0, o.1, m.forth o.0 o.1 o.2 there, o.3));
      actors = actors;
      is_legal = is_legal;
    }
      where
        one_pass : (k l : ℕ) (r s : Glance E) → k ≡ l → HasPass before k r → HasPass before l s → r ≡ s
        one_pass k l r s e x y =
            let vs : x.0 ≡ y.0 = some-injective _ _ (sym x.1 ∙ (ap (get_elem? before) e ∙ y.1)) in
            let ps : Some r ≡ Some s = sym x.2 ∙ (ap pass_in vs ∙ y.2) in
            cc

  -- the start
  pub opens : (legal [] → Kept actor legal record { words = 0 ∷ []; homes = []; views = opening_view ∷ [] })
  opens empty = (
    0,
    [],
    0,
    None,
    record {
      keeps = refl;
      alone = λ k n h i e. first_only k (Keeps h n i) e;
      fits = λ k p has. absurd (nobody k p has);
      apart = λ k l p q has _ _. absurd (nobody k p has);
      each = λ a below. absurd (omega arith);
      actors = λ k d below. absurd (omega arith);
      is_legal = empty;
    },
  )
    where
      first_only : (k : ℕ) (v : SeatView E) → get_elem? (opening_view ∷ []) k ≡ some v → k ≡ 0
      first_only zero v e = refl
      first_only (suc k) v e = absurd (some-ne-none v (sym e))

      nobody : (k : ℕ) (p : Glance E) → HasPass (opening_view ∷ []) k p → ⊥
      nobody zero p has = let v : opening_view ≡ has.0 = some-injective _ _ has.1 in let none : None ≡ Some p = ap pass_in v ∙ has.2 in cc
      nobody (suc k) p has = some-ne-none has.0 (sym has.1)

  keeps_apart : (p : Glance E) (h : List E) (n : ℕ) (i : Option (Glance E)) → Has p ≡ Keeps h n i → ⊥
  keeps_apart p h n i e = cc

  -- boot: a new pass
  pub deals : (id : ℕ) (h : List E) (n : ℕ) → Splits (Kept actor legal) id (Keeps h n None) (Keeps h (suc n) None) (Has (glance n h))
  deals id h n s rule at = let old = at_keeper s id h n None rule at in (
    id,
    h,
    suc n,
    None,
    record {
      keeps = at_longer after (new ∷ []) id left (set_here s.views id left (at_inside s.views id _ at));
      alone = λ k m x j e. ⊎_elim
          (λ (there : get_elem? after k ≡ some (Keeps x m j)). ⊎_elim (λ (t : (k ≡ id) × (left ≡ Keeps x m j)). t.0) (λ (t : (k ≢ id) × (get_elem? s.views k ≡ some (Keeps x m j))). old.alone k m x j t.1) (at_set s.views id k left _ there))
          (λ (t : (k ≡ length after) × (new ≡ Keeps x m j)). absurd (keeps_apart _ x m j t.1))
          (at_snoc after new _ k e);
      fits = λ k p has. ⊎_elim
          (λ (t : (k ≡ length after) × (p ≡ glance n h)). subst (λ (x : Glance E). (x.actor < suc n) × Fits actor h x) (sym t.1) (omega arith, record { prefix = starts_self h; all_own = refl }))
          (λ (was : HasPass s.views k p). let f = old.fits k p was in let b = f.0 in (omega arith, f.1))
          (back old k p has);
      apart = λ k l p q has has' same. ⊎_elim
          (λ (t : (k ≡ length after) × (p ≡ glance n h)). ⊎_elim
          (λ (u : (l ≡ length after) × (q ≡ glance n h)). t.0 ∙ sym u.0)
          (λ (u : HasPass s.views l q). let b = (old.fits l q u).0 in let a = ap (λ (x : Glance E). x.actor) t.1 in absurd (omega arith))
          (back old l q has'))
          (λ (t : HasPass s.views k p). ⊎_elim
          (λ (u : (l ≡ length after) × (q ≡ glance n h)). let b = (old.fits k p t).0 in let a = ap (λ (x : Glance E). x.actor) u.1 in absurd (omega arith))
          (λ (u : HasPass s.views l q). old.apart k l p q t u same)
          (back old l q has'))
          (back old k p has);
      each = λ a below. dite (ℕ_discrete a n)
          (λ here. (length after, glance n h, (new, at_last after new (length after) refl, refl), sym here))
          (λ there. let o = old.each a (omega arith) in (o.0, o.1, forth o.0 o.1 o.2, o.3));
      actors = λ k d below. let b = old.actors k d below in omega arith;
      is_legal = old.is_legal;
    },
  )
    where
      left : SeatView E
      left = Keeps h (suc n) None

      new : SeatView E
      new = Has (glance n h)

      after : List (SeatView E)
      after = set s.views id left

      back : IsKept actor legal s.views id h n None → (k : ℕ) (p : Glance E) → HasPass (after ++ new ∷ []) k p → ((k ≡ length after) × (p ≡ glance n h)) ⊎ HasPass s.views k p
      back old k p has = ⊎_elim
          (λ (there : get_elem? after k ≡ some has.0). ⊎_elim
          (λ (t : (k ≡ id) × (left ≡ has.0)). let none : None ≡ Some p = ap pass_in t.1 ∙ has.2 in absurd (cc))
          (λ (t : (k ≢ id) × (get_elem? s.views k ≡ some has.0)). inr (has.0, t.1, has.2))
          (at_set s.views id k left has.0 there))
          (λ (t : (k ≡ length after) × (new ≡ has.0)). let one : Some (glance n h) ≡ Some p = ap pass_in t.1 ∙ has.2 in inl (t.0, cc))
          (at_snoc after new has.0 k has.1)

      forth : (k : ℕ) (p : Glance E) → HasPass s.views k p → HasPass (after ++ new ∷ []) k p
      forth k p has = dite (ℕ_discrete k id)
          (λ here. let v : Keeps h n None ≡ has.0 = some-injective _ _ (sym at ∙ (ap (get_elem? s.views) (sym here) ∙ has.1)) in let none : None ≡ Some p = ap pass_in v ∙ has.2 in absurd (cc))
          (λ there. (has.0, at_longer after (new ∷ []) k has.0 (set_else s.views id k left there ∙ has.1), has.2))

  -- a pass comes in
  pub enters : (id : ℕ) (h : List E) (n other : ℕ) (p : Glance E) → Joins (Kept actor legal) id (Keeps h n None) other (Has p) (Keeps h n (Some p)) Spent
  enters id h n other p s rule at apart there =
      let old = at_keeper s id h n None rule at in
      let p_at : get_elem? s.views other ≡ some (Has p) = sym (set_else s.views id other inside apart) ∙ there in
      let was : HasPass s.views other p = (Has p, p_at, refl) in
      let me_at : get_elem? after id ≡ some inside = set_else first other id Spent (λ e. apart (sym e)) ∙ set_here s.views id inside (at_inside s.views id _ at) in
      let m : Moved s.views after other id p p = record {
        same_actor = refl;
        was = was;
        is = (inside, me_at, refl);
        forth = λ k r has away. dite (ℕ_discrete k id)
            (λ here. let v : Keeps h n None ≡ has.0 = some-injective _ _ (sym at ∙ (ap (get_elem? s.views) (sym here) ∙ has.1)) in let none : None ≡ Some r = ap pass_in v ∙ has.2 in absurd (cc))
            (λ else. (has.0, set_else first other k Spent away ∙ (set_else s.views id k inside else ∙ has.1), has.2));
        back = back;
      } in
      (id, h, n, Some p, moves s.views after id h h n None (Some p) other id p p old m (λ r _ f. f) (old.fits other p was).1 me_at (alone old) old.actors old.is_legal)
    where
      inside : SeatView E
      inside = Keeps h n (Some p)

      first : List (SeatView E)
      first = set s.views id inside

      after : List (SeatView E)
      after = set first other Spent

      alone : IsKept actor legal s.views id h n None → (k m : ℕ) (x : List E) (j : Option (Glance E)) → get_elem? after k ≡ some (Keeps x m j) → k ≡ id
      alone old k m x j e = ⊎_elim
          (λ (t : (k ≡ other) × (Spent ≡ Keeps x m j)). let no = t.1 in absurd (cc))
          (λ (t : (k ≢ other) × (get_elem? first k ≡ some (Keeps x m j))). ⊎_elim
          (λ (u : (k ≡ id) × (inside ≡ Keeps x m j)). u.0)
          (λ (u : (k ≢ id) × (get_elem? s.views k ≡ some (Keeps x m j))). old.alone k m x j u.1)
          (at_set s.views id k inside _ t.1))
          (at_set first other k Spent _ e)

      back : (k : ℕ) (r : Glance E) → HasPass after k r → ((k ≡ id) × (r ≡ p)) ⊎ ((k ≢ other) × HasPass s.views k r)
      back k r has = ⊎_elim
          (λ (t : (k ≡ other) × (Spent ≡ has.0)). let none : None ≡ Some r = ap pass_in t.1 ∙ has.2 in absurd (cc))
          (λ (t : (k ≢ other) × (get_elem? first k ≡ some has.0)). ⊎_elim
          (λ (u : (k ≡ id) × (inside ≡ has.0)). let one : Some p ≡ Some r = ap pass_in u.1 ∙ has.2 in inl (u.0, cc))
          (λ (u : (k ≢ id) × (get_elem? s.views k ≡ some has.0)). inr (t.0, (has.0, u.1, has.2)))
          (at_set s.views id k inside has.0 t.1))
          (at_set first other k Spent has.0 has.1)

  -- the pass inside goes out
  pub leaves : (id : ℕ) (h : List E) (n : ℕ) (p : Glance E) → Splits (Kept actor legal) id (Keeps h n (Some p)) (Keeps h n None) (Has p)
  leaves id h n p s rule at =
      let old = at_keeper s id h n (Some p) rule at in
      let was : HasPass s.views id p = (Keeps h n (Some p), at, refl) in
      let me_at : get_elem? after id ≡ some left = at_longer first (Has p ∷ []) id left (set_here s.views id left (at_inside s.views id _ at)) in
      let m : Moved s.views after id (length first) p p = record {
        same_actor = refl;
        was = was;
        is = (Has p, at_last first (Has p) (length first) refl, refl);
        forth = λ k r has away. (has.0, at_longer first (Has p ∷ []) k has.0 (set_else s.views id k left away ∙ has.1), has.2);
        back = back;
      } in
      (id, h, n, None, moves s.views after id h h n (Some p) None id (length first) p p old m (λ r _ f. f) (old.fits id p was).1 me_at (alone old) old.actors old.is_legal)
    where
      left : SeatView E
      left = Keeps h n None

      first : List (SeatView E)
      first = set s.views id left

      after : List (SeatView E)
      after = first ++ Has p ∷ []

      alone : IsKept actor legal s.views id h n (Some p) → (k m : ℕ) (x : List E) (j : Option (Glance E)) → get_elem? after k ≡ some (Keeps x m j) → k ≡ id
      alone old k m x j e = ⊎_elim
          (λ (t : get_elem? first k ≡ some (Keeps x m j)). ⊎_elim
          (λ (u : (k ≡ id) × (left ≡ Keeps x m j)). u.0)
          (λ (u : (k ≢ id) × (get_elem? s.views k ≡ some (Keeps x m j))). old.alone k m x j u.1)
          (at_set s.views id k left _ t))
          (λ (t : (k ≡ length first) × (Has p ≡ Keeps x m j)). absurd (keeps_apart p x m j t.1))
          (at_snoc first (Has p) _ k e)

      back : (k : ℕ) (r : Glance E) → HasPass after k r → ((k ≡ length first) × (r ≡ p)) ⊎ ((k ≢ id) × HasPass s.views k r)
      back k r has = ⊎_elim
          (λ (t : get_elem? first k ≡ some has.0). ⊎_elim
          (λ (u : (k ≡ id) × (left ≡ has.0)). let none : None ≡ Some r = ap pass_in u.1 ∙ has.2 in absurd (cc))
          (λ (u : (k ≢ id) × (get_elem? s.views k ≡ some has.0)). inr (u.0, (has.0, u.1, has.2)))
          (at_set s.views id k left has.0 t))
          (λ (t : (k ≡ length first) × (Has p ≡ has.0)). let one : Some p ≡ Some r = ap pass_in t.1 ∙ has.2 in inl (t.0, cc))
          (at_snoc first (Has p) has.0 k has.1)

  -- the keeper looks
  pub looks : (slots id : ℕ) (h : List E) (n : ℕ) (p : Glance E) (st : Step E)
      → Allows (Kept actor legal) slots id (Keeps h n (Some p), []) 0 (λ x. x) (Looks actor legal st (Keeps h n (Some p), []))
  looks slots id h n p st s rule _ at _ =
      let old = at_keeper s id h n (Some p) rule at in
      let mine = old.fits id p (Keeps h n (Some p), at, refl) in
      let same : IsKept actor legal (set s.views id (Keeps h n (Some p))) id h n (Some p) =
      subst (λ (vs : List (SeatView E)). IsKept actor legal vs id h n (Some p)) (sym (set_again s.views id _ at)) old in
      (Keeps h n (Some p), keeps, tt, (id, h, n, Some p, same), (refl, record { fits = mine.1; below = mine.0; actors = old.actors; is_legal = old.is_legal }))

  one_below : (e : E) (n : ℕ) → actor e < n → All (λ x. actor x < n) (e ∷ [])
  one_below e n below zero d in_list = below
  one_below e n below (suc k) d in_list = absurd (omega arith)

  pub all_below : (h : List E) (e : E) (n a : ℕ) → actor e ≡ a → All (λ x. actor x < n) h → a < n → All (λ x. actor x < n) (h ++ e ∷ [])
  all_below h e n a by below mine = All-append (λ x. actor x < n) h (e ∷ []) below (one_below e n (subst (λ (i : ℕ). i < n) (sym by) mine))

  -- the actor inside appends an entry
  pub appends : (slots id : ℕ) (h : List E) (n : ℕ) (p : Glance E) (e : E) (st : Step E) → actor e ≡ p.actor → legal (h ++ e ∷ [])
      → Allows (Kept actor legal) slots id (Keeps h n (Some p), []) 0 (λ x. x) (Appends (Some e) st (Keeps h n (Some p), []))
  appends slots id h n p e st by next s rule _ at _ =
      let old = at_keeper s id h n (Some p) rule at in
      let below = (old.fits id p (Keeps h n (Some p), at, refl)).0 in
      let q = glance p.actor (h ++ e ∷ []) in
      let w : SeatView E = Keeps (h ++ e ∷ []) n (Some q) in
      let after = set s.views id w in
      let me_at : get_elem? after id ≡ some w = set_here s.views id w (at_inside s.views id _ at) in
      let m : Moved s.views after id id p q = record {
        same_actor = refl;
        was = (Keeps h n (Some p), at, refl);
        is = (w, me_at, refl);
        forth = λ k r has away. (has.0, set_else s.views id k w away ∙ has.1, has.2);
        back = λ k r has. ⊎_elim
            (λ (u : (k ≡ id) × (w ≡ has.0)). let one : Some q ≡ Some r = ap pass_in u.1 ∙ has.2 in inl (u.0, cc))
            (λ (u : (k ≢ id) × (get_elem? s.views k ≡ some has.0)). inr (u.0, (has.0, u.1, has.2)))
            (at_set s.views id k w has.0 has.1);
      } in
      let grows : (r : Glance E) → r.actor ≢ p.actor → Fits actor h r → Fits actor (h ++ e ∷ []) r = λ r other f. record {
        prefix = starts_longer h r.seen e f.prefix;
        all_own = own-other actor r.actor h e (λ same. other (sym same ∙ by)) ∙ f.all_own;
      } in
      let alone : (k m : ℕ) (x : List E) (j : Option (Glance E)) → get_elem? after k ≡ some (Keeps x m j) → k ≡ id = λ k m x j e'. ⊎_elim
      (λ (u : (k ≡ id) × (w ≡ Keeps x m j)). u.0)
      (λ (u : (k ≢ id) × (get_elem? s.views k ≡ some (Keeps x m j))). old.alone k m x j u.1)
      (at_set s.views id k w _ e') in (
        w,
        keeps,
        tt,
        (
          id,
          h ++ e ∷ [],
          n,
          Some q,
          moves s.views after id h (h ++ e ∷ []) n (Some p) (Some q) id id p q old m grows (record { prefix = starts_self (h ++ e ∷ []); all_own = refl }) me_at alone
              (all_below h e n p.actor by old.actors below) next,
        ),
        refl,
      )

  -- the same at a view that is known
  pub deals_as : (id : ℕ) (v : SeatView E) (h : List E) (n : ℕ) → v ≡ Keeps h n None → Splits (Kept actor legal) id v (dealing v) (dealt v)
  deals_as id v h n is = subst (λ (u : SeatView E). Splits (Kept actor legal) id u (dealing u) (dealt u)) (sym is) (deals id h n)

  pub enters_as : (id : ℕ) (v : SeatView E) (h : List E) (n other : ℕ) (w : SeatView E) (p : Glance E) → v ≡ Keeps h n None → w ≡ Has p → Joins (Kept actor legal) id v other w (entered v w) Spent
  enters_as id v h n other w p is is' = subst (λ (u : SeatView E × SeatView E). Joins (Kept actor legal) id u.0 other u.1 (entered u.0 u.1) Spent) (λ j. (sym is j, sym is' j)) (enters id h n other p)

  pub leaves_as : (id : ℕ) (v : SeatView E) (h : List E) (n : ℕ) (p : Glance E) → v ≡ Keeps h n (Some p) → Splits (Kept actor legal) id v (left_by v) (let_out v)
  leaves_as id v h n p is = subst (λ (u : SeatView E). Splits (Kept actor legal) id u (left_by u) (let_out u)) (sym is) (leaves id h n p)

  pub looks_as : (slots id : ℕ) (m : Me E (SeatView E)) (h : List E) (n : ℕ) (p : Glance E) (st : Step E) → m ≡ (Keeps h n (Some p), [])
      → Allows (Kept actor legal) slots id m 0 (λ x. x) (Looks actor legal st m)
  looks_as slots id m h n p st is = subst (λ (u : Me E (SeatView E)). Allows (Kept actor legal) slots id u 0 (λ x. x) (Looks actor legal st u)) (sym is) (looks slots id h n p st)

  pub appends_as : (slots id : ℕ) (m : Me E (SeatView E)) (p : Glance E) (e : E) (said : Option E) (st : Step E) → said ≡ Some e → MayAppend actor legal m p e
      → Allows (Kept actor legal) slots id m 0 (λ x. x) (Appends said st m)
  appends_as slots id m p e said st is may = subst (λ (u : Me E (SeatView E) × Option E). Allows (Kept actor legal) slots id u.0 0 (λ x. x) (Appends u.1 st u.0))
      (λ j. (sym may.inside j, sym is j)) (appends slots id (history_in m.0) (made_in m.0) p e st may.own may.is_legal)

  -- what a look tells of a keeper with this pass inside
  pub learnt : (m : Me E (SeatView E)) (h : List E) (n : ℕ) (p : Glance E) → m.0 ≡ Keeps h n (Some p) → Tells actor legal m.0 → Learns actor legal h n p
  learnt m h n p is t = subst (Tells actor legal) is t
