-- What a write in a shared history leaves: the keeper of its place, and the passes of the actor that made it.
use Rattle.std.proofs.Common.{◌≡◌, ℕ, zero, suc, ◌-◌, ◌<◌, ◌^◌, List, [], ◌∷◌, ◌++◌, length, map, set, Some, refl, sym, ap, ◌∙◌, subst, arith, length-append, length-set}
use Rattle.std.specs.Prelude.{slice_get, slice_set, slice_index_or}
use Rattle.std.specs.List.{All}
use mathlib.Core.Logic.{dite}
use native.Mathlib.Decide.{ℕ_discrete}
use Rattle.co_life.specs.Identity.{LifeId}
use Rattle.co_life.specs.Seen.{Extends}
use Rattle.co_life.specs.Views.{KeeperView}
use Rattle.co_desk.specs.declared.params.Params.{Params}
use Rattle.co_desk.specs.declared.line.Line.{Line}
use Rattle.co_desk.specs.declared.line.Line.TheVariants.{Made}
use Rattle.co_desk.specs.Params.{actor_count}
use Rattle.co_desk.specs.Lines.{actor_in, made, opening_of, IsStory}
use Rattle.co_desk.specs.Seats.{IsWritten, SeatsView, seen_at}
use Rattle.co_desk.specs.Views.{AreOpened, IsKeeperOf}
use Rattle.co_desk.specs.Writes.{Adds}
use Rattle.co_desk.proofs.Items.{set_map, index_set, index_else}
use Rattle.co_desk.proofs.Entries.{made-append, length-made, carry-made, openings-made, opening-longer, extends_made, all_made, placed}

pub index-map : {A B : Type 0} (f : A → B) (xs : List A) (i : ℕ) (d : A) → slice_index_or (map f xs) i (f d) ≡ f (slice_index_or xs i d)
index-map f [] i d = refl
index-map f (x ∷ xs) zero d = refl
index-map f (x ∷ xs) (suc i) d = index-map f xs i d

pub below_get : {A : Type 0} (xs : List A) (i : ℕ) (x : A) → slice_get xs i ≡ Some x → i < length xs
below_get [] i x e = absurd (cc)
below_get (y ∷ xs) zero x e = omega arith
below_get (y ∷ xs) (suc i) x e = let h = below_get xs i x e in omega arith

module _ {E : Type 0} (by : E → ℕ) (Legal : Params → ℕ → List E → Type 0) where
  module _ (lives : List LifeId) (p : Params) (i : ℕ) (k : KeeperView (Line E)) (e : E) (at : IsKeeperOf Legal lives p i k) (legal : Legal p i (made k.history ++ e ∷ [])) where
    legal_next : Legal p i (made (k.history ++ Made e ∷ []))
    legal_next = subst (Legal p i) (sym (made-append k.history (Made e ∷ []))) legal

    pub story_next : IsStory Legal (k.history ++ Made e ∷ [])
    story_next = record { params = p; place = i; carry = carry-made p i k.history e at.carry; legal = legal_next }

    pub keeper_next : (k' : KeeperView (Line E)) → k' ≡ record k { history = k.history ++ Made e ∷ [] } → IsKeeperOf Legal lives p i k'
    keeper_next k' is = subst (IsKeeperOf Legal lives p i) (sym is) record {
      life = at.life;
      actors = at.actors;
      opened = opening-longer k.history (Made e ∷ []) (p, i) at.opened;
      carry = carry-made p i k.history e at.carry;
      count = openings-made k.history e ∙ at.count;
      legal = legal_next;
    }

    pub history_next : (k' : KeeperView (Line E)) → k' ≡ record k { history = k.history ++ Made e ∷ [] } → made k'.history ≡ made k.history ++ e ∷ []
    history_next k' is = ap (λ (t : KeeperView (Line E)). made t.history) is ∙ made-append k.history (Made e ∷ [])

    module _ (k' : KeeperView (Line E)) (s s' : SeatsView (Line E)) (number : ℕ) (w : IsWritten (actor_in by) s i (Made e) k number k' s') where
      pub adds_next : (actor opened pos : ℕ) → s.actor ≡ actor → by e ≡ actor → opened ≡ actor_count p → opened < 2 ^ 32 → pos ≡ number - opened
          → Adds by Legal p actor i e pos (slice_index_or (map made s.seen) i []) (made k'.history)
      adds_next actor opened pos own mine is few pos_is = record {
        own = mine;
        extends = subst (λ (t : ℕ × List E). Extends by t.0 t.1 e (made k'.history)) (λ j. (own j, sym (index-map made s.seen i []) j)) (extends_made by s.actor (seen_at s i) k'.history e w.extends);
        legal = (keeper_next k' w.keeper).legal;
        place = λ before long. placed before (length k.history) opened number pos
            (let a = ap length (history_next k' w.keeper) in let b = length-append (made k.history) (e ∷ []) in let c = length-made k.history in let d = at.count in omega arith)
            w.position pos_is few;
        actors = subst (λ (n : ℕ). All (λ x. by x < n) (made k'.history)) (ap (λ (t : KeeperView (Line E)). t.actors) w.keeper ∙ at.actors) (all_made by k'.actors k'.history w.actors);
      }

      pub seen_next : map made s'.seen ≡ slice_set (map made s.seen) i (made k'.history)
      seen_next = ap (map made) w.seen ∙ set_map made s.seen i k'.history

      pub opened_next : (actor count : ℕ) → AreOpened p actor count s → AreOpened p actor count s'
      opened_next actor count o = record {
        own = w.actor ∙ o.own;
        named = ap length w.name ∙ o.named;
        count_is = ap length w.seen ∙ (length-set s.seen i k'.history ∙ o.count_is);
        opened = λ j below. ap (λ (l : List (List (Line E))). opening_of (slice_index_or l j [])) w.seen ∙ (dite (ℕ_discrete j i)
            (λ here. ap opening_of (ap (λ (n : ℕ). slice_index_or (set s.seen i k'.history) n []) here ∙ index_set s.seen i k'.history [] (let n = o.count_is in omega arith)) ∙ ((keeper_next k' w.keeper).opened ∙ ap (λ (n : ℕ). Some (p, n)) (sym here)))
            (λ away. ap opening_of (index_else s.seen i j k'.history [] away) ∙ o.opened j below));
      }
