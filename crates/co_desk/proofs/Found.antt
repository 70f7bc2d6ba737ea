-- A pass at its place in an actor's list.
use Rattle.std.proofs.Common.{◌≡◌, ℕ, ◌<◌, List, [], ◌∷◌, ◌++◌, length, map, set, Option, Some, None, sym, ap, ◌∙◌, subst, rules}
use Rattle.std.specs.Prelude.{slice_get, slice_index_or, IsSome, OnErr, OnOk}
use Rattle.std.specs.declared.result.Result.{Result}
use Rattle.std.specs.declared.result.Result.TheVariants.{Ok, Err}
use Rattle.std.specs.List.{All}
use Rattle.co_life.specs.Identity.{LifeId}
use Rattle.co_life.specs.Views.{PassView}
use Rattle.co_desk.specs.Seats.{SeatsView, life_in, seats_of, seen_in, IsOwn}
use Rattle.co_desk.proofs.Items.{get_or_of, set_set, set_same, all_at, all_more, all_set, set_map, get_map, got_map, map_more}
use Rattle.co_desk.proofs.Writing.{below_get}

module _ {E : Type 0} where
  -- the pass h of a life stands at i
  pub record Found (ps : List (Option (PassView E))) (i : ℕ) (life : LifeId) (h : PassView E) : Type 0 where
    pub here : slice_get ps i ≡ Some (Some h)
    pub of : h.life ≡ life

  pub found : (ps : List (Option (PassView E))) (i : ℕ) (life : LifeId) (x : Option (PassView E)) (h : PassView E) → slice_get (map life_in ps) i ≡ Some life → x ≡ slice_index_or ps i x → x ≡ Some h → Found ps i life h
  found ps i life x h named at is =
      let p = got_map life_in ps i life named in
      let px : x ≡ p.0 = at ∙ get_or_of ps i x p.0 p.1 in
      let ph : p.0 ≡ Some h = sym px ∙ is in record {
        here = p.1 ∙ ap Some ph;
        of = ap life_in (sym ph) ∙ p.2;
      }

  pub seen_is : (ps : List (Option (PassView E))) (i : ℕ) (life : LifeId) (h : PassView E) → Found ps i life h → slice_index_or (map seen_in ps) i [] ≡ h.seen
  seen_is ps i life h at = get_or_of (map seen_in ps) i [] h.seen (get_map seen_in ps i (Some h) at.here)

  pub own_at : (ps : List (Option (PassView E))) (i : ℕ) (life : LifeId) (h : PassView E) (a : ℕ) → Found ps i life h → All (IsOwn a) ps → h.actor ≡ a
  own_at ps i life h a at all = all_at (IsOwn a) ps i (Some h) all at.here

  pub same_name : (ps : List (Option (PassView E))) (i : ℕ) (life : LifeId) (h new : PassView E) (gone : Option (PassView E)) → Found ps i life h → new.life ≡ life → map life_in (set (set ps i gone) i (Some new)) ≡ map life_in ps
  same_name ps i life h new gone at is =
      ap (map life_in) (set_set ps i gone (Some new)) ∙ (set_map life_in ps i (Some new) ∙ (ap (set (map life_in ps) i) (is ∙ sym at.of) ∙ set_same (map life_in ps) i h.life (get_map life_in ps i (Some h) at.here)))

  pub new_seen : (ps : List (Option (PassView E))) (i : ℕ) (new : PassView E) (gone : Option (PassView E)) → map seen_in (set (set ps i gone) i (Some new)) ≡ set (map seen_in ps) i new.seen
  new_seen ps i new gone = ap (map seen_in) (set_set ps i gone (Some new)) ∙ set_map seen_in ps i (Some new)

  pub same_all : (ps : List (Option (PassView E))) (i : ℕ) (life : LifeId) (h new : PassView E) (gone : Option (PassView E)) → Found ps i life h → new ≡ h → set (set ps i gone) i (Some new) ≡ ps
  same_all ps i life h new gone at is = set_set ps i gone (Some new) ∙ (ap (λ (t : PassView E). set ps i (Some t)) is ∙ set_same ps i (Some h) at.here)

  pub within : (ps : List (Option (PassView E))) (i : ℕ) (life : LifeId) → slice_get (map life_in ps) i ≡ Some life → i < length ps
  within ps i life named = let p = got_map life_in ps i life named in below_get ps i p.0 p.1

  own_some : (a : ℕ) (x : Option (PassView E)) → IsOwn a x → IsSome x
  own_some a None o = absurd o
  own_some a (Some h) o = search rules

  -- at the place of a life stands a pass
  pub stands : (ps : List (Option (PassView E))) (i : ℕ) (life : LifeId) (x : Option (PassView E)) (a : ℕ) → slice_get (map life_in ps) i ≡ Some life → x ≡ slice_index_or ps i x → All (IsOwn a) ps → IsSome x
  stands ps i life x a named at all =
      let p = got_map life_in ps i life named in
      subst IsSome (sym (at ∙ get_or_of ps i x p.0 p.1)) (own_some a p.0 (all_at (IsOwn a) ps i p.0 all p.1))

  -- the actor's pass is put back
  pub owned : (ps : List (Option (PassView E))) (i : ℕ) (gone : Option (PassView E)) (new : PassView E) (a : ℕ) → All (IsOwn a) ps → new.actor ≡ a → All (IsOwn a) (set (set ps i gone) i (Some new))
  owned ps i gone new a all own = subst (All (IsOwn a)) (sym (set_set ps i gone (Some new))) (all_set (IsOwn a) ps i (Some new) all own)

  -- a pass of one place more, where there was room for it
  module _ {V R : Type 0} (a : ℕ) (ps ps' : List (Option (PassView E))) (h : PassView E) where
    pub seats_pushed : (r : Result V R) (s : SeatsView E) → seats_of a ps ≡ s → OnOk r (ps' ≡ ps ++ Some h ∷ []) → OnOk r (seats_of a ps' ≡ record s { name = s.name ++ h.life ∷ []; seen = s.seen ++ h.seen ∷ [] })
    seats_pushed (Err e) s view is = tt
    seats_pushed (Ok x) s view is =
        (λ d. record { name = (ap (map life_in) is ∙ map_more life_in ps (Some h)) d; actor = a; seen = (ap (map seen_in) is ∙ map_more seen_in ps (Some h)) d })
        ∙ ap (λ (t : SeatsView E). record t { name = t.name ++ h.life ∷ []; seen = t.seen ++ h.seen ∷ [] }) view

    pub owned_pushed : (r : Result V R) → All (IsOwn a) ps → h.actor ≡ a → OnOk r (ps' ≡ ps ++ Some h ∷ []) → OnErr r (ps' ≡ ps) → All (IsOwn a) ps'
    owned_pushed (Err e) all own more same = subst (All (IsOwn a)) (sym same) all
    owned_pushed (Ok x) all own more same = subst (All (IsOwn a)) (sym more) (all_more (IsOwn a) ps (Some h) all own)
