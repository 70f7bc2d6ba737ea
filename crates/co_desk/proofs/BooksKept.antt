-- The books of a desk: a keeper at its number, and the books after it has changed.
use Rattle.std.proofs.Common.{◌≡◌, ℕ, zero, suc, ◌<◌, true, List, [], ◌∷◌, length, map, set, sym, ap, ◌∙◌, subst, arith, rules}
use Rattle.std.specs.Prelude.{slice_get, slice_index_or, is_some, IsSome}
use Rattle.std.specs.declared.option.Option.{Option}
use Rattle.std.specs.declared.option.Option.TheVariants.{Some, None}
use mathlib.Core.Logic.{dite}
use native.Mathlib.Decide.{ℕ_discrete}
use Rattle.co_life.specs.Identity.{LifeId}
use Rattle.co_life.specs.Views.{KeeperView}
use Rattle.co_object.specs.declared.note.Entry.{Entry}
use Rattle.co_object.specs.declared.note.QEntry.{QEntry}
use Rattle.co_desk.specs.declared.params.Params.{Params}
use Rattle.co_desk.specs.declared.line.Line.{Line}
use Rattle.co_desk.specs.Name.{ServiceName}
use Rattle.co_desk.specs.Lines.{actor_in, made, opening_of}
use Rattle.co_desk.specs.Seats.{SeatsView, seen_at, IsShown}
use Rattle.co_desk.specs.Stories.{IsHistory}
use Rattle.co_desk.specs.Views.{AreOpened, IsKeeperOf}
use Rattle.co_desk.specs.Books.{BooksView, books_of, history_at, entries_in, entries_at, is_kept, with_history, kept_of, IsHistoryKept, AreBooks}
use Rattle.co_desk.proofs.Items.{get_here, get_or_of, set_map, set_same, index_set, index_else}
use Rattle.co_desk.proofs.Entries.{shown_made, same_opening}
use Rattle.co_desk.proofs.Writing.{index-map}

pub below_kept : (ks : List (Option (KeeperView (Line Entry)))) (i : ℕ) → is_some (slice_index_or (map kept_of ks) i None) ≡ true → i < length ks
below_kept [] i h = absurd (cc)
below_kept (k ∷ ks) zero h = omega arith
below_kept (k ∷ ks) (suc i) h = let r = below_kept ks i h in omega arith

kept_some : (k : Option (KeeperView (Line Entry))) → is_some (kept_of k) ≡ true → IsSome k
kept_some None h = absurd (cc)
kept_some (Some k) h = search rules

-- two lives of one place
pub same_life : (xs ys : List LifeId) (i : ℕ) (a b : LifeId) → xs ≡ ys → slice_get xs i ≡ Some a → slice_get ys i ≡ Some b → a ≡ b
same_life xs ys i a b same l r = let e : slice_get xs i ≡ slice_get ys i = ap (λ (l : List LifeId). slice_get l i) same in cc

module _ (name : ServiceName) (p : Params) (cpu : ℕ) (ks : List (Option (KeeperView (Line Entry)))) (j : KeeperView (Line QEntry)) (b : BooksView) (are : AreBooks name p cpu ks j) (view : books_of p cpu ks j ≡ b) (i : ℕ) where
  pub params_are : b.params ≡ p
  params_are = ap (λ (v : BooksView). v.params) (sym view)

  pub below_here : is_kept b i ≡ true → i < length ks
  below_here here = below_kept ks i (ap (λ (v : BooksView). is_kept v i) view ∙ here)

  -- the keeper of a history that stands here is there
  pub some_here : (x : Option (KeeperView (Line Entry))) → is_kept b i ≡ true → x ≡ slice_index_or ks i x → IsSome x
  some_here x here at =
      let there : slice_index_or ks i None ≡ x = get_or_of ks i None x (get_here ks i x (below_here here) at) in
      kept_some x (ap (λ (o : Option (KeeperView (Line Entry))). is_some (kept_of o)) (sym there) ∙ (ap is_some (sym (index-map kept_of ks i None)) ∙ (ap (λ (v : BooksView). is_kept v i) view ∙ here)))

  module _ (x : Option (KeeperView (Line Entry))) (k : KeeperView (Line Entry)) (here : is_kept b i ≡ true) (at : x ≡ slice_index_or ks i x) (is : x ≡ Some k) where
    keeper_here : slice_index_or ks i None ≡ Some k
    keeper_here = get_or_of ks i None x (get_here ks i x (below_here here) at) ∙ is

    pub keeper_of : IsKeeperOf IsHistory name.timers b.params i k
    keeper_of = subst (λ (r : Params). IsKeeperOf IsHistory name.timers r i k) (sym params_are) (subst (IsHistoryKept name.timers p i) keeper_here (are.each i))

    pub history_here : history_at b i ≡ Some (made k.history)
    history_here = ap (λ (v : BooksView). history_at v i) (sym view) ∙ (index-map kept_of ks i None ∙ ap kept_of keeper_here)

    pub legal_here : IsHistory b.params i (entries_at b i)
    legal_here = subst (λ o. IsHistory b.params i (entries_in o)) (sym history_here) keeper_of.legal

    pub same_books : (k' : KeeperView (Line Entry)) → k' ≡ k → books_of p cpu (set ks i (Some k')) j ≡ b
    same_books k' same =
        ap (λ (l : List (Option (KeeperView (Line Entry)))). books_of p cpu l j) (ap (λ (t : KeeperView (Line Entry)). set ks i (Some t)) same ∙ set_same ks i (Some k) (get_here ks i x (below_here here) at ∙ ap Some is)) ∙ view

  pub set_once : (new : Option (KeeperView (Line Entry))) → books_of p cpu (set ks i new) j ≡ with_history b i (kept_of new)
  set_once new = (λ d. record { params = p; cpu = cpu; timers = set_map kept_of ks i new d; journal = made j.history }) ∙ ap (λ (v : BooksView). with_history v i (kept_of new)) view

  pub kept_once : (new : Option (KeeperView (Line Entry))) → i < length ks → IsHistoryKept name.timers p i new → AreBooks name p cpu (set ks i new) j
  kept_once new below kept = record {
    own = are.own;
    each = λ m. dite (ℕ_discrete m i)
        (λ same. subst (λ (n : ℕ). IsHistoryKept name.timers p n (slice_index_or (set ks i new) n None)) (sym same) (subst (IsHistoryKept name.timers p i) (sym (index_set ks i new None below)) kept))
        (λ away. subst (IsHistoryKept name.timers p m) (sym (index_else ks i m new None away)) (are.each m));
  }

  -- a keeper of what the books say of the service
  pub of_params : (k : KeeperView (Line Entry)) → IsKeeperOf IsHistory name.timers b.params i k → IsHistoryKept name.timers p i (Some k)
  of_params k at = subst (λ (r : Params). IsKeeperOf IsHistory name.timers r i k) params_are at

-- what a pass has met at place i, whose history this is
module _ {E : Type 0} (made_by : E → ℕ) (params : Params) (actor count i : ℕ) (s : SeatsView (Line E)) (o : AreOpened params actor count s) (h : List (Line E)) (shown : IsShown (actor_in made_by) s.actor h (seen_at s i)) where
  pub seat_shown : IsShown made_by actor (made h) (slice_index_or (map made s.seen) i [])
  seat_shown = subst (λ (t : ℕ × List E). IsShown made_by t.0 (made h) t.1) (λ d. (o.own d, sym (index-map made s.seen i []) d)) (shown_made made_by s.actor h (seen_at s i) shown)

  pub seat_opened : (r : Params) → i < length s.name → opening_of h ≡ Some (r, i) → opening_of h ≡ Some (params, i)
  seat_opened r below opened = opened ∙ ap (λ (t : Params × ℕ). Some t) (same_opening h (seen_at s i) (r, i) (params, i) shown.prefix (o.opened i (let n = o.named in omega arith)) opened)
