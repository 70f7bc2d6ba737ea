-- An actor's seats of all places are its passes, which have seen nothing.
use Rattle.std.proofs.Common.{◌≡◌, ◌≢◌, ℕ, zero, suc, ◌+◌, ◌<◌, List, [], ◌∷◌, ◌++◌, length, map, set, refl, sym, ap, ◌∙◌, subst, arith, length-set}
use Rattle.std.specs.Prelude.{slice_get, slice_index_or}
use Rattle.std.specs.declared.option.Option.TheVariants.{Some}
use Rattle.co_life.specs.Identity.{LifeId}
use Rattle.co_object.specs.declared.note.Entry.{Entry}
use Rattle.co_object.specs.declared.note.QEntry.{QEntry}
use Rattle.co_desk.specs.declared.params.Params.{Params}
use Rattle.co_desk.specs.declared.line.Line.{Line}
use Rattle.co_service.specs.Booted.{AreLeft, AreSeatedAt, booted}
use Rattle.co_desk.specs.Lines.{made}
use Rattle.co_desk.specs.Seats.{SeatsView, fresh_seats}
use Rattle.co_desk.specs.Views.{passes_of}
use Rattle.co_desk.proofs.Items.{index_else}

module _ {E : Type 0} where
  -- where nothing was made anywhere
  nothing_made : (xs : List (List (Line E))) (name : List LifeId) → length xs ≡ length name → ((i : ℕ) → i < length name → made (slice_index_or xs i []) ≡ []) → map made xs ≡ map (λ (l : LifeId). []) name
  nothing_made [] [] long none = refl
  nothing_made [] (l ∷ ls) long none = absurd (omega arith)
  nothing_made (x ∷ xs) [] long none = absurd (omega arith)
  nothing_made (x ∷ xs) (l ∷ ls) long none = λ d. none 0 (omega arith) d ∷ nothing_made xs ls (omega arith) (λ i below. none (suc i) (omega arith)) d

  nothing_seen : (p : Params) (a : ℕ) (s : SeatsView (Line E)) → AreSeatedAt p s.name a s → map made s.seen ≡ map (λ (l : LifeId). []) s.name
  nothing_seen p a s at = nothing_made s.seen s.name at.count (λ i below. (at.each i below).nothing)

  -- whose passes are taken has them no more, and the others have theirs
  pub left_after : (p : Params) (name : List LifeId) (n done : ℕ) (all : List (SeatsView (Line E))) (x : SeatsView (Line E)) → AreLeft p name n done all → AreLeft p name n (done + 1) (set all done x)
  left_after p name n done all x l = record {
    count = length-set all done x ∙ l.count;
    left = λ k from below.
        let other : k ≢ done = omega arith in
        subst (AreSeatedAt p name k) (sym (index_else all done k x (fresh_seats [] 0) other)) (l.left k (omega arith) below);
  }

pub passes_joined : (p : Params) (a : ℕ) (t : SeatsView (Line Entry)) (q : SeatsView (Line QEntry)) → AreSeatedAt p t.name a t → AreSeatedAt p q.name a q → passes_of a p t q ≡ booted (record { timers = t.name; cpus = q.name }) p a
passes_joined p a t q ts qs = λ d. record { name = record { timers = t.name; cpus = q.name }; params = p; actor = a; timers = nothing_seen p a t ts d; cpus = nothing_seen p a q qs d }

-- seats whose names are a service's are so by their own name
pub seated_own : {E : Type 0} (p : Params) (name : List LifeId) (a : ℕ) (s : SeatsView (Line E)) → AreSeatedAt p name a s → AreSeatedAt p s.name a s
seated_own p name a s at = subst (λ (l : List LifeId). AreSeatedAt p l a s) (sym at.name_is) at

-- an item more, each as its number says
pub each_more : {A : Type 0} (f : ℕ → A) (xs : List A) (x : A) (n : ℕ) → n ≡ length xs → ((j : ℕ) → j < length xs → slice_get xs j ≡ Some (f j)) → x ≡ f n → (j : ℕ) → j < length xs + 1 → slice_get (xs ++ x ∷ []) j ≡ Some (f j)
each_more f [] x n long each is zero below = ap Some (is ∙ ap f long)
each_more f [] x n long each is (suc j) below = absurd (omega arith)
each_more f (y ∷ ys) x n long each is zero below = each zero (omega arith)
each_more f (y ∷ ys) x n long each is (suc j) below =
    each_more (λ k. f (suc k)) ys x (length ys) refl (λ k less. each (suc k) (omega arith)) (is ∙ ap f (let e : n ≡ suc (length ys) = omega arith in e)) j (omega arith)
