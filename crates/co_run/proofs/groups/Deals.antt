-- The jobs of the actors: passes that have seen nothing, and empty books, one after the other.
use Rattle.std.proofs.Common.{◌≡◌, ℕ, zero, suc, ◌+◌, ◌<◌, ◌≤◌, ◌*◌, ◌==◌, ◌⊎◌, inl, inr, Bool, true, false, cond, List, [], ◌∷◌, ◌++◌, length, ap, sym, subst, ◌∙◌, arith, length-append}
use Rattle.std.specs.Prelude.{Ok, Result, Some, IsOkAnd, slice_get}
use Rattle.co_object.specs.declared.note.Note.{Note}
use Rattle.co_program.specs.declared.script.Script.{Script}
use Rattle.co_program.specs.Actors.{actor_count, client_count}
use Rattle.co_program.specs.Scripts.{IsScript}
use Rattle.co_desk.specs.declared.params.Params.{Params}
use Rattle.co_service.specs.Booted.{AreBooted, booted}
use Rattle.co_desk.specs.Name.{ServiceName}
use Rattle.co_desk.specs.Views.{PassesView}
use Rattle.co_run.specs.declared.jobs.Kit.{Kit}
use Rattle.co_run.specs.Acting.{params_of}
use Rattle.co_run.specs.Jobs.{AreEmptyBooks, AreLeft, AreUnseen, AreJobs, IsEmpty, IsGroup, IsJob}
use Rattle.co_run.proofs.merged.RunOfScript.{same_count}
use Rattle.co_run.proofs.groups.LastItem.{get_front, get_last, get_snoc}

-- ---- what stands in a list is within it

below : {X : Type 0} (xs : List X) (x : X) (k : ℕ) → slice_get xs k ≡ Some x → k < length xs
below [] x k is = cc
below (y ∷ xs) x zero is = omega arith
below (y ∷ xs) x (suc k) is = (let low = below xs x k is in omega (arith, low))

some_same : {X : Type 0} (a b : X) → Some a ≡ Some b → a ≡ b
some_same a b e = cc

-- ---- passes

pub booted_first : (s : Script) → IsScript s → (name : ServiceName) (qs : List PassesView) → AreBooted name (params_of s) qs → AreUnseen name (params_of s) qs
booted_first s ok name qs booted_are = λ k q is. some_same q (booted name (params_of s) k) (sym is ∙ booted_are.each k (let low = below qs q k is in let count = booted_are.count in omega (arith, low, count)))

pub booted_count : (s : Script) → IsScript s → (name : ServiceName) (qs : List PassesView) → AreBooted name (params_of s) qs → length qs ≡ actor_count s
booted_count s ok name qs booted_are = booted_are.count ∙ same_count s ok

module _ (name : ServiceName) (p : Params) where
  first_front : (qs : List PassesView) (q : PassesView) → AreUnseen name p (qs ++ q ∷ []) → AreUnseen name p qs
  first_front qs q first = λ k x is. first k x (get_front qs q x k is)

  first_last : (qs : List PassesView) (q : PassesView) → AreUnseen name p (qs ++ q ∷ []) → q ≡ booted name p (length qs)
  first_last qs q first = first (length qs) q (get_last qs q)

-- ---- books

module _ {B : Type 0} (notes : B → List Note) (spare : B → ℕ) where
  empty_front : (books : List B) (book : B) → AreEmptyBooks notes spare (books ++ book ∷ []) → AreEmptyBooks notes spare books
  empty_front books book empty = λ k x is. empty k x (get_front books book x k is)

  empty_last : (books : List B) (book : B) → AreEmptyBooks notes spare (books ++ book ∷ []) → IsEmpty (notes book) (spare book)
  empty_last books book empty = empty (length books) book (get_last books book)

-- ---- jobs

module _ {B : Type 0} (s : Script) (name : ServiceName) (notes : B → List Note) (spare : B → ℕ) where
  -- the last passes and the last book are taken
  pub left_less : (all_qs qs : List PassesView) (q : PassesView) (all_books books : List B) (book : B) → all_qs ≡ qs ++ q ∷ [] → all_books ≡ books ++ book ∷ [] → AreLeft notes spare s name all_qs all_books → AreLeft notes spare s name qs books
  left_less all_qs qs q all_books books book qs_are books_are left =
      let long = ap length qs_are ∙ length-append qs (q ∷ []) in
      let books_long = ap length books_are ∙ length-append books (book ∷ []) in
      let few = left.few in
      let count = left.count in
      record {
        few = omega (arith, few, long);
        count = omega (arith, count, long, books_long);
        first = first_front name (params_of s) qs q (subst (AreUnseen name (params_of s)) qs_are left.first);
        empty = empty_front notes spare books book (subst (AreEmptyBooks notes spare) books_are left.empty);
      }

  -- they are the job of the actor of that number
  pub left_job : (all_qs qs : List PassesView) (q : PassesView) (all_books books : List B) (book : B) → all_qs ≡ qs ++ q ∷ [] → all_books ≡ books ++ book ∷ [] → AreLeft notes spare s name all_qs all_books → IsJob s name (length qs) q (notes book) (spare book)
  left_job all_qs qs q all_books books book qs_are books_are left =
      let long = ap length qs_are ∙ length-append qs (q ∷ []) in
      let few = left.few in
      record {
        below = omega (arith, few, long);
        passes = first_last name (params_of s) qs q (subst (AreUnseen name (params_of s)) qs_are left.first);
        empty = empty_last notes spare books book (subst (AreEmptyBooks notes spare) books_are left.empty);
      }

  -- the seat of the actor before
  pub group_dealt : {E : Type 0} (seats : List (Result (Kit B) E)) (kit : Kit B) (first next end : ℕ) → first ≡ next + 1 → IsGroup (AreJobs s name notes spare) first end seats → IsJob s name next kit.passes (notes kit.book) (spare kit.book) → IsGroup (AreJobs s name notes spare) next end (seats ++ Ok kit ∷ [])
  group_dealt {E} seats kit first next end one group ok = record {
    count = (let long = length-append seats (Ok kit ∷ []) in let count = group.count in omega (arith, count, long, one));
    each = λ k x is a at. at_either k x a at (get_snoc seats (Ok kit) x k is);
  } where
    at_either : (k : ℕ) (x : Result (Kit B) E) (a : ℕ) → a + k + 1 ≡ end → (slice_get seats k ≡ Some x) ⊎ ((k ≡ length seats) × (x ≡ Ok kit)) → IsOkAnd x (λ y. IsJob s name a y.passes (notes y.book) (spare y.book))
    at_either k x a at (inl here) = group.each k x here a at
    at_either k x a at (inr there) =
        let count = group.count in
        let same : next ≡ a = (let is = there.0 in omega (arith, count, at, is, one)) in
        subst (λ (r : Result (Kit B) E). IsOkAnd r (λ y. IsJob s name a y.passes (notes y.book) (spare y.book))) (sym there.1) (subst (λ (b : ℕ). IsJob s name b kit.passes (notes kit.book) (spare kit.book)) same ok)

-- ---- how many actors

pub most_named : (s : Script) → client_count s + s.cpus ≤ actor_count s
most_named s = at_test (s.version == 2) where
  at_test : (b : Bool) → client_count s + s.cpus ≤ cond b (client_count s + 2 * s.cpus) (client_count s + s.cpus)
  at_test true = omega arith
  at_test false = omega arith
