-- What each CPU has before the first call.
use Rattle.std.proofs.Common.{◌≡◌, ℕ, zero, suc, ◌+◌, ◌<◌, ◌≤◌, ◌==◌, ◌⊎◌, inl, inr, Bool, false, cond, List, [], ◌∷◌, length, map, replicate, refl, sym, ap, ◌∙◌, subst, arith}
use Rattle.std.specs.Prelude.{slice_get, slice_index_or}
use Rattle.std.specs.declared.option.Option.{Option}
use Rattle.std.specs.declared.option.Option.TheVariants.{Some, None}
use Rattle.std.proofs.lemmas.List.{length-map, length-replicate}
use Rattle.co_life.specs.Identity.{LifeId}
use Rattle.co_life.specs.Views.{KeeperView}
use Rattle.co_object.specs.declared.note.Entry.{Entry}
use Rattle.co_desk.specs.declared.params.Params.{Params}
use Rattle.co_desk.specs.declared.line.Line.{Line}
use Rattle.co_service.specs.Booted.{AreBegun, AreFirstKeepers}
use Rattle.co_desk.specs.Books.{IsHistoryKept, kept_of}
use Rattle.co_desk.specs.Stories.{IsHistory}
use Rattle.co_service.proofs.Coming.{none_at, not_first}
use Rattle.co_desk.proofs.Writing.{below_get}

abbrev pub Kept : Type 0
Kept = Option (KeeperView (Line Entry))

abbrev pub away : Kept
away = None

abbrev pub kept : KeeperView (Line Entry) → Kept
kept k = Some k

-- one of these, or beyond them
Found : List (KeeperView (Line Entry)) → ℕ → Type 0
Found ks i = ((length ks ≤ i) × (slice_index_or (map kept ks) i None ≡ None)) ⊎ ((k : KeeperView (Line Entry)) × (slice_get ks i ≡ Some k) × (slice_index_or (map kept ks) i None ≡ Some k))

find : (ks : List (KeeperView (Line Entry))) (i : ℕ) → Found ks i
unfolding Found
find [] i = inl (omega arith, refl)
find (k ∷ ks) zero = inr (k, refl, refl)
find (k ∷ ks) (suc i) = elim (find ks i) as (λ _. Found (k ∷ ks) (suc i)) [
  | inl out ↦ inl (let far = out.0 in omega arith, out.1)
  | inr here ↦ inr here
]

-- all callouts begin at the first CPU
pub all_first : (lives : List LifeId) (p : Params) (ks : List (KeeperView (Line Entry))) (here : List Kept) → AreBegun IsHistory lives p ks → length ks ≡ length p.specs → here ≡ map kept ks → AreFirstKeepers lives p 0 here
unfolding Found
all_first lives p ks here begun long is = subst (AreFirstKeepers lives p 0) (sym is) record {
  each = λ i. elim (find ks i) as (λ _. IsHistoryKept lives p i (slice_index_or (map kept ks) i None)) [
    | inl out ↦ subst (IsHistoryKept lives p i) (sym out.1) tt
    | inr one ↦ subst (IsHistoryKept lives p i) (sym one.2) (begun.each i one.0 one.1)
  ];
  size = length-map ks kept ∙ long;
  come = λ i below. elim (find ks i) as (λ _. kept_of (slice_index_or (map kept ks) i None) ≡ Some []) [
    | inl out ↦ (let far = out.0 in absurd (omega arith))
    | inr one ↦ ap kept_of one.2 ∙ ap (λ (H : List Entry). Some H) (begun.nothing i one.0 one.1)
  ];
  missing = λ i from. elim (find ks i) as (λ _. kept_of (slice_index_or (map kept ks) i None) ≡ None) [
    | inl out ↦ ap kept_of out.1
    | inr one ↦ (let below = below_get ks i one.0 one.1 in absurd (omega arith))
  ];
}

-- no callout begins at another
pub none_first : (lives : List LifeId) (p : Params) (cpu n : ℕ) (here : List Kept) → n ≡ length p.specs → here ≡ replicate n None → AreFirstKeepers lives p (cpu + 1) here
none_first lives p cpu n here long is =
    let other : (cpu + 1 == 0) ≡ false = not_first (cpu + 1) (λ e. omega arith) in
    subst (AreFirstKeepers lives p (cpu + 1)) (sym is) record {
      each = λ i. subst (IsHistoryKept lives p i) (sym (none_at n i)) tt;
      size = length-replicate n away ∙ long;
      come = λ i below. absurd (let less : i < cond false (length p.specs) 0 = subst (λ (b : Bool). i < cond b (length p.specs) 0) other below in omega arith);
      missing = λ i from. ap kept_of (none_at n i);
    }
