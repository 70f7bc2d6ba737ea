-- Who is here, and who is back.
use Rattle.std.proofs.Common.{◌≡◌, ℕ, zero, suc, ◌+◌, ◌<◌, ◌≤◌, ◌==◌, Bool, true, false, replicate, List, [], ◌∷◌, ◌++◌, length, map, set, refl, sym, ap, ◌∙◌, subst, arith, length-append}
use Rattle.std.proofs.lemmas.List.{length-map}
use Rattle.std.proofs.Math.ListN.{length-set}
use Rattle.std.specs.Prelude.{IfSome, is_some, slice_get}
use Rattle.std.specs.List.{All}
use Rattle.std.specs.declared.option.Option.{Option}
use Rattle.std.specs.declared.option.Option.TheVariants.{Some, None}
use Rattle.std.proofs.lemmas.List.Elements.{All-nil}
use Rattle.co_object.proofs.Numbers.{same_number, same_itself}
use Rattle.co_sbt.specs.RoomView.{RoomView}
use Rattle.co_desk.specs.declared.params.Params.{Params}
use Rattle.co_service.specs.Booted.{AreBooted, booted}
use Rattle.co_service.specs.Fresh.{AreNamed}
use Rattle.co_desk.specs.Name.{ServiceName}
use Rattle.co_desk.specs.Params.{actor_count}
use Rattle.co_desk.specs.Views.{AreOf, PassesView}
use Rattle.co_desk.proofs.Items.{all_more, get_else, get_set, got_map}
use Rattle.co_timers.specs.Handles.{IsHandle}
use Rattle.co_timers.specs.Posts.{ArePosts}

pub all_here : {A : Type 0} (xs : List A) → map is_some (map Some xs) ≡ replicate (length xs) true
all_here [] = refl
all_here (x ∷ xs) = ap (λ l. true ∷ l) (all_here xs)

-- one more is taken of those that are left
pub one_taken : {A : Type 0} (taken left rest all : List A) (x : A) → left ≡ x ∷ rest → taken ++ left ≡ all → (taken ++ x ∷ []) ++ rest ≡ all
one_taken [] left rest all x is are = sym is ∙ are
one_taken (y ∷ taken) left rest [] x is are = absurd cc
one_taken (y ∷ taken) left rest (z ∷ all) x is are =
    let same : y ≡ z = cc in
    let tail : taken ++ left ≡ all = cc in
    ap (λ l. y ∷ l) (one_taken taken left rest all x is tail) ∙ ap (λ w. w ∷ all) same

module _ (name : ServiceName) (p : Params) where
  -- who has seen nothing has a handle
  pub booted_handle : (j : ℕ) (q : PassesView) → AreNamed name p → q ≡ booted name p j → IsHandle name p q
  booted_handle j q named is = record {
    of = record { name_is = ap (λ (v : PassesView). v.name) is; params_are = ap (λ (v : PassesView). v.params) is };
    sized = ap (λ (v : PassesView). length v.timers) is ∙ (length-map name.timers (λ _. []) ∙ named.timers);
  }

  below_count : (xs : List PassesView) (j : ℕ) (q : PassesView) → slice_get xs j ≡ Some q → j < length xs
  below_count [] j q h = absurd cc
  below_count (x ∷ xs) zero q h = omega arith
  below_count (x ∷ xs) (suc j) q h = let b = below_count xs j q h in omega arith

  pub posts_open : (passes : List PassesView) (back : RoomView PassesView) → AreBooted name p passes → AreNamed name p → back.items ≡ [] → actor_count p ≤ back.spare → ArePosts name p (map Some passes) back
  posts_open passes back booted_are named none spare = record {
    count = length-map passes Some ∙ booted_are.count;
    each = λ j q h.
        let there = got_map Some passes j (Some q) h in
        let count = booted_are.count in
        let low = below_count passes j there.0 there.1 in
        let is : slice_get passes j ≡ Some (booted name p j) = booted_are.each j (omega (arith, low, count)) in
        (let at : slice_get passes j ≡ Some there.0 = there.1 in let same : Some there.0 ≡ Some q = there.2 in cc);
    named = named;
    of = subst (All (AreOf name p)) (sym none) (All-nil (AreOf name p));
    room = omega (arith, spare);
  }

  module _ (seats : List (Option PassesView)) (back : RoomView PassesView) (are : ArePosts name p seats back) where
    pub posts_left : (a : ℕ) → a < length seats → ArePosts name p (set seats a None) back
    posts_left a low = record {
      count = length-set seats a None ∙ are.count;
      each = λ j q h. go j q (j == a) refl h;
      named = are.named;
      of = are.of;
      room = are.room;
    } where
      go : (j : ℕ) (q : PassesView) (b : Bool) → (j == a) ≡ b → slice_get (set seats a None) j ≡ Some (Some q) → q ≡ booted name p j
      go j q true is h =
          let same : j ≡ a = same_number j a is in
          let there : slice_get (set seats a None) j ≡ Some None = ap (λ k. slice_get (set seats a None) k) same ∙ get_set seats a None low in
          absurd (cc)
      go j q false is h = are.each j q (sym (get_else seats a j None (λ same. let t = same_itself j a same in cc)) ∙ h)

    -- who is here has seen nothing, and has a handle
    pub seat_booted : (j : ℕ) (o : Option PassesView) → slice_get seats j ≡ Some o → IfSome o (λ q. q ≡ booted name p j)
    seat_booted j None h = tt
    seat_booted j (Some q) h = are.each j q h

    pub seat_handle : (j : ℕ) (o : Option PassesView) → slice_get seats j ≡ Some o → IfSome o (IsHandle name p)
    seat_handle j None h = tt
    seat_handle j (Some q) h = booted_handle j q are.named (are.each j q h)

    pub posts_back : (after : RoomView PassesView) (q : PassesView) → AreOf name p q → after.items ≡ back.items ++ q ∷ [] → back.spare ≤ after.spare + 1 → ArePosts name p seats after
    posts_back after q of items spare = record {
      count = are.count;
      each = are.each;
      named = are.named;
      of = subst (All (AreOf name p)) (sym items) (all_more (AreOf name p) back.items q are.of of);
      room = (let room = are.room in let long : length after.items ≡ length back.items + 1 = ap (λ l. length l) items ∙ length-append back.items (q ∷ []) in omega (arith, room, long, spare));
    }
