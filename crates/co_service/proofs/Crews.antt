-- Who of a service's actors leaves, and who is back.
use Rattle.std.proofs.Common.{◌≡◌, ℕ, zero, suc, ◌+◌, ◌<◌, ◌≤◌, ◌==◌, Bool, cond, List, [], ◌∷◌, ◌++◌, length, refl, sym, ap, ◌∙◌, subst, arith, length-append}
use Rattle.std.specs.Prelude.{slice_get}
use Rattle.std.specs.List.{All}
use Rattle.std.specs.Option.{option_to_list}
use Rattle.std.specs.declared.option.Option.{Option}
use Rattle.std.specs.declared.option.Option.TheVariants.{Some}
use Rattle.co_object.specs.Journal.{scanner}
use Rattle.co_sbt.specs.RoomView.{RoomView}
use Rattle.co_desk.specs.declared.params.Params.{Params}
use Rattle.co_service.specs.Booted.{booted}
use Rattle.co_service.specs.Crew.{AreNew, IsCrew}
use Rattle.co_desk.specs.Name.{ServiceName}
use Rattle.co_desk.specs.Params.{actors_of}
use Rattle.co_desk.specs.Services.{IsFree}
use Rattle.co_desk.specs.Serving.{lane_actor}
use Rattle.co_desk.specs.Views.{AreOf, PassesView}
use Rattle.co_desk.proofs.Items.{all_more}
use Rattle.co_service.proofs.Lasts.{booted_free}

module _ {A : Type 0} where
  get_front : (xs ys : List A) (k : ℕ) → k < length xs → slice_get (xs ++ ys) k ≡ slice_get xs k
  get_front [] ys k below = absurd (omega arith)
  get_front (x ∷ xs) ys zero below = refl
  get_front (x ∷ xs) ys (suc k) below = get_front xs ys k (omega arith)

  get_last : (xs : List A) (x : A) (k : ℕ) → k ≡ length xs → slice_get (xs ++ x ∷ []) k ≡ Some x
  get_last [] x zero is = refl
  get_last [] x (suc k) is = absurd (omega arith)
  get_last (y ∷ xs) x zero is = absurd (omega arith)
  get_last (y ∷ xs) x (suc k) is = get_last xs x k (omega arith)

module _ (name : ServiceName) (p : Params) where
  -- the last leaves, and the others stay
  last_leaves : (n : ℕ) (rest : List PassesView) (x : PassesView) → AreNew name p (n + 1) (rest ++ x ∷ []) → (x ≡ booted name p n) × AreNew name p n rest
  last_leaves n rest x are =
      let count : length rest ≡ n = (let whole = are.count in let long = length-append rest (x ∷ []) in omega arith) in
      let both : Some x ≡ Some (booted name p n) = sym (get_last rest x n (sym count)) ∙ are.each n (omega arith) in (
        cc,
        record {
          count = count;
          each = λ j below. sym (get_front rest (x ∷ []) j (omega arith)) ∙ are.each j (omega arith);
        },
      )

  pub leaves : (n : ℕ) (all rest : List PassesView) (o : Option PassesView) (x : PassesView) → all ≡ rest ++ option_to_list o → o ≡ Some x → AreNew name p (n + 1) all → (x ≡ booted name p n) × AreNew name p n rest
  leaves n all rest o x is some are = last_leaves n rest x (subst (AreNew name p (n + 1)) (is ∙ ap (λ (y : Option PassesView). rest ++ option_to_list y) some) are)

  -- an actor that has seen nothing
  module _ (q : PassesView) (a : ℕ) (is : q ≡ booted name p a) where
    pub new_of : AreOf name p q
    new_of = subst (AreOf name p) (sym is) (record { name_is = refl; params_are = refl })

    pub new_actor : q.actor ≡ a
    new_actor = ap (λ (v : PassesView). v.actor) is

    pub new_free : (direct : Bool) (cpu : ℕ) → a ≡ lane_actor direct (actors_of p) cpu → IsFree direct q cpu
    new_free direct cpu lane = subst (λ (v : PassesView). IsFree direct v cpu) (sym is) (subst (λ (k : ℕ). IsFree direct (booted name p k) cpu) (sym lane) (booted_free name p direct cpu))

    pub cpu_scans : (cpu : ℕ) → a ≡ p.clients + cpu → p.version ≡ 1 → q.actor ≡ scanner (actors_of p) cpu
    cpu_scans cpu own version = new_actor ∙ (own ∙ sym (ap (λ (v : ℕ). cond (v == 1) (p.clients + cpu) ((p.clients + p.cpus) + cpu)) version))

    pub interrupt_scans : (cpu : ℕ) → a ≡ (p.clients + p.cpus) + cpu → p.version ≡ 2 → q.actor ≡ scanner (actors_of p) cpu
    interrupt_scans cpu own version = new_actor ∙ (own ∙ sym (ap (λ (v : ℕ). cond (v == 1) (p.clients + cpu) ((p.clients + p.cpus) + cpu)) version))

  pub one_back : (room room' : RoomView PassesView) (q : PassesView) → IsCrew name p room → AreOf name p q → room'.items ≡ room.items ++ q ∷ [] → room.spare ≤ room'.spare + 1 → IsCrew name p room'
  one_back room room' q is of items spare = record {
    of = subst (All (AreOf name p)) (sym items) (all_more (AreOf name p) room.items q is.of of);
    room = let long = ap length items ∙ length-append room.items (q ∷ []) in let before = is.room in omega arith;
  }
