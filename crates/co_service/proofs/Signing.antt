-- The opening entries of a place, and the passes of the actors that made them.
use Rattle.std.proofs.Common.{◌≡◌, ℕ, zero, suc, ◌+◌, ◌<◌, List, [], ◌∷◌, ◌++◌, length, set, refl, sym, ap, ◌∙◌, subst, arith, length-set, length-append}
use Rattle.std.specs.Prelude.{slice_index_or, slice_get}
use Rattle.std.specs.declared.option.Option.TheVariants.{Some}
use mathlib.Core.Logic.{dite}
use native.Mathlib.Decide.{ℕ_discrete}
use Rattle.co_life.specs.Identity.{LifeId}
use Rattle.co_desk.specs.declared.params.Params.{Params}
use Rattle.co_desk.specs.declared.line.Line.{Line}
use Rattle.co_desk.specs.declared.line.Line.TheVariants.{Opening, Made}
use Rattle.co_desk.specs.Lines.{made, openings, AllCarry}
use Rattle.co_life.specs.Views.{KeeperView}
use Rattle.co_desk.specs.Seats.{SeatsView, fresh_seats}
use Rattle.co_service.specs.Booted.{IsOpened, IsSeated, AreSeatedAt, AreSeated, seats_at, IsReady, ArePlaces}
use Rattle.co_desk.proofs.Items.{index_set, index_else, get_mid}
use Rattle.co_desk.proofs.Writing.{below_get}

module _ {A : Type 0} where
  index_front : (xs : List A) (y d : A) (k : ℕ) → k < length xs → slice_index_or (xs ++ y ∷ []) k d ≡ slice_index_or xs k d
  index_front [] y d k below = absurd (omega arith)
  index_front (x ∷ xs) y d zero below = refl
  index_front (x ∷ xs) y d (suc k) below = index_front xs y d k (omega arith)

  index_last : (xs : List A) (y d : A) → slice_index_or (xs ++ y ∷ []) (length xs) d ≡ y
  index_last [] y d = refl
  index_last (x ∷ xs) y d = index_last xs y d

module _ {E : Type 0} where
  -- an opening entry that carries this service and this place
  abbrev pub IsOpening : Params → ℕ → Line E → Type 0
  IsOpening p i (Opening actor place params) = (params.value ≡ p) × (place ≡ i)
  IsOpening p i (Made e) = ⊥

  made_open : (xs : List (Line E)) (l : Line E) (p : Params) (i : ℕ) → IsOpening p i l → made (xs ++ l ∷ []) ≡ made xs
  made_open [] (Opening a j q) p i o = refl
  made_open [] (Made e) p i o = absurd o
  made_open (Opening b k r ∷ xs) l p i o = made_open xs l p i o
  made_open (Made f ∷ xs) l p i o = ap (λ (m : List E). f ∷ m) (made_open xs l p i o)

  carry_open : (xs : List (Line E)) (l : Line E) (p : Params) (i : ℕ) → IsOpening p i l → AllCarry p i xs → AllCarry p i (xs ++ l ∷ [])
  carry_open [] (Opening a j q) p i o c = (o.0, o.1, tt)
  carry_open [] (Made e) p i o c = absurd o
  carry_open (Opening b k r ∷ xs) l p i o c = (c.0, c.1, carry_open xs l p i o c.2)
  carry_open (Made f ∷ xs) l p i o c = carry_open xs l p i o c

  openings_open : (xs : List (Line E)) (l : Line E) (p : Params) (i : ℕ) → IsOpening p i l → openings (xs ++ l ∷ []) ≡ openings xs + 1
  openings_open [] (Opening a j q) p i o = refl
  openings_open [] (Made e) p i o = absurd o
  openings_open (Opening b k r ∷ xs) l p i o = ap (λ (n : ℕ). n + 1) (openings_open xs l p i o)
  openings_open (Made f ∷ xs) l p i o = openings_open xs l p i o

  pub opened_next : (p : Params) (i n : ℕ) (h : List (Line E)) (l : Line E) → IsOpening p i l → IsOpened p i n h → IsOpened p i (n + 1) (h ++ l ∷ [])
  opened_next p i n h l o at = record {
    carry = carry_open h l p i o at.carry;
    nothing = made_open h l p i o ∙ at.nothing;
    count = openings_open h l p i o ∙ ap (λ (m : ℕ). m + 1) at.count;
  }

  pub opened_seated : (p : Params) (i n : ℕ) (h : List (Line E)) → IsOpened p i (n + 1) h → IsSeated p i h
  opened_seated p i n [] at = let c = at.count in absurd (omega arith)
  opened_seated p i n (Opening a j q ∷ h) at = record { opened = λ d. Some (at.carry.0 d, at.carry.1 d); nothing = at.nothing }
  opened_seated p i n (Made e ∷ h) at = let none = at.nothing in absurd (cc)

  -- an actor's passes with that of one place more
  pub seated_more : (p : Params) (name : List LifeId) (life : LifeId) (a : ℕ) (s s' : SeatsView (Line E)) (h : List (Line E)) → AreSeatedAt p name a s → IsSeated p (length name) h
      → s' ≡ record s { name = s.name ++ life ∷ []; seen = s.seen ++ h ∷ [] } → AreSeatedAt p (name ++ life ∷ []) a s'
  seated_more p name life a s s' h at seated is = subst (AreSeatedAt p (name ++ life ∷ []) a) (sym is) record {
    name_is = ap (λ (l : List LifeId). l ++ life ∷ []) at.name_is;
    actor_is = at.actor_is;
    count = length-append s.seen (h ∷ []) ∙ (ap (λ (n : ℕ). n + 1) at.count ∙ sym (length-append name (life ∷ [])));
    each = λ k below. dite (ℕ_discrete k (length name))
        (λ last. subst (λ (t : ℕ × List (Line E)). IsSeated p t.0 t.1) (λ d. (sym last d, (sym (ap (λ (n : ℕ). slice_index_or (s.seen ++ h ∷ []) n []) (last ∙ sym at.count) ∙ index_last s.seen h [])) d)) seated)
        (λ front. let early : k < length name = (let n = length-append name (life ∷ []) in omega arith) in
        subst (IsSeated p k) (sym (index_front s.seen h [] k (let c = at.count in omega arith))) (at.each k early));
  }

  pub all_more : (p : Params) (name : List LifeId) (life : LifeId) (n j : ℕ) (all : List (SeatsView (Line E))) (new : SeatsView (Line E)) → AreSeated p name (life ∷ []) n j all → j < n → AreSeatedAt p (name ++ life ∷ []) j new → AreSeated p name (life ∷ []) n (j + 1) (set all j new)
  all_more p name life n j all new at below seated = record {
    count = length-set all j new ∙ at.count;
    ahead = λ k early. dite (ℕ_discrete k j)
        (λ same. subst (λ (m : ℕ). AreSeatedAt p (name ++ life ∷ []) m (seats_at (set all j new) m)) (sym same) (subst (AreSeatedAt p (name ++ life ∷ []) j) (sym (index_set all j new _ (let c = at.count in omega arith))) seated))
        (λ away. subst (AreSeatedAt p (name ++ life ∷ []) k) (sym (index_else all j k new _ away)) (at.ahead k (omega arith)));
    behind = λ k late inside. subst (AreSeatedAt p name k) (sym (index_else all j k new _ (λ same. omega arith))) (at.behind k (omega arith) inside);
  }

module _ {A : Type 0} where
  pub get_early : (xs ys : List A) (i : ℕ) → i < length xs → slice_get (xs ++ ys) i ≡ slice_get xs i
  get_early [] ys i below = absurd (omega arith)
  get_early (x ∷ xs) ys zero below = refl
  get_early (x ∷ xs) ys (suc i) below = get_early xs ys i (omega arith)

module _ {E : Type 0} where
  pub no_places : (p : Params) (actors : ℕ) (all : List (SeatsView (Line E))) → length all ≡ actors → ((k : ℕ) → k < actors → seats_at all k ≡ fresh_seats [] k) → ArePlaces p 0 actors [] [] all
  no_places p actors all n each = record {
    lives_are = refl;
    keepers_are = refl;
    ready = λ i k is. absurd (cc);
    seated = record {
      count = n;
      ahead = λ k early. absurd (omega arith);
      behind = λ k late inside. subst (AreSeatedAt p [] k) (sym (each k inside)) (record { name_is = refl; actor_is = refl; count = refl; each = λ i below. absurd (omega arith) });
    };
  }

  -- an actor more that has no place yet
  pub fresh_more : (all : List (SeatsView (Line E))) (x : SeatsView (Line E)) (n : ℕ) → length all ≡ n → ((k : ℕ) → k < n → seats_at all k ≡ fresh_seats [] k) → x ≡ fresh_seats [] n → (k : ℕ) → k < n + 1 → seats_at (all ++ x ∷ []) k ≡ fresh_seats [] k
  fresh_more all x n long each is k below = dite (ℕ_discrete k n)
      (λ last. ap (seats_at (all ++ x ∷ [])) (last ∙ sym long) ∙ (index_last all x (fresh_seats [] 0) ∙ (is ∙ ap (λ (m : ℕ). fresh_seats [] m) (sym last))))
      (λ other. index_front all x (fresh_seats [] 0) k (omega arith) ∙ each k (omega arith))

  pub ready_for : (p : Params) (name more : List LifeId) (n m : ℕ) (all : List (SeatsView (Line E))) → n ≡ m → AreSeated p name [] n 0 all → AreSeated p name more m 0 all
  ready_for p name more n m all same at = subst (λ (k : ℕ). AreSeated p name more k 0 all) same record {
    count = at.count;
    ahead = λ k early. absurd (omega arith);
    behind = at.behind;
  }

  pub places_more : (p : Params) (count actors n : ℕ) (lives lives' : List LifeId) (ks ks' : List (KeeperView (Line E))) (all all' : List (SeatsView (Line E))) (life : LifeId) (k : KeeperView (Line E)) → ArePlaces p count actors lives ks all
      → lives' ≡ lives ++ life ∷ [] → ks' ≡ ks ++ k ∷ [] → k.life ≡ life → k.actors ≡ actors → IsOpened p count actors k.history → n ≡ actors → AreSeated p lives (life ∷ []) n n all' → ArePlaces p (count + 1) actors lives' ks' all'
  places_more p count actors n lives lives' ks ks' all all' life k at lives_is ks_is its of opened n_is seated = record {
    lives_are = ap length lives_is ∙ (length-append lives (life ∷ []) ∙ ap (λ (m : ℕ). m + 1) at.lives_are);
    keepers_are = ap length ks_is ∙ (length-append ks (k ∷ []) ∙ ap (λ (m : ℕ). m + 1) at.keepers_are);
    ready = λ i x is. dite (ℕ_discrete i count)
        (λ last. subst (λ (y : KeeperView (Line E)). IsReady p actors i lives' y)
        (let there : slice_get ks' i ≡ Some k = (ap (λ (l : List (KeeperView (Line E))). slice_get l i) ks_is ∙ (ap (slice_get (ks ++ k ∷ [])) (last ∙ sym at.keepers_are) ∙ get_mid ks k [])) in let same : k ≡ x = cc in same)
        (subst (λ (m : ℕ). IsReady p actors m lives' k) (sym last) (record {
          life = ap (λ (l : List LifeId). slice_get l count) lives_is ∙ (ap (slice_get (lives ++ life ∷ [])) (sym at.lives_are) ∙ (get_mid lives life [] ∙ ap (λ (l : LifeId). Some l) (sym its)));
          actors_are = of;
          opened = opened;
        })))
        (λ other.
        let below : i < length ks' = below_get ks' i x is in
        let early : i < length ks = (let n = ap length ks_is in let m = length-append ks (k ∷ []) in let c = at.keepers_are in omega arith) in
        let old = at.ready i x (sym (get_early ks (k ∷ []) i early) ∙ (ap (λ (l : List (KeeperView (Line E))). slice_get l i) (sym ks_is) ∙ is)) in record {
          life = ap (λ (l : List LifeId). slice_get l i) lives_is ∙ (get_early lives (life ∷ []) i (let a = at.lives_are in let c = at.keepers_are in omega arith) ∙ old.life);
          actors_are = old.actors_are;
          opened = old.opened;
        });
    seated = subst (λ (t : List LifeId × ℕ). AreSeated p t.0 [] t.1 0 all') (λ d. (sym lives_is d, n_is d)) record {
      count = seated.count;
      ahead = λ j early. absurd (omega arith);
      behind = λ j late inside. seated.ahead j inside;
    };
  }

  -- a keeper of which the history alone has changed, twice
  pub keeper_kept : (k k' k0 : KeeperView (Line E)) → k' ≡ record k { history = k'.history } → k ≡ record k0 { history = k.history } → k' ≡ record k0 { history = k'.history }
  keeper_kept k k' k0 now before = now ∙ ap (λ (t : KeeperView (Line E)). record t { history = k'.history }) before
