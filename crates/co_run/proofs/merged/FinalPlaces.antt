-- Where the actors' programs are over, their notes of a place are its final history, each entry at its position.
use Rattle.std.proofs.Common.{◌≡◌, ℕ, zero, suc, ◌+◌, ◌*◌, ◌^◌, ◌<◌, ◌≤◌, ◌==◌, Bool, true, false, cond, nat_lt, List, [], ◌∷◌, ◌++◌, map, length, refl, sym, ap, subst, ◌∙◌, arith}
use Rattle.std.specs.Prelude.{Some, slice_get, slice_index_or}
use Rattle.std.specs.List.{AllByRecursion, filter}
use Rattle.std.proofs.lemmas.Bool.Decides.{nat_tests}
use Rattle.std.proofs.lemmas.Option.{slice_get-get_or}
use Rattle.co_life.specs.Seen.{own}
use Rattle.co_object.specs.declared.note.AnyEntry.{AnyEntry}
use Rattle.co_object.specs.declared.note.Note.{Note}
use Rattle.co_object.specs.declared.note.Place.{Place}
use Rattle.co_object.specs.declared.note.Place.TheVariants as at
use Rattle.co_object.specs.Lists.{actor_of, notes_of}
use Rattle.co_object.proofs.Passing.{passing}
use Rattle.co_program.specs.declared.script.Script.{Script}
use Rattle.co_desk.specs.Name.{ServiceName}
use Rattle.co_desk.specs.Seats.{IsShown}
use Rattle.co_desk.specs.Views.{PassesView}
use Rattle.co_desk.proofs.Items.{get_or_of}
use Rattle.co_run.specs.Over.{AreOver, IsActorOver}
use Rattle.co_run.specs.Shown.{AreTheseEntries}
use Rattle.co_run.specs.Told.{AreBelow, AreToldFrom, IsGathered, owned, placed_from, told_note}
use Rattle.co_run.proofs.merged.Gathered.{gathered_lists}
use Rattle.co_run.proofs.shown.OwnEntries.{owned-shown}
use Rattle.co_run.proofs.shown.OneMore.{few_of}

-- ---- lists

pub all_filter : {X : Type 0} (P : X → Type 0) (q : X → Bool) (xs : List X) → AllByRecursion P xs → AllByRecursion P (filter q xs)
all_filter P q [] all = tt
all_filter P q (x ∷ xs) all = at_test (q x) (all_filter P q xs all.1) where
  at_test : (b : Bool) → AllByRecursion P (filter q xs) → AllByRecursion P (cond b (x ∷ filter q xs) (filter q xs))
  at_test true rest = (all.0, rest)
  at_test false rest = rest

map_both : {X Y : Type 0} (f : X → Y) (xs ys : List X) → map f (xs ++ ys) ≡ map f xs ++ map f ys
map_both f [] ys = refl
map_both f (x ∷ xs) ys = ap (λ l. f x ∷ l) (map_both f xs ys)

filter_const : {X : Type 0} (t : Bool) (xs : List X) → filter (λ _. t) xs ≡ cond t xs []
filter_const true [] = refl
filter_const false [] = refl
filter_const true (x ∷ xs) = ap (λ l. x ∷ l) (filter_const true xs)
filter_const false (x ∷ xs) = filter_const false xs

module _ {Y : Type 0} where
  abbrev nothing : List Y
  nothing = []

  past_end : (xs : List (List Y)) (i : ℕ) → length xs ≤ i → slice_index_or xs i nothing ≡ nothing
  past_end [] i h = refl
  past_end (x ∷ xs) zero h = absurd (omega (arith, h))
  past_end (x ∷ xs) (suc k) h = past_end xs k (omega (arith, h))

-- ---- as many notes as entries

alike_long : (ns : List Note) (ys : List (ℕ × AnyEntry)) → AreTheseEntries ns ys → length ns ≡ length ys
alike_long [] [] h = refl
alike_long (n ∷ ns) (y ∷ ys) h = ap suc (alike_long ns ys h.2)
alike_long [] (y ∷ ys) h = absurd h
alike_long (n ∷ ns) [] h = absurd h

told_alike : (ns : List Note) (ys : List (ℕ × AnyEntry)) → AllByRecursion (λ (y : ℕ × AnyEntry). y.0 < 2 ^ 63) ys → AreTheseEntries ns ys → map told_note ns ≡ ys
told_alike [] [] all h = refl
told_alike (n ∷ ns) (y ∷ ys) all h =
    ap (λ (p : ℕ). (p, n.entry) ∷ map told_note ns) (h.0.0 all.0) ∙ (ap (λ (e : AnyEntry). (y.0, e) ∷ map told_note ns) h.1 ∙ ap (λ (l : List (ℕ × AnyEntry)). y ∷ l) (told_alike ns ys all.1 h.2))
told_alike [] (y ∷ ys) all h = absurd h
told_alike (n ∷ ns) [] all h = absurd h

placed_low : (m n : ℕ) (xs : List AnyEntry) → n + length xs ≤ m → AllByRecursion (λ (y : ℕ × AnyEntry). y.0 < m) (placed_from n xs)
placed_low m n [] h = tt
placed_low m n (x ∷ xs) h = ((omega (arith, h)), placed_low m (n + 1) xs (omega (arith, h)))

module _ (by : AnyEntry → ℕ) (place : Place) (H : List AnyEntry) where
  -- the notes of each actor, from this one on, are its entries
  abbrev pub AreAlikeFrom : ℕ → List (List Note) → Type 0
  AreAlikeFrom a [] = Unit {0}
  AreAlikeFrom a (notes ∷ lists) = AreTheseEntries (notes_of place notes) (owned by a H) × (length notes < 2 ^ 56) × AreAlikeFrom (a + 1) lists

  mine_long : (a n : ℕ) (xs : List AnyEntry) → length (filter (λ (y : ℕ × AnyEntry). by y.1 == a) (placed_from n xs)) ≡ passing (λ x. by x == a) xs
  mine_long a n [] = refl
  mine_long a n (x ∷ xs) = at_test (by x == a) (mine_long a (n + 1) xs) where
    at_test : (b : Bool) → length (filter (λ (y : ℕ × AnyEntry). by y.1 == a) (placed_from (n + 1) xs)) ≡ passing (λ x. by x == a) xs
        → length (cond b ((n, x) ∷ filter (λ (y : ℕ × AnyEntry). by y.1 == a) (placed_from (n + 1) xs)) (filter (λ (y : ℕ × AnyEntry). by y.1 == a) (placed_from (n + 1) xs))) ≡ cond b 1 0 + passing (λ x. by x == a) xs
    at_test true rest = omega (arith, rest)
    at_test false rest = omega (arith, rest)

  abbrev under : ℕ → List AnyEntry → ℕ
  under n xs = passing (λ x. nat_lt (by x) n) xs

  split : (a : ℕ) (xs : List AnyEntry) → under (a + 1) xs ≡ under a xs + passing (λ x. by x == a) xs
  split a [] = refl
  split a (x ∷ xs) = omega (arith, here (by x), split a xs) where
    here : (m : ℕ) → cond {A = ℕ} (nat_lt m (a + 1)) 1 0 ≡ cond {A = ℕ} (nat_lt m a) 1 0 + cond {A = ℕ} (m == a) 1 0
    here m = grind (arith, nat_tests)

  nobody : (xs : List AnyEntry) → under 0 xs ≡ 0
  nobody [] = refl
  nobody (x ∷ xs) = let never : nat_lt (by x) 0 ≡ false = grind (arith, nat_tests) in let rest = nobody xs in rw never (omega (arith, rest))

  everybody : (n : ℕ) (xs : List AnyEntry) → AreBelow by n xs → under n xs ≡ length xs
  everybody n [] all = refl
  everybody n (x ∷ xs) all = let low : nat_lt (by x) n ≡ true = (let h = all.0 in grind (arith, nat_tests)) in let rest = everybody n xs all.1 in rw low (omega (arith, rest))

  under_few : (a : ℕ) (lists : List (List Note)) → AreAlikeFrom a lists → under (a + length lists) H ≤ under a H + length lists * 2 ^ 56
  under_few a [] h = let same : under (a + 0) H ≡ under a H = ap (λ (n : ℕ). under n H) (start a) in omega (arith, same) where
    start : (n : ℕ) → n + 0 ≡ n
    start n = omega arith
  under_few a (notes ∷ lists) h =
      let many : length (notes_of place notes) ≡ passing (λ x. by x == a) H = alike_long (notes_of place notes) (owned by a H) h.0 ∙ mine_long a 0 H in
      let less = few_of place notes in
      let few = h.1 in
      let rest = under_few (a + 1) lists h.2 in
      let end : under (a + 1 + length lists) H ≡ under (a + suc (length lists)) H = ap (λ (n : ℕ). under n H) (shift a (length lists)) in
      let both = split a H in
      omega (arith, many, less, few, rest, end, both)
    where
      shift : (m n : ℕ) → m + 1 + n ≡ m + suc n
      shift m n = omega arith

  -- so few that each has a position
  pub few_entries : (lists : List (List Note)) → AreAlikeFrom 0 lists → AreBelow by (length lists) H → length lists ≤ 48 → length H < 2 ^ 63
  few_entries lists alike below most =
      let all = everybody (length lists) H below in
      let none = nobody H in
      let few = under_few 0 lists alike in
      let same : under (0 + length lists) H ≡ under (length lists) H = ap (λ (n : ℕ). under n H) (start (length lists)) in
      omega (arith, all, none, few, same, most)
    where
      start : (n : ℕ) → 0 + n ≡ n
      start n = omega arith

  told_from : (a : ℕ) (lists : List (List Note)) → length H < 2 ^ 63 → AreAlikeFrom a lists → AreToldFrom place by H a lists
  told_from a [] few alike = tt
  told_from a (notes ∷ lists) few alike = (
    told_alike (notes_of place notes) (owned by a H) (all_filter (λ (y : ℕ × AnyEntry). y.0 < 2 ^ 63) (λ (y : ℕ × AnyEntry). by y.1 == a) (placed_from 0 H) (placed_low (2 ^ 63) 0 H (omega (arith, few)))) alike.0,
    told_from (a + 1) lists few alike.2,
  )

  pub gathered_alike : (lists : List (List Note)) → AreAlikeFrom 0 lists → AreBelow by (length lists) H → length lists ≤ 48 → IsGathered place H lists
  gathered_alike lists alike below most = gathered_lists place by H lists (told_from 0 lists (few_entries lists alike below most) alike) below

-- ---- entries of one kind

module _ {E : Type 0} (f : E → AnyEntry) (by : E → ℕ) (same : (e : E) → actor_of (f e) ≡ by e) where
  own_map : (a : ℕ) (xs : List E) → own actor_of a (map f xs) ≡ map f (own by a xs)
  own_map a [] = refl
  own_map a (x ∷ xs) = ap (λ (m : ℕ). cond (m == a) (f x ∷ own actor_of a (map f xs)) (own actor_of a (map f xs))) (same x) ∙ at_test (by x == a) (own_map a xs) where
    at_test : (b : Bool) → own actor_of a (map f xs) ≡ map f (own by a xs) → cond b (f x ∷ own actor_of a (map f xs)) (own actor_of a (map f xs)) ≡ map f (cond b (x ∷ own by a xs) (own by a xs))
    at_test true rest = ap (λ l. f x ∷ l) rest
    at_test false rest = rest

  shown_any : (a : ℕ) (H seen : List E) → IsShown by a H seen → IsShown actor_of a (map f H) (map f seen)
  shown_any a H seen shown = record {
    prefix = (map f shown.prefix.0, ap (map f) shown.prefix.1 ∙ map_both f seen shown.prefix.0);
    all_own = own_map a H ∙ (ap (map f) shown.all_own ∙ sym (own_map a seen));
  }

  below_any : (n : ℕ) (H : List E) → AllByRecursion (λ e. by e < n) H → AreBelow actor_of n (map f H)
  below_any n [] all = tt
  below_any n (e ∷ H) all = (subst (λ (m : ℕ). m < n) (sym (same e)) all.0, below_any n H all.1)

  nothing_shown : (a : ℕ) (H seen : List E) → H ≡ [] → seen ≡ [] → IsShown by a H seen
  nothing_shown a [] [] h k = record { prefix = ([], refl); all_own = refl }
  nothing_shown a (e ∷ H) seen h k = cc
  nothing_shown a [] (e ∷ seen) h k = cc

  -- one place of this kind
  module _ (s : Script) (name : ServiceName) (see : PassesView → List (List E)) (place : Place) (i : ℕ) (Hs : List (List E))
      (pick : (a : ℕ) (q : PassesView) (ns : List Note) → IsActorOver s name a q ns → AreTheseEntries (notes_of place ns) (owned actor_of a (map f (slice_index_or (see q) i []))))
      (long : (a : ℕ) (q : PassesView) (ns : List Note) → IsActorOver s name a q ns → length (see q) ≡ length Hs) where
    abbrev here : List E
    here = slice_index_or Hs i []

    abbrev pub Sees : List E → PassesView → Type 0
    Sees H q = IsShown by q.actor H (slice_index_or (see q) i [])

    none_here : (a : ℕ) (qs : List PassesView) (lists : List (List Note)) → AreOver s name a qs lists → length Hs ≤ i → AllByRecursion (Sees here) qs
    none_here a [] [] over le = tt
    none_here a (q ∷ qs) (ns ∷ lists) over le =
        let same_long = long a q ns over.0 in
        (nothing_shown q.actor here (slice_index_or (see q) i []) (past_end Hs i le) (past_end (see q) i (omega (arith, le, same_long))), none_here (a + 1) qs lists over.1 le)
    none_here a [] (ns ∷ lists) over le = absurd over
    none_here a (q ∷ qs) [] over le = absurd over

    pub shown_here : (qs : List PassesView) (lists : List (List Note)) → AreOver s name 0 qs lists → ((H : List E) → slice_get Hs i ≡ Some H → AllByRecursion (Sees H) qs) → AllByRecursion (Sees here) qs
    shown_here qs lists over each = at_test (nat_lt i (length Hs)) refl where
      at_test : (b : Bool) → nat_lt i (length Hs) ≡ b → AllByRecursion (Sees here) qs
      at_test true is = each here (slice_get-get_or Hs i [] (let low : i < length Hs = grind (arith, nat_tests) in low))
      at_test false is = none_here 0 qs lists over (let high : length Hs ≤ i = grind (arith, nat_tests) in high)

    below_here : (n : ℕ) → ((H : List E) → slice_get Hs i ≡ Some H → AllByRecursion (λ e. by e < n) H) → AllByRecursion (λ e. by e < n) here
    below_here n each = at_test (nat_lt i (length Hs)) refl where
      at_test : (b : Bool) → nat_lt i (length Hs) ≡ b → AllByRecursion (λ e. by e < n) here
      at_test true is = each here (slice_get-get_or Hs i [] (let low : i < length Hs = grind (arith, nat_tests) in low))
      at_test false is = subst (AllByRecursion (λ e. by e < n)) (sym (past_end Hs i (let high : length Hs ≤ i = grind (arith, nat_tests) in high))) tt

    alike_here : (a : ℕ) (qs : List PassesView) (lists : List (List Note)) → AreOver s name a qs lists → AllByRecursion (Sees here) qs → AreAlikeFrom actor_of place (map f here) a lists
    alike_here a [] [] over sees = tt
    alike_here a (q ∷ qs) (ns ∷ lists) over sees =
        let seen : List E = slice_index_or (see q) i [] in
        let shown : IsShown by a here seen = subst (λ (b : ℕ). IsShown by b here seen) over.0.acting.actor sees.0 in (
          subst (AreTheseEntries (notes_of place ns)) (sym (owned-shown actor_of a (map f here) (map f seen) (shown_any a here seen shown))) (pick a q ns over.0),
          over.0.few,
          alike_here (a + 1) qs lists over.1 sees.1,
        )
    alike_here a [] (ns ∷ lists) over sees = absurd over
    alike_here a (q ∷ qs) [] over sees = absurd over

    module _ (qs : List PassesView) (lists : List (List Note)) (over : AreOver s name 0 qs lists) (most : length lists ≤ 48) (each : (H : List E) → slice_get Hs i ≡ Some H → AllByRecursion (Sees H) qs)
        (ours : (H : List E) → slice_get Hs i ≡ Some H → AllByRecursion (λ e. by e < length lists) H) where
      pub few_here : length (map f here) < 2 ^ 63
      few_here = few_entries actor_of place (map f here) lists (alike_here 0 qs lists over (shown_here qs lists over each)) (below_any (length lists) here (below_here (length lists) ours)) most

      pub gathered_here : IsGathered place (map f here) lists
      gathered_here = gathered_alike actor_of place (map f here) lists (alike_here 0 qs lists over (shown_here qs lists over each)) (below_any (length lists) here (below_here (length lists) ours)) most

-- ---- an actor's own notes

abbrev pub entries : List Note → List AnyEntry
entries ns = map (λ (n : Note). n.entry) ns

module _ (s : Script) (name : ServiceName) (b : ℕ) (H : List AnyEntry) where
  alike_own : (a : ℕ) (qs : List PassesView) (lists : List (List Note)) → AreOver s name a qs lists → ((k : ℕ) (ns : List Note) → slice_get lists k ≡ Some ns → a + k ≡ b → H ≡ entries (notes_of (at.Actor b) ns)) →
      AreAlikeFrom (λ _. b) (at.Actor b) H a lists
  alike_own a [] [] over each = tt
  alike_own a (q ∷ qs) (ns ∷ lists) over each = (at_test (b == a) refl, over.0.few, alike_own (a + 1) qs lists over.1 (λ k ms is e. each (suc k) ms is (omega (arith, e)))) where
    at_test : (t : Bool) → (b == a) ≡ t → AreTheseEntries (notes_of (at.Actor b) ns) (owned (λ _. b) a H)
    at_test true is =
        let mine : a ≡ b = grind (arith, nat_tests) in
        let whole : owned (λ _. b) a H ≡ placed_from 0 H = filter_const (b == a) (placed_from 0 H) ∙ ap (λ (t : Bool). cond t (placed_from 0 H) []) is in
        let told_here = subst (λ (x : ℕ). AreTheseEntries (notes_of (at.Actor x) ns) (placed_from 0 (entries (notes_of (at.Actor x) ns)))) mine over.0.acting.shown.own in
        subst (AreTheseEntries (notes_of (at.Actor b) ns)) (sym (whole ∙ ap (placed_from 0) (each 0 ns refl (omega (arith, mine))))) told_here
    at_test false is =
        let other : b ≡ a → ⊥ = λ e. (let clash : (b == a) ≡ true = grind (arith, nat_tests) in cc) in
        let whole : owned (λ _. b) a H ≡ [] = filter_const (b == a) (placed_from 0 H) ∙ ap (λ (t : Bool). cond t (placed_from 0 H) []) is in
        subst (λ (l : List Note). AreTheseEntries l (owned (λ _. b) a H)) (sym (over.0.acting.shown.others b other)) (subst (AreTheseEntries []) (sym whole) tt)
  alike_own a [] (ns ∷ lists) over each = absurd over
  alike_own a (q ∷ qs) [] over each = absurd over

below_own : (b n : ℕ) (H : List AnyEntry) → b < n → AreBelow (λ _. b) n H
below_own b n [] low = tt
below_own b n (x ∷ H) low = (low, below_own b n H low)

pub gathered_own : (s : Script) (name : ServiceName) (b : ℕ) (qs : List PassesView) (lists : List (List Note)) → AreOver s name 0 qs lists → length lists ≤ 48 →
    IsGathered (at.Actor b) (entries (notes_of (at.Actor b) (slice_index_or lists b []))) lists
gathered_own s name b qs lists over most = gathered_alike (λ _. b) (at.Actor b) H lists (alike_own s name b H 0 qs lists over each) (at_test (nat_lt b (length lists)) refl) most where
  H : List AnyEntry
  H = entries (notes_of (at.Actor b) (slice_index_or lists b []))

  each : (k : ℕ) (ns : List Note) → slice_get lists k ≡ Some ns → 0 + k ≡ b → H ≡ map (λ (n : Note). n.entry) (notes_of (at.Actor b) ns)
  each k ns is e =
      let k_is : k ≡ b = omega (arith, e) in
      ap (λ (ms : List Note). map (λ (n : Note). n.entry) (notes_of (at.Actor b) ms)) (ap (λ (x : ℕ). slice_index_or lists x []) (sym k_is) ∙ get_or_of lists k [] ns is)

  at_test : (t : Bool) → nat_lt b (length lists) ≡ t → AreBelow (λ _. b) (length lists) H
  at_test true is = below_own b (length lists) H (let low : b < length lists = grind (arith, nat_tests) in low)
  at_test false is =
      subst (λ (ms : List Note). AreBelow (λ _. b) (length lists) (map (λ (n : Note). n.entry) (notes_of (at.Actor b) ms))) (sym (past_end lists b (let high : length lists ≤ b = grind (arith, nat_tests) in high))) tt
