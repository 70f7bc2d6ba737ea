-- The seats of a group of actors, played and not: the first stands last.
use Rattle.std.proofs.Common.{◌≡◌, ℕ, zero, suc, ◌+◌, ◌<◌, List, [], ◌∷◌, ◌++◌, map, take, drop, length, get_or, refl, ap, sym, subst, ◌∙◌, arith, length-append, length-take, length-drop, get_or-take, get_or-drop, get_or-append-add, append_assoc, ◌-◌}
use Rattle.std.proofs.lemmas.List.Elements.{All-append}
use Rattle.std.specs.List.{All}
use Rattle.std.proofs.lemmas.List.{length-map, map-append, get_or_append_left}
use Rattle.std.specs.Prelude.{Err, IfOk, IsOkAnd, Ok, Result, Some, slice_get}
use Rattle.co_object.specs.declared.note.Note.{Note}
use Rattle.co_program.specs.declared.script.Script.{Script}
use Rattle.co_desk.specs.Name.{ServiceName}
use Rattle.co_desk.specs.Views.{PassesView}
use Rattle.co_program.specs.Actors.{actor_count, client_count}
use Rattle.co_sbt.specs.declared.seq.NoMemory.{NoMemory}
use Rattle.co_run.specs.declared.jobs.Crew.{Crew}
use Rattle.co_run.specs.declared.jobs.Kit.{Kit}
use Rattle.co_run.specs.Jobs.{AreJobs, HasPlayed, HavePlayed, IsCrew, IsGroup, IsJob, IsSeat}
use Rattle.co_run.specs.Over.{AreOver, IsActorOver}
use Rattle.co_run.proofs.groups.LastItem.{get_front, get_last}

over_more : (s : Script) (name : ServiceName) (a : ℕ) (qs : List PassesView) (lists : List (List Note)) (q : PassesView) (ns : List Note) → AreOver s name a qs lists → IsActorOver s name (a + length lists) q ns → AreOver s name a (qs ++ q ∷ []) (lists ++ ns ∷ [])
over_more s name a [] [] q ns over one = (subst (λ (b : ℕ). IsActorOver s name b q ns) (start a) one, tt) where
  start : (n : ℕ) → n + 0 ≡ n
  start n = omega arith
over_more s name a (p ∷ qs) (ms ∷ lists) q ns over one = (over.0, over_more s name (a + 1) qs lists q ns over.1 (subst (λ (b : ℕ). IsActorOver s name b q ns) (shift a (length lists)) one)) where
  shift : (m n : ℕ) → m + suc n ≡ m + 1 + n
  shift m n = omega arith
over_more s name a [] (ms ∷ lists) q ns over one = absurd over
over_more s name a (p ∷ qs) [] q ns over one = absurd over

-- what the next actor brings back goes to the others'
pub over_next : (s : Script) (name : ServiceName) (qs : List PassesView) (lists : List (List Note)) (q : PassesView) (ns : List Note) → AreOver s name 0 qs lists → IsActorOver s name (length lists) q ns → AreOver s name 0 (qs ++ q ∷ []) (lists ++ ns ∷ [])
over_next s name qs lists q ns over one = over_more s name 0 qs lists q ns over (subst (λ (b : ℕ). IsActorOver s name b q ns) (start (length lists)) one) where
  start : (n : ℕ) → n ≡ 0 + n
  start n = omega arith

-- where they bring back books
over_next_book : {B : Type 0} (notes : B → List Note) (s : Script) (name : ServiceName) (qs : List PassesView) (books : List B) (q : PassesView) (book : B) → AreOver s name 0 qs (map notes books) → IsActorOver s name (length books) q (notes book) → AreOver s name 0 (qs ++ q ∷ []) (map notes (books ++ book ∷ []))
over_next_book notes s name qs books q book over one =
    subst (AreOver s name 0 (qs ++ q ∷ [])) (sym (map-append notes books (book ∷ [])))
    (over_next s name qs (map notes books) q (notes book) over (subst (λ (a : ℕ). IsActorOver s name a q (notes book)) (sym (length-map books notes)) one))

pub over_added : {B : Type 0} (notes : B → List Note) (s : Script) (name : ServiceName) (qs all_qs : List PassesView) (books all_books : List B) (q : PassesView) (book : B) → all_qs ≡ qs ++ q ∷ [] → all_books ≡ books ++ book ∷ [] → AreOver s name 0 qs (map notes books) → IsActorOver s name (length books) q (notes book) → AreOver s name 0 all_qs (map notes all_books)
over_added {B} notes s name qs all_qs books all_books q book qs_are books_are over one =
    subst (λ (bs : List B). AreOver s name 0 all_qs (map notes bs)) (sym books_are)
    (subst (λ (rs : List PassesView). AreOver s name 0 rs (map notes (books ++ book ∷ []))) (sym qs_are) (over_next_book notes s name qs books q book over one))

-- ---- a group of actors

pub group_at : {X : Type 0} (Are : ℕ → List X → Type 0) (first from end to : ℕ) (xs : List X) → first ≡ from → end ≡ to → IsGroup Are first end xs → IsGroup Are from to xs
group_at Are first from end to xs same also group = subst (λ (b : ℕ). IsGroup Are from b xs) also (subst (λ (b : ℕ). IsGroup Are b end xs) same group)

-- ---- what stands at a place of a list

module _ {X : Type 0} where
  get_below : (xs : List X) (x : X) (k : ℕ) → slice_get xs k ≡ Some x → k < length xs
  get_below [] x k is = cc
  get_below (y ∷ xs) x zero is = omega arith
  get_below (y ∷ xs) x (suc k) is = (let low = get_below xs x k is in omega (arith, low))

  get_or_is : (xs : List X) (x d : X) (k : ℕ) → slice_get xs k ≡ Some x → get_or xs k d ≡ x
  get_or_is [] x d k is = cc
  get_or_is (y ∷ xs) x d zero is = cc
  get_or_is (y ∷ xs) x d (suc k) is = get_or_is xs x d k is

  get_is : (xs : List X) (d : X) (k : ℕ) → k < length xs → slice_get xs k ≡ Some (get_or xs k d)
  get_is [] d k low = absurd (omega (arith, low))
  get_is (y ∷ xs) d zero low = refl
  get_is (y ∷ xs) d (suc k) low = get_is xs d k (omega (arith, low))

  -- what stands in the place of a whole list
  pub written : (xs ys : List X) (n : ℕ) → n ≡ length xs → take n (xs ++ ys) ≡ xs
  written xs ys n is = ap (λ (m : ℕ). take m (xs ++ ys)) is ∙ front xs where
    front : (zs : List X) → take (length zs) (zs ++ ys) ≡ zs
    front [] = refl
    front (z ∷ zs) = ap (λ (l : List X). z ∷ l) (front zs)

-- ---- the seats once they are played

module _ {B E : Type 0} (s : Script) (name : ServiceName) (notes : B → List Note) where
  -- each of the seats was played, place by place
  abbrev pub ArePlayed : List (Result (Kit B) E) → List (Result (Kit B) E) → Type 0
  ArePlayed xs ys = (length ys ≡ length xs) × ((k : ℕ) (seat : Result (Kit B) E) → k < length xs → HasPlayed s name notes (get_or xs k seat) (get_or ys k seat))

  seat_of : (spare : B → ℕ) (a : ℕ) (seat : Result (Kit B) E) → IsOkAnd seat (λ kit. IsJob s name a kit.passes (notes kit.book) (spare kit.book)) → IsSeat s name notes spare seat
  seat_of spare a (Ok kit) job = subst (λ (b : ℕ). IsJob s name b kit.passes (notes kit.book) (spare kit.book)) (sym (ap (λ q. q.actor) job.passes)) job
  seat_of spare a (Err e) job = tt

  seats_of : (spare : B → ℕ) (xs : List (Result (Kit B) E)) (first end : ℕ) → IsGroup (AreJobs s name notes spare) first end xs → All (IsSeat s name notes spare) xs
  seats_of spare xs first end group = λ k d inside.
      let count = group.count in
      let at : (first + (length xs - suc k)) + k + 1 ≡ end = omega (arith, count, inside) in
      seat_of spare (first + (length xs - suc k)) (get_or xs k d) (group.each k (get_or xs k d) (get_is xs d k inside) (first + (length xs - suc k)) at)

  at_seat : (spare : B → ℕ) (a : ℕ) (before after : Result (Kit B) E) → IsOkAnd before (λ kit. IsJob s name a kit.passes (notes kit.book) (spare kit.book)) → HasPlayed s name notes before after → IfOk after (λ kit. IsActorOver s name a kit.passes (notes kit.book))
  at_seat spare a (Ok kit) after job played = subst (λ (b : ℕ). IfOk after (λ one. IsActorOver s name b one.passes (notes one.book))) (ap (λ q. q.actor) job.passes) played
  at_seat spare a (Err e) after job played = absurd job

  pub group_played : (spare : B → ℕ) (xs ys : List (Result (Kit B) E)) (first end : ℕ) → ArePlayed xs ys → IsGroup (AreJobs s name notes spare) first end xs → IsGroup (HavePlayed notes s name) first end ys
  group_played spare xs ys first end played group = record {
    count = ap (λ (n : ℕ). first + n) played.0 ∙ group.count;
    each = λ k seat is a at.
        let inside : k < length xs = subst (λ (n : ℕ). k < n) played.0 (get_below ys seat k is) in
        subst (λ (y : Result (Kit B) E). IfOk y (λ kit. IsActorOver s name a kit.passes (notes kit.book))) (get_or_is ys seat seat k is)
        (at_seat spare a (get_or xs k seat) (get_or ys k seat) (group.each k (get_or xs k seat) (get_is xs seat k inside) a at) (played.1 k seat inside));
  }

  -- the seats of some, and of the others behind them
  pub first_played : (xs others ys : List (Result (Kit B) E)) (n : ℕ) → n ≡ length xs → ArePlayed (xs ++ others) ys → ArePlayed xs (take n ys)
  first_played xs others ys n is played =
      let long = length-append xs others in
      let all = played.0 in (
        let taken = length-take n ys in omega (arith, taken, is, long, all),
        λ k seat inside. subst (λ (x : Result (Kit B) E). HasPlayed s name notes x (get_or (take n ys) k seat)) (get_or_append_left xs others seat k inside)
            (subst (HasPlayed s name notes (get_or (xs ++ others) k seat)) (sym (get_or-take n ys k seat (omega (arith, is, inside)))) (played.1 k seat (omega (arith, long, inside)))),
      )

  pub others_played : (xs others ys : List (Result (Kit B) E)) (n : ℕ) → n ≡ length xs → ArePlayed (xs ++ others) ys → ArePlayed others (drop n ys)
  others_played xs others ys n is played =
      let long = length-append xs others in
      let all = played.0 in (
        let left = length-drop n ys in omega (arith, left, is, long, all),
        λ k seat inside. subst (λ (x : Result (Kit B) E). HasPlayed s name notes x (get_or (drop n ys) k seat)) (get_or-append-add xs others k seat)
            (subst (HasPlayed s name notes (get_or (xs ++ others) (length xs + k) seat)) (sym (get_or-drop n ys k seat ∙ ap (λ (m : ℕ). get_or ys (m + k) seat) is)) (played.1 (length xs + k) seat (omega (arith, long, inside)))),
      )

  -- the first of those that have played stands last
  pub played_first : (all : List (Result (Kit B) E)) (one : Result (Kit B) E) (next end : ℕ) → IsGroup (HavePlayed notes s name) next end (all ++ one ∷ []) → IfOk one (λ kit. IsActorOver s name next kit.passes (notes kit.book))
  played_first all one next end group =
      let long = length-append all (one ∷ []) in
      group.each (length all) one (get_last all one) next (let count = group.count in omega (arith, count, long))

  pub played_less : (all : List (Result (Kit B) E)) (one : Result (Kit B) E) (next end : ℕ) → IsGroup (HavePlayed notes s name) next end (all ++ one ∷ []) → IsGroup (HavePlayed notes s name) (next + 1) end all
  played_less all one next end group = record {
    count = (let long = length-append all (one ∷ []) in let count = group.count in omega (arith, count, long));
    each = λ k seat is a at. group.each k seat (get_front all one seat k is) a at;
  }

-- ---- all actors: the seats of the CPUs, then those of the interrupts and of the clients

module _ {B : Type 0} (s : Script) (name : ServiceName) (notes : B → List Note) (spare : B → ℕ) where
  abbrev Seats : Type 0
  Seats = List (Result (Kit B) NoMemory)

  pub crew_seats : (crew : Crew B) (some most all : Seats) → IsCrew s (AreJobs s name notes spare) crew → some ≡ crew.cpus.items ++ crew.interrupts.items → most ≡ some ++ crew.clients.items → all ≡ most → All (IsSeat s name notes spare) all
  crew_seats crew some most all is e1 e2 e3 =
      let seats = IsSeat s name notes spare in
      subst (All seats) (sym (e3 ∙ e2))
      (All-append seats some crew.clients.items (subst (All seats) (sym e1) (All-append seats crew.cpus.items crew.interrupts.items
      (seats_of s name notes spare crew.cpus.items _ _ is.of_cpus) (seats_of s name notes spare crew.interrupts.items _ _ is.of_interrupts)))
      (seats_of s name notes spare crew.clients.items _ _ is.of_clients))

  pub crew_played : (crew after : Crew B) (some most all played : Seats) (n m : ℕ) → IsCrew s (AreJobs s name notes spare) crew → some ≡ crew.cpus.items ++ crew.interrupts.items → most ≡ some ++ crew.clients.items → all ≡ most
      → ArePlayed s name notes all played → n ≡ length crew.cpus.items → m ≡ length crew.interrupts.items → after.cpus.items ≡ take n played → after.interrupts.items ≡ take m (drop n played) → after.clients.items ≡ drop m (drop n played)
      → IsCrew s (HavePlayed notes s name) after
  crew_played crew after some most all played n m is e1 e2 e3 are one two cpus interrupts clients =
      let whole : all ≡ crew.cpus.items ++ (crew.interrupts.items ++ crew.clients.items) = e3 ∙ (e2 ∙ (ap (λ (xs : Seats). xs ++ crew.clients.items) e1 ∙ append_assoc crew.cpus.items crew.interrupts.items crew.clients.items)) in
      let each = subst (λ (xs : Seats). ArePlayed s name notes xs played) whole are in
      let others = others_played s name notes crew.cpus.items (crew.interrupts.items ++ crew.clients.items) played n one each in
      record {
        of_clients = subst (IsGroup (HavePlayed notes s name) 0 (client_count s)) (sym clients)
            (group_played s name notes spare crew.clients.items _ 0 (client_count s) (others_played s name notes crew.interrupts.items crew.clients.items (drop n played) m two others) is.of_clients);
        of_cpus = subst (IsGroup (HavePlayed notes s name) (client_count s) (client_count s + s.cpus)) (sym cpus)
            (group_played s name notes spare crew.cpus.items _ (client_count s) (client_count s + s.cpus) (first_played s name notes crew.cpus.items (crew.interrupts.items ++ crew.clients.items) played n one each) is.of_cpus);
        of_interrupts = subst (IsGroup (HavePlayed notes s name) (client_count s + s.cpus) (actor_count s)) (sym interrupts)
            (group_played s name notes spare crew.interrupts.items _ (client_count s + s.cpus) (actor_count s) (first_played s name notes crew.interrupts.items crew.clients.items (drop n played) m two others) is.of_interrupts);
      }
