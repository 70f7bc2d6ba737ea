-- The places of a report as one list, and what is made of each of them.
use Rattle.std.proofs.Common.{◌≡◌, ℕ, zero, suc, ◌+◌, ◌<◌, true, List, [], ◌∷◌, ◌++◌, map, length, get_or, refl, ap, sym, ◌∙◌, arith, length-append}
use Rattle.std.specs.List.{range_with_len}
use Rattle.std.proofs.lemmas.List.{map-append, get_or_append_left, get_or-append-add}
use Rattle.std.proofs.lemmas.List.FromFn.{length-range_with_len, get_or-range_with_len}
use Rattle.co_object.specs.declared.Place.{Place}
use Rattle.co_object.specs.declared.Place.TheVariants.{Timer, Cpu, Actor}
use Rattle.co_program.specs.declared.Script.{Script}
use Rattle.co_program.specs.Actors.{actor_count}
use Rattle.co_program.specs.Places.{place_exists}
use Rattle.co_print.specs.Order.{place_index, place_count}
use Rattle.co_print.specs.Reports.{places}
use Rattle.co_print.proofs.Places.{below}

module _ {Y : Type 0} (g : Place → Y) (kind : ℕ → Place) where
  length-both : (ks : List ℕ) → length (map g (map kind ks)) ≡ length ks
  length-both [] = refl
  length-both (k ∷ ks) = ap suc (length-both ks)

  at-both : (d : Y) (ks : List ℕ) (j : ℕ) → j < length ks → get_or (map g (map kind ks)) j d ≡ g (kind (get_or ks j 0))
  at-both d [] j h = absurd (omega (arith, h))
  at-both d (k ∷ ks) zero h = refl
  at-both d (k ∷ ks) (suc j) h = at-both d ks j (omega (arith, h))

-- those of the three kinds
module _ (s : Script) where
  abbrev pub timers : List Place
  timers = map Timer (range_with_len 0 (length s.timers))

  abbrev pub wheels : List Place
  wheels = map Cpu (range_with_len 0 s.cpus)

  abbrev pub actors : List Place
  actors = map Actor (range_with_len 0 (actor_count s))

  module _ {Y : Type 0} (g : Place → Y) where
    pub map-places : map g (places s) ≡ map g timers ++ (map g wheels ++ map g actors)
    map-places = map-append g timers (wheels ++ actors) ∙ ap (λ ys. map g timers ++ ys) (map-append g wheels actors)

    pub length-kind : (kind : ℕ → Place) (n : ℕ) → length (map g (map kind (range_with_len 0 n))) ≡ n
    length-kind kind n = length-both g kind (range_with_len 0 n) ∙ length-range_with_len 0 n

    at-kind : (kind : ℕ → Place) (n i : ℕ) (d : Y) → i < n → get_or (map g (map kind (range_with_len 0 n))) i d ≡ g (kind i)
    at-kind kind n i d inside =
        let first : 0 + i ≡ i = omega arith in
        at-both g kind d (range_with_len 0 n) i (omega (arith, inside, length-range_with_len 0 n)) ∙ ap (λ k. g (kind k)) (get_or-range_with_len 0 n i 0 inside ∙ first)

    pub at-place : (p : Place) (d : Y) → place_exists s p ≡ true → get_or (map g (places s)) (place_index s p) d ≡ g p
    at-place (Timer i) d exists =
        let inside : i < length s.timers = below i (length s.timers) exists in
        ap (λ ys. get_or ys i d) map-places
        ∙ (get_or_append_left (map g timers) (map g wheels ++ map g actors) d i (omega (arith, inside, length-kind Timer (length s.timers)))
        ∙ at-kind Timer (length s.timers) i d inside)
    at-place (Cpu c) d exists =
        let inside : c < s.cpus = below c s.cpus exists in
        ap (λ ys. get_or ys (length s.timers + c) d) map-places
        ∙ (ap (λ k. get_or (map g timers ++ (map g wheels ++ map g actors)) (k + c) d) (sym (length-kind Timer (length s.timers)))
        ∙ (get_or-append-add (map g timers) (map g wheels ++ map g actors) c d
        ∙ (get_or_append_left (map g wheels) (map g actors) d c (omega (arith, inside, length-kind Cpu s.cpus))
        ∙ at-kind Cpu s.cpus c d inside)))
    at-place (Actor a) d exists =
        let inside : a < actor_count s = below a (actor_count s) exists in
        let first : length s.timers + s.cpus + a ≡ length (map g timers) + (length (map g wheels) + a) = omega (arith, length-kind Timer (length s.timers), length-kind Cpu s.cpus) in
        ap (λ ys. get_or ys (length s.timers + s.cpus + a) d) map-places
        ∙ (ap (λ k. get_or (map g timers ++ (map g wheels ++ map g actors)) k d) first
        ∙ (get_or-append-add (map g timers) (map g wheels ++ map g actors) (length (map g wheels) + a) d
        ∙ (get_or-append-add (map g wheels) (map g actors) a d
        ∙ at-kind Actor (actor_count s) a d inside)))

pub length-places : {Y : Type 0} (s : Script) (g : Place → Y) → length (map g (places s)) ≡ place_count s
length-places s g =
    ap length (map-places s g)
    ∙ omega (
      arith,
      length-append (map g (timers s)) (map g (wheels s) ++ map g (actors s)),
      length-append (map g (wheels s)) (map g (actors s)),
      length-kind s g Timer (length s.timers),
      length-kind s g Cpu s.cpus,
      length-kind s g Actor (actor_count s),
    )
