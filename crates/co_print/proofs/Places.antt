-- The numbers of places: each is below their count, and two places with one number are one place.
use Rattle.std.proofs.Common.{◌≡◌, ℕ, ◌+◌, ◌<◌, true, false, ◌==◌, nat_lt, length, refl, arith}
use Rattle.std.proofs.lemmas.Bool.Decides.{nat_tests}
use Rattle.co_object.specs.declared.Place.{Place}
use Rattle.co_object.specs.declared.Place.TheVariants.{Timer, Cpu, Actor}
use Rattle.co_object.specs.Lists.{same_place}
use Rattle.co_program.specs.declared.Script.{Script}
use Rattle.co_program.specs.Actors.{actor_count}
use Rattle.co_program.specs.Places.{place_exists}
use Rattle.co_print.specs.Order.{place_index, place_count}

pub below : (m n : ℕ) → nat_lt m n ≡ true → m < n
below m n h = grind (arith, nat_tests)

pub index_below : (s : Script) (p : Place) → place_exists s p ≡ true → place_index s p < place_count s
index_below s (Timer i) h = let in_range = below i (length s.timers) h in omega arith
index_below s (Cpu c) h = let in_range = below c s.cpus h in omega arith
index_below s (Actor a) h = let in_range = below a (actor_count s) h in omega arith

not_same : (a b : ℕ) → a < b → (a == b) ≡ false
not_same a b h = grind (arith, nat_tests)

not_same_back : (a b : ℕ) → b < a → (a == b) ≡ false
not_same_back a b h = grind (arith, nat_tests)

itself : (n : ℕ) → (n == n) ≡ true
itself n = grind (arith, nat_tests)

shifted : (n a b : ℕ) → (n + a == n + b) ≡ (a == b)
shifted n a b = grind (arith, nat_tests)

pub same_index : (s : Script) (q p : Place) → place_exists s q ≡ true → place_exists s p ≡ true → (place_index s q == place_index s p) ≡ same_place q p
same_index s (Timer i) (Timer j) h g = refl
same_index s (Timer i) (Cpu c) h g = let q = below i (length s.timers) h in not_same i (length s.timers + c) (omega arith)
same_index s (Timer i) (Actor a) h g = let q = below i (length s.timers) h in not_same i (length s.timers + s.cpus + a) (omega arith)
same_index s (Cpu c) (Timer i) h g = let p = below i (length s.timers) g in not_same_back (length s.timers + c) i (omega arith)
same_index s (Cpu c) (Cpu d) h g = shifted (length s.timers) c d
same_index s (Cpu c) (Actor a) h g = let q = below c s.cpus h in not_same (length s.timers + c) (length s.timers + s.cpus + a) (omega arith)
same_index s (Actor a) (Timer i) h g = let p = below i (length s.timers) g in not_same_back (length s.timers + s.cpus + a) i (omega arith)
same_index s (Actor a) (Cpu c) h g = let p = below c s.cpus g in not_same_back (length s.timers + s.cpus + a) (length s.timers + c) (omega arith)
same_index s (Actor a) (Actor b) h g = shifted (length s.timers + s.cpus) a b

pub same_itself : (p : Place) → same_place p p ≡ true
same_itself (Timer i) = itself i
same_itself (Cpu c) = itself c
same_itself (Actor a) = itself a
