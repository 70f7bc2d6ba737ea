-- The numbers of places are small.
use Rattle.std.proofs.Common.{◌≡◌, ◌+◌, ◌*◌, ◌^◌, ◌<◌, ◌≤◌, ◌==◌, Bool, true, false, cond, length, arith}
use Rattle.std.proofs.lemmas.Bool.{ltb-true}
use Rattle.co_object.specs.declared.Place.{Place}
use Rattle.co_object.specs.declared.Place.TheVariants.{Timer, Cpu, Actor}
use Rattle.co_program.specs.declared.script.Script.{Script}
use Rattle.co_program.specs.Actors.{actor_count, client_count}
use Rattle.co_program.specs.Places.{place_exists, place_index}
use Rattle.co_program.specs.Scripts.{IsScript}

pub most_actors : (s : Script) → IsScript s → actor_count s ≤ 48
most_actors s h = few (s.version == 2) where
  few : (b : Bool) → cond b (client_count s + 2 * s.cpus) (client_count s + s.cpus) ≤ 48
  few true = let cpus = h.cpus.1 in let clients = h.few_clients in omega arith
  few false = let cpus = h.cpus.1 in let clients = h.few_clients in omega arith

pub index_fits : (s : Script) (p : Place) → IsScript s → place_exists s p ≡ true → place_index s p < 2 ^ 64
index_fits s (Timer i) h is = let timers = h.timers.1 in let below = ltb-true i (length s.timers) is in omega arith
index_fits s (Cpu c) h is = let timers = h.timers.1 in let cpus = h.cpus.1 in let below = ltb-true c s.cpus is in omega arith
index_fits s (Actor a) h is =
    let timers = h.timers.1 in
    let cpus = h.cpus.1 in
    let actors = most_actors s h in
    let below = ltb-true a (actor_count s) is in
    omega arith
