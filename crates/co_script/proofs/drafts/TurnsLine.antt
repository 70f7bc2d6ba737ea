-- A line of turns keeps a draft fine.
use Rattle.std.proofs.Common.{◌≡◌, ℕ, ◌+◌, ◌*◌, ◌<◌, ◌≤◌, Bool, true, false, cond, List, [], ◌∷◌, ◌++◌, length, refl, arith, length-append}
use Rattle.std.specs.Prelude.{Some, None, ◌==◌, nat_lt, sum_by, flat_map, is_some}
use Rattle.std.specs.List.{list_all}
use Rattle.std.proofs.lemmas.Bool.{ltb-true, lt-ltb}
use Rattle.std.proofs.lemmas.List.{length-replicate}
use Rattle.std.proofs.lemmas.List.Sums.{sum_by-cons}
use Rattle.co_object.proofs.Changes.{both_true}
use Rattle.co_program.specs.declared.Script.{Script}
use Rattle.co_program.specs.declared.Role.{Role}
use Rattle.co_program.specs.declared.Role.TheVariants.{Client, Cpu, Interrupt}
use Rattle.co_program.specs.Actors.{actor_count}
use Rattle.co_grammar.specs.declared.Kind.{Kind}
use Rattle.co_grammar.specs.declared.Kind.TheVariants as kind
use Rattle.co_grammar.specs.Turns.{Turn}
use Rattle.co_grammar.specs.Checks.{is_within}
use Rattle.co_script.specs.Refusals.{below, actor_number, turn_fits, times_of, number_or_0, steps_of_turn}
use Rattle.co_script.proofs.told.Turns.{is_role_of}
use Rattle.co_script.proofs.AllPass.{more-pass, copies-pass}
use Rattle.co_script.proofs.drafts.Firm.{Firm, Fine, opened}

numbered : (s : Script) (r : Role) → is_role_of s.version r ≡ true → is_some (actor_number s r) ≡ true → nat_lt (number_or_0 (actor_number s r)) (actor_count s) ≡ true
numbered s (Client n) formed h = lt-ltb (number_or_0 (below (length s.clients) 0 n)) (actor_count s) (go (nat_lt n (length s.clients)) refl h) where
  count : (b : Bool) → length s.clients + s.cpus ≤ cond b (length s.clients + 2 * s.cpus) (length s.clients + s.cpus)
  count true = omega arith
  count false = omega arith

  go : (b : Bool) → nat_lt n (length s.clients) ≡ b → is_some (cond b (Some (0 + n)) None) ≡ true → number_or_0 (cond b (Some (0 + n)) None) < actor_count s
  go true is h = let less : n < length s.clients = ltb-true n (length s.clients) is in let all : length s.clients + s.cpus ≤ actor_count s = count (s.version == 2) in omega (arith, less, all)
  go false is h = cc
numbered s (Cpu n) formed h = lt-ltb (number_or_0 (below s.cpus (length s.clients) n)) (actor_count s) (go (nat_lt n s.cpus) refl h) where
  count : (b : Bool) → length s.clients + s.cpus ≤ cond b (length s.clients + 2 * s.cpus) (length s.clients + s.cpus)
  count true = omega arith
  count false = omega arith

  go : (b : Bool) → nat_lt n s.cpus ≡ b → is_some (cond b (Some (length s.clients + n)) None) ≡ true → number_or_0 (cond b (Some (length s.clients + n)) None) < actor_count s
  go true is h = let less : n < s.cpus = ltb-true n s.cpus is in let all : length s.clients + s.cpus ≤ actor_count s = count (s.version == 2) in omega (arith, less, all)
  go false is h = cc
numbered s (Interrupt n) formed h = lt-ltb (number_or_0 (below s.cpus (length s.clients + s.cpus) n)) (actor_count s) (go (nat_lt n s.cpus) refl h) where
  count : (b : Bool) → b ≡ true → length s.clients + 2 * s.cpus ≤ cond b (length s.clients + 2 * s.cpus) (length s.clients + s.cpus)
  count true is = omega arith
  count false is = cc

  go : (b : Bool) → nat_lt n s.cpus ≡ b → is_some (cond b (Some (length s.clients + s.cpus + n)) None) ≡ true → number_or_0 (cond b (Some (length s.clients + s.cpus + n)) None) < actor_count s
  go true is h = let less : n < s.cpus = ltb-true n s.cpus is in let all : length s.clients + 2 * s.cpus ≤ actor_count s = count (s.version == 2) formed in omega (arith, less, all)
  go false is h = cc

steps-pass : (s : Script) (ts : List Turn) → list_all (λ (t : Turn). is_role_of s.version t.who) ts ≡ true → list_all (turn_fits s) ts ≡ true → list_all (λ a. nat_lt a (actor_count s)) (flat_map (steps_of_turn s) ts) ≡ true
steps-pass s [] formed h = refl
steps-pass s (t ∷ ts) formed h =
    let both = both_true (turn_fits s t) (list_all (turn_fits s) ts) h in
    let here = both_true (is_some (actor_number s t.who)) (is_within 1 1000000 t.times) both.0 in
    let roles = both_true (is_role_of s.version t.who) (list_all (λ (t : Turn). is_role_of s.version t.who) ts) formed in
    more-pass (λ a. nat_lt a (actor_count s)) (steps_of_turn s t) (flat_map (steps_of_turn s) ts)
    (copies-pass (λ a. nat_lt a (actor_count s)) t.times (number_or_0 (actor_number s t.who)) (numbered s t.who roles.0 here.0))
    (steps-pass s ts roles.1 both.1)

steps-long : (s : Script) (ts : List Turn) → length (flat_map (steps_of_turn s) ts) ≡ sum_by times_of ts
steps-long s [] = refl
steps-long s (t ∷ ts) =
    let long : length (flat_map (steps_of_turn s) (t ∷ ts)) ≡ length (steps_of_turn s t) + length (flat_map (steps_of_turn s) ts) = length-append (steps_of_turn s t) (flat_map (steps_of_turn s) ts) in
    let here : length (steps_of_turn s t) ≡ t.times = length-replicate t.times (number_or_0 (actor_number s t.who)) in
    let sum : sum_by times_of (t ∷ ts) ≡ t.times + sum_by times_of ts = sum_by-cons times_of t ts in
    omega (arith, long, here, sum, steps-long s ts)

pub turns-line-fine : (funcs count : ℕ) (stage : Kind) (s : Script) (ts : List Turn) → Firm funcs count stage s → list_all (λ (t : Turn). is_role_of s.version t.who) ts ≡ true → list_all (turn_fits s) ts ≡ true → length s.turns + sum_by times_of ts ≤ 1000000 → Fine (record { script = record s { turns = s.turns ++ flat_map (steps_of_turn s) ts }; stage = kind.Turns; funcs = funcs; acts = []; clock = 0; count = count })
turns-line-fine funcs count stage s ts h formed fit_here room =
    let fit : Firm (funcs) count kind.Turns (record s { turns = s.turns ++ flat_map (steps_of_turn s) ts }) = record {
      version = h.version;
      hz = h.hz;
      cpus = h.cpus;
      buckets = h.buckets;
      funcs_most = h.funcs_most;
      locks_most = h.locks_most;
      timers_most = h.timers_most;
      clients_most = h.clients_most;
      funcs_room = h.funcs_room;
      ticks_room = h.ticks_room;
      specs = h.specs;
      funcs_fit = h.funcs_fit;
      clients_fit = h.clients_fit;
      ticks_fit = h.ticks_fit;
      total = h.total;
      count_most = h.count_most;
      turns_most = let long : length (s.turns ++ flat_map (steps_of_turn s) ts) ≡ length s.turns + length (flat_map (steps_of_turn s) ts) = length-append s.turns (flat_map (steps_of_turn s) ts) in omega (arith, long, steps-long s ts, room);
      turns_fit = more-pass (λ a. nat_lt a (actor_count s)) s.turns (flat_map (steps_of_turn s) ts) h.turns_fit (steps-pass s ts formed fit_here);
      no_timers = λ early. let never : ⊥ = omega (arith, early) in absurd never;
      no_funcs = λ early. let never : ⊥ = omega (arith, early) in absurd never;
      no_clients = λ early. let never : ⊥ = omega (arith, early) in absurd never;
      no_ticks = λ early. let never : ⊥ = omega (arith, early) in absurd never;
      no_turns = λ early. let never : ⊥ = omega (arith, early) in absurd never;
    } in
    opened (funcs) count kind.Turns (record s { turns = s.turns ++ flat_map (steps_of_turn s) ts }) fit (omega (arith, fit.funcs_room)) (omega (arith, fit.clients_most)) (omega (arith, fit.ticks_room))
