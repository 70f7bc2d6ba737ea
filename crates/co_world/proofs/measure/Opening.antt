-- What is left to do at the opening fits a counter of 64 bits.
use Rattle.std.proofs.Common.{ℕ, suc, ◌+◌, ◌*◌, ◌^◌, ◌≤◌, ◌<◌, List, [], ◌∷◌, length, map, arith}
use Rattle.std.specs.Prelude.{◌==◌}
use Rattle.std.proofs.Math.Nat.{mul-le-mul, mul-le-mul_right}
use Rattle.std.proofs.lemmas.List.{length-map}
use Rattle.co_program.specs.declared.Script.{Script}
use Rattle.co_program.specs.declared.Act.{Act}
use Rattle.co_program.specs.Actors.{softs, acts_at, program_of, role_of, client_count, actor_count}
use Rattle.co_program.specs.declared.Task.{Task}
use Rattle.co_program.specs.declared.Task.TheVariants.{Does}
use Rattle.co_program.specs.declared.Role.{Role}
use Rattle.co_program.specs.declared.Role.TheVariants.{Client, Cpu, Interrupt}
use Rattle.co_program.specs.Scripts.{IsScript}
use Rattle.co_world.specs.World.{open_world}
use Rattle.co_world.specs.Measure.{longest, whole_round, whole_act, actor_left, measure}
use Rattle.co_world.specs.Laws.{OpeningFits}
use Rattle.co_world.proofs.basics.Updates.{cond_kept}
use Rattle.co_world.proofs.kept.Invariant.{states_of, cursors_of}
use Rattle.co_world.proofs.kept.BySchedules.{length_softs}
use Rattle.co_world.proofs.basics.Sums.{total_most}
use Rattle.co_world.proofs.measure.Answers.{all_actors_left, all_queues_left, measured}

longest_most : (most : ℕ) (lists : List (List Act)) → ((i : ℕ) → length (acts_at lists i) ≤ most) → longest lists ≤ most
longest_most most [] short = omega arith
longest_most most (acts ∷ lists) short = let here = short 0 in let rest = longest_most most lists (λ i. short (suc i)) in omega arith

module _ (s : Script) (ok : IsScript s) where
  few_actors : actor_count s ≤ 48
  few_actors = let clients = ok.few_clients in let cpus = ok.cpus.1 in
      cond_kept (λ (n : ℕ). n ≤ 48) (s.version == 2) (client_count s + 2 * s.cpus) (client_count s + s.cpus) (omega arith) (omega arith)

  short_ticks : (x : ℕ) → length (map Does (acts_at s.ticks x)) ≤ 65536
  short_ticks x = let h = ok.short_ticks x in omega (arith, length-map (acts_at s.ticks x) Does)

  short_program : (role : Role) → length (program_of s role) ≤ 65536
  short_program (Client c) = let h = ok.short_clients c in omega (arith, length-map (acts_at s.clients c) Does)
  short_program (Interrupt x) = short_ticks x
  short_program (Cpu x) =
      cond_kept (λ (left : List Task). length left ≤ 65536) (s.version == 2) (softs 0 (length (acts_at s.ticks x))) (map Does (acts_at s.ticks x))
      (let h = ok.short_ticks x in omega (arith, length_softs 0 (length (acts_at s.ticks x)))) (short_ticks x)

  short_round : whole_round s ≤ 16442
  unfolding whole_round
  short_round = let most = longest_most 4096 s.funcs ok.short_funcs in let few = few_actors in omega arith

  short_act : whole_act s ≤ 16836611
  unfolding whole_act
  short_act = let h : length s.timers * whole_round s ≤ 1024 * 16442 = mul-le-mul ok.timers.1 short_round in omega arith

  short_actor : (a : ℕ) → actor_left s (states_of (open_world s)) (cursors_of (open_world s) a) ≤ 16836611 * 65536
  short_actor a = let h : whole_act s * length (program_of s (role_of s a)) ≤ 16836611 * 65536 = mul-le-mul short_act (short_program (role_of s a)) in omega arith

  pub opening_fits_at : measure s (open_world s) < 2 ^ 64
  opening_fits_at =
      let most : ℕ = 16836611 * 65536 in
      let actors : all_actors_left s (open_world s) ≤ actor_count s * most = total_most (λ a. actor_left s (states_of (open_world s)) (cursors_of (open_world s) a)) most short_actor 0 (actor_count s) in
      let queues : all_queues_left s (open_world s) ≤ s.cpus * 0 = total_most (λ x. whole_round s * 0) 0 (λ x. omega arith) 0 s.cpus in
      let all : actor_count s * most ≤ 48 * most = mul-le-mul_right most few_actors in
      omega (arith, measured s (open_world s), actors, queues, all)

pub opening_fits : OpeningFits
opening_fits s ok = opening_fits_at s ok
