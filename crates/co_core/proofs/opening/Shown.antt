-- What stands in the ledger and in the depot before the first step is the opening of the plain world.
use Rattle.std.proofs.Common.{◌≡◌, ℕ, ◌<◌, List, [], ◌∷◌, length, replicate, map, refl, ap, sym, subst, ◌∙◌, arith}
use Rattle.std.specs.Prelude.{Some, None, Bool, true, false, cond, not, ◌&&◌, ◌==◌}
use Rattle.std.specs.List.{list_any}
use Rattle.std.proofs.lemmas.Bool.{eqb-true, eq-eqb}
use Rattle.std.proofs.lemmas.List.{length-replicate, length-map, get_or-map, get_or-replicate}
use Rattle.co_object.specs.declared.note.Note.{Note}
use Rattle.co_object.specs.declared.spec.Spec.{Spec}
use Rattle.co_object.specs.declared.spec.LockUse.TheVariants.{Free}
use Rattle.co_object.specs.Queue.{empty_queue}
use Rattle.co_queue.proofs.Standing.{stands_for-empty}
use Rattle.co_program.specs.declared.script.Script.{Script}
use Rattle.co_program.specs.Actors.{actor_count, all_actors}
use Rattle.co_world.specs.World.{lists_of, open_world}
use Rattle.co_world.specs.Blocked.{is_moving}
use Rattle.co_wheel.specs.Callouts.{new_callout, first_callouts}
use Rattle.co_wheel.specs.Cpu.{first_wheel}
use Rattle.co_core.specs.Stored.{Stored, no_wheel}
use Rattle.co_world.specs.Step.{are_direct}
use Rattle.co_core.specs.Table.{table}
use Rattle.co_core.proofs.tables.Values.{table_long, table_at, fills, same}
use Rattle.co_world.specs.Placed.{IsPlaced, IsBound, server_slot, stage_callout}
use Rattle.co_core.specs.Stands.{ShowsWritten, ShowsStored, StandsFor, IsAtWheel, at_home, alone_in}
use Rattle.co_object.specs.declared.state.Arming.{Arming}
use Rattle.co_object.specs.Stand.{off}
use Rattle.co_program.specs.declared.cursor.PendingInsert.{PendingInsert}
use Rattle.co_program.specs.declared.role.Role.{Role}
use Rattle.co_program.specs.declared.role.Role.TheVariants.{Client, Cpu, Interrupt}
use Rattle.co_program.specs.Actors.{role_of}
use Rattle.co_program.specs.Scripts.{IsScript}
use Rattle.co_core.specs.Written.{Written, first_cursor}
use Rattle.co_core.proofs.tables.Copies.{table-same}

-- the ledger before the first step
pub opening-written : (s : Script) (n timers cpus : ℕ) → n ≡ actor_count s → timers ≡ length s.timers → cpus ≡ s.cpus →
    ShowsWritten s (record { cursors = replicate n first_cursor; lists = lists_of s (open_world s); histories = replicate timers 0; journals = replicate cpus 0; scans = replicate cpus 0; own = replicate n 0; made = 0 }) (open_world s)
opening-written s n timers cpus actors_is timers_is cpus_is = record {
  cursors_long = length-replicate n first_cursor ∙ actors_is;
  each_place = λ a h. rw (get_or-replicate n a first_cursor first_cursor (omega (arith, h, actors_is))) refl;
  each_list = refl;
  each_history = ap (λ k. replicate k 0) timers_is ∙ sym (table-same (length s.timers) 0);
  each_journal = ap (λ k. replicate k 0) cpus_is ∙ sym (table-same s.cpus 0);
  each_scan = ap (λ k. replicate k 0) cpus_is ∙ sym (table-same s.cpus 0);
  each_own = ap (λ k. replicate k 0) actors_is ∙ sym (table-same (actor_count s) 0);
  counted = λ a h. rw (get_or-replicate n a first_cursor first_cursor (omega (arith, h, actors_is))) (omega arith);
  few_entries = λ i. omega arith;
  few_turns = λ cpu. omega arith;
  few_notes = λ a. omega arith;
  few_own = λ a. omega arith;
}

-- nobody has a note
pub opening-lists : (s : Script) (lists : List (List Note)) (n : ℕ) → lists ≡ replicate n [] → n ≡ actor_count s → lists ≡ lists_of s (open_world s)
opening-lists s lists n empty actors_is = empty ∙ ap (λ k. replicate k []) actors_is ∙ sym (table-same (actor_count s) [])

-- nobody moves a callout yet
none-any : (xs : List ℕ) → list_any (λ _. false) xs ≡ false
none-any [] = refl
none-any (x ∷ xs) = none-any xs

still : (s : Script) (i : ℕ) → is_moving s (open_world s) i ≡ false
still s i = none-any (all_actors s)

abbrev plain_spec : Spec
plain_spec = record { lock = Free; returns_unlocked = false; direct = false }

-- where the callouts are before the first step
callouts-home : (s : Script) (cpu : ℕ) → first_callouts s.timers cpu ≡ table (length s.timers) (at_home s (open_world s) cpu)
callouts-home s cpu = go (cpu == 0) refl where
  here : (i : ℕ) (b : Bool) → (0 == cpu) ≡ b → cond (b && not false) (Some (alone_in s (open_world s) i)) None ≡ at_home s (open_world s) cpu i
  here i b is = ap (λ c. cond (c && not false) (Some (alone_in s (open_world s) i)) None) (sym is) ∙ ap (λ c. cond ((0 == cpu) && not c) (Some (alone_in s (open_world s) i)) None) (sym (still s i))

  away : (b : Bool) → (cpu == 0) ≡ false → (0 == cpu) ≡ b → b ≡ false
  away false h is = refl
  away true h is = let zero_is : 0 ≡ cpu = eqb-true 0 cpu is in let yes' : (cpu == 0) ≡ true = eq-eqb cpu 0 (sym zero_is) in cc

  go : (b : Bool) → (cpu == 0) ≡ b → cond b (map new_callout s.timers) (replicate (length s.timers) None) ≡ table (length s.timers) (at_home s (open_world s) cpu)
  go true is =
      let zero_is : cpu ≡ 0 = eqb-true cpu 0 is in
      let home : (0 == cpu) ≡ true = eq-eqb 0 cpu (sym zero_is) in
      fills (map new_callout s.timers) (length s.timers) (at_home s (open_world s) cpu) None (length-map s.timers new_callout)
      (λ i within. get_or-map new_callout s.timers i plain_spec None within ∙ here i true home)
  go false is =
      sym (table-same (length s.timers) None) ∙ same (length s.timers) (λ _. None) (at_home s (open_world s) cpu)
      (λ i within. sym (here i false (away (0 == cpu) is refl)))

at-first : (s : Script) (cpu : ℕ) → IsAtWheel s (open_world s) cpu (first_wheel s.timers s.buckets cpu)
at-first s cpu = record {
  number = refl;
  here = callouts-home s cpu;
  buckets = refl;
  direct = refl;
  shows = record { timers = stands_for-empty (length s.timers) s.buckets (are_direct s); serving = refl; directing = refl };
}

-- the depot before the first step
pub opening-stored : (s : Script) (n timers : ℕ) → n ≡ actor_count s → timers ≡ length s.timers →
    ShowsStored s (record { wheels = table s.cpus (first_wheel s.timers s.buckets); stands = replicate timers 0; bags = replicate n None }) (open_world s)
opening-stored s n timers actors_is timers_is = record {
  wheels_long = table_long s.cpus (first_wheel s.timers s.buckets);
  each_wheel = λ cpu within. subst (λ x. IsAtWheel s (open_world s) cpu x) (sym (table_at s.cpus (first_wheel s.timers s.buckets) cpu no_wheel within)) (at-first s cpu);
  each_stand = ap (λ k. replicate k 0) timers_is ∙ sym (table-same (length s.timers) 0);
  bags_long = length-replicate n None ∙ actors_is;
  each_bag = λ a h. get_or-replicate n a None None (omega (arith, h, actors_is));
}

-- nothing is armed, in service or on its way
opening-placed : (s : Script) → IsScript s → IsPlaced s (open_world s)
opening-placed s ok = record {
  runs = λ i. refl;
  listed = λ i cpu still is. nowhere i cpu is;
  bound = λ a p may is. nothing a p is;
  serves = λ a may. free (role_of s a);
  known = λ a i may is. idle a i is;
  cpus_known = λ i within. record { home = some; target = λ arming is. unarmed i arming is; stand = some };
} where
  some : 0 < s.cpus
  some = let l = ok.cpus.0 in omega (arith, l)

  free : (role : Role) → server_slot role empty_queue ≡ None
  free (Client c) = refl
  free (Cpu x) = refl
  free (Interrupt x) = refl

  nowhere : (i cpu : ℕ) → off ((open_world s).timers i).state ≡ Some cpu → ((open_world s).timers i).stand ≡ cpu
  nowhere i cpu is = let none : None ≡ Some cpu = is in cc

  nothing : (a : ℕ) (p : PendingInsert) → ((open_world s).actors a).cursor.parcel ≡ Some p → IsBound s (open_world s) p
  nothing a p is = let none : None ≡ Some p = is in cc

  idle : (a i : ℕ) → stage_callout ((open_world s).actors a).cursor.stage ≡ Some i → i < length s.timers
  idle a i is = let none : None ≡ Some i = is in cc

  unarmed : (i : ℕ) (arming : Arming) → ((open_world s).timers i).state.armed ≡ Some arming → arming.cpu < s.cpus
  unarmed i arming is = let none : None ≡ Some arming = is in cc

-- ledger and depot before the first step
pub opening-stands : (s : Script) (ledger : Written) (depot : Stored) → IsScript s → ShowsWritten s ledger (open_world s) → ShowsStored s depot (open_world s) → StandsFor s ledger depot (open_world s)
opening-stands s ledger depot ok written stored = record {
  written = written;
  stored = stored;
  placed = opening-placed s ok;
  reached = record { schedule = []; may = tt; world = refl };
}
