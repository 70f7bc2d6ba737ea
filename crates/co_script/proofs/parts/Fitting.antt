-- What a script that fits keeps.
use Rattle.std.proofs.Common.{◌≡◌, ◌≤◌, true, ◌&&◌, length}
use Rattle.std.specs.Prelude.{◌==◌, nat_lt, nat_le}
use Rattle.std.specs.List.{list_all}
use Rattle.std.proofs.lemmas.Bool.{and_parts, leb-true, eqb-true}
use Rattle.co_program.specs.declared.Script.{Script}
use Rattle.co_program.specs.Actors.{actor_count}
use Rattle.co_grammar.specs.declared.Kind.TheVariants as kind
use Rattle.co_object.specs.Queue.{is_wheel_size}
use Rattle.co_grammar.specs.Checks.{HasSmallNumbers, is_within}
use Rattle.co_script.specs.Fits.{spec_fits, section_fits, total_acts, head_fits, counts_fit, parts_fit, turns_fit, fits}

pub record Fitting (s : Script) : Type 0 where
  pub version : is_within 1 2 s.version ≡ true
  pub hz : is_within 1 1000000 s.hz ≡ true
  pub cpus : is_within 1 16 s.cpus ≡ true
  pub buckets : is_wheel_size s.buckets ≡ true
  pub small : HasSmallNumbers s (length s.funcs)
  pub timers_some : 1 ≤ length s.timers
  pub clients_few : length s.clients ≤ 16
  pub ticks_all : length s.ticks ≡ s.cpus
  pub specs : list_all (spec_fits s) s.timers ≡ true
  pub funcs : list_all (section_fits s kind.Func) s.funcs ≡ true
  pub clients : list_all (section_fits s kind.Client) s.clients ≡ true
  pub ticks : list_all (section_fits s kind.Cpu) s.ticks ≡ true
  pub total : total_acts s ≤ 262144
  pub turns_few : length s.turns ≤ 1000000
  pub turns : list_all (λ a. nat_lt a (actor_count s)) s.turns ≡ true

pub fitting : (s : Script) → fits s ≡ true → Fitting s
unfolding fits
fitting s h =
    let parts = and_parts (head_fits s) (counts_fit s && (parts_fit s && (nat_le (total_acts s) 262144 && turns_fit s))) h in
    let counts = and_parts (counts_fit s) (parts_fit s && (nat_le (total_acts s) 262144 && turns_fit s)) parts.1 in
    let lists = and_parts (parts_fit s) (nat_le (total_acts s) 262144 && turns_fit s) counts.1 in
    let ends = and_parts (nat_le (total_acts s) 262144) (turns_fit s) lists.1 in
    let turns = and_parts (nat_le (length s.turns) 1000000) (list_all (λ a. nat_lt a (actor_count s)) s.turns) ends.1 in
    let version = and_parts (is_within 1 2 s.version) (is_within 1 1000000 s.hz && (is_within 1 16 s.cpus && is_wheel_size s.buckets)) parts.0 in
    let hz = and_parts (is_within 1 1000000 s.hz) (is_within 1 16 s.cpus && is_wheel_size s.buckets) version.1 in
    let cpus = and_parts (is_within 1 16 s.cpus) (is_wheel_size s.buckets) hz.1 in
    let few_cpus = and_parts (nat_le 1 s.cpus) (nat_le s.cpus 16) cpus.0 in
    let funcs = and_parts (nat_le (length s.funcs) 1024) (nat_le (length s.locks) 256 && (is_within 1 1024 (length s.timers) && (nat_le (length s.clients) 16 && (length s.ticks == s.cpus)))) counts.0 in
    let locks = and_parts (nat_le (length s.locks) 256) (is_within 1 1024 (length s.timers) && (nat_le (length s.clients) 16 && (length s.ticks == s.cpus))) funcs.1 in
    let timers = and_parts (is_within 1 1024 (length s.timers)) (nat_le (length s.clients) 16 && (length s.ticks == s.cpus)) locks.1 in
    let few_timers = and_parts (nat_le 1 (length s.timers)) (nat_le (length s.timers) 1024) timers.0 in
    let clients = and_parts (nat_le (length s.clients) 16) (length s.ticks == s.cpus) timers.1 in
    let specs = and_parts (list_all (spec_fits s) s.timers) (list_all (section_fits s kind.Func) s.funcs && (list_all (section_fits s kind.Client) s.clients && list_all (section_fits s kind.Cpu) s.ticks)) lists.0 in
    let of_funcs = and_parts (list_all (section_fits s kind.Func) s.funcs) (list_all (section_fits s kind.Client) s.clients && list_all (section_fits s kind.Cpu) s.ticks) specs.1 in
    let of_clients = and_parts (list_all (section_fits s kind.Client) s.clients) (list_all (section_fits s kind.Cpu) s.ticks) of_funcs.1 in
    record {
      version = version.0;
      hz = hz.0;
      cpus = cpus.0;
      buckets = cpus.1;
      small = record {
        locks = leb-true (length s.locks) 256 locks.0;
        timers = leb-true (length s.timers) 1024 few_timers.1;
        cpus = leb-true s.cpus 16 few_cpus.1;
        funcs_fit = leb-true (length s.funcs) 1024 funcs.0;
      };
      timers_some = leb-true 1 (length s.timers) few_timers.0;
      clients_few = leb-true (length s.clients) 16 clients.0;
      ticks_all = eqb-true (length s.ticks) s.cpus clients.1;
      specs = specs.0;
      funcs = of_funcs.0;
      clients = of_clients.0;
      ticks = of_clients.1;
      total = leb-true (total_acts s) 262144 ends.0;
      turns_few = leb-true (length s.turns) 1000000 turns.0;
      turns = turns.1;
    }
