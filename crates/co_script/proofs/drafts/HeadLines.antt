-- A line of the head keeps a draft fine: one of `hz`, `cpus`, `wheel` or `funcs`.
use Rattle.std.proofs.Common.{◌≡◌, ℕ, ◌<◌, true, [], length, arith}
use Rattle.std.specs.Prelude.{nat_lt, nat_le}
use Rattle.std.proofs.lemmas.Bool.{leb-true}
use Rattle.co_object.proofs.Changes.{both_true}
use Rattle.co_program.specs.declared.Script.{Script}
use Rattle.co_program.specs.Actors.{actor_count}
use Rattle.co_grammar.specs.declared.Kind.{Kind}
use Rattle.co_grammar.specs.declared.Kind.TheVariants as kind
use Rattle.co_grammar.specs.Keywords.{rank}
use Rattle.co_object.specs.Queue.{is_wheel_size}
use Rattle.co_grammar.specs.Checks.{is_within}
use Rattle.co_script.proofs.AllPass.{none-pass, none-long}
use Rattle.co_script.proofs.drafts.Named.{named_by}
use Rattle.co_script.proofs.drafts.Sections.{section}
use Rattle.co_script.proofs.drafts.Firm.{Firm, Fine, opened}

pub hz-line : (funcs count : ℕ) (stage : Kind) (s : Script) (n : ℕ) → Firm funcs count stage s → rank stage < 1 → is_within 1 1000000 n ≡ true → Fine (record { script = record s { hz = n }; stage = kind.Hz; funcs = funcs; acts = []; clock = 0; count = count })
hz-line funcs count stage s n h order numbers =
    let fit : Firm (funcs) count kind.Hz (record s { hz = n }) = record {
      version = h.version;
      hz = numbers;
      cpus = h.cpus;
      buckets = h.buckets;
      funcs_most = h.funcs_most;
      locks_most = h.locks_most;
      timers_most = h.timers_most;
      clients_most = h.clients_most;
      funcs_room = h.funcs_room;
      ticks_room = h.ticks_room;
      specs = h.specs;
      funcs_fit = h.funcs_fit;
      clients_fit = h.clients_fit;
      ticks_fit = h.ticks_fit;
      total = h.total;
      count_most = h.count_most;
      turns_most = h.turns_most;
      turns_fit = h.turns_fit;
      no_timers = λ _. h.no_timers (omega (arith, order));
      no_funcs = λ _. h.no_funcs (omega (arith, order));
      no_clients = λ _. h.no_clients (omega (arith, order));
      no_ticks = λ _. h.no_ticks (omega (arith, order));
      no_turns = λ _. h.no_turns (omega (arith, order));
    } in
    opened (funcs) count kind.Hz (record s { hz = n }) fit (omega (arith, fit.funcs_room)) (omega (arith, fit.clients_most)) (omega (arith, fit.ticks_room))

pub cpus-line : (funcs count : ℕ) (stage : Kind) (s : Script) (n : ℕ) → Firm funcs count stage s → rank stage < 2 → is_within 1 16 n ≡ true → Fine (record { script = record s { cpus = n }; stage = kind.Cpus; funcs = funcs; acts = []; clock = 0; count = count })
cpus-line funcs count stage s n h order numbers =
    let fit : Firm (funcs) count kind.Cpus (record s { cpus = n }) = record {
      version = h.version;
      hz = h.hz;
      cpus = numbers;
      buckets = h.buckets;
      funcs_most = h.funcs_most;
      locks_most = h.locks_most;
      timers_most = h.timers_most;
      clients_most = h.clients_most;
      funcs_room = h.funcs_room;
      ticks_room = let none : length s.ticks ≡ 0 = none-long s.ticks (h.no_ticks (omega (arith, order))) in omega (arith, none);
      specs = h.specs;
      funcs_fit = none-pass (section (funcs) (named_by (record s { cpus = n })) kind.Func) s.funcs (h.no_funcs (omega (arith, order)));
      clients_fit = none-pass (section (funcs) (named_by (record s { cpus = n })) kind.Client) s.clients (h.no_clients (omega (arith, order)));
      ticks_fit = none-pass (section (funcs) (named_by (record s { cpus = n })) kind.Cpu) s.ticks (h.no_ticks (omega (arith, order)));
      total = h.total;
      count_most = h.count_most;
      turns_most = h.turns_most;
      turns_fit = none-pass (λ a. nat_lt a (actor_count (record s { cpus = n }))) s.turns (h.no_turns (omega (arith, order)));
      no_timers = λ _. h.no_timers (omega (arith, order));
      no_funcs = λ _. h.no_funcs (omega (arith, order));
      no_clients = λ _. h.no_clients (omega (arith, order));
      no_ticks = λ _. h.no_ticks (omega (arith, order));
      no_turns = λ _. h.no_turns (omega (arith, order));
    } in
    opened (funcs) count kind.Cpus (record s { cpus = n }) fit (omega (arith, fit.funcs_room)) (omega (arith, fit.clients_most)) (omega (arith, fit.ticks_room))

pub wheel-line : (funcs count : ℕ) (stage : Kind) (s : Script) (n : ℕ) → Firm funcs count stage s → rank stage < 3 → is_wheel_size n ≡ true → Fine (record { script = record s { buckets = n }; stage = kind.Wheel; funcs = funcs; acts = []; clock = 0; count = count })
wheel-line funcs count stage s n h order numbers =
    let fit : Firm (funcs) count kind.Wheel (record s { buckets = n }) = record {
      version = h.version;
      hz = h.hz;
      cpus = h.cpus;
      buckets = numbers;
      funcs_most = h.funcs_most;
      locks_most = h.locks_most;
      timers_most = h.timers_most;
      clients_most = h.clients_most;
      funcs_room = h.funcs_room;
      ticks_room = h.ticks_room;
      specs = h.specs;
      funcs_fit = h.funcs_fit;
      clients_fit = h.clients_fit;
      ticks_fit = h.ticks_fit;
      total = h.total;
      count_most = h.count_most;
      turns_most = h.turns_most;
      turns_fit = h.turns_fit;
      no_timers = λ _. h.no_timers (omega (arith, order));
      no_funcs = λ _. h.no_funcs (omega (arith, order));
      no_clients = λ _. h.no_clients (omega (arith, order));
      no_ticks = λ _. h.no_ticks (omega (arith, order));
      no_turns = λ _. h.no_turns (omega (arith, order));
    } in
    opened (funcs) count kind.Wheel (record s { buckets = n }) fit (omega (arith, fit.funcs_room)) (omega (arith, fit.clients_most)) (omega (arith, fit.ticks_room))

pub funcs-line : (funcs count : ℕ) (stage : Kind) (s : Script) (n : ℕ) → Firm funcs count stage s → rank stage < 4 → is_within 0 1024 n ≡ true → Fine (record { script = s; stage = kind.Funcs; funcs = n; acts = []; clock = 0; count = count })
funcs-line funcs count stage s n h order numbers =
    let fit : Firm (n) count kind.Funcs (s) = record {
      version = h.version;
      hz = h.hz;
      cpus = h.cpus;
      buckets = h.buckets;
      funcs_most = leb-true n 1024 ((both_true (nat_le 0 n) (nat_le n 1024) numbers).1);
      locks_most = h.locks_most;
      timers_most = h.timers_most;
      clients_most = h.clients_most;
      funcs_room = let none : length s.funcs ≡ 0 = none-long s.funcs (h.no_funcs (omega (arith, order))) in omega (arith, none);
      ticks_room = h.ticks_room;
      specs = h.specs;
      funcs_fit = none-pass (section (n) (named_by (s)) kind.Func) s.funcs (h.no_funcs (omega (arith, order)));
      clients_fit = none-pass (section (n) (named_by (s)) kind.Client) s.clients (h.no_clients (omega (arith, order)));
      ticks_fit = none-pass (section (n) (named_by (s)) kind.Cpu) s.ticks (h.no_ticks (omega (arith, order)));
      total = h.total;
      count_most = h.count_most;
      turns_most = h.turns_most;
      turns_fit = h.turns_fit;
      no_timers = λ _. h.no_timers (omega (arith, order));
      no_funcs = λ _. h.no_funcs (omega (arith, order));
      no_clients = λ _. h.no_clients (omega (arith, order));
      no_ticks = λ _. h.no_ticks (omega (arith, order));
      no_turns = λ _. h.no_turns (omega (arith, order));
    } in
    opened (n) count kind.Funcs (s) fit (omega (arith, fit.funcs_room)) (omega (arith, fit.clients_most)) (omega (arith, fit.ticks_room))
