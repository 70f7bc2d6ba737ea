-- A line that opens a section keeps a draft fine: one of a function, of a client or of a CPU.
use Rattle.std.proofs.Common.{◌≡◌, ℕ, ◌+◌, ◌-◌, ◌<◌, ◌≤◌, true, List, [], length, ap, ◌∙◌, arith, length-append}
use Rattle.std.specs.Prelude.{replicate}
use Rattle.std.proofs.lemmas.List.{length-replicate}
use Rattle.std.proofs.lemmas.List.Sums.{sum_by-append}
use Rattle.co_program.specs.declared.Script.{Script}
use Rattle.co_program.specs.declared.Act.{Act}
use Rattle.co_grammar.specs.declared.Kind.{Kind}
use Rattle.co_grammar.specs.declared.Kind.TheVariants as kind
use Rattle.co_grammar.specs.Keywords.{rank}
use Rattle.co_grammar.specs.Checks.{is_next_of}
use Rattle.co_script.specs.Drafts.{padded}
use Rattle.co_script.proofs.AllPass.{more-pass, copies-pass}
use Rattle.co_script.proofs.drafts.Named.{named_by}
use Rattle.co_script.proofs.drafts.Sections.{section, empty-section}
use Rattle.co_script.proofs.drafts.Firm.{copies-sum, acts_in, Firm, Fine, opened}
use Rattle.co_script.proofs.drafts.Order.{next-of}

pub func-line-fine : (funcs count : ℕ) (stage : Kind) (s : Script) (n : ℕ) → Firm funcs count stage s → rank stage ≤ 7 → n < funcs → length s.funcs ≤ n → Fine (record { script = record s { funcs = padded n s.funcs }; stage = kind.Func; funcs = funcs; acts = []; clock = 0; count = count })
func-line-fine funcs count stage s n h order high low =
    let more = n - length s.funcs in
    let long : length (padded n s.funcs) ≡ n = length-append s.funcs (replicate (n - length s.funcs) []) ∙ (ap (λ k. length s.funcs + k) (length-replicate (n - length s.funcs) []) ∙ omega (arith, low)) in
    let sum : acts_in (padded n s.funcs) ≡ acts_in s.funcs = sum_by-append (λ (x : List Act). length x) s.funcs (replicate (n - length s.funcs) []) ∙ (ap (λ k. acts_in s.funcs + k) (copies-sum (n - length s.funcs)) ∙ omega arith) in
    let fit : Firm (funcs) count kind.Func (record s { funcs = padded n s.funcs }) = record {
      version = h.version;
      hz = h.hz;
      cpus = h.cpus;
      buckets = h.buckets;
      funcs_most = h.funcs_most;
      locks_most = h.locks_most;
      timers_most = h.timers_most;
      clients_most = h.clients_most;
      funcs_room = omega (arith, long, high);
      ticks_room = h.ticks_room;
      specs = h.specs;
      funcs_fit = more-pass (section funcs (named_by s) kind.Func) s.funcs (replicate (n - length s.funcs) []) h.funcs_fit (copies-pass (section funcs (named_by s) kind.Func) (n - length s.funcs) [] (empty-section funcs (named_by s) kind.Func));
      clients_fit = h.clients_fit;
      ticks_fit = h.ticks_fit;
      total = omega (arith, sum, h.total);
      count_most = h.count_most;
      turns_most = h.turns_most;
      turns_fit = h.turns_fit;
      no_timers = λ early. let never : ⊥ = omega (arith, early) in absurd never;
      no_funcs = λ early. let never : ⊥ = omega (arith, early) in absurd never;
      no_clients = λ early. let never : ⊥ = omega (arith, early) in absurd never;
      no_ticks = λ early. let never : ⊥ = omega (arith, early) in absurd never;
      no_turns = λ _. h.no_turns (omega (arith, order));
    } in
    opened (funcs) count kind.Func (record s { funcs = padded n s.funcs }) fit (omega (arith, long, high)) (omega (arith, fit.clients_most)) (omega (arith, fit.ticks_room))

pub client-line-fine : (funcs count : ℕ) (stage : Kind) (s : Script) (n : ℕ) → Firm funcs count stage s → rank stage ≤ 8 → is_next_of 16 (length s.clients) n ≡ true → Fine (record { script = s; stage = kind.Client; funcs = funcs; acts = []; clock = 0; count = count })
client-line-fine funcs count stage s n h order next =
    let fit : Firm (funcs) count kind.Client (s) = record {
      version = h.version;
      hz = h.hz;
      cpus = h.cpus;
      buckets = h.buckets;
      funcs_most = h.funcs_most;
      locks_most = h.locks_most;
      timers_most = h.timers_most;
      clients_most = h.clients_most;
      funcs_room = h.funcs_room;
      ticks_room = h.ticks_room;
      specs = h.specs;
      funcs_fit = h.funcs_fit;
      clients_fit = h.clients_fit;
      ticks_fit = h.ticks_fit;
      total = h.total;
      count_most = h.count_most;
      turns_most = h.turns_most;
      turns_fit = h.turns_fit;
      no_timers = λ early. let never : ⊥ = omega (arith, early) in absurd never;
      no_funcs = λ early. let never : ⊥ = omega (arith, early) in absurd never;
      no_clients = λ early. let never : ⊥ = omega (arith, early) in absurd never;
      no_ticks = λ early. let never : ⊥ = omega (arith, early) in absurd never;
      no_turns = λ _. h.no_turns (omega (arith, order));
    } in
    opened (funcs) count kind.Client (s) fit (omega (arith, fit.funcs_room)) (next-of 16 (length s.clients) n next) (omega (arith, fit.ticks_room))

pub cpu-line-fine : (funcs count : ℕ) (stage : Kind) (s : Script) (n : ℕ) → Firm funcs count stage s → rank stage ≤ 9 → n < s.cpus → length s.ticks ≤ n → Fine (record { script = record s { ticks = padded n s.ticks }; stage = kind.Cpu; funcs = funcs; acts = []; clock = 0; count = count })
cpu-line-fine funcs count stage s n h order high low =
    let more = n - length s.ticks in
    let long : length (padded n s.ticks) ≡ n = length-append s.ticks (replicate (n - length s.ticks) []) ∙ (ap (λ k. length s.ticks + k) (length-replicate (n - length s.ticks) []) ∙ omega (arith, low)) in
    let sum : acts_in (padded n s.ticks) ≡ acts_in s.ticks = sum_by-append (λ (x : List Act). length x) s.ticks (replicate (n - length s.ticks) []) ∙ (ap (λ k. acts_in s.ticks + k) (copies-sum (n - length s.ticks)) ∙ omega arith) in
    let fit : Firm (funcs) count kind.Cpu (record s { ticks = padded n s.ticks }) = record {
      version = h.version;
      hz = h.hz;
      cpus = h.cpus;
      buckets = h.buckets;
      funcs_most = h.funcs_most;
      locks_most = h.locks_most;
      timers_most = h.timers_most;
      clients_most = h.clients_most;
      funcs_room = h.funcs_room;
      ticks_room = omega (arith, long, high);
      specs = h.specs;
      funcs_fit = h.funcs_fit;
      clients_fit = h.clients_fit;
      ticks_fit = more-pass (section funcs (named_by s) kind.Cpu) s.ticks (replicate (n - length s.ticks) []) h.ticks_fit (copies-pass (section funcs (named_by s) kind.Cpu) (n - length s.ticks) [] (empty-section funcs (named_by s) kind.Cpu));
      total = omega (arith, sum, h.total);
      count_most = h.count_most;
      turns_most = h.turns_most;
      turns_fit = h.turns_fit;
      no_timers = λ early. let never : ⊥ = omega (arith, early) in absurd never;
      no_funcs = λ early. let never : ⊥ = omega (arith, early) in absurd never;
      no_clients = λ early. let never : ⊥ = omega (arith, early) in absurd never;
      no_ticks = λ early. let never : ⊥ = omega (arith, early) in absurd never;
      no_turns = λ _. h.no_turns (omega (arith, order));
    } in
    opened (funcs) count kind.Cpu (record s { ticks = padded n s.ticks }) fit (omega (arith, fit.funcs_room)) (omega (arith, fit.clients_most)) (omega (arith, long, high))
