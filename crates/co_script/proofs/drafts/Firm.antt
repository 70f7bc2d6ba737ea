-- What every draft keeps that lines are read into, so that its script fits once the text has ended: a script without its
-- open section is firm, the open section fits, and there is room for it. A section is closed, and one is opened.
use Rattle.std.proofs.Common.{◌≡◌, ℕ, zero, suc, ◌+◌, ◌≤◌, true, List, [], ◌∷◌, ◌++◌, length, refl, arith, length-append}
use Rattle.std.specs.Prelude.{nat_lt, replicate, sum_by}
use Rattle.std.specs.List.{list_all}
use Rattle.std.proofs.lemmas.List.Sums.{sum_by_push}
use Rattle.co_program.specs.declared.Script.{Script}
use Rattle.co_program.specs.declared.Act.{Act}
use Rattle.co_program.specs.Actors.{actor_count}
use Rattle.co_grammar.specs.declared.Kind.{Kind}
use Rattle.co_grammar.specs.declared.Kind.TheVariants as kind
use Rattle.co_grammar.specs.Keywords.{rank}
use Rattle.co_object.specs.Queue.{is_wheel_size}
use Rattle.co_grammar.specs.Checks.{is_within}
use Rattle.co_script.specs.Drafts.{Draft, closed, with_section, open_clients}
use Rattle.co_script.specs.Fits.{spec_fits}
use Rattle.co_script.proofs.AllPass.{none-pass, more-pass, one-passes}
use Rattle.co_script.proofs.drafts.Named.{named_by, locked_by}
use Rattle.co_script.proofs.drafts.Sections.{section, empty-section, clock_after}

pub copies-sum : (n : ℕ) → sum_by (λ (acts : List Act). length acts) (replicate n []) ≡ 0
copies-sum zero = refl
copies-sum (suc n) = omega (arith, copies-sum n)

abbrev pub acts_in : List (List Act) → ℕ
acts_in lists = sum_by (λ (acts : List Act). length acts) lists

-- a script without an open section, as it is after a line of this kind
pub record Firm (funcs count : ℕ) (stage : Kind) (s : Script) : Type 0 where
  pub version : is_within 1 2 s.version ≡ true
  pub hz : is_within 1 1000000 s.hz ≡ true
  pub cpus : is_within 1 16 s.cpus ≡ true
  pub buckets : is_wheel_size s.buckets ≡ true
  pub funcs_most : funcs ≤ 1024
  pub locks_most : length s.locks ≤ 256
  pub timers_most : length s.timers ≤ 1024
  pub clients_most : length s.clients ≤ 16
  pub funcs_room : length s.funcs ≤ funcs
  pub ticks_room : length s.ticks ≤ s.cpus
  pub specs : list_all (spec_fits (locked_by s)) s.timers ≡ true
  pub funcs_fit : list_all (section funcs (named_by s) kind.Func) s.funcs ≡ true
  pub clients_fit : list_all (section funcs (named_by s) kind.Client) s.clients ≡ true
  pub ticks_fit : list_all (section funcs (named_by s) kind.Cpu) s.ticks ≡ true
  pub total : acts_in s.funcs + (acts_in s.clients + acts_in s.ticks) ≤ count
  pub count_most : count ≤ 262144
  pub turns_most : length s.turns ≤ 1000000
  pub turns_fit : list_all (λ a. nat_lt a (actor_count s)) s.turns ≡ true
  -- what later kinds of lines add isn't there yet
  pub no_timers : rank stage ≤ 5 → s.timers ≡ []
  pub no_funcs : rank stage ≤ 6 → s.funcs ≡ []
  pub no_clients : rank stage ≤ 6 → s.clients ≡ []
  pub no_ticks : rank stage ≤ 6 → s.ticks ≡ []
  pub no_turns : rank stage ≤ 9 → s.turns ≡ []

abbrev pub open_funcs : Kind → ℕ
open_funcs kind.Func = 1
open_funcs _ = 0

abbrev pub open_ticks : Kind → ℕ
open_ticks kind.Cpu = 1
open_ticks _ = 0

pub record Fine (d : Draft) : Type 0 where
  pub firm : Firm d.funcs d.count d.stage d.script
  -- the open section has its place
  pub funcs_room : length d.script.funcs + open_funcs d.stage ≤ d.funcs
  pub clients_room : length d.script.clients + open_clients d.stage ≤ 16
  pub ticks_room : length d.script.ticks + open_ticks d.stage ≤ d.script.cpus
  pub acts : section d.funcs (named_by d.script) d.stage d.acts ≡ true
  pub clock : d.clock ≡ clock_after 0 d.acts
  pub total : acts_in d.script.funcs + (acts_in d.script.clients + acts_in d.script.ticks) + length d.acts ≤ d.count

-- ---- a section is closed

module _ (funcs count : ℕ) (s : Script) (acts : List Act) where
  closes : (stage : Kind) → Firm funcs count stage s → length s.funcs + open_funcs stage ≤ funcs → length s.clients + open_clients stage ≤ 16 → length s.ticks + open_ticks stage ≤ s.cpus
      → section funcs (named_by s) stage acts ≡ true → acts_in s.funcs + (acts_in s.clients + acts_in s.ticks) + length acts ≤ count
      → Firm funcs count stage (with_section stage s acts)
  closes kind.Callout h f c x a n = h
  closes kind.Hz h f c x a n = h
  closes kind.Cpus h f c x a n = h
  closes kind.Wheel h f c x a n = h
  closes kind.Funcs h f c x a n = h
  closes kind.Lock h f c x a n = h
  closes kind.Timer h f c x a n = h
  closes kind.Turns h f c x a n = h
  closes kind.Func h f c x a n = record {
    version = h.version;
    hz = h.hz;
    cpus = h.cpus;
    buckets = h.buckets;
    funcs_most = h.funcs_most;
    locks_most = h.locks_most;
    timers_most = h.timers_most;
    clients_most = h.clients_most;
    funcs_room = let long : length (s.funcs ++ acts ∷ []) ≡ length s.funcs + 1 = length-append s.funcs (acts ∷ []) in omega (arith, long, f);
    ticks_room = h.ticks_room;
    specs = h.specs;
    funcs_fit = more-pass (section funcs (named_by s) kind.Func) s.funcs (acts ∷ []) h.funcs_fit (one-passes (section funcs (named_by s) kind.Func) acts a);
    clients_fit = h.clients_fit;
    ticks_fit = h.ticks_fit;
    total = let sum : acts_in (s.funcs ++ acts ∷ []) ≡ acts_in s.funcs + length acts = sum_by_push (λ (x : List Act). length x) s.funcs acts in omega (arith, sum, n);
    count_most = h.count_most;
    turns_most = h.turns_most;
    turns_fit = h.turns_fit;
    no_timers = h.no_timers;
    no_funcs = λ early. let never : ⊥ = omega (arith, early) in absurd never;
    no_clients = h.no_clients;
    no_ticks = h.no_ticks;
    no_turns = h.no_turns;
  }
  closes kind.Client h f c x a n = record {
    version = h.version;
    hz = h.hz;
    cpus = h.cpus;
    buckets = h.buckets;
    funcs_most = h.funcs_most;
    locks_most = h.locks_most;
    timers_most = h.timers_most;
    clients_most = let long : length (s.clients ++ acts ∷ []) ≡ length s.clients + 1 = length-append s.clients (acts ∷ []) in omega (arith, long, c);
    funcs_room = h.funcs_room;
    ticks_room = h.ticks_room;
    specs = h.specs;
    funcs_fit = h.funcs_fit;
    clients_fit = more-pass (section funcs (named_by s) kind.Client) s.clients (acts ∷ []) h.clients_fit (one-passes (section funcs (named_by s) kind.Client) acts a);
    ticks_fit = h.ticks_fit;
    total = let sum : acts_in (s.clients ++ acts ∷ []) ≡ acts_in s.clients + length acts = sum_by_push (λ (x : List Act). length x) s.clients acts in omega (arith, sum, n);
    count_most = h.count_most;
    turns_most = h.turns_most;
    turns_fit = none-pass (λ a. nat_lt a (actor_count (record s { clients = s.clients ++ acts ∷ [] }))) s.turns (h.no_turns (omega arith));
    no_timers = h.no_timers;
    no_funcs = h.no_funcs;
    no_clients = λ early. let never : ⊥ = omega (arith, early) in absurd never;
    no_ticks = h.no_ticks;
    no_turns = h.no_turns;
  }
  closes kind.Cpu h f c x a n = record {
    version = h.version;
    hz = h.hz;
    cpus = h.cpus;
    buckets = h.buckets;
    funcs_most = h.funcs_most;
    locks_most = h.locks_most;
    timers_most = h.timers_most;
    clients_most = h.clients_most;
    funcs_room = h.funcs_room;
    ticks_room = let long : length (s.ticks ++ acts ∷ []) ≡ length s.ticks + 1 = length-append s.ticks (acts ∷ []) in omega (arith, long, x);
    specs = h.specs;
    funcs_fit = h.funcs_fit;
    clients_fit = h.clients_fit;
    ticks_fit = more-pass (section funcs (named_by s) kind.Cpu) s.ticks (acts ∷ []) h.ticks_fit (one-passes (section funcs (named_by s) kind.Cpu) acts a);
    total = let sum : acts_in (s.ticks ++ acts ∷ []) ≡ acts_in s.ticks + length acts = sum_by_push (λ (x : List Act). length x) s.ticks acts in omega (arith, sum, n);
    count_most = h.count_most;
    turns_most = h.turns_most;
    turns_fit = h.turns_fit;
    no_timers = h.no_timers;
    no_funcs = h.no_funcs;
    no_clients = h.no_clients;
    no_ticks = λ early. let never : ⊥ = omega (arith, early) in absurd never;
    no_turns = h.no_turns;
  }

pub close : (d : Draft) → Fine d → Firm d.funcs d.count d.stage (closed d)
close d h = closes d.funcs d.count d.script d.acts d.stage h.firm h.funcs_room h.clients_room h.ticks_room h.acts h.total

-- ---- a section is opened

pub opened : (funcs count : ℕ) (k : Kind) (s : Script) → Firm funcs count k s
    → length s.funcs + open_funcs k ≤ funcs → length s.clients + open_clients k ≤ 16 → length s.ticks + open_ticks k ≤ s.cpus
    → Fine (record { script = s; stage = k; funcs = funcs; acts = []; clock = 0; count = count })
opened funcs count k s h f c x = record {
  firm = h;
  funcs_room = f;
  clients_room = c;
  ticks_room = x;
  acts = empty-section funcs (named_by s) k;
  clock = refl;
  total = omega (arith, h.total);
}
