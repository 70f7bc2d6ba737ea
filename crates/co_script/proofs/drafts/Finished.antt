-- A firm script fits, once its functions and CPUs without a section have empty ones.
use Rattle.std.proofs.Common.{◌≡◌, ℕ, ◌+◌, ◌-◌, ◌<◌, true, ◌&&◌, List, [], length, refl, ap, sym, subst, ◌∙◌, arith}
use Rattle.std.specs.Prelude.{◌==◌, nat_lt, nat_le, replicate}
use Rattle.std.specs.List.{list_all}
use Rattle.std.proofs.lemmas.Bool.{and_from, le-leb, eq-eqb}
use Rattle.std.proofs.lemmas.List.Sums.{sum_by-append}
use Rattle.co_object.specs.declared.Spec.{Spec}
use Rattle.co_program.specs.declared.Script.{Script}
use Rattle.co_program.specs.declared.Act.{Act}
use Rattle.co_program.specs.Actors.{actor_count}
use Rattle.co_grammar.specs.declared.Kind.{Kind}
use Rattle.co_grammar.specs.declared.Kind.TheVariants as kind
use Rattle.co_grammar.specs.Keywords.{is_func}
use Rattle.co_object.specs.Queue.{is_wheel_size}
use Rattle.co_grammar.specs.Checks.{is_within}
use Rattle.co_script.specs.Drafts.{padded}
use Rattle.co_script.specs.Refusals.{most_acts}
use Rattle.co_script.specs.Fits.{fits, rises_after, spec_fits, section_fits, total_acts}
use Rattle.co_script.proofs.drafts.Named.{named_by, locked_by, fits-named, kind-named, exists-locked, use-locked}
use Rattle.co_script.proofs.Standing.{stands}
use Rattle.co_script.proofs.drafts.Sections.{section, empty-section}
use Rattle.co_script.proofs.drafts.Firm.{acts_in, Firm, copies-sum}
use Rattle.co_script.proofs.Pads.{padded-long}
use Rattle.co_script.proofs.AllPass.{more-pass, copies-pass}
use Rattle.co_script.proofs.AllPass.{all-alike}

spec-alike : (s : Script) (x : Spec) → spec_fits (locked_by s) x ≡ spec_fits s x
spec-alike s x = rw (exists-locked s x.lock, use-locked s x.lock) refl

act-alike : (funcs : ℕ) (s : Script) (k : Kind) (a : Act) → stands funcs (named_by s) k a ≡ stands funcs s k a
act-alike funcs s k a = rw (fits-named funcs s a, kind-named s a) refl

section-alike : (funcs : ℕ) (s : Script) (k : Kind) (acts : List Act) → section funcs (named_by s) k acts ≡ section funcs s k acts
section-alike funcs s k acts = ap (λ b. nat_le (length acts) (most_acts (is_func k)) && (b && rises_after 0 acts)) (all-alike (stands funcs (named_by s) k) (stands funcs s k) (act-alike funcs s k) acts)

padded-acts : (n : ℕ) (lists : List (List Act)) → acts_in (padded n lists) ≡ acts_in lists
padded-acts n lists = sum_by-append (λ (x : List Act). length x) lists (replicate (n - length lists) []) ∙ (ap (λ k. acts_in lists + k) (copies-sum (n - length lists)) ∙ omega arith)

padded-fit : (funcs : ℕ) (s : Script) (k : Kind) (n : ℕ) (lists : List (List Act)) → list_all (section funcs (named_by s) k) lists ≡ true → list_all (section funcs s k) (padded n lists) ≡ true
padded-fit funcs s k n lists h =
    sym (all-alike (section funcs (named_by s) k) (section funcs s k) (section-alike funcs s k) (padded n lists))
    ∙ more-pass (section funcs (named_by s) k) lists (replicate (n - length lists) []) h (copies-pass (section funcs (named_by s) k) (n - length lists) [] (empty-section funcs (named_by s) k))

-- a firm script fits, once its functions and CPUs without a section have empty ones
pub firm-fits : (funcs count : ℕ) (stage : Kind) (s : Script) → Firm funcs count stage s → 0 < length s.timers →
    fits (record s { funcs = padded funcs s.funcs; ticks = padded s.cpus s.ticks }) ≡ true
unfolding fits
firm-fits funcs count stage s h some =
    let t : Script = record s { funcs = padded funcs s.funcs; ticks = padded s.cpus s.ticks } in
    let all_funcs : length (padded funcs s.funcs) ≡ funcs = padded-long funcs s.funcs h.funcs_room in
    let all_ticks : length (padded s.cpus s.ticks) ≡ s.cpus = padded-long s.cpus s.ticks h.ticks_room in
    let func_acts : acts_in (padded funcs s.funcs) ≡ acts_in s.funcs = padded-acts funcs s.funcs in
    let tick_acts : acts_in (padded s.cpus s.ticks) ≡ acts_in s.ticks = padded-acts s.cpus s.ticks in
    let head = and_from (is_within 1 2 s.version) (is_within 1 1000000 s.hz && (is_within 1 16 s.cpus && is_wheel_size s.buckets)) h.version
    (and_from (is_within 1 1000000 s.hz) (is_within 1 16 s.cpus && is_wheel_size s.buckets) h.hz (and_from (is_within 1 16 s.cpus) (is_wheel_size s.buckets) h.cpus h.buckets)) in
    let counts : (nat_le (length (padded funcs s.funcs)) 1024 && (nat_le (length s.locks) 256 && (is_within 1 1024 (length s.timers) && (nat_le (length s.clients) 16 && (length (padded s.cpus s.ticks) == s.cpus))))) ≡ true =
    and_from (nat_le (length (padded funcs s.funcs)) 1024) (nat_le (length s.locks) 256 && (is_within 1 1024 (length s.timers) && (nat_le (length s.clients) 16 && (length (padded s.cpus s.ticks) == s.cpus))))
    (le-leb (length (padded funcs s.funcs)) 1024 (omega (arith, all_funcs, h.funcs_most)))
    (and_from (nat_le (length s.locks) 256) (is_within 1 1024 (length s.timers) && (nat_le (length s.clients) 16 && (length (padded s.cpus s.ticks) == s.cpus)))
    (le-leb (length s.locks) 256 h.locks_most)
    (and_from (is_within 1 1024 (length s.timers)) (nat_le (length s.clients) 16 && (length (padded s.cpus s.ticks) == s.cpus))
    (and_from (nat_le 1 (length s.timers)) (nat_le (length s.timers) 1024) (le-leb 1 (length s.timers) (omega (arith, some))) (le-leb (length s.timers) 1024 h.timers_most))
    (and_from (nat_le (length s.clients) 16) (length (padded s.cpus s.ticks) == s.cpus)
    (le-leb (length s.clients) 16 h.clients_most)
    (eq-eqb (length (padded s.cpus s.ticks)) s.cpus all_ticks)))) in
    let specs : list_all (spec_fits t) s.timers ≡ true = sym (all-alike (spec_fits (locked_by t)) (spec_fits t) (spec-alike t) s.timers) ∙ h.specs in
    let funcs_fit : list_all (section funcs t kind.Func) (padded funcs s.funcs) ≡ true = padded-fit funcs t kind.Func funcs s.funcs h.funcs_fit in
    let clients_fit : list_all (section funcs t kind.Client) s.clients ≡ true = sym (all-alike (section funcs (named_by t) kind.Client) (section funcs t kind.Client) (section-alike funcs t kind.Client) s.clients) ∙ h.clients_fit in
    let ticks_fit : list_all (section funcs t kind.Cpu) (padded s.cpus s.ticks) ≡ true = padded-fit funcs t kind.Cpu s.cpus s.ticks h.ticks_fit in
    let parts : (list_all (spec_fits t) s.timers && (list_all (section_fits t kind.Func) (padded funcs s.funcs) && (list_all (section_fits t kind.Client) s.clients && list_all (section_fits t kind.Cpu) (padded s.cpus s.ticks)))) ≡ true =
    and_from (list_all (spec_fits t) s.timers) (list_all (section_fits t kind.Func) (padded funcs s.funcs) && (list_all (section_fits t kind.Client) s.clients && list_all (section_fits t kind.Cpu) (padded s.cpus s.ticks))) specs
    (and_from (list_all (section_fits t kind.Func) (padded funcs s.funcs)) (list_all (section_fits t kind.Client) s.clients && list_all (section_fits t kind.Cpu) (padded s.cpus s.ticks))
    (subst (λ n. list_all (section n t kind.Func) (padded funcs s.funcs) ≡ true) (sym all_funcs) funcs_fit)
    (and_from (list_all (section_fits t kind.Client) s.clients) (list_all (section_fits t kind.Cpu) (padded s.cpus s.ticks))
    (subst (λ n. list_all (section n t kind.Client) s.clients ≡ true) (sym all_funcs) clients_fit)
    (subst (λ n. list_all (section n t kind.Cpu) (padded s.cpus s.ticks) ≡ true) (sym all_funcs) ticks_fit))) in
    let total : nat_le (total_acts t) 262144 ≡ true = le-leb (total_acts t) 262144 (omega (arith, func_acts, tick_acts, h.total, h.count_most)) in
    let turns : (nat_le (length s.turns) 1000000 && list_all (λ a. nat_lt a (actor_count t)) s.turns) ≡ true = and_from (nat_le (length s.turns) 1000000) (list_all (λ a. nat_lt a (actor_count t)) s.turns) (le-leb (length s.turns) 1000000 h.turns_most) h.turns_fit in
    and_from (is_within 1 2 s.version && (is_within 1 1000000 s.hz && (is_within 1 16 s.cpus && is_wheel_size s.buckets)))
    ((nat_le (length (padded funcs s.funcs)) 1024 && (nat_le (length s.locks) 256 && (is_within 1 1024 (length s.timers) && (nat_le (length s.clients) 16 && (length (padded s.cpus s.ticks) == s.cpus))))) && ((list_all (spec_fits t) s.timers && (list_all (section_fits t kind.Func) (padded funcs s.funcs) && (list_all (section_fits t kind.Client) s.clients && list_all (section_fits t kind.Cpu) (padded s.cpus s.ticks)))) && (nat_le (total_acts t) 262144 && (nat_le (length s.turns) 1000000 && list_all (λ a. nat_lt a (actor_count t)) s.turns))))
    head
    (and_from (nat_le (length (padded funcs s.funcs)) 1024 && (nat_le (length s.locks) 256 && (is_within 1 1024 (length s.timers) && (nat_le (length s.clients) 16 && (length (padded s.cpus s.ticks) == s.cpus)))))
    ((list_all (spec_fits t) s.timers && (list_all (section_fits t kind.Func) (padded funcs s.funcs) && (list_all (section_fits t kind.Client) s.clients && list_all (section_fits t kind.Cpu) (padded s.cpus s.ticks)))) && (nat_le (total_acts t) 262144 && (nat_le (length s.turns) 1000000 && list_all (λ a. nat_lt a (actor_count t)) s.turns)))
    counts
    (and_from (list_all (spec_fits t) s.timers && (list_all (section_fits t kind.Func) (padded funcs s.funcs) && (list_all (section_fits t kind.Client) s.clients && list_all (section_fits t kind.Cpu) (padded s.cpus s.ticks))))
    (nat_le (total_acts t) 262144 && (nat_le (length s.turns) 1000000 && list_all (λ a. nat_lt a (actor_count t)) s.turns))
    parts
    (and_from (nat_le (total_acts t) 262144) (nat_le (length s.turns) 1000000 && list_all (λ a. nat_lt a (actor_count t)) s.turns) total turns)))
