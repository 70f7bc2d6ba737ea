-- A line of a lock or of a callout keeps a draft fine.
use Rattle.std.proofs.Common.{◌≡◌, ℕ, ◌+◌, ◌≤◌, true, not, ◌&&◌, ◌||◌, [], ◌∷◌, ◌++◌, length, sym, ◌∙◌, arith, length-append}
use Rattle.std.specs.Prelude.{◌==◌}
use Rattle.std.proofs.lemmas.Bool.{and_from}
use Rattle.co_object.specs.declared.Spec.{Spec}
use Rattle.co_lock.specs.declared.LockKind.{LockKind}
use Rattle.co_program.specs.declared.Script.{Script}
use Rattle.co_grammar.specs.declared.Kind.{Kind}
use Rattle.co_grammar.specs.declared.Kind.TheVariants as kind
use Rattle.co_grammar.specs.Keywords.{rank}
use Rattle.co_grammar.specs.Checks.{is_next_of, spec_exists, spec_kind_fits}
use Rattle.co_script.specs.Fits.{spec_fits, is_free}
use Rattle.co_script.proofs.told.Specs.{IsSpecFormed}
use Rattle.co_script.proofs.AllPass.{none-pass, more-pass, one-passes}
use Rattle.co_script.proofs.drafts.Named.{named_by, locked_by, exists-locked, use-locked}
use Rattle.co_script.proofs.drafts.Sections.{section}
use Rattle.co_script.proofs.drafts.Firm.{Firm, Fine, opened}
use Rattle.co_script.proofs.drafts.Order.{next-of}

pub lock-line-fine : (funcs count : ℕ) (stage : Kind) (s : Script) (n : ℕ) (k : LockKind) → Firm funcs count stage s → rank stage ≤ 5 → is_next_of 256 (length s.locks) n ≡ true → Fine (record { script = record s { locks = s.locks ++ k ∷ [] }; stage = kind.Lock; funcs = funcs; acts = []; clock = 0; count = count })
lock-line-fine funcs count stage s n k h order numbers =
    let fit : Firm (funcs) count kind.Lock (record s { locks = s.locks ++ k ∷ [] }) = record {
      version = h.version;
      hz = h.hz;
      cpus = h.cpus;
      buckets = h.buckets;
      funcs_most = h.funcs_most;
      locks_most = let long : length (s.locks ++ k ∷ []) ≡ length s.locks + 1 = length-append s.locks (k ∷ []) in omega (arith, long, next-of 256 (length s.locks) n numbers);
      timers_most = h.timers_most;
      clients_most = h.clients_most;
      funcs_room = h.funcs_room;
      ticks_room = h.ticks_room;
      specs = none-pass (spec_fits (locked_by (record s { locks = s.locks ++ k ∷ [] }))) s.timers (h.no_timers (omega (arith, order)));
      funcs_fit = none-pass (section (funcs) (named_by (record s { locks = s.locks ++ k ∷ [] })) kind.Func) s.funcs (h.no_funcs (omega (arith, order)));
      clients_fit = none-pass (section (funcs) (named_by (record s { locks = s.locks ++ k ∷ [] })) kind.Client) s.clients (h.no_clients (omega (arith, order)));
      ticks_fit = none-pass (section (funcs) (named_by (record s { locks = s.locks ++ k ∷ [] })) kind.Cpu) s.ticks (h.no_ticks (omega (arith, order)));
      total = h.total;
      count_most = h.count_most;
      turns_most = h.turns_most;
      turns_fit = h.turns_fit;
      no_timers = λ _. h.no_timers (omega (arith, order));
      no_funcs = λ _. h.no_funcs (omega (arith, order));
      no_clients = λ _. h.no_clients (omega (arith, order));
      no_ticks = λ _. h.no_ticks (omega (arith, order));
      no_turns = λ _. h.no_turns (omega (arith, order));
    } in
    opened (funcs) count kind.Lock (record s { locks = s.locks ++ k ∷ [] }) fit (omega (arith, fit.funcs_room)) (omega (arith, fit.clients_most)) (omega (arith, fit.ticks_room))

pub timer-line-fine : (funcs count : ℕ) (stage : Kind) (s : Script) (n : ℕ) (x : Spec) → Firm funcs count stage s → rank stage ≤ 6 → is_next_of 1024 (length s.timers) n ≡ true → spec_exists s x.lock ≡ true → spec_kind_fits s x.lock ≡ true → IsSpecFormed s.version x → Fine (record { script = record s { timers = s.timers ++ x ∷ [] }; stage = kind.Timer; funcs = funcs; acts = []; clock = 0; count = count })
timer-line-fine funcs count stage s n x h order next exists kinds formed =
    let fits_here : spec_fits (locked_by s) x ≡ true =
    and_from (spec_exists (locked_by s) x.lock) (spec_kind_fits (locked_by s) x.lock && (not (is_free x.lock && x.returns_unlocked) && (not x.direct || (is_free x.lock && (s.version == 2)))))
    (sym (exists-locked s x.lock) ∙ exists)
    (and_from (spec_kind_fits (locked_by s) x.lock) (not (is_free x.lock && x.returns_unlocked) && (not x.direct || (is_free x.lock && (s.version == 2))))
    (sym (use-locked s x.lock) ∙ kinds)
    (and_from (not (is_free x.lock && x.returns_unlocked)) (not x.direct || (is_free x.lock && (s.version == 2))) formed.unlocked formed.direct)) in
    let fit : Firm (funcs) count kind.Timer (record s { timers = s.timers ++ x ∷ [] }) = record {
      version = h.version;
      hz = h.hz;
      cpus = h.cpus;
      buckets = h.buckets;
      funcs_most = h.funcs_most;
      locks_most = h.locks_most;
      timers_most = let long : length (s.timers ++ x ∷ []) ≡ length s.timers + 1 = length-append s.timers (x ∷ []) in omega (arith, long, next-of 1024 (length s.timers) n next);
      clients_most = h.clients_most;
      funcs_room = h.funcs_room;
      ticks_room = h.ticks_room;
      specs = more-pass (spec_fits (locked_by s)) s.timers (x ∷ []) h.specs (one-passes (spec_fits (locked_by s)) x fits_here);
      funcs_fit = none-pass (section (funcs) (named_by (record s { timers = s.timers ++ x ∷ [] })) kind.Func) s.funcs (h.no_funcs (omega (arith, order)));
      clients_fit = none-pass (section (funcs) (named_by (record s { timers = s.timers ++ x ∷ [] })) kind.Client) s.clients (h.no_clients (omega (arith, order)));
      ticks_fit = none-pass (section (funcs) (named_by (record s { timers = s.timers ++ x ∷ [] })) kind.Cpu) s.ticks (h.no_ticks (omega (arith, order)));
      total = h.total;
      count_most = h.count_most;
      turns_most = h.turns_most;
      turns_fit = h.turns_fit;
      no_timers = λ early. let never : ⊥ = omega (arith, early) in absurd never;
      no_funcs = λ _. h.no_funcs (omega (arith, order));
      no_clients = λ _. h.no_clients (omega (arith, order));
      no_ticks = λ _. h.no_ticks (omega (arith, order));
      no_turns = λ _. h.no_turns (omega (arith, order));
    } in
    opened (funcs) count kind.Timer (record s { timers = s.timers ++ x ∷ [] }) fit (omega (arith, fit.funcs_room)) (omega (arith, fit.clients_most)) (omega (arith, fit.ticks_room))
