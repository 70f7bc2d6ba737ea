-- A script that fits is one that the service runs: what the core asks of a script is among what the reader grants.
use Rattle.std.proofs.Common.{◌≡◌, ℕ, zero, suc, ◌^◌, ◌<◌, ◌≤◌, Bool, true, false, not, ◌&&◌, ◌||◌, List, [], ◌∷◌, length, refl, ◌∙◌, arith, inl, inr, lit≤}
use Rattle.std.specs.Prelude.{◌==◌, nat_lt, nat_le, slice_index_or, ◌⊎◌}
use Rattle.std.specs.List.{list_all, list_any}
use Rattle.std.proofs.lemmas.Bool.{ltb-true, leb-true, eqb-true}
use Rattle.co_object.specs.declared.Spec.{Spec}
use Rattle.co_object.specs.declared.LockUse.{LockUse}
use Rattle.co_object.specs.declared.LockUse.TheVariants.{Free, Mtx, Rw, RwShared}
use Rattle.co_object.proofs.Changes.{both_true}
use Rattle.co_program.specs.declared.Script.{Script}
use Rattle.co_program.specs.declared.Act.{Act}
use Rattle.co_program.specs.declared.Act.TheVariants as act
use Rattle.co_program.specs.Actors.{actor_count}
use Rattle.co_program.specs.Scripts.{IsScript, is_tick, is_call, names_exist}
use Rattle.co_grammar.specs.declared.Kind.{Kind}
use Rattle.co_grammar.specs.declared.Kind.TheVariants as kind
use Rattle.co_grammar.specs.Keywords.{is_func}
use Rattle.co_object.specs.Queue.{is_wheel_size}
use Rattle.co_grammar.specs.Checks.{is_within, spec_exists, spec_kind_fits}
use Rattle.co_script.specs.Refusals.{most_acts}
use Rattle.co_script.specs.Fits.{fits, rises_after, spec_fits, act_stands, section_fits, is_free}
use Rattle.co_script.proofs.parts.Fitting.{fitting}
use Rattle.co_script.proofs.Standing.{Standing, AllOf, at-any, each-act}

within : (low high n : ℕ) → is_within low high n ≡ true → (low ≤ n) × (n ≤ high)
within low high n h = let both = both_true (nat_le low n) (nat_le n high) h in (leb-true low n both.0, leb-true n high both.1)

-- ---- the size of a wheel

is-size : (n size e : ℕ) → size ≡ 2 ^ e → 16 ≤ size → size ≤ 65536 → (n == size) ≡ true → (16 ≤ n) × (n ≤ 65536) × ((e : ℕ) × (n ≡ 2 ^ e))
is-size n size e power low high h = let same : n ≡ size = eqb-true n size h in (omega (arith, same, low), omega (arith, same, high), (e, same ∙ power))

either : (P : Type 0) (a b : Bool) → (a ≡ true → P) → (b ≡ true → P) → (a || b) ≡ true → P
either P true b first second h = first refl
either P false b first second h = second h

is-wheel : (n : ℕ) → is_wheel_size n ≡ true → (16 ≤ n) × (n ≤ 65536) × ((e : ℕ) × (n ≡ 2 ^ e))
is-wheel n h = size_16 h where
  size_65536 : list_any (λ size. n == size) (65536 ∷ []) ≡ true → (16 ≤ n) × (n ≤ 65536) × ((e : ℕ) × (n ≡ 2 ^ e))
  size_65536 h = either ((16 ≤ n) × (n ≤ 65536) × ((e : ℕ) × (n ≡ 2 ^ e))) (n == 65536) (list_any (λ size. n == size) ([])) (is-size n 65536 16 refl (lit≤ tt) (lit≤ tt)) (λ none. cc) h

  size_32768 : list_any (λ size. n == size) (32768 ∷ 65536 ∷ []) ≡ true → (16 ≤ n) × (n ≤ 65536) × ((e : ℕ) × (n ≡ 2 ^ e))
  size_32768 h = either ((16 ≤ n) × (n ≤ 65536) × ((e : ℕ) × (n ≡ 2 ^ e))) (n == 32768) (list_any (λ size. n == size) (65536 ∷ [])) (is-size n 32768 15 refl (lit≤ tt) (lit≤ tt)) size_65536 h

  size_16384 : list_any (λ size. n == size) (16384 ∷ 32768 ∷ 65536 ∷ []) ≡ true → (16 ≤ n) × (n ≤ 65536) × ((e : ℕ) × (n ≡ 2 ^ e))
  size_16384 h = either ((16 ≤ n) × (n ≤ 65536) × ((e : ℕ) × (n ≡ 2 ^ e))) (n == 16384) (list_any (λ size. n == size) (32768 ∷ 65536 ∷ [])) (is-size n 16384 14 refl (lit≤ tt) (lit≤ tt)) size_32768 h

  size_8192 : list_any (λ size. n == size) (8192 ∷ 16384 ∷ 32768 ∷ 65536 ∷ []) ≡ true → (16 ≤ n) × (n ≤ 65536) × ((e : ℕ) × (n ≡ 2 ^ e))
  size_8192 h = either ((16 ≤ n) × (n ≤ 65536) × ((e : ℕ) × (n ≡ 2 ^ e))) (n == 8192) (list_any (λ size. n == size) (16384 ∷ 32768 ∷ 65536 ∷ [])) (is-size n 8192 13 refl (lit≤ tt) (lit≤ tt)) size_16384 h

  size_4096 : list_any (λ size. n == size) (4096 ∷ 8192 ∷ 16384 ∷ 32768 ∷ 65536 ∷ []) ≡ true → (16 ≤ n) × (n ≤ 65536) × ((e : ℕ) × (n ≡ 2 ^ e))
  size_4096 h = either ((16 ≤ n) × (n ≤ 65536) × ((e : ℕ) × (n ≡ 2 ^ e))) (n == 4096) (list_any (λ size. n == size) (8192 ∷ 16384 ∷ 32768 ∷ 65536 ∷ [])) (is-size n 4096 12 refl (lit≤ tt) (lit≤ tt)) size_8192 h

  size_2048 : list_any (λ size. n == size) (2048 ∷ 4096 ∷ 8192 ∷ 16384 ∷ 32768 ∷ 65536 ∷ []) ≡ true → (16 ≤ n) × (n ≤ 65536) × ((e : ℕ) × (n ≡ 2 ^ e))
  size_2048 h = either ((16 ≤ n) × (n ≤ 65536) × ((e : ℕ) × (n ≡ 2 ^ e))) (n == 2048) (list_any (λ size. n == size) (4096 ∷ 8192 ∷ 16384 ∷ 32768 ∷ 65536 ∷ [])) (is-size n 2048 11 refl (lit≤ tt) (lit≤ tt)) size_4096 h

  size_1024 : list_any (λ size. n == size) (1024 ∷ 2048 ∷ 4096 ∷ 8192 ∷ 16384 ∷ 32768 ∷ 65536 ∷ []) ≡ true → (16 ≤ n) × (n ≤ 65536) × ((e : ℕ) × (n ≡ 2 ^ e))
  size_1024 h = either ((16 ≤ n) × (n ≤ 65536) × ((e : ℕ) × (n ≡ 2 ^ e))) (n == 1024) (list_any (λ size. n == size) (2048 ∷ 4096 ∷ 8192 ∷ 16384 ∷ 32768 ∷ 65536 ∷ [])) (is-size n 1024 10 refl (lit≤ tt) (lit≤ tt)) size_2048 h

  size_512 : list_any (λ size. n == size) (512 ∷ 1024 ∷ 2048 ∷ 4096 ∷ 8192 ∷ 16384 ∷ 32768 ∷ 65536 ∷ []) ≡ true → (16 ≤ n) × (n ≤ 65536) × ((e : ℕ) × (n ≡ 2 ^ e))
  size_512 h = either ((16 ≤ n) × (n ≤ 65536) × ((e : ℕ) × (n ≡ 2 ^ e))) (n == 512) (list_any (λ size. n == size) (1024 ∷ 2048 ∷ 4096 ∷ 8192 ∷ 16384 ∷ 32768 ∷ 65536 ∷ [])) (is-size n 512 9 refl (lit≤ tt) (lit≤ tt)) size_1024 h

  size_256 : list_any (λ size. n == size) (256 ∷ 512 ∷ 1024 ∷ 2048 ∷ 4096 ∷ 8192 ∷ 16384 ∷ 32768 ∷ 65536 ∷ []) ≡ true → (16 ≤ n) × (n ≤ 65536) × ((e : ℕ) × (n ≡ 2 ^ e))
  size_256 h = either ((16 ≤ n) × (n ≤ 65536) × ((e : ℕ) × (n ≡ 2 ^ e))) (n == 256) (list_any (λ size. n == size) (512 ∷ 1024 ∷ 2048 ∷ 4096 ∷ 8192 ∷ 16384 ∷ 32768 ∷ 65536 ∷ [])) (is-size n 256 8 refl (lit≤ tt) (lit≤ tt)) size_512 h

  size_128 : list_any (λ size. n == size) (128 ∷ 256 ∷ 512 ∷ 1024 ∷ 2048 ∷ 4096 ∷ 8192 ∷ 16384 ∷ 32768 ∷ 65536 ∷ []) ≡ true → (16 ≤ n) × (n ≤ 65536) × ((e : ℕ) × (n ≡ 2 ^ e))
  size_128 h = either ((16 ≤ n) × (n ≤ 65536) × ((e : ℕ) × (n ≡ 2 ^ e))) (n == 128) (list_any (λ size. n == size) (256 ∷ 512 ∷ 1024 ∷ 2048 ∷ 4096 ∷ 8192 ∷ 16384 ∷ 32768 ∷ 65536 ∷ [])) (is-size n 128 7 refl (lit≤ tt) (lit≤ tt)) size_256 h

  size_64 : list_any (λ size. n == size) (64 ∷ 128 ∷ 256 ∷ 512 ∷ 1024 ∷ 2048 ∷ 4096 ∷ 8192 ∷ 16384 ∷ 32768 ∷ 65536 ∷ []) ≡ true → (16 ≤ n) × (n ≤ 65536) × ((e : ℕ) × (n ≡ 2 ^ e))
  size_64 h = either ((16 ≤ n) × (n ≤ 65536) × ((e : ℕ) × (n ≡ 2 ^ e))) (n == 64) (list_any (λ size. n == size) (128 ∷ 256 ∷ 512 ∷ 1024 ∷ 2048 ∷ 4096 ∷ 8192 ∷ 16384 ∷ 32768 ∷ 65536 ∷ [])) (is-size n 64 6 refl (lit≤ tt) (lit≤ tt)) size_128 h

  size_32 : list_any (λ size. n == size) (32 ∷ 64 ∷ 128 ∷ 256 ∷ 512 ∷ 1024 ∷ 2048 ∷ 4096 ∷ 8192 ∷ 16384 ∷ 32768 ∷ 65536 ∷ []) ≡ true → (16 ≤ n) × (n ≤ 65536) × ((e : ℕ) × (n ≡ 2 ^ e))
  size_32 h = either ((16 ≤ n) × (n ≤ 65536) × ((e : ℕ) × (n ≡ 2 ^ e))) (n == 32) (list_any (λ size. n == size) (64 ∷ 128 ∷ 256 ∷ 512 ∷ 1024 ∷ 2048 ∷ 4096 ∷ 8192 ∷ 16384 ∷ 32768 ∷ 65536 ∷ [])) (is-size n 32 5 refl (lit≤ tt) (lit≤ tt)) size_64 h

  size_16 : list_any (λ size. n == size) (16 ∷ 32 ∷ 64 ∷ 128 ∷ 256 ∷ 512 ∷ 1024 ∷ 2048 ∷ 4096 ∷ 8192 ∷ 16384 ∷ 32768 ∷ 65536 ∷ []) ≡ true → (16 ≤ n) × (n ≤ 65536) × ((e : ℕ) × (n ≡ 2 ^ e))
  size_16 h = either ((16 ≤ n) × (n ≤ 65536) × ((e : ℕ) × (n ≡ 2 ^ e))) (n == 16) (list_any (λ size. n == size) (32 ∷ 64 ∷ 128 ∷ 256 ∷ 512 ∷ 1024 ∷ 2048 ∷ 4096 ∷ 8192 ∷ 16384 ∷ 32768 ∷ 65536 ∷ [])) (is-size n 16 4 refl (lit≤ tt) (lit≤ tt)) size_32 h

-- ---- acts

tick-of : (s : Script) (a : Act) → Standing (length s.funcs) s kind.Cpu a → is_tick a ≡ true
tick-of s (act.Tick t) h = refl
tick-of s a h = let never : false ≡ true = h.verb in cc

no-tick-of : (s : Script) (a : Act) → Standing (length s.funcs) s kind.Client a → is_tick a ≡ false
no-tick-of s (act.Tick t) h = let never : false ≡ true = h.verb in cc
no-tick-of s a h = refl

call-of : (s : Script) (a : Act) → Standing (length s.funcs) s kind.Func a → is_call a ≡ true
call-of s (act.Now t) h = let never : false ≡ true = h.verb in cc
call-of s (act.Lock l) h = let never : false ≡ true = h.verb in cc
call-of s (act.ReadLock l) h = let never : false ≡ true = h.verb in cc
call-of s act.Unlock h = let never : false ≡ true = h.verb in cc
call-of s (act.Drain i) h = let never : false ≡ true = h.verb in cc
call-of s (act.Tick t) h = let never : false ≡ true = h.verb in cc
call-of s a h = refl

-- ---- sections

module _ (s : Script) (k : Kind) where
  section-short : (acts : List Act) → section_fits s k acts ≡ true → length acts ≤ most_acts (is_func k)
  section-short acts h = leb-true (length acts) (most_acts (is_func k)) ((both_true (nat_le (length acts) (most_acts (is_func k))) (list_all (act_stands s k) acts && rises_after 0 acts) h).0)

-- ---- specs

direct-free : (s : Script) (x : Spec) → spec_fits s x ≡ true → x.direct ≡ true → x.lock ≡ Free
direct-free s x h direct =
    let one = both_true (spec_exists s x.lock) (spec_kind_fits s x.lock && (not (is_free x.lock && x.returns_unlocked) && (not x.direct || (is_free x.lock && (s.version == 2))))) h in
    let two = both_true (spec_kind_fits s x.lock) (not (is_free x.lock && x.returns_unlocked) && (not x.direct || (is_free x.lock && (s.version == 2)))) one.1 in
    let three = both_true (not (is_free x.lock && x.returns_unlocked)) (not x.direct || (is_free x.lock && (s.version == 2))) two.1 in
    let free : is_free x.lock ≡ true = taken x.direct direct (is_free x.lock) (s.version == 2) three.1 in
    by_use x.lock free where
      taken : (d : Bool) → d ≡ true → (a b : Bool) → (not d || (a && b)) ≡ true → a ≡ true
      taken true is a b h = (both_true a b h).0
      taken false is a b h = cc

      by_use : (l : LockUse) → is_free l ≡ true → l ≡ Free
      by_use Free h = refl
      by_use (Mtx l) h = cc
      by_use (Rw l) h = cc
      by_use (RwShared l) h = cc

spec-any : (s : Script) (timers : List Spec) → list_all (spec_fits s) timers ≡ true → (i : ℕ) →
    (slice_index_or timers i (record { lock = Free; returns_unlocked = false; direct = false })).direct ≡ true →
    (slice_index_or timers i (record { lock = Free; returns_unlocked = false; direct = false })).lock ≡ Free
spec-any s [] h i = λ _. refl
spec-any s (x ∷ timers) h zero = direct-free s x ((both_true (spec_fits s x) (list_all (spec_fits s) timers) h).0)
spec-any s (x ∷ timers) h (suc i) = spec-any s timers ((both_true (spec_fits s x) (list_all (spec_fits s) timers) h).1) i

-- ---- the whole

version-is : (n : ℕ) → is_within 1 2 n ≡ true → (n ≡ 1) ⊎ (n ≡ 2)
version-is n h = let range = within 1 2 n h in go n range.0 range.1 where
  go : (n : ℕ) → 1 ≤ n → n ≤ 2 → (n ≡ 1) ⊎ (n ≡ 2)
  go zero low high = let never : ⊥ = omega (arith, low) in absurd never
  go (suc zero) low high = inl refl
  go (suc (suc zero)) low high = inr refl
  go (suc (suc (suc m))) low high = let never : ⊥ = omega (arith, high) in absurd never

-- a script that fits keeps all that the service needs
pub fits-accepted : (s : Script) → fits s ≡ true → IsScript s
fits-accepted s h =
    let f = fitting s h in
    record {
      version = version-is s.version f.version;
      hz = within 1 1000000 s.hz f.hz;
      cpus = within 1 16 s.cpus f.cpus;
      buckets = is-wheel s.buckets f.buckets;
      timers = (f.timers_some, f.small.timers);
      direct = spec-any s s.timers f.specs;
      few_clients = f.clients_few;
      ticks = each-act s kind.Cpu (λ a. is_tick a ≡ true) (tick-of s) s.ticks f.ticks;
      clients = each-act s kind.Client (λ a. is_tick a ≡ false) (no-tick-of s) s.clients f.clients;
      funcs = each-act s kind.Func (λ a. is_call a ≡ true) (call-of s) s.funcs f.funcs;
      clients_name = each-act s kind.Client (λ a. names_exist s a ≡ true) (λ a stands. stands.names) s.clients f.clients;
      funcs_name = each-act s kind.Func (λ a. names_exist s a ≡ true) (λ a stands. stands.names) s.funcs f.funcs;
      short_clients = at-any (λ acts. length acts ≤ 65536) (section_fits s kind.Client) (omega arith) (section-short s kind.Client) s.clients f.clients;
      short_ticks = at-any (λ acts. length acts ≤ 65536) (section_fits s kind.Cpu) (omega arith) (section-short s kind.Cpu) s.ticks f.ticks;
      short_funcs = at-any (λ acts. length acts ≤ 4096) (section_fits s kind.Func) (omega arith) (section-short s kind.Func) s.funcs f.funcs;
      turns = AllOf (λ a. nat_lt a (actor_count s)) (λ a. a < actor_count s) (λ a is. ltb-true a (actor_count s) is) s.turns f.turns;
    }
