-- Every generated script fits: each act of a group stands in its section, the times rise from group to group and from tick
-- to tick, and a group has at most four acts.
use Rattle.std.proofs.Common.{◌≡◌, ℕ, zero, suc, ◌+◌, ◌*◌, ◌/◌, ◌%◌, ◌^◌, ◌<◌, ◌≤◌, ◌==◌, nat_lt, Bool, true, false, cond, List, [], ◌∷◌, ◌++◌, map, length, refl, ap, ◌∙◌, arith}
use Rattle.std.specs.Prelude.{Option, Some, None, sum_by, nat_le}
use Rattle.std.specs.List.{range_with_len, flat_map, list_all}
use Rattle.std.proofs.lemmas.Bool.Decides.{nat_tests}
use Rattle.co_object.specs.declared.LockUse.TheVariants.{Free, Mtx, Rw}
use Rattle.co_program.specs.declared.Act.{Act}
use Rattle.co_program.specs.declared.Act.TheVariants as act
use Rattle.co_program.specs.declared.Where.TheVariants.{Home, Cpu}
use Rattle.co_program.specs.declared.Script.{Script}
use Rattle.co_program.specs.Scripts.{cpu_exists}
use Rattle.co_grammar.specs.declared.Kind.TheVariants as section
use Rattle.co_script.specs.Fits.{fits, act_stands, rises_after, section_fits, spec_fits, parts_fit, total_acts}
use Rattle.co_gen.specs.declared.choice.Choice.{Choice}
use Rattle.co_gen.specs.declared.choice.Kind.{Kind}
use Rattle.co_gen.specs.declared.choice.Kind.TheVariants as kind
use Rattle.co_gen.specs.Generator.{first, draw, group_kind, lock_use, spec_of, functions, choice_of, where_of, call_of_kind, call_of, wants_lock, lock_number, group_lock, under, group, group_of, client_acts, client, tick, tick_acts, generated}
use Rattle.co_gen.specs.Laws.{GeneratedScriptsFit}
use Rattle.co_gen.proofs.Ranges.{both, all-items, all-parts, length-parts, sum-lengths}

lt-true : (m n : ℕ) → m < n → nat_lt m n ≡ true
lt-true m n h = grind (arith, nat_tests)

le-true : (m n : ℕ) → m ≤ n → nat_le m n ≡ true
le-true m n h = grind (arith, nat_tests)

is-lt : (m n : ℕ) → nat_lt m n ≡ true → m < n
is-lt m n h = grind (arith, nat_tests)

-- what acts are measured by
record IsFrame (s : Script) : Type 0 where
  version : s.version ≡ 1
  funcs : length s.funcs ≡ 4
  timers : length s.timers ≡ 64
  locks : length s.locks ≡ 8
  cpus : s.cpus ≡ 4

-- the numbers that a draw gives
record IsSmall (c : Choice) : Type 0 where
  timer : c.timer < 64
  span : c.span < 2 ^ 63

small : (d : ℕ) → IsSmall (choice_of d)
small d = record { timer = omega arith; span = omega arith }

-- a lock that a group takes exists
abbrev IsLock : Option ℕ → Type 0
IsLock None = Unit {0}
IsLock (Some l) = l < 8

lock-below : (i : ℕ) → IsLock (lock_number (lock_use i))
lock-below i = at_first (i % 4 == 0) where
  at_third : (b : Bool) → IsLock (lock_number (cond b (Rw (2 * (i / 4 % 4) + 1)) (Mtx (2 * (i / 4 % 4)))))
  at_third true = omega arith
  at_third false = omega arith

  at_second : (b : Bool) → IsLock (lock_number (cond b (Mtx (2 * (i / 4 % 4))) (cond (i % 4 == 2) (Rw (2 * (i / 4 % 4) + 1)) (Mtx (2 * (i / 4 % 4))))))
  at_second true = omega arith
  at_second false = at_third (i % 4 == 2)

  at_first : (b : Bool) → IsLock (lock_number (cond b Free (cond (i % 4 == 1) (Mtx (2 * (i / 4 % 4))) (cond (i % 4 == 2) (Rw (2 * (i / 4 % 4) + 1)) (Mtx (2 * (i / 4 % 4)))))))
  at_first true = tt
  at_first false = at_second (i % 4 == 1)

lock-of : (c : Choice) → IsLock (group_lock c)
lock-of c = at_test (wants_lock c.kind) where
  at_test : (b : Bool) → IsLock (cond b (lock_number (lock_use c.timer)) None)
  at_test true = lock-below c.timer
  at_test false = tt

-- ---- acts stand

module _ (s : Script) (frame : IsFrame s) where
  abbrev stands : Act → Bool
  stands a = act_stands s section.Client a

  timer-exists : (i : ℕ) → i < 64 → nat_lt i (length s.timers) ≡ true
  timer-exists i h = lt-true i (length s.timers) (omega (arith, h, frame.timers))

  func-exists : (f : ℕ) → f < 4 → nat_lt f (length s.funcs) ≡ true
  func-exists f h = lt-true f (length s.funcs) (omega (arith, h, frame.funcs))

  where-exists : (w : ℕ) → cpu_exists s (where_of w) ≡ true
  where-exists w = at_test (nat_lt w 4) refl where
    at_test : (b : Bool) → nat_lt w 4 ≡ b → cpu_exists s (cond b (Cpu w) Home) ≡ true
    at_test true is = lt-true w s.cpus (omega (arith, is-lt w 4 is, frame.cpus))
    at_test false is = refl

  lock-exists : (l : ℕ) → l < 8 → nat_lt l (length s.locks) ≡ true
  lock-exists l h = lt-true l (length s.locks) (omega (arith, h, frame.locks))

  call-stands : (c : Choice) → IsSmall c → (k : Kind) → stands (call_of_kind c k) ≡ true
  call-stands c h kind.Reset =
      let time = lt-true c.span (2 ^ 63) h.span in
      let names = both (timer-exists c.timer h.timer) (where-exists c.cpu) in
      let values = both (func-exists (c.timer % 4) (omega arith)) (lt-true c.timer (2 ^ 64) (omega (arith, h.timer))) in
      both (both time refl) (both (both names values) refl)
  call-stands c h kind.Schedule = both (both (lt-true c.span (2 ^ 63) h.span) refl) (both (both (both (timer-exists c.timer h.timer) refl) refl) refl)
  call-stands c h kind.Stop = both (both (timer-exists c.timer h.timer) refl) refl
  call-stands c h kind.AsyncDrain = both (both (timer-exists c.timer h.timer) (func-exists 3 (omega arith))) refl
  call-stands c h kind.Pending = both (both (timer-exists c.timer h.timer) refl) refl
  call-stands c h kind.Drain = both (both (timer-exists c.timer h.timer) refl) refl

  under-stands : (o : Option ℕ) (a : Act) → IsLock o → stands a ≡ true → list_all stands (under o a) ≡ true
  under-stands None a h is = both is refl
  under-stands (Some l) a h is = both (both (lock-exists l h) refl) (both is refl)

  group-stands : (g : ℕ) (c : Choice) → g < 1024 → IsSmall c → list_all stands (group g c) ≡ true
  group-stands g c h is =
      both (both (lt-true (g * 67108864) (2 ^ 63) (omega (arith, h))) refl) (under-stands (group_lock c) (call_of c) (lock-of c) (call-stands c is c.kind))

  client-stands : (state : ℕ) → list_all stands (client_acts state) ≡ true
  unfolding client_acts
  client-stands state = all-parts stands (group_of state) 1024 0 1024 (omega arith) (λ g below. group-stands g (choice_of (draw state g)) below (small (draw state g)))

  tick-stands : (t : ℕ) → t < 1280 → act_stands s section.Cpu (tick t) ≡ true
  tick-stands t h = both (lt-true ((t + 1) * 67108864) (2 ^ 63) (omega (arith, h))) refl

  ticks-stand : list_all (act_stands s section.Cpu) tick_acts ≡ true
  unfolding tick_acts
  ticks-stand = all-items (act_stands s section.Cpu) tick 1280 0 1280 (omega arith) tick-stands

-- ---- times rise

call-rises : (t : ℕ) (c : Choice) (k : Kind) (rest : List Act) → rises_after t (call_of_kind c k ∷ rest) ≡ rises_after t rest
call-rises t c kind.Reset rest = refl
call-rises t c kind.Schedule rest = refl
call-rises t c kind.Stop rest = refl
call-rises t c kind.AsyncDrain rest = refl
call-rises t c kind.Pending rest = refl
call-rises t c kind.Drain rest = refl

under-rises : (t : ℕ) (o : Option ℕ) (c : Choice) (rest : List Act) → rises_after t (under o (call_of c) ++ rest) ≡ rises_after t rest
under-rises t None c rest = call-rises t c c.kind rest
under-rises t (Some l) c rest = call-rises t c c.kind (act.Unlock ∷ rest)

groups-rise : (state t a n : ℕ) → t ≤ a * 67108864 → rises_after t (flat_map (group_of state) (range_with_len a n)) ≡ true
groups-rise state t a zero h = refl
groups-rise state t a (suc n) h =
    let c : Choice = choice_of (draw state a) in
    let rest : List Act = flat_map (group_of state) (range_with_len (a + 1) n) in
    both (le-true t (a * 67108864) h) (under-rises (a * 67108864) (group_lock c) c rest ∙ groups-rise state (a * 67108864) (a + 1) n (omega arith))

client-rises : (state : ℕ) → rises_after 0 (client_acts state) ≡ true
unfolding client_acts
client-rises state = groups-rise state 0 0 1024 (omega arith)

ticks-from : (t a n : ℕ) → t ≤ (a + 1) * 67108864 → rises_after t (map tick (range_with_len a n)) ≡ true
ticks-from t a zero h = refl
ticks-from t a (suc n) h = both (le-true t ((a + 1) * 67108864) h) (ticks-from ((a + 1) * 67108864) (a + 1) n (omega arith))

ticks-rise : rises_after 0 tick_acts ≡ true
unfolding tick_acts
ticks-rise = ticks-from 0 0 1280 (omega arith)

-- ---- numbers of acts

length-under : (o : Option ℕ) (a : Act) → length (under o a) ≤ 3
length-under None a = omega arith
length-under (Some l) a = omega arith

client-length : (state : ℕ) → length (client_acts state) ≤ 4096
unfolding client_acts
client-length state = length-parts (group_of state) 4 0 1024 (λ g. (let c : Choice = choice_of (draw state g) in omega (arith, length-under (group_lock c) (call_of c))))

tick-list : (a n : ℕ) → length (map tick (range_with_len a n)) ≡ n
tick-list a zero = refl
tick-list a (suc n) = ap suc (tick-list (a + 1) n)

ticks-length : length tick_acts ≡ 1280
unfolding tick_acts
ticks-length = tick-list 0 1280

-- ---- the script

abbrev framed : List (List Act) → List (List Act) → Script
framed clients ticks = record {
  version = 1;
  hz = 1000;
  cpus = 4;
  buckets = 256;
  locks = first group_kind 8;
  timers = first spec_of 64;
  funcs = functions;
  clients = clients;
  ticks = ticks;
  turns = [];
}

module _ (clients ticks : List (List Act)) where
  is-frame : IsFrame (framed clients ticks)
  is-frame = record { version = refl; funcs = refl; timers = refl; locks = refl; cpus = refl }

  specs-fit : list_all (spec_fits (framed clients ticks)) (first spec_of 64) ≡ true
  specs-fit = refl

  funcs-fit : list_all (section_fits (framed clients ticks) section.Func) functions ≡ true
  funcs-fit = refl

  client-fits : (state : ℕ) → section_fits (framed clients ticks) section.Client (client_acts state) ≡ true
  client-fits state =
      both (le-true (length (client_acts state)) 65536 (omega (arith, client-length state)))
      (both (client-stands (framed clients ticks) is-frame state) (client-rises state))

  ticks-fit : section_fits (framed clients ticks) section.Cpu tick_acts ≡ true
  ticks-fit =
      both (le-true (length tick_acts) 65536 (omega (arith, ticks-length)))
      (both (ticks-stand (framed clients ticks) is-frame) ticks-rise)

abbrev clients-of : ℕ → List (List Act)
clients-of seed = first (client seed) 8

abbrev ticks-of : List (List Act)
ticks-of = first (λ cpu. tick_acts) 4

abbrev script-of : ℕ → Script
script-of seed = framed (clients-of seed) ticks-of

parts-fit : (seed : ℕ) → parts_fit (script-of seed) ≡ true
parts-fit seed =
    both (specs-fit (clients-of seed) ticks-of)
    (both (funcs-fit (clients-of seed) ticks-of)
    (both (all-items (section_fits (script-of seed) section.Client) (client seed) 8 0 8 (omega arith) (λ c below. client-fits (clients-of seed) ticks-of _))
    (all-items (section_fits (script-of seed) section.Cpu) (λ cpu. tick_acts) 4 0 4 (omega arith) (λ cpu below. ticks-fit (clients-of seed) ticks-of))))

few-acts : (seed : ℕ) → nat_le (total_acts (script-of seed)) 262144 ≡ true
few-acts seed =
    let of_clients : sum_by length (clients-of seed) ≤ 8 * 4096 = sum-lengths (client seed) 4096 0 8 (λ c. client-length _) in
    let of_ticks : sum_by length ticks-of ≤ 4 * 1280 = sum-lengths (λ cpu. tick_acts) 1280 0 4 (λ cpu. omega (arith, ticks-length)) in
    le-true (total_acts (script-of seed)) 262144 (omega (arith, of_clients, of_ticks))

pub generated-fits : GeneratedScriptsFit
unfolding fits generated
generated-fits seed = both refl (both refl (both (parts-fit seed) (both (few-acts seed) refl)))
