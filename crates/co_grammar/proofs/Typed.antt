-- An act whose numbers its type holds is the same there, and one that it doesn't hold fits no script.
use Rattle.std.proofs.Common.{◌≡◌, ℕ, ℤ, ◌^◌, ◌≤◌, Bool, true, false, ◌&&◌, length, refl, ap, sym, subst, ◌∙◌, arith}
use Rattle.std.specs.Prelude.{Result, Ok, Err, OnOk, nat_lt}
use Rattle.std.proofs.lemmas.Bool.Decides.{nat_tests}
use Rattle.co_text.specs.Fallible.{◌>>=◌, ◌>>◌, unless, Gives}
use Rattle.co_text.specs.declared.Cause.{Cause}
use Rattle.co_text.specs.declared.Cause.TheVariants.{Number}
use Rattle.co_text.proofs.LinesBack.{and_left, and_right}
use Rattle.co_program.specs.declared.Script.{Script}
use Rattle.co_program.specs.declared.Act.{Act}
use Rattle.co_program.specs.declared.Act.TheVariants as act
use Rattle.co_program.specs.declared.Who.{Who}
use Rattle.co_program.specs.declared.Who.TheVariants as callout
use Rattle.co_program.specs.declared.Where.{Where}
use Rattle.co_program.specs.declared.Where.TheVariants as cpu
use Rattle.co_program.specs.Scripts.{who_exists, cpu_exists}
use Rattle.co_grammar.specs.Checks.{HasSmallNumbers, act_fits, is_i32, number_typed, argument_typed, ticks_typed, who_typed, where_typed, act_typed, typed}

-- a type gives a value back, or `number`
abbrev Keeps : {X : Type 0} → X → Result X Cause → Type 0
Keeps x (Ok y) = y ≡ x
Keeps x (Err cause) = cause ≡ Number

keeps-then : {X Y : Type 0} (x : X) (y : Y) (r : Result X Cause) (f : X → Result Y Cause) → Keeps x r → Keeps y (f x) → Keeps y (r >>= f)
keeps-then x y (Ok z) f same kept = subst (λ w. Keeps y (f w)) (sym same) kept
keeps-then x y (Err cause) f same kept = same

number-keeps : (n : ℕ) → Keeps n (number_typed n)
number-keeps n = go (nat_lt n (2 ^ 32)) where
  go : (b : Bool) → Keeps n (unless b Number >> Ok n)
  go true = refl
  go false = refl

argument-keeps : (n : ℕ) → Keeps n (argument_typed n)
argument-keeps n = go (nat_lt n (2 ^ 64)) where
  go : (b : Bool) → Keeps n (unless b Number >> Ok n)
  go true = refl
  go false = refl

ticks-keep : (k : ℤ) → Keeps k (ticks_typed k)
ticks-keep k = go (is_i32 k) where
  go : (b : Bool) → Keeps k (unless b Number >> Ok k)
  go true = refl
  go false = refl

who-keeps : (w : Who) → Keeps w (who_typed w)
who-keeps (callout.Timer i) = keeps-then i (callout.Timer i) (number_typed i) _ (number-keeps i) refl
who-keeps callout.Me = refl

where-keeps : (p : Where) → Keeps p (where_typed p)
where-keeps cpu.Home = refl
where-keeps (cpu.Cpu c) = keeps-then c (cpu.Cpu c) (number_typed c) _ (number-keeps c) refl
where-keeps cpu.Here = refl

act-keeps : (a : Act) → Keeps a (act_typed a)
act-keeps (act.Now t) = refl
act-keeps (act.Lock l) = keeps-then l (act.Lock l) (number_typed l) _ (number-keeps l) refl
act-keeps (act.ReadLock l) = keeps-then l (act.ReadLock l) (number_typed l) _ (number-keeps l) refl
act-keeps act.Unlock = refl
act-keeps (act.Reset w f m a c p) = keeps-then w (act.Reset w f m a c p) (who_typed w) _ (who-keeps w)
    (keeps-then f (act.Reset w f m a c p) (number_typed f) _ (number-keeps f)
    (keeps-then a (act.Reset w f m a c p) (argument_typed a) _ (argument-keeps a)
    (keeps-then c (act.Reset w f m a c p) (where_typed c) _ (where-keeps c) refl)))
act-keeps (act.Ticks w k f a c) = keeps-then w (act.Ticks w k f a c) (who_typed w) _ (who-keeps w)
    (keeps-then k (act.Ticks w k f a c) (ticks_typed k) _ (ticks-keep k)
    (keeps-then f (act.Ticks w k f a c) (number_typed f) _ (number-keeps f)
    (keeps-then a (act.Ticks w k f a c) (argument_typed a) _ (argument-keeps a)
    (keeps-then c (act.Ticks w k f a c) (where_typed c) _ (where-keeps c) refl))))
act-keeps (act.Schedule w m c p) = keeps-then w (act.Schedule w m c p) (who_typed w) _ (who-keeps w)
    (keeps-then c (act.Schedule w m c p) (where_typed c) _ (where-keeps c) refl)
act-keeps (act.Stop w) = keeps-then w (act.Stop w) (who_typed w) _ (who-keeps w) refl
act-keeps (act.Drain i) = keeps-then i (act.Drain i) (number_typed i) _ (number-keeps i) refl
act-keeps (act.AsyncDrain w f) = keeps-then w (act.AsyncDrain w f) (who_typed w) _ (who-keeps w)
    (keeps-then f (act.AsyncDrain w f) (number_typed f) _ (number-keeps f) refl)
act-keeps (act.Active w) = keeps-then w (act.Active w) (who_typed w) _ (who-keeps w) refl
act-keeps (act.Pending w) = keeps-then w (act.Pending w) (who_typed w) _ (who-keeps w) refl
act-keeps (act.Deactivate w) = keeps-then w (act.Deactivate w) (who_typed w) _ (who-keeps w) refl
act-keeps (act.Init w) = keeps-then w (act.Init w) (who_typed w) _ (who-keeps w) refl
act-keeps (act.Retire w) = keeps-then w (act.Retire w) (who_typed w) _ (who-keeps w) refl
act-keeps (act.Tick t) = refl

kept : (r : Result Act Cause) (a b : Act) → r ≡ Ok b → Keeps a r → Ok a ≡ r
kept (Ok c) a b e same = ap (λ x. Ok x) (sym same)
kept (Err cause) a b e same = cc

-- an act that was read into its type is the act that the words say
typed_ok : (r : Result Act Cause) (a : Act) → typed r ≡ Ok a → r ≡ Ok a
typed_ok (Ok b) a e = kept (act_typed b) b a e (act-keeps b) ∙ e
typed_ok (Err cause) a e = cc

-- the same of what a function returned
pub typed_result : (result : Result (Unit {0}) Cause) (r : Result Act Cause) (a : Act) → Gives (λ _. a) result (typed r) → OnOk result (r ≡ Ok a)
typed_result (Ok x) r a e = typed_ok r a e
typed_result (Err cause) r a e = tt

refused : (r : Result Act Cause) (a : Act) (cause : Cause) → r ≡ Err cause → Keeps a r → cause ≡ Number
refused (Ok b) a cause e same = cc
refused (Err other) a cause e same = let is : other ≡ cause = cc in sym is ∙ same

-- what fits is held

small : (n m : ℕ) → m ≤ 65536 → nat_lt n m ≡ true → number_typed n ≡ Ok n
small n m few e = let below : nat_lt n (2 ^ 32) ≡ true = grind (arith, nat_tests) in ap (λ b. unless b Number >> Ok n) below

who-fits : (funcs : ℕ) (s : Script) (w : Who) → HasSmallNumbers s funcs → who_exists s w ≡ true → who_typed w ≡ Ok w
who-fits funcs s (callout.Timer i) h e = ap (λ r. r >>= λ n. Ok (callout.Timer n)) (small i (length s.timers) (omega (arith, h.timers)) e)
who-fits funcs s callout.Me h e = refl

where-fits : (funcs : ℕ) (s : Script) (p : Where) → HasSmallNumbers s funcs → cpu_exists s p ≡ true → where_typed p ≡ Ok p
where-fits funcs s cpu.Home h e = refl
where-fits funcs s (cpu.Cpu c) h e = ap (λ r. r >>= λ n. Ok (cpu.Cpu n)) (small c s.cpus (omega (arith, h.cpus)) e)
where-fits funcs s cpu.Here h e = refl

argument-fits : (a : ℕ) → nat_lt a (2 ^ 64) ≡ true → argument_typed a ≡ Ok a
argument-fits a e = ap (λ b. unless b Number >> Ok a) e

ticks-fit : (k : ℤ) → is_i32 k ≡ true → ticks_typed k ≡ Ok k
ticks-fit k e = ap (λ b. unless b Number >> Ok k) e

func-fits : (funcs : ℕ) (s : Script) (f : ℕ) → HasSmallNumbers s funcs → nat_lt f funcs ≡ true → number_typed f ≡ Ok f
func-fits funcs s f h e = small f funcs (omega (arith, h.funcs_fit)) e

lock-fits : (funcs : ℕ) (s : Script) (l : ℕ) → HasSmallNumbers s funcs → nat_lt l (length s.locks) ≡ true → number_typed l ≡ Ok l
lock-fits funcs s l h e = small l (length s.locks) (omega (arith, h.locks)) e

timer-fits : (funcs : ℕ) (s : Script) (i : ℕ) → HasSmallNumbers s funcs → nat_lt i (length s.timers) ≡ true → number_typed i ≡ Ok i
timer-fits funcs s i h e = small i (length s.timers) (omega (arith, h.timers)) e

fit-held : (funcs : ℕ) (s : Script) (a : Act) → HasSmallNumbers s funcs → act_fits funcs s a ≡ true → act_typed a ≡ Ok a
fit-held funcs s (act.Now t) h e = refl
fit-held funcs s (act.Lock l) h e = ap (λ r. r >>= λ n. Ok (act.Lock n)) (lock-fits funcs s l h e)
fit-held funcs s (act.ReadLock l) h e = ap (λ r. r >>= λ n. Ok (act.ReadLock n)) (lock-fits funcs s l h e)
fit-held funcs s act.Unlock h e = refl
fit-held funcs s (act.Reset w f m a c p) h e =
    let names = and_left (who_exists s w && cpu_exists s c) (nat_lt f funcs && nat_lt a (2 ^ 64)) e in
    let values = and_right (who_exists s w && cpu_exists s c) (nat_lt f funcs && nat_lt a (2 ^ 64)) e in
    rw (
      who-fits funcs s w h (and_left (who_exists s w) (cpu_exists s c) names),
      func-fits funcs s f h (and_left (nat_lt f funcs) (nat_lt a (2 ^ 64)) values),
      argument-fits a (and_right (nat_lt f funcs) (nat_lt a (2 ^ 64)) values),
      where-fits funcs s c h (and_right (who_exists s w) (cpu_exists s c) names),
    ) refl
fit-held funcs s (act.Ticks w k f a c) h e =
    let names = and_left (who_exists s w && cpu_exists s c) (is_i32 k && (nat_lt f funcs && nat_lt a (2 ^ 64))) e in
    let values = and_right (who_exists s w && cpu_exists s c) (is_i32 k && (nat_lt f funcs && nat_lt a (2 ^ 64))) e in
    let call = and_right (is_i32 k) (nat_lt f funcs && nat_lt a (2 ^ 64)) values in
    rw (
      who-fits funcs s w h (and_left (who_exists s w) (cpu_exists s c) names),
      ticks-fit k (and_left (is_i32 k) (nat_lt f funcs && nat_lt a (2 ^ 64)) values),
      func-fits funcs s f h (and_left (nat_lt f funcs) (nat_lt a (2 ^ 64)) call),
      argument-fits a (and_right (nat_lt f funcs) (nat_lt a (2 ^ 64)) call),
      where-fits funcs s c h (and_right (who_exists s w) (cpu_exists s c) names),
    ) refl
fit-held funcs s (act.Schedule w m c p) h e =
    let names = and_left (who_exists s w && cpu_exists s c) true e in
    rw (
      who-fits funcs s w h (and_left (who_exists s w) (cpu_exists s c) names),
      where-fits funcs s c h (and_right (who_exists s w) (cpu_exists s c) names),
    ) refl
fit-held funcs s (act.Stop w) h e = ap (λ r. r >>= λ x. Ok (act.Stop x)) (who-fits funcs s w h (and_left (who_exists s w) true e))
fit-held funcs s (act.Drain i) h e = ap (λ r. r >>= λ x. Ok (act.Drain x)) (timer-fits funcs s i h (and_left (nat_lt i (length s.timers)) true e))
fit-held funcs s (act.AsyncDrain w f) h e =
    rw (
      who-fits funcs s w h (and_left (who_exists s w) (nat_lt f funcs) e),
      func-fits funcs s f h (and_right (who_exists s w) (nat_lt f funcs) e),
    ) refl
fit-held funcs s (act.Active w) h e = ap (λ r. r >>= λ x. Ok (act.Active x)) (who-fits funcs s w h (and_left (who_exists s w) true e))
fit-held funcs s (act.Pending w) h e = ap (λ r. r >>= λ x. Ok (act.Pending x)) (who-fits funcs s w h (and_left (who_exists s w) true e))
fit-held funcs s (act.Deactivate w) h e = ap (λ r. r >>= λ x. Ok (act.Deactivate x)) (who-fits funcs s w h (and_left (who_exists s w) true e))
fit-held funcs s (act.Init w) h e = ap (λ r. r >>= λ x. Ok (act.Init x)) (who-fits funcs s w h (and_left (who_exists s w) true e))
fit-held funcs s (act.Retire w) h e = ap (λ r. r >>= λ x. Ok (act.Retire x)) (who-fits funcs s w h (and_left (who_exists s w) true e))
fit-held funcs s (act.Tick t) h e = refl

-- an act that its type doesn't hold is refused with `number`, and fits no script
pub record Unheld (funcs : ℕ) (s : Script) (a : Act) (cause : Cause) : Type 0 where
  pub is : cause ≡ Number
  pub fails : act_fits funcs s a ≡ false

pub typed-err : (funcs : ℕ) (s : Script) (a : Act) (cause : Cause) → HasSmallNumbers s funcs → act_typed a ≡ Err cause → Unheld funcs s a cause
typed-err funcs s a cause h e = record {
  is = refused (act_typed a) a cause e (act-keeps a);
  fails = go (act_fits funcs s a) refl;
} where
  go : (b : Bool) → act_fits funcs s a ≡ b → act_fits funcs s a ≡ false
  go false is = is
  go true is = let held : act_typed a ≡ Ok a = fit-held funcs s a h is in cc
