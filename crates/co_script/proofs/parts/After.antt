-- After the lines so far the script is the whole one without what comes later.
use Rattle.std.proofs.Common.{◌≡◌, ℕ, ◌<◌, ◌≤◌, Bool, true, false, not, ◌&&◌, ◌||◌, List, [], length, refl, ap, sym, ◌∙◌, arith}
use Rattle.std.specs.Prelude.{◌==◌, nat_lt}
use Rattle.std.specs.List.{list_all}
use Rattle.std.proofs.lemmas.Bool.{and_from, lt-ltb, eq-eqb}
use Rattle.std.proofs.lemmas.Bool.Decides.{nat_tests}
use Rattle.co_text.specs.Values.{Word}
use Rattle.co_text.proofs.LinesBack.{IsWord, is_ink}
use Rattle.co_lock.specs.declared.LockKind.{LockKind}
use Rattle.co_object.specs.declared.Spec.{Spec}
use Rattle.co_program.specs.declared.Script.{Script}
use Rattle.co_program.specs.declared.Act.{Act}
use Rattle.co_grammar.specs.declared.Kind.{Kind}
use Rattle.co_grammar.specs.declared.Kind.TheVariants as kind
use Rattle.co_grammar.specs.declared.Opener.TheVariants.{Frame}
use Rattle.co_grammar.specs.Keywords.{rank, is_single, is_section}
use Rattle.co_grammar.specs.Checks.{is_next_of}
use Rattle.co_script.specs.Drafts.{Draft, closed}
use Rattle.co_script.specs.Reading.{may_stand}
use Rattle.co_script.proofs.TurnLines.{version-kept}

-- the script so far, how many functions and acts there are, and the highest place that the last line's kind can have
pub record After (script : Script) (funcs count place : ℕ) (d : Draft) : Type 0 where
  pub script_is : closed d ≡ script
  pub funcs_are : d.funcs ≡ funcs
  pub count_is : d.count ≡ count
  pub stage : rank d.stage ≤ place

pub later-place : (script : Script) (funcs count m n : ℕ) (d : Draft) → m ≤ n → After script funcs count m d → After script funcs count n d
later-place script funcs count m n d le a = record { script_is = a.script_is; funcs_are = a.funcs_are; count_is = a.count_is; stage = omega (arith, a.stage, le) }

pub version-after : (script : Script) (funcs count place : ℕ) (d : Draft) → After script funcs count place d → d.script.version ≡ script.version
version-after script funcs count place d a = sym (version-kept d.stage d.script d.acts) ∙ ap (λ (s : Script). s.version) a.script_is

may-stand-by : (a b : ℕ) (single : Bool) → a ≤ b → single ≡ false → (nat_lt a b || ((a == b) && not single)) ≡ true
may-stand-by a b true le is = cc
may-stand-by a b false le is = grind (arith, nat_tests)

pub may-stand : (stage k : Kind) → rank stage ≤ rank k → is_single k ≡ false → may_stand stage (Frame k) ≡ true
may-stand stage k le is = may-stand-by (rank stage) (rank k) (is_single k) le is

pub outside : (stage : Kind) → rank stage ≤ 6 → is_section stage ≡ false
outside kind.Func h = absurd (omega (arith, h))
outside kind.Client h = absurd (omega (arith, h))
outside kind.Cpu h = absurd (omega (arith, h))
outside kind.Callout h = refl
outside kind.Hz h = refl
outside kind.Cpus h = refl
outside kind.Wheel h = refl
outside kind.Funcs h = refl
outside kind.Lock h = refl
outside kind.Timer h = refl
outside kind.Turns h = refl

pub next-of : (most n : ℕ) → n < most → is_next_of most n n ≡ true
next-of most n h = and_from (n == n) (nat_lt n most) (eq-eqb n n refl) (lt-ltb n most h)

pub letters : (w : Word) → 0 < length w → list_all is_ink w ≡ true → IsWord w
letters w some ink = record { some = some; ink = ink }

-- ---- scripts of which the later parts are to come

abbrev pub headed : Script → Script
headed s = record s { locks = []; timers = []; funcs = []; clients = []; ticks = []; turns = [] }

abbrev pub locked : Script → List LockKind → Script
locked s locks = record s { locks = locks; timers = []; funcs = []; clients = []; ticks = []; turns = [] }

abbrev pub timed : Script → List Spec → Script
timed s timers = record s { timers = timers; funcs = []; clients = []; ticks = []; turns = [] }

abbrev pub with_funcs : Script → List (List Act) → Script
with_funcs s funcs = record s { funcs = funcs; clients = []; ticks = []; turns = [] }

abbrev pub with_clients : Script → List (List Act) → Script
with_clients s clients = record s { clients = clients; ticks = []; turns = [] }

abbrev pub with_ticks : Script → List (List Act) → Script
with_ticks s ticks = record s { ticks = ticks; turns = [] }
