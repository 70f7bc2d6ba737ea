-- Of a script that fits, the functions that its acts name exist.
use Rattle.std.proofs.Common.{◌≡◌, ℕ, ◌^◌, true, List, length}
use Rattle.std.specs.Prelude.{nat_lt}
use Rattle.std.specs.List.{list_all}
use Rattle.std.proofs.lemmas.Bool.{and_parts, ltb-true}
use Rattle.co_program.specs.declared.Script.{Script}
use Rattle.co_program.specs.declared.Act.{Act}
use Rattle.co_program.specs.declared.Act.TheVariants as act
use Rattle.co_program.specs.Actors.{acts_at}
use Rattle.co_grammar.specs.declared.Kind.{Kind}
use Rattle.co_grammar.specs.declared.Kind.TheVariants as kind
use Rattle.co_grammar.specs.Checks.{values_fit, call_fits, is_i32}
use Rattle.co_script.specs.Fits.{fits, section_fits}
use Rattle.co_script.proofs.parts.Fitting.{Fitting, fitting}
use Rattle.co_script.proofs.Standing.{each-act}
use Rattle.co_program.specs.Names.{IsFunc, ActNamesFunc, ActsNameFuncs, FuncsExist}

module _ (s : Script) where
  called : (f a : ℕ) → call_fits (length s.funcs) f a ≡ true → IsFunc s f
  called f a h = ltb-true f (length s.funcs) ((and_parts (nat_lt f (length s.funcs)) (nat_lt a (2 ^ 64)) h).0)

  act_names : (a : Act) → values_fit (length s.funcs) s a ≡ true → ActNamesFunc s a
  act_names (act.Reset w f m a c p) h = called f a h
  act_names (act.Ticks w k f a c) h = called f a ((and_parts (is_i32 k) (call_fits (length s.funcs) f a) h).1)
  act_names (act.AsyncDrain w f) h = ltb-true f (length s.funcs) h
  act_names a h = tt

  sections_name : (k : Kind) (lists : List (List Act)) → list_all (section_fits s k) lists ≡ true → (i : ℕ) → ActsNameFuncs s (acts_at lists i)
  sections_name k = each-act s k (ActNamesFunc s) (λ a stands. act_names a stands.values)

pub funcs_exist : (s : Script) → fits s ≡ true → FuncsExist s
funcs_exist s h =
    let f : Fitting s = fitting s h in
    record { clients = sections_name s kind.Client s.clients f.clients; funcs = sections_name s kind.Func s.funcs f.funcs }
