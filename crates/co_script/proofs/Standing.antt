-- What an act keeps that may stand in a section, and so each act of a section that fits.
use Rattle.std.proofs.Common.{◌≡◌, ℕ, zero, suc, Bool, true, not, ◌&&◌, ◌||◌, List, [], ◌∷◌, length}
use Rattle.std.specs.Prelude.{nat_le}
use Rattle.std.specs.List.{list_all, AllByRecursion}
use Rattle.std.proofs.lemmas.Bool.{and_parts, and_from}
use Rattle.co_program.specs.declared.Script.{Script}
use Rattle.co_program.specs.declared.Act.{Act}
use Rattle.co_program.specs.Actors.{acts_at}
use Rattle.co_program.specs.Scripts.{names_exist}
use Rattle.co_grammar.specs.declared.Kind.{Kind}
use Rattle.co_grammar.specs.Keywords.{is_func, may_act, verb_of_act}
use Rattle.co_grammar.specs.Checks.{values_fit, act_fits, act_kind_fits}
use Rattle.co_script.specs.Refusals.{most_acts}
use Rattle.co_script.specs.Fits.{is_of_version, has_times, act_stands, rises_after, section_fits}
use Rattle.co_program.specs.Calls.{names_me}

-- an act may stand in such a section, where this is how many functions there are
abbrev pub stands : ℕ → Script → Kind → Act → Bool
stands funcs s k a = may_act k (verb_of_act a) && (is_of_version s.version (verb_of_act a) && ((is_func k || not (names_me a)) && (has_times a && (act_fits funcs s a && act_kind_fits s a))))

pub record Standing (funcs : ℕ) (s : Script) (k : Kind) (a : Act) : Type 0 where
  pub verb : may_act k (verb_of_act a) ≡ true
  pub version : is_of_version s.version (verb_of_act a) ≡ true
  pub me : (is_func k || not (names_me a)) ≡ true
  pub times : has_times a ≡ true
  pub names : names_exist s a ≡ true
  pub values : values_fit funcs s a ≡ true
  pub kind : act_kind_fits s a ≡ true

pub standing : (funcs : ℕ) (s : Script) (k : Kind) (a : Act) → stands funcs s k a ≡ true → Standing funcs s k a
standing funcs s k a h =
    let verb = and_parts _ _ h in
    let version = and_parts _ _ verb.1 in
    let me = and_parts _ _ version.1 in
    let times = and_parts _ _ me.1 in
    let fits = and_parts _ _ times.1 in
    let names = and_parts _ _ fits.0 in
    record { verb = verb.0; version = version.0; me = me.0; times = times.0; names = names.0; values = names.1; kind = fits.1 }

pub stands-from : (funcs : ℕ) (s : Script) (k : Kind) (a : Act) → Standing funcs s k a → stands funcs s k a ≡ true
stands-from funcs s k a h =
    and_from _ _ h.verb (and_from _ _ h.version (and_from _ _ h.me (and_from _ _ h.times (and_from _ _ (and_from _ _ h.names h.values) h.kind))))

-- ---- the acts of a section

pub AllOf : {X : Type 0} (p : X → Bool) (P : X → Type 0) → ((x : X) → p x ≡ true → P x) → (xs : List X) → list_all p xs ≡ true → AllByRecursion P xs
AllOf p P step [] h = tt
AllOf p P step (x ∷ xs) h = let both = and_parts (p x) (list_all p xs) h in (step x both.0, AllOf p P step xs both.1)

-- what holds of each list of acts, and of none, holds of the list of any number
pub at-any : (P : List Act → Type 0) (p : List Act → Bool) → P [] → ((acts : List Act) → p acts ≡ true → P acts) → (lists : List (List Act)) → list_all p lists ≡ true → (i : ℕ) → P (acts_at lists i)
at-any P p none step [] h i = none
at-any P p none step (acts ∷ lists) h zero = step acts ((and_parts (p acts) (list_all p lists) h).0)
at-any P p none step (acts ∷ lists) h (suc i) = at-any P p none step lists ((and_parts (p acts) (list_all p lists) h).1) i

-- what an act keeps that stands, each act of each section keeps
pub each-act : (s : Script) (k : Kind) (P : Act → Type 0) → ((a : Act) → Standing (length s.funcs) s k a → P a) → (lists : List (List Act)) → list_all (section_fits s k) lists ≡ true → (i : ℕ) → AllByRecursion P (acts_at lists i)
each-act s k P step lists = at-any (AllByRecursion P) (section_fits s k) tt of_section lists where
  of_section : (acts : List Act) → section_fits s k acts ≡ true → AllByRecursion P acts
  of_section acts h =
      let outer = and_parts (nat_le (length acts) (most_acts (is_func k))) (list_all (act_stands s k) acts && rises_after 0 acts) h in
      let inner = and_parts (list_all (act_stands s k) acts) (rises_after 0 acts) outer.1 in
      AllOf (act_stands s k) P (λ a is. step a (standing (length s.funcs) s k a is)) acts inner.0
