-- The acts of a section, each where it may stand, and one more behind them.
use Rattle.std.proofs.Common.{◌≡◌, ℕ, Bool, true, ◌&&◌, List, [], ◌∷◌, ◌++◌, length, refl, arith}
use Rattle.std.specs.Prelude.{nat_le}
use Rattle.std.specs.List.{list_all}
use Rattle.std.proofs.lemmas.Bool.{and_from, le-leb}
use Rattle.co_object.proofs.Changes.{both_true}
use Rattle.co_program.specs.declared.Script.{Script}
use Rattle.co_program.specs.declared.Act.{Act}
use Rattle.co_grammar.specs.declared.Kind.{Kind}
use Rattle.co_grammar.specs.Keywords.{is_func}
use Rattle.co_grammar.specs.Checks.{act_rises}
use Rattle.co_script.specs.Drafts.{time_after}
use Rattle.co_script.specs.Refusals.{most_acts}
use Rattle.co_script.specs.Fits.{rises_after}
use Rattle.co_script.proofs.Standing.{stands}

abbrev pub section : ℕ → Script → Kind → List Act → Bool
section funcs s k acts = nat_le (length acts) (most_acts (is_func k)) && (list_all (stands funcs s k) acts && rises_after 0 acts)

pub empty-section : (funcs : ℕ) (s : Script) (k : Kind) → section funcs s k [] ≡ true
empty-section funcs s k = and_from (nat_le 0 (most_acts (is_func k))) true (le-leb 0 (most_acts (is_func k)) (omega arith)) refl

-- the time of the last `now` or `tick` of some acts
abbrev pub clock_after : ℕ → List Act → ℕ
clock_after t [] = t
clock_after t (a ∷ acts) = clock_after (time_after t a) acts

pub rises-more : (t : ℕ) (acts : List Act) (a : Act) → rises_after t acts ≡ true → act_rises (clock_after t acts) a ≡ true → rises_after t (acts ++ a ∷ []) ≡ true
rises-more t [] a h k = and_from (act_rises t a) true k refl
rises-more t (b ∷ acts) a h k =
    let both = both_true (act_rises t b) (rises_after (time_after t b) acts) h in
    and_from (act_rises t b) (rises_after (time_after t b) (acts ++ a ∷ [])) both.0 (rises-more (time_after t b) acts a both.1 k)

pub clock-more : (t : ℕ) (acts : List Act) (a : Act) → clock_after t (acts ++ a ∷ []) ≡ time_after (clock_after t acts) a
clock-more t [] a = refl
clock-more t (b ∷ acts) a = clock-more (time_after t b) acts a
