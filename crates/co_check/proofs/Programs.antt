-- The actors, one after the other: each one's notes, and whether its program goes on.
use Rattle.std.proofs.Common.{◌≡◌, ℕ, suc, ◌+◌, ◌-◌, ◌<◌, ◌≤◌, ◌||◌, Bool, true, false, not, List, [], ◌∷◌, refl, ap, sym, ◌∙◌, arith}
use Rattle.std.specs.Prelude.{Option, Some, None}
use Rattle.std.specs.List.{list_any, range_with_len}
use Rattle.co_program.specs.declared.script.Script.{Script}
use Rattle.co_program.specs.Action.{action_for}
use Rattle.co_program.specs.Actors.{actor_count, all_actors}
use Rattle.co_program.specs.Cursor.{Cursor, start_of}
use Rattle.co_program.specs.Follows.{at_next_note}
use Rattle.co_report.specs.declared.line.Line.{Line}
use Rattle.co_check.specs.Asking.{is_nothing}
use Rattle.co_check.specs.Astray.{seen_lines, first_astray, cursor_after_lines, astray_of, is_unfinished, first_astray_of, or_later}
use Rattle.co_check.specs.Index.{AreActorSlots}
use Rattle.co_check.specs.Verdict.{unless_astray, verdict_at_end, verdict_by_programs}
use Rattle.co_check.specs.declared.verdict.Unfit.TheVariants.{Follows}
use Rattle.co_check.specs.declared.verdict.Verdict.TheVariants.{Not}
use Rattle.co_check.specs.Walked.{by_row}
use Rattle.co_check.proofs.ByActor.{row-by-actor}

-- the actors from this one on
abbrev pub from_actor : Script → ℕ → List ℕ
from_actor s a = range_with_len a (actor_count s - a)

from-next : (s : Script) (a : ℕ) → a < actor_count s → from_actor s a ≡ a ∷ from_actor s (a + 1)
from-next s a h = ap (range_with_len a) (one_less (actor_count s) a h) where
  one_less : (n k : ℕ) → k < n → n - k ≡ suc (n - (k + 1))
  one_less n k h = omega arith

from-none : (s : Script) (a : ℕ) → actor_count s ≤ a → from_actor s a ≡ []
from-none s a h = ap (range_with_len a) (nothing (actor_count s) a h) where
  nothing : (n k : ℕ) → n ≤ k → n - k ≡ 0
  nothing n k h = omega arith

-- what is kept from actor to actor
pub record AreDone (s : Script) (lines : List Line) (a : ℕ) (unfinished : Bool) : Type 0 where
  pub astray : first_astray_of (astray_of s lines) (all_actors s) ≡ first_astray_of (astray_of s lines) (from_actor s a)
  pub unfinished_so_far : list_any (is_unfinished s lines) (all_actors s) ≡ (unfinished || list_any (is_unfinished s lines) (from_actor s a))

module _ (s : Script) (lines : List Line) (a : ℕ) (row : List (Option ℕ)) (slots : AreActorSlots lines lines a row) where
  astray-is : (found : Option ℕ) → first_astray s a (start_of s a) (by_row (seen_lines s lines) row) ≡ found → astray_of s lines a ≡ found
  astray-is found h = ap (first_astray s a (start_of s a)) (sym (row-by-actor s lines a row slots)) ∙ h

  unfinished-is : (c : Cursor) (ended : Bool) → c ≡ cursor_after_lines s a (start_of s a) (by_row (seen_lines s lines) row) → ended ≡ is_nothing (action_for s a (at_next_note s a c)) → is_unfinished s lines a ≡ not ended
  unfinished-is c ended h e =
      ap (λ x. not (is_nothing (action_for s a (at_next_note s a x)))) (sym (h ∙ ap (cursor_after_lines s a (start_of s a)) (row-by-actor s lines a row slots))) ∙ ap not (sym e)

  -- the actor's notes are of its program
  pub one-done : (unfinished ended : Bool) (c : Cursor) → a < actor_count s → AreDone s lines a unfinished → first_astray s a (start_of s a) (by_row (seen_lines s lines) row) ≡ None
      → c ≡ cursor_after_lines s a (start_of s a) (by_row (seen_lines s lines) row) → ended ≡ is_nothing (action_for s a (at_next_note s a c)) → AreDone s lines (a + 1) (unfinished || not ended)
  one-done unfinished ended c below done none place e = record {
    astray = done.astray ∙ (ap (first_astray_of (astray_of s lines)) (from-next s a below) ∙ ap (λ o. or_later o (first_astray_of (astray_of s lines) (from_actor s (a + 1)))) (astray-is None none));
    unfinished_so_far =
        done.unfinished_so_far
        ∙ (ap (λ actors. unfinished || list_any (is_unfinished s lines) actors) (from-next s a below)
        ∙ (ap (λ b. unfinished || (b || list_any (is_unfinished s lines) (from_actor s (a + 1)))) (unfinished-is c ended place e)
        ∙ regroup unfinished (not ended) (list_any (is_unfinished s lines) (from_actor s (a + 1)))));
  }
    where
      regroup : (x y z : Bool) → (x || (y || z)) ≡ (x || y || z)
      regroup true y z = refl
      regroup false y z = refl

  -- one of them is not
  pub astray-found : (unfinished : Bool) (line end : ℕ) → a < actor_count s → AreDone s lines a unfinished → first_astray s a (start_of s a) (by_row (seen_lines s lines) row) ≡ Some line → verdict_by_programs s lines end ≡ Not line Follows
  astray-found unfinished line end below done h =
      ap (λ o. unless_astray o (verdict_at_end (list_any (is_unfinished s lines) (all_actors s)) end))
      (done.astray ∙ (ap (first_astray_of (astray_of s lines)) (from-next s a below) ∙ ap (λ o. or_later o (first_astray_of (astray_of s lines) (from_actor s (a + 1)))) (astray-is (Some line) h)))

-- all of them are
pub all-done : (s : Script) (lines : List Line) (a : ℕ) (unfinished : Bool) (end : ℕ) → actor_count s ≤ a → AreDone s lines a unfinished → verdict_at_end unfinished end ≡ verdict_by_programs s lines end
all-done s lines a unfinished end past done =
    sym (ap (λ o. unless_astray o (verdict_at_end (list_any (is_unfinished s lines) (all_actors s)) end)) (done.astray ∙ ap (first_astray_of (astray_of s lines)) (from-none s a past))
    ∙ ap (λ b. verdict_at_end b end) (done.unfinished_so_far ∙ (ap (λ actors. unfinished || list_any (is_unfinished s lines) actors) (from-none s a past) ∙ or_false unfinished))) where
      or_false : (b : Bool) → (b || false) ≡ b
      or_false true = refl
      or_false false = refl
