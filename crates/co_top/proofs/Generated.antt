-- Generated scripts run, and what is said of their walks.
use Rattle.std.proofs.Common.{◌≡◌, ℕ, List, Result, Ok, Err, IfOk, true, sym, ap, subst, ◌∙◌}
use Rattle.co_object.specs.declared.note.Note.{Note}
use Rattle.co_program.specs.declared.script.Script.{Script}
use Rattle.co_program.specs.Runs.{IsRunOf}
use Rattle.co_program.specs.Scripts.{IsScript}
use Rattle.co_script.specs.Fits.{fits}
use Rattle.co_script.proofs.Accepted.{fits-accepted}
use Rattle.co_world.specs.Walk.{IsWalk}
use Rattle.co_gen.specs.Generator.{generated}
use Rattle.co_gen.specs.Soak.{counts_of, soak_line}
use Rattle.co_gen.specs.declared.counts.Counts.{Counts}
use Rattle.co_gen.proofs.Fitting.{generated-fits}
use Rattle.co_top.specs.Headline.{IsSoakOf}

-- a generated script fits, and what fits is what the core runs
pub accepted : (seed : ℕ) (s : Script) → s ≡ generated seed → IsScript s
accepted seed s is = fits-accepted s (subst (λ (x : Script). fits x ≡ true) (sym is) (generated-fits seed))

-- the printed line is that of the walk
pub soaked : {E : Type 0} (seed : ℕ) (s : Script) (lists : List (List Note)) (counts : Counts) (r : Result (List ℕ) E) → s ≡ generated seed → IsWalk s lists → IsRunOf s lists →
    counts ≡ counts_of s lists → IfOk r (λ line. line ≡ soak_line seed counts) → IfOk r (IsSoakOf seed)
soaked seed s lists counts (Ok line) is walk run counted shown = record {
  lists = lists;
  walk = subst (λ (x : Script). IsWalk x lists) is walk;
  run = subst (λ (x : Script). IsRunOf x lists) is run;
  shown = shown ∙ ap (soak_line seed) (counted ∙ ap (λ (x : Script). counts_of x lists) is);
}
soaked seed s lists counts (Err e) is walk run counted shown = tt
