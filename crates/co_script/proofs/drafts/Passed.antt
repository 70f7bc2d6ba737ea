-- A statement that is not refused passes its tests.
use Rattle.std.proofs.Common.{◌≡◌, Bool, true, false, refl}
use Rattle.std.specs.Prelude.{Ok}
use Rattle.co_text.specs.Fallible.{◌>>=◌, unless}
use Rattle.co_text.specs.declared.Cause.TheVariants as cause
use Rattle.co_program.specs.declared.Script.{Script}
use Rattle.co_grammar.specs.Statements.{Statement}
use Rattle.co_script.specs.Drafts.{Draft}
use Rattle.co_script.specs.Refusals.{numbers_fit, kinds_fit, times_rise, has_room, draft_with, draft_after}
use Rattle.co_script.proofs.LinesFold.{Passes}

pub passes-ok : (d : Draft) (s : Script) (say : Statement) (e : Draft) → draft_after d s say ≡ Ok e → Passes d s say × (draft_with d s say ≡ e)
passes-ok d s say e h = go (numbers_fit d.funcs s say) (kinds_fit s say) (times_rise d.clock say) (has_room d s say) refl refl refl refl h where
  go : (a b c r : Bool) → numbers_fit d.funcs s say ≡ a → kinds_fit s say ≡ b → times_rise d.clock say ≡ c → has_room d s say ≡ r
      → (unless a cause.Number >>= λ _. unless b cause.Kind >>= λ _. unless c cause.Falls >>= λ _. unless r cause.Many >>= λ _. Ok (draft_with d s say)) ≡ Ok e
      → Passes d s say × (draft_with d s say ≡ e)
  go true true true true n k t r h = (record { numbers = n; kinds = k; times = t; room = r }, cc)
  go true true true false n k t r h = cc
  go true true false x n k t r h = cc
  go true false y x n k t r h = cc
  go false z y x n k t r h = cc
