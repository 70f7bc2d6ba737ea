-- The operations on a callout are read exactly from the words that they are written by.
use Rattle.std.proofs.Common.{◌≡◌, ℕ, List, ◌++◌, refl}
use Rattle.std.specs.Prelude.{Option, Ok, codes}
use Rattle.co_object.specs.declared.PlainOp.TheVariants.{Reset, Schedule, Stop, AsyncDrain, Active, Pending, Deactivate, Init, Retire}
use Rattle.co_object.specs.declared.CallOp.TheVariants.{Plain, DrainTry}
use Rattle.co_object.specs.declared.RunOp.TheVariants.{Pick, Begin, End}
use Rattle.co_object.specs.declared.Op.{Op}
use Rattle.co_object.specs.declared.Op.TheVariants.{Call, Run}
use Rattle.co_program.specs.declared.Script.{Script}
use Rattle.co_text.specs.Values.{Word}
use Rattle.co_notes.proofs.PartSplits.{AreParts}
use Rattle.co_notes.specs.declared.reading.names.Names.{Names}
use Rattle.co_notes.specs.NoteTexts.{op_words}
use Rattle.co_notes.specs.NoteValues.{names_of, IsSmallScript}
use Rattle.co_notes.specs.NoteForms.{run_forms, op_forms, op_form}
use Rattle.co_notes.specs.NoteFits.{OpFits}
use Rattle.co_notes.proofs.Exact.{Exact, lit, one, two, made-back, tells-made, tells-nothing, EachTells, choice-told}
use Rattle.co_notes.proofs.ExactValues.{times, truths}
use Rattle.co_notes.proofs.ExactNames.{funcs, due_exact, target_exact, arming_exact, func_exact}

module _ (s : Script) (small : IsSmallScript s) where
  abbrev names : Names
  names = names_of s

  abbrev resets : (ℕ × ℕ) × ((ℕ × ℕ) × Option ℕ) → Op
  resets x = Call (Plain (Reset x.0.0 x.0.1 x.1.0.0 x.1.0.1 x.1.1))

  abbrev schedules : (ℕ × ℕ) × Option ℕ → Op
  schedules x = Call (Plain (Schedule x.0.0 x.0.1 x.1))

  abbrev picks : (ℕ × ℕ) × ℕ → Op
  picks x = Run (Pick x.0.0 x.0.1 x.1)

  op-tells : EachTells (OpFits s) op_words (op_forms names)
  unfolding op_forms run_forms
  op-tells = (
    tells-made (OpFits s) op_words (codes "reset") resets (two (due_exact s small) (two (func_exact s small) (target_exact s small))) (λ a h. ((h.0, h.1.0.1), record { exists = h.1.1; func = h.1.0.0 })) (λ a rest. refl),
    (
      tells-made (OpFits s) op_words (codes "schedule") schedules (two (due_exact s small) (target_exact s small)) (λ a h. (h.0, record { exists = h.1; func = tt })) (λ a rest. refl),
      (
        tells-nothing (OpFits s) op_words (codes "stop") (Call (Plain Stop)) (tt, record { exists = tt; func = tt }) (λ rest. refl),
        (
          tells-made (OpFits s) op_words (codes "adrain") (λ f. Call (Plain (AsyncDrain f))) (one (funcs s small)) (λ a h. (tt, record { exists = tt; func = h })) (λ a rest. refl),
          (
            tells-nothing (OpFits s) op_words (codes "active") (Call (Plain Active)) (tt, record { exists = tt; func = tt }) (λ rest. refl),
            (
              tells-nothing (OpFits s) op_words (codes "pending") (Call (Plain Pending)) (tt, record { exists = tt; func = tt }) (λ rest. refl),
              (
                tells-nothing (OpFits s) op_words (codes "deactivate") (Call (Plain Deactivate)) (tt, record { exists = tt; func = tt }) (λ rest. refl),
                (
                  tells-nothing (OpFits s) op_words (codes "init") (Call (Plain Init)) (tt, record { exists = tt; func = tt }) (λ rest. refl),
                  (
                    tells-nothing (OpFits s) op_words (codes "retire") (Call (Plain Retire)) (tt, record { exists = tt; func = tt }) (λ rest. refl),
                    (
                      tells-made (OpFits s) op_words (codes "drain") (λ took. Call (DrainTry took)) (one truths) (λ a h. (tt, record { exists = tt; func = tt })) (λ a rest. refl),
                      (
                        tells-made (OpFits s) op_words (codes "pick") picks (two (arming_exact s small) (one times)) (λ a h. ((h.0.0, h.1), record { exists = h.0.1; func = tt })) (λ a rest. refl),
                        (
                          tells-made (OpFits s) op_words (codes "begin") (λ x. Run (Begin x.0 x.1)) (arming_exact s small) (λ a h. (h.0, record { exists = h.1; func = tt })) (λ a rest. refl),
                          (
                            tells-made (OpFits s) op_words (codes "end") (λ x. Run (End x.0 x.1)) (arming_exact s small) (λ a h. (h.0, record { exists = h.1; func = tt })) (λ a rest. refl),
                            tt,
                          ),
                        ),
                      ),
                    ),
                  ),
                ),
              ),
            ),
          ),
        ),
      ),
    ),
  )

  op-back : (o : Op) (ws : List Word) → OpFits s o → op_form names (op_words o ++ ws) ≡ Ok (o, ws)
  unfolding op_forms run_forms
  op-back (Call (Plain (Reset due prec func arg cpu))) ws h = made-back resets (two (due_exact s small) (two (func_exact s small) (target_exact s small))) ((due, prec), ((func, arg), cpu)) ws (h.0.0, ((h.1.func, h.0.1), h.1.exists))
  op-back (Call (Plain (Schedule due prec cpu))) ws h = made-back schedules (two (due_exact s small) (target_exact s small)) ((due, prec), cpu) ws (h.0, h.1.exists)
  op-back (Call (Plain Stop)) ws h = refl
  op-back (Call (Plain (AsyncDrain func))) ws h = made-back (λ f. Call (Plain (AsyncDrain f))) (one (funcs s small)) func ws h.1.func
  op-back (Call (Plain Active)) ws h = refl
  op-back (Call (Plain Pending)) ws h = refl
  op-back (Call (Plain Deactivate)) ws h = refl
  op-back (Call (Plain Init)) ws h = refl
  op-back (Call (Plain Retire)) ws h = refl
  op-back (Call (DrainTry took)) ws h = made-back (λ b. Call (DrainTry b)) (one truths) took ws tt
  op-back (Run (Pick n cpu at)) ws h = made-back picks (two (arming_exact s small) (one times)) ((n, cpu), at) ws ((h.0.0, h.1.exists), h.0.1)
  op-back (Run (Begin n cpu)) ws h = made-back (λ x. Run (Begin x.0 x.1)) (arming_exact s small) (n, cpu) ws (h.0, h.1.exists)
  op-back (Run (End n cpu)) ws h = made-back (λ x. Run (End x.0 x.1)) (arming_exact s small) (n, cpu) ws (h.0, h.1.exists)

  op-ink : (o : Op) → OpFits s o → AreParts (op_words o)
  op-ink (Call (Plain (Reset due prec func arg cpu))) h = (lit (codes "reset") refl, (two (due_exact s small) (two (func_exact s small) (target_exact s small))).ink ((due, prec), ((func, arg), cpu)) (h.0.0, ((h.1.func, h.0.1), h.1.exists)))
  op-ink (Call (Plain (Schedule due prec cpu))) h = (lit (codes "schedule") refl, (two (due_exact s small) (target_exact s small)).ink ((due, prec), cpu) (h.0, h.1.exists))
  op-ink (Call (Plain Stop)) h = (lit (codes "stop") refl, tt)
  op-ink (Call (Plain (AsyncDrain func))) h = (lit (codes "adrain") refl, ((funcs s small).ink func h.1.func, tt))
  op-ink (Call (Plain Active)) h = (lit (codes "active") refl, tt)
  op-ink (Call (Plain Pending)) h = (lit (codes "pending") refl, tt)
  op-ink (Call (Plain Deactivate)) h = (lit (codes "deactivate") refl, tt)
  op-ink (Call (Plain Init)) h = (lit (codes "init") refl, tt)
  op-ink (Call (Plain Retire)) h = (lit (codes "retire") refl, tt)
  op-ink (Call (DrainTry took)) h = (lit (codes "drain") refl, (truths.ink took tt, tt))
  op-ink (Run (Pick n cpu at)) h = (lit (codes "pick") refl, (two (arming_exact s small) (one times)).ink ((n, cpu), at) ((h.0.0, h.1.exists), h.0.1))
  op-ink (Run (Begin n cpu)) h = (lit (codes "begin") refl, (arming_exact s small).ink (n, cpu) (h.0, h.1.exists))
  op-ink (Run (End n cpu)) h = (lit (codes "end") refl, (arming_exact s small).ink (n, cpu) (h.0, h.1.exists))

  pub op_exact : Exact (OpFits s) op_words (op_form names)
  op_exact = record { back = op-back; told = choice-told (OpFits s) op_words (op_forms names) op-tells; ink = op-ink }
