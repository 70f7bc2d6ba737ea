-- What is said of an answered text of commands is said of the command that answers it.
use Rattle.std.proofs.Common.{◌≡◌, ℕ, List, Ok, Err, Result, IfOk, Option, sym, subst}
use Rattle.co_text.specs.Fallible.{GivesOrNoMemory, Refusal}
use Rattle.co_text.specs.declared.cause.ScriptFault.{ScriptFault}
use Rattle.co_text.specs.declared.cause.ScriptFault.TheVariants as fault
use Rattle.co_service.specs.Closing.{ClosingView}
use Rattle.co_top.specs.Headline.{GivesServed, IsBatchDone, IsRefused, Refuses, Serves}
use Rattle.co_top.specs.Outcomes.{IsOutcome}
use Rattle.co_top.specs.declared.command.Serving.{Serving}
use Rattle.co_top.specs.declared.served.Served.{Served}
use Rattle.co_top.specs.declared.status.Status.{Status}
use Rattle.co_top.specs.declared.status.Status.TheVariants.{Done, BadScript}
use Rattle.std.specs.List.{concat}

module _ (serving : Serving) (bytes : List ℕ) (meaning : Result (List ℕ) Refusal) (Ends : ClosingView → Type 0)
    (serves : (closing : ClosingView) (text : List ℕ) → IsBatchDone meaning (Ends closing) text → Serves serving bytes closing text)
    (refuses : (text : List ℕ) → IsRefused meaning text → Refuses serving bytes text) where
  gives : (out : Result (List ℕ × ClosingView) ScriptFault) (status : Status) (closing : Option ClosingView) (text : List ℕ) → GivesOrNoMemory (λ (o : List ℕ × ClosingView). o.0) out meaning → IfOk out (λ o. Ends o.1) →
      IsOutcome out status closing text → GivesServed serving bytes status closing text
  gives (Ok out) status closing text is ends found =
      subst (λ (x : Status). GivesServed serving bytes x closing text) (sym found.0)
      (subst (λ (x : Option ClosingView). GivesServed serving bytes Done x text) (sym found.1)
      (serves out.1 text (record { text_is = subst (λ (t : List ℕ). meaning ≡ Ok t) (sym found.2) is; ends = ends })))
  gives (Err (fault.Bad line cause)) status closing text is ends found =
      subst (λ (x : Status). GivesServed serving bytes x closing text) (sym found.0)
      (subst (λ (x : Option ClosingView). GivesServed serving bytes BadScript x text) (sym found.1)
      (refuses text (record { refusal = record { line = line; cause = cause }; refused = is; said = found.2 })))
  gives (Err fault.NoMemory) status closing text is ends found = absurd found

  pub batch_gives : {E : Type 0} (r : Result Served E) (out : Result (List ℕ × ClosingView) ScriptFault) → GivesOrNoMemory (λ (o : List ℕ × ClosingView). o.0) out meaning → IfOk out (λ o. Ends o.1) →
      IfOk r (λ served. IsOutcome out served.answer.status served.closing (concat served.answer.pieces)) → IfOk r (λ served. GivesServed serving bytes served.answer.status served.closing (concat served.answer.pieces))
  batch_gives (Ok served) out is ends found = gives out served.answer.status served.closing (concat served.answer.pieces) is ends found
  batch_gives (Err e) out is ends found = tt
