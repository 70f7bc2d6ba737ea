-- No line with words came before: the version that this one names begins the draft.
use Rattle.std.proofs.Common.{Ok, Some, ◌∷◌, ap, sym, ◌∙◌}
use Rattle.co_text.specs.Fallible.{◌>>=◌}
use Rattle.co_script.specs.Drafts.{Draft, first_draft}
use Rattle.co_script.specs.Reading.{line_of_words}
use Rattle.co_script.proofs.reader.begin.Goals as goal

pub returns : goal.returns
returns c =
    ap (λ draft. line_of_words draft (c.args.first.now ∷ c.args.words.now)) c.requires
    ∙ (ap (λ version. (version >>= λ v. Ok (first_draft v)) >>= λ d. Ok (Some d)) c.in_ok-version.ensures
    ∙ ap (λ (draft : Draft). Ok (Some draft)) (sym (c.insert.ensures.value ∙ c.opening.ensures)))
