use Rattle.std.proofs.Common.{◌≡◌, ℕ, false, sym, ap, ◌∙◌}
use Rattle.std.specs.declared.option.Option.TheVariants.{Some}
use Rattle.co_lock.specs.Service.{hold_of}
use Rattle.co_object.specs.Queue.{Due}
use Rattle.co_desk.specs.Params.{spec_at}
use Rattle.co_desk.specs.Serving.{Waits}
use Rattle.service_cases.proofs.Stages.{same_due}
use Rattle.service_cases.proofs.tests.held.end_what_waits.Goals as goal

abbrev due : ℕ → Due
due n = record { i = 0; n = n }

pub begin-made-requires-clause-serves : goal.begin-made-requires-clause-serves
begin-made-requires-clause-serves g c = (due c.args.n, c.requires.serving)

pub begin-made-requires-clause-held : goal.begin-made-requires-clause-held
begin-made-requires-clause-held g c = λ d is.
    let here : d.i ≡ 0 = ap (λ (x : Due). x.i) (same_due false c.args.cpu.now 0 d (due c.args.n) (Waits d.n) (Waits c.args.n) is c.requires.serving) in
    ap (λ (k : ℕ). hold_of (spec_at c.args.service.now k).lock) here ∙ (ap hold_of c.requires.scene.lock ∙ ap Some (sym c.lock-hold.ensures))

pub finish-requires-clause-serving : goal.finish-requires-clause-serving
finish-requires-clause-serving g c = (due c.args.n, c.begin-made.ensures.kept.serving (due c.args.n) c.requires.serving)
