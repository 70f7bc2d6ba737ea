-- The passes are all actors', and the histories of the end are those that the lists show.
use Rattle.std.proofs.Common.{map, subst, sym, ◌∙◌}
use Rattle.std.proofs.lemmas.List.{length-map}
use Rattle.co_desk.specs.declared.params.Params.{Params}
use Rattle.co_service.specs.Closing.{AreAll, AreEnded, AreEndedCpus}
use Rattle.co_run.specs.Acting.{params_of}
use Rattle.co_run.proofs.merged.RunOfScript.{all_brought, ran_cpus, ran_timers, run_is}
use Rattle.co_run.proofs.runs.finish.Goals as goal

pub close-requires : goal.close-requires
close-requires g c =
    let lists = map g.B.Book.notes c.args.all.books in
    let count = length-map c.args.all.books g.B.Book.notes ∙ c.requires.count in
    subst (λ (p : Params). AreAll g.N.Name.name p c.args.all.passes) (sym c.requires.service)
    (all_brought c.args.script.now c.requires.script g.N.Name.name c.args.all.passes lists c.requires.over count)

pub returns-clause-run : goal.returns-clause-run
returns-clause-run g c =
    let s = c.args.script.now in
    let lists = map g.B.Book.notes c.args.all.books in
    let count = length-map c.args.all.books g.B.Book.notes ∙ c.requires.count in
    let timers : AreEnded (params_of s) c.args.all.passes c.close.result.timers = subst (λ (p : Params). AreEnded p c.args.all.passes c.close.result.timers) c.requires.service c.close.ensures.timers in
    let cpus : AreEndedCpus (params_of s) c.args.all.passes c.close.result.cpus = subst (λ (p : Params). AreEndedCpus p c.args.all.passes c.close.result.cpus) c.requires.service c.close.ensures.cpus in
    record {
      run = run_is s c.requires.script g.N.Name.name c.args.all.passes lists c.close.result.timers c.close.result.cpus c.requires.over count timers cpus;
      timers = ran_timers s c.requires.script g.N.Name.name c.args.all.passes lists c.close.result.timers c.close.result.cpus c.requires.over count timers cpus;
      cpus = ran_cpus s c.requires.script g.N.Name.name c.args.all.passes lists c.close.result.timers c.close.result.cpus c.requires.over count timers cpus;
    }
