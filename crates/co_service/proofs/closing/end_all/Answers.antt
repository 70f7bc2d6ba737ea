use Rattle.std.proofs.Common.{◌≡◌, map, sym, ap, ◌∙◌, subst}
use Rattle.std.specs.List.{All}
use Rattle.std.proofs.lemmas.List.{length-map}
use Rattle.co_service.specs.Closing.{EndEach}
use Rattle.co_desk.specs.Kinds.{cpu_kind}
use Rattle.co_desk.specs.Lines.{made}
use Rattle.co_desk.specs.Name.{ServiceName}
use Rattle.co_desk.specs.Views.{PassesView}
use Rattle.co_service.proofs.closing.end_all.Goals as goal

pub returns : goal.returns
returns g c = record {
  name_is = c.of-name.ensures ∙ c.requires.places;
  timers_count = length-map c.end_places-timers.result made ∙ c.end_places-timers.ensures.count;
  timers = c.end_places-timers.ensures.ends;
  cpus_count = length-map c.end_places-cpus.result made ∙ c.end_places-cpus.ensures.count;
  cpus = subst (λ l. EndEach cpu_kind l (map made c.end_places-cpus.result)) c.end_places-timers.ensures.passes c.end_places-cpus.ensures.ends;
}

pub end_places-timers-requires-clause-may : goal.end_places-timers-requires-clause-may
end_places-timers-requires-clause-may g c = record {
  lives_are = c.into_lives-callouts.ensures.0 ∙ ap (λ (n : ServiceName). n.timers) c.requires.places;
  few = c.requires.few.0;
  empty = c.requires.timers.0;
  spare = c.requires.timers.1;
}

pub end_places-cpus-requires-clause-may : goal.end_places-cpus-requires-clause-may
end_places-cpus-requires-clause-may g c = record {
  lives_are = c.into_lives-callouts.ensures.1 ∙ ap (λ (n : ServiceName). n.cpus) c.requires.places;
  few = c.requires.few.1;
  empty = c.requires.cpus.0;
  spare = c.requires.cpus.1;
}

pub end_places-cpus-requires-clause-passes : goal.end_places-cpus-requires-clause-passes
end_places-cpus-requires-clause-passes g c = subst (All (λ (q : PassesView). q.name ≡ g.N.Name.name)) (sym c.end_places-timers.ensures.passes) c.requires.passes
