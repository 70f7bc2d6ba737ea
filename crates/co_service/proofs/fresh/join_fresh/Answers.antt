use Rattle.std.proofs.Common.{ℕ, refl, sym, subst}
use Rattle.co_service.specs.Booted.{AreBegun, AreLeft}
use Rattle.co_service.specs.Fresh.{AreNamed}
use Rattle.co_desk.specs.Name.{ServiceName}
use Rattle.co_desk.specs.Stories.{IsHistory, IsJournal}
use Rattle.co_service.proofs.fresh.join_fresh.Goals as goal

pub join_all-requires-clause-timers : goal.join_all-requires-clause-timers
join_all-requires-clause-timers c =
    subst (λ (t : ServiceName × ℕ). AreLeft c.args.params t.0.timers t.1 0 c.args.callouts.seats.items) (λ d. (sym c.new-places.ensures d, sym c.requires.actors d)) c.requires.callouts.left

pub join_all-requires-clause-cpus : goal.join_all-requires-clause-cpus
join_all-requires-clause-cpus c =
    subst (λ (t : ServiceName × ℕ). AreLeft c.args.params t.0.cpus t.1 0 c.args.cpus.seats.items) (λ d. (sym c.new-places.ensures d, sym c.requires.actors d)) c.requires.cpus.left

pub make_all_parts-requires-clause-timers : goal.make_all_parts-requires-clause-timers
make_all_parts-requires-clause-timers c = record {
  keepers_are = c.requires.callouts.keepers_are;
  begun = subst (λ (n : ServiceName). AreBegun IsHistory n.timers c.args.params c.args.callouts.keepers.items) (sym c.new-places.ensures) c.requires.callouts.begun;
}

pub make_all_parts-requires-clause-journals : goal.make_all_parts-requires-clause-journals
make_all_parts-requires-clause-journals c = record {
  keepers_are = c.requires.cpus.keepers_are;
  begun = subst (λ (n : ServiceName). AreBegun IsJournal n.cpus c.args.params c.args.cpus.keepers.items) (sym c.new-places.ensures) c.requires.cpus.begun;
}

pub join_all-requires-clause-named : goal.join_all-requires-clause-named
join_all-requires-clause-named c = subst (λ (n : ServiceName). AreNamed n c.args.params) (sym c.new-places.ensures) record { timers = c.requires.callouts.lives_are; cpus = c.requires.cpus.lives_are }

pub invariant_of-fresh : goal.invariant_of-fresh
invariant_of-fresh c = record {
  limits = c.requires.params;
  named = subst (λ (n : ServiceName). AreNamed n c.args.params) (sym c.new-places.ensures) record { timers = c.requires.callouts.lives_are; cpus = c.requires.cpus.lives_are };
  cpus = c.in_ok-all_parts.ensures;
}

pub returns : goal.returns
returns c = record {
  params_are = refl;
  passes_are = c.in_ok-passes.ensures;
  named = subst (λ (n : ServiceName). AreNamed n c.args.params) (sym c.new-places.ensures) record { timers = c.requires.callouts.lives_are; cpus = c.requires.cpus.lives_are };
}
