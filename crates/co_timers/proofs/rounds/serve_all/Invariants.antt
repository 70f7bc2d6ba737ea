use Rattle.std.proofs.Common.{◌≡◌}
use Rattle.co_timers.specs.Ports.{handle_of}
use Rattle.co_timers.specs.Rounds.{AreRounds, IsAtEase}
use Rattle.co_timers.proofs.rounds.serve_all.Given as goal

abbrev pub invariant-loop : goal.invariant-loop
invariant-loop g l = record {
  at_ease : IsAtEase g.N.Name.name l.timers.params l.direct l.cpu l.here.passes;
  needs : g.H.Handler.needs l.handler ≡ g.H.Handler.needs l.fn.handler;
  rounds : AreRounds (g.H.Handler.needs l.fn.handler) g.H.Handler.runs l.direct l.cpu l.act l.fn.handler (handle_of l.fn.lane) l.served l.handler (handle_of l.here);
}
