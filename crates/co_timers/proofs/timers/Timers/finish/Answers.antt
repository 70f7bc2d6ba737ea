-- The end is of the lane that had the arming in service.
use Rattle.std.proofs.Common.{Bool, subst, sym}
use Rattle.co_object.specs.Queue.{Due}
use Rattle.co_desk.specs.Call.{notes_in}
use Rattle.co_desk.specs.Services.{IsEnded, IsFree, IsServing}
use Rattle.co_desk.specs.Serving.{Runs}
use Rattle.co_timers.proofs.Kept.{handle_after}
use Rattle.co_timers.proofs.timers.Timers.finish.Goals as goal

pub end_direct-requires-clause-serves : goal.end_direct-requires-clause-serves
end_direct-requires-clause-serves g c =
    let mine : Due = record { i = c.args.i; n = c.args.n } in
    (mine, subst (λ (b : Bool). IsServing b c.args.passes.now c.args.cpu mine (Runs c.args.n)) c.in-true.is c.requires.serving)

pub end-requires-clause-serves : goal.end-requires-clause-serves
end-requires-clause-serves g c =
    let mine : Due = record { i = c.args.i; n = c.args.n } in
    (mine, subst (λ (b : Bool). IsServing b c.args.passes.now c.args.cpu mine (Runs c.args.n)) c.in-false.is c.requires.serving)

pub returns-in-true-clause-ended : goal.returns-in-true-clause-ended
returns-in-true-clause-ended g c =
    let mine : Due = record { i = c.args.i; n = c.args.n } in
    subst (λ (b : Bool). IsEnded b c.args.passes.now c.args.cpu c.args.act mine c.end_direct.result.reply (notes_in c.end_direct.result.notes) c.end_direct.new.passes) (sym c.in-true.is)
    (c.end_direct.ensures.ended mine (subst (λ (b : Bool). IsServing b c.args.passes.now c.args.cpu mine (Runs c.args.n)) c.in-true.is c.requires.serving))

pub returns-in-false-clause-ended : goal.returns-in-false-clause-ended
returns-in-false-clause-ended g c =
    let mine : Due = record { i = c.args.i; n = c.args.n } in
    subst (λ (b : Bool). IsEnded b c.args.passes.now c.args.cpu c.args.act mine c.end.result.reply (notes_in c.end.result.notes) c.end.new.passes) (sym c.in-false.is)
    (c.end.ensures.ended mine (subst (λ (b : Bool). IsServing b c.args.passes.now c.args.cpu mine (Runs c.args.n)) c.in-false.is c.requires.serving))

pub returns-in-true-clause-at_ease : goal.returns-in-true-clause-at_ease
returns-in-true-clause-at_ease g c =
    let mine : Due = record { i = c.args.i; n = c.args.n } in
    let serves = subst (λ (b : Bool). IsServing b c.args.passes.now c.args.cpu mine (Runs c.args.n)) c.in-true.is c.requires.serving in record {
      below = c.requires.below;
      handle = handle_after g.N.Name.name c.args.self.now.params c.args.passes.now c.end_direct.new.passes (notes_in c.end_direct.result.notes) c.requires.handle (c.end_direct.ensures.ended mine serves).written;
      free = subst (λ (b : Bool). IsFree b c.end_direct.new.passes c.args.cpu) (sym c.in-true.is) c.end_direct.ensures.kept.free;
    }

pub returns-in-false-clause-at_ease : goal.returns-in-false-clause-at_ease
returns-in-false-clause-at_ease g c =
    let mine : Due = record { i = c.args.i; n = c.args.n } in
    let serves = subst (λ (b : Bool). IsServing b c.args.passes.now c.args.cpu mine (Runs c.args.n)) c.in-false.is c.requires.serving in record {
      below = c.requires.below;
      handle = handle_after g.N.Name.name c.args.self.now.params c.args.passes.now c.end.new.passes (notes_in c.end.result.notes) c.requires.handle (c.end.ensures.ended mine serves).written;
      free = subst (λ (b : Bool). IsFree b c.end.new.passes c.args.cpu) (sym c.in-false.is) c.end.ensures.kept.free;
    }
