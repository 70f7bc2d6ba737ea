use Rattle.std.proofs.Common.{sym, subst}
use Rattle.co_desk.specs.Services.{IsFree, IsTaken, taken_of}
use Rattle.co_desk.specs.Views.{PassesView}
use Rattle.co_service.proofs.Lasts.{taken_keeps}
use Rattle.co_service.proofs.service.Service.pop.Goals as goal

pub next-requires-in-loop-clause-free : goal.next-requires-in-loop-clause-free
next-requires-in-loop-clause-free g c = subst (λ (p : PassesView). IsFree c.args.direct p c.args.cpu) (sym c.loop.invariant) c.requires.free

-- what was taken, by the passes before the wait
taken : (g : _) (c : goal.After-drop-iterator g) → IsTaken c.args.direct c.args.passes.now c.args.cpu c.args.act (taken_of c.args.direct c.args.passes.now.actor c.args.act c.args.cpu c.in-Some-next.out) c.next-in-loop.new.passes
taken g c = subst (λ (p : PassesView). IsTaken c.args.direct p c.args.cpu c.args.act (taken_of c.args.direct p.actor c.args.act c.args.cpu c.in-Some-next.out) c.next-in-loop.new.passes) c.loop.invariant c.in-Some-next.ensures.asked.some.taken

pub returns-in-Some-next-clause-started : goal.returns-in-Some-next-clause-started
returns-in-Some-next-clause-started g c = record { taken = taken g c; follows = c.in-Some-next.ensures.asked.some.follows }

pub returns-in-Some-next-clause-kept : goal.returns-in-Some-next-clause-kept
returns-in-Some-next-clause-kept g c =
    let p = c.args.passes.now in
    taken_keeps c.args.direct p c.next-in-loop.new.passes c.args.cpu c.args.act (taken_of c.args.direct p.actor c.args.act c.args.cpu c.in-Some-next.out) g.N.Name.name c.args.self.now c.requires.passes c.requires.free (taken g c)
