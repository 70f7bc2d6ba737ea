use Rattle.std.proofs.Common.{sym, subst}
use Rattle.co_desk.specs.declared.params.Params.{Params}
use Rattle.co_desk.specs.Asked.{IsStarted}
use Rattle.co_service.specs.Kept.{MayStart}
use Rattle.co_desk.specs.Services.{IsTaken, taken_of}
use Rattle.co_desk.specs.Views.{PassesView}
use Rattle.co_service.proofs.Lasts.{taken_keeps}
use Rattle.co_service.proofs.service.Service.pop_alone.Goals as goal

pub returns-in-Some-clause-kept : goal.returns-in-Some-clause-kept
returns-in-Some-clause-kept g c =
    let p = c.args.passes.now in
    taken_keeps c.args.direct p c.next_here.new.passes c.args.cpu c.args.act (taken_of c.args.direct p.actor c.args.act c.args.cpu c.in-Some.out) g.N.Name.name c.args.self.now c.requires.passes c.requires.free c.in-Some.ensures.asked.some.taken

pub returns-clause-kept : goal.returns-clause-kept
returns-clause-kept g c =
    let p = c.args.passes.now in
    taken_keeps c.args.direct p c.next_apart.new.passes c.args.cpu c.args.act (taken_of c.args.direct p.actor c.args.act c.args.cpu c.next_apart.result) g.N.Name.name c.args.self.now c.requires.passes c.requires.free
    (subst (λ (q : PassesView). IsTaken c.args.direct q c.args.cpu c.args.act (taken_of c.args.direct q.actor c.args.act c.args.cpu c.next_apart.result) c.next_apart.new.passes) c.in_default.ensures.asked.none c.next_apart.ensures.taken)

pub next_here-requires : goal.next_here-requires
next_here-requires g c = record { cpu_is = c.requires.cpu; passes = c.requires.passes; free = c.requires.free }

pub next_apart-requires : goal.next_apart-requires
next_apart-requires g c =
    subst (λ (t : Params × PassesView). MayStart g.N.Name.name t.0 c.args.direct t.1 c.args.cpu) (λ d. (sym c.in_default.ensures.params d, sym c.in_default.ensures.asked.none d))
    record { cpu_is = c.requires.cpu; passes = c.requires.passes; free = c.requires.free }

pub returns-in-Some-clause-started : goal.returns-in-Some-clause-started
returns-in-Some-clause-started g c = c.in-Some.ensures.asked.some

pub returns-clause-started : goal.returns-clause-started
returns-clause-started g c = subst (λ (p : PassesView). IsStarted c.args.direct p c.args.cpu c.args.act c.args.scans c.next_apart.result c.next_apart.new.passes) c.in_default.ensures.asked.none c.next_apart.ensures
