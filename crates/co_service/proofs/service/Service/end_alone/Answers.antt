use Rattle.std.proofs.Common.{sym, subst}
use Rattle.co_desk.specs.declared.params.Params.{Params}
use Rattle.co_desk.specs.Ends.{finished_notes}
use Rattle.co_desk.specs.Views.{AreOf}
use Rattle.co_service.proofs.Lasting.{still_of}
use Rattle.co_service.proofs.Lasts.{ended_keeps}
use Rattle.co_service.proofs.WholeCall.{finished_leaves, finished_same}
use Rattle.co_service.proofs.service.Service.end_alone.Goals as goal

pub land_ended-requires-clause-passes : goal.land_ended-requires-clause-passes
land_ended-requires-clause-passes g c =
    let out = c.end_found_alone in
    let p = c.args.passes.now in
    let s = c.requires.serves in
    subst (λ (r : Params). AreOf g.N.Name.name r out.new.passes) (sym out.ensures.params)
    (still_of g.N.Name.name c.args.self.now p out.new.passes (finished_same c.args.direct p out.new.passes c.args.cpu c.args.act s.0 out.new.told out.new.gone (out.ensures.finished s.0 s.1)) c.requires.passes)

pub land_ended-requires-clause-leaving : goal.land_ended-requires-clause-leaving
land_ended-requires-clause-leaving g c =
    let out = c.end_found_alone in
    let s = c.requires.serves in
    finished_leaves c.args.direct c.args.passes.now out.new.passes c.args.cpu c.args.act s.0 out.new.told out.new.gone (out.ensures.finished s.0 s.1)

pub returns-clause-ended : goal.returns-clause-ended
returns-clause-ended g c = λ d is. c.land_ended.ensures c.args.direct c.args.passes.now c.args.cpu d (c.end_found_alone.ensures.finished d is)

pub returns-clause-kept : goal.returns-clause-kept
returns-clause-kept g c =
    let out = c.land_ended in
    let p = c.args.passes.now in
    let s = c.requires.serves in
    ended_keeps c.args.direct p out.new.passes c.args.cpu c.args.act s.0 out.new.told.out.reply (finished_notes p.actor c.args.act out.new.told)
    (out.ensures c.args.direct p c.args.cpu s.0 (c.end_found_alone.ensures.finished s.0 s.1)) g.N.Name.name c.args.self.now c.requires.passes s.1
