use Rattle.std.proofs.Common.{◌≡◌, sym, subst, arith}
use Rattle.co_wheel.specs.Next.{next_out}
use Rattle.co_desk.specs.Desk.{IsDesk}
use Rattle.co_desk.specs.Params.{actors_of}
use Rattle.co_desk.specs.Serving.{lane_actor}
use Rattle.co_desk.specs.Views.{PassesView}
use Rattle.co_desk.specs.Written.{AreTogether}
use Rattle.co_desk.specs.Books.{BooksView}
use Rattle.co_desk.proofs.MetDesk.{Meets, free_now, lane_here, meets_then}
use Rattle.co_desk.proofs.NextSection.{may_pick, next_desk, owes_pop}
use Rattle.co_desk.proofs.desk.Desk.next.Goals as goal

pub start-out-requires : goal.start-out-requires
start-out-requires g c =
    let met : Meets c.self.inside.wheel c.self.inside.books c.self.inside.scans c.args.cpu c.args.passes.now = record { desk = c.self.invariant; legal = c.meet.ensures.legal; shown = c.meet.ensures.shown; params = c.meet.ensures.params; here = (let n = c.cpu.ensures in let f = c.if-cpu.false in omega arith) } in
    free_now c.self.inside.wheel c.self.inside.books c.self.inside.scans c.args.cpu c.args.passes.now met c.args.direct c.requires.free

pub write_taken-requires-clause-may : goal.write_taken-requires-clause-may
write_taken-requires-clause-may g c =
    let met : Meets c.self.inside.wheel c.self.inside.books c.self.inside.scans c.args.cpu c.args.passes.now = record { desk = c.self.invariant; legal = c.meet.ensures.legal; shown = c.meet.ensures.shown; params = c.meet.ensures.params; here = (let n = c.cpu.ensures in let f = c.if-cpu.false in omega arith) } in
    let m = meets_then c.self.inside.wheel c.self.inside.books c.meet.new.self c.self.inside.scans c.args.cpu c.args.passes.now c.meet.new.passes met c.meet.ensures.kept c.meet.ensures.passes in
    let actor = lane_here c.self.inside.wheel c.meet.new.self c.self.inside.scans c.args.cpu c.meet.new.passes m c.args.direct (subst (λ (p : PassesView). p.actor ≡ lane_actor c.args.direct (actors_of p.params) c.args.cpu) (sym c.meet.ensures.passes) c.requires.free.actor) in
    may_pick c.self.inside.wheel c.start-out.new.self c.meet.new.self c.self.inside.scans c.args.direct c.meet.new.passes c.args.act m.desk m.legal actor (next_out c.start-out.result) c.start-out.ensures

pub invariant_of-self : goal.invariant_of-self
invariant_of-self g c =
    let met : Meets c.self.inside.wheel c.self.inside.books c.self.inside.scans c.args.cpu c.args.passes.now = record { desk = c.self.invariant; legal = c.meet.ensures.legal; shown = c.meet.ensures.shown; params = c.meet.ensures.params; here = (let n = c.cpu.ensures in let f = c.if-cpu.false in omega arith) } in
    let m = meets_then c.self.inside.wheel c.self.inside.books c.meet.new.self c.self.inside.scans c.args.cpu c.args.passes.now c.meet.new.passes met c.meet.ensures.kept c.meet.ensures.passes in
    let actor = lane_here c.self.inside.wheel c.meet.new.self c.self.inside.scans c.args.cpu c.meet.new.passes m c.args.direct (subst (λ (p : PassesView). p.actor ≡ lane_actor c.args.direct (actors_of p.params) c.args.cpu) (sym c.meet.ensures.passes) c.requires.free.actor) in
    subst (λ b. IsDesk c.start-out.new.self b c.self.inside.scans) (sym c.write_taken.ensures.books)
    (next_desk c.self.inside.wheel c.start-out.new.self c.meet.new.self c.self.inside.scans c.args.direct c.meet.new.passes c.args.act m.desk m.legal actor (next_out c.start-out.result) c.start-out.ensures)

pub write_taken-requires-clause-actor : goal.write_taken-requires-clause-actor
write_taken-requires-clause-actor g c =
    let met : Meets c.self.inside.wheel c.self.inside.books c.self.inside.scans c.args.cpu c.args.passes.now = record { desk = c.self.invariant; legal = c.meet.ensures.legal; shown = c.meet.ensures.shown; params = c.meet.ensures.params; here = (let n = c.cpu.ensures in let f = c.if-cpu.false in omega arith) } in
    let m = meets_then c.self.inside.wheel c.self.inside.books c.meet.new.self c.self.inside.scans c.args.cpu c.args.passes.now c.meet.new.passes met c.meet.ensures.kept c.meet.ensures.passes in
    let actor = lane_here c.self.inside.wheel c.meet.new.self c.self.inside.scans c.args.cpu c.meet.new.passes m c.args.direct (subst (λ (p : PassesView). p.actor ≡ lane_actor c.args.direct (actors_of p.params) c.args.cpu) (sym c.meet.ensures.passes) c.requires.free.actor) in
    actor

pub write_taken-requires-clause-owes : goal.write_taken-requires-clause-owes
write_taken-requires-clause-owes g c =
    let met : Meets c.self.inside.wheel c.self.inside.books c.self.inside.scans c.args.cpu c.args.passes.now = record { desk = c.self.invariant; legal = c.meet.ensures.legal; shown = c.meet.ensures.shown; params = c.meet.ensures.params; here = (let n = c.cpu.ensures in let f = c.if-cpu.false in omega arith) } in
    let m = meets_then c.self.inside.wheel c.self.inside.books c.meet.new.self c.self.inside.scans c.args.cpu c.args.passes.now c.meet.new.passes met c.meet.ensures.kept c.meet.ensures.passes in
    let actor = lane_here c.self.inside.wheel c.meet.new.self c.self.inside.scans c.args.cpu c.meet.new.passes m c.args.direct (subst (λ (p : PassesView). p.actor ≡ lane_actor c.args.direct (actors_of p.params) c.args.cpu) (sym c.meet.ensures.passes) c.requires.free.actor) in
    (c.start-out.new.self, owes_pop c.self.inside.wheel c.start-out.new.self c.meet.new.self c.self.inside.scans c.args.direct c.meet.new.passes c.args.act m.desk m.legal actor (next_out c.start-out.result) c.start-out.ensures)

pub write_taken-requires-clause-together : goal.write_taken-requires-clause-together
write_taken-requires-clause-together g c =
    let met = c.meet.ensures in
    subst (λ (t : PassesView × BooksView). AreTogether g.N.Name.name c.args.places.now t.0 t.1) (λ d. (sym met.passes d, sym met.kept d)) record { here = c.requires.service; params_are = met.params }
