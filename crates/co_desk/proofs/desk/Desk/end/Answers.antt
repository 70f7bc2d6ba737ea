use Rattle.std.proofs.Common.{◌≡◌, ℕ, List, [], ◌∷◌, ◌++◌, refl, sym, ap, ◌∙◌, subst, arith, true≢false}
use Rattle.co_object.specs.declared.note.Entry.{Entry}
use Rattle.co_object.specs.declared.op.RunOp.TheVariants.{End}
use Rattle.co_object.specs.declared.queue.QOp.{QOp}
use Rattle.co_object.specs.declared.queue.QReply.TheVariants.{Freed}
use Rattle.co_object.specs.Journal.{reply_of, step}
use Rattle.co_object.specs.Queue.{Due}
use Rattle.co_desk.specs.Books.{BooksView, entries_at}
use Rattle.co_desk.specs.declared.finished.Finished.{Finished}
use Rattle.co_desk.specs.Desk.{IsDesk}
use Rattle.co_desk.specs.Ends.{IsFinished}
use Rattle.co_desk.specs.May.{MayHappen, queue_at_desk}
use Rattle.co_desk.specs.Moving.{IsOfService, MayDepart, moving_from, target_of}
use Rattle.co_desk.specs.Outcomes.{queue_entry_by}
use Rattle.co_desk.specs.Params.{directs}
use Rattle.co_desk.specs.Services.{next_due, next_number, run_entry}
use Rattle.co_desk.specs.Serving.{Runs}
use Rattle.co_desk.specs.Views.{PassesView}
use Rattle.co_desk.specs.Written.{AreHere, AreTogether}
use Rattle.co_desk.proofs.GroupWritten.{entry_same, still_together}
use Rattle.co_desk.proofs.EndSection.{ended_told, freed_desk, freed_may, freed_possible, freed_service, freed_target, may_end_here, may_write_end}
use Rattle.co_desk.proofs.MetDesk.{Meets, here_kept, served_after, serves_one, serves_some}
use Rattle.co_desk.proofs.ServiceSection.{IsServed, frees_actor}
use Rattle.co_desk.proofs.desk.Desk.end.Goals as goal

pub end_into-requires : goal.end_into-requires
end_into-requires g c =
    let met : Meets c.self.inside.wheel c.self.inside.books c.self.inside.scans c.args.cpu c.args.passes.now = record { desk = c.self.invariant; legal = c.meet.ensures.legal; shown = c.meet.ensures.shown; params = c.meet.ensures.params; here = (let n = c.cpu.ensures in let f = c.if-cpu.false in omega arith) } in
    let e : Due = record { i = c.in-Some.i; n = c.in-Some.n } in
    let s : (H : List Entry) × IsServed c.args.direct c.self.inside.wheel c.meet_timer.new.self c.self.inside.scans c.meet_timer.new.passes e (Runs c.in-Some.n) H = served_after c.args.direct c.self.inside.wheel c.self.inside.books c.meet.new.self c.meet_timer.new.self c.self.inside.scans c.args.cpu c.args.passes.now c.meet.new.passes c.meet_timer.new.passes c.requires.serves.0 e (λ n. Runs n) met c.meet.ensures.kept c.meet.ensures.passes c.meet_timer.ensures.kept c.meet_timer.ensures.passes c.requires.serves.1 c.in-Some.ensures.which (here_kept c.self.inside.wheel c.self.inside.books c.meet.new.self c.self.inside.scans c.in-Some.i c.self.invariant c.meet.ensures.kept c.in-Some.ensures.here) c.meet_timer.ensures.legal c.meet_timer.ensures.shown in
    may_end_here c.args.direct c.self.inside.wheel c.self.inside.wheel c.meet_timer.new.self c.self.inside.scans c.meet_timer.new.passes c.args.act e s.0 s.1

pub enter_run-entry-requires-clause-may : goal.enter_run-entry-requires-clause-may
enter_run-entry-requires-clause-may g c =
    let met : Meets c.self.inside.wheel c.self.inside.books c.self.inside.scans c.args.cpu c.args.passes.now = record { desk = c.self.invariant; legal = c.meet.ensures.legal; shown = c.meet.ensures.shown; params = c.meet.ensures.params; here = (let n = c.cpu.ensures in let f = c.if-cpu.false in omega arith) } in
    let here : c.meet_timer.new.self.cpu ≡ c.args.cpu = (let k = ap (λ (b : BooksView). b.cpu) c.meet.ensures.kept in let m = ap (λ (b : BooksView). b.cpu) c.meet_timer.ensures.kept in let n = c.cpu.ensures in let f = c.if-cpu.false in omega arith) in
    let e : Due = record { i = c.in-Some.i; n = c.in-Some.n } in
    let s : (H : List Entry) × IsServed c.args.direct c.self.inside.wheel c.meet_timer.new.self c.self.inside.scans c.meet_timer.new.passes e (Runs c.in-Some.n) H = served_after c.args.direct c.self.inside.wheel c.self.inside.books c.meet.new.self c.meet_timer.new.self c.self.inside.scans c.args.cpu c.args.passes.now c.meet.new.passes c.meet_timer.new.passes c.requires.serves.0 e (λ n. Runs n) met c.meet.ensures.kept c.meet.ensures.passes c.meet_timer.ensures.kept c.meet_timer.ensures.passes c.requires.serves.1 c.in-Some.ensures.which (here_kept c.self.inside.wheel c.self.inside.books c.meet.new.self c.self.inside.scans c.in-Some.i c.self.invariant c.meet.ensures.kept c.in-Some.ensures.here) c.meet_timer.ensures.legal c.meet_timer.ensures.shown in
    subst (λ (k : ℕ). MayHappen c.meet_timer.new.self e.i (run_entry c.meet_timer.new.passes c.args.act (End e.n k) c.end_into.new.out.reply)) here
    (may_write_end c.args.direct c.self.inside.wheel c.end_into.new.self c.meet_timer.new.self c.self.inside.scans c.meet_timer.new.passes c.args.act e s.0 s.1 c.end_into.new.out c.end_into.ensures)

pub write_turn-freed-requires-clause-actor : goal.write_turn-freed-requires-clause-actor
write_turn-freed-requires-clause-actor g c =
    let met : Meets c.self.inside.wheel c.self.inside.books c.self.inside.scans c.args.cpu c.args.passes.now = record { desk = c.self.invariant; legal = c.meet.ensures.legal; shown = c.meet.ensures.shown; params = c.meet.ensures.params; here = (let n = c.cpu.ensures in let f = c.if-cpu.false in omega arith) } in
    let e : Due = record { i = c.in-Some.i; n = c.in-Some.n } in
    let s : (H : List Entry) × IsServed c.args.direct c.self.inside.wheel c.meet_timer.new.self c.self.inside.scans c.meet_timer.new.passes e (Runs c.in-Some.n) H = served_after c.args.direct c.self.inside.wheel c.self.inside.books c.meet.new.self c.meet_timer.new.self c.self.inside.scans c.args.cpu c.args.passes.now c.meet.new.passes c.meet_timer.new.passes c.requires.serves.0 e (λ n. Runs n) met c.meet.ensures.kept c.meet.ensures.passes c.meet_timer.ensures.kept c.meet_timer.ensures.passes c.requires.serves.1 c.in-Some.ensures.which (here_kept c.self.inside.wheel c.self.inside.books c.meet.new.self c.self.inside.scans c.in-Some.i c.self.invariant c.meet.ensures.kept c.in-Some.ensures.here) c.meet_timer.ensures.legal c.meet_timer.ensures.shown in
    frees_actor c.args.direct c.self.inside.wheel c.meet_timer.new.self c.self.inside.scans c.meet_timer.new.passes e (Runs c.in-Some.n) s.0 s.1 c.enter_run-entry.new.books c.enter_run-entry.new.passes.actor c.free.result
    (ap (λ (b : BooksView). b.params) c.enter_run-entry.ensures.books) (ap (λ (b : BooksView). b.cpu) c.enter_run-entry.ensures.books) (ap (λ (v : PassesView). v.actor) c.enter_run-entry.ensures.written.passes) c.free.ensures

pub write_turn-freed-requires-clause-possible : goal.write_turn-freed-requires-clause-possible
write_turn-freed-requires-clause-possible g c =
    let met : Meets c.self.inside.wheel c.self.inside.books c.self.inside.scans c.args.cpu c.args.passes.now = record { desk = c.self.invariant; legal = c.meet.ensures.legal; shown = c.meet.ensures.shown; params = c.meet.ensures.params; here = (let n = c.cpu.ensures in let f = c.if-cpu.false in omega arith) } in
    let here : c.meet_timer.new.self.cpu ≡ c.args.cpu = (let k = ap (λ (b : BooksView). b.cpu) c.meet.ensures.kept in let m = ap (λ (b : BooksView). b.cpu) c.meet_timer.ensures.kept in let n = c.cpu.ensures in let f = c.if-cpu.false in omega arith) in
    let e : Due = record { i = c.in-Some.i; n = c.in-Some.n } in
    let s : (H : List Entry) × IsServed c.args.direct c.self.inside.wheel c.meet_timer.new.self c.self.inside.scans c.meet_timer.new.passes e (Runs c.in-Some.n) H = served_after c.args.direct c.self.inside.wheel c.self.inside.books c.meet.new.self c.meet_timer.new.self c.self.inside.scans c.args.cpu c.args.passes.now c.meet.new.passes c.meet_timer.new.passes c.requires.serves.0 e (λ n. Runs n) met c.meet.ensures.kept c.meet.ensures.passes c.meet_timer.ensures.kept c.meet_timer.ensures.passes c.requires.serves.1 c.in-Some.ensures.which (here_kept c.self.inside.wheel c.self.inside.books c.meet.new.self c.self.inside.scans c.in-Some.i c.self.invariant c.meet.ensures.kept c.in-Some.ensures.here) c.meet_timer.ensures.legal c.meet_timer.ensures.shown in
    ap (λ (o : QOp). reply_of (step c.enter_run-entry.new.books.params.buckets (directs c.enter_run-entry.new.books.params) (queue_at_desk c.enter_run-entry.new.books) o)) c.free.ensures
    ∙ freed_possible c.args.direct c.self.inside.wheel c.end_into.new.self c.meet_timer.new.self c.self.inside.scans c.meet_timer.new.passes c.args.act e s.0 s.1 c.end_into.new.out c.end_into.ensures c.args.cpu here c.enter_run-entry.new.books c.enter_run-entry.ensures.books

pub depart-requires-clause-may : goal.depart-requires-clause-may
depart-requires-clause-may g c =
    let met : Meets c.self.inside.wheel c.self.inside.books c.self.inside.scans c.args.cpu c.args.passes.now = record { desk = c.self.invariant; legal = c.meet.ensures.legal; shown = c.meet.ensures.shown; params = c.meet.ensures.params; here = (let n = c.cpu.ensures in let f = c.if-cpu.false in omega arith) } in
    let here : c.meet_timer.new.self.cpu ≡ c.args.cpu = (let k = ap (λ (b : BooksView). b.cpu) c.meet.ensures.kept in let m = ap (λ (b : BooksView). b.cpu) c.meet_timer.ensures.kept in let n = c.cpu.ensures in let f = c.if-cpu.false in omega arith) in
    let e : Due = record { i = c.in-Some.i; n = c.in-Some.n } in
    let s : (H : List Entry) × IsServed c.args.direct c.self.inside.wheel c.meet_timer.new.self c.self.inside.scans c.meet_timer.new.passes e (Runs c.in-Some.n) H = served_after c.args.direct c.self.inside.wheel c.self.inside.books c.meet.new.self c.meet_timer.new.self c.self.inside.scans c.args.cpu c.args.passes.now c.meet.new.passes c.meet_timer.new.passes c.requires.serves.0 e (λ n. Runs n) met c.meet.ensures.kept c.meet.ensures.passes c.meet_timer.ensures.kept c.meet_timer.ensures.passes c.requires.serves.1 c.in-Some.ensures.which (here_kept c.self.inside.wheel c.self.inside.books c.meet.new.self c.self.inside.scans c.in-Some.i c.self.invariant c.meet.ensures.kept c.in-Some.ensures.here) c.meet_timer.ensures.legal c.meet_timer.ensures.shown in
    subst (λ (t : ℕ × ℕ). MayDepart c.write_turn-freed.new.books t.0 t.1 c.end_into.new.out.leaves) (λ k. (sym c.waited-next.ensures.number k, sym c.waited-next.ensures.due k))
    (freed_may c.args.direct c.self.inside.wheel c.end_into.new.self c.meet_timer.new.self c.self.inside.scans c.meet_timer.new.passes c.args.act e s.0 s.1 c.end_into.new.out c.end_into.ensures c.args.cpu here c.enter_run-entry.new.books c.enter_run-entry.ensures.books (queue_entry_by c.enter_run-entry.new.passes c.args.act c.free.result Freed) c.free.ensures refl c.write_turn-freed.new.books c.write_turn-freed.ensures.books)

pub invariant_of-self : goal.invariant_of-self
invariant_of-self g c =
    let met : Meets c.self.inside.wheel c.self.inside.books c.self.inside.scans c.args.cpu c.args.passes.now = record { desk = c.self.invariant; legal = c.meet.ensures.legal; shown = c.meet.ensures.shown; params = c.meet.ensures.params; here = (let n = c.cpu.ensures in let f = c.if-cpu.false in omega arith) } in
    let here : c.meet_timer.new.self.cpu ≡ c.args.cpu = (let k = ap (λ (b : BooksView). b.cpu) c.meet.ensures.kept in let m = ap (λ (b : BooksView). b.cpu) c.meet_timer.ensures.kept in let n = c.cpu.ensures in let f = c.if-cpu.false in omega arith) in
    let e : Due = record { i = c.in-Some.i; n = c.in-Some.n } in
    let s : (H : List Entry) × IsServed c.args.direct c.self.inside.wheel c.meet_timer.new.self c.self.inside.scans c.meet_timer.new.passes e (Runs c.in-Some.n) H = served_after c.args.direct c.self.inside.wheel c.self.inside.books c.meet.new.self c.meet_timer.new.self c.self.inside.scans c.args.cpu c.args.passes.now c.meet.new.passes c.meet_timer.new.passes c.requires.serves.0 e (λ n. Runs n) met c.meet.ensures.kept c.meet.ensures.passes c.meet_timer.ensures.kept c.meet_timer.ensures.passes c.requires.serves.1 c.in-Some.ensures.which (here_kept c.self.inside.wheel c.self.inside.books c.meet.new.self c.self.inside.scans c.in-Some.i c.self.invariant c.meet.ensures.kept c.in-Some.ensures.here) c.meet_timer.ensures.legal c.meet_timer.ensures.shown in
    subst (λ b. IsDesk c.end_into.new.self b c.self.inside.scans) (sym c.depart.ensures.books)
    (freed_desk c.args.direct c.self.inside.wheel c.end_into.new.self c.meet_timer.new.self c.self.inside.scans c.meet_timer.new.passes c.args.act e s.0 s.1 c.end_into.new.out c.end_into.ensures c.args.cpu here c.enter_run-entry.new.books c.enter_run-entry.ensures.books (queue_entry_by c.enter_run-entry.new.passes c.args.act c.free.result Freed) c.free.ensures refl c.write_turn-freed.new.books c.write_turn-freed.ensures.books)

pub returns : goal.returns
returns g c = record {
  tried = record {
    none = λ no. absurd (true≢false no);
    some = λ _ d is.
        let met : Meets c.self.inside.wheel c.self.inside.books c.self.inside.scans c.args.cpu c.args.passes.now = record { desk = c.self.invariant; legal = c.meet.ensures.legal; shown = c.meet.ensures.shown; params = c.meet.ensures.params; here = (let n = c.cpu.ensures in let f = c.if-cpu.false in omega arith) } in
        let here : c.meet_timer.new.self.cpu ≡ c.args.cpu = (let k = ap (λ (b : BooksView). b.cpu) c.meet.ensures.kept in let m = ap (λ (b : BooksView). b.cpu) c.meet_timer.ensures.kept in let n = c.cpu.ensures in let f = c.if-cpu.false in omega arith) in
        let e : Due = record { i = c.in-Some.i; n = c.in-Some.n } in
        let s : (H : List Entry) × IsServed c.args.direct c.self.inside.wheel c.meet_timer.new.self c.self.inside.scans c.meet_timer.new.passes e (Runs c.in-Some.n) H = served_after c.args.direct c.self.inside.wheel c.self.inside.books c.meet.new.self c.meet_timer.new.self c.self.inside.scans c.args.cpu c.args.passes.now c.meet.new.passes c.meet_timer.new.passes c.requires.serves.0 e (λ n. Runs n) met c.meet.ensures.kept c.meet.ensures.passes c.meet_timer.ensures.kept c.meet_timer.ensures.passes c.requires.serves.1 c.in-Some.ensures.which (here_kept c.self.inside.wheel c.self.inside.books c.meet.new.self c.self.inside.scans c.in-Some.i c.self.invariant c.meet.ensures.kept c.in-Some.ensures.here) c.meet_timer.ensures.legal c.meet_timer.ensures.shown in
        let one : e ≡ d = serves_one c.self.inside.wheel c.self.inside.books c.self.inside.scans c.args.cpu c.args.passes.now met c.args.direct d e (Runs d.n) is c.in-Some.ensures.which in
        let same : c.meet_timer.new.passes ≡ c.args.passes.now = c.meet_timer.ensures.passes ∙ c.meet.ensures.passes in
        let moves : c.depart.new.gone ≡ moving_from c.write_turn-freed.new.books (next_number c.end_into.new.out.reply) (next_due c.end_into.new.out.reply) c.end_into.new.out.leaves = c.depart.ensures.moving ∙ (λ k. moving_from c.write_turn-freed.new.books (c.waited-next.ensures.number k) (c.waited-next.ensures.due k) c.end_into.new.out.leaves) in
        let books : c.enter_run-entry.new.books.cpu ≡ c.args.cpu = ap (λ (b : BooksView). b.cpu) c.enter_run-entry.ensures.books ∙ here in
        let acted : c.enter_run-entry.new.passes.actor ≡ c.meet_timer.new.passes.actor = ap (λ (p : PassesView). p.actor) c.enter_run-entry.ensures.written.passes in
        let left : IsOfService c.meet_timer.new.passes.params e.i (moving_from c.write_turn-freed.new.books (next_number c.end_into.new.out.reply) (next_due c.end_into.new.out.reply) c.end_into.new.out.leaves) = freed_service c.args.direct c.self.inside.wheel c.end_into.new.self c.meet_timer.new.self c.self.inside.scans c.meet_timer.new.passes c.args.act e s.0 s.1 c.end_into.new.out c.end_into.ensures c.args.cpu here c.enter_run-entry.new.books c.enter_run-entry.ensures.books (queue_entry_by c.enter_run-entry.new.passes c.args.act c.free.result Freed) c.free.ensures refl c.write_turn-freed.new.books c.write_turn-freed.ensures.books in
        subst (λ (f : Finished). IsFinished c.args.direct c.args.passes.now c.args.cpu c.args.act d f c.depart.new.gone c.write_turn-freed.new.passes) (sym c.tell.ensures)
        (ended_told c.args.direct c.args.passes.now c.meet_timer.new.passes c.enter_run-entry.new.passes c.write_turn-freed.new.passes c.args.cpu c.enter_run-entry.new.books.cpu c.args.act d e (record c.end_into.new.out { leaves = c.depart.new.leaves }) c.depart.new.gone c.enter_run-entry.result c.write_turn-freed.result
        (entries_at c.meet_timer.new.self e.i ++ run_entry c.meet_timer.new.passes c.args.act (End e.n c.args.cpu) c.end_into.new.out.reply ∷ []) c.write_turn-freed.new.books.journal same one
        (ap target_of moves ∙ freed_target c.args.direct c.self.inside.wheel c.end_into.new.self c.meet_timer.new.self c.self.inside.scans c.meet_timer.new.passes c.args.act e s.0 s.1 c.end_into.new.out c.end_into.ensures c.args.cpu here c.enter_run-entry.new.books c.enter_run-entry.ensures.books (queue_entry_by c.enter_run-entry.new.passes c.args.act c.free.result Freed) c.free.ensures refl c.write_turn-freed.new.books c.write_turn-freed.ensures.books)
        (subst (IsOfService c.meet_timer.new.passes.params e.i) (sym moves) left)
        c.enter_run-entry.ensures.written c.free.result c.free.ensures books acted c.write_turn-freed.ensures.written);
  };
  why = λ no. absurd (true≢false no);
}

pub unreachable-requires : goal.unreachable-requires
unreachable-requires g c =
    let met : Meets c.self.inside.wheel c.self.inside.books c.self.inside.scans c.args.cpu c.args.passes.now = record { desk = c.self.invariant; legal = c.meet.ensures.legal; shown = c.meet.ensures.shown; params = c.meet.ensures.params; here = (let n = c.cpu.ensures in let f = c.if-cpu.false in omega arith) } in
    serves_some c.self.inside.wheel c.self.inside.books c.self.inside.scans c.args.cpu c.args.passes.now met c.args.direct c.requires.serves.0 (Runs c.requires.serves.0.n) c.requires.serves.1 c.in_default.ensures.which

pub meet_timer-requires-clause-service : goal.meet_timer-requires-clause-service
meet_timer-requires-clause-service g c = subst (AreHere g.N.Name.name c.args.places.now) (sym c.meet.ensures.passes) c.requires.service

pub meet_timer-requires-clause-here : goal.meet_timer-requires-clause-here
meet_timer-requires-clause-here g c = here_kept c.self.inside.wheel c.self.inside.books c.meet.new.self c.self.inside.scans c.in-Some.i c.self.invariant c.meet.ensures.kept c.in-Some.ensures.here

pub enter_run-entry-requires-clause-together : goal.enter_run-entry-requires-clause-together
enter_run-entry-requires-clause-together g c =
    let passes = c.meet_timer.ensures.passes ∙ c.meet.ensures.passes in
    let kept = c.meet_timer.ensures.kept ∙ c.meet.ensures.kept in
    subst (λ (t : PassesView × BooksView). AreTogether g.N.Name.name c.args.places.now t.0 t.1) (λ k. (sym passes k, sym kept k)) record { here = c.requires.service; params_are = c.meet.ensures.params }

pub enter_run-entry-requires-clause-here : goal.enter_run-entry-requires-clause-here
enter_run-entry-requires-clause-here g c = here_kept c.self.inside.wheel c.self.inside.books c.meet_timer.new.self c.self.inside.scans c.in-Some.i c.self.invariant (c.meet_timer.ensures.kept ∙ c.meet.ensures.kept) c.in-Some.ensures.here

pub write_turn-freed-requires-clause-together : goal.write_turn-freed-requires-clause-together
write_turn-freed-requires-clause-together g c =
    let p = c.meet_timer.new.passes in
    let q = c.enter_run-entry.new.passes in
    let b = c.meet_timer.new.self in
    let b' = c.enter_run-entry.new.books in
    let passes = c.meet_timer.ensures.passes ∙ c.meet.ensures.passes in
    let kept = c.meet_timer.ensures.kept ∙ c.meet.ensures.kept in
    let together = subst (λ (t : PassesView × BooksView). AreTogether g.N.Name.name c.args.places.now t.0 t.1) (λ k. (sym passes k, sym kept k)) record { here = c.requires.service; params_are = c.meet.ensures.params } in
    still_together g.N.Name.name c.args.places.now p q b b' together
    (entry_same p q b b' c.in-Some.i c.enter_run-entry.result (run_entry p c.args.act (End c.in-Some.n c.args.cpu) c.end_into.new.out.reply) c.enter_run-entry.ensures) (ap (λ (v : BooksView). v.params) c.enter_run-entry.ensures.books)
