use Rattle.std.proofs.Common.{◌≡◌, ℕ, false, List, [], ◌∷◌, ◌++◌, sym, ap, ◌∙◌, subst, arith}
use Rattle.std.specs.declared.option.Option.TheVariants.{Some}
use Rattle.co_object.specs.declared.note.Entry.{Entry}
use Rattle.co_object.specs.declared.op.Op.TheVariants.{Run}
use Rattle.co_object.specs.declared.op.RunOp.TheVariants.{Begin}
use Rattle.co_object.specs.Queue.{Due}
use Rattle.co_desk.specs.Books.{BooksView, entries_at, with_history}
use Rattle.co_desk.specs.Desk.{IsDesk}
use Rattle.co_desk.specs.May.{MayHappen}
use Rattle.co_desk.specs.Outcomes.{noted_entry}
use Rattle.co_desk.specs.Services.{run_entry}
use Rattle.co_desk.specs.Serving.{Waits}
use Rattle.co_desk.specs.Views.{PassesView}
use Rattle.co_desk.specs.Written.{AreHere, AreTogether}
use Rattle.co_desk.proofs.MetDesk.{Meets, here_kept, served_after, serves_one, serves_some}
use Rattle.co_desk.proofs.ServiceSection.{IsServed, begun_desk, begun_told, may_begin_here, may_write_begin}
use Rattle.co_desk.proofs.desk.Desk.begin.Goals as goal

pub begin-reply-requires : goal.begin-reply-requires
begin-reply-requires g c =
    let met : Meets c.self.inside.wheel c.self.inside.books c.self.inside.scans c.args.cpu c.args.passes.now = record { desk = c.self.invariant; legal = c.meet.ensures.legal; shown = c.meet.ensures.shown; params = c.meet.ensures.params; here = (let n = c.cpu.ensures in let f = c.if-cpu.false in omega arith) } in
    let e : Due = record { i = c.in-Some.i; n = c.in-Some.n } in
    let s : (H : List Entry) × IsServed false c.self.inside.wheel c.meet_timer.new.self c.self.inside.scans c.meet_timer.new.passes e (Waits c.in-Some.n) H = served_after false c.self.inside.wheel c.self.inside.books c.meet.new.self c.meet_timer.new.self c.self.inside.scans c.args.cpu c.args.passes.now c.meet.new.passes c.meet_timer.new.passes c.requires.serves.0 e (λ n. Waits n) met c.meet.ensures.kept c.meet.ensures.passes c.meet_timer.ensures.kept c.meet_timer.ensures.passes c.requires.serves.1 c.in-Some.ensures.which (here_kept c.self.inside.wheel c.self.inside.books c.meet.new.self c.self.inside.scans c.in-Some.i c.self.invariant c.meet.ensures.kept c.in-Some.ensures.here) c.meet_timer.ensures.legal c.meet_timer.ensures.shown in
    may_begin_here c.self.inside.wheel c.self.inside.wheel c.meet_timer.new.self c.self.inside.scans c.meet_timer.new.passes c.args.act e s.0 s.1

pub enter_run-pos-requires-clause-may : goal.enter_run-pos-requires-clause-may
enter_run-pos-requires-clause-may g c =
    let met : Meets c.self.inside.wheel c.self.inside.books c.self.inside.scans c.args.cpu c.args.passes.now = record { desk = c.self.invariant; legal = c.meet.ensures.legal; shown = c.meet.ensures.shown; params = c.meet.ensures.params; here = (let n = c.cpu.ensures in let f = c.if-cpu.false in omega arith) } in
    let here : c.meet_timer.new.self.cpu ≡ c.args.cpu = (let k = ap (λ (b : BooksView). b.cpu) c.meet.ensures.kept in let m = ap (λ (b : BooksView). b.cpu) c.meet_timer.ensures.kept in let n = c.cpu.ensures in let f = c.if-cpu.false in omega arith) in
    let e : Due = record { i = c.in-Some.i; n = c.in-Some.n } in
    let s : (H : List Entry) × IsServed false c.self.inside.wheel c.meet_timer.new.self c.self.inside.scans c.meet_timer.new.passes e (Waits c.in-Some.n) H = served_after false c.self.inside.wheel c.self.inside.books c.meet.new.self c.meet_timer.new.self c.self.inside.scans c.args.cpu c.args.passes.now c.meet.new.passes c.meet_timer.new.passes c.requires.serves.0 e (λ n. Waits n) met c.meet.ensures.kept c.meet.ensures.passes c.meet_timer.ensures.kept c.meet_timer.ensures.passes c.requires.serves.1 c.in-Some.ensures.which (here_kept c.self.inside.wheel c.self.inside.books c.meet.new.self c.self.inside.scans c.in-Some.i c.self.invariant c.meet.ensures.kept c.in-Some.ensures.here) c.meet_timer.ensures.legal c.meet_timer.ensures.shown in
    subst (λ (k : ℕ). MayHappen c.meet_timer.new.self e.i (run_entry c.meet_timer.new.passes c.args.act (Begin e.n k) c.begin-reply.result)) here
    (may_write_begin c.self.inside.wheel c.begin-reply.new.self c.meet_timer.new.self c.self.inside.scans c.meet_timer.new.passes c.args.act e s.0 s.1 c.begin-reply.result c.begin-reply.ensures.callouts c.begin-reply.ensures.queue)

pub invariant_of-self : goal.invariant_of-self
invariant_of-self g c =
    let met : Meets c.self.inside.wheel c.self.inside.books c.self.inside.scans c.args.cpu c.args.passes.now = record { desk = c.self.invariant; legal = c.meet.ensures.legal; shown = c.meet.ensures.shown; params = c.meet.ensures.params; here = (let n = c.cpu.ensures in let f = c.if-cpu.false in omega arith) } in
    let here : c.meet_timer.new.self.cpu ≡ c.args.cpu = (let k = ap (λ (b : BooksView). b.cpu) c.meet.ensures.kept in let m = ap (λ (b : BooksView). b.cpu) c.meet_timer.ensures.kept in let n = c.cpu.ensures in let f = c.if-cpu.false in omega arith) in
    let e : Due = record { i = c.in-Some.i; n = c.in-Some.n } in
    let s : (H : List Entry) × IsServed false c.self.inside.wheel c.meet_timer.new.self c.self.inside.scans c.meet_timer.new.passes e (Waits c.in-Some.n) H = served_after false c.self.inside.wheel c.self.inside.books c.meet.new.self c.meet_timer.new.self c.self.inside.scans c.args.cpu c.args.passes.now c.meet.new.passes c.meet_timer.new.passes c.requires.serves.0 e (λ n. Waits n) met c.meet.ensures.kept c.meet.ensures.passes c.meet_timer.ensures.kept c.meet_timer.ensures.passes c.requires.serves.1 c.in-Some.ensures.which (here_kept c.self.inside.wheel c.self.inside.books c.meet.new.self c.self.inside.scans c.in-Some.i c.self.invariant c.meet.ensures.kept c.in-Some.ensures.here) c.meet_timer.ensures.legal c.meet_timer.ensures.shown in
    subst (λ b. IsDesk c.begin-reply.new.self b c.self.inside.scans) (sym c.enter_run-pos.ensures.books)
    (subst (λ (k : ℕ). IsDesk c.begin-reply.new.self (with_history c.meet_timer.new.self e.i (Some (entries_at c.meet_timer.new.self e.i ++ run_entry c.meet_timer.new.passes c.args.act (Begin e.n k) c.begin-reply.result ∷ []))) c.self.inside.scans) here
    (begun_desk c.self.inside.wheel c.begin-reply.new.self c.meet_timer.new.self c.self.inside.scans c.meet_timer.new.passes c.args.act e s.0 s.1 c.begin-reply.result c.begin-reply.ensures.callouts c.begin-reply.ensures.queue))

pub returns : goal.returns
returns g c = record {
  asked = record {
    none = tt;
    some = λ d is.
        let met : Meets c.self.inside.wheel c.self.inside.books c.self.inside.scans c.args.cpu c.args.passes.now = record { desk = c.self.invariant; legal = c.meet.ensures.legal; shown = c.meet.ensures.shown; params = c.meet.ensures.params; here = (let n = c.cpu.ensures in let f = c.if-cpu.false in omega arith) } in
        let e : Due = record { i = c.in-Some.i; n = c.in-Some.n } in
        let p = c.meet_timer.new.passes in
        begun_told c.args.passes.now p c.enter_run-pos.new.passes c.args.cpu c.args.act c.enter_run-pos.result d e c.begin-reply.result c.run_note-note.result
        (entries_at c.meet_timer.new.self e.i ++ run_entry c.meet_timer.new.passes c.args.act (Begin e.n c.args.cpu) c.begin-reply.result ∷ []) (c.meet_timer.ensures.passes ∙ c.meet.ensures.passes)
        (serves_one c.self.inside.wheel c.self.inside.books c.self.inside.scans c.args.cpu c.args.passes.now met false d e (Waits d.n) is c.in-Some.ensures.which)
        (c.run_note-note.ensures ∙ ap (λ (a : ℕ). noted_entry e.i (record { actor = a; act = c.args.act; op = Run (Begin e.n c.args.cpu); reply = c.begin-reply.result }) c.enter_run-pos.result) c.actor-actor.ensures)
        c.enter_run-pos.ensures.written;
  };
  why = tt;
}

pub unreachable-requires : goal.unreachable-requires
unreachable-requires g c =
    let met : Meets c.self.inside.wheel c.self.inside.books c.self.inside.scans c.args.cpu c.args.passes.now = record { desk = c.self.invariant; legal = c.meet.ensures.legal; shown = c.meet.ensures.shown; params = c.meet.ensures.params; here = (let n = c.cpu.ensures in let f = c.if-cpu.false in omega arith) } in
    serves_some c.self.inside.wheel c.self.inside.books c.self.inside.scans c.args.cpu c.args.passes.now met false c.requires.serves.0 (Waits c.requires.serves.0.n) c.requires.serves.1 c.in_default.ensures.which

pub meet_timer-requires-clause-service : goal.meet_timer-requires-clause-service
meet_timer-requires-clause-service g c = subst (AreHere g.N.Name.name c.args.places.now) (sym c.meet.ensures.passes) c.requires.service

pub meet_timer-requires-clause-here : goal.meet_timer-requires-clause-here
meet_timer-requires-clause-here g c = here_kept c.self.inside.wheel c.self.inside.books c.meet.new.self c.self.inside.scans c.in-Some.i c.self.invariant c.meet.ensures.kept c.in-Some.ensures.here

pub enter_run-pos-requires-clause-together : goal.enter_run-pos-requires-clause-together
enter_run-pos-requires-clause-together g c =
    let passes = c.meet_timer.ensures.passes ∙ c.meet.ensures.passes in
    let kept = c.meet_timer.ensures.kept ∙ c.meet.ensures.kept in
    subst (λ (t : PassesView × BooksView). AreTogether g.N.Name.name c.args.places.now t.0 t.1) (λ k. (sym passes k, sym kept k)) record { here = c.requires.service; params_are = c.meet.ensures.params }

pub enter_run-pos-requires-clause-here : goal.enter_run-pos-requires-clause-here
enter_run-pos-requires-clause-here g c = here_kept c.self.inside.wheel c.self.inside.books c.meet_timer.new.self c.self.inside.scans c.in-Some.i c.self.invariant (c.meet_timer.ensures.kept ∙ c.meet.ensures.kept) c.in-Some.ensures.here
