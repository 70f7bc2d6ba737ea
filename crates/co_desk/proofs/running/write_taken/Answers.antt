use Rattle.std.proofs.Common.{◌≡◌, ℕ, [], ◌∷◌, ◌++◌, refl, sym, ap, ◌∙◌, subst}
use Rattle.std.specs.declared.option.Option.TheVariants.{Some}
use Rattle.co_object.specs.declared.op.Op.TheVariants.{Run}
use Rattle.co_object.specs.declared.op.RunOp.TheVariants.{Pick}
use Rattle.co_object.specs.declared.reply.Reply.{Reply}
use Rattle.co_object.specs.declared.queue.QReply.TheVariants.{Empty, Got}
use Rattle.co_object.specs.declared.queue.QOp.{QOp}
use Rattle.co_object.specs.Journal.{IsOfItsActor}
use Rattle.co_desk.specs.Books.{BooksView, entries_at, with_history}
use Rattle.co_desk.specs.Outcomes.{queue_entry_by}
use Rattle.co_desk.specs.Params.{actors_of}
use Rattle.co_desk.specs.Services.{picked_histories, pop_entry, run_entry}
use Rattle.co_desk.specs.Views.{PassesView, journal_seen}
use Rattle.co_desk.specs.Kinds.{cpu_kind, timer_kind}
use Rattle.co_desk.specs.Writes.{WritesEntry}
use Rattle.co_wheel.specs.Next.{next_out}
use Rattle.co_desk.proofs.ScanTold.{journal_after}
use Rattle.co_desk.proofs.ServedDesk.{lane_pops}
use Rattle.co_desk.proofs.running.write_taken.Goals as goal

pub returns-in-None : goal.returns-in-None
returns-in-None g c =
    let p = c.args.passes.now in
    let q = c.write_turn-pop.new.passes in
    let b = c.args.books.now in
    record {
      books = c.write_turn-pop.ensures.books
          ∙ ((λ k. record b { journal = b.journal ++ queue_entry_by p c.args.act (c.pop-op.ensures k) Empty ∷ [] })
          ∙ (λ k. record b { timers = picked_histories b p c.args.act (next_out (sym c.in-None.is k)); journal = b.journal ++ pop_entry c.args.direct p c.args.act (next_out (sym c.in-None.is k)) ∷ [] }));
      told = record {
        popped = record { place = refl; entry = refl };
        written = (q, (c.write_turn-pop.new.books.journal, subst (λ (o : QOp). WritesEntry cpu_kind p c.args.books.now.cpu (queue_entry_by p c.args.act o Empty) c.write_turn-pop.result c.write_turn-pop.new.books.journal q) c.pop-op.ensures c.write_turn-pop.ensures.written), refl);
      };
      seen = journal_after p q b.cpu (queue_entry_by p c.args.act c.pop-op.result Empty) c.write_turn-pop.result c.write_turn-pop.new.books.journal c.write_turn-pop.ensures.written;
    }

pub returns-in-Some : goal.returns-in-Some
returns-in-Some g c =
    let p = c.args.passes.now in
    let q = c.write_turn-pop-in-Some.new.passes in
    let r = c.enter_run-pick.new.passes in
    let x = c.in-Some.started in
    let acted : q.actor ≡ p.actor = ap (λ (v : PassesView). v.actor) c.write_turn-pop-in-Some.ensures.written.passes in
    let cpu : c.cpu-cpu.result ≡ c.args.books.now.cpu = c.cpu-cpu.ensures ∙ ap (λ (b : BooksView). b.cpu) c.write_turn-pop-in-Some.ensures.books in
    let said : c.reply-said.result ≡ x.reply = c.reply-said.ensures in
    let after = entries_at c.write_turn-pop-in-Some.new.books x.i ++ run_entry q c.args.act (Pick x.n c.cpu-cpu.result x.at) c.reply-said.result ∷ [] in
    let b = c.args.books.now in
    let popped = c.write_turn-pop-in-Some in
    let wrote = popped.ensures.books ∙ (λ k. record b { journal = b.journal ++ queue_entry_by p c.args.act (c.pop-op.ensures k) (Got x.i x.n x.at) ∷ [] }) in
    record {
      books = c.enter_run-pick.ensures.books
          ∙ ((λ k. with_history (wrote k) x.i (Some (entries_at (wrote k) x.i ++ record { actor = acted k; act = c.args.act; op = Run (Pick x.n (cpu k) x.at); reply = said k } ∷ [])))
          ∙ (λ k. record b { timers = picked_histories b p c.args.act (next_out (sym c.in-Some.is k)); journal = b.journal ++ pop_entry c.args.direct p c.args.act (next_out (sym c.in-Some.is k)) ∷ [] }));
      told = record {
        popped = record { place = refl; entry = refl };
        place = refl;
        entry = refl;
        written = (
          q,
          (c.write_turn-pop-in-Some.new.books.journal, subst (λ (o : QOp). WritesEntry cpu_kind p c.args.books.now.cpu (queue_entry_by p c.args.act o (Got x.i x.n x.at)) c.write_turn-pop-in-Some.result c.write_turn-pop-in-Some.new.books.journal q) c.pop-op.ensures c.write_turn-pop-in-Some.ensures.written),
          (r, (after, subst (λ (t : ℕ × ℕ × Reply). WritesEntry timer_kind q x.i (record { actor = t.0; act = c.args.act; op = Run (Pick x.n t.1 x.at); reply = t.2 }) c.enter_run-pick.result after r) (λ k. (acted k, cpu k, said k)) c.enter_run-pick.ensures.written), refl),
        );
      };
      seen = ap (λ (v : PassesView). journal_seen v b.cpu) c.enter_run-pick.ensures.written.passes
          ∙ (journal_after p q b.cpu (queue_entry_by p c.args.act c.pop-op.result (Got x.i x.n x.at)) popped.result popped.new.books.journal popped.ensures.written
          ∙ sym (ap (λ (v : BooksView). v.journal) c.enter_run-pick.ensures.books));
    }

pub write_turn-pop-requires-clause-actor : goal.write_turn-pop-requires-clause-actor
write_turn-pop-requires-clause-actor g c =
    subst (IsOfItsActor (actors_of c.args.books.now.params) c.args.books.now.cpu c.args.passes.now.actor) (sym c.pop-op.ensures) (lane_pops (actors_of c.args.books.now.params) c.args.books.now.cpu c.args.passes.now.actor c.args.direct c.requires.actor)

pub write_turn-pop-requires-in-Some-clause-actor : goal.write_turn-pop-requires-in-Some-clause-actor
write_turn-pop-requires-in-Some-clause-actor g c =
    subst (IsOfItsActor (actors_of c.args.books.now.params) c.args.books.now.cpu c.args.passes.now.actor) (sym c.pop-op.ensures) (lane_pops (actors_of c.args.books.now.params) c.args.books.now.cpu c.args.passes.now.actor c.args.direct c.requires.actor)
