-- The parcel that the ledger has in the actor's place is the one that is spoken of.
use Rattle.std.proofs.Common.{◌≡◌, ℕ, [], refl, arith, sym, ◌∙◌, subst, Some, None}
use Rattle.co_object.specs.declared.queue.QOp.TheVariants.{Insert}
use Rattle.co_object.specs.declared.queue.QReply.TheVariants.{At}
use Rattle.co_program.specs.declared.cursor.PendingInsert.{PendingInsert}
use Rattle.co_world.specs.Step.{queue_answers}
use Rattle.co_core.specs.Noting.{FollowsWorld}
use Rattle.co_core.proofs.written.Notes.{none_written}
use Rattle.co_core.proofs.ledger.Ledger.write_insertion.Goals as goal

pub returns-clause-made : goal.returns-clause-made
returns-clause-made g c =
    let s = c.args.script.now in
    let a = c.args.actor in
    let one = c.in_ok-write_landing.ensures.made in record {
      notes = one.notes;
      count = one.one;
      few = omega arith;
      stays = λ none. absurd (let clash : Some c.in-Some.at ≡ None = sym c.in-Some.is ∙ none in cc);
      written = λ queue parcel t is carried.
          (let both : Some c.in-Some-parcel.parcel ≡ Some parcel = c.in-Some-parcel.ensures ∙ carried in
          let same : c.in-Some-parcel.parcel ≡ parcel = cc in
          let times : Some c.in-Some.at ≡ Some t = sym c.in-Some.is ∙ is in
          let time : c.in-Some.at ≡ t = cc in
          subst (λ (p : PendingInsert). FollowsWorld s a one.notes c.args.self.now c.write_landing.new.self (λ w. queue_answers s w a p.act p.cpu (Insert p.i p.n p.due) (Some (queue, At t)))) same
          (subst (λ (u : ℕ). FollowsWorld s a one.notes c.args.self.now c.write_landing.new.self (λ w. queue_answers s w a c.in-Some-parcel.parcel.act c.in-Some-parcel.parcel.cpu (Insert c.in-Some-parcel.parcel.i c.in-Some-parcel.parcel.n c.in-Some-parcel.parcel.due) (Some (queue, At u)))) time
          (one.written queue)));
      wrote = one.wrote;
    }

pub returns-in_default-clause-made : goal.returns-in_default-clause-made
returns-in_default-clause-made g c = record {
  notes = [];
  count = refl;
  few = omega arith;
  stays = λ none. (refl, refl);
  written = λ queue parcel t is carried. absurd (c.in_default.not-Some t is);
  wrote = none_written g.N.Listener.has g.N.Listener.room c.args.actor c.args.self.now c.args.listener.now;
}
