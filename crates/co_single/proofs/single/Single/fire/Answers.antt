use Rattle.std.proofs.Common.{◌∷◌, [], false, subst, sym, ap, length, ◌∙◌}
use Rattle.co_object.specs.Queue.{Due}
use Rattle.co_object.specs.declared.op.Op.TheVariants.{Run}
use Rattle.co_object.specs.declared.op.RunOp.TheVariants.{Pick}
use Rattle.co_object.specs.declared.queue.QReply.TheVariants.{Got, Empty as Nothing}
use Rattle.co_wheel.specs.Turns.{pop_of}
use Rattle.co_desk.specs.Ends.{finished_notes}
use Rattle.co_desk.specs.Outcomes.{noted_entry, noted_turn}
use Rattle.co_desk.specs.Services.{IsServing}
use Rattle.co_desk.specs.Serving.{Runs}
use Rattle.co_desk.specs.Views.{AreOf}
use Rattle.co_desk.specs.declared.params.Params.{Params}
use Rattle.co_single.specs.Acts.{IsFired, NothingWaits}
use Rattle.co_single.specs.Alarms.{arg_in}
use Rattle.co_single.specs.Seen.{none_entries, taken_entries, AddsEntries}
use Rattle.co_single.specs.Rest.{IsSingle}
use Rattle.co_single.proofs.Firing.{is_fired_now, is_idle_now, rests_fired, rests_idle}
use Rattle.co_single.proofs.OfAct.{nothing_adds, service_adds}
use Rattle.co_single.proofs.Told.{written_is, one_is, two_are, runs_at_once}
use Rattle.co_single.proofs.single.Single.fire.Goals as goal

pub invariant_of-self : goal.invariant_of-self
invariant_of-self g c =
    let n = length c.self.inside.service.specs in
    let p = c.self.inside.passes in
    let q = c.pop_alone.new.passes in
    let taken = c.in-Empty.ensures.started.taken in
    let note = noted_turn p.actor c.args.act 0 (pop_of false) Nothing c.in-Empty.pop in
    let written = written_is n p q (note ∷ []) (none_entries p c.args.act) c.self.invariant.single (one_is note _ _ taken.popped.place taken.popped.entry) taken.written in
    subst (λ (s : Params). IsSingle g.N.Name.name s q c.self.inside.ending) (sym c.pop_alone.ensures.params) record {
      of = c.pop_alone.ensures.kept.of;
      single = written.1;
      free = c.in-Empty.ensures.kept.next;
      rest = rests_idle n p q c.self.invariant.single written.1 c.self.invariant.rest c.args.act written.0;
      nothing = c.self.invariant.nothing;
      room = c.self.invariant.room;
    }

pub returns-in-Empty-clause-none : goal.returns-in-Empty-clause-none
returns-in-Empty-clause-none g c =
    let n = length c.self.inside.service.specs in
    let p = c.self.inside.passes in
    let q = c.pop_alone.new.passes in
    let taken = c.in-Empty.ensures.started.taken in
    let note = noted_turn p.actor c.args.act 0 (pop_of false) Nothing c.in-Empty.pop in
    let written = written_is n p q (note ∷ []) (none_entries p c.args.act) c.self.invariant.single (one_is note _ _ taken.popped.place taken.popped.entry) taken.written in
    subst (λ v. NothingWaits v q) c.self.view_is (is_idle_now n p q c.self.invariant.single written.1 c.self.invariant.rest c.args.act written.0)

pub returns-in-Empty-clause-entries : goal.returns-in-Empty-clause-entries
returns-in-Empty-clause-entries g c =
    let n = length c.self.inside.service.specs in
    let p = c.self.inside.passes in
    let q = c.pop_alone.new.passes in
    let taken = c.in-Empty.ensures.started.taken in
    let note = noted_turn p.actor c.args.act 0 (pop_of false) Nothing c.in-Empty.pop in
    let written = written_is n p q (note ∷ []) (none_entries p c.args.act) c.self.invariant.single (one_is note _ _ taken.popped.place taken.popped.entry) taken.written in
    subst (λ v. AddsEntries v c.args.act q) c.self.view_is (nothing_adds p q c.args.act written.0)

pub end_alone-requires-clause-serves : goal.end_alone-requires-clause-serves
end_alone-requires-clause-serves g c =
    let d : Due = record { i = c.in-Took.i; n = c.in-Took.n } in
    let taken = c.in-Took.ensures.started.taken in
    let pop = noted_turn c.self.inside.passes.actor c.args.act 0 (pop_of false) (Got c.in-Took.i c.in-Took.n c.in-Took.at) c.in-Took.pop in
    let pick = noted_entry c.in-Took.i (record { actor = c.self.inside.passes.actor; act = c.args.act; op = Run (Pick c.in-Took.n 0 c.in-Took.at); reply = c.in-Took.reply }) c.in-Took.pick in
    (d, subst (λ far. IsServing false c.pop_alone.new.passes 0 d far) (runs_at_once (length c.self.inside.service.specs) c.self.inside.passes c.pop_alone.new.passes pop pick c.args.act c.in-Took.i c.in-Took.n c.in-Took.at c.in-Took.reply c.self.invariant.single taken.place taken.entry taken.written) c.in-Took.ensures.kept.next)

pub invariant_of-self-in-Took : goal.invariant_of-self-in-Took
invariant_of-self-in-Took g c =
    let d : Due = record { i = c.in-Took.i; n = c.in-Took.n } in
    let taken = c.in-Took.ensures.started.taken in
    let pop = noted_turn c.self.inside.passes.actor c.args.act 0 (pop_of false) (Got c.in-Took.i c.in-Took.n c.in-Took.at) c.in-Took.pop in
    let pick = noted_entry c.in-Took.i (record { actor = c.self.inside.passes.actor; act = c.args.act; op = Run (Pick c.in-Took.n 0 c.in-Took.at); reply = c.in-Took.reply }) c.in-Took.pick in
    let m = length c.self.inside.service.specs in
    let p = c.self.inside.passes in
    let r = c.pop_alone.new.passes in
    let q = c.end_alone.new.passes in
    let middle = written_is m p r (pop ∷ pick ∷ []) (taken_entries p c.args.act c.in-Took.i c.in-Took.n c.in-Took.at c.in-Took.reply) c.self.invariant.single (two_are pop pick _ _ _ _ taken.popped.place taken.popped.entry taken.place taken.entry) taken.written in
    let runs : IsServing false r 0 d (Runs d.n) = subst (λ far. IsServing false r 0 d far) (runs_at_once m p r pop pick c.args.act c.in-Took.i c.in-Took.n c.in-Took.at c.in-Took.reply c.self.invariant.single taken.place taken.entry taken.written) c.in-Took.ensures.kept.next in
    let ended = c.end_alone.ensures.ended d runs in
    let last = written_is m r q (finished_notes r.actor c.args.act c.end_alone.new.told) _ middle.1 ended.notes_are ended.written in
    subst (λ (s : Params). IsSingle g.N.Name.name s q c.self.inside.ending) (sym (c.end_alone.ensures.params ∙ c.pop_alone.ensures.params)) record {
      of = subst (λ (s : Params). AreOf g.N.Name.name s q) c.pop_alone.ensures.params c.end_alone.ensures.kept.of;
      single = last.1;
      free = c.end_alone.ensures.kept.free;
      rest = rests_fired m p r q c.self.invariant.single middle.1 last.1 c.self.invariant.rest c.args.act c.in-Took.i c.in-Took.n c.in-Took.at c.in-Took.reply c.end_alone.new.told.out.reply ended.time middle.0 last.0;
      nothing = c.self.invariant.nothing;
      room = c.self.invariant.room;
    }

pub returns-in-Took-clause-some : goal.returns-in-Took-clause-some
returns-in-Took-clause-some g c =
    let d : Due = record { i = c.in-Took.i; n = c.in-Took.n } in
    let taken = c.in-Took.ensures.started.taken in
    let pop = noted_turn c.self.inside.passes.actor c.args.act 0 (pop_of false) (Got c.in-Took.i c.in-Took.n c.in-Took.at) c.in-Took.pop in
    let pick = noted_entry c.in-Took.i (record { actor = c.self.inside.passes.actor; act = c.args.act; op = Run (Pick c.in-Took.n 0 c.in-Took.at); reply = c.in-Took.reply }) c.in-Took.pick in
    let m = length c.self.inside.service.specs in
    let p = c.self.inside.passes in
    let r = c.pop_alone.new.passes in
    let q = c.end_alone.new.passes in
    let middle = written_is m p r (pop ∷ pick ∷ []) (taken_entries p c.args.act c.in-Took.i c.in-Took.n c.in-Took.at c.in-Took.reply) c.self.invariant.single (two_are pop pick _ _ _ _ taken.popped.place taken.popped.entry taken.place taken.entry) taken.written in
    let runs : IsServing false r 0 d (Runs d.n) = subst (λ far. IsServing false r 0 d far) (runs_at_once m p r pop pick c.args.act c.in-Took.i c.in-Took.n c.in-Took.at c.in-Took.reply c.self.invariant.single taken.place taken.entry taken.written) c.in-Took.ensures.kept.next in
    let ended = c.end_alone.ensures.ended d runs in
    let last = written_is m r q (finished_notes r.actor c.args.act c.end_alone.new.told) _ middle.1 ended.notes_are ended.written in
    subst (λ v. IsFired v c.in-Took.i c.arg_of-arg.result q) c.self.view_is
    (subst (λ a. IsFired p c.in-Took.i a q) (sym (c.arg_of-arg.ensures ∙ ap arg_in c.reply-said.ensures))
    (is_fired_now m p r q c.self.invariant.single middle.1 last.1 c.self.invariant.rest c.args.act c.in-Took.i c.in-Took.n c.in-Took.at c.in-Took.reply c.end_alone.new.told.out.reply ended.time middle.0 last.0))

pub returns-in-Took-clause-entries : goal.returns-in-Took-clause-entries
returns-in-Took-clause-entries g c =
    let d : Due = record { i = c.in-Took.i; n = c.in-Took.n } in
    let taken = c.in-Took.ensures.started.taken in
    let pop = noted_turn c.self.inside.passes.actor c.args.act 0 (pop_of false) (Got c.in-Took.i c.in-Took.n c.in-Took.at) c.in-Took.pop in
    let pick = noted_entry c.in-Took.i (record { actor = c.self.inside.passes.actor; act = c.args.act; op = Run (Pick c.in-Took.n 0 c.in-Took.at); reply = c.in-Took.reply }) c.in-Took.pick in
    let m = length c.self.inside.service.specs in
    let p = c.self.inside.passes in
    let r = c.pop_alone.new.passes in
    let q = c.end_alone.new.passes in
    let middle = written_is m p r (pop ∷ pick ∷ []) (taken_entries p c.args.act c.in-Took.i c.in-Took.n c.in-Took.at c.in-Took.reply) c.self.invariant.single (two_are pop pick _ _ _ _ taken.popped.place taken.popped.entry taken.place taken.entry) taken.written in
    let runs : IsServing false r 0 d (Runs d.n) = subst (λ far. IsServing false r 0 d far) (runs_at_once m p r pop pick c.args.act c.in-Took.i c.in-Took.n c.in-Took.at c.in-Took.reply c.self.invariant.single taken.place taken.entry taken.written) c.in-Took.ensures.kept.next in
    let ended = c.end_alone.ensures.ended d runs in
    let last = written_is m r q (finished_notes r.actor c.args.act c.end_alone.new.told) _ middle.1 ended.notes_are ended.written in
    subst (λ v. AddsEntries v c.args.act q) c.self.view_is
    (service_adds p r q c.args.act c.in-Took.i c.in-Took.n c.in-Took.at c.in-Took.reply c.end_alone.new.told.out.reply ended.time (middle.1.actor ∙ sym c.self.invariant.single.actor) middle.0 last.0)
