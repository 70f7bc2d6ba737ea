-- One event more, and at the end none.
use Rattle.std.proofs.Common.{◌≡◌, ◌∙◌, [], take, subst, arith}
use Rattle.std.specs.declared.option.Option.{Option}
use Rattle.std.specs.declared.option.Option.TheVariants.{None}
use Rattle.co_event.specs.declared.Event.{Event}
use Rattle.co_event.specs.StandsFor.{Answers, written}
use Rattle.co_event_text.specs.Answers.{take_by}
use Rattle.co_event_text.proofs.Written.{on_ok, halfway-more, halfway-ended}
use Rattle.co_event_text.proofs.answers.until.Goals as goal

pub loop-event-preserved : goal.loop-event-preserved
loop-event-preserved c =
    let h = c.loop-event.invariant in
    record {
      size = c.in-Some.ensures.answers.size ∙ h.size;
      room = omega (arith, c.in-Some.ensures.answers.size, h.room, c.take_by.auto.out);
      halfway = λ e stood.
          halfway-more c.args.time c.args.page.now c.loop-event.page c.loop-event.queue c.take_by.new.queue e c.print_event.new.page c.in-Some.event (take c.in-Some.event.count c.take_by.new.out)
          c.in-Some.ensures.answers c.in_ok-print_event.ensures (h.halfway e stood);
    }

pub returns-clause-written : goal.returns-clause-written
returns-clause-written c =
    let none : c.take_by.result ≡ None = c.in_default.is in
    let answer : Answers c.loop-event.queue c.take_by.new.queue (take_by c.args.time) (None, []) =
    subst (λ (r : Option Event). Answers c.loop-event.queue c.take_by.new.queue (take_by c.args.time) (r, written r c.take_by.new.out)) none c.take_by.ensures.answers in
    on_ok c.print_until.result _ _
    (λ is. record {
      outcome = λ e stood.
          halfway-ended c.args.time c.args.page.now c.loop-event.page c.loop-event.queue c.take_by.new.queue e c.settle.new.self c.print_until.new.page [] answer c.settle.ensures is (c.loop-event.invariant.halfway e stood);
    })
    c.print_until.ensures
