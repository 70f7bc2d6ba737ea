-- The wheel is scanned at the first deadline, and what expired is given out.
use Rattle.std.proofs.Common.{ℕ, ◌≡◌, ◌∙◌, ◌≤◌, map, ap, sym, subst, arith, rules, length}
use Rattle.std.specs.declared.option.Option.{Option}
use Rattle.std.specs.declared.option.Option.TheVariants.{Some, None}
use Rattle.co_object.specs.Scan.{is_direct}
use Rattle.co_event.specs.declared.event_queue.Event.{Event}
use Rattle.co_event.specs.Calls.{take, take_at}
use Rattle.co_event.specs.EventTimers.{EventTimers, first_deadline}
use Rattle.co_event.specs.StandsFor.{Answers, written}
use Rattle.co_event.specs.Queue.{event_timers}
use Rattle.co_event.specs.declared.event_queue.EventQueue.TheInside.{Inside}
use Rattle.co_event.proofs.Lists.{length-cleared}
use Rattle.co_event.proofs.Takes.{room, places, then-stands, take-answers, none-answers}
use Rattle.co_event.proofs.Standing.{next-is, sound-of}
use Rattle.co_event.proofs.Outcomes.{from-view}
use Rattle.co_event.proofs.Later.{later-of}
use Rattle.co_event.proofs.event_queue.EventQueue.take.Goals as goal

-- the moment is the first deadline that the fields have
programmed : (a : Inside) (s : EventTimers) (x : Option ℕ) (at : ℕ) → event_timers a ≡ s → x ≡ first_deadline s → x ≡ Some at → first_deadline (event_timers a) ≡ Some at
programmed a s x at view first was = ap (λ (s : EventTimers). first_deadline s) view ∙ sym first ∙ was

pub returns-in_err-at-clause-answers : goal.returns-in_err-at-clause-answers
returns-in_err-at-clause-answers c =
    let gone : c.from_residual.result ≡ None = search rules in
    let none : first_deadline c.args.self.now ≡ None = sym c.next_event.ensures.deadline ∙ c.in_err-at.was in
    subst (λ (event : Option Event). Answers c.args.self.now c.args.self.now take (event, written event c.args.out.now)) (sym gone) (none-answers c.args.self.now none)

pub give_out-count-requires : goal.give_out-count-requires
give_out-count-requires c =
    let a = c.self.inside in
    let w = c.self.invariant in
    let first = programmed a _ _ _ c.self.view_is c.next_event.ensures.deadline c.in_ok-at.was in
    let fits = room (event_timers a) c.in_ok-at.at c.scan.result c.scan.new.self w.buckets w.direct first c.scan.ensures.answer w.stands_for.0 w.stands_for.1 in
    let wide : a.wheel.size ≤ length c.args.out.now = subst (λ (s : EventTimers). s.timers.size ≤ length c.args.out.now) (sym c.self.view_is) c.requires in
    record {
      room = omega (arith, fits, w.long, wide);
      few = omega (arith, fits, w.long, w.small);
      below = places (event_timers a) c.in_ok-at.at c.scan.result c.scan.new.self w.buckets w.direct first c.scan.ensures.answer w.stands_for.0 w.stands_for.1;
    }

pub invariant_of-self : goal.invariant_of-self
invariant_of-self c =
    let a = c.self.inside in
    let w = c.self.invariant in
    let e = w.stands_for.0 in
    let gave = c.give_out-count.ensures in
    record {
      stands_for = (
        (take_at e (Some c.in_ok-at.at)).0,
        then-stands (event_timers a) c.in_ok-at.at c.scan.result c.scan.new.self w.buckets w.direct (programmed a _ _ _ c.self.view_is c.next_event.ensures.deadline c.in_ok-at.was) c.scan.ensures.answer e w.stands_for.1
            c.give_out-count.new.wheel c.give_out-count.new.deadlines gave.wheel gave.deadlines,
      );
      buckets = gave.wheel.buckets ∙ c.scan.ensures.answer.buckets ∙ w.buckets;
      direct = λ i. ap (λ ds. is_direct ds i) (gave.wheel.direct ∙ c.scan.ensures.answer.direct) ∙ w.direct i;
      long = ap length gave.deadlines ∙ length-cleared (map (λ due. due.i) c.scan.new.self.expired) a.deadlines ∙ w.long ∙ sym (gave.wheel.size ∙ c.scan.ensures.answer.size);
      small = omega (arith, gave.wheel.size, c.scan.ensures.answer.size, w.small);
    }

pub returns-clause-answers : goal.returns-clause-answers
returns-clause-answers c =
    let a = c.self.inside in
    let w = c.self.invariant in
    let gave = c.give_out-count.ensures in
    from-view _ _ _ _ _ c.self.view_is
    (take-answers (event_timers a) c.in_ok-at.at c.scan.result c.scan.new.self w.buckets w.direct (programmed a _ _ _ c.self.view_is c.next_event.ensures.deadline c.in_ok-at.was) c.scan.ensures.answer
    c.give_out-count.new.wheel c.give_out-count.new.deadlines c.give_out-count.result c.give_out-count.new.out gave.wheel gave.deadlines gave.count gave.out)

pub returns-clause-later : goal.returns-clause-later
returns-clause-later c =
    let a = c.self.inside in
    let w = c.self.invariant in
    let e = w.stands_for.0 in
    let gave = c.give_out-count.ensures in
    let after : EventTimers = record { timers = c.give_out-count.new.wheel; deadlines = c.give_out-count.new.deadlines; clock = c.in_ok-at.at } in
    let then = then-stands (event_timers a) c.in_ok-at.at c.scan.result c.scan.new.self w.buckets w.direct (programmed a _ _ _ c.self.view_is c.next_event.ensures.deadline c.in_ok-at.was) c.scan.ensures.answer e w.stands_for.1
    c.give_out-count.new.wheel c.give_out-count.new.deadlines gave.wheel gave.deadlines in
    later-of e c.in_ok-at.at (first_deadline after) (next-is after (take_at e (Some c.in_ok-at.at)).0 then) (sound-of e w.stands_for.1.sound)
