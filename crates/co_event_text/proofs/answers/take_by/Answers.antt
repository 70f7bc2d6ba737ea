-- The next moment is later than the time, or it is taken.
use Rattle.std.proofs.Common.{◌<◌, ◌∙◌, sym, subst, IfSome}
use Rattle.std.proofs.lemmas.Map.Keys.{le_from_not_gt}
use Rattle.co_event_text.proofs.Until.{comes, later_of, none_comes}
use Rattle.co_event_text.proofs.answers.take_by.Goals as goal

pub returns-then-gt-clause-answers : goal.returns-then-gt-clause-answers
returns-then-gt-clause-answers c =
    let late : c.args.time < c.in_ok-next_event.field-0 = later_of c.in_ok-next_event.field-0 c.args.time (sym c.gt.ensures ∙ c.if-gt.true) in
    none_comes c.args.time c.in_ok-next_event.field-0 c.args.queue.now (λ e stood. sym c.in_ok-next_event.was ∙ c.next_event.ensures.moment e stood) late

pub returns-clause-answers : goal.returns-clause-answers
returns-clause-answers c =
    comes c.args.time c.in_ok-next_event.field-0 c.args.queue.now c.take.new.self _ (λ e stood. sym c.in_ok-next_event.was ∙ c.next_event.ensures.moment e stood) (le_from_not_gt c.in_ok-next_event.field-0 c.args.time (sym c.gt.ensures ∙ c.if-gt.false))
    c.take.ensures.answers

pub returns-then-gt-clause-left : goal.returns-then-gt-clause-left
returns-then-gt-clause-left c =
    let late : c.args.time < c.in_ok-next_event.field-0 = later_of c.in_ok-next_event.field-0 c.args.time (sym c.gt.ensures ∙ c.if-gt.true) in
    subst (λ first. IfSome first (λ moment. c.args.time < moment)) (sym c.in_ok-next_event.was ∙ c.next_event.ensures.deadline) late
