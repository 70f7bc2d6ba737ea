-- The book's reply, told of the passes as they were, with the numbers of the service.
use Rattle.std.proofs.Common.{◌≡◌, ℕ, false, sym, ap, ◌∙◌, subst}
use Rattle.co_desk.specs.Services.{IsFree}
use Rattle.co_desk.specs.Views.{AreOf, PassesView}
use Rattle.co_sleepq.specs.Params.{actors}
use Rattle.co_sleepq.specs.Shared.{TellsReply}
use Rattle.co_sleepq.specs.Views.{SleepPassesView}
use Rattle.co_sleepq.proofs.queue.SleepQueue.tell.Goals as goal

pub answer-reply-requires-clause-actors : goal.answer-reply-requires-clause-actors
answer-reply-requires-clause-actors g c =
    (c.self.invariant.all_are ∙ ap actors c.self.view_is)
    ∙ sym (ap (λ (v : SleepPassesView). actors v.service.params) c.loop.invariant ∙ ap actors c.requires.passes.of.params_are)

pub returns-in-Some-reply-clause-told : goal.returns-in-Some-reply-clause-told
returns-in-Some-reply-clause-told g c =
    let all : c.self.inside.actors ≡ actors c.args.self.now = c.self.invariant.all_are ∙ ap actors c.self.view_is in
    subst (λ (t : ℕ × SleepPassesView). TellsReply t.0 t.1 c.args.op c.in-Some-reply.reply c.answer-reply.new.passes) (λ j. (all j, c.loop.invariant j)) c.in-Some-reply.ensures.some

pub returns-in-Some-reply-clause-of : goal.returns-in-Some-reply-clause-of
returns-in-Some-reply-clause-of g c =
    let rest = c.in-Some-reply.ensures.some.rest in
    let was : c.answer-reply.new.passes.service ≡ c.args.passes.now.service = ap (λ (v : SleepPassesView). v.service) rest ∙ ap (λ (v : SleepPassesView). v.service) c.loop.invariant in
    let life : c.answer-reply.new.passes.life ≡ c.args.passes.now.life = ap (λ (v : SleepPassesView). v.life) rest ∙ ap (λ (v : SleepPassesView). v.life) c.loop.invariant in
    record { of = subst (AreOf g.N.Name.name c.args.self.now) (sym was) c.requires.passes.of; life_is = life ∙ c.requires.passes.life_is }

pub returns-in-Some-reply-clause-free : goal.returns-in-Some-reply-clause-free
returns-in-Some-reply-clause-free g c free =
    let rest = c.in-Some-reply.ensures.some.rest in
    let was : c.answer-reply.new.passes.service ≡ c.args.passes.now.service = ap (λ (v : SleepPassesView). v.service) rest ∙ ap (λ (v : SleepPassesView). v.service) c.loop.invariant in
    subst (λ (t : PassesView). IsFree false t 0) (sym was) free
