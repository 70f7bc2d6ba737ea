use Rattle.std.proofs.Common.{ap, sym, subst, ◌∙◌, ◌≡◌, ℕ, Bool, [], ◌∷◌}
use Rattle.std.specs.declared.option.Option.{Option}
use Rattle.std.specs.declared.option.Option.TheVariants.{Some}
use Rattle.co_object.specs.declared.queue.QReply.TheVariants.{Got}
use Rattle.co_queue.specs.Timers.{Timers}
use Rattle.co_queue.specs.StandsFor.{Answers, taken}
use Rattle.co_wheel.specs.Callouts.{in_service, due_at, IsDueAt}
use Rattle.co_wheel.specs.Cpu.{cpu_of}
use Rattle.co_wheel.specs.Service.{pick_at}
use Rattle.co_wheel.specs.Turns.{Turns, pop_of}
use Rattle.co_wheel.proofs.Popping.{taken-here, taken-lane, taken-number, taken-due, taken-kept, taken-turn}
use Rattle.co_wheel.proofs.sections.start.Goals as goal

-- the queue gave callout i's arming n
got : (direct : Bool) (s t : Timers) (popped : Option (ℕ × ℕ)) (i n : ℕ) → popped ≡ Some (i, n) → Answers s t (pop_of direct) (taken s.last popped) → Answers s t (pop_of direct) (Got i n s.last)
got direct s t popped i n is answers = subst (λ p. Answers s t (pop_of direct) (taken s.last p)) is answers

pub start-reply-requires-clause-here : goal.start-reply-requires-clause-here
start-reply-requires-clause-here g c =
    let s = g.Q.TimerQueue.state c.args.queue.now in
    let t = g.Q.TimerQueue.state c.pop.new.queue in
    let answers = got c.args.direct s t c.pop.result c.in-Some.i c.in-Some.n c.in-Some.is c.pop.ensures in
    taken-here c.args.direct c.args.records.now s t c.in-Some.i c.in-Some.n c.requires.free answers c.requires.kept

pub start-reply-requires-clause-empty : goal.start-reply-requires-clause-empty
start-reply-requires-clause-empty g c =
    let s = g.Q.TimerQueue.state c.args.queue.now in
    let t = g.Q.TimerQueue.state c.pop.new.queue in
    let answers = got c.args.direct s t c.pop.result c.in-Some.i c.in-Some.n c.in-Some.is c.pop.ensures in
    ap (λ d. in_service d c.args.records.now) (taken-lane c.args.direct c.args.records.now s t c.in-Some.i c.in-Some.n c.requires.free answers c.requires.kept) ∙ c.requires.free

pub start-reply-requires-clause-due : goal.start-reply-requires-clause-due
start-reply-requires-clause-due g c =
    let s = g.Q.TimerQueue.state c.args.queue.now in
    let t = g.Q.TimerQueue.state c.pop.new.queue in
    let answers = got c.args.direct s t c.pop.result c.in-Some.i c.in-Some.n c.in-Some.is c.pop.ensures in
    subst (IsDueAt c.args.records.now c.in-Some.i) (sym c.last-at.ensures)
    (taken-due c.args.direct c.args.records.now s t c.in-Some.i c.in-Some.n c.requires.free answers c.requires.kept)

pub returns-in-Some-clause-kept : goal.returns-in-Some-clause-kept
returns-in-Some-clause-kept g c =
    let s = g.Q.TimerQueue.state c.args.queue.now in
    let t = g.Q.TimerQueue.state c.pop.new.queue in
    let answers = got c.args.direct s t c.pop.result c.in-Some.i c.in-Some.n c.in-Some.is c.pop.ensures in
    let lane = taken-lane c.args.direct c.args.records.now s t c.in-Some.i c.in-Some.n c.requires.free answers c.requires.kept in
    let number = taken-number c.args.direct c.args.records.now s t c.in-Some.i c.in-Some.n c.requires.free answers c.requires.kept in
    taken-kept c.args.direct c.args.records.now s t c.in-Some.i c.in-Some.n c.requires.free answers c.requires.kept
    c.start-reply.new.self c.start-reply.result c.last-at.result
    (c.start-reply.ensures ∙ ap (λ d. pick_at d c.args.records.now (due_at c.args.records.now c.in-Some.i) c.last-at.result) lane ∙ ap (λ d. pick_at c.args.direct c.args.records.now d c.last-at.result) number)

pub returns-in-Some-clause-section : goal.returns-in-Some-clause-section
returns-in-Some-clause-section g c =
    let s = g.Q.TimerQueue.state c.args.queue.now in
    let t = g.Q.TimerQueue.state c.pop.new.queue in
    let answers = got c.args.direct s t c.pop.result c.in-Some.i c.in-Some.n c.in-Some.is c.pop.ensures in
    let lane = taken-lane c.args.direct c.args.records.now s t c.in-Some.i c.in-Some.n c.requires.free answers c.requires.kept in
    let number = taken-number c.args.direct c.args.records.now s t c.in-Some.i c.in-Some.n c.requires.free answers c.requires.kept in
    let picked = c.start-reply.ensures ∙ ap (λ d. pick_at d c.args.records.now (due_at c.args.records.now c.in-Some.i) c.last-at.result) lane ∙ ap (λ d. pick_at c.args.direct c.args.records.now d c.last-at.result) number in
    record {
      callouts = sym picked;
      queue = subst (λ at. Turns (cpu_of c.args.records.now s) ((pop_of c.args.direct, Got c.in-Some.i c.in-Some.n at) ∷ []) (cpu_of c.start-reply.new.self t)) (sym c.last-at.ensures)
          (taken-turn c.args.direct c.args.records.now s t c.in-Some.i c.in-Some.n c.requires.free answers c.requires.kept
          c.start-reply.new.self c.start-reply.result c.last-at.result picked);
    }
