-- After every schedule each entry of a history is possible where it stands, and has the object's reply.
use Rattle.std.proofs.Common.{◌≡◌, ℕ, List, [], ◌∷◌, ◌++◌, refl, sym, ap, ◌∙◌, Option, Some, None}
use Rattle.std.specs.Prelude.{⊤}
use Rattle.std.specs.List.{fold, AllByRecursion}
use Rattle.std.proofs.lemmas.Grind.{fold-append}
use Rattle.co_object.specs.declared.State.{State}
use Rattle.co_object.specs.declared.Reply.{Reply}
use Rattle.co_object.specs.declared.Op.{Op}
use Rattle.co_object.specs.declared.QOp.{QOp}
use Rattle.co_object.specs.declared.QOp.TheVariants.{Insert, Remove, Scan, Pop, Free, PopDirect, FreeDirect}
use Rattle.co_object.specs.declared.QReply.{QReply}
use Rattle.co_object.specs.declared.Entry.{Entry}
use Rattle.co_object.specs.declared.QEntry.{QEntry}
use Rattle.co_object.specs.Machine.{IsLegalFrom}
use Rattle.co_object.specs.Callout.{opening, step as callout_step}
use Rattle.co_object.specs.History.{next, state, reply_of, state_of}
use Rattle.co_object.specs.Queue.{Queue as TimerQueue, empty_queue}
use Rattle.co_object.specs.Journal.{step as queue_step, next as queue_next, queue, queue_of, reply_of as queue_reply_of}
use Rattle.co_program.specs.declared.Script.{Script}
use Rattle.co_program.specs.Cursor.{Cursor}
use Rattle.co_program.specs.Action.{spec_at}
use Rattle.co_program.specs.declared.Asked.{Asked}
use Rattle.co_program.specs.declared.Asked.TheVariants.{Callout, Queue, Itself}
use Rattle.co_world.specs.World.{World, Timer, Cpu, open_world, with_cursor}
use Rattle.co_world.specs.Step.{landed, are_direct, callout_answers, queue_answers, world_answers}
use Rattle.co_world.specs.Laws.{HaveReplies, reached}
use Rattle.co_world.proofs.basics.Updates.{at_updated}
use Rattle.co_world.proofs.schedules.AnyAnswers.{run_keeps}

-- one entry more at the end of a history
legal_more : {S E : Type 0} (next : S → E → S) (May : S → E → Type 0) (s : S) (H : List E) (e : E) → IsLegalFrom next May s H → May (fold next s H) e → IsLegalFrom next May s (H ++ e ∷ [])
legal_more next May s [] e legal may = (may, tt)
legal_more next May s (x ∷ H) e legal may = (legal.0, legal_more next May (next s x) H e legal.1 may)

-- a callout's state is that of its history, each of whose entries has its reply
pub record IsTimer (s : Script) (i : ℕ) (timer : Timer) : Type 0 where
  pub state : timer.state ≡ state (spec_at s i) timer.history
  pub replies : IsLegalFrom (next (spec_at s i)) (λ st e. reply_of (callout_step (spec_at s i) st e.op) ≡ Some e.reply) (opening 0) timer.history

pub record IsCpu (s : Script) (cpu : Cpu) : Type 0 where
  pub queue : cpu.queue ≡ queue s.buckets (are_direct s) cpu.journal
  pub replies : IsLegalFrom (queue_next s.buckets (are_direct s)) (λ q e. queue_reply_of (queue_step s.buckets (are_direct s) q e.op) ≡ Some e.reply) empty_queue cpu.journal

pub record Replied (s : Script) (w : World) : Type 0 where
  pub timers : (i : ℕ) → IsTimer s i (w.timers i)
  pub cpus : (cpu : ℕ) → IsCpu s (w.cpus cpu)

timer_more : (s : Script) (i a act : ℕ) (op : Op) (timer : Timer) (outcome : State × Reply) → callout_step (spec_at s i) timer.state op ≡ Some outcome → IsTimer s i timer →
    IsTimer s i (record timer { state = outcome.0; history = timer.history ++ record { actor = a; act = act; op = op; reply = outcome.1 } ∷ [] })
timer_more s i a act op timer outcome steps is =
    let e : Entry = record { actor = a; act = act; op = op; reply = outcome.1 } in
    let here : callout_step (spec_at s i) (state (spec_at s i) timer.history) op ≡ Some outcome = ap (λ (st : State). callout_step (spec_at s i) st op) (sym is.state) ∙ steps in
    record {
      state =
          sym (ap (λ (o : Option (State × Reply)). state_of o (state (spec_at s i) timer.history)) here)
          ∙ sym (fold-append (next (spec_at s i)) (opening 0) timer.history (e ∷ []));
      replies =
          legal_more (next (spec_at s i)) (λ st x. reply_of (callout_step (spec_at s i) st x.op) ≡ Some x.reply) (opening 0) timer.history e is.replies (ap reply_of here);
    }

cpu_more : (s : Script) (a act : ℕ) (op : QOp) (cpu : Cpu) (outcome : TimerQueue × QReply) → queue_step s.buckets (are_direct s) cpu.queue op ≡ Some outcome → IsCpu s cpu →
    IsCpu s (record { queue = outcome.0; journal = cpu.journal ++ record { actor = a; act = act; op = op; reply = outcome.1 } ∷ [] })
cpu_more s a act op cpu outcome steps is =
    let e : QEntry = record { actor = a; act = act; op = op; reply = outcome.1 } in
    let here : queue_step s.buckets (are_direct s) (queue s.buckets (are_direct s) cpu.journal) op ≡ Some outcome = ap (λ (q : TimerQueue). queue_step s.buckets (are_direct s) q op) (sym is.queue) ∙ steps in
    record {
      queue =
          sym (ap (λ (o : Option (TimerQueue × QReply)). queue_of o (queue s.buckets (are_direct s) cpu.journal)) here)
          ∙ sym (fold-append (queue_next s.buckets (are_direct s)) empty_queue cpu.journal (e ∷ []));
      replies =
          legal_more (queue_next s.buckets (are_direct s)) (λ q x. queue_reply_of (queue_step s.buckets (are_direct s) q x.op) ≡ Some x.reply) empty_queue cpu.journal e is.replies (ap queue_reply_of here);
    }

replied_callout : (s : Script) (w : World) (a act i : ℕ) (op : Op) (outcome : Option (State × Reply)) → callout_step (spec_at s i) (w.timers i).state op ≡ outcome → Replied s w → Replied s (callout_answers s w a act i op outcome)
replied_callout s w a act i op None steps replied = replied
replied_callout s w a act i op (Some outcome) steps replied =
    let e : Entry = record { actor = a; act = act; op = op; reply = outcome.1 } in
    record {
      timers = λ j. at_updated (IsTimer s) w.timers i (record (w.timers i) { state = outcome.0; history = (w.timers i).history ++ e ∷ [] }) j
          (timer_more s i a act op (w.timers i) outcome steps (replied.timers i)) (replied.timers j);
      cpus = replied.cpus;
    }

landed_timers : (s : Script) (w : World) (cpu : ℕ) (op : QOp) → ((i : ℕ) → IsTimer s i (w.timers i)) → (j : ℕ) → IsTimer s j ((landed w cpu op) j)
landed_timers s w cpu (Insert i n t) are j = at_updated (IsTimer s) w.timers i (record (w.timers i) { stand = cpu }) j (record { state = (are i).state; replies = (are i).replies }) (are j)
landed_timers s w cpu (Remove i) are j = are j
landed_timers s w cpu (Scan now) are j = are j
landed_timers s w cpu Pop are j = are j
landed_timers s w cpu Free are j = are j
landed_timers s w cpu PopDirect are j = are j
landed_timers s w cpu FreeDirect are j = are j

replied_queue : (s : Script) (w : World) (a act cpu : ℕ) (op : QOp) (outcome : Option (TimerQueue × QReply)) → queue_step s.buckets (are_direct s) (w.cpus cpu).queue op ≡ outcome → Replied s w → Replied s (queue_answers s w a act cpu op outcome)
replied_queue s w a act cpu op None steps replied = replied
replied_queue s w a act cpu op (Some outcome) steps replied =
    let e : QEntry = record { actor = a; act = act; op = op; reply = outcome.1 } in
    record {
      timers = landed_timers s w cpu op replied.timers;
      cpus = λ j. at_updated (λ k (x : Cpu). IsCpu s x) w.cpus cpu (record { queue = outcome.0; journal = (w.cpus cpu).journal ++ e ∷ [] }) j
          (cpu_more s a act op (w.cpus cpu) outcome steps (replied.cpus cpu)) (replied.cpus j);
    }

replied_answer : (s : Script) (w : World) (a act : ℕ) (asked : Asked) → ⊤ → Replied s w → Replied s (world_answers s w a act asked)
replied_answer s w a act (Callout i op) may replied = replied_callout s w a act i op (callout_step (spec_at s i) (w.timers i).state op) refl replied
replied_answer s w a act (Queue cpu op) may replied = replied_queue s w a act cpu op (queue_step s.buckets (are_direct s) (w.cpus cpu).queue op) refl replied
replied_answer s w a act (Itself kind) may replied = record { timers = replied.timers; cpus = replied.cpus }

replied_place : (s : Script) (w : World) (a : ℕ) (to : Cursor) → ⊤ → Replied s w → Replied s (with_cursor w a to)
replied_place s w a to may replied = record { timers = replied.timers; cpus = replied.cpus }

replied_open : (s : Script) → Replied s (open_world s)
replied_open s = record { timers = λ i. record { state = refl; replies = tt }; cpus = λ cpu. record { queue = refl; replies = tt } }

anyone : (schedule : List ℕ) → AllByRecursion (λ a. ⊤) schedule
anyone [] = tt
anyone (a ∷ schedule) = (tt, anyone schedule)

pub replied_reached : (s : Script) (schedule : List ℕ) → Replied s (reached s schedule)
replied_reached s schedule = run_keeps s (λ a. ⊤) (Replied s) (replied_answer s) (replied_place s) schedule (open_world s) (anyone schedule) (replied_open s)

-- every reply of every schedule is that of the plain object
pub have_replies : (s : Script) (schedule : List ℕ) → HaveReplies s (reached s schedule)
have_replies s schedule = record {
  timers = λ i. ((replied_reached s schedule).timers i).replies;
  cpus = λ cpu. ((replied_reached s schedule).cpus cpu).replies;
}
