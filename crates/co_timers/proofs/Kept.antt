-- What the calls of a function keep: the actor's handle, and what it has in service.
use Rattle.std.proofs.Common.{ℕ, Bool, List, [], ◌∷◌, ◌++◌, refl, sym, ◌∙◌, subst}
use Rattle.co_hand.specs.declared.fire.Fire.{Fire}
use Rattle.co_hand.specs.declared.port_call.PortCall.{PortCall}
use Rattle.co_hand.specs.declared.port_call.PortReply.{PortReply}
use Rattle.co_hand.specs.declared.port_call.PortReply.TheVariants.{NotHeld, Reply as Answered}
use Rattle.co_lock.specs.declared.held.Held.{Held}
use Rattle.co_object.specs.declared.note.Note.{Note}
use Rattle.co_object.specs.declared.op.CallOp.TheVariants.{Plain}
use Rattle.co_object.specs.declared.op.PlainOp.{PlainOp}
use Rattle.co_object.specs.Queue.{Due}
use Rattle.co_desk.specs.Name.{ServiceName}
use Rattle.co_desk.specs.declared.outs.Taken.{Taken}
use Rattle.co_desk.specs.declared.outs.Taken.TheVariants.{Empty, Took}
use Rattle.co_desk.specs.Services.{IsTaken}
use Rattle.co_desk.specs.Serving.{ServiceStage}
use Rattle.co_desk.specs.Views.{PassesView}
use Rattle.co_desk.specs.Writes.{Writes}
use Rattle.co_desk.specs.declared.params.Params.{Params}
use Rattle.co_service.proofs.Lasts.{called_free, called_serving}
use Rattle.co_desk.proofs.SameActor.{writes_keep}
use Rattle.std.specs.declared.option.Option.{Option}
use Rattle.co_hand.specs.Handlers.{Needs}
use Rattle.std.specs.declared.option.Option.TheVariants.{Some, None}
use Rattle.co_timers.specs.Handles.{HandleView, IsHandle}
use Rattle.co_timers.specs.Ports.{AreCalls, CameTo, IsPortCall}
use Rattle.co_timers.specs.Rounds.{DrainsIf, IsAbout, IsAtEase, RunsIf}
use Rattle.co_timers.proofs.Told.{all_sized}

-- the same actor's passes of the same service, after entries
pub handle_after : (name : ServiceName) (params : Params) (p q : PassesView) (notes : List Note) → IsHandle name params p → Writes p notes q → IsHandle name params q
handle_after name params p q notes h w =
    let same = writes_keep p q notes w in record {
      of = record { name_is = same.name ∙ h.of.name_is; params_are = same.params ∙ h.of.params_are };
      sized = all_sized p q notes w ∙ h.sized;
    }

-- a function's calls with one more
pub calls_more : (p q r : HandleView) (calls : List PortCall) (call : PortCall) → AreCalls p calls q → IsPortCall q call r → AreCalls p (calls ++ call ∷ []) r
calls_more p q r [] call are one = (r, subst (λ (x : HandleView). IsPortCall x call r) are one, refl)
calls_more p q r (c ∷ calls) call are one = (are.0, are.1, calls_more are.0 q r calls call are.2 one)

module _ (name : ServiceName) (params : Params) (direct : Bool) (cpu : ℕ) (d : Due) (far : ServiceStage) where
  abbrev AboutIt : PassesView → Type 0
  AboutIt = IsAbout name params direct cpu d far

  came_about : (p q : HandleView) (hold : Option Held) (i : ℕ) (op : PlainOp) (answer : PortReply) → CameTo p hold i op answer q → AboutIt p.passes → AboutIt q.passes
  came_about p q hold i op NotHeld came is = subst (λ (x : HandleView). AboutIt x.passes) (sym came.1) is
  came_about p q hold i op (Answered reply) came is =
      let made = came.1.made in record {
        below = is.below;
        handle = handle_after name params p.passes q.passes made.notes is.handle made.called.written;
        serving = called_serving p.passes q.passes p.act i (Plain op) reply made.notes made.called direct cpu d far is.serving;
      }

  pub calls_about : (p q : HandleView) (calls : List PortCall) → AreCalls p calls q → AboutIt p.passes → AboutIt q.passes
  calls_about p q [] are is = subst (λ (x : HandleView). AboutIt x.passes) (sym are) is
  calls_about p q (c ∷ calls) are is = calls_about are.0 q calls are.2 (came_about p are.0 are.1.hold c.i c.op c.answer are.1.came is)

  module _ {H : Type 0} (needs : Needs) (runs : H → Fire → Option ℕ → Option Held → List PortCall → H → Type 0) where
    pub runs_about : (before : H) (fire : Option Fire) (hold : Option Held) (p : HandleView) (after : H) (q : HandleView) → RunsIf needs runs before fire hold p after q → AboutIt p.passes → AboutIt q.passes
    runs_about before None hold p after q ran is = subst (λ (x : HandleView). AboutIt x.passes) (sym ran.1) is
    runs_about before (Some fire) hold p after q ran is = calls_about p q ran.calls ran.are is

module _ (name : ServiceName) (params : Params) (direct : Bool) (cpu : ℕ) where
  abbrev AtEase : PassesView → Type 0
  AtEase = IsAtEase name params direct cpu

  came_free : (p q : HandleView) (hold : Option Held) (i : ℕ) (op : PlainOp) (answer : PortReply) → CameTo p hold i op answer q → AtEase p.passes → AtEase q.passes
  came_free p q hold i op NotHeld came is = subst (λ (x : HandleView). AtEase x.passes) (sym came.1) is
  came_free p q hold i op (Answered reply) came is =
      let made = came.1.made in record {
        below = is.below;
        handle = handle_after name params p.passes q.passes made.notes is.handle made.called.written;
        free = called_free p.passes q.passes p.act i (Plain op) reply made.notes made.called direct cpu is.free;
      }

  calls_free : (p q : HandleView) (calls : List PortCall) → AreCalls p calls q → AtEase p.passes → AtEase q.passes
  calls_free p q [] are is = subst (λ (x : HandleView). AtEase x.passes) (sym are) is
  calls_free p q (c ∷ calls) are is = calls_free are.0 q calls are.2 (came_free p are.0 are.1.hold c.i c.op c.answer are.1.came is)

  module _ {H : Type 0} (needs : Needs) (runs : H → Fire → Option ℕ → Option Held → List PortCall → H → Type 0) where
    pub drains_free : (before : H) (fire : ℕ → Fire) (drain : Option ℕ) (p : HandleView) (after : H) (q : HandleView) → DrainsIf needs runs before fire drain p after q → AtEase p.passes → AtEase q.passes
    drains_free before fire None p after q ran is = subst (λ (x : HandleView). AtEase x.passes) (sym ran.1) is
    drains_free before fire (Some func) p after q ran is = calls_free p q ran.calls ran.are is

-- what is taken leaves the actor's handle
pub taken_after : (name : ServiceName) (params : Params) (direct : Bool) (p q : PassesView) (cpu act : ℕ) (taken : Taken) → IsHandle name params p → IsTaken direct p cpu act taken q → IsHandle name params q
taken_after name params direct p q cpu act (Empty note) h is = handle_after name params p q (note ∷ []) h is.written
taken_after name params direct p q cpu act (Took i n time reply pop pick) h is = handle_after name params p q (pop ∷ pick ∷ []) h is.written
