-- The calls that are made through a port over a running service.
use Rattle.std.specs.Prelude.{◌≡◌, ℕ, ◌+◌, true, false, List, [], ◌∷◌}
use Rattle.std.specs.declared.option.Option.{Option}
use Rattle.co_hand.specs.declared.port_call.PortCall.{PortCall}
use Rattle.co_hand.specs.declared.port_call.PortReply.{PortReply}
use Rattle.co_hand.specs.declared.port_call.PortReply.TheVariants.{NotHeld, Reply as Answered}
use Rattle.co_life.specs.Rule.{capped}
use Rattle.co_lock.specs.declared.held.Held.{Held}
use Rattle.co_lock.specs.Covers.{covers}
use Rattle.co_object.specs.declared.note.Note.{Note}
use Rattle.co_object.specs.declared.op.CallOp.TheVariants.{Plain}
use Rattle.co_object.specs.declared.op.PlainOp.{PlainOp}
use Rattle.co_desk.specs.Call.{IsCalled}
use Rattle.co_desk.specs.Params.{spec_at}
use Rattle.co_desk.specs.Views.{PassesView}

-- who makes the calls: what it has seen of the service, and the number of its next act
pub record CallerView : Type 0 where
  pub passes : PassesView
  pub act : ℕ

-- one act more. From the last number that 64 bits hold on all acts have that number
abbrev pub next_act : ℕ → ℕ
next_act act = capped (act + 1)

-- what a call under this hold came to: the service has made it, and this was its reply; or the hold doesn't cover it, and
-- nothing was made
abbrev pub CameTo : PassesView → ℕ → Option Held → ℕ → PlainOp → PortReply → PassesView → Type 0
CameTo p act hold i op NotHeld q = (covers hold (spec_at p.params i) (Plain op) ≡ false) × (q ≡ p)
CameTo p act hold i op (Answered reply) q = (covers hold (spec_at p.params i) (Plain op) ≡ true) × ((notes : List Note) × IsCalled p act i (Plain op) reply notes q)

-- a call, which has an act's number of its own, made or not
pub record IsPortCall (p : CallerView) (call : PortCall) (q : CallerView) : Type 0 where
  pub hold : Option Held
  pub came : CameTo p.passes p.act hold call.i call.op call.answer q.passes
  pub counts : q.act ≡ next_act p.act

-- calls, one after the other
abbrev pub AreCalls : CallerView → List PortCall → CallerView → Type 0
AreCalls p [] q = q ≡ p
AreCalls p (call ∷ calls) q = (between : CallerView) × IsPortCall p call between × AreCalls between calls q
