-- A call that is due of a callout that stands still: what the wheel and the actor's place have before it.
use Rattle.std.proofs.Common.{◌≡◌, ℕ, ◌<◌, ◌⊎◌, inl, inr, true, false, length, refl, sym, ◌∙◌, subst, Option, Some, None}
use Rattle.co_object.specs.declared.State.{State}
use Rattle.co_object.specs.declared.Op.TheVariants.{Call}
use Rattle.co_object.specs.declared.CallOp.{CallOp}
use Rattle.co_object.specs.declared.Reply.{Reply}
use Rattle.co_object.specs.Callout.{call}
use Rattle.co_object.specs.Group.{off_of}
use Rattle.co_object.specs.Stand.{is_free_at, off}
use Rattle.co_program.specs.declared.action.Asked.TheVariants.{Callout}
use Rattle.co_program.specs.declared.script.Script.{Script}
use Rattle.co_program.specs.Actors.{actor_count, role_of}
use Rattle.co_program.specs.Cursor.{Cursor}
use Rattle.co_program.specs.Action.{Asks, action_for, spec_at}
use Rattle.co_program.specs.Scripts.{IsScript}
use Rattle.co_wheel.specs.Call.{is_away, call_at}
use Rattle.co_wheel.specs.Callouts.{callout}
use Rattle.co_wheel.specs.Cpu.{Cpu as WheelOf}
use Rattle.co_wheel.specs.Parcel.{Parcel}
use Rattle.co_world.specs.World.{World}
use Rattle.co_world.specs.Blocked.{is_moving}
use Rattle.co_core.specs.Stored.{Stored, wheel_at}
use Rattle.co_world.specs.Placed.{IsPlaced}
use Rattle.co_core.specs.Stands.{IsAtWheel, ShowsStored, alone_in}
use Rattle.co_world.proofs.basics.Actions.{IsAction}
use Rattle.co_core.proofs.calls.Ends.{Ends, ends, took_out}
use Rattle.co_world.proofs.kept.Operations.{Did, did_call}
use Rattle.co_world.proofs.kept.ByOwnSteps.{callout_view}
use Rattle.co_program.proofs.Homes.{CpusFit, fit_call, NamesCpu}
use Rattle.co_world.proofs.kept.Invariant.{states_of, cursors_of}
use Rattle.co_world.proofs.sections.Ways.{stands_of}
use Rattle.co_core.proofs.calls.Wheels.{at_wheel, answer_by}

pub record Calling (s : Script) (x : Stored) (w : World) (a act i cpu : ℕ) (op : CallOp) : Type 0 where
  pub ok : IsScript s
  pub stored : ShowsStored s x w
  pub placed : IsPlaced s w
  pub may : a < actor_count s
  pub due : action_for s a (cursors_of w a) ≡ Asks act (Callout i (Call op))
  pub still : is_moving s w i ≡ false
  pub known : i < length s.timers
  pub names : NamesCpu s.cpus op
  pub stand : stands_of w i ≡ cpu

module _ {s : Script} {x : Stored} {w : World} {a act i cpu : ℕ} {op : CallOp} (calling : Calling s x w a act i cpu op) where
  abbrev st : State
  st = states_of w i

  abbrev t' : State
  t' = (call st op).0

  abbrev r' : Reply
  r' = (call st op).1

  abbrev c0 : Cursor
  c0 = record (cursors_of w a) { removed = None }

  abbrev before : WheelOf
  before = wheel_at x cpu

  pub on : cpu < s.cpus
  on = subst (λ (y : ℕ). y < s.cpus) calling.stand (calling.placed.cpus_known i calling.known).stand

  pub wheel : IsAtWheel s w cpu before
  wheel = calling.stored.each_wheel cpu on

  pub there : callout before.callouts i ≡ Some (alone_in s w i)
  there = at_wheel s x w calling.stored i cpu calling.known on calling.stand calling.still

  pub view : ((cursors_of w a).parcel ≡ None) × IsAction s (role_of s a) c0 c0.stage (Asks act (Callout i (Call op)))
  view = callout_view s a (cursors_of w a) act i (Call op) calling.due

  pub did : Did (spec_at s i) st (Call op) r' t'
  did = did_call (spec_at s i) st op

  pub free : is_free_at st.run cpu ≡ true
  free = subst (λ (y : ℕ). is_free_at st.run y ≡ true) calling.stand (calling.placed.runs i)

  listed_here : (y : ℕ) → off st ≡ Some y → cpu ≡ y
  listed_here y is = sym calling.stand ∙ calling.placed.listed i y calling.still is

  pub fit : CpusFit s.cpus t'
  fit = fit_call s.cpus calling.ok.cpus.0 st op (record { home = (calling.placed.cpus_known i calling.known).home; target = (calling.placed.cpus_known i calling.known).target }) calling.names

  pub end : Ends c0 i cpu op t' r'
  end = ends c0 i cpu (spec_at s i) st view.0 free listed_here op t' r' did

  -- what is taken out is taken out here
  pub gone_here : (y : ℕ) → off_of r' ≡ Some y → y ≡ cpu
  gone_here y is = go (took_out (spec_at s i) st t' op r' did) where
    go : (off_of r' ≡ None) ⊎ (off_of r' ≡ off st) → y ≡ cpu
    go (inl none) = let clash : None ≡ Some y = sym none ∙ is in cc
    go (inr same) = sym (listed_here y (sym same ∙ is))

  -- the wheel's reply is the plain callout's
  pub answer_reply : (reply : Reply) (out : Option Parcel) (after : WheelOf) → Some (after.callouts, reply, out) ≡ call_at before.callouts i op → reply ≡ r'
  answer_reply reply out after answers = (answer_by before i op (alone_in s w i) there (is_away before.callouts.cpu r' t') after.callouts reply out refl answers).reply_is
