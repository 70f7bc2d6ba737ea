-- A call on a callout that stands here: where it stands afterwards, and what its notes are.
use Rattle.std.proofs.Common.{◌≡◌, ℕ, Bool, true, false, cond, not, ◌&&◌, ◌==◌, refl, sym, ap, ◌∙◌}
use Rattle.std.specs.declared.option.Option.{Option}
use Rattle.std.specs.declared.option.Option.TheVariants.{Some, None}
use Rattle.co_object.specs.declared.alone.Alone.{Alone}
use Rattle.co_object.specs.declared.state.Arming.{Arming}
use Rattle.co_object.specs.declared.state.State.{State}
use Rattle.co_object.specs.declared.state.Run.{Run}
use Rattle.co_object.specs.declared.state.Run.TheVariants.{Idle, Picked, Cancelled, Running}
use Rattle.co_object.specs.declared.op.CallOp.{CallOp}
use Rattle.co_object.specs.declared.op.Op.{Op}
use Rattle.co_object.specs.declared.op.Op.TheVariants.{Call}
use Rattle.co_object.specs.declared.reply.Reply.{Reply}
use Rattle.co_object.specs.Arm.{cancel}
use Rattle.co_object.specs.Group.{off_of}
use Rattle.co_object.specs.Stand.{Listed, Deferred, stand_of, listed_cpu, is_free_at, off, is_idle}
use Rattle.co_object.proofs.Changes.{Change, same, refused, armed, stopped, rested, awaits, cleared, retires, inits, drained, waits, held, fired, begun, over, change}
use Rattle.co_object.proofs.Numbers.{same_number}
use Rattle.co_wheel.proofs.Calls.{Shift, stays, goes, comes, shift}
use Rattle.co_wheel.specs.Call.{is_away, called, reply}
use Rattle.co_desk.specs.Desk.{IsAtCpu}

free_cancel : (r : Run) (cpu : ℕ) → is_free_at (cancel r) cpu ≡ is_free_at r cpu
free_cancel Idle cpu = refl
free_cancel (Picked a) cpu = refl
free_cancel (Cancelled n at) cpu = refl
free_cancel (Running n at) cpu = refl

free_change : (s : State) (op : Op) (c : CallOp) (r : Reply) (t : State) (cpu : ℕ) → Change s op r t → op ≡ Call c → is_free_at t.run cpu ≡ is_free_at s.run cpu
free_change s op c r t cpu (same _ _ _ _ _) is = refl
free_change s op c r t cpu (refused _ _ _ _) is = free_cancel s.run cpu
free_change s op c r t cpu (armed _ _ _ _ _ _ _ _ _ _ _) is = free_cancel s.run cpu
free_change s op c r t cpu (stopped _ _ _) is = free_cancel s.run cpu
free_change s op c r t cpu (rested _ _ _ _ _) is = free_cancel s.run cpu
free_change s op c r t cpu (awaits _ _ _ _ _) is = refl
free_change s op c r t cpu (cleared _) is = refl
free_change s op c r t cpu (retires _ _ _) is = refl
free_change s op c r t cpu (inits _) is = refl
free_change s op c r t cpu (drained _ _ _ _) is = refl
free_change s op c r t cpu (waits _ _ _ _ _) is = refl
free_change s op c r t cpu (held _ _ _ _ _ _ _ _) is = cc
free_change s op c r t cpu (fired _ _ _ _ _ _ _ _) is = cc
free_change s op c r t cpu (begun _ _ _ _ _) is = cc
free_change s op c r t cpu (over _ _ _ _ _) is = cc

-- a service on two CPUs is on one
free_both : (r : Run) (x y : ℕ) → is_idle r ≡ false → is_free_at r x ≡ true → is_free_at r y ≡ true → x ≡ y
free_both Idle x y busy fx fy = absurd (cc)
free_both (Picked a) x y busy fx fy = sym (same_number a.cpu x fx) ∙ same_number a.cpu y fy
free_both (Cancelled n at) x y busy fx fy = sym (same_number at x fx) ∙ same_number at y fy
free_both (Running n at) x y busy fx fy = sym (same_number at x fx) ∙ same_number at y fy

pub none_off : (o : Option Arming) (r : Run) → o ≡ None → listed_cpu (stand_of o r) ≡ None
none_off o r is = ap (λ (x : Option Arming). listed_cpu (stand_of x r)) is

-- an arming that is listed is so at its own CPU, where the run is free
pub some_off : (a : Arming) (r : Run) (x : ℕ) → listed_cpu (stand_of (Some a) r) ≡ Some x → (is_free_at r a.cpu ≡ true) × (x ≡ a.cpu)
some_off a r x is = at_test (is_free_at r a.cpu) refl is where
  at_test : (b : Bool) → is_free_at r a.cpu ≡ b → listed_cpu (cond b (Listed a.cpu) (Deferred a.cpu)) ≡ Some x → (is_free_at r a.cpu ≡ true) × (x ≡ a.cpu)
  at_test true e h = (e, cc)
  at_test false e h = absurd (cc)

not_away : (idle : Bool) (to cpu : ℕ) → (idle && not (to == cpu)) ≡ false → idle ≡ true → to ≡ cpu
not_away true to cpu h e = at_test (to == cpu) refl h where
  at_test : (b : Bool) → (to == cpu) ≡ b → not b ≡ false → to ≡ cpu
  at_test true is g = same_number to cpu is
  at_test false is g = absurd (cc)
not_away false to cpu h e = absurd (cc)

listed_here : (cpu : ℕ) (s t : State) (r : Reply) → Shift s t r → is_away cpu r t ≡ false → is_free_at t.run cpu ≡ true → ((x : ℕ) → off s ≡ Some x → x ≡ cpu) → (x : ℕ) → off t ≡ Some x → x ≡ cpu
listed_here cpu s t r (stays _ _ _ _ _ kept) away free before x is = before x (sym kept ∙ is)
listed_here cpu s t r (goes _ _ _ _ none) away free before x is = let none_is = none_off t.armed t.run none in absurd (cc)
listed_here cpu s t r (comes _ a code some _) away free before x is =
    let there = some_off a t.run x (ap (λ (o : Option Arming). listed_cpu (stand_of o t.run)) (sym some) ∙ is) in
    at_test (is_idle t.run) refl away there where
      at_test : (b : Bool) → is_idle t.run ≡ b → (b && not (a.cpu == cpu)) ≡ false → (is_free_at t.run a.cpu ≡ true) × (x ≡ a.cpu) → x ≡ cpu
      at_test true idle near there = there.1 ∙ not_away true a.cpu cpu near refl
      at_test false busy near there = there.1 ∙ free_both t.run a.cpu cpu busy there.0 free

module _ (cpu : ℕ) (a : Alone) (op : CallOp) (at : IsAtCpu cpu a) where
  pub free_after : is_free_at (called a op).state.run cpu ≡ true
  free_after = free_change a.state (Call op) op (reply a op) (called a op).state cpu (change a.spec a.state (Call op) (reply a op) refl) refl ∙ at.runs

  -- a callout that doesn't leave is here after a call
  pub at_after : is_away cpu (reply a op) (called a op).state ≡ false → IsAtCpu cpu (called a op)
  at_after away = record {
    runs = free_after;
    listed = listed_here cpu a.state (called a op).state (reply a op) (shift a.state op) away free_after at.listed;
  }

  gone_here : (t : State) (r : Reply) → Shift a.state t r → (x : ℕ) → off_of r ≡ Some x → x ≡ cpu
  gone_here t r (stays _ _ _ none _ _) x is = absurd (cc)
  gone_here t r (goes _ _ _ off_is _) x is = at.listed x (sym off_is ∙ is)
  gone_here t r (comes _ b code _ _) x is = at.listed x is

  -- what a call takes away stood in this CPU's queue
  pub removed_here : (x : ℕ) → off_of (reply a op) ≡ Some x → x ≡ cpu
  removed_here = gone_here (called a op).state (reply a op) (shift a.state op)
