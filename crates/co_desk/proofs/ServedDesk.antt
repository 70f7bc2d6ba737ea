-- A callout in service: what its operations need of its history and of who makes them, and where it stands after them.
use Rattle.std.proofs.Common.{◌≡◌, ℕ, ◌==◌, Bool, true, false, cond, List, refl, sym, ap, ◌∙◌, subst}
use Rattle.std.specs.Prelude.{is_some}
use Rattle.std.specs.declared.option.Option.{Option}
use Rattle.std.specs.declared.option.Option.TheVariants.{Some, None}
use Rattle.co_object.specs.declared.alone.Alone.{Alone}
use Rattle.co_object.specs.declared.note.Entry.{Entry}
use Rattle.co_object.specs.declared.op.Op.{Op}
use Rattle.co_object.specs.declared.op.Op.TheVariants.{Run as Serve}
use Rattle.co_object.specs.declared.op.RunOp.TheVariants.{Pick, Begin, End}
use Rattle.co_object.specs.declared.reply.Next.{Next}
use Rattle.co_object.specs.declared.reply.Reply.{Reply}
use Rattle.co_object.specs.declared.reply.Reply.TheVariants.{Ended}
use Rattle.co_object.specs.declared.spec.Spec.{Spec}
use Rattle.co_object.specs.declared.state.Arming.{Arming}
use Rattle.co_object.specs.declared.state.State.{State}
use Rattle.co_object.specs.declared.state.Run.{Run}
use Rattle.co_object.specs.declared.state.Run.TheVariants.{Idle, Running}
use Rattle.co_object.specs.Actors.{Actors, cpu_actor, interrupt_actor}
use Rattle.co_object.specs.Callout.{step}
use Rattle.co_object.specs.Entries.{is_end, is_pick}
use Rattle.co_object.specs.History.{reply_of, server, state_of}
use Rattle.co_object.specs.Journal as journal
use Rattle.co_object.specs.Queue.{Due}
use Rattle.co_object.specs.Serve.{next_of}
use Rattle.co_object.specs.Stand.{Listed, Deferred, stand_of, listed_cpu, is_free_at}
use Rattle.co_object.proofs.Changes.{Change, same, refused, armed, stopped, rested, awaits, cleared, retires, inits, drained, waits, held, fired, over, change}
use Rattle.co_object.proofs.Changes as changes
use Rattle.co_object.proofs.Numbers.{same_number, same_itself}
use Rattle.co_wheel.specs.Callouts.{Callouts, with_service}
use Rattle.co_wheel.specs.Turns.{pop_of, free_of}
use Rattle.co_desk.specs.declared.params.Params.{Params}
use Rattle.co_desk.specs.Desk.{alone_after, StandsAs, IsAtCpu}
use Rattle.co_desk.specs.Serving.{lane_actor}
use Rattle.co_desk.proofs.CallKept.{none_off}

pub one_of : {A : Type 0} (x y : A) → Some x ≡ Some y → x ≡ y
one_of x y e = cc

pub some_of : {A : Type 0} (o : Option A) → is_some o ≡ true → (x : A) × (o ≡ Some x)
some_of None is = absurd (cc)
some_of (Some x) is = (x, refl)

-- a record that is here stands as its history
pub history_of : (p : Params) (i : ℕ) (o : Option Alone) (h : Option (List Entry)) (a : Alone) → StandsAs p i o h → o ≡ Some a → (H : List Entry) × (h ≡ Some H) × (a ≡ alone_after p i H)
history_of p i None h a st is = absurd (cc)
history_of p i (Some x) None a st is = absurd st
history_of p i (Some x) (Some H) a st is = (H, refl, sym (one_of x a is) ∙ st)

-- a lane in service is no callout
pub here_then : (direct : Bool) (c : Callouts) (d : Option Due) → (with_service direct c d).here ≡ c.here
here_then false c d = refl
here_then true c d = refl

pub cpu_then : (direct : Bool) (c : Callouts) (d : Option Due) → (with_service direct c d).cpu ≡ c.cpu
cpu_then false c d = refl
cpu_then true c d = refl

-- what an operation that was possible changes
pub changed_so : (spec : Spec) (s : State) (op : Op) (t : State) (r : Reply) → step spec s op ≡ Some (t, r) → Change s op r t
changed_so spec s op t r is = subst (λ (x : State). Change s op r x) (ap (λ (o : Option (State × Reply)). state_of o s) is) (change spec s op r (ap reply_of is))

-- ---- who serves a lane

pub lane_server : (actors : Actors) (cpu : ℕ) (spec : Spec) (lane : Bool) → spec.direct ≡ lane → lane_actor lane actors cpu ≡ server actors spec cpu
lane_server actors cpu spec false is = ap (λ (b : Bool). cond b (interrupt_actor actors cpu) (cpu_actor actors cpu)) (sym is)
lane_server actors cpu spec true is = ap (λ (b : Bool). cond b (interrupt_actor actors cpu) (cpu_actor actors cpu)) (sym is)

pub lane_pops : (actors : Actors) (cpu actor : ℕ) (lane : Bool) → actor ≡ lane_actor lane actors cpu → journal.IsOfItsActor actors cpu actor (pop_of lane)
lane_pops actors cpu actor false is = is
lane_pops actors cpu actor true is = is

pub lane_frees : (actors : Actors) (cpu actor : ℕ) (lane : Bool) → actor ≡ lane_actor lane actors cpu → journal.IsOfItsActor actors cpu actor (free_of lane)
lane_frees actors cpu actor false is = is
lane_frees actors cpu actor true is = is

-- ---- where it stands

unarmed_at : (spec : Spec) (t : State) (cpu : ℕ) → is_free_at t.run cpu ≡ true → t.armed ≡ None → IsAtCpu cpu (record { spec = spec; state = t })
unarmed_at spec t cpu free none = record { runs = free; listed = λ at is. let never = none_off t.armed t.run none in absurd (cc) }

-- what was picked on this CPU is here, and isn't armed
pub at_picked : (spec : Spec) (s : State) (op : Op) (r : Reply) (t : State) (n cpu at : ℕ) → Change s op r t → op ≡ Serve (Pick n cpu at) → IsAtCpu cpu (record { spec = spec; state = t })
at_picked spec s op r t n cpu at (same _ _ _ _ not_pick) is = let picks = ap is_pick is in absurd (cc)
at_picked spec s op r t n cpu at (refused _ _ _ _) is = absurd (cc)
at_picked spec s op r t n cpu at (armed _ _ _ _ _ _ _ _ _ _ _) is = absurd (cc)
at_picked spec s op r t n cpu at (stopped _ _ _) is = absurd (cc)
at_picked spec s op r t n cpu at (rested _ _ _ _ _) is = absurd (cc)
at_picked spec s op r t n cpu at (awaits _ _ _ _ _) is = absurd (cc)
at_picked spec s op r t n cpu at (cleared _) is = absurd (cc)
at_picked spec s op r t n cpu at (retires _ _ _) is = absurd (cc)
at_picked spec s op r t n cpu at (inits _) is = absurd (cc)
at_picked spec s op r t n cpu at (drained _ _ _ _) is = absurd (cc)
at_picked spec s op r t n cpu at (waits _ _ _ _ _) is = absurd (cc)
at_picked spec s op r t n cpu at (held a m x y _ _ _ place) is = let here : x ≡ cpu = cc in unarmed_at spec t cpu (same_itself a.cpu cpu (same_number a.cpu x place ∙ here)) refl
at_picked spec s op r t n cpu at (fired a m x y _ _ _ place) is = let here : x ≡ cpu = cc in unarmed_at spec t cpu (same_itself a.cpu cpu (same_number a.cpu x place ∙ here)) refl
at_picked spec s op r t n cpu at (changes.begun _ _ _ _ _) is = absurd (cc)
at_picked spec s op r t n cpu at (over _ _ _ _ _) is = absurd (cc)

-- two runs that are free at the same CPUs list the same
same_listed : (o : Option Arming) (r r' : Run) → ((x : ℕ) → is_free_at r' x ≡ is_free_at r x) → listed_cpu (stand_of o r') ≡ listed_cpu (stand_of o r)
same_listed None r r' free = refl
same_listed (Some a) r r' free = ap (λ (b : Bool). listed_cpu (cond b (Listed a.cpu) (Deferred a.cpu))) (free a.cpu)

-- what begins here stays here
pub at_begun : (spec : Spec) (s : State) (op : Op) (r : Reply) (t : State) (n cpu here : ℕ) → Change s op r t → op ≡ Serve (Begin n cpu) → IsAtCpu here (record { spec = spec; state = s }) → IsAtCpu here (record { spec = spec; state = t })
at_begun spec s op r t n cpu here (same _ _ _ _ _) is at = at
at_begun spec s op r t n cpu here (refused _ _ _ _) is at = absurd (cc)
at_begun spec s op r t n cpu here (armed _ _ _ _ _ _ _ _ _ _ _) is at = absurd (cc)
at_begun spec s op r t n cpu here (stopped _ _ _) is at = absurd (cc)
at_begun spec s op r t n cpu here (rested _ _ _ _ _) is at = absurd (cc)
at_begun spec s op r t n cpu here (awaits _ _ _ _ _) is at = absurd (cc)
at_begun spec s op r t n cpu here (cleared _) is at = absurd (cc)
at_begun spec s op r t n cpu here (retires _ _ _) is at = absurd (cc)
at_begun spec s op r t n cpu here (inits _) is at = absurd (cc)
at_begun spec s op r t n cpu here (drained _ _ _ _) is at = absurd (cc)
at_begun spec s op r t n cpu here (waits _ _ _ _ _) is at = absurd (cc)
at_begun spec s op r t n cpu here (held a m x y _ _ _ place) is at = absurd (cc)
at_begun spec s op r t n cpu here (fired a m x y _ _ _ place) is at = absurd (cc)
at_begun spec s op r t n cpu here (changes.begun a m x was _) is at = record {
  runs = ap (λ (q : Run). is_free_at q here) (sym was) ∙ at.runs;
  listed = λ y h. at.listed y (sym (same_listed s.armed s.run (Running a.n a.cpu) (λ x. ap (λ (q : Run). is_free_at q x) (sym was))) ∙ h);
}
at_begun spec s op r t n cpu here (over _ _ _ _ _) is at = absurd (cc)

-- ---- an end

-- an end at a CPU, read backwards
pub record IsOver (s : State) (cpu : ℕ) (r : Reply) (t : State) : Type 0 where
  pub reply_is : r ≡ Ended s.adrain (next_of s.armed cpu) s.waiting
  pub armed_is : t.armed ≡ s.armed
  pub idle : t.run ≡ Idle

pub is_over : (s : State) (op : Op) (r : Reply) (t : State) (n cpu : ℕ) → Change s op r t → op ≡ Serve (End n cpu) → IsOver s cpu r t
is_over s op r t n cpu (same _ _ _ not_end _) is = let ends = ap is_end is in absurd (cc)
is_over s op r t n cpu (refused _ _ _ _) is = absurd (cc)
is_over s op r t n cpu (armed _ _ _ _ _ _ _ _ _ _ _) is = absurd (cc)
is_over s op r t n cpu (stopped _ _ _) is = absurd (cc)
is_over s op r t n cpu (rested _ _ _ _ _) is = absurd (cc)
is_over s op r t n cpu (awaits _ _ _ _ _) is = absurd (cc)
is_over s op r t n cpu (cleared _) is = absurd (cc)
is_over s op r t n cpu (retires _ _ _) is = absurd (cc)
is_over s op r t n cpu (inits _) is = absurd (cc)
is_over s op r t n cpu (drained _ _ _ _) is = absurd (cc)
is_over s op r t n cpu (waits _ _ _ _ _) is = absurd (cc)
is_over s op r t n cpu (held _ _ _ _ _ _ _ _) is = absurd (cc)
is_over s op r t n cpu (fired _ _ _ _ _ _ _ _) is = absurd (cc)
is_over s op r t n cpu (changes.begun _ _ _ _ _) is = absurd (cc)
is_over s op r t n cpu (over m x _ _ _) is = let here : x ≡ cpu = cc in record { reply_is = ap (λ (c : ℕ). Ended s.adrain (next_of s.armed c) s.waiting) here; armed_is = refl; idle = refl }

abbrev pub moved_to : Arming → Option Next
moved_to a = Some (record { n = a.n; cpu = a.cpu; due = a.due })

listed_idle : (o : Option Arming) (r : Run) (cpu : ℕ) → r ≡ Idle → next_of o cpu ≡ None → (x : ℕ) → listed_cpu (stand_of o r) ≡ Some x → x ≡ cpu
listed_idle None r cpu idle none x is = absurd (cc)
listed_idle (Some a) r cpu idle none x is = by_test (a.cpu == cpu) refl none where
  here : Some a.cpu ≡ Some x
  here = sym (ap (λ (q : Run). listed_cpu (stand_of (Some a) q)) idle) ∙ is

  by_test : (b : Bool) → (a.cpu == cpu) ≡ b → cond b None (moved_to a) ≡ None → x ≡ cpu
  by_test true e h = sym (one_of a.cpu x here) ∙ same_number a.cpu cpu e
  by_test false e h = absurd (cc)

-- what ends and isn't armed elsewhere is here
pub at_over : (spec : Spec) (s : State) (cpu : ℕ) (r : Reply) (t : State) → IsOver s cpu r t → next_of s.armed cpu ≡ None → IsAtCpu cpu (record { spec = spec; state = t })
at_over spec s cpu r t o none = record {
  runs = ap (λ (q : Run). is_free_at q cpu) o.idle;
  listed = λ x is. listed_idle t.armed t.run cpu o.idle (ap (λ (m : Option Arming). next_of m cpu) o.armed_is ∙ none) x is;
}
