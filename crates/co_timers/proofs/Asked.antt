-- A call that nothing refuses.
use Rattle.std.proofs.Common.{◌≡◌, ℕ, ◌<◌, Bool, true, false, cond, List, ◌++◌, length, refl, sym, ap, subst, ◌∙◌, arith}
use Rattle.std.specs.Prelude.{is_some, nat_lt, Result, Ok, Err}
use Rattle.std.proofs.lemmas.Bool.{ltb-true}
use Rattle.std.specs.declared.option.Option.{Option}
use Rattle.std.specs.declared.option.Option.TheVariants.{Some, None}
use Rattle.co_lock.specs.declared.held.Held.{Held}
use Rattle.co_lock.specs.Covers.{covers}
use Rattle.co_object.specs.declared.op.CallOp.{CallOp}
use Rattle.co_object.specs.declared.op.CallOp.TheVariants.{Plain, DrainTry}
use Rattle.co_object.specs.declared.op.PlainOp.TheVariants.{Reset, Schedule, Stop, AsyncDrain, Active, Pending, Deactivate, Init, Retire}
use Rattle.co_object.specs.declared.note.Note.{Note}
use Rattle.co_object.specs.declared.reply.Reply.{Reply}
use Rattle.co_object.specs.declared.state.State.{State}
use Rattle.co_object.specs.Callout.{call}
use Rattle.co_object.specs.History.{state}
use Rattle.co_desk.specs.Call.{IsCalled, NamesCpu}
use Rattle.co_desk.specs.Name.{ServiceName}
use Rattle.co_desk.specs.Params.{spec_at}
use Rattle.co_desk.specs.Views.{AreOf, PassesView, seen_of}
use Rattle.co_desk.specs.declared.params.Params.{Params}
use Rattle.co_service.proofs.Lasts.{called_same}
use Rattle.co_timers.specs.declared.answers.Refused.{Refused}
use Rattle.co_timers.specs.declared.answers.Refused.TheVariants.{NoCallout, NoCpu}
use Rattle.co_timers.specs.Acts.{IsAct, IsCallMade}
use Rattle.co_timers.specs.Drains.{is_try}
use Rattle.co_timers.specs.Answers.{IsSaid, names_cpu, refusal, uncovered}
use Rattle.co_timers.specs.Handles.{HandleView, IsHandle, next_act}
use Rattle.co_timers.proofs.Replies.{drain_said}
use Rattle.co_timers.proofs.Told.{all_sized, called_reply}

pub record IsCleared (p : Params) (hold : Option Held) (i : ℕ) (op : CallOp) : Type 0 where
  pub callout : i < length p.specs
  pub cpu : NamesCpu p.cpus op
  pub covered : covers hold (spec_at p i) op ≡ true

named : (cpus : ℕ) (op : CallOp) → names_cpu cpus op ≡ true → NamesCpu cpus op
named cpus (Plain (Reset due prec func arg None)) h = tt
named cpus (Plain (Reset due prec func arg (Some cpu))) h = ltb-true cpu cpus h
named cpus (Plain (Schedule due prec None)) h = tt
named cpus (Plain (Schedule due prec (Some cpu))) h = ltb-true cpu cpus h
named cpus (Plain Stop) h = tt
named cpus (Plain (AsyncDrain func)) h = tt
named cpus (Plain Active) h = tt
named cpus (Plain Pending) h = tt
named cpus (Plain Deactivate) h = tt
named cpus (Plain Init) h = tt
named cpus (Plain Retire) h = tt
named cpus (DrainTry took) h = tt

-- what was not refused may be asked
pub cleared : (p : Params) (hold : Option Held) (i : ℕ) (op : CallOp) → refusal p hold i op ≡ None → IsCleared p hold i op
cleared p hold i op none = go (nat_lt i (length p.specs)) (names_cpu p.cpus op) (covers hold (spec_at p i) op) refl refl refl none where
  go : (a b c : Bool) → nat_lt i (length p.specs) ≡ a → names_cpu p.cpus op ≡ b → covers hold (spec_at p i) op ≡ c
      → cond a (cond b (cond {A = Option Refused} c None (Some (uncovered op))) (Some NoCpu)) (Some NoCallout) ≡ None → IsCleared p hold i op
  go true true true x y z h = record { callout = ltb-true i (length p.specs) x; cpu = named p.cpus op y; covered = z }
  go true true false x y z h = absurd cc
  go true false c x y z h = absurd cc
  go false b c x y z h = absurd cc

pub made_of : (p q : PassesView) (act i : ℕ) (op : CallOp) (reply : Reply) (notes : List Note) → IsCalled p act i op reply notes q → IsCallMade p act i op reply q
made_of p q act i op reply notes c = record {
  notes = notes;
  called = c;
  answered = called_reply p q act i op reply notes c;
  same = called_same p q act i op reply notes c;
}

pub handle_of : (name : ServiceName) (params : Params) (p q : PassesView) (act i : ℕ) (op : CallOp) (reply : Reply) (notes : List Note) → IsHandle name params p → AreOf name params q → IsCalled p act i op reply notes q → IsHandle name params q
handle_of name params p q act i op reply notes h of c = record {
  of = of;
  sized = (let k = all_sized p q notes c.written in let s = h.sized in omega (arith, k, s));
}

-- the reply of an act has its word, where the callout's replies have one
pub said_by : {A : Type 0} (word : Reply → Option A) (p q : HandleView) (i : ℕ) (op : CallOp) (reply r : Reply) → ((s : State) → is_some (word (call s op).1) ≡ true) → Some r ≡ Some reply → IsAct p i op r q → is_some (word reply) ≡ true
said_by word p q i op reply r says same act =
    let it : r ≡ reply = cc in
    let h = act.made.answered in
    subst (λ x. is_some (word x) ≡ true) (sym h.alone ∙ it) (says (state (spec_at p.passes.params i) (seen_of p.passes i ++ h.between)))

-- what a call answers in the word of its reply
pub said_as : {A : Type 0} (word : Reply → Option A) (p q : HandleView) (hold : Option Held) (i : ℕ) (op : CallOp) (reply : Reply) (said : A) → word reply ≡ Some said → IsSaid Some p hold i op (Ok reply) q → IsSaid word p hold i op (Ok said) q
said_as word p q hold i op reply said is h =
    let same : Some h.1.0 ≡ Some reply = h.1.1 in
    let it : h.1.0 ≡ reply = cc in
    (h.0, (h.1.0, ap word it ∙ is, h.1.2))

-- a call that was made is told by its reply
pub made_said : (p q : HandleView) (params : Params) (hold : Option Held) (i : ℕ) (op : CallOp) (reply : Reply) → p.passes.params ≡ params → refusal params hold i op ≡ None → IsCallMade p.passes p.act i op reply q.passes → q.act ≡ next_act p.act → IsSaid Some p hold i op (Ok reply) q
made_said p q params hold i op reply same none made counts =
    (subst (λ (r : Params). refusal r hold i op ≡ None) (sym same) none, (reply, refl, record { made = made; counts = counts }))

-- a call that was refused, and changed nothing
pub refused_said : {A : Type 0} (word : Reply → Option A) (p q : HandleView) (params : Params) (hold : Option Held) (i : ℕ) (op : CallOp) (out : Result A Refused) (why : Refused) → out ≡ Err why → p.passes.params ≡ params → refusal params hold i op ≡ Some why → q ≡ p → IsSaid word p hold i op out q
refused_said word p q params hold i op out why is same refused unchanged =
    subst (λ (o : Result _ Refused). IsSaid word p hold i op o q) (sym is) (subst (λ (r : Params). refusal r hold i op ≡ Some why) (sym same) refused, unchanged)

pub tries : (p q : PassesView) (act i : ℕ) (took : Bool) (reply : Reply) → IsCallMade p act i (DrainTry took) reply q → is_try reply ≡ true
tries p q act i took reply m =
    let h = m.answered in
    let s : State = state (spec_at p.params i) (seen_of p i ++ h.between) in
    subst (λ x. is_try x ≡ true) (sym h.alone) (drain_said s took)
