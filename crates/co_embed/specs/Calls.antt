-- What a caller's operation does.
use Rattle.std.specs.Prelude.{◌≡◌, ℕ, Bool, true, false, List, get_or, set, Result, Ok, Err}
use Rattle.std.specs.declared.option.Option.{Option}
use Rattle.std.specs.declared.option.Option.TheVariants.{Some, None}
use Rattle.co_object.specs.declared.op.CallOp.{CallOp}
use Rattle.co_object.specs.declared.op.CallOp.TheVariants.{Plain}
use Rattle.co_object.specs.declared.op.PlainOp.TheVariants.{AsyncDrain}
use Rattle.co_object.specs.declared.reply.Reply.{Reply}
use Rattle.co_object.specs.declared.reply.Reply.TheVariants.{Armed, Stopped, Yes}
use Rattle.co_wheel.specs.declared.outs.CallOut.{CallOut}
use Rattle.co_wheel.specs.Callouts.{is_here}
use Rattle.co_wheel.specs.Parcel.{Parcel}
use Rattle.co_wheel.specs.Sections.{IsCall}
use Rattle.co_embed.specs.declared.refusal.Refusal.{Refusal}
use Rattle.co_embed.specs.declared.refusal.Refusal.TheVariants.{NotHere, Invalid}
use Rattle.co_embed.specs.declared.reply.CalloutReply.{CalloutReply}
use Rattle.co_embed.specs.Embedded.{Embedded}
use Rattle.co_embed.specs.declared.parcel.CalloutParcel.{CalloutParcel}
use Rattle.co_embed.specs.declared.times.When.{When}
use Rattle.co_embed.specs.Carrying.{IsParcelOf}
use Rattle.co_embed.specs.Times.{are_times}
use Rattle.co_embed.specs.Told.{told_call}

-- callout i answers by its own rule and its queue's; the words stay
pub record IsDone (before after : Embedded) (i : ℕ) (op : CallOp) (out : CallOut) : Type 0 where
  pub call : IsCall before.cpu after.cpu i op out
  pub funcs : after.funcs ≡ before.funcs
  pub drains : after.drains ≡ before.drains

pub record IsAbsent (before after : Embedded) (i : ℕ) (refusal : Refusal) : Type 0 where
  pub cause : refusal ≡ NotHere
  pub absent : is_here before.cpu.callouts i ≡ false
  pub same : after ≡ before

abbrev pub IsCalled : Result (Unit {0}) Refusal → (before after : Embedded) → ℕ → CallOp → CallOut → Type 0
IsCalled (Ok u) before after i op out = IsDone before after i op out
IsCalled (Err refusal) before after i op out = IsAbsent before after i refusal

-- callout i answers, and the reply is told
pub record IsAnswered (before after : Embedded) (i : ℕ) (op : CallOp) (is : CalloutReply) : Type 0 where
  pub out : CallOut
  pub done : IsDone before after i op out
  pub told : is ≡ told_call i out

abbrev pub Answers : Result (Unit {0}) Refusal → (before after : Embedded) → ℕ → CallOp → (was is : CalloutReply) → Type 0
Answers (Ok u) before after i op was is = IsAnswered before after i op is
Answers (Err refusal) before after i op was is = IsAbsent before after i refusal × (is ≡ was)

-- ---- what arms

-- where an arming is accepted, and has a new function, that is the callout's
abbrev pub kept_func : List ℕ → ℕ → Option ℕ → Reply → List ℕ
kept_func funcs i None reply = funcs
kept_func funcs i (Some func) (Armed code n cpu off) = set funcs i func
kept_func funcs i (Some func) _ = funcs

-- a callout that leaves is in the parcel, with its function
abbrev pub IsSent : Option Parcel → (func : ℕ) → (was is : CalloutParcel) → Type 0
IsSent None func was is = is ≡ was
IsSent (Some p) func was is = IsParcelOf p func is

pub record IsArmed (before after : Embedded) (i : ℕ) (op : CallOp) (func : Option ℕ) (is : CalloutReply) (parcel_was parcel_is : CalloutParcel) : Type 0 where
  pub out : CallOut
  pub call : IsCall before.cpu after.cpu i op out
  pub funcs : after.funcs ≡ kept_func before.funcs i func out.reply
  pub drains : after.drains ≡ before.drains
  pub told : is ≡ told_call i out
  pub sent : IsSent out.leaves (get_or after.funcs i 0) parcel_was parcel_is

abbrev pub ArmedOr : Result (Unit {0}) Refusal → (before after : Embedded) → ℕ → CallOp → Option ℕ → (was is : CalloutReply) → (parcel_was parcel_is : CalloutParcel) → Type 0
ArmedOr (Ok u) before after i op func was is parcel_was parcel_is = IsArmed before after i op func is parcel_was parcel_is
ArmedOr (Err refusal) before after i op func was is parcel_was parcel_is = IsAbsent before after i refusal × (is ≡ was) × (parcel_is ≡ parcel_was)

-- neither the CPU nor the reply nor the parcel has changed
abbrev pub Unchanged : (before after : Embedded) → (was is : CalloutReply) → (parcel_was parcel_is : CalloutParcel) → Type 0
Unchanged before after was is parcel_was parcel_is = (after ≡ before) × (is ≡ was) × (parcel_is ≡ parcel_was)

abbrev pub ArmAnswers : Result (Unit {0}) Refusal → (before after : Embedded) → ℕ → When → CallOp → Option ℕ → (was is : CalloutReply) → (parcel_was parcel_is : CalloutParcel) → Type 0
ArmAnswers (Ok u) before after i when op func was is parcel_was parcel_is =
    (are_times when ≡ true) × IsArmed before after i op func is parcel_was parcel_is
ArmAnswers (Err Invalid) before after i when op func was is parcel_was parcel_is =
    (are_times when ≡ false) × Unchanged before after was is parcel_was parcel_is
ArmAnswers (Err NotHere) before after i when op func was is parcel_was parcel_is =
    (are_times when ≡ true) × (is_here before.cpu.callouts i ≡ false) × Unchanged before after was is parcel_was parcel_is
ArmAnswers (Err _) before after i when op func was is parcel_was parcel_is = ⊥

-- ---- what drains, and queries

-- where an asynchronous drain is accepted, its function is the callout's
abbrev pub kept_drain : List ℕ → ℕ → ℕ → Reply → List ℕ
kept_drain drains i func (Stopped code off) = set drains i func
kept_drain drains i func _ = drains

pub record IsDrained (before after : Embedded) (i func : ℕ) (is : CalloutReply) : Type 0 where
  pub out : CallOut
  pub call : IsCall before.cpu after.cpu i (Plain (AsyncDrain 0)) out
  pub funcs : after.funcs ≡ before.funcs
  pub drains : after.drains ≡ kept_drain before.drains i func out.reply
  pub told : is ≡ told_call i out

abbrev pub DrainAnswers : Result (Unit {0}) Refusal → (before after : Embedded) → (i func : ℕ) → (was is : CalloutReply) → Type 0
DrainAnswers (Ok u) before after i func was is = IsDrained before after i func is
DrainAnswers (Err refusal) before after i func was is = IsAbsent before after i refusal × (is ≡ was)

abbrev pub is_yes : Reply → Bool
is_yes Yes = true
is_yes _ = false

pub record IsQueried (before after : Embedded) (i : ℕ) (op : CallOp) (yes' : Bool) : Type 0 where
  pub out : CallOut
  pub done : IsDone before after i op out
  pub told : yes' ≡ is_yes out.reply

abbrev pub QueryAnswers : Result Bool Refusal → (before after : Embedded) → ℕ → CallOp → Type 0
QueryAnswers (Ok b) before after i op = IsQueried before after i op b
QueryAnswers (Err refusal) before after i op = IsAbsent before after i refusal
