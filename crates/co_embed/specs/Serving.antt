-- What the CPU does.
use Rattle.std.specs.Prelude.{◌≡◌, ◌^◌, ℕ, Bool, true, false, nat_lt, [], ◌∷◌, get_or, is_some, Result, Ok, Err}
use Rattle.std.specs.Option.{option_map}
use Rattle.std.specs.declared.option.Option.{Option}
use Rattle.std.specs.declared.option.Option.TheVariants.{Some, None}
use Rattle.co_object.specs.declared.queue.QOp.TheVariants.{Scan}
use Rattle.co_object.specs.declared.queue.QReply.TheVariants.{Count}
use Rattle.co_object.specs.declared.reply.Reply.{Reply}
use Rattle.co_bucket.specs.Earliest.{first_come}
use Rattle.co_wheel.specs.declared.outs.NextOut.{NextOut}
use Rattle.co_wheel.specs.declared.outs.NextOut.TheVariants.{Took}
use Rattle.co_wheel.specs.declared.outs.EndOut.{EndOut}
use Rattle.co_wheel.specs.Callouts.{Callouts, in_service}
use Rattle.co_wheel.specs.Sections.{IsNext, IsEnding}
use Rattle.co_wheel.specs.Service.{begin_here, end_here}
use Rattle.co_wheel.specs.Turns.{Turns}
use Rattle.co_embed.specs.declared.parcel.CalloutParcel.{CalloutParcel}
use Rattle.co_embed.specs.declared.refusal.Refusal.{Refusal}
use Rattle.co_embed.specs.declared.refusal.Refusal.TheVariants.{Busy, Invalid, Nothing, NotInService}
use Rattle.co_embed.specs.declared.reply.CalloutReply.{CalloutReply}
use Rattle.co_embed.specs.Calls.{IsSent}
use Rattle.co_embed.specs.Embedded.{Embedded}
use Rattle.co_embed.specs.Told.{told_end, told_next, told_service}

-- the words stay
pub record KeepsWords (before after : Embedded) : Type 0 where
  pub funcs : after.funcs ≡ before.funcs
  pub drains : after.drains ≡ before.drains

-- so many entries have come due
pub record IsAdvanced (before after : Embedded) (now count : ℕ) : Type 0 where
  pub time : nat_lt now (2 ^ 63) ≡ true
  pub callouts : after.cpu.callouts ≡ before.cpu.callouts
  pub queue : Turns before.cpu ((Scan now, Count count) ∷ []) after.cpu
  pub words : KeepsWords before after

abbrev pub AdvanceAnswers : Result ℕ Refusal → (before after : Embedded) → ℕ → Type 0
AdvanceAnswers (Ok count) before after now = IsAdvanced before after now count
AdvanceAnswers (Err refusal) before after now = (refusal ≡ Invalid) × (nat_lt now (2 ^ 63) ≡ false) × (after ≡ before)

-- the first that has come due, if any, is in service
pub record IsTaken (direct : Bool) (before after : Embedded) (out : NextOut) : Type 0 where
  pub next : IsNext direct before.cpu after.cpu out
  pub words : KeepsWords before after

pub record IsNextTold (direct : Bool) (before after : Embedded) (is : CalloutReply) : Type 0 where
  pub i : ℕ
  pub n : ℕ
  pub at : ℕ
  pub reply : Reply
  pub taken : IsTaken direct before after (Took i n at reply)
  pub told : is ≡ told_next i (get_or before.funcs i 0) n at reply

abbrev pub NextAnswers : Result (Unit {0}) Refusal → Bool → (before after : Embedded) → (was is : CalloutReply) → Type 0
NextAnswers (Ok u) direct before after was is = (in_service direct before.cpu.callouts ≡ None) × IsNextTold direct before after is
NextAnswers (Err Busy) direct before after was is = (is_some (in_service direct before.cpu.callouts) ≡ true) × (after ≡ before) × (is ≡ was)
NextAnswers (Err Nothing) direct before after was is =
    (in_service direct before.cpu.callouts ≡ None) × (first_come direct before.cpu.timers ≡ None) × (after ≡ before) × (is ≡ was)
NextAnswers (Err _) direct before after was is = ⊥

-- the callout in service, of the CPU or of its interrupt where `direct`
abbrev pub served : Bool → Callouts → Option ℕ
served direct c = option_map (λ d. d.i) (in_service direct c)

-- the lock of the callout in service is held
pub record IsBegun (before after : Embedded) (is : CalloutReply) : Type 0 where
  pub i : ℕ
  pub serving : served false before.cpu.callouts ≡ Some i
  pub reply : Reply
  pub callouts : Some (after.cpu.callouts, reply) ≡ begin_here before.cpu.callouts
  pub timers : after.cpu.timers ≡ before.cpu.timers
  pub words : KeepsWords before after
  pub told : is ≡ told_service i (get_or before.funcs i 0) reply

abbrev pub BeginAnswers : Result (Unit {0}) Refusal → (before after : Embedded) → (was is : CalloutReply) → Type 0
BeginAnswers (Ok u) before after was is = IsBegun before after is
BeginAnswers (Err refusal) before after was is =
    (refusal ≡ NotInService) × (is_some (begin_here before.cpu.callouts) ≡ false) × (after ≡ before) × (is ≡ was)

-- the service is over
pub record IsEnded (direct : Bool) (before after : Embedded) (is : CalloutReply) (parcel_was parcel_is : CalloutParcel) : Type 0 where
  pub i : ℕ
  pub serving : served direct before.cpu.callouts ≡ Some i
  pub out : EndOut
  pub ending : IsEnding direct before.cpu after.cpu out
  pub words : KeepsWords before after
  pub told : is ≡ told_end i (get_or before.drains i 0) out
  pub sent : IsSent out.leaves (get_or before.funcs i 0) parcel_was parcel_is

abbrev pub EndAnswers : Result (Unit {0}) Refusal → Bool → (before after : Embedded) → (was is : CalloutReply) → (parcel_was parcel_is : CalloutParcel) → Type 0
EndAnswers (Ok u) direct before after was is parcel_was parcel_is = IsEnded direct before after is parcel_was parcel_is
EndAnswers (Err refusal) direct before after was is parcel_was parcel_is =
    (refusal ≡ NotInService) × (is_some (end_here direct before.cpu.callouts) ≡ false) × (after ≡ before) × (is ≡ was) × (parcel_is ≡ parcel_was)
