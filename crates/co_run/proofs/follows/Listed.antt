-- Whether a callout is listed is told of an arming alone, which then sends it on its way.
use Rattle.std.proofs.Common.{◌≡◌, ℕ, ℤ, Bool, true, false, refl, sym, ap, subst, ◌∙◌, Option, Some, None}
use Rattle.co_object.specs.declared.Reply.{Reply}
use Rattle.co_object.specs.declared.Reply.TheVariants.{Armed, NotArmed, NoHandler, Worn, Stopped, Wait, Drained as IsDrained, Busy, Yes, No, Done, Go, Hold, Skip, Ended, Live, Retired, InUse}
use Rattle.co_object.specs.declared.Op.{Op}
use Rattle.co_object.specs.declared.Op.TheVariants.{Call}
use Rattle.co_object.specs.declared.CallOp.{CallOp}
use Rattle.co_object.specs.declared.Entry.{Entry}
use Rattle.co_object.specs.declared.Place.TheVariants as place
use Rattle.co_object.specs.declared.AnyEntry.TheVariants as entry
use Rattle.co_object.specs.Entries.{is_armed}
use Rattle.co_object.specs.History.{next}
use Rattle.co_program.specs.declared.Script.{Script}
use Rattle.co_program.specs.declared.PendingInsert.{PendingInsert}
use Rattle.co_program.specs.Stages.{Stage, Ready, Waiting, Popping, Picking, Locking, Beginning, Unlocking, Firing, Releasing, Ending, Freeing, Drained}
use Rattle.co_program.specs.Cursor.{Cursor}
use Rattle.co_program.specs.Action.{Action, Asks, action_for, action_with, action_in}
use Rattle.co_program.specs.Actors.{role_of}
use Rattle.co_program.specs.Advance.{advance, advance_callout, call_made, due_of_call}
use Rattle.co_program.specs.declared.Asked.TheVariants.{Callout}
use Rattle.co_world.proofs.basics.Actions.{IsAction, due_stage, stays, picks, opens, ends}

-- ---- whether a callout is listed is told of an arming alone

called_alike : (c : Cursor) (i : ℕ) (b d : Bool) (op : Op) (reply : Reply) → is_armed reply ≡ false → call_made c i b op reply ≡ call_made c i d op reply
called_alike c i b d op reply h = either b d where
  same : (x : Bool) → call_made c i x op reply ≡ call_made c i false op reply
  same false = refl
  same true = at_reply reply h where
    at_reply : (r : Reply) → is_armed r ≡ false → call_made c i true op r ≡ call_made c i false op r
    at_reply (Armed code n cpu o) h = cc
    at_reply (NotArmed code) h = refl
    at_reply NoHandler h = refl
    at_reply Worn h = refl
    at_reply (Stopped code o) h = refl
    at_reply (Wait n took o) h = refl
    at_reply (IsDrained code o) h = refl
    at_reply Busy h = refl
    at_reply Yes h = refl
    at_reply No h = refl
    at_reply Done h = refl
    at_reply (Go func arg) h = refl
    at_reply Hold h = refl
    at_reply Skip h = refl
    at_reply (Ended drain next woke) h = refl
    at_reply Live h = refl
    at_reply Retired h = refl
    at_reply (InUse armed serviced) h = refl

  either : (x y : Bool) → call_made c i x op reply ≡ call_made c i y op reply
  either x y = same x ∙ sym (same y)

pub advance_alike : (s : Script) (c : Cursor) (b d : Bool) (i : ℕ) (e : Entry) → is_armed e.reply ≡ false → advance s c b (place.Timer i) (entry.Timer e) ≡ advance s c d (place.Timer i) (entry.Timer e)
advance_alike s c b d i e h = at_stage c.stage where
  both : call_made (record c { removed = None }) i b e.op e.reply ≡ call_made (record c { removed = None }) i d e.op e.reply
  both = called_alike (record c { removed = None }) i b d e.op e.reply h

  at_stage : (stage : Stage) → advance_callout s (record c { removed = None }) i b e.op e.reply stage ≡ advance_callout s (record c { removed = None }) i d e.op e.reply stage
  at_stage Ready = both
  at_stage (Waiting n took) = both
  at_stage (Popping act) = both
  at_stage (Picking v) = refl
  at_stage (Locking v) = both
  at_stage (Beginning v) = refl
  at_stage (Unlocking v acts) = both
  at_stage (Firing v acts) = both
  at_stage (Releasing v) = both
  at_stage (Ending v) = refl
  at_stage (Freeing v drain next) = both
  at_stage (Drained v acts) = both

-- ---- a parcel is on its way after an arming that is listed

-- what is due is a call
abbrev IsCall : Action → Type 0
IsCall (Asks act (Callout i (Call op))) = Unit {0}
IsCall action = ⊥

pub sends : (s : Script) (a : ℕ) (c : Cursor) (act i : ℕ) (op : CallOp) (e : Entry) (code : ℤ) (n cpu : ℕ) (o : Option ℕ) →
    action_for s a c ≡ Asks act (Callout i (Call op)) → e.reply ≡ Armed code n cpu o →
    (advance s c true (place.Timer i) (entry.Timer e)).parcel ≡ Some (record { act = c.act; i = i; n = n; due = due_of_call e.op; cpu = cpu })
sends s a c act i op e code n cpu o is armed = at_parcel c.parcel refl where
  call_is : IsCall (action_with s (role_of s a) c c.parcel)
  call_is = subst IsCall (sym is) tt

  over : (call_made (record c { removed = None }) i true e.op e.reply).parcel ≡ Some (record { act = c.act; i = i; n = n; due = due_of_call e.op; cpu = cpu })
  over = ap (λ (r : Reply). (call_made (record c { removed = None }) i true e.op r).parcel) armed

  at_stage : (stage : Stage) (due : Action) → IsAction s (role_of s a) c stage due → IsCall due →
      (advance_callout s (record c { removed = None }) i true e.op e.reply stage).parcel ≡ Some (record { act = c.act; i = i; n = n; due = due_of_call e.op; cpu = cpu })
  at_stage Ready due view h = over
  at_stage (Waiting m took) due view h = over
  at_stage (Popping m) due view h = over
  at_stage (Locking v) due view h = over
  at_stage (Unlocking v acts) due view h = over
  at_stage (Firing v acts) due view h = over
  at_stage (Releasing v) due view h = over
  at_stage (Freeing v drain next) due view h = over
  at_stage (Drained v acts) due view h = over
  at_stage (Picking v) due (picks w) h = absurd h
  at_stage (Picking v) due (stays w) h = absurd h
  at_stage (Beginning v) due (opens w) h = absurd h
  at_stage (Beginning v) due (stays w) h = absurd h
  at_stage (Ending v) due (ends w) h = absurd h
  at_stage (Ending v) due (stays w) h = absurd h

  at_parcel : (parcel : Option PendingInsert) → c.parcel ≡ parcel → (advance_callout s (record c { removed = None }) i true e.op e.reply c.stage).parcel ≡ Some (record { act = c.act; i = i; n = n; due = due_of_call e.op; cpu = cpu })
  at_parcel None same = at_stage c.stage (action_in s (role_of s a) c c.stage) (due_stage s (role_of s a) c c.stage) (subst (λ (x : Option PendingInsert). IsCall (action_with s (role_of s a) c x)) same call_is)
  at_parcel (Some p) same = absurd (subst (λ (x : Option PendingInsert). IsCall (action_with s (role_of s a) c x)) same call_is)
