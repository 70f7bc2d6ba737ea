-- Whether a callout is listed matters to its caller's place only where an arming was accepted.
use Rattle.std.proofs.Common.{◌≡◌, ℕ, Bool, true, false, refl, sym, ◌∙◌, Option}
use Rattle.co_object.specs.declared.Op.{Op}
use Rattle.co_object.specs.declared.Reply.{Reply}
use Rattle.co_object.specs.declared.Reply.TheVariants.{NotArmed, Armed, Stopped, Done, Drained, Wait, Hold, Go, Ended, NoHandler, Worn, Busy, Yes, No, Live, Retired, InUse, Skip}
use Rattle.co_object.specs.Entries.{is_armed}
use Rattle.co_program.specs.declared.script.Script.{Script}
use Rattle.co_program.specs.Stages.{Stage, Ready, Waiting, Popping, Picking, Locking, Beginning, Unlocking, Firing, Releasing, Ending, Freeing}
use Rattle.co_program.specs.Stages as stage
use Rattle.co_program.specs.Cursor.{Cursor}
use Rattle.co_program.specs.Advance.{call_made, advance_callout}
use Rattle.co_world.proofs.kept.Stages.{plain_called}

waited : (c : Cursor) (i : ℕ) (l m : Bool) (op : Op) (n : ℕ) (took : Bool) (off : Option ℕ) → call_made c i l op (Wait n took off) ≡ call_made c i m op (Wait n took off)
waited c i true true op n took off = refl
waited c i true false op n took off = refl
waited c i false true op n took off = refl
waited c i false false op n took off = refl

module _ (c : Cursor) (i : ℕ) (l m : Bool) (op : Op) where
  pub same_called : (reply : Reply) → is_armed reply ≡ false → call_made c i l op reply ≡ call_made c i m op reply
  same_called (Armed code n cpu off) h = cc
  same_called (Wait n took off) h = waited c i l m op n took off
  same_called (NotArmed code) h = plain_called c i l op (NotArmed code) refl ∙ sym (plain_called c i m op (NotArmed code) refl)
  same_called NoHandler h = plain_called c i l op NoHandler refl ∙ sym (plain_called c i m op NoHandler refl)
  same_called Worn h = plain_called c i l op Worn refl ∙ sym (plain_called c i m op Worn refl)
  same_called (Stopped code off) h = plain_called c i l op (Stopped code off) refl ∙ sym (plain_called c i m op (Stopped code off) refl)
  same_called (Drained code off) h = plain_called c i l op (Drained code off) refl ∙ sym (plain_called c i m op (Drained code off) refl)
  same_called Busy h = plain_called c i l op Busy refl ∙ sym (plain_called c i m op Busy refl)
  same_called Yes h = plain_called c i l op Yes refl ∙ sym (plain_called c i m op Yes refl)
  same_called No h = plain_called c i l op No refl ∙ sym (plain_called c i m op No refl)
  same_called Done h = plain_called c i l op Done refl ∙ sym (plain_called c i m op Done refl)
  same_called (Go func arg) h = plain_called c i l op (Go func arg) refl ∙ sym (plain_called c i m op (Go func arg) refl)
  same_called Hold h = plain_called c i l op Hold refl ∙ sym (plain_called c i m op Hold refl)
  same_called Skip h = plain_called c i l op Skip refl ∙ sym (plain_called c i m op Skip refl)
  same_called (Ended drain next woke) h = plain_called c i l op (Ended drain next woke) refl ∙ sym (plain_called c i m op (Ended drain next woke) refl)
  same_called Live h = plain_called c i l op Live refl ∙ sym (plain_called c i m op Live refl)
  same_called Retired h = plain_called c i l op Retired refl ∙ sym (plain_called c i m op Retired refl)
  same_called (InUse armed serviced) h = plain_called c i l op (InUse armed serviced) refl ∙ sym (plain_called c i m op (InUse armed serviced) refl)

pub relisted : (s : Script) (c : Cursor) (i : ℕ) (l m : Bool) (op : Op) (reply : Reply) (at : Stage) → is_armed reply ≡ false → advance_callout s c i l op reply at ≡ advance_callout s c i m op reply at
relisted s c i l m op reply (Picking v) h = refl
relisted s c i l m op reply (Beginning v) h = refl
relisted s c i l m op reply (Ending v) h = refl
relisted s c i l m op reply Ready h = same_called c i l m op reply h
relisted s c i l m op reply (Waiting n took) h = same_called c i l m op reply h
relisted s c i l m op reply (Popping act) h = same_called c i l m op reply h
relisted s c i l m op reply (Locking v) h = same_called c i l m op reply h
relisted s c i l m op reply (Unlocking v acts) h = same_called c i l m op reply h
relisted s c i l m op reply (Firing v acts) h = same_called c i l m op reply h
relisted s c i l m op reply (Releasing v) h = same_called c i l m op reply h
relisted s c i l m op reply (Freeing v drain next) h = same_called c i l m op reply h
relisted s c i l m op reply (stage.Drained v acts) h = same_called c i l m op reply h
