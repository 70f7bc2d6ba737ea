-- The last cases of four definitions: acts that are calls, stages outside functions, a Pop that gets nothing, and a Pick that waits for the lock.
-- Each is a match on what it is about, where the cases that came before are excluded.
use Rattle.std.proofs.Common.{◌≡◌, ℕ, List, ◌∷◌, refl}
use Rattle.co_object.specs.declared.Reply.{Reply}
use Rattle.co_object.specs.declared.Reply.TheVariants as reply
use Rattle.co_object.specs.declared.QReply.{QReply}
use Rattle.co_object.specs.declared.QReply.TheVariants.{At, Off, Missing, Count, Got, Empty, Freed}
use Rattle.co_program.specs.declared.act.Act.{Act}
use Rattle.co_program.specs.declared.act.Act.TheVariants as act
use Rattle.co_program.specs.declared.script.Script.{Script}
use Rattle.co_program.specs.declared.cursor.ActsLeft.{ActsLeft}
use Rattle.co_program.specs.declared.cursor.Stage.{Stage as StageAt}
use Rattle.co_program.specs.declared.cursor.Stage.TheVariants as at
use Rattle.co_program.specs.declared.role.Role.{Role}
use Rattle.co_program.specs.declared.program.Task.{Task}
use Rattle.co_program.specs.declared.program.Task.TheVariants.{Does}
use Rattle.co_program.specs.Actors.{cpu_of}
use Rattle.co_program.specs.declared.cursor.InService.{InService}
use Rattle.co_program.specs.Stages.{Ready, Locking}
use Rattle.co_program.specs.Cursor.{Cursor}
use Rattle.co_program.specs.Action.{asks_call, begins_next, over}
use Rattle.co_program.specs.Advance.{act_over, pop_answered, service_picked, tail_of}
use Rattle.co_program.specs.Indexed.{stage_of}

pub got_empty : (c : Cursor) (n : ℕ) (reply : QReply) → ((i k at : ℕ) → reply ≡ Got i k at → ⊥) → pop_answered c n reply ≡ record c { left = tail_of c.left; stage = Ready }
got_empty c n (At time) not_got = refl
got_empty c n Off not_got = refl
got_empty c n Missing not_got = refl
got_empty c n (Count count) not_got = refl
got_empty c n (Got i k time) not_got = absurd (not_got i k time refl)
got_empty c n Empty not_got = refl
got_empty c n Freed not_got = refl

pub picked_waits : (s : Script) (c : Cursor) (v : InService) (r : Reply) → ((func arg : ℕ) → r ≡ reply.Go func arg → ⊥) → service_picked s c v r ≡ record c { stage = Locking v }
picked_waits s c v (reply.Armed code n cpu off) not_go = refl
picked_waits s c v (reply.NotArmed code) not_go = refl
picked_waits s c v reply.NoHandler not_go = refl
picked_waits s c v reply.Worn not_go = refl
picked_waits s c v (reply.Stopped code off) not_go = refl
picked_waits s c v (reply.Wait n took off) not_go = refl
picked_waits s c v (reply.Drained code off) not_go = refl
picked_waits s c v reply.Busy not_go = refl
picked_waits s c v reply.Yes not_go = refl
picked_waits s c v reply.No not_go = refl
picked_waits s c v reply.Done not_go = refl
picked_waits s c v (reply.Go func arg) not_go = absurd (not_go func arg refl)
picked_waits s c v reply.Hold not_go = refl
picked_waits s c v reply.Skip not_go = refl
picked_waits s c v (reply.Ended drain next woke) not_go = refl
picked_waits s c v reply.Live not_go = refl
picked_waits s c v reply.Retired not_go = refl
picked_waits s c v (reply.InUse armed serviced) not_go = refl

pub act_over_outside : (s : Script) (c : Cursor) (stage : StageAt) → ((v : InService) (left : ActsLeft) → stage ≡ at.Firing v left → ⊥) → ((v : InService) (left : ActsLeft) → stage ≡ at.Drained v left → ⊥) → act_over c (stage_of s stage) ≡ over c (tail_of c.left) c.hold
act_over_outside s c at.Ready not_firing not_drained = refl
act_over_outside s c (at.Waiting n took) not_firing not_drained = refl
act_over_outside s c (at.Popping n) not_firing not_drained = refl
act_over_outside s c (at.Picking v) not_firing not_drained = refl
act_over_outside s c (at.Locking v) not_firing not_drained = refl
act_over_outside s c (at.Beginning v) not_firing not_drained = refl
act_over_outside s c (at.Unlocking v left) not_firing not_drained = refl
act_over_outside s c (at.Firing v left) not_firing not_drained = absurd (not_firing v left refl)
act_over_outside s c (at.Releasing v) not_firing not_drained = refl
act_over_outside s c (at.Ending v) not_firing not_drained = refl
act_over_outside s c (at.Freeing v drain next) not_firing not_drained = refl
act_over_outside s c (at.Drained v left) not_firing not_drained = absurd (not_drained v left refl)

module _ (s : Script) (role : Role) (c : Cursor) (left : List Task) where
  pub begins_call :
      (a : Act) →
      ((time : ℕ) → a ≡ act.Now time → ⊥) → ((id : ℕ) → a ≡ act.Lock id → ⊥) → ((id : ℕ) → a ≡ act.ReadLock id → ⊥) →
      (a ≡ act.Unlock → ⊥) → ((i : ℕ) → a ≡ act.Drain i → ⊥) → ((time : ℕ) → a ≡ act.Tick time → ⊥) →
      begins_next s role c (Does a ∷ left) ≡ asks_call s c a (record { time = c.now; here = cpu_of s role; me = 0 })
  begins_call (act.Now time) other _ _ _ _ _ = absurd (other time refl)
  begins_call (act.Lock id) _ other _ _ _ _ = absurd (other id refl)
  begins_call (act.ReadLock id) _ _ other _ _ _ = absurd (other id refl)
  begins_call act.Unlock _ _ _ other _ _ = absurd (other refl)
  begins_call (act.Reset who func when arg cpu prec) _ _ _ _ _ _ = refl
  begins_call (act.Ticks who ticks func arg cpu) _ _ _ _ _ _ = refl
  begins_call (act.Schedule who when cpu prec) _ _ _ _ _ _ = refl
  begins_call (act.Stop who) _ _ _ _ _ _ = refl
  begins_call (act.Drain i) _ _ _ _ other _ = absurd (other i refl)
  begins_call (act.AsyncDrain who func) _ _ _ _ _ _ = refl
  begins_call (act.Active who) _ _ _ _ _ _ = refl
  begins_call (act.Pending who) _ _ _ _ _ _ = refl
  begins_call (act.Deactivate who) _ _ _ _ _ _ = refl
  begins_call (act.Init who) _ _ _ _ _ _ = refl
  begins_call (act.Retire who) _ _ _ _ _ _ = refl
  begins_call (act.Tick time) _ _ _ _ _ other = absurd (other time refl)
