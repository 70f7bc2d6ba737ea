-- Where an actor may be refused memory: between two services, where nothing is in service.
use Rattle.std.proofs.Common.{◌≡◌, ℕ, true, false, refl}
use Rattle.co_object.specs.declared.QOp.{QOp}
use Rattle.co_program.specs.declared.Role.{Role}
use Rattle.co_program.specs.declared.Script.{Script}
use Rattle.co_program.specs.declared.Asked.TheVariants.{Queue}
use Rattle.co_program.specs.Action.{Asks, action_for}
use Rattle.co_program.specs.Actors.{role_of}
use Rattle.co_program.specs.Cursor.{Cursor}
use Rattle.co_program.specs.Stages.{Stage, Ready, Waiting, Popping, Picking, Locking, Beginning, Unlocking, Firing, Releasing, Ending, Freeing, Drained}
use Rattle.co_world.proofs.basics.Actions.{IsAction, scans, starts, pops, frees}
use Rattle.co_world.proofs.kept.Invariant.{IsBetween}
use Rattle.co_world.proofs.kept.Stages.{is_acting}
use Rattle.co_run.specs.Acting.{CursorFits}
use Rattle.co_run.specs.Roomy.{is_resting, is_serving}
use Rattle.co_run.proofs.places.AfterSilentSteps.{stage_view}

-- who makes an act outside a function rests
pub acting_rests : (stage : Stage) → is_acting stage ≡ true → is_serving stage ≡ false → is_resting stage ≡ true
acting_rests Ready acting h = refl
acting_rests (Waiting n took) acting h = refl
acting_rests (Popping act) acting h = refl
acting_rests (Firing v acts) acting h = cc
acting_rests (Drained v acts) acting h = cc
acting_rests (Picking v) acting h = cc
acting_rests (Locking v) acting h = cc
acting_rests (Beginning v) acting h = cc
acting_rests (Unlocking v acts) acting h = cc
acting_rests (Releasing v) acting h = cc
acting_rests (Ending v) acting h = cc
acting_rests (Freeing v drain next) acting h = cc

-- so does who asks its CPU's queue
queue_at : (s : Script) (role : Role) (c : Cursor) (stage : Stage) (act cpu : ℕ) (op : QOp) → IsAction s role c stage (Asks act (Queue cpu op)) → IsBetween stage → is_resting stage ≡ true
queue_at s role c stage act cpu op (scans time left is) between = refl
queue_at s role c stage act cpu op (starts j left is) between = refl
queue_at s role c stage act cpu op (pops m) between = refl
queue_at s role c stage act cpu op (frees v drain next) between = absurd between

pub queue_rests : (s : Script) (a : ℕ) (c : Cursor) (act cpu : ℕ) (op : QOp) → CursorFits s a c → action_for s a c ≡ Asks act (Queue cpu op) → is_resting c.stage ≡ true
queue_rests s a c act cpu op place is = queue_at s (role_of s a) c c.stage act cpu op (stage_view s a c (Asks act (Queue cpu op)) place.parcel is) place.between

-- who rests is in no function
pub resting_free : (stage : Stage) → is_resting stage ≡ true → is_serving stage ≡ false
resting_free Ready h = refl
resting_free (Waiting n took) h = refl
resting_free (Popping act) h = refl
resting_free (Firing v acts) h = cc
resting_free (Drained v acts) h = cc
resting_free (Picking v) h = cc
resting_free (Locking v) h = cc
resting_free (Beginning v) h = cc
resting_free (Unlocking v acts) h = cc
resting_free (Releasing v) h = cc
resting_free (Ending v) h = cc
resting_free (Freeing v drain next) h = cc
