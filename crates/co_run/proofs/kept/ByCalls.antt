-- What is kept of an actor, is kept by each of its sections.
use Rattle.std.proofs.Common.{◌≡◌, ℕ, ◌<◌, Bool, true, false, List, [], ◌∷◌, ◌++◌, map, refl, sym, ap, subst, ◌∙◌, Option, Some, None, inl, inr}
use Rattle.std.specs.List.{AllByRecursion}
use Rattle.co_object.specs.declared.Reply.{Reply}
use Rattle.co_object.specs.declared.Op.TheVariants.{Call}
use Rattle.co_object.specs.declared.CallOp.{CallOp}
use Rattle.co_object.specs.declared.CallOp.TheVariants.{Plain, DrainTry}
use Rattle.co_object.specs.declared.PlainOp.TheVariants.{Reset, Schedule, Stop, AsyncDrain, Active, Pending, Deactivate, Init, Retire}
use Rattle.co_object.specs.declared.Note.{Note}
use Rattle.co_object.specs.declared.Place.TheVariants as place
use Rattle.co_object.specs.declared.AnyEntry.TheVariants as entry
use Rattle.co_object.specs.Group.{Placed, placed, off_of, removal_notes}
use Rattle.co_object.specs.Queue.{Due}
use Rattle.co_lock.specs.declared.Held.{Held}
use Rattle.co_program.specs.declared.Script.{Script}
use Rattle.co_program.specs.Scripts.{IsScript}
use Rattle.co_program.specs.Stages.{Stage, Ready, Waiting, Popping, Picking, Locking, Beginning, Unlocking, Firing, Releasing, Ending, Freeing, Drained}
use Rattle.co_program.specs.Cursor.{Cursor}
use Rattle.co_program.specs.Action.{Asks, action_for, spec_at}
use Rattle.co_program.specs.Actors.{role_of, actor_count}
use Rattle.co_program.specs.Advance.{call_made, act_over}
use Rattle.co_program.specs.Existing.{ActionExists, IsCallout, OpExists}
use Rattle.co_program.specs.declared.Asked.TheVariants.{Callout}
use Rattle.co_program.proofs.Existing.{action_exists}
use Rattle.co_world.proofs.kept.Stages.{is_acting}
use Rattle.co_world.proofs.follows.Traces.{Trace}
use Rattle.co_desk.specs.Call.{IsCalled, NamesCpu}
use Rattle.co_desk.specs.Params.{spec_at as spec_in}
use Rattle.co_desk.specs.Name.{ServiceName}
use Rattle.co_desk.specs.Services.{IsFree, IsServing}
use Rattle.co_desk.specs.Serving.{ServiceStage}
use Rattle.co_desk.specs.Views.{PassesView, AreOf, seen_of}
use Rattle.co_desk.proofs.CallGroup.{entry_of}
use Rattle.co_run.specs.Acting.{IsActing, CursorFits, params_of}
use Rattle.co_run.specs.Noted.{gone_on}
use Rattle.co_run.specs.Shown.{IsFoundThere}
use Rattle.co_run.proofs.follows.GoesBack.{goes_back}
use Rattle.co_run.proofs.follows.CallGroups.{AreParts, IsOneInsert, call_leads, call_parts, call_told, first_is, rest_is}
use Rattle.co_run.proofs.places.AfterCalls.{acting_of, call_goes, called_kinds, called_placed, called_serves, still_serves}
use Rattle.co_run.proofs.places.AfterSilentSteps.{stage_view}
use Rattle.co_run.proofs.shown.OneMore.{shown_all, sized_all}
use Rattle.co_run.proofs.kept.Scanned.{call_none, scanned_on, scans_more}

-- ---- what a call may name

names_cpu : (s : Script) (op : CallOp) → OpExists s (Call op) → NamesCpu s.cpus op
names_cpu s (Plain (Reset due prec func arg (Some cpu))) h = h
names_cpu s (Plain (Schedule due prec (Some cpu))) h = h
names_cpu s (Plain (Reset due prec func arg None)) h = tt
names_cpu s (Plain (Schedule due prec None)) h = tt
names_cpu s (Plain Stop) h = tt
names_cpu s (Plain (AsyncDrain func)) h = tt
names_cpu s (Plain Active) h = tt
names_cpu s (Plain Pending) h = tt
names_cpu s (Plain Deactivate) h = tt
names_cpu s (Plain Init) h = tt
names_cpu s (Plain Retire) h = tt
names_cpu s (DrainTry took) h = tt

pub call_names : (s : Script) → IsScript s → (a : ℕ) (c : Cursor) (act i : ℕ) (op : CallOp) → a < actor_count s → CursorFits s a c → action_for s a c ≡ Asks act (Callout i (Call op)) → IsCallout s i × NamesCpu s.cpus op
call_names s ok a c act i op below place is =
    let exists : ActionExists s (Asks act (Callout i (Call op))) = subst (ActionExists s) is (action_exists s ok a below c place.is_in) in
    (exists.0, names_cpu s op exists.1)

-- ---- the notes of a call

pub found_notes : (ns : List Note) (xs : List Placed) → map placed ns ≡ xs → AllByRecursion (λ (x : Placed). IsFoundThere x.1) xs → AllByRecursion (λ (n : Note). IsFoundThere n.entry) ns
found_notes [] xs shape all = tt
found_notes (note ∷ ns) [] shape all = cc
found_notes (note ∷ ns) (x ∷ xs) shape all = (subst (λ (y : Placed). IsFoundThere y.1) (sym (first_is shape)) all.0, found_notes ns xs (rest_is shape) all.1)

found_parts : (a act i : ℕ) (op : CallOp) (reply : Reply) (ns : List Note) → AreParts a act i op reply ns → AllByRecursion (λ (n : Note). IsFoundThere n.entry) ns
found_parts a act i op reply ns parts = found_notes ns _ parts.whole (at_off (off_of reply) parts.rest parts.one) where
  at_rest : (rest : List Placed) → IsOneInsert a act i reply parts.time rest → AllByRecursion (λ (x : Placed). IsFoundThere x.1) rest
  at_rest rest (inl none) = subst (AllByRecursion (λ (x : Placed). IsFoundThere x.1)) (sym none) tt
  at_rest rest (inr one) = subst (AllByRecursion (λ (x : Placed). IsFoundThere x.1)) (sym one.4) ((λ h. cc), tt)

  at_off : (o : Option ℕ) (rest : List Placed) → IsOneInsert a act i reply parts.time rest →
      AllByRecursion (λ (x : Placed). IsFoundThere x.1) ((removal_notes i (entry_of a act (Call op) reply) o ++ (place.Timer i, entry.Timer (entry_of a act (Call op) reply)) ∷ []) ++ rest)
  at_off None rest one = (tt, at_rest rest one)
  at_off (Some cpu) rest one = ((λ h. cc), (tt, at_rest rest one))

pub over_hold : (c : Cursor) (stage : Stage) → (act_over c stage).hold ≡ c.hold
over_hold c Ready = refl
over_hold c (Waiting n took) = refl
over_hold c (Firing v acts) = refl
over_hold c (Drained v acts) = refl
over_hold c (Popping act) = refl
over_hold c (Picking v) = refl
over_hold c (Locking v) = refl
over_hold c (Beginning v) = refl
over_hold c (Unlocking v acts) = refl
over_hold c (Releasing v) = refl
over_hold c (Ending v) = refl
over_hold c (Freeing v drain next) = refl

-- ---- a call

module _ (s : Script) (ok : IsScript s) (name : ServiceName) (a : ℕ) (p q : PassesView) (c : Cursor) (hold : Option Held) (notes ns : List Note) (made act i : ℕ) (op : CallOp) (reply : Reply)
    (acting : IsActing s name a p c hold notes made) (is : action_for s a c ≡ Asks act (Callout i (Call op))) (call : IsCalled p act i op reply ns q) where
  spec : spec_in p.params i ≡ spec_at s i
  spec = ap (λ (r : _). spec_in r i) acting.of.params_are

  pub call_ends : gone_on s c ns ≡ call_made c i false (Call op) reply
  call_ends = call_goes s a act i op reply c ns acting.place.parcel acting.place.removed (acting_of s a c (Asks act (Callout i (Call op))) acting.place.parcel is tt) (call_parts s p q ns a act i op reply acting.actor spec call)

  pub acts_called : AreOf name (params_of s) q → q.actor ≡ p.actor → ((direct : Bool) (cpu : ℕ) → IsFree direct p cpu → IsFree direct q cpu) →
      ((direct : Bool) (cpu : ℕ) (d : Due) (far : ServiceStage) → IsServing direct p cpu d far → IsServing direct q cpu d far) → IsActing s name a q (gone_on s c ns) hold (notes ++ ns) made
  acts_called of same free serving =
      let speaks : is_acting c.stage ≡ true = acting_of s a c (Asks act (Callout i (Call op))) acting.place.parcel is tt in
      let to : Cursor = call_made c i false (Call op) reply in
      let place : CursorFits s a to = called_placed s ok a act i c op reply (seen_of q i) is (call_told s p q ns a act i op reply acting.actor spec call) acting.place in
      subst (λ (k : Cursor). IsActing s name a q k hold (notes ++ ns) made) (sym call_ends)
      (record {
        of = of;
        actor = same ∙ acting.actor;
        below = acting.below;
        sized = sized_all s p q ns call.written acting.sized;
        held = acting.held ∙ called_kinds (λ (k : Cursor). c.hold ≡ k.hold) c i (Call op) reply (sym (over_hold c c.stage)) (λ n took. refl);
        place = place;
        scanned = scanned_on s (role_of s a) p q c.left to.left c.stage to.stage (scans_more p q ns call.written)
            (call_none s (role_of s a) c (Asks act (Callout i (Call op))) i (Call op) reply (stage_view s a c (Asks act (Callout i (Call op))) acting.place.parcel is) tt acting.place.fits) acting.scanned;
        serves = called_serves s (role_of s a) q c i (Call op) reply speaks place.fits (still_serves (role_of s a) p q c.stage free serving acting.serves);
        shown = shown_all s a made p q notes ns acting.actor acting.sized (found_parts a act i op reply ns (call_parts s p q ns a act i op reply acting.actor spec call)) call.written acting.shown;
        leads = λ H goes. subst (λ (k : Cursor). Trace s H a (record { cursor = k; notes = notes ++ ns })) call_ends
            (call_leads s a H p q c notes ns act i op reply acting.actor spec is acting.place.removed call (acting.leads H (goes_back H p q ns call.written goes)) goes);
      })

-- the same actor, told by other words
pub acting_same : {s : Script} {name : ServiceName} {a : ℕ} {p q : PassesView} {c k : Cursor} {h g : Option Held} {ns ms : List Note} {m n : ℕ} → IsActing s name a p c h ns m → q ≡ p → k ≡ c → g ≡ h → ms ≡ ns → n ≡ m → IsActing s name a q k g ms n
acting_same {s = s} {name = name} {a = a} {p = p} {q = q} {c = c} {k = k} {h = h} {g = g} {ns = ns} {ms = ms} {m = m} {n = n} acting q_is k_is g_is ms_is n_is =
    subst (λ (x : PassesView). IsActing s name a x k g ms n) (sym q_is)
    (subst (λ (x : Cursor). IsActing s name a p x g ms n) (sym k_is)
    (subst (λ (x : Option Held). IsActing s name a p c x ms n) (sym g_is)
    (subst (λ (x : List Note). IsActing s name a p c h x n) (sym ms_is)
    (subst (λ (x : ℕ). IsActing s name a p c h ns x) (sym n_is) acting))))
