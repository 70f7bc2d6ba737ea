-- What an actor has in service after each call of a service.
use Rattle.std.specs.Prelude.{slice_index_or}
use Rattle.std.proofs.Common.{◌≡◌, ℕ, zero, suc, ℤ, ◌==◌, Bool, true, false, cond, List, [], ◌∷◌, map, refl, sym, ap, ◌∙◌, subst}
use Rattle.std.specs.declared.option.Option.{Option}
use Rattle.std.specs.declared.option.Option.TheVariants.{Some, None}
use Rattle.co_life.specs.Identity.{LifeId}
use Rattle.co_life.specs.Seen.{own}
use Rattle.co_object.specs.declared.note.QEntry.{QEntry}
use Rattle.co_object.specs.declared.note.AnyEntry.TheVariants as of
use Rattle.co_object.specs.declared.note.Note.{Note}
use Rattle.co_object.specs.declared.note.Place.TheVariants as at
use Rattle.co_object.specs.declared.op.CallOp.{CallOp}
use Rattle.co_object.specs.declared.op.Op.TheVariants.{Call}
use Rattle.co_object.specs.declared.op.RunOp.TheVariants.{Pick}
use Rattle.co_object.specs.declared.queue.QOp.TheVariants.{Insert, Remove, Scan}
use Rattle.co_object.specs.declared.queue.QReply.TheVariants.{At, Count, Freed, Got, Off, Empty as Nothing}
use Rattle.co_object.specs.declared.reply.Reply.{Reply}
use Rattle.co_object.specs.declared.reply.Reply.TheVariants.{Armed, NotArmed, NoHandler, Worn, Stopped, Wait, Drained, Busy, Yes, No, Done, Go, Hold, Skip, Ended, Live, Retired, InUse}
use Rattle.co_object.specs.declared.state.Arming.{Arming}
use Rattle.co_object.specs.declared.state.State.{State}
use Rattle.co_object.specs.Entries.{is_armed}
use Rattle.co_object.specs.Group.{Placed, off_of, group, placed, removal_notes}
use Rattle.co_object.specs.History.{state}
use Rattle.co_object.specs.Queue.{Due}
use Rattle.co_object.specs.Stand.{Stand, Nowhere, Listed, Deferred, stand_of}
use Rattle.co_object.proofs.Numbers.{same_itself}
use Rattle.co_wheel.specs.Turns.{free_of, pop_of}
use Rattle.co_desk.specs.declared.outs.Scanned.{Scanned}
use Rattle.co_desk.specs.declared.outs.Taken.{Taken}
use Rattle.co_desk.specs.declared.outs.Taken.TheVariants.{Empty, Took}
use Rattle.co_desk.specs.declared.outs.Made.{Made}
use Rattle.co_service.specs.Booted.{booted}
use Rattle.co_desk.specs.Call.{IsCalled, Target, landing, notes_in}
use Rattle.co_desk.specs.Name.{ServiceName}
use Rattle.co_desk.specs.declared.params.Params.{Params}
use Rattle.co_service.specs.Kept.{Keeps, KeepsFree, KeepsTaken}
use Rattle.co_desk.specs.Outcomes.{IsScan, queue_entry_by}
use Rattle.co_desk.specs.Params.{actors_of, spec_at}
use Rattle.co_desk.specs.Services.{AreSame, HasNext, IsBegun, IsEnded, IsFree, IsNothing, IsServing, IsTaken, IsTaking, far_of, next_target, run_entry, service_of}
use Rattle.co_desk.specs.Serving.{Runs, ServiceStage, Waits, begun, lane_actor, stage_picked, served, served_in}
use Rattle.co_desk.specs.Stories.{queue_by}
use Rattle.co_desk.specs.Views.{AreOf, PassesView, seen_of}
use Rattle.co_desk.proofs.CallGroup.{entry_of, group_listed, head, listed_notes, unarmed_group}
use Rattle.co_service.proofs.Lasting.{AreQuiet, free_still, gone_by, goes, is_free, is_serving, quiet-append, quiet_turns, serving_still, still_of, turned_by, turns}
use Rattle.co_desk.proofs.SameActor.{writes_keep}

-- ---- a caller's operation

rest_insert : (direct : Bool) (s : Option Due) (i n t at : ℕ) → served direct s (Insert i n t) (At at) ≡ s
rest_insert false s i n t at = refl
rest_insert true s i n t at = refl

rest_remove : (direct : Bool) (s : Option Due) (i : ℕ) → served direct s (Remove i) Off ≡ s
rest_remove false s i = refl
rest_remove true s i = refl

rest_scan : (direct : Bool) (s : Option Due) (now count : ℕ) → served direct s (Scan now) (Count count) ≡ s
rest_scan false s now count = refl
rest_scan true s now count = refl

module _ (i actor act : ℕ) (c : CallOp) (t : State) (time : ℕ) where
  quiet_removal : (r : Reply) (o : Option ℕ) → AreQuiet (removal_notes i (entry_of actor act (Call c) r) o)
  quiet_removal r None = tt
  quiet_removal r (Some cpu) = ((λ direct s. rest_remove direct s i), tt)

  quiet_head : (r : Reply) → AreQuiet (head i actor act (Call c) t time r)
  quiet_head r = quiet-append (removal_notes i (entry_of actor act (Call c) r) (off_of r)) ((at.Timer i, of.Timer (entry_of actor act (Call c) r)) ∷ []) (quiet_removal r (off_of r)) ((λ v. refl), tt)

  quiet_listed : (m : Arming) (s : Stand) → AreQuiet (listed_notes i actor act (Call c) t time m s)
  quiet_listed m Nowhere = tt
  quiet_listed m (Deferred cpu) = tt
  quiet_listed m (Listed cpu) = ((λ direct s. rest_insert direct s i m.n m.due time), tt)

  quiet_armed : (code : ℤ) (n cpu : ℕ) (off : Option ℕ) (o : Option Arming) → AreQuiet (group i (entry_of actor act (Call c) (Armed code n cpu off)) (record t { armed = o }) time)
  quiet_armed code n cpu None None = ((λ v. refl), tt)
  quiet_armed code n cpu (Some x) None = ((λ direct s. rest_remove direct s i), ((λ v. refl), tt))
  quiet_armed code n cpu off (Some m) = subst AreQuiet (sym (group_listed i actor act (Call c) t time code n cpu off m))
      (quiet-append (head i actor act (Call c) t time (Armed code n cpu off)) (listed_notes i actor act (Call c) t time m (stand_of (Some m) t.run)) (quiet_head (Armed code n cpu off)) (quiet_listed m (stand_of (Some m) t.run)))

  quiet_unarmed : (r : Reply) → is_armed r ≡ false → AreQuiet (group i (entry_of actor act (Call c) r) t time)
  quiet_unarmed r is = subst AreQuiet (sym (unarmed_group i actor act (Call c) t time r is)) (quiet_head r)

  pub quiet_group : (r : Reply) → AreQuiet (group i (entry_of actor act (Call c) r) t time)
  quiet_group (Armed code n cpu off) = quiet_armed code n cpu off t.armed
  quiet_group (NotArmed code) = quiet_unarmed (NotArmed code) refl
  quiet_group NoHandler = quiet_unarmed NoHandler refl
  quiet_group Worn = quiet_unarmed Worn refl
  quiet_group (Stopped code off) = quiet_unarmed (Stopped code off) refl
  quiet_group (Wait n took off) = quiet_unarmed (Wait n took off) refl
  quiet_group (Drained code off) = quiet_unarmed (Drained code off) refl
  quiet_group Busy = quiet_unarmed Busy refl
  quiet_group Yes = quiet_unarmed Yes refl
  quiet_group No = quiet_unarmed No refl
  quiet_group Done = quiet_unarmed Done refl
  quiet_group (Go func arg) = quiet_unarmed (Go func arg) refl
  quiet_group Hold = quiet_unarmed Hold refl
  quiet_group Skip = quiet_unarmed Skip refl
  quiet_group (Ended drain next woke) = quiet_unarmed (Ended drain next woke) refl
  quiet_group Live = quiet_unarmed Live refl
  quiet_group Retired = quiet_unarmed Retired refl
  quiet_group (InUse armed serviced) = quiet_unarmed (InUse armed serviced) refl

module _ (p q : PassesView) (act i : ℕ) (op : CallOp) (reply : Reply) (notes : List Note) (is : IsCalled p act i op reply notes q) where
  pub called_same : AreSame p q
  called_same = writes_keep p q notes is.written

  quiet_call : AreQuiet (map placed notes)
  quiet_call = subst AreQuiet (sym is.group_is) (quiet_group i p.actor act op (state (spec_at p.params i) (seen_of q i)) is.time reply)

  pub called_free : (direct : Bool) (cpu : ℕ) → IsFree direct p cpu → IsFree direct q cpu
  called_free = free_still p q notes called_same is.written quiet_call

  pub called_serving : (direct : Bool) (cpu : ℕ) (d : Due) (far : ServiceStage) → IsServing direct p cpu d far → IsServing direct q cpu d far
  called_serving = serving_still p q notes called_same is.written quiet_call

  pub called_keeps : (name : ServiceName) (params : Params) → AreOf name params p → Keeps name params p q
  called_keeps name params are = record { of = still_of name params p q called_same are; actor = called_same.actor; free = called_free; serving = called_serving }

-- ---- a scan

module _ (p q : PassesView) (cpu act now : ℕ) (out : Scanned) (is : IsScan p cpu act now out q) where
  scanned_same : AreSame p q
  scanned_same = writes_keep p q (out.note ∷ []) is.written

  placed_turn : placed out.note ≡ (at.Cpu cpu, of.Cpu (queue_entry_by p act (Scan now) (Count out.count)))
  placed_turn = λ d. (is.note.place d, is.note.entry d)

  quiet_scan : AreQuiet (map placed (out.note ∷ []))
  quiet_scan = subst (λ (n : Placed). AreQuiet (n ∷ [])) (sym placed_turn) ((λ direct s. rest_scan direct s now out.count), tt)

  scanned_free : (direct : Bool) (x : ℕ) → IsFree direct p x → IsFree direct q x
  scanned_free = free_still p q (out.note ∷ []) scanned_same is.written quiet_scan

  scanned_serving : (direct : Bool) (x : ℕ) (d : Due) (far : ServiceStage) → IsServing direct p x d far → IsServing direct q x d far
  scanned_serving = serving_still p q (out.note ∷ []) scanned_same is.written quiet_scan

  pub scanned_keeps : (name : ServiceName) (params : Params) → AreOf name params p → Keeps name params p q
  scanned_keeps name params are = record { of = still_of name params p q scanned_same are; actor = scanned_same.actor; free = scanned_free; serving = scanned_serving }

-- ---- the start of a service

module _ (direct : Bool) (p q : PassesView) (cpu act : ℕ) where
  taken_same : (out : Taken) → IsTaken direct p cpu act out q → AreSame p q
  taken_same (Empty note) is = writes_keep p q (note ∷ []) is.written
  taken_same (Took i n time reply pop pick) is = writes_keep p q (pop ∷ pick ∷ []) is.written

  found_none : (lane : Bool) (s : Option Due) → served lane s (pop_of lane) Nothing ≡ s
  found_none false s = refl
  found_none true s = refl

  found : (lane : Bool) (s : Option Due) (i n at : ℕ) → served lane s (pop_of lane) (Got i n at) ≡ Some (record { i = i; n = n })
  found false s i n at = refl
  found true s i n at = refl

  here : {A : Type 0} (k : ℕ) (x y : A) → cond (k == k) x y ≡ x
  here k x y = rw (same_itself k k refl)

  nothing_next : (note : Note) → IsFree direct p cpu → IsNothing direct p cpu act note q → IsFree direct q cpu
  nothing_next note f is = is_free direct p q cpu (writes_keep p q (note ∷ []) is.written) f.actor
      (turns direct cpu p q (note ∷ []) is.written
      ∙ (ap (λ (n : Placed). turned_by direct cpu (service_of direct p cpu) (n ∷ [])) (λ d. (is.popped.place d, is.popped.entry d))
      ∙ (here cpu (served direct (service_of direct p cpu) (pop_of direct) Nothing) (service_of direct p cpu)
      ∙ (found_none direct (service_of direct p cpu) ∙ f.free))))

  taken_next : (i n time : ℕ) (reply : Reply) (pop pick : Note) → IsFree direct p cpu → IsTaking direct p cpu act i n time reply pop pick q → IsServing direct q cpu (record { i = i; n = n }) (stage_picked n reply)
  taken_next i n time reply pop pick f is =
      let ends : map placed (pop ∷ pick ∷ []) ≡ (at.Cpu cpu, of.Cpu (queue_entry_by p act (pop_of direct) (Got i n time))) ∷ (at.Timer i, of.Timer (run_entry p act (Pick n cpu time) reply)) ∷ []
      = λ d. (is.popped.place d, is.popped.entry d) ∷ (is.place d, is.entry d) ∷ [] in
      is_serving direct p q cpu (writes_keep p q (pop ∷ pick ∷ []) is.written) (record { i = i; n = n }) (stage_picked n reply) f.actor
      (turns direct cpu p q (pop ∷ pick ∷ []) is.written
      ∙ (ap (turned_by direct cpu (service_of direct p cpu)) ends
      ∙ (here cpu (served direct (service_of direct p cpu) (pop_of direct) (Got i n time)) (service_of direct p cpu) ∙ found direct (service_of direct p cpu) i n time)))
      (goes i p q (pop ∷ pick ∷ []) is.written
      ∙ (ap (gone_by i (far_of p i)) ends
      ∙ here i (stage_picked n reply) (far_of p i)))

  has_next : (out : Taken) → IsFree direct p cpu → IsTaken direct p cpu act out q → HasNext direct q cpu out
  has_next (Empty note) f is = nothing_next note f is
  has_next (Took i n time reply pop pick) f is = taken_next i n time reply pop pick f is

  pub taken_keeps : (out : Taken) (name : ServiceName) (params : Params) → AreOf name params p → IsFree direct p cpu → IsTaken direct p cpu act out q → KeepsTaken name params p.actor direct cpu out q
  taken_keeps out name params are f is = record { of = still_of name params p q (taken_same out is) are; actor_is = (taken_same out is).actor; next = has_next out f is }

-- ---- its begin

module _ (p q : PassesView) (cpu act : ℕ) (out : Made) (d : Due) (is : IsBegun p cpu act d out q) where
  pub begun_same : AreSame p q
  begun_same = writes_keep p q (notes_in out.notes) is.written

  pub begun_serving : IsServing false p cpu d (Waits d.n) → IsServing false q cpu d (Runs d.n)
  begun_serving s = is_serving false p q cpu begun_same d (Runs d.n) s.actor
      (turns false cpu p q (notes_in out.notes) is.written ∙ (ap (turned_by false cpu (service_of false p cpu)) is.notes_are ∙ s.serves))
      (goes d.i p q (notes_in out.notes) is.written
      ∙ (ap (gone_by d.i (far_of p d.i)) is.notes_are
      ∙ (here false p q cpu act d.i (begun (far_of p d.i)) (far_of p d.i) ∙ ap begun s.far_is)))

-- ---- its end

module _ (direct : Bool) (p q : PassesView) (cpu act : ℕ) (d : Due) (reply : Reply) (notes : List Note) (is : IsEnded direct p cpu act d reply notes q) where
  ended_same : AreSame p q
  ended_same = writes_keep p q notes is.written

  quiet_landing : (t : Option Target) → AreQuiet (landing p act d.i t is.time)
  quiet_landing None = tt
  quiet_landing (Some t) = ((λ lane s. rest_insert lane s d.i t.n t.due is.time), tt)

  freed : (lane : Bool) (s : Option Due) → served lane s (free_of lane) Freed ≡ None
  freed false s = refl
  freed true s = refl

  ended_free : IsServing direct p cpu d (Runs d.n) → IsFree direct q cpu
  ended_free s = is_free direct p q cpu ended_same s.actor
      (turns direct cpu p q notes is.written
      ∙ (ap (turned_by direct cpu (service_of direct p cpu)) is.notes_are
      ∙ (ap (λ (t : Option Due). turned_by direct cpu t (landing p act d.i (next_target reply) is.time)) (here direct p q cpu act cpu (served direct (service_of direct p cpu) (free_of direct) Freed) (service_of direct p cpu) ∙ freed direct (service_of direct p cpu))
      ∙ quiet_turns direct cpu (landing p act d.i (next_target reply) is.time) None (quiet_landing (next_target reply)))))

  pub ended_keeps : (name : ServiceName) (params : Params) → AreOf name params p → IsServing direct p cpu d (Runs d.n) → KeepsFree name params p.actor direct cpu q
  ended_keeps name params are s = record { of = still_of name params p q ended_same are; actor_is = ended_same.actor; free = ended_free s }

-- ---- before the first call

abbrev no_turns : List QEntry
no_turns = []

no_journal : (xs : List LifeId) (k : ℕ) → slice_index_or (map (λ _. no_turns) xs) k no_turns ≡ no_turns
no_journal [] k = refl
no_journal (x ∷ xs) zero = refl
no_journal (x ∷ xs) (suc k) = no_journal xs k

-- who has seen nothing has nothing in service
pub booted_free : (name : ServiceName) (p : Params) (direct : Bool) (cpu : ℕ) → IsFree direct (booted name p (lane_actor direct (actors_of p) cpu)) cpu
booted_free name p direct cpu = record { actor = refl; free = ap (λ (J : List QEntry). served_in direct (own queue_by (lane_actor direct (actors_of p) cpu) J)) (no_journal name.cpus cpu) }
