-- What is taken into service is a callout of the service. It waits for its lock exactly where it has one, and a direct one has none.
use Rattle.std.proofs.Common.{◌≡◌, ℕ, ◌<◌, Bool, true, false, cond, ◌&&◌, List, [], ◌∷◌, ◌++◌, length, refl, sym, ap, ◌∙◌, subst, arith, ◌⊎◌, inl, inr}
use Rattle.std.specs.Prelude.{slice_index_or}
use Rattle.std.specs.List.{All}
use Rattle.std.proofs.lemmas.List.Elements.{All-get_or}
use Rattle.std.specs.declared.option.Option.{Option}
use Rattle.std.specs.declared.option.Option.TheVariants.{Some, None}
use Rattle.co_object.specs.declared.note.AnyEntry.{AnyEntry}
use Rattle.co_object.specs.declared.note.AnyEntry.TheVariants as of
use Rattle.co_object.specs.declared.note.Entry.{Entry}
use Rattle.co_object.specs.declared.note.Note.{Note}
use Rattle.co_object.specs.declared.note.Place.{Place}
use Rattle.co_object.specs.declared.note.Place.TheVariants as at
use Rattle.co_object.specs.declared.op.RunOp.TheVariants.{Pick}
use Rattle.co_object.specs.declared.queue.QReply.TheVariants.{Got}
use Rattle.co_object.specs.declared.reply.Reply.{Reply}
use Rattle.co_object.specs.declared.reply.Reply.TheVariants.{Go, Hold}
use Rattle.co_object.specs.declared.spec.LockUse.TheVariants.{Free}
use Rattle.co_object.specs.declared.spec.Spec.{Spec}
use Rattle.co_object.specs.declared.state.Arming.{Arming}
use Rattle.co_object.specs.declared.state.State.{State}
use Rattle.co_object.specs.Actors.{Actors, cpu_actor, interrupt_actor}
use Rattle.co_object.specs.Callout.{opening}
use Rattle.co_object.specs.History.{May, next, reply_of, server, state}
use Rattle.co_object.specs.declared.state.Run.TheVariants.{Picked}
use Rattle.co_object.specs.Serve.{go, has_lock, is_due, pick_armed, taken}
use Rattle.co_object.specs.Stand.{is_idle}
use Rattle.co_object.proofs.Histories.{legal-last}
use Rattle.co_desk.specs.declared.outs.Taken.{Taken}
use Rattle.co_desk.specs.declared.outs.Taken.TheVariants.{Empty, Took}
use Rattle.co_desk.specs.declared.params.Params.{Params}
use Rattle.co_desk.specs.Name.{ServiceName}
use Rattle.co_desk.specs.Outcomes.{queue_entry_by}
use Rattle.co_desk.specs.Params.{AreParams, IsSpec, actors_of, no_spec, spec_at}
use Rattle.co_desk.specs.Services.{HasNext, IsFree, IsTaken, IsTaking, run_entry}
use Rattle.co_desk.specs.Serving.{lane_actor}
use Rattle.co_desk.specs.Stories.{IsHistory}
use Rattle.co_desk.specs.Views.{PassesView, seen_of}
use Rattle.co_desk.specs.Writes.{WritesAt}
use Rattle.co_wheel.specs.Turns.{pop_of}
use Rattle.co_timers.specs.Handles.{IsHandle}
use Rattle.co_timers.specs.Rounds.{HasTaken, MayBeServed, MayServe, waits_for_lock}
use Rattle.co_timers.proofs.Kept.{taken_after}

-- ---- the callout alone

-- a Pick waits exactly where its callout has a lock
waits_taken : (lock : Bool) (s : State) (a : Arming) (reply : Reply) → reply_of (Some (cond lock (record s { armed = None; run = Picked a }, Hold) (go (record s { armed = None }) a))) ≡ Some reply → waits_for_lock reply ≡ lock
waits_taken true s a reply h = let e : Hold ≡ reply = cc in ap waits_for_lock (sym e)
waits_taken false s a reply h = let e : Go a.func a.arg ≡ reply = cc in ap waits_for_lock (sym e)

waits_armed : (spec : Spec) (s : State) (a : Arming) (b : Bool) (reply : Reply) → reply_of (cond b (Some (taken spec s a)) None) ≡ Some reply → waits_for_lock reply ≡ has_lock spec.lock
waits_armed spec s a true reply h = waits_taken (has_lock spec.lock) s a reply h
waits_armed spec s a false reply h = absurd (cc)

waits_locked : (spec : Spec) (s : State) (o : Option Arming) (n cpu time : ℕ) (reply : Reply) → reply_of (pick_armed spec s o n cpu time) ≡ Some reply → waits_for_lock reply ≡ has_lock spec.lock
waits_locked spec s None n cpu time reply h = absurd (cc)
waits_locked spec s (Some a) n cpu time reply h = waits_armed spec s a (is_due a n cpu time && is_idle s.run) reply h

-- ---- the note of the Pick

record IsPick (p : PassesView) (cpu i n time act : ℕ) (reply : Reply) : Type 0 where
  below : i < length p.timers
  before : State
  may : May (actors_of p.params) (spec_at p.params i) before (run_entry p act (Pick n cpu time) reply)

module _ (direct : Bool) (p q : PassesView) (cpu act i n time : ℕ) (reply : Reply) (pop note : Note) (is : IsTaking direct p cpu act i n time reply pop note q) where
  abbrev between : PassesView
  between = is.written.0

  pop_written : WritesAt p (at.Cpu cpu) (of.Cpu (queue_entry_by p act (pop_of direct) (Got i n time))) pop.pos between
  pop_written = subst (λ (x : Place × AnyEntry). WritesAt p x.0 x.1 pop.pos between) (λ d. (is.popped.place d, is.popped.entry d)) is.written.1

  abbrev last : PassesView
  last = is.written.2.0

  pick_written : WritesAt between (at.Timer i) (of.Timer (run_entry p act (Pick n cpu time) reply)) note.pos last
  pick_written = subst (λ (x : Place × AnyEntry). WritesAt between x.0 x.1 note.pos last) (λ d. (is.place d, is.entry d)) is.written.2.1

  same_params : between.params ≡ p.params
  same_params = ap (λ (v : PassesView). v.params) pop_written.1.passes

  same_timers : between.timers ≡ p.timers
  same_timers = ap (λ (v : PassesView). v.timers) pop_written.1.passes

  is_pick : IsPick p cpu i n time act reply
  is_pick =
      let w = pick_written.1 in
      let e : Entry = run_entry p act (Pick n cpu time) reply in
      let x = w.adds.extends in
      let H : List Entry = seen_of between i ++ x.0 in
      let spec = spec_at p.params i in
      let legal : IsHistory p.params i (H ++ e ∷ []) = subst (λ (r : Params). IsHistory r i (H ++ e ∷ [])) same_params (subst (IsHistory between.params i) x.2 w.adds.legal) in record {
        below = subst (λ (ts : List (List Entry)). i < length ts) same_timers w.below;
        before = state spec H;
        may = legal-last (next spec) (May (actors_of p.params) spec) (opening 0) H e legal.legal;
      }

-- ---- the limits

spec_in : (version i : ℕ) (specs : List Spec) → All (IsSpec version) specs → i < length specs → IsSpec version (slice_index_or specs i no_spec)
spec_in version i specs all low = All-get_or (IsSpec version) specs i no_spec low all

-- the interrupt serves direct callouts alone
is_direct : (actors : Actors) (spec : Spec) (cpu : ℕ) (b : Bool) → spec.direct ≡ b → cpu < actors.cpus → interrupt_actor actors cpu ≡ server actors spec cpu → b ≡ true
is_direct actors spec cpu true is low h = refl
is_direct actors spec cpu false is low h =
    let same : interrupt_actor actors cpu ≡ cpu_actor actors cpu = h ∙ ap (λ (x : Bool). cond x (interrupt_actor actors cpu) (cpu_actor actors cpu)) is in
    absurd (omega arith)

unlocked : (spec : Spec) (version : ℕ) → IsSpec version spec → spec.direct ≡ true → has_lock spec.lock ≡ true → ⊥
unlocked spec version ok direct lock = go ok.free where
  go : (spec.direct ≡ false) ⊎ (spec.lock ≡ Free) → ⊥
  go (inl none) = cc
  go (inr free) = let none : has_lock spec.lock ≡ false = ap has_lock free in cc

-- ---- together

module _ (name : ServiceName) (params : Params) (limits : AreParams params) (direct : Bool) (p q : PassesView) (cpu act : ℕ) (low : cpu < params.cpus) (handle : IsHandle name params p) (free : IsFree direct p cpu) where
  may_take : (i n time : ℕ) (reply : Reply) (pop note : Note) → IsTaking direct p cpu act i n time reply pop note q → MayBeServed direct params i reply
  may_take i n time reply pop note is =
      let one = is_pick direct p q cpu act i n time reply pop note is in
      let here : i < length params.specs = (let b = one.below in let s = handle.sized in omega arith) in
      let may : May (actors_of params) (spec_at params i) one.before (run_entry p act (Pick n cpu time) reply) = subst (λ (r : Params). May (actors_of r) (spec_at r i) one.before (run_entry p act (Pick n cpu time) reply)) handle.of.params_are one.may in record {
        callout = here;
        lock = waits_locked (spec_at params i) one.before one.before.armed n cpu time reply may.0;
        locked = λ locked. lane direct refl here may.1 locked;
      } where
        lane : (b : Bool) → direct ≡ b → i < length params.specs → p.actor ≡ server (actors_of params) (spec_at params i) cpu → has_lock (spec_at params i).lock ≡ true → b ≡ false
        lane false is here at lock = refl
        lane true is here at lock =
            let own : p.actor ≡ interrupt_actor (actors_of params) cpu = subst (λ (x : Bool). p.actor ≡ lane_actor x (actors_of params) cpu) is (subst (λ (r : Params). p.actor ≡ lane_actor direct (actors_of r) cpu) handle.of.params_are free.actor) in
            let direct_too = is_direct (actors_of params) (spec_at params i) cpu (spec_at params i).direct refl low (sym own ∙ at) in
            absurd (unlocked (spec_at params i) params.version (spec_in params.version i params.specs limits.specs here) direct_too lock)

  pub may_serve : (taken : Taken) → IsTaken direct p cpu act taken q → MayServe direct params taken
  may_serve (Empty note) is = tt
  may_serve (Took i n time reply pop note) is = may_take i n time reply pop note is

  pub has_taken : (lane : Bool) (taken : Taken) → direct ≡ lane → IsTaken lane p cpu act taken q → HasNext lane q cpu taken → HasTaken name params direct cpu taken q
  has_taken lane taken same is next =
      let took : IsTaken direct p cpu act taken q = subst (λ (b : Bool). IsTaken b p cpu act taken q) (sym same) is in record {
        may = may_serve taken took;
        handle = taken_after name params direct p q cpu act taken handle took;
        next = subst (λ (b : Bool). HasNext b q cpu taken) (sym same) next;
      }
