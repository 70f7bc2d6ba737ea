-- What is in service is decided by the entries of the one actor that serves.
use Rattle.std.proofs.Common.{◌≡◌, ℕ, ◌==◌, ◌&&◌, Bool, true, false, cond, List, [], ◌∷◌, refl, sym, ap, ◌∙◌, subst, arith}
use Rattle.std.specs.Prelude.{is_some}
use Rattle.std.specs.List.{fold}
use Rattle.std.specs.declared.option.Option.{Option}
use Rattle.std.specs.declared.option.Option.TheVariants.{Some, None}
use Rattle.co_life.specs.Seen.{own}
use Rattle.co_object.specs.declared.spec.Spec.{Spec}
use Rattle.co_object.specs.declared.state.State.{State}
use Rattle.co_object.specs.declared.state.Run.{Run}
use Rattle.co_object.specs.declared.state.Run.TheVariants as run
use Rattle.co_object.specs.declared.note.Entry.{Entry}
use Rattle.co_object.specs.declared.note.QEntry.{QEntry}
use Rattle.co_object.specs.declared.op.CallOp.{CallOp}
use Rattle.co_object.specs.declared.op.Op.{Op}
use Rattle.co_object.specs.declared.op.Op.TheVariants.{Call, Run as Serve}
use Rattle.co_object.specs.declared.op.RunOp.TheVariants.{Pick, Begin, End}
use Rattle.co_object.specs.declared.reply.Reply.{Reply}
use Rattle.co_object.specs.declared.queue.QOp.{QOp}
use Rattle.co_object.specs.declared.queue.QOp.TheVariants.{Insert, Remove, Scan, Pop, Free, PopDirect, FreeDirect}
use Rattle.co_object.specs.declared.queue.QReply.{QReply}
use Rattle.co_object.specs.Actors.{Actors, cpu_actor, interrupt_actor}
use Rattle.co_object.specs.Arm.{cancel}
use Rattle.co_object.specs.Entries.{is_pick}
use Rattle.co_object.specs.Stand.{is_idle}
use Rattle.co_object.specs.Callout.{opening, step}
use Rattle.co_object.specs.History.{next, May, state, state_of, reply_of, server, IsOfItsActor, IsLegal}
use Rattle.co_object.specs.Journal as journal
use Rattle.co_object.specs.Machine.{IsLegalFrom}
use Rattle.co_object.specs.Queue.{Queue, Due, empty_queue}
use Rattle.co_object.specs.Serve.{begin, begin_run, end, end_run}
use Rattle.co_object.proofs.Changes.{Change, same, refused, armed, stopped, rested, awaits, cleared, retires, inits, drained, waits, held, fired, over, change, both_true}
use Rattle.co_object.proofs.Changes as changes
use Rattle.co_object.proofs.Numbers.{same_number, same_itself}
use Rattle.co_object.proofs.QueueChanges.{QChange, inserts, removes, misses, scans, pops, finds_none, frees, pops_direct, finds_no_direct, frees_direct}
use Rattle.co_object.proofs.QueueChanges as queue
use Rattle.co_desk.specs.Stories.{by, queue_by}
use Rattle.co_desk.specs.Serving.{served, served_from, served_in, lane_actor, slot, ServiceStage, Idle, Waits, Runs, stage_picked, begun, service_after, service_in}

-- ---- the CPU

module _ (m : ℕ) (direct : List Bool) where
  pub slot_after : (lane : Bool) (q : Queue) (op : QOp) (r : QReply) (t : Queue) → QChange m direct q op r t → slot lane t ≡ served lane (slot lane q) op r
  slot_after false q op r t (inserts i n at free) = refl
  slot_after false q op r t (removes i stood) = refl
  slot_after false q op r t (misses i) = refl
  slot_after false q op r t (scans now count) = refl
  slot_after false q op r t (pops d ds first) = refl
  slot_after false q op r t finds_none = refl
  slot_after false q op r t frees = refl
  slot_after false q op r t (pops_direct d ds first) = refl
  slot_after false q op r t finds_no_direct = refl
  slot_after false q op r t frees_direct = refl
  slot_after true q op r t (inserts i n at free) = refl
  slot_after true q op r t (removes i stood) = refl
  slot_after true q op r t (misses i) = refl
  slot_after true q op r t (scans now count) = refl
  slot_after true q op r t (pops d ds first) = refl
  slot_after true q op r t finds_none = refl
  slot_after true q op r t frees = refl
  slot_after true q op r t (pops_direct d ds first) = refl
  slot_after true q op r t finds_no_direct = refl
  slot_after true q op r t frees_direct = refl

  module _ (actors : Actors) (cpu : ℕ) (lane : Bool) where
    abbrev IsLegalAfter : Queue → List QEntry → Type 0
    IsLegalAfter q J = IsLegalFrom (journal.next m direct) (journal.May actors cpu m direct) q J

    slots : (J : List QEntry) (q : Queue) → IsLegalAfter q J → slot lane (fold (journal.next m direct) q J) ≡ served_from lane (slot lane q) J
    slots [] q l = refl
    slots (e ∷ J) q l =
        slots J (journal.next m direct q e) l.1
        ∙ ap (λ (s : Option Due). served_from lane s J) (slot_after lane q e.op e.reply _ (queue.change m direct q e.op e.reply l.0.0))

    not_own : (a b : ℕ) → (a == b) ≡ false → a ≡ b → ⊥
    not_own a b other is = let t = same_itself a b is in cc

    others_rest : (l : Bool) (a : ℕ) (op : QOp) (r : QReply) (s : Option Due) → journal.IsOfItsActor actors cpu a op → (a == lane_actor l actors cpu) ≡ false → served l s op r ≡ s
    others_rest false a (Insert i n t) r s by other = refl
    others_rest false a (Remove i) r s by other = refl
    others_rest false a (Scan now) r s by other = refl
    others_rest false a Pop r s by other = absurd (not_own a _ other by)
    others_rest false a Free r s by other = absurd (not_own a _ other by)
    others_rest false a PopDirect r s by other = refl
    others_rest false a FreeDirect r s by other = refl
    others_rest true a (Insert i n t) r s by other = refl
    others_rest true a (Remove i) r s by other = refl
    others_rest true a (Scan now) r s by other = refl
    others_rest true a Pop r s by other = refl
    others_rest true a Free r s by other = refl
    others_rest true a PopDirect r s by other = absurd (not_own a _ other by)
    others_rest true a FreeDirect r s by other = absurd (not_own a _ other by)

    own_step : (is : Bool) (s t : Option Due) (e : QEntry) (J : List QEntry) → t ≡ served lane s e.op e.reply → (is ≡ false → t ≡ s) → served_from lane t J ≡ served_from lane s (cond is (e ∷ J) J)
    own_step true s t e J now else = ap (λ (x : Option Due). served_from lane x J) now
    own_step false s t e J now else = ap (λ (x : Option Due). served_from lane x J) (else refl)

    by_own : (J : List QEntry) (q : Queue) (s : Option Due) → IsLegalAfter q J → served_from lane s J ≡ served_from lane s (own queue_by (lane_actor lane actors cpu) J)
    by_own [] q s l = refl
    by_own (e ∷ J) q s l =
        by_own J (journal.next m direct q e) (served lane s e.op e.reply) l.1
        ∙ own_step (e.actor == lane_actor lane actors cpu) s (served lane s e.op e.reply) e (own queue_by (lane_actor lane actors cpu) J) refl (λ other. others_rest lane e.actor e.op e.reply s l.0.1 other)

    nothing_served : (l : Bool) → slot l empty_queue ≡ None
    nothing_served false = refl
    nothing_served true = refl

    -- what a CPU's queue has in service is what its server's own entries say
    pub slot_by_own : (J : List QEntry) → IsLegalAfter empty_queue J → slot lane (journal.queue m direct J) ≡ served_in lane (own queue_by (lane_actor lane actors cpu) J)
    slot_by_own J l = slots J empty_queue l ∙ (ap (λ (s : Option Due). served_from lane s J) (nothing_served lane) ∙ by_own J empty_queue None l)

-- ---- the callout

module _ (cpu : ℕ) where
  -- a callout's run is that of a service on this CPU which is so far
  abbrev Fits : ServiceStage → Run → Type 0
  Fits Idle r = Unit {0}
  Fits (Waits n) run.Idle = ⊥
  Fits (Waits n) (run.Picked a) = (a.n ≡ n) × (a.cpu ≡ cpu)
  Fits (Waits n) (run.Cancelled k at) = (k ≡ n) × (at ≡ cpu)
  Fits (Waits n) (run.Running k at) = ⊥
  Fits (Runs n) run.Idle = ⊥
  Fits (Runs n) (run.Picked a) = ⊥
  Fits (Runs n) (run.Cancelled k at) = (k ≡ n) × (at ≡ cpu)
  Fits (Runs n) (run.Running k at) = (k ≡ n) × (at ≡ cpu)

  fits_cancel : (v : ServiceStage) (r : Run) → Fits v r → Fits v (cancel r)
  fits_cancel Idle r f = tt
  fits_cancel (Waits n) run.Idle f = absurd f
  fits_cancel (Waits n) (run.Picked a) f = f
  fits_cancel (Waits n) (run.Cancelled k at) f = f
  fits_cancel (Waits n) (run.Running k at) f = absurd f
  fits_cancel (Runs n) run.Idle f = absurd f
  fits_cancel (Runs n) (run.Picked a) f = absurd f
  fits_cancel (Runs n) (run.Cancelled k at) f = f
  fits_cancel (Runs n) (run.Running k at) f = f

  -- a call leaves a service where it is, or cancels it
  fits_call : (v : ServiceStage) (s : State) (op : Op) (c : CallOp) (r : Reply) (t : State) → Change s op r t → op ≡ Call c → Fits v s.run → Fits v t.run
  fits_call v s op c r t (same _ _ _ _ _) is f = f
  fits_call v s op c r t (refused _ _ _ _) is f = fits_cancel v s.run f
  fits_call v s op c r t (armed _ _ _ _ _ _ _ _ _ _ _) is f = fits_cancel v s.run f
  fits_call v s op c r t (stopped _ _ _) is f = fits_cancel v s.run f
  fits_call v s op c r t (rested _ _ _ _ _) is f = fits_cancel v s.run f
  fits_call v s op c r t (awaits _ _ _ _ _) is f = f
  fits_call v s op c r t (cleared _) is f = f
  fits_call v s op c r t (retires _ _ _) is f = f
  fits_call v s op c r t (inits _) is f = f
  fits_call v s op c r t (drained _ _ _ _) is f = f
  fits_call v s op c r t (waits _ _ _ _ _) is f = f
  fits_call v s op c r t (held _ _ _ _ _ _ _ _) is f = cc
  fits_call v s op c r t (fired _ _ _ _ _ _ _ _) is f = cc
  fits_call v s op c r t (changes.begun _ _ _ _ _) is f = cc
  fits_call v s op c r t (over _ _ _ _ _) is f = cc

  fits_pick : (s : State) (op : Op) (r : Reply) (t : State) (n c at : ℕ) → Change s op r t → op ≡ Serve (Pick n c at) → c ≡ cpu → Fits (stage_picked n r) t.run
  fits_pick s op r t n c at (same _ _ _ _ not_pick) is here = let picks = ap is_pick is in cc
  fits_pick s op r t n c at (refused _ _ _ _) is here = cc
  fits_pick s op r t n c at (armed _ _ _ _ _ _ _ _ _ _ _) is here = cc
  fits_pick s op r t n c at (stopped _ _ _) is here = cc
  fits_pick s op r t n c at (rested _ _ _ _ _) is here = cc
  fits_pick s op r t n c at (awaits _ _ _ _ _) is here = cc
  fits_pick s op r t n c at (cleared _) is here = cc
  fits_pick s op r t n c at (retires _ _ _) is here = cc
  fits_pick s op r t n c at (inits _) is here = cc
  fits_pick s op r t n c at (drained _ _ _ _) is here = cc
  fits_pick s op r t n c at (waits _ _ _ _ _) is here = cc
  fits_pick s op r t n c at (held a m x y _ _ number place) is here =
      let m_is : m ≡ n = cc in let x_is : x ≡ c = cc in (same_number a.n m number ∙ m_is, same_number a.cpu x place ∙ (x_is ∙ here))
  fits_pick s op r t n c at (fired a m x y _ _ number place) is here =
      let m_is : m ≡ n = cc in let x_is : x ≡ c = cc in (same_number a.n m number ∙ m_is, same_number a.cpu x place ∙ (x_is ∙ here))
  fits_pick s op r t n c at (changes.begun _ _ _ _ _) is here = cc
  fits_pick s op r t n c at (over _ _ _ _ _) is here = cc

  -- what is picked is in no service
  picks_idle : (s : State) (op : Op) (r : Reply) (t : State) (n c at : ℕ) → Change s op r t → op ≡ Serve (Pick n c at) → is_idle s.run ≡ true
  picks_idle s op r t n c at (same _ _ _ _ not_pick) is = let picks = ap is_pick is in cc
  picks_idle s op r t n c at (refused _ _ _ _) is = cc
  picks_idle s op r t n c at (armed _ _ _ _ _ _ _ _ _ _ _) is = cc
  picks_idle s op r t n c at (stopped _ _ _) is = cc
  picks_idle s op r t n c at (rested _ _ _ _ _) is = cc
  picks_idle s op r t n c at (awaits _ _ _ _ _) is = cc
  picks_idle s op r t n c at (cleared _) is = cc
  picks_idle s op r t n c at (retires _ _ _) is = cc
  picks_idle s op r t n c at (inits _) is = cc
  picks_idle s op r t n c at (drained _ _ _ _) is = cc
  picks_idle s op r t n c at (waits _ _ _ _ _) is = cc
  picks_idle s op r t n c at (held _ _ _ _ _ idle _ _) is = idle
  picks_idle s op r t n c at (fired _ _ _ _ _ idle _ _) is = idle
  picks_idle s op r t n c at (changes.begun _ _ _ _ _) is = cc
  picks_idle s op r t n c at (over _ _ _ _ _) is = cc

  idle_fits : (v : ServiceStage) (r r' : Run) → Fits v r → is_idle r ≡ true → Fits v r'
  idle_fits Idle r r' f idle = tt
  idle_fits (Waits n) run.Idle r' f idle = absurd f
  idle_fits (Waits n) (run.Picked a) r' f idle = absurd (cc)
  idle_fits (Waits n) (run.Cancelled k at) r' f idle = absurd (cc)
  idle_fits (Waits n) (run.Running k at) r' f idle = absurd (cc)
  idle_fits (Runs n) run.Idle r' f idle = absurd f
  idle_fits (Runs n) (run.Picked a) r' f idle = absurd (cc)
  idle_fits (Runs n) (run.Cancelled k at) r' f idle = absurd (cc)
  idle_fits (Runs n) (run.Running k at) r' f idle = absurd (cc)

  -- what a test lets through has passed it
  passed : (P : Option (State × Reply) → Type 0) (b : Bool) (o : State × Reply) (r : Reply) → reply_of (cond b (Some o) None) ≡ Some r → (b ≡ true → P (Some o)) → P (cond b (Some o) None)
  passed P true o r h so = so refl
  passed P false o r h so = absurd (cc)

  fits_begin : (s : State) (x : Run) (v : ServiceStage) (n c : ℕ) (r : Reply) → s.run ≡ x → Fits v x → reply_of (begin_run s x n c) ≡ Some r → Fits (begun v) (state_of (begin_run s x n c) s).run
  fits_begin s x Idle n c r is f h = tt
  fits_begin s run.Idle (Waits k) n c r is f h = absurd f
  fits_begin s (run.Picked a) (Waits k) n c r is f h = passed (λ o. Fits (Runs k) (state_of o s).run) (a.n == n && a.cpu == c) _ r h (λ so. f)
  fits_begin s (run.Cancelled m at) (Waits k) n c r is f h = passed (λ o. Fits (Runs k) (state_of o s).run) (m == n && at == c) _ r h (λ so. subst (Fits (Runs k)) (sym is) f)
  fits_begin s (run.Running m at) (Waits k) n c r is f h = absurd f
  fits_begin s run.Idle (Runs k) n c r is f h = absurd f
  fits_begin s (run.Picked a) (Runs k) n c r is f h = absurd f
  fits_begin s (run.Cancelled m at) (Runs k) n c r is f h = passed (λ o. Fits (Runs k) (state_of o s).run) (m == n && at == c) _ r h (λ so. subst (Fits (Runs k)) (sym is) f)
  fits_begin s (run.Running m at) (Runs k) n c r is f h = absurd (cc)

  both_here : (b : Bool) (at c : ℕ) → (b && at == c) ≡ true → at ≡ cpu → (c ≡ cpu → ⊥) → ⊥
  both_here b at c h here apart = apart (sym (same_number at c (both_true b (at == c) h).1) ∙ here)

  -- the service of another CPU doesn't begin or end one here
  begin_apart : (s : State) (x : Run) (v : ServiceStage) (n c : ℕ) (r : Reply) → Fits v x → reply_of (begin_run s x n c) ≡ Some r → (c ≡ cpu → ⊥) → Fits v (state_of (begin_run s x n c) s).run
  begin_apart s x Idle n c r f h apart = tt
  begin_apart s run.Idle (Waits k) n c r f h apart = absurd f
  begin_apart s (run.Picked a) (Waits k) n c r f h apart = passed (λ o. Fits (Waits k) (state_of o s).run) (a.n == n && a.cpu == c) _ r h (λ so. absurd (both_here (a.n == n) a.cpu c so f.1 apart))
  begin_apart s (run.Cancelled m at) (Waits k) n c r f h apart = passed (λ o. Fits (Waits k) (state_of o s).run) (m == n && at == c) _ r h (λ so. absurd (both_here (m == n) at c so f.1 apart))
  begin_apart s (run.Running m at) (Waits k) n c r f h apart = absurd f
  begin_apart s run.Idle (Runs k) n c r f h apart = absurd f
  begin_apart s (run.Picked a) (Runs k) n c r f h apart = absurd f
  begin_apart s (run.Cancelled m at) (Runs k) n c r f h apart = passed (λ o. Fits (Runs k) (state_of o s).run) (m == n && at == c) _ r h (λ so. absurd (both_here (m == n) at c so f.1 apart))
  begin_apart s (run.Running m at) (Runs k) n c r f h apart = absurd (cc)

  end_apart : (s : State) (x : Run) (v : ServiceStage) (n c : ℕ) (r : Reply) → Fits v x → reply_of (end_run s x n c) ≡ Some r → (c ≡ cpu → ⊥) → Fits v (state_of (end_run s x n c) s).run
  end_apart s x Idle n c r f h apart = tt
  end_apart s run.Idle (Waits k) n c r f h apart = absurd f
  end_apart s (run.Picked a) (Waits k) n c r f h apart = absurd (cc)
  end_apart s (run.Cancelled m at) (Waits k) n c r f h apart = passed (λ o. Fits (Waits k) (state_of o s).run) (m == n && at == c) _ r h (λ so. absurd (both_here (m == n) at c so f.1 apart))
  end_apart s (run.Running m at) (Waits k) n c r f h apart = absurd f
  end_apart s run.Idle (Runs k) n c r f h apart = absurd f
  end_apart s (run.Picked a) (Runs k) n c r f h apart = absurd f
  end_apart s (run.Cancelled m at) (Runs k) n c r f h apart = passed (λ o. Fits (Runs k) (state_of o s).run) (m == n && at == c) _ r h (λ so. absurd (both_here (m == n) at c so f.1 apart))
  end_apart s (run.Running m at) (Runs k) n c r f h apart = passed (λ o. Fits (Runs k) (state_of o s).run) (m == n && at == c) _ r h (λ so. absurd (both_here (m == n) at c so f.1 apart))

  -- a service that is so far can go on
  begins : (s : State) (x : Run) (n : ℕ) → Fits (Waits n) x → is_some (begin_run s x n cpu) ≡ true
  begins s run.Idle n f = absurd f
  begins s (run.Picked a) n f = rw (same_itself a.n n f.0, same_itself a.cpu cpu f.1)
  begins s (run.Cancelled m at) n f = rw (same_itself m n f.0, same_itself at cpu f.1)
  begins s (run.Running m at) n f = absurd f

  ends : (s : State) (x : Run) (n : ℕ) → Fits (Runs n) x → is_some (end_run s x n cpu) ≡ true
  ends s run.Idle n f = absurd f
  ends s (run.Picked a) n f = absurd f
  ends s (run.Cancelled m at) n f = rw (same_itself m n f.0, same_itself at cpu f.1)
  ends s (run.Running m at) n f = rw (same_itself m n f.0, same_itself at cpu f.1)

  module _ (actors : Actors) (spec : Spec) where
    abbrev mine : ℕ
    mine = server actors spec cpu

    same_server : (b : Bool) (c x : ℕ) → cond b (interrupt_actor actors c) (cpu_actor actors c) ≡ cond b (interrupt_actor actors x) (cpu_actor actors x) → c ≡ x
    same_server true c x e = omega arith
    same_server false c x e = omega arith

    apart : (a c : ℕ) → (a == mine) ≡ false → a ≡ server actors spec c → c ≡ cpu → ⊥
    apart a c other by here = let t = same_itself a mine (by ∙ ap (server actors spec) here) in cc

    own_next : (s : State) (op : Op) (r : Reply) (v : ServiceStage) → reply_of (step spec s op) ≡ Some r → IsOfItsActor actors spec mine op → Fits v s.run → Fits (service_after v op r) (state_of (step spec s op) s).run
    own_next s (Call c) r v h by f = fits_call v s (Call c) c r _ (change spec s (Call c) r h) refl f
    own_next s (Serve (Pick n c at)) r v h by f = fits_pick s (Serve (Pick n c at)) r _ n c at (change spec s (Serve (Pick n c at)) r h) refl (same_server spec.direct c cpu (sym by))
    own_next s (Serve (Begin n c)) r v h by f = fits_begin s s.run v n c r refl f h
    own_next s (Serve (End n c)) r v h by f = tt

    other_next : (s : State) (a : ℕ) (op : Op) (r : Reply) (v : ServiceStage) → reply_of (step spec s op) ≡ Some r → IsOfItsActor actors spec a op → (a == mine) ≡ false → Fits v s.run → Fits v (state_of (step spec s op) s).run
    other_next s a (Call c) r v h by other f = fits_call v s (Call c) c r _ (change spec s (Call c) r h) refl f
    other_next s a (Serve (Pick n c at)) r v h by other f = idle_fits v s.run _ f (picks_idle s (Serve (Pick n c at)) r _ n c at (change spec s (Serve (Pick n c at)) r h) refl)
    other_next s a (Serve (Begin n c)) r v h by other f = begin_apart s s.run v n c r f h (apart a c other by)
    other_next s a (Serve (End n c)) r v h by other f = end_apart s s.run v n c r f h (apart a c other by)

    -- the entries of others leave it
    one_own : (b : Bool) (e : Entry) (s : State) (v : ServiceStage) (H : List Entry) (t : State) → (b ≡ true → Fits (fold (λ w f. service_after w f.op f.reply) (service_after v e.op e.reply) H) t.run) → (b ≡ false → Fits (fold (λ w f. service_after w f.op f.reply) v H) t.run)
        → Fits (fold (λ w f. service_after w f.op f.reply) v (cond b (e ∷ H) H)) t.run
    one_own true e s v H t so other = so refl
    one_own false e s v H t so other = other refl

    fits_own : (H : List Entry) (s : State) (v : ServiceStage) → IsLegalFrom (next spec) (May actors spec) s H → Fits v s.run → Fits (fold (λ w e. service_after w e.op e.reply) v (own by mine H)) (fold (next spec) s H).run
    fits_own [] s v l f = f
    fits_own (e ∷ H) s v l f =
        one_own (e.actor == mine) e s v (own by mine H) (fold (next spec) (next spec s e) H)
        (λ is. fits_own H (next spec s e) (service_after v e.op e.reply) l.1 (own_next s e.op e.reply v l.0.0 (subst (λ a. IsOfItsActor actors spec a e.op) (same_number e.actor mine is) l.0.1) f))
        (λ is. fits_own H (next spec s e) v l.1 (other_next s e.actor e.op e.reply v l.0.0 l.0.1 is f))

    -- how far a callout's service on a CPU is, its server's own entries say
    pub may_begin : (H : List Entry) (n : ℕ) → IsLegal actors spec H → service_in (own by mine H) ≡ Waits n → is_some (begin (state spec H) n cpu) ≡ true
    may_begin H n l is = begins (state spec H) (state spec H).run n (subst (λ v. Fits v (state spec H).run) is (fits_own H (opening 0) Idle l tt))

    pub may_end : (H : List Entry) (n : ℕ) → IsLegal actors spec H → service_in (own by mine H) ≡ Runs n → is_some (end (state spec H) n cpu) ≡ true
    may_end H n l is = ends (state spec H) (state spec H).run n (subst (λ v. Fits v (state spec H).run) is (fits_own H (opening 0) Idle l tt))
