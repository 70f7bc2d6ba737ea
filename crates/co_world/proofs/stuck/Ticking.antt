-- What waits for a tick leads to a step of the interrupt that has ticks left.
use Rattle.std.proofs.Common.{◌≡◌, ℕ, suc, ◌+◌, ◌*◌, ◌<◌, List, [], ◌∷◌, length, refl, sym, ap, subst, ◌∙◌, arith, ◌⊎◌, inl, inr, Option, Some, None}
use Rattle.std.specs.List.{AllByRecursion}
use Rattle.co_lock.specs.declared.Held.{Held}
use Rattle.co_lock.specs.Service.{hold_of}
use Rattle.co_program.specs.declared.Script.{Script}
use Rattle.co_program.specs.declared.Act.{Act}
use Rattle.co_program.specs.declared.Act.TheVariants.{Tick}
use Rattle.co_program.specs.Actors.{role_of, cpu_of, actor_count, acts_at}
use Rattle.co_program.specs.declared.Task.{Task}
use Rattle.co_program.specs.declared.Task.TheVariants.{Does, Soft}
use Rattle.co_program.specs.declared.Role.{Role}
use Rattle.co_program.specs.declared.Role.TheVariants.{Client, Cpu, Interrupt}
use Rattle.co_object.specs.declared.QOp.{QOp}
use Rattle.co_object.specs.declared.QOp.TheVariants.{Pop}
use Rattle.co_program.specs.Stages.{Stage, Ready, Waiting, Popping, Picking, Locking, Beginning, Unlocking, Firing, Releasing, Ending, Freeing, Drained}
use Rattle.co_program.specs.declared.InService.{InService}
use Rattle.co_program.specs.Cursor.{Cursor}
use Rattle.co_program.specs.declared.PendingInsert.{PendingInsert}
use Rattle.co_program.specs.Action.{Take, Asks, action_for, action_with, action_in, spec_at, scans_first, scans_with, scans_at, scans_of, asks_within, begins_next, pop_of}
use Rattle.co_program.specs.declared.Asked.TheVariants.{Queue}
use Rattle.co_program.specs.Follows.{scan_count}
use Rattle.co_world.specs.World.{World}
use Rattle.co_world.proofs.kept.Invariant.{HoldFits, HasActs, IsTaskOf, AreSoft, under_way}
use Rattle.co_world.proofs.kept.BySteps.{IsSteady}
use Rattle.co_world.proofs.basics.Roles.{cpu_number, role_interrupt, counted}
use Rattle.co_program.specs.Actors.{softs, client_count}
use Rattle.co_world.proofs.kept.Stages.{first_task}
use Rattle.co_world.proofs.stuck.Movers.{Steps, OnlyMoves, NoWait}
use Rattle.co_world.proofs.stuck.Holders.{only_within, Stays}
use Rattle.co_world.proofs.stuck.Serving.{locking_takes, stage_steps}

only_drained : (s : Script) (role : Role) (c : Cursor) (v : InService) (acts : List Act) → HasActs (Drained v acts) → OnlyMoves (asks_within s (cpu_of s role) c v acts)
only_drained s role c v [] h = absurd h
only_drained s role c v (act ∷ acts) h = only_within s role c v (act ∷ acts) h

tick_stays : (s : Script) (x : ℕ) (c : Cursor) (left : List Task) → AllByRecursion (IsTaskOf s (Interrupt x)) left → 0 < length left → OnlyMoves (begins_next s (Interrupt x) c left) × (scans_of left ≡ 0)
tick_stays s x c [] tasks h = absurd (omega arith)
tick_stays s x c (Does (Tick time) ∷ left) tasks h = (tt, refl)
tick_stays s x c (Does act ∷ left) tasks h = absurd tasks.0
tick_stays s x c (Soft j ∷ left) tasks h = absurd tasks.0

interrupt_stage : (s : Script) (x : ℕ) (c : Cursor) (stage : Stage) → HoldFits s (Interrupt x) c.hold stage → HasActs stage → AllByRecursion (IsTaskOf s (Interrupt x)) c.left → (stage ≡ Ready → 0 < length c.left) →
    (NoWait stage) × (Stays s (Interrupt x) c stage ⊎ ((held : Held) × (to : Cursor) × (action_in s (Interrupt x) c stage ≡ Take held to)))
interrupt_stage s x c Ready fits acts tasks more =
    let stays : OnlyMoves (begins_next s (Interrupt x) c c.left) × (scans_of c.left ≡ 0) = tick_stays s x c c.left tasks (more refl) in
    (tt, inl (record { only = stays.0; no_wait = tt; no_scans = stays.1 }))
interrupt_stage s x c (Waiting n took) fits acts tasks more = absurd fits
interrupt_stage s x c (Popping act) fits acts tasks more = (tt, inl (record { only = tt; no_wait = tt; no_scans = refl }))
interrupt_stage s x c (Picking v) fits acts tasks more = (tt, inl (record { only = tt; no_wait = tt; no_scans = refl }))
interrupt_stage s x c (Locking v) fits acts tasks more = (tt, inr (fits.1.0, record c { hold = Some fits.1.0; stage = Beginning v }, locking_takes s c v (hold_of (spec_at s v.i).lock) fits.1.0 fits.1.1))
interrupt_stage s x c (Beginning v) fits acts tasks more = (tt, inl (record { only = tt; no_wait = tt; no_scans = refl }))
interrupt_stage s x c (Unlocking v acts') fits acts tasks more = (tt, inl (record { only = tt; no_wait = tt; no_scans = refl }))
interrupt_stage s x c (Firing v acts') fits acts tasks more = (tt, inl (record { only = only_within s (Interrupt x) c v acts' acts; no_wait = tt; no_scans = refl }))
interrupt_stage s x c (Releasing v) fits acts tasks more = (tt, inl (record { only = tt; no_wait = tt; no_scans = refl }))
interrupt_stage s x c (Ending v) fits acts tasks more = (tt, inl (record { only = tt; no_wait = tt; no_scans = refl }))
interrupt_stage s x c (Freeing v drain next) fits acts tasks more = (tt, inl (record { only = tt; no_wait = tt; no_scans = refl }))
interrupt_stage s x c (Drained v acts') fits acts tasks more = (tt, inl (record { only = only_drained s (Interrupt x) c v acts' acts; no_wait = tt; no_scans = refl }))

interrupt_steps : (s : Script) (w : World) (b x : ℕ) → IsSteady s w → b < actor_count s → role_of s b ≡ Interrupt x → ((w.actors b).cursor.stage ≡ Ready → 0 < length (w.actors b).cursor.left) → Steps s w
interrupt_steps s w b x sound exists is more =
    let c : Cursor = (w.actors b).cursor in
    let at = interrupt_stage s x c c.stage (subst (λ (r : Role). HoldFits s r c.hold c.stage) is (sound.good.holds.roles b).hold) (sound.good.holds.roles b).acts (subst (λ (r : Role). AllByRecursion (IsTaskOf s r) c.left) is (sound.good.holds.roles b).tasks) more in
    stage_steps s w b sound exists at.0
    (subst (λ (r : Role). Stays s r c c.stage ⊎ ((held : Held) × (to : Cursor) × (action_in s r c c.stage ≡ Take held to))) (sym is) at.1)

-- a soft act that waits for its tick: it is a CPU's, before its j-th soft act
soft_first : (s : Script) (role : Role) (c : Cursor) (left : List Task) → AllByRecursion (IsTaskOf s role) left → 0 < scans_of left →
    (j : ℕ) × (rest : List Task) × (x : ℕ) × (left ≡ Soft j ∷ rest) × (role ≡ Cpu x) × (scans_of left ≡ suc j)
soft_first s role c [] tasks h = absurd (omega arith)
soft_first s role c (Does act ∷ rest) tasks h = absurd (omega arith)
soft_first s (Client k) c (Soft j ∷ rest) tasks h = absurd tasks.0
soft_first s (Interrupt x) c (Soft j ∷ rest) tasks h = absurd tasks.0
soft_first s (Cpu x) c (Soft j ∷ rest) tasks h = (j, rest, x, refl, refl, refl)

ready_first : (c : Cursor) (stage : Stage) → 0 < scans_at c stage → (stage ≡ Ready) × (scans_at c stage ≡ scans_of c.left)
ready_first c Ready h = (refl, refl)
ready_first c (Waiting n took) h = absurd (omega arith)
ready_first c (Popping act) h = absurd (omega arith)
ready_first c (Picking v) h = absurd (omega arith)
ready_first c (Locking v) h = absurd (omega arith)
ready_first c (Beginning v) h = absurd (omega arith)
ready_first c (Unlocking v acts) h = absurd (omega arith)
ready_first c (Firing v acts) h = absurd (omega arith)
ready_first c (Releasing v) h = absurd (omega arith)
ready_first c (Ending v) h = absurd (omega arith)
ready_first c (Freeing v drain next) h = absurd (omega arith)
ready_first c (Drained v acts) h = absurd (omega arith)

no_parcel : (c : Cursor) (parcel : Option PendingInsert) → 0 < scans_with c parcel → (parcel ≡ None) × (scans_with c parcel ≡ scans_at c c.stage)
no_parcel c None h = (refl, refl)
no_parcel c (Some p) h = absurd (omega arith)

soft_number : (k j n : ℕ) (rest : List Task) → softs k (suc n) ≡ Soft j ∷ rest → k ≡ j
soft_number k j n rest is = cc

pub ticker_steps : (s : Script) (w : World) (a act cpu : ℕ) (op : QOp) → IsSteady s w → action_for s a (w.actors a).cursor ≡ Asks act (Queue cpu op) → scan_count (w.cpus cpu).journal < scans_first (w.actors a).cursor → Steps s w
ticker_steps s w a act cpu op sound is few =
    let c : Cursor = (w.actors a).cursor in
    let role : Role = role_of s a in
    let parcel : (c.parcel ≡ None) × (scans_first c ≡ scans_at c c.stage) = no_parcel c c.parcel (omega arith) in
    let same : scans_first c ≡ scans_at c c.stage = parcel.1 in
    let ready : (c.stage ≡ Ready) × (scans_at c c.stage ≡ scans_of c.left) = ready_first c c.stage (omega arith) in
    let first : scans_at c c.stage ≡ scans_of c.left = ready.1 in
    let soft : (j : ℕ) × (rest : List Task) × (x : ℕ) × (c.left ≡ Soft j ∷ rest) × (role ≡ Cpu x) × (scans_of c.left ≡ suc j) = soft_first s role c c.left (sound.good.holds.roles a).tasks (omega arith) in
    let j : ℕ = soft.0 in
    let rest : List Task = soft.1 in
    let x : ℕ = soft.2 in
    let count : scans_of c.left ≡ suc j = soft.5 in
    let here : action_for s a c ≡ Asks c.act (Queue x Pop) =
    ap (action_with s role c) parcel.0 ∙ ap (action_in s role c) ready.0 ∙ ap (begins_next s role c) soft.3 ∙ ap (λ (r : Role). Asks c.act (Queue (cpu_of s r) (pop_of r))) soft.4 in
    let at : cpu ≡ x = cc (sym is ∙ here) in
    let few_here : scan_count (w.cpus x).journal < scans_first c = subst (λ (k : ℕ). scan_count (w.cpus k).journal < scans_first c) at few in
    let two : s.version ≡ 2 = subst (λ (r : Role). IsTaskOf s r (Soft j)) soft.4 (first_task (IsTaskOf s role) c.left rest (Soft j) soft.3 (sound.good.holds.roles a).tasks) in
    let number : (a ≡ client_count s + x) × (x < s.cpus) = cpu_number s a x soft.4 in
    let low : x < s.cpus = number.1 in
    let all : actor_count s ≡ client_count s + 2 * s.cpus = counted s two in
    let b : ℕ = client_count s + s.cpus + x in
    let is_one : role_of s b ≡ Interrupt x = role_interrupt s x in
    let left : (k : ℕ) × (k + length c.left ≡ length (acts_at s.ticks x)) × (c.left ≡ softs k (length c.left)) = subst (λ (r : Role). AreSoft s r c.left) soft.4 (sound.good.holds.roles a).soft two in
    let long : length c.left ≡ suc (length rest) = ap length soft.3 in
    let first_soft : left.0 ≡ j = soft_number left.0 j (length rest) rest (ap (softs left.0) (sym long) ∙ sym left.2 ∙ soft.3) in
    let sum = left.1 in
    let scanned = (sound.good.holds.ticking b x two is_one).0 in
    interrupt_steps s w b x sound (omega (arith, low, all)) is_one (λ e. (let under : under_way (w.actors b).cursor.stage ≡ 0 = ap under_way e in omega arith))
