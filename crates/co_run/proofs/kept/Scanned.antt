-- Of what is kept of an interrupt: its CPU's journal has a Scan for each tick that it has begun.
use Rattle.std.proofs.Common.{◌≡◌, ℕ, ◌+◌, ◌≤◌, false, List, [], ◌∷◌, ◌++◌, length, refl, sym, ap, subst, ◌∙◌, None, arith}
use Rattle.std.proofs.lemmas.List.{length-map}
use Rattle.co_object.specs.declared.Note.{Note}
use Rattle.co_object.specs.declared.QEntry.{QEntry}
use Rattle.co_object.specs.declared.Reply.{Reply}
use Rattle.co_object.specs.declared.Place.TheVariants as place
use Rattle.co_object.specs.declared.AnyEntry.TheVariants as entry
use Rattle.co_object.specs.declared.Op.{Op}
use Rattle.co_lock.specs.declared.Held.{Held}
use Rattle.co_program.specs.declared.Act.TheVariants.{Drain}
use Rattle.co_program.specs.declared.Script.{Script}
use Rattle.co_program.specs.declared.Task.{Task}
use Rattle.co_program.specs.declared.Task.TheVariants.{Does, Soft}
use Rattle.co_program.specs.declared.Role.{Role}
use Rattle.co_program.specs.declared.Role.TheVariants.{Client, Cpu, Interrupt}
use Rattle.co_program.specs.Stages.{Stage, Ready, Waiting, Popping, Locking, Beginning, Unlocking, Firing, Releasing, Ending, Drained}
use Rattle.co_program.specs.Cursor.{Cursor}
use Rattle.co_program.specs.Action.{Action, Silent, Take, firing, draining}
use Rattle.co_program.specs.Actors.{acts_at, cpu_of, program_of}
use Rattle.co_program.specs.Advance.{act_over, call_made, tail_of}
use Rattle.co_program.specs.Follows.{one_scan, scan_count}
use Rattle.co_world.proofs.basics.Actions.{IsAction, drops, passes, grabs, tells, asks, drains, enters, unlocks, releases}
use Rattle.co_world.proofs.basics.Prefixes.{Begins}
use Rattle.co_world.proofs.kept.Invariant.{FitsRole, IsTaskOf, under_way}
use Rattle.co_world.proofs.kept.Servers.{clients_act}
use Rattle.co_world.proofs.kept.Stages.{first_task}
use Rattle.co_desk.specs.Views.{PassesView, journal_seen}
use Rattle.co_desk.specs.Writes.{Writes, WritesAt}
use Rattle.co_desk.proofs.Items.{index_set}
use Rattle.co_run.specs.Acting.{HasScanned}
use Rattle.co_run.proofs.follows.GoesBack.{journals_back}
use Rattle.co_run.proofs.places.AfterCalls.{IsSpoken, called_kinds}

-- ---- how many Scans are seen

scans_begun : (xs ys : List QEntry) → Begins xs ys → scan_count xs ≤ scan_count ys
scans_begun [] ys h = omega arith
scans_begun (x ∷ xs) [] h = absurd h
scans_begun (x ∷ xs) (y ∷ ys) h =
    let same : one_scan x.op ≡ one_scan y.op = ap (λ (e : QEntry). one_scan e.op) h.0 in
    let rest = scans_begun xs ys h.1 in
    omega (arith, same, rest)

begins_self : (xs : List QEntry) → Begins xs xs
begins_self [] = tt
begins_self (x ∷ xs) = (refl, begins_self xs)

scans_both : (xs ys : List QEntry) → scan_count (xs ++ ys) ≡ scan_count xs + scan_count ys
scans_both [] ys = omega arith
scans_both (x ∷ xs) ys = let rest = scans_both xs ys in omega (arith, rest)

-- no fewer after a write
pub scans_more : (p q : PassesView) (notes : List Note) → Writes p notes q → (x : ℕ) → scan_count (journal_seen p x) ≤ scan_count (journal_seen q x)
scans_more p q notes w x = scans_begun (journal_seen p x) (journal_seen q x) (journals_back (journal_seen q) p q notes w (λ y. begins_self (journal_seen q y)) x)

-- and one more after a Scan
pub scans_once : (p q : PassesView) (cpu pos : ℕ) (e : QEntry) → one_scan e.op ≡ 1 → WritesAt p (place.Cpu cpu) (entry.Cpu e) pos q → scan_count (journal_seen p cpu) + 1 ≤ scan_count (journal_seen q cpu)
scans_once p q cpu pos e one w =
    let others : List QEntry = w.1.adds.extends.0 in
    let there : journal_seen q cpu ≡ (journal_seen p cpu ++ others) ++ e ∷ [] = ap (λ (v : PassesView). journal_seen v cpu) w.1.passes ∙ (index_set p.cpus cpu w.0 [] w.1.below ∙ w.1.adds.extends.2) in
    let all : scan_count (journal_seen q cpu) ≡ scan_count ((journal_seen p cpu ++ others) ++ e ∷ []) = ap scan_count there in
    let last = scans_both (journal_seen p cpu ++ others) (e ∷ []) in
    let first = scans_both (journal_seen p cpu) others in
    let only : scan_count (e ∷ []) ≡ 1 = omega (arith, one) in
    omega (arith, all, last, first, only)

-- ---- no tick is begun

-- whoever goes from one place to another, begins no tick there as an interrupt
abbrev pub BeginsNone : Role → List Task → Stage → List Task → Stage → Type 0
BeginsNone (Client k) left stage to_left to = Unit {0}
BeginsNone (Cpu x) left stage to_left to = Unit {0}
BeginsNone (Interrupt x) left stage to_left to = under_way to + length left ≤ under_way stage + length to_left

-- where it is an interrupt, a tick is under way
abbrev pub IsUnderWay : Role → Stage → Type 0
IsUnderWay role stage = (x : ℕ) → role ≡ Interrupt x → under_way stage ≡ 1

pub scanned_on : (s : Script) (role : Role) (p q : PassesView) (left to_left : List Task) (stage to : Stage) → ((x : ℕ) → scan_count (journal_seen p x) ≤ scan_count (journal_seen q x)) → BeginsNone role left stage to_left to →
    HasScanned s role p left stage → HasScanned s role q to_left to
scanned_on s (Client k) p q left to_left stage to more none has = tt
scanned_on s (Cpu x) p q left to_left stage to more none has = tt
scanned_on s (Interrupt x) p q left to_left stage to more none has = let m = more x in omega (arith, m, none, has)

-- the passes are the same
pub scanned_same : (s : Script) (role : Role) (q : PassesView) (left to_left : List Task) (stage to : Stage) → BeginsNone role left stage to_left to → HasScanned s role q left stage → HasScanned s role q to_left to
scanned_same s role q left to_left stage to none has = scanned_on s role q q left to_left stage to (λ x. omega arith) none has

-- a Scan begins one
pub scanned_once : (s : Script) (role : Role) (p q : PassesView) (left : List Task) (act : ℕ) → scan_count (journal_seen p (cpu_of s role)) + 1 ≤ scan_count (journal_seen q (cpu_of s role)) → HasScanned s role p left Ready →
    HasScanned s role q left (Popping act)
scanned_once s (Client k) p q left act more has = tt
scanned_once s (Cpu x) p q left act more has = tt
scanned_once s (Interrupt x) p q left act more has = omega (arith, more, has)

pub starts_scanned : (s : Script) (role : Role) (q : PassesView) → HasScanned s role q (program_of s role) Ready
starts_scanned s (Client k) q = tt
starts_scanned s (Cpu x) q = tt
starts_scanned s (Interrupt x) q = let long = length-map (acts_at s.ticks x) Does in omega (arith, long)

-- ---- the stages

under_most : (stage : Stage) → under_way stage ≤ 1
under_most Ready = omega arith
under_most stage = omega arith

tail_less : {X : Type 0} (xs : List X) → length xs ≤ length (tail_of xs) + 1
tail_less [] = omega arith
tail_less (x ∷ xs) = omega arith

-- a service goes on
pub none_within : (role : Role) (left to_left : List Task) (stage to : Stage) → to_left ≡ left → IsUnderWay role stage → BeginsNone role left stage to_left to
none_within (Client k) left to_left stage to same under = tt
none_within (Cpu x) left to_left stage to same under = tt
none_within (Interrupt x) left to_left stage to same under =
    let long : length to_left ≡ length left = ap length same in
    let begun : under_way stage ≡ 1 = under x refl in
    let most = under_most to in
    omega (arith, long, begun, most)

-- the rounds of a tick end
pub none_ended : (role : Role) (left : List Task) (stage : Stage) → IsUnderWay role stage → BeginsNone role left stage (tail_of left) Ready
none_ended (Client k) left stage under = tt
none_ended (Cpu x) left stage under = tt
none_ended (Interrupt x) left stage under =
    let begun : under_way stage ≡ 1 = under x refl in
    let less = tail_less left in
    omega (arith, begun, less)

none_ready : (role : Role) (left : List Task) → left ≡ [] → BeginsNone role left Ready [] Ready
none_ready (Client k) left none = tt
none_ready (Cpu x) left none = tt
none_ready (Interrupt x) left none = let long : length left ≡ 0 = ap length none in omega (arith, long)

none_client : (role : Role) (k : ℕ) (left to_left : List Task) (stage to : Stage) → role ≡ Client k → BeginsNone role left stage to_left to
none_client role k left to_left stage to is = subst (λ (r : Role). BeginsNone r left stage to_left to) (sym is) tt

module _ (s : Script) (role : Role) (c : Cursor) where
  -- who makes a call or a note of its own has begun its tick
  speaks_under : (stage : Stage) (due : Action) → IsAction s role c stage due → IsSpoken due → FitsRole s role c.left c.hold stage → IsUnderWay role stage
  speaks_under Ready due (tells task left kind is own) h fits = λ x e. let k = clients_act s role task own (first_task (IsTaskOf s role) c.left left task is fits.tasks) in let f = k.1 in cc
  speaks_under Ready due (asks task left i op is own) h fits = λ x e. let k = clients_act s role task own (first_task (IsTaskOf s role) c.left left task is fits.tasks) in let f = k.1 in cc
  speaks_under Ready due (drains i left is none) h fits = λ x e. let k = clients_act s role (Does (Drain i)) refl (first_task (IsTaskOf s role) c.left left (Does (Drain i)) is fits.tasks) in let f = k.1 in cc
  speaks_under Ready due view h fits = absurd h
  speaks_under stage due view h fits = λ x e. refl

  over_none : (stage : Stage) → IsUnderWay role stage → BeginsNone role c.left stage (act_over c stage).left (act_over c stage).stage
  over_none Ready under = none_ended role c.left Ready under
  over_none (Firing v acts) under = none_within role c.left c.left (Firing v acts) (firing v c.hold (tail_of acts)) refl under
  over_none (Drained v acts) under = none_within role c.left c.left (Drained v acts) (draining v (tail_of acts)) refl under
  over_none stage under = none_ended role c.left stage under

  -- a note of its own
  pub own_none : (due : Action) → IsAction s role c c.stage due → IsSpoken due → FitsRole s role c.left c.hold c.stage → BeginsNone role c.left c.stage (act_over c c.stage).left (act_over c c.stage).stage
  own_none due view h fits = over_none c.stage (speaks_under c.stage due view h fits)

  -- a call
  pub call_none : (due : Action) (i : ℕ) (op : Op) (reply : Reply) → IsAction s role c c.stage due → IsSpoken due → FitsRole s role c.left c.hold c.stage →
      BeginsNone role c.left c.stage (call_made c i false op reply).left (call_made c i false op reply).stage
  call_none due i op reply view h fits =
      called_kinds (λ (k : Cursor). BeginsNone role c.left c.stage k.left k.stage) c i op reply (own_none due view h fits)
      (λ n took. none_within role c.left c.left c.stage (Waiting n took) refl (speaks_under c.stage due view h fits))

  -- a step without a note
  pub silent_none : (stage : Stage) (to : Cursor) → IsAction s role c stage (Silent to) → FitsRole s role c.left c.hold stage → BeginsNone role c.left stage to.left to.stage
  silent_none stage to (drops is some) fits = none_ready role c.left is
  silent_none stage to (passes task left now hold is own) fits = let k = clients_act s role task own (first_task (IsTaskOf s role) c.left left task is fits.tasks) in none_client role k.0 c.left left Ready Ready k.1
  silent_none stage to (unlocks v acts) fits = none_within role c.left c.left (Unlocking v acts) (firing v None acts) refl (λ x e. refl)
  silent_none stage to (releases v) fits = none_within role c.left c.left (Releasing v) (Ending v) refl (λ x e. refl)

  pub take_none : (stage : Stage) (held : Held) (to : Cursor) → IsAction s role c stage (Take held to) → FitsRole s role c.left c.hold stage → BeginsNone role c.left stage to.left to.stage
  take_none stage held to (grabs task left x is own none) fits = let k = clients_act s role task own (first_task (IsTaskOf s role) c.left left task is fits.tasks) in none_client role k.0 c.left left Ready Ready k.1
  take_none stage held to (enters v x is) fits = none_within role c.left c.left (Locking v) (Beginning v) refl (λ x e. refl)

-- ---- who begins none

pub soft_interrupt : (s : Script) (role : Role) (j x : ℕ) → role ≡ Interrupt x → IsTaskOf s role (Soft j) → ⊥
soft_interrupt s (Client k) j x is task = task
soft_interrupt s (Cpu y) j x is task = cc
soft_interrupt s (Interrupt y) j x is task = task
