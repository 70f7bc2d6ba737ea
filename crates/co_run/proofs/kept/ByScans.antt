-- What is kept of an actor, is kept by its scans.
use Rattle.std.proofs.Common.{◌≡◌, ℕ, ◌+◌, ◌<◌, ◌≤◌, ◌==◌, Bool, true, false, cond, List, [], ◌∷◌, ◌++◌, refl, sym, ap, subst, ◌∙◌, Option, arith}
use Rattle.std.proofs.lemmas.Bool.Decides.{nat_tests}
use Rattle.co_object.specs.declared.Note.{Note}
use Rattle.co_object.specs.declared.QEntry.{QEntry}
use Rattle.co_object.specs.declared.QOp.{QOp}
use Rattle.co_object.specs.declared.QOp.TheVariants.{Scan}
use Rattle.co_object.specs.declared.QReply.TheVariants.{Count}
use Rattle.co_object.specs.declared.Place.TheVariants as place
use Rattle.co_object.specs.declared.AnyEntry.TheVariants as entry
use Rattle.co_object.specs.Group.{Placed, placed}
use Rattle.co_object.specs.Journal.{scanner}
use Rattle.co_lock.specs.declared.Held.{Held}
use Rattle.co_program.specs.declared.Script.{Script}
use Rattle.co_program.specs.declared.Act.TheVariants.{Tick}
use Rattle.co_program.specs.declared.Task.{Task}
use Rattle.co_program.specs.declared.Task.TheVariants.{Does}
use Rattle.co_program.specs.declared.Role.{Role}
use Rattle.co_program.specs.declared.Role.TheVariants.{Client, Cpu, Interrupt}
use Rattle.co_program.specs.declared.Asked.TheVariants.{Queue}
use Rattle.co_program.specs.Scripts.{IsScript}
use Rattle.co_program.specs.Stages.{Stage, Ready, Popping}
use Rattle.co_program.specs.Cursor.{Cursor}
use Rattle.co_program.specs.Action.{Asks, action_for, scans_first, scans_with, scans_at, scans_of, pop_of, free_of}
use Rattle.co_program.specs.Actors.{role_of, cpu_of, actor_count, client_count}
use Rattle.co_program.specs.Advance.{advance}
use Rattle.co_program.specs.Existing.{ActionExists}
use Rattle.co_program.specs.Follows.{scan_count}
use Rattle.co_program.proofs.Existing.{action_exists}
use Rattle.co_world.proofs.basics.Actions.{IsAction, scans, starts, pops, frees}
use Rattle.co_world.proofs.kept.Invariant.{IsTaskOf}
use Rattle.co_world.proofs.basics.Roles.{cpu_number, interrupt_number, interrupt_version}
use Rattle.co_world.proofs.kept.Stages.{fits_queue, first_task}
use Rattle.co_desk.specs.declared.outs.Scanned.{Scanned}
use Rattle.co_desk.specs.Name.{ServiceName}
use Rattle.co_desk.specs.Outcomes.{IsScan, queue_entry_by}
use Rattle.co_desk.specs.Params.{actors_of}
use Rattle.co_desk.specs.Services.{IsFree}
use Rattle.co_desk.specs.Views.{PassesView, AreOf, journal_seen}
use Rattle.co_desk.specs.Writes.{WritesAt}
use Rattle.co_run.specs.Acting.{HasScanned, IsActing, CursorFits, ServesAsStage, params_of}
use Rattle.co_run.specs.Shown.{IsFoundThere}
use Rattle.co_run.proofs.follows.EachAnswer.{turn_step}
use Rattle.co_run.proofs.follows.GoesBack.{goes_back}
use Rattle.co_run.proofs.places.AfterSilentSteps.{stage_view}
use Rattle.co_run.proofs.shown.OneMore.{shown_all, sized_all}
use Rattle.co_run.proofs.kept.Scanned.{scanned_once, scans_once}

-- ---- where an actor scans

abbrev IsScanOp : QOp → Type 0
IsScanOp (Scan now) = Unit {0}
IsScanOp op = ⊥

pop_never : (role : Role) → IsScanOp (pop_of role) → ⊥
pop_never (Client k) h = h
pop_never (Cpu x) h = h
pop_never (Interrupt x) h = h

free_never : (role : Role) → IsScanOp (free_of role) → ⊥
free_never (Client k) h = h
free_never (Cpu x) h = h
free_never (Interrupt x) h = h

record IsScanning (s : Script) (role : Role) (c : Cursor) (stage : Stage) (act cpu : ℕ) : Type 0 where
  ready : stage ≡ Ready
  time : ℕ
  left : List Task
  tasks : c.left ≡ Does (Tick time) ∷ left
  act_is : act ≡ c.act
  cpu_is : cpu ≡ cpu_of s role

scan_view : (s : Script) (role : Role) (c : Cursor) (stage : Stage) (act cpu : ℕ) (op : QOp) → IsAction s role c stage (Asks act (Queue cpu op)) → IsScanOp op → IsScanning s role c stage act cpu
scan_view s role c stage act cpu op (scans time left is) h = record { ready = refl; time = time; left = left; tasks = is; act_is = refl; cpu_is = refl }
scan_view s role c stage act cpu op (starts j left is) h = absurd (pop_never role h)
scan_view s role c stage act cpu op (pops m) h = absurd (pop_never role h)
scan_view s role c stage act cpu op (frees v drain next) h = absurd (free_never role h)

-- its own CPU's queue, and by whom that is scanned
scanner_of : (s : Script) (a : ℕ) (role : Role) (time : ℕ) → a < actor_count s → role_of s a ≡ role → IsTaskOf s role (Does (Tick time)) → a ≡ scanner (actors_of (params_of s)) (cpu_of s role)
scanner_of s a (Client k) time below is task = absurd task
scanner_of s a (Cpu x) time below is task =
    let n = cpu_number s a x is in
    let test : (s.version == 1) ≡ true = grind (arith, nat_tests, task) in
    n.0 ∙ ap (λ (b : Bool). cond b (client_count s + x) (client_count s + s.cpus + x)) (sym test)
scanner_of s a (Interrupt x) time below is task =
    let n = interrupt_number s a x is in
    let two : s.version ≡ 2 = (interrupt_version s a x below is).0 in
    let test : (s.version == 1) ≡ false = grind (arith, nat_tests, two) in
    n ∙ ap (λ (b : Bool). cond b (client_count s + x) (client_count s + s.cpus + x)) (sym test)

free_kept : (role : Role) (p q : PassesView) (act : ℕ) → ((direct : Bool) (cpu : ℕ) → IsFree direct p cpu → IsFree direct q cpu) → ServesAsStage role p Ready → ServesAsStage role q (Popping act)
free_kept (Client k) p q act free h = tt
free_kept (Cpu x) p q act free h = free false x h
free_kept (Interrupt x) p q act free h = free true x h

module _ (s : Script) (ok : IsScript s) (name : ServiceName) (a : ℕ) (p : PassesView) (c : Cursor) (hold : Option Held) (notes : List Note) (made act cpu now : ℕ) (acting : IsActing s name a p c hold notes made)
    (is : action_for s a c ≡ Asks act (Queue cpu (Scan now))) where
  view : IsAction s (role_of s a) c c.stage (Asks act (Queue cpu (Scan now)))
  view = stage_view s a c (Asks act (Queue cpu (Scan now))) acting.place.parcel is

  scanning : IsScanning s (role_of s a) c c.stage act cpu
  scanning = scan_view s (role_of s a) c c.stage act cpu (Scan now) view tt

  pub scan_here : cpu < s.cpus
  scan_here = let exists : ActionExists s (Asks act (Queue cpu (Scan now))) = subst (ActionExists s) is (action_exists s ok a acting.below c acting.place.is_in) in exists.0

  pub scan_own : p.actor ≡ scanner (actors_of (params_of s)) cpu
  scan_own =
      acting.actor ∙ (scanner_of s a (role_of s a) scanning.time acting.below refl (first_task (IsTaskOf s (role_of s a)) c.left scanning.left (Does (Tick scanning.time)) scanning.tasks acting.place.fits.tasks)
      ∙ ap (scanner (actors_of (params_of s))) (sym scanning.cpu_is))

  abbrev to : Cursor
  to = record c { act = c.act + 1; stage = Popping c.act }

  module _ (q : PassesView) (out : Scanned) (scan : IsScan p cpu act now out q) where
    at : placed out.note ≡ (place.Cpu cpu, entry.Cpu (queue_entry_by p act (Scan now) (Count out.count)))
    at = λ d. (scan.note.place d, scan.note.entry d)

    pub scan_goes : advance s c false out.note.place out.note.entry ≡ to
    scan_goes = subst (λ (x : Placed). advance s c false x.0 x.1 ≡ to) (sym at) refl

    pub acts_scanned : AreOf name (params_of s) q → q.actor ≡ p.actor → ((direct : Bool) (x : ℕ) → IsFree direct p x → IsFree direct q x) → IsActing s name a q (advance s c false out.note.place out.note.entry) hold (notes ++ out.note ∷ []) made
    acts_scanned of same free =
        let e : QEntry = record { actor = a; act = act; op = Scan now; reply = Count out.count } in
        let mine : placed out.note ≡ (place.Cpu cpu, entry.Cpu e) = subst (λ (b : ℕ). placed out.note ≡ (place.Cpu cpu, entry.Cpu (record { actor = b; act = act; op = Scan now; reply = Count out.count }))) acting.actor at in
        let w : WritesAt p out.note.place out.note.entry out.note.pos q = subst (WritesAt p out.note.place out.note.entry out.note.pos) (sym scan.written.2) scan.written.1 in
        let none : scans_first c ≡ 0 = ap (scans_with c) acting.place.parcel ∙ (ap (scans_at c) scanning.ready ∙ ap scans_of scanning.tasks) in
        let found : IsFoundThere out.note.entry = subst (λ (x : Placed). IsFoundThere x.1) (sym mine) (λ h. cc) in
        let placed_now : CursorFits s a to = record {
          fits = fits_queue s ok (role_of s a) c.left c.act c.now c.hold c.removed c.parcel c.stage act cpu (Scan now) (Count out.count) view (λ i n time h. cc) acting.place.fits;
          is_in = record { left = acting.place.is_in.left; stage = tt; parcel = acting.place.is_in.parcel };
          locks = acting.place.locks;
          parcel = acting.place.parcel;
          removed = acting.place.removed;
          between = tt;
        } in
        record {
          of = of;
          actor = same ∙ acting.actor;
          below = acting.below;
          sized = sized_all s p q (out.note ∷ []) scan.written acting.sized;
          held = acting.held ∙ sym (ap (λ (k : Cursor). k.hold) scan_goes);
          place = subst (CursorFits s a) (sym scan_goes) placed_now;
          scanned = subst (λ (k : Cursor). HasScanned s (role_of s a) q k.left k.stage) (sym scan_goes)
              (scanned_once s (role_of s a) p q c.left c.act (subst (λ (x : ℕ). scan_count (journal_seen p x) + 1 ≤ scan_count (journal_seen q x)) scanning.cpu_is (scans_once p q cpu out.note.pos e refl (subst (λ (x : Placed). WritesAt p x.0 x.1 out.note.pos q) mine w)))
              (subst (HasScanned s (role_of s a) p c.left) scanning.ready acting.scanned));
          serves = subst (λ (k : Cursor). ServesAsStage (role_of s a) q k.stage) (sym scan_goes) (free_kept (role_of s a) p q c.act free (subst (ServesAsStage (role_of s a) p) scanning.ready acting.serves));
          shown = shown_all s a made p q notes (out.note ∷ []) acting.actor acting.sized (found, tt) scan.written acting.shown;
          leads = λ H goes. turn_step s a H p q c notes act cpu (Scan now) (Count out.count) out.note (acting.leads H (goes_back H p q (out.note ∷ []) scan.written goes)) is
              (λ before h. omega (arith, none)) mine w (goes.cpus cpu) (goes.few_cpus cpu);
        }
