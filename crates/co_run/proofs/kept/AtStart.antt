-- What is kept of an actor holds before its first act; and which CPU an interrupt scans.
use Rattle.std.proofs.Common.{◌≡◌, ℕ, ◌==◌, suc, zero, ◌<◌, Bool, true, false, cond, List, [], ◌∷◌, length, map, refl, sym, ◌∙◌, subst, None}
use Rattle.std.specs.Prelude.{slice_index_or}
use Rattle.std.specs.List.{AllByRecursion}
use Rattle.std.proofs.lemmas.List.{length-map}
use Rattle.co_object.specs.declared.AnyEntry.TheVariants as of
use Rattle.co_object.specs.declared.note.Entry.{Entry}
use Rattle.co_object.specs.declared.note.QEntry.{QEntry}
use Rattle.co_object.specs.Lists.{actor_of}
use Rattle.co_program.specs.declared.Script.{Script}
use Rattle.co_program.specs.declared.Act.{Act}
use Rattle.co_program.specs.declared.Act.TheVariants.{Tick}
use Rattle.co_program.specs.declared.Role.{Role}
use Rattle.co_program.specs.declared.Role.TheVariants.{Client, Cpu, Interrupt}
use Rattle.co_program.specs.declared.Task.TheVariants.{Does}
use Rattle.co_program.specs.Actors.{acts_at, actor_count, program_of, role_of, softs}
use Rattle.co_program.specs.Cursor.{start_of}
use Rattle.co_program.specs.Scripts.{IsScript, is_tick}
use Rattle.co_program.specs.Stages.{Ready}
use Rattle.co_program.proofs.Existing.{start_in}
use Rattle.co_world.proofs.kept.BySchedules.{open_holds}
use Rattle.co_world.proofs.basics.Roles.{cpu_number, interrupt_number}
use Rattle.co_service.specs.Booted.{booted}
use Rattle.co_service.specs.Fresh.{AreNamed}
use Rattle.co_desk.specs.Name.{ServiceName}
use Rattle.co_desk.specs.Services.{IsFree}
use Rattle.co_desk.specs.Views.{journal_seen, seen_of}
use Rattle.co_service.proofs.Lasts.{booted_free}
use Rattle.co_run.specs.Acting.{HasLocks, IsActing, ServesAsStage, TaskLocks, params_of}
use Rattle.co_run.specs.Shown.{AreTheseEntries}
use Rattle.co_run.specs.Told.{owned}
use Rattle.co_run.proofs.kept.Scanned.{starts_scanned}

-- ---- the locks that a program takes

does_locks : (s : Script) (acts : List Act) → AllByRecursion (λ act. TaskLocks s (Does act)) acts → AllByRecursion (TaskLocks s) (map Does acts)
does_locks s [] h = tt
does_locks s (act ∷ acts) h = (h.0, does_locks s acts h.1)

ticks_lock : (s : Script) (acts : List Act) → AllByRecursion (λ act. is_tick act ≡ true) acts → AllByRecursion (TaskLocks s) (map Does acts)
ticks_lock s [] h = tt
ticks_lock s (act ∷ acts) h = (tick_locks act h.0, ticks_lock s acts h.1) where
  tick_locks : (act : Act) → is_tick act ≡ true → TaskLocks s (Does act)
  tick_locks (Tick time) h = tt
  tick_locks act h = cc

softs_lock : (s : Script) (j n : ℕ) → AllByRecursion (TaskLocks s) (softs j n)
softs_lock s j zero = tt
softs_lock s j (suc n) = (tt, softs_lock s (suc j) n)

program_locks : (s : Script) → IsScript s → HasLocks s → (role : Role) → AllByRecursion (TaskLocks s) (program_of s role)
program_locks s ok locks (Client k) = does_locks s (acts_at s.clients k) (locks.clients k)
program_locks s ok locks (Interrupt x) = ticks_lock s (acts_at s.ticks x) (ok.ticks x)
program_locks s ok locks (Cpu x) = choose (s.version == 2) where
  choose : (b : Bool) → AllByRecursion (TaskLocks s) (cond b (softs 0 (length (acts_at s.ticks x))) (map Does (acts_at s.ticks x)))
  choose true = softs_lock s 0 (length (acts_at s.ticks x))
  choose false = ticks_lock s (acts_at s.ticks x) (ok.ticks x)

-- ---- nothing is seen

module _ {Y : Type 0} where
  abbrev nothing : List Y
  nothing = []

  nothing_at : {X : Type 0} (xs : List X) (k : ℕ) → slice_index_or (map (λ _. nothing) xs) k nothing ≡ nothing
  nothing_at [] k = refl
  nothing_at (x ∷ xs) zero = refl
  nothing_at (x ∷ xs) (suc k) = nothing_at xs k

timers_alike : (a : ℕ) (H : List Entry) → H ≡ [] → AreTheseEntries [] (owned actor_of a (map of.Timer H))
timers_alike a [] h = tt
timers_alike a (e ∷ H) h = cc

cpus_alike : (a : ℕ) (J : List QEntry) → J ≡ [] → AreTheseEntries [] (owned actor_of a (map of.Cpu J))
cpus_alike a [] h = tt
cpus_alike a (e ∷ J) h = cc

starts_free : (s : Script) (name : ServiceName) (a : ℕ) (role : Role) → role_of s a ≡ role → ServesAsStage role (booted name (params_of s) a) Ready
starts_free s name a (Client k) is = tt
starts_free s name a (Cpu x) is = subst (λ (b : ℕ). IsFree false (booted name (params_of s) b) x) (sym (cpu_number s a x is).0) (booted_free name (params_of s) false x)
starts_free s name a (Interrupt x) is = subst (λ (b : ℕ). IsFree true (booted name (params_of s) b) x) (sym (interrupt_number s a x is)) (booted_free name (params_of s) true x)

-- passes that have seen nothing are an actor's before its first act
pub starts : (s : Script) → IsScript s → HasLocks s → (name : ServiceName) (a : ℕ) → a < actor_count s → AreNamed name (params_of s) → IsActing s name a (booted name (params_of s) a) (start_of s a) None [] 0
starts s ok locks name a below named = record {
  of = record { name_is = refl; params_are = refl };
  actor = refl;
  below = below;
  sized = record { timers = length-map name.timers _ ∙ named.timers; cpus = length-map name.cpus _ ∙ named.cpus };
  held = refl;
  place = record { fits = (open_holds s ok).roles a; is_in = start_in s ok a; locks = program_locks s ok locks (role_of s a); parcel = refl; removed = refl; between = tt };
  serves = starts_free s name a (role_of s a) refl;
  scanned = starts_scanned s (role_of s a) (booted name (params_of s) a);
  shown = record {
    timers = λ i. timers_alike a (seen_of (booted name (params_of s) a) i) (nothing_at name.timers i);
    cpus = λ cpu. cpus_alike a (journal_seen (booted name (params_of s) a) cpu) (nothing_at name.cpus cpu);
    own = tt;
    count = refl;
    others = λ b h. refl;
    places = tt;
    found = tt;
  };
  leads = λ H goes. record { next = tt; place = refl };
}
