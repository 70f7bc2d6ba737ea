-- What an act and a spec name of a script, on which alone it depends whether they fit.
use Rattle.std.proofs.Common.{◌≡◌, ℕ, [], refl}
use Rattle.co_object.specs.declared.LockUse.{LockUse}
use Rattle.co_object.specs.declared.LockUse.TheVariants.{Free, Mtx, Rw, RwShared}
use Rattle.co_program.specs.declared.Script.{Script}
use Rattle.co_program.specs.declared.Act.{Act}
use Rattle.co_program.specs.declared.Act.TheVariants as act
use Rattle.co_program.specs.declared.Who.{Who}
use Rattle.co_program.specs.declared.Who.TheVariants as callout
use Rattle.co_program.specs.declared.Where.{Where}
use Rattle.co_program.specs.declared.Where.TheVariants as cpu
use Rattle.co_program.specs.Scripts.{who_exists, cpu_exists}
use Rattle.co_grammar.specs.Checks.{spec_exists, spec_kind_fits, act_fits, act_kind_fits}

-- of a script, what an act may name
abbrev pub named_by : Script → Script
named_by s = record s { hz = 0; buckets = 0; funcs = []; clients = []; ticks = []; turns = [] }

-- of a script, what a spec may name
abbrev pub locked_by : Script → Script
locked_by s = record s { hz = 0; buckets = 0; cpus = 0; timers = []; funcs = []; clients = []; ticks = []; turns = [] }

who-named : (s : Script) (w : Who) → who_exists s w ≡ who_exists (named_by s) w
who-named s (callout.Timer i) = refl
who-named s callout.Me = refl

cpu-named : (s : Script) (c : Where) → cpu_exists s c ≡ cpu_exists (named_by s) c
cpu-named s cpu.Home = refl
cpu-named s (cpu.Cpu c) = refl
cpu-named s cpu.Here = refl

pub fits-named : (funcs : ℕ) (s : Script) (a : Act) → act_fits funcs s a ≡ act_fits funcs (named_by s) a
fits-named funcs s (act.Reset w f m a c p) = rw (who-named s w, cpu-named s c) refl
fits-named funcs s (act.Ticks w k f a c) = rw (who-named s w, cpu-named s c) refl
fits-named funcs s (act.Schedule w m c p) = rw (who-named s w, cpu-named s c) refl
fits-named funcs s (act.Stop w) = rw (who-named s w) refl
fits-named funcs s (act.AsyncDrain w f) = rw (who-named s w) refl
fits-named funcs s (act.Active w) = rw (who-named s w) refl
fits-named funcs s (act.Pending w) = rw (who-named s w) refl
fits-named funcs s (act.Deactivate w) = rw (who-named s w) refl
fits-named funcs s (act.Init w) = rw (who-named s w) refl
fits-named funcs s (act.Retire w) = rw (who-named s w) refl
fits-named funcs s a = refl

pub kind-named : (s : Script) (a : Act) → act_kind_fits s a ≡ act_kind_fits (named_by s) a
kind-named s (act.ReadLock l) = refl
kind-named s a = refl

pub exists-locked : (s : Script) (l : LockUse) → spec_exists s l ≡ spec_exists (locked_by s) l
exists-locked s Free = refl
exists-locked s (Mtx l) = refl
exists-locked s (Rw l) = refl
exists-locked s (RwShared l) = refl

pub use-locked : (s : Script) (l : LockUse) → spec_kind_fits s l ≡ spec_kind_fits (locked_by s) l
use-locked s Free = refl
use-locked s (Mtx l) = refl
use-locked s (Rw l) = refl
use-locked s (RwShared l) = refl
