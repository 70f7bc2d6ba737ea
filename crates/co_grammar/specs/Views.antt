-- What the reader's own types stand for: the same with numbers of any size.
use Rattle.co_program.specs.declared.Who.{Who}
use Rattle.co_program.specs.declared.Who.TheVariants as callout
use Rattle.co_program.specs.declared.Where.{Where}
use Rattle.co_program.specs.declared.Where.TheVariants as cpu
use Rattle.co_grammar.specs.declared.raw.RawWho.{RawWho}
use Rattle.co_grammar.specs.declared.raw.RawWho.TheVariants as w
use Rattle.co_grammar.specs.declared.raw.RawWhere.{RawWhere}
use Rattle.co_grammar.specs.declared.raw.RawWhere.TheVariants as p
use Rattle.co_grammar.specs.declared.raw.RawRole.{RawRole}
use Rattle.co_grammar.specs.declared.raw.RawRole.TheVariants as a
use Rattle.co_grammar.specs.declared.raw.RawTurn.{RawTurn}
use Rattle.co_grammar.specs.declared.raw.RawLock.{RawLock}
use Rattle.co_grammar.specs.declared.raw.RawLock.TheVariants as l
use Rattle.co_grammar.specs.declared.raw.RawSpec.{RawSpec}
use Rattle.co_object.specs.declared.Spec.{Spec}
use Rattle.co_object.specs.declared.LockUse.{LockUse}
use Rattle.co_object.specs.declared.LockUse.TheVariants.{Free, Mtx, Rw, RwShared}
use Rattle.co_program.specs.declared.Role.{Role}
use Rattle.co_program.specs.declared.Role.TheVariants.{Client, Cpu, Interrupt}
use Rattle.co_grammar.specs.Turns.{Turn}

abbrev pub who_view : RawWho → Who
who_view (w.Timer i) = callout.Timer i
who_view w.Me = callout.Me

abbrev pub where_view : RawWhere → Where
where_view p.Home = cpu.Home
where_view (p.Cpu c) = cpu.Cpu c
where_view p.Here = cpu.Here

abbrev pub role_view : RawRole → Role
role_view (a.Client n) = Client n
role_view (a.Cpu n) = Cpu n
role_view (a.Interrupt n) = Interrupt n

abbrev pub turn_view : RawTurn → Turn
turn_view t = record { who = role_view t.who; times = t.times }

abbrev pub lock_view : RawLock → LockUse
lock_view l.Free = Free
lock_view (l.Mtx n) = Mtx n
lock_view (l.Rw n) = Rw n
lock_view (l.RwShared n) = RwShared n

abbrev pub spec_view : RawSpec → Spec
spec_view x = record { lock = lock_view x.lock; returns_unlocked = x.returns_unlocked; direct = x.direct }
