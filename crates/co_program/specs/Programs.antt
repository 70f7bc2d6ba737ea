-- An actor's whole list, told by its program alone: the notes of its acts, one after the other, each with its act's number. No
-- cursor is spoken of here: what each act makes is said by the act.
use Rattle.std.specs.Prelude.{◌≡◌, ℕ, zero, suc, ◌+◌, ◌≤◌, ◌==◌, Bool, true, false, is_some, is_none, List, [], ◌∷◌, ◌++◌, length, take, Option, Some, None}
use Rattle.co_sbt.specs.Time.{sat_add, from_ticks}
use Rattle.co_object.specs.declared.Note.{Note}
use Rattle.co_object.specs.declared.Place.TheVariants as place
use Rattle.co_object.specs.declared.AnyEntry.TheVariants as entry
use Rattle.co_object.specs.declared.OwnKind.{OwnKind}
use Rattle.co_object.specs.declared.OwnKind.TheVariants.{NotHeld, HoldsLock, Holding, NotHolding}
use Rattle.co_object.specs.declared.CallOp.TheVariants.{Plain}
use Rattle.co_object.specs.declared.PlainOp.{PlainOp}
use Rattle.co_object.specs.declared.PlainOp.TheVariants as op
use Rattle.co_object.specs.declared.QOp.TheVariants.{Scan}
use Rattle.co_object.specs.declared.QReply.{QReply}
use Rattle.co_object.specs.declared.QReply.TheVariants.{Empty}
use Rattle.co_object.specs.declared.Reply.{Reply}
use Rattle.co_object.specs.Group.{Placed, placed}
use Rattle.co_lock.specs.declared.Held.{Held}
use Rattle.co_lock.specs.Covers.{covers}
use Rattle.co_program.specs.declared.act.Act.{Act}
use Rattle.co_program.specs.declared.act.Act.TheVariants.{Now, Lock, ReadLock, Unlock, Reset, Ticks, Schedule, Stop, Drain, AsyncDrain, Active, Pending, Deactivate, Init, Retire, Tick}
use Rattle.co_program.specs.declared.act.Scene.{Scene}
use Rattle.co_program.specs.declared.script.Script.{Script}
use Rattle.co_program.specs.declared.role.Role.{Role}
use Rattle.co_program.specs.declared.role.Role.TheVariants.{Client, Cpu, Interrupt}
use Rattle.co_program.specs.Action.{spec_at, pop_of}
use Rattle.co_program.specs.Actors.{acts_at, cpu_of}
use Rattle.co_program.specs.Advance.{drain_acts}
use Rattle.co_program.specs.Calls.{callout_of_who, time_of_when, cpu_named}
use Rattle.co_program.specs.Follows.{Histories, scan_count}
use Rattle.co_program.specs.Groups.{IsNote, IsCallOf, IsDrainOf, IsRoundOf, turns}

-- such notes come first, and such ones later
pub record FirstThen (First Later : List Note → Type 0) (notes : List Note) : Type 0 where
  pub front : List Note
  pub rest : List Note
  pub split : notes ≡ front ++ rest
  pub first : First front
  pub later : Later rest

-- ---- the clock and the hold of a client

abbrev pub time_after : Act → ℕ → ℕ
time_after (Now time) now = time
time_after act now = now

-- who holds a lock gets no other; an unlock leaves none
abbrev pub hold_after : Act → Option Held → Option Held
hold_after (Lock id) None = Some (record { id = id; exclusive = true })
hold_after (ReadLock id) None = Some (record { id = id; exclusive = false })
hold_after Unlock hold = None
hold_after act hold = hold

module _ (s : Script) (H : Histories) (a : ℕ) where
  -- ---- one act of a client

  -- a note in the actor's own history
  abbrev pub refusal : ℕ → OwnKind → Placed
  refusal act kind = (place.Actor a, entry.Own (record { actor = a; act = act; kind = kind }))

  -- where the act is refused, the note that says so, and else none
  abbrev pub AreOfRefusal : ℕ → OwnKind → Bool → List Note → Type 0
  AreOfRefusal act kind true notes = IsNote (refusal act kind) notes
  AreOfRefusal act kind false notes = notes ≡ []

  -- where the call is covered, its group, and else the note that it is not
  abbrev pub AreOfCall : Bool → ℕ → ℕ → PlainOp → List Note → Type 0
  AreOfCall true act i op notes = (reply : Reply) × IsCallOf s H a act i (Plain op) reply notes
  AreOfCall false act i op notes = IsNote (refusal act NotHeld) notes

  abbrev pub AreOfCallUnder : Option Held → ℕ → ℕ → PlainOp → List Note → Type 0
  AreOfCallUnder hold act i op notes = AreOfCall (covers hold (spec_at s i) (Plain op)) act i op notes

  -- where a lock is held, the note that refuses the drain, and else the groups of its tries
  abbrev pub AreOfDrain : Bool → ℕ → ℕ → List Note → Type 0
  AreOfDrain true act i notes = IsNote (refusal act HoldsLock) notes
  AreOfDrain false act i notes = IsDrainOf s H a act i false notes

  -- the notes of the act of this number, at this time and CPU, under this hold; a client has no ticks
  abbrev pub AreOfAct : ℕ → Scene → Option Held → Act → List Note → Type 0
  AreOfAct act at hold (Now time) notes = notes ≡ []
  AreOfAct act at hold (Lock id) notes = AreOfRefusal act Holding (is_some hold) notes
  AreOfAct act at hold (ReadLock id) notes = AreOfRefusal act Holding (is_some hold) notes
  AreOfAct act at hold Unlock notes = AreOfRefusal act NotHolding (is_none hold) notes
  AreOfAct act at hold (Reset who func when arg cpu prec) notes =
      AreOfCallUnder hold act (callout_of_who at who) (op.Reset (time_of_when at when) prec func arg (cpu_named at cpu)) notes
  AreOfAct act at hold (Ticks who ticks func arg cpu) notes =
      AreOfCallUnder hold act (callout_of_who at who) (op.Reset (sat_add at.time (from_ticks ticks s.hz)) 0 func arg (cpu_named at cpu)) notes
  AreOfAct act at hold (Schedule who when cpu prec) notes =
      AreOfCallUnder hold act (callout_of_who at who) (op.Schedule (time_of_when at when) prec (cpu_named at cpu)) notes
  AreOfAct act at hold (Stop who) notes = AreOfCallUnder hold act (callout_of_who at who) op.Stop notes
  AreOfAct act at hold (Drain i) notes = AreOfDrain (is_some hold) act i notes
  AreOfAct act at hold (AsyncDrain who func) notes = AreOfCallUnder hold act (callout_of_who at who) (op.AsyncDrain func) notes
  AreOfAct act at hold (Active who) notes = AreOfCallUnder hold act (callout_of_who at who) op.Active notes
  AreOfAct act at hold (Pending who) notes = AreOfCallUnder hold act (callout_of_who at who) op.Pending notes
  AreOfAct act at hold (Deactivate who) notes = AreOfCallUnder hold act (callout_of_who at who) op.Deactivate notes
  AreOfAct act at hold (Init who) notes = AreOfCallUnder hold act (callout_of_who at who) op.Init notes
  AreOfAct act at hold (Retire who) notes = AreOfCallUnder hold act (callout_of_who at who) op.Retire notes
  AreOfAct act at hold (Tick time) notes = ⊥

  -- ---- a client's acts, on this CPU

  -- the notes of these acts, from the one of this number on, at this time and under this hold: none where no act is left
  abbrev pub AreOfActs : ℕ → ℕ → ℕ → Option Held → List Act → List Note → Type 0
  AreOfActs cpu act now hold [] notes = notes ≡ []
  AreOfActs cpu act now hold (x ∷ acts) notes =
      FirstThen (AreOfAct act (record { time = now; here = cpu; me = 0 }) hold x) (λ rest. AreOfActs cpu (act + 1) (time_after x now) (hold_after x hold) acts rest) notes

  -- ---- a tick and a soft act, in which services run

  -- rounds of services in the act of this number, whose functions' acts have the numbers from the first to before the last, and
  -- then a Pop that finds nothing
  pub data AreRounds (role : Role) (act : ℕ) : ℕ → ℕ → List Note → Type 0 where
    nothing : (first : ℕ) (pop : Note) → placed pop ≡ turns s H a act (cpu_of s role) (pop_of role) Empty → AreRounds role act first first (pop ∷ [])
    another : (first last : ℕ) (front rest : List Note) (round : IsRoundOf s H a role act first None front) →
        AreRounds role act (round.last + length (drain_acts s round.drain)) last rest → AreRounds role act first last (front ++ rest)

  -- a tick scans the queue of its CPU at its time, and then serves
  pub record IsOfTick (role : Role) (act time last : ℕ) (notes : List Note) : Type 0 where
    pub scan : Note
    pub rest : List Note
    pub split : notes ≡ scan ∷ rest
    pub reply : QReply
    pub scanned : placed scan ≡ turns s H a act (cpu_of s role) (Scan time) reply
    pub rounds : AreRounds role act (act + 1) last rest

  -- the j-th soft act serves; before its first Pop at least j + 1 Scans stand in the journal of its CPU
  pub record IsOfSoft (role : Role) (act j last : ℕ) (notes : List Note) : Type 0 where
    pub pop : Note
    pub rest : List Note
    pub split : notes ≡ pop ∷ rest
    pub scanned : j + 1 ≤ scan_count (take pop.pos (H.cpus (cpu_of s role)))
    pub rounds : AreRounds role act (act + 1) last notes

  -- the ticks of a CPU or of its interrupt, which makes no other acts, from the one of this number on
  abbrev pub AreOfTicks : Role → ℕ → List Act → List Note → Type 0
  AreOfTicks role act [] notes = notes ≡ []
  AreOfTicks role act (Tick time ∷ acts) notes = (last : ℕ) × FirstThen (IsOfTick role act time last) (λ rest. AreOfTicks role last acts rest) notes
  AreOfTicks role act (x ∷ acts) notes = ⊥

  -- so many soft acts, from the j-th on
  abbrev pub AreOfSofts : Role → ℕ → ℕ → ℕ → List Note → Type 0
  AreOfSofts role act j zero notes = notes ≡ []
  AreOfSofts role act j (suc n) notes = (last : ℕ) × FirstThen (IsOfSoft role act j last) (λ rest. AreOfSofts role last (suc j) n rest) notes

  -- ---- any actor

  -- a CPU makes its ticks; in version 2 its interrupt does, and the CPU has a soft act for each
  abbrev pub AreOfCpu : Bool → ℕ → List Note → Type 0
  AreOfCpu true x notes = AreOfSofts (Cpu x) 0 0 (length (acts_at s.ticks x)) notes
  AreOfCpu false x notes = AreOfTicks (Cpu x) 0 (acts_at s.ticks x) notes

  -- the notes of the whole program of an actor: a client's time is 0 at first, and it holds nothing
  abbrev pub AreOfProgram : Role → List Note → Type 0
  AreOfProgram (Client c) notes = AreOfActs (cpu_of s (Client c)) 0 0 None (acts_at s.clients c) notes
  AreOfProgram (Cpu x) notes = AreOfCpu (s.version == 2) x notes
  AreOfProgram (Interrupt x) notes = AreOfTicks (Interrupt x) 0 (acts_at s.ticks x) notes
