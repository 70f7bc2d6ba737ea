-- What stands in a list that follows, where its program makes a call, a drain or a round of services: the notes that come
-- next, in order, told by the callout alone and the queue alone. All of an act's notes carry the actor and the act's number.
use Rattle.std.specs.Prelude.{◌≡◌, ℕ, ◌+◌, Bool, true, false, List, [], ◌∷◌, ◌++◌, take, length, Option, Some, None, if◌then◌else◌}
use Rattle.std.specs.List.{slice_get}
use Rattle.co_object.specs.declared.Note.{Note}
use Rattle.co_object.specs.declared.Place.TheVariants as place
use Rattle.co_object.specs.declared.AnyEntry.TheVariants as entry
use Rattle.co_object.specs.declared.PlainOp.{PlainOp}
use Rattle.co_object.specs.declared.OwnKind.TheVariants.{NotHeld}
use Rattle.co_object.specs.declared.Entry.{Entry}
use Rattle.co_object.specs.declared.Op.TheVariants.{Call, Run}
use Rattle.co_object.specs.declared.CallOp.{CallOp}
use Rattle.co_object.specs.declared.CallOp.TheVariants.{Plain, DrainTry}
use Rattle.co_object.specs.declared.Reply.{Reply}
use Rattle.co_object.specs.declared.Reply.TheVariants.{Wait, Drained, Go, Hold, Skip, Ended}
use Rattle.co_object.specs.Group.{placed, IsGroup, Placed}
use Rattle.co_object.specs.History.{state}
use Rattle.co_lock.specs.declared.Held.{Held}
use Rattle.co_lock.specs.Covers.{covers}
use Rattle.co_program.specs.declared.act.Act.{Act}
use Rattle.co_program.specs.declared.script.Script.{Script}
use Rattle.co_program.specs.declared.cursor.InService.{InService}
use Rattle.co_program.specs.Calls.{plain_op}
use Rattle.co_program.specs.Action.{spec_at, pop_of, free_of}
use Rattle.co_program.specs.Follows.{Histories}
use Rattle.co_object.specs.declared.RunOp.TheVariants.{Pick, Begin, End}
use Rattle.co_object.specs.declared.RunOp.{RunOp}
use Rattle.co_object.specs.declared.QOp.TheVariants.{Insert}
use Rattle.co_object.specs.declared.QOp.{QOp}
use Rattle.co_object.specs.declared.QReply.TheVariants.{At, Got, Freed}
use Rattle.co_object.specs.declared.QReply.{QReply}
use Rattle.co_object.specs.declared.Next.{Next}
use Rattle.co_lock.specs.Service.{hold_of}
use Rattle.co_program.specs.declared.role.Role.{Role}
use Rattle.co_program.specs.Actors.{acts_at, cpu_of}
use Rattle.co_program.specs.Advance.{drain_acts}

-- the drain is over
abbrev pub EndsDrain : Reply → Type 0
EndsDrain (Drained code off) = Unit {0}
EndsDrain reply = ⊥

-- one note, wherever it stands in its history
abbrev pub IsNote : Placed → List Note → Type 0
IsNote at [] = ⊥
IsNote at (note ∷ []) = placed note ≡ at
IsNote at (note ∷ more ∷ notes) = ⊥

module _ (s : Script) (H : Histories) (a : ℕ) where
  -- ---- a call

  abbrev pub call_of : ℕ → CallOp → Reply → Entry
  call_of act op reply = record { actor = a; act = act; op = Call op; reply = reply }

  -- a call's group: its entry stands in the callout's history, after which it leaves and enters the queues as the callout's
  -- state says there
  pub record IsCallOf (act i : ℕ) (op : CallOp) (reply : Reply) (notes : List Note) : Type 0 where
    pub pos : ℕ
    pub stands : slice_get (H.timers i) pos ≡ Some (call_of act op reply)
    pub group : IsGroup i (call_of act op reply) (state (spec_at s i) (take (pos + 1) (H.timers i))) notes

  -- ---- a drain

  -- any number of tries that wait, and then one that is done; a try knows whether an earlier one took an arming away
  pub data IsDrainOf (act i : ℕ) : Bool → List Note → Type 0 where
    done : (took : Bool) (reply : Reply) (notes : List Note) → EndsDrain reply → IsCallOf act i (DrainTry took) reply notes → IsDrainOf act i took notes
    waits : (took took' : Bool) (n : ℕ) (off : Option ℕ) (front rest : List Note) → IsCallOf act i (DrainTry took) (Wait n took' off) front → IsDrainOf act i took' rest → IsDrainOf act i took (front ++ rest)

  -- ---- a function

  -- the acts of a function in this service, under this hold: for each the group of its call, or NotHeld where that is not covered
  pub data AreActsOf (cpu : ℕ) (v : InService) (hold : Option Held) : ℕ → List Act → List Note → Type 0 where
    none : (act : ℕ) → AreActsOf cpu v hold act [] []
    calls : (act i : ℕ) (x : Act) (acts : List Act) (op : PlainOp) (reply : Reply) (front rest : List Note) → plain_op x s.hz (record { time = v.at; here = cpu; me = v.i }) ≡ Some (i, op) → covers hold (spec_at s i) (Plain op) ≡ true →
        IsCallOf act i (Plain op) reply front → AreActsOf cpu v hold (act + 1) acts rest → AreActsOf cpu v hold act (x ∷ acts) (front ++ rest)
    not_held : (act i : ℕ) (x : Act) (acts : List Act) (op : PlainOp) (note : Note) (rest : List Note) → plain_op x s.hz (record { time = v.at; here = cpu; me = v.i }) ≡ Some (i, op) → covers hold (spec_at s i) (Plain op) ≡ false →
        placed note ≡ (place.Actor a, entry.Own (record { actor = a; act = act; kind = NotHeld })) → AreActsOf cpu v hold (act + 1) acts rest → AreActsOf cpu v hold act (x ∷ acts) (note ∷ rest)

  -- ---- a round of services

  abbrev pub serves : InService → RunOp → Reply → Placed
  serves v op reply = (place.Timer v.i, entry.Timer (record { actor = a; act = v.act; op = Run op; reply = reply }))

  abbrev pub turns : ℕ → ℕ → QOp → QReply → Placed
  turns act cpu op reply = (place.Cpu cpu, entry.Cpu (record { actor = a; act = act; op = op; reply = reply }))

  -- after a Pick, up to the next act's number: the function's acts, at once where the callout has no lock, and else after a Begin under it, which may skip them
  pub data IsRun (cpu : ℕ) (v : InService) (idle : Option Held) (first : ℕ) : Reply → ℕ → List Note → Type 0 where
    at_once : (func arg : ℕ) (acts : List Note) → AreActsOf cpu v idle first (acts_at s.funcs func) acts → IsRun cpu v idle first (Go func arg) (first + length (acts_at s.funcs func)) acts
    under_lock : (held : Held) (func arg : ℕ) (begin : Note) (acts : List Note) → hold_of (spec_at s v.i).lock ≡ Some held → placed begin ≡ serves v (Begin v.n cpu) (Go func arg) →
        AreActsOf cpu v (if (spec_at s v.i).returns_unlocked then None else Some held) first (acts_at s.funcs func) acts → IsRun cpu v idle first Hold (first + length (acts_at s.funcs func)) (begin ∷ acts)
    skipped : (held : Held) (begin : Note) → hold_of (spec_at s v.i).lock ≡ Some held → placed begin ≡ serves v (Begin v.n cpu) Skip → IsRun cpu v idle first Hold first (begin ∷ [])

  -- the Insert of the arming that the end of the service sends to its CPU
  abbrev pub IsSent : InService → Option Next → List Note → Type 0
  IsSent v None notes = notes ≡ []
  IsSent v (Some next) notes = (time : ℕ) × IsNote (turns v.act next.cpu (Insert v.i next.n next.due) (At time)) notes

  -- a Pop that takes an arming, its Pick, what runs, the End, the Free, the Insert of what the end sends on, and the acts of the
  -- drain function that the end names
  pub record IsRoundOf (role : Role) (act first : ℕ) (idle : Option Held) (notes : List Note) : Type 0 where
    pub service : InService
    pub its_act : service.act ≡ act
    pub pop : Note
    pub pick : Note
    pub end : Note
    pub free : Note
    pub runs : List Note
    pub sent : List Note
    pub acts : List Note
    pub all : notes ≡ pop ∷ pick ∷ runs ++ (end ∷ free ∷ sent ++ acts)
    pub popped : placed pop ≡ turns act (cpu_of s role) (pop_of role) (Got service.i service.n service.at)
    pub reply : Reply
    pub picked : placed pick ≡ serves service (Pick service.n (cpu_of s role) service.at) reply
    pub last : ℕ
    pub ran : IsRun (cpu_of s role) service idle first reply last runs
    pub drain : Option ℕ
    pub next : Option Next
    pub woke : Bool
    pub ended : placed end ≡ serves service (End service.n (cpu_of s role)) (Ended drain next woke)
    pub freed : placed free ≡ turns act (cpu_of s role) (free_of role) Freed
    pub sent_on : IsSent service next sent
    pub drained : AreActsOf (cpu_of s role) service None last (drain_acts s drain) acts
