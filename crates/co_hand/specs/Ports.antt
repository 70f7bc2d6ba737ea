-- A port as contracts see it, and what a call through it does.
use Rattle.std.specs.Prelude.{◌≡◌, ℕ, ◌-◌, ◌<◌, ◌↔◌, ⊤, false, List, ◌++◌, length, Option, Some, None, slice_index_or}
use Rattle.co_object.specs.declared.Spec.{Spec}
use Rattle.co_object.specs.declared.LockUse.TheVariants.{Free}
use Rattle.co_object.specs.declared.CallOp.TheVariants.{Plain}
use Rattle.co_object.specs.declared.PlainOp.{PlainOp}
use Rattle.co_object.specs.declared.PlainOp.TheVariants.{Reset, Schedule}
use Rattle.co_lock.specs.declared.held.Held.{Held}
use Rattle.co_lock.specs.Covers.{covers}
use Rattle.co_hand.specs.declared.port_call.PortCall.{PortCall}
use Rattle.co_hand.specs.declared.port_call.PortReply.TheVariants.{NotHeld}

pub record PortState (Origin : Type 0) : Type 0 where
  -- what is fixed of each callout
  pub specs : List Spec
  pub cpus : ℕ
  -- with what the port was made
  pub origin : Origin
  -- the calls so far, in order
  pub made : List PortCall
  -- how many more it can take
  pub room : ℕ

-- the port after these calls: it has made them, it has less room, and nothing else has changed
abbrev pub after_calls : {Origin : Type 0} → PortState Origin → List PortCall → PortState Origin
after_calls p calls = record p { made = p.made ++ calls; room = p.room - length calls }

-- the CPU that an operation names, if it names one, is below this number
abbrev pub IsCpuBelow : ℕ → Option ℕ → Type 0
IsCpuBelow cpus None = ⊤
IsCpuBelow cpus (Some cpu) = cpu < cpus

abbrev pub NamesCpuBelow : ℕ → PlainOp → Type 0
NamesCpuBelow cpus (Reset due prec func arg cpu) = IsCpuBelow cpus cpu
NamesCpuBelow cpus (Schedule due prec cpu) = IsCpuBelow cpus cpu
NamesCpuBelow cpus op = ⊤

-- the spec of callout i
abbrev pub spec_in : List Spec → ℕ → Spec
spec_in specs i = slice_index_or specs i (record { lock = Free; returns_unlocked = false; direct = false })

-- a call under this hold is answered NotHeld exactly where the hold doesn't cover it
abbrev pub IsCoverAnswered : List Spec → Option Held → PortCall → Type 0
IsCoverAnswered specs hold call = (call.answer ≡ NotHeld) ↔ (covers hold (spec_in specs call.i) (Plain call.op) ≡ false)
