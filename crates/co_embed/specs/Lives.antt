-- Callouts that come and go.
use Rattle.std.specs.Prelude.{◌≡◌, ℕ, Bool, true, false, not, ◌==◌, ◌&&◌, length, nat_lt, set, is_some, Result, Ok, Err, if◌then◌else◌}
use Rattle.std.specs.declared.option.Option.{Option}
use Rattle.std.specs.declared.option.Option.TheVariants.{Some, None}
use Rattle.co_object.specs.declared.spec.LockUse.{LockUse}
use Rattle.co_object.specs.declared.spec.Spec.{Spec}
use Rattle.co_object.specs.Callout.{opening}
use Rattle.co_object.specs.Scan.{is_direct}
use Rattle.co_record.specs.declared.carried.Carried.{Carried}
use Rattle.co_wheel.specs.Callouts.{is_here, is_free_at, with_callout}
use Rattle.co_wheel.specs.Sections.{IsLanding}
use Rattle.co_wheel.specs.Travelling.{parcel_carried}
use Rattle.co_embed.specs.declared.life.CalloutAttr.{CalloutAttr}
use Rattle.co_embed.specs.declared.parcel.CalloutParcel.{CalloutParcel}
use Rattle.co_embed.specs.declared.refusal.Refusal.{Refusal}
use Rattle.co_embed.specs.declared.refusal.Refusal.TheVariants.{Busy, Exists, Invalid, NotHere}
use Rattle.co_embed.specs.Carrying.{flag, lock_of, unpacked}
use Rattle.co_embed.specs.Embedded.{Embedded}

abbrev pub spec_with : Bool → Bool → Option LockUse → Option Spec
spec_with returns_unlocked direct None = None
spec_with returns_unlocked direct (Some lock) = Some (record { lock = lock; returns_unlocked = returns_unlocked; direct = direct })

-- what is fixed of a callout: one without a lock does not give it back, and a direct one has none
abbrev pub spec_of : CalloutAttr → Bool → Option Spec
spec_of a direct =
    if (if a.lock_kind == 0 then flag a.returns_unlocked else direct) then None
    else spec_with (flag a.returns_unlocked) direct (lock_of a.lock_kind a.lock)

-- callout i may be here with these attributes
abbrev pub is_init : Embedded → ℕ → CalloutAttr → Bool
is_init e i a = nat_lt i (length e.cpu.callouts.here) && is_some (spec_of a (is_direct e.cpu.timers.direct i))

-- callout i is here as it is made, and nothing else has changed
pub record IsInit (before after : Embedded) (i : ℕ) (a : CalloutAttr) : Type 0 where
  pub below : nat_lt i (length before.cpu.callouts.here) ≡ true
  pub absent : is_here before.cpu.callouts i ≡ false
  pub spec : Spec
  pub spec_is : spec_of a (is_direct before.cpu.timers.direct i) ≡ Some spec
  pub now : after ≡ record before {
    cpu = record before.cpu { callouts = with_callout before.cpu.callouts i (Some (record { spec = spec; state = opening 0 })) };
  }

abbrev pub InitAnswers : Result (Unit {0}) Refusal → (before after : Embedded) → ℕ → CalloutAttr → Type 0
InitAnswers (Ok u) before after i a = IsInit before after i a
InitAnswers (Err Invalid) before after i a = (is_init before i a ≡ false) × (after ≡ before)
InitAnswers (Err Exists) before after i a = (is_init before i a ≡ true) × (is_here before.cpu.callouts i ≡ true) × (after ≡ before)
InitAnswers (Err _) before after i a = ⊥

-- callout i is here no more, and nothing else has changed
pub record IsFini (before after : Embedded) (i : ℕ) : Type 0 where
  pub free : is_free_at before.cpu.callouts i ≡ true
  pub now : after ≡ record before { cpu = record before.cpu { callouts = with_callout before.cpu.callouts i None } }

abbrev pub FiniAnswers : Result (Unit {0}) Refusal → (before after : Embedded) → ℕ → Type 0
FiniAnswers (Ok u) before after i = IsFini before after i
FiniAnswers (Err NotHere) before after i = (is_here before.cpu.callouts i ≡ false) × (after ≡ before)
FiniAnswers (Err Busy) before after i = (is_here before.cpu.callouts i ≡ true) × (is_free_at before.cpu.callouts i ≡ false) × (after ≡ before)
FiniAnswers (Err _) before after i = ⊥

abbrev pub same_flag : Bool → Bool → Bool
same_flag true b = b
same_flag false b = not b

-- what is carried is for this CPU, by an id that is one here, and of its lane
abbrev pub is_for : Embedded → Carried → Bool
is_for e c =
    c.cpu == e.cpu.callouts.cpu && nat_lt c.i (length e.cpu.callouts.here) && same_flag c.spec.direct (is_direct e.cpu.timers.direct c.i)

abbrev pub is_for_if : Embedded → Option Carried → Bool
is_for_if e None = false
is_for_if e (Some c) = is_for e c

-- the callout is here, with its function, and stands in the queue at this time
pub record IsLanded (before after : Embedded) (p : CalloutParcel) (at : ℕ) : Type 0 where
  pub carried : Carried
  pub unpacked_is : unpacked p ≡ Some carried
  pub for_here : is_for before carried ≡ true
  pub absent : is_here before.cpu.callouts carried.i ≡ false
  pub landing : IsLanding before.cpu after.cpu (parcel_carried carried) at
  pub funcs : after.funcs ≡ set before.funcs carried.i p.func
  pub drains : after.drains ≡ before.drains

abbrev pub LandAnswers : Result ℕ Refusal → (before after : Embedded) → CalloutParcel → Type 0
LandAnswers (Ok at) before after p = IsLanded before after p at
LandAnswers (Err Invalid) before after p = (is_for_if before (unpacked p) ≡ false) × (after ≡ before)
LandAnswers (Err Exists) before after p =
    ((c : Carried) × (unpacked p ≡ Some c) × (is_for before c ≡ true) × (is_here before.cpu.callouts c.i ≡ true)) × (after ≡ before)
LandAnswers (Err _) before after p = ⊥

-- what is carried is here, with its function, and stands in the queue at this time
pub record IsLandedOf (before after : Embedded) (c : Carried) (func at : ℕ) : Type 0 where
  pub for_here : is_for before c ≡ true
  pub absent : is_here before.cpu.callouts c.i ≡ false
  pub landing : IsLanding before.cpu after.cpu (parcel_carried c) at
  pub funcs : after.funcs ≡ set before.funcs c.i func
  pub drains : after.drains ≡ before.drains

abbrev pub CarriedAnswers : Result ℕ Refusal → (before after : Embedded) → Carried → (func : ℕ) → Type 0
CarriedAnswers (Ok at) before after c func = IsLandedOf before after c func at
CarriedAnswers (Err Invalid) before after c func = (is_for before c ≡ false) × (after ≡ before)
CarriedAnswers (Err Exists) before after c func = (is_for before c ≡ true) × (is_here before.cpu.callouts c.i ≡ true) × (after ≡ before)
CarriedAnswers (Err _) before after c func = ⊥
