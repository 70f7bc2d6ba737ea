-- A callout on its way, as plain numbers.
use Rattle.std.specs.Prelude.{◌≡◌, ℕ, Bool, not, ◌==◌, ◌&&◌, ◌^◌, nat_le, nat_lt, if◌then◌else◌}
use Rattle.std.specs.declared.option.Option.{Option}
use Rattle.std.specs.declared.option.Option.TheVariants.{Some, None}
use Rattle.co_object.specs.declared.spec.LockUse.{LockUse}
use Rattle.co_object.specs.declared.spec.LockUse.TheVariants.{Free, Mtx, Rw, RwShared}
use Rattle.co_record.specs.declared.carried.Carried.{Carried}
use Rattle.co_wheel.specs.Parcel.{Parcel}
use Rattle.co_wheel.specs.Travelling.{parcel_carried}
use Rattle.co_embed.specs.declared.parcel.CalloutParcel.{CalloutParcel}
use Rattle.co_embed.specs.Told.{byte}

abbrev pub kind_of : LockUse → ℕ
kind_of Free = 0
kind_of (Mtx n) = 1
kind_of (Rw n) = 2
kind_of (RwShared n) = 3

abbrev pub number_of : LockUse → ℕ
number_of Free = 0
number_of (Mtx n) = n
number_of (Rw n) = n
number_of (RwShared n) = n

-- the lock of a kind and a number
abbrev pub lock_of : (kind number : ℕ) → Option LockUse
lock_of kind number =
    if kind == 0 then Some Free
    else if kind == 1 then Some (Mtx number)
    else if kind == 2 then Some (Rw number)
    else if kind == 3 then Some (RwShared number)
    else None

-- what a parcel carries, with its function's word
abbrev pub packed : Carried → (func : ℕ) → CalloutParcel
packed c func = record {
  due = c.due;
  prec = c.prec;
  func = func;
  arg = c.arg;
  made = c.made;
  id = c.i;
  cpu = c.cpu;
  lock_kind = kind_of c.spec.lock;
  lock = number_of c.spec.lock;
  returns_unlocked = byte c.spec.returns_unlocked;
  direct = byte c.spec.direct;
  active = byte c.active;
  known = byte c.known;
}

abbrev pub flag : ℕ → Bool
flag n = not (n == 0)

abbrev pub carried_with : CalloutParcel → LockUse → Carried
carried_with p lock = record {
  i = p.id;
  spec = record { lock = lock; returns_unlocked = flag p.returns_unlocked; direct = flag p.direct };
  active = flag p.active;
  known = flag p.known;
  due = p.due;
  prec = p.prec;
  func = 0;
  arg = p.arg;
  cpu = p.cpu;
  made = p.made;
}

abbrev pub carried_if : CalloutParcel → Option LockUse → Option Carried
carried_if p None = None
carried_if p (Some lock) = Some (carried_with p lock)

-- what these numbers carry: nothing where a time or the kind of the lock is none, or nothing has been armed
abbrev pub unpacked : CalloutParcel → Option Carried
unpacked p =
    if nat_lt p.due (2 ^ 63) && nat_lt p.prec (2 ^ 63) && nat_le 1 p.made then carried_if p (lock_of p.lock_kind p.lock) else None

-- the parcel as plain numbers, with its callout's function
pub record IsParcelOf (p : Parcel) (func : ℕ) (is : CalloutParcel) : Type 0 where
  pub carried : Carried
  pub carries : parcel_carried carried ≡ p
  pub packed_is : is ≡ packed carried func
