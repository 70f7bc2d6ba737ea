-- A callout on its way to the CPU at which it is armed, with its history.
use Rattle.std.specs.Prelude.{◌≡◌, ℕ, Bool, true, false, List, is_some}
use Rattle.std.specs.declared.option.Option.{Option}
use Rattle.std.specs.declared.option.Option.TheVariants.{Some, None}
use Rattle.co_life.specs.Views.{KeeperView}
use Rattle.co_object.specs.declared.note.Entry.{Entry}
use Rattle.co_object.specs.declared.op.CallOp.{CallOp}
use Rattle.co_object.specs.Stand.{is_idle}
use Rattle.co_wheel.specs.Parcel.{Parcel}
use Rattle.co_desk.specs.declared.told.Told.{Told}
use Rattle.co_desk.specs.declared.params.Params.{Params}
use Rattle.co_desk.specs.declared.line.Line.{Line}
use Rattle.co_desk.specs.Name.{ServiceName}
use Rattle.co_desk.specs.Params.{no_params}
use Rattle.co_desk.specs.Lines.{made, opening_of}
use Rattle.co_desk.specs.Stories.{IsHistory}
use Rattle.co_desk.specs.Views.{IsKeeperOf, PassesView}
use Rattle.co_desk.specs.Books.{BooksView, entries_at, is_kept, with_history}
use Rattle.co_desk.specs.Desk.{alone_after}
use Rattle.co_desk.specs.Call.{IsAnswer, Target, told_notes}

abbrev pub params_in : Option (Params × ℕ) → Params
params_in None = no_params
params_in (Some o) = o.0

pub record MovingView : Type 0 where
  pub params : Params
  pub i : ℕ
  pub history : List Entry
  pub target : Target

abbrev pub moving_of : Parcel → KeeperView (Line Entry) → (n due : ℕ) → MovingView
moving_of parcel keeper n due = record {
  params = params_in (opening_of keeper.history);
  i = parcel.i;
  history = made keeper.history;
  target = record { cpu = parcel.arming.cpu; n = n; due = due };
}

-- its state is what its history gives, no service has it, and it is armed as its target says
pub record IsOnItsWay (name : ServiceName) (parcel : Parcel) (keeper : KeeperView (Line Entry)) (n due : ℕ) : Type 0 where
  pub params : Params
  pub kept : IsKeeperOf IsHistory name.timers params parcel.i keeper
  pub callout : parcel.callout ≡ alone_after params parcel.i (made keeper.history)
  pub idle : is_idle parcel.callout.state.run ≡ true
  pub armed : parcel.callout.state.armed ≡ Some parcel.arming
  pub number : n ≡ parcel.arming.n
  pub due_is : due ≡ parcel.arming.due

-- a callout that leaves a desk: its state is what its history gives, no service has it, and it is armed with arming n
pub record Departs (b : BooksView) (n due : ℕ) (parcel : Parcel) : Type 0 where
  pub here : is_kept b parcel.i ≡ true
  pub callout : parcel.callout ≡ alone_after b.params parcel.i (entries_at b parcel.i)
  pub idle : is_idle parcel.callout.state.run ≡ true
  pub armed : parcel.callout.state.armed ≡ Some parcel.arming
  pub number : n ≡ parcel.arming.n
  pub due_is : due ≡ parcel.arming.due

abbrev pub MayDepart : BooksView → (n due : ℕ) → Option Parcel → Type 0
MayDepart b n due None = Unit {0}
MayDepart b n due (Some q) = Departs b n due q

-- the books without what leaves
abbrev pub departed : BooksView → Option Parcel → BooksView
departed b None = b
departed b (Some q) = with_history b q.i None

abbrev pub moving_from : BooksView → (n due : ℕ) → Option Parcel → Option MovingView
moving_from b n due None = None
moving_from b n due (Some q) = Some (record { params = b.params; i = q.i; history = entries_at b q.i; target = record { cpu = q.arming.cpu; n = n; due = due } })

-- what leaves has left the books, and is on its way
pub record HasLeft (b : BooksView) (n due : ℕ) (leaves : Option Parcel) (b' : BooksView) (gone : Option MovingView) : Type 0 where
  pub books : b' ≡ departed b leaves
  pub moving : gone ≡ moving_from b n due leaves

abbrev pub target_of : Option MovingView → Option Target
target_of None = None
target_of (Some m) = Some m.target

-- what leaves is callout i of this service
abbrev pub IsOfService : Params → ℕ → Option MovingView → Type 0
IsOfService p i None = Unit {0}
IsOfService p i (Some m) = (m.params ≡ p) × (m.i ≡ i)

-- a call was made at a desk: what it did stands in its place, with the callout where it leaves, which then was put in no queue
pub record IsDone (p : PassesView) (act i : ℕ) (op : CallOp) (told : Told) (leaves : Option MovingView) (q : PassesView) : Type 0 where
  pub answer : IsAnswer p act i op told.out.reply (target_of leaves) (told_notes p.actor act i op told) q
  pub leaving : IsOfService p.params i leaves
  pub room : is_some leaves ≡ true → told.insertion ≡ None

-- a desk was asked for a call: where the callout isn't there nothing has changed
pub record IsTried (p : PassesView) (act i : ℕ) (op : CallOp) (here : Bool) (told : Told) (leaves : Option MovingView) (q : PassesView) : Type 0 where
  pub none : here ≡ false → (q ≡ p) × (leaves ≡ None)
  pub some : here ≡ true → IsDone p act i op told leaves q
