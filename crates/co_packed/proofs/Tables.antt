-- Each kind is at its number.
use Rattle.std.proofs.Common.{◌≡◌, refl}
use denote.Enum.Declared.{tag_of}
use Rattle.co_packed.specs.declared.kinds.Kind.{Kind}
use Rattle.co_packed.specs.declared.kinds.Kind.TheVariants.{Reset, ResetOn, Schedule, ScheduleOn, Stop, AsyncDrain, Active, Pending, Deactivate, Init, Retire, Drain, DrainTook, Pick, Begin, End}
use Rattle.co_packed.specs.contracts.kinds.Kind as kind
use Rattle.co_packed.specs.declared.kinds.Answer.{Answer}
use Rattle.co_packed.specs.declared.kinds.Answer.TheVariants.{Armed, ArmedOff, NotArmed, NoHandler, Worn, Stopped, StoppedOff, Wait, WaitOff, WaitTook, WaitTookOff, Drained, DrainedOff, Busy, Yes, No, Done, Go, Hold, Skip, Ended, EndedWoke, EndedDrain, EndedDrainWoke, EndedNext, EndedNextWoke, EndedNextDrain, EndedNextDrainWoke, Live, Retired, InUse, InUseArmed, InUseServiced, InUseBoth}
use Rattle.co_packed.specs.contracts.kinds.Answer as answer
use Rattle.co_packed.specs.declared.kinds.QKind.{QKind}
use Rattle.co_packed.specs.declared.kinds.QKind.TheVariants.{Insert, Remove, Scan, Pop, Free, PopDirect, FreeDirect}
use Rattle.co_packed.specs.contracts.kinds.QKind as queue_kind
use Rattle.co_packed.specs.declared.kinds.QAnswer.{QAnswer}
use Rattle.co_packed.specs.declared.kinds.QAnswer.TheVariants.{At, Off, Missing, Count, Got, Empty, Freed}
use Rattle.co_packed.specs.contracts.kinds.QAnswer as queue_answer
use Rattle.co_object.specs.declared.note.OwnKind.{OwnKind}
use Rattle.co_object.specs.declared.note.OwnKind.TheVariants.{NotHeld, HoldsLock, Holding, NotHolding}
use Rattle.co_object.specs.contracts.note.OwnKind as own_kind
use Rattle.co_packed.specs.Numbered.{kind_at, answer_at, queue_kind_at, queue_answer_at, own_kind_at}

pub kind_again : (k : Kind) → kind_at (tag_of kind.the_type k) ≡ k
unfolding kind_at
kind_again Reset = refl
kind_again ResetOn = refl
kind_again Schedule = refl
kind_again ScheduleOn = refl
kind_again Stop = refl
kind_again AsyncDrain = refl
kind_again Active = refl
kind_again Pending = refl
kind_again Deactivate = refl
kind_again Init = refl
kind_again Retire = refl
kind_again Drain = refl
kind_again DrainTook = refl
kind_again Pick = refl
kind_again Begin = refl
kind_again End = refl

pub answer_again : (k : Answer) → answer_at (tag_of answer.the_type k) ≡ k
unfolding answer_at
answer_again Armed = refl
answer_again ArmedOff = refl
answer_again NotArmed = refl
answer_again NoHandler = refl
answer_again Worn = refl
answer_again Stopped = refl
answer_again StoppedOff = refl
answer_again Wait = refl
answer_again WaitOff = refl
answer_again WaitTook = refl
answer_again WaitTookOff = refl
answer_again Drained = refl
answer_again DrainedOff = refl
answer_again Busy = refl
answer_again Yes = refl
answer_again No = refl
answer_again Done = refl
answer_again Go = refl
answer_again Hold = refl
answer_again Skip = refl
answer_again Ended = refl
answer_again EndedWoke = refl
answer_again EndedDrain = refl
answer_again EndedDrainWoke = refl
answer_again EndedNext = refl
answer_again EndedNextWoke = refl
answer_again EndedNextDrain = refl
answer_again EndedNextDrainWoke = refl
answer_again Live = refl
answer_again Retired = refl
answer_again InUse = refl
answer_again InUseArmed = refl
answer_again InUseServiced = refl
answer_again InUseBoth = refl

pub queue_kind_again : (k : QKind) → queue_kind_at (tag_of queue_kind.the_type k) ≡ k
unfolding queue_kind_at
queue_kind_again Insert = refl
queue_kind_again Remove = refl
queue_kind_again Scan = refl
queue_kind_again Pop = refl
queue_kind_again Free = refl
queue_kind_again PopDirect = refl
queue_kind_again FreeDirect = refl

pub queue_answer_again : (k : QAnswer) → queue_answer_at (tag_of queue_answer.the_type k) ≡ k
unfolding queue_answer_at
queue_answer_again At = refl
queue_answer_again Off = refl
queue_answer_again Missing = refl
queue_answer_again Count = refl
queue_answer_again Got = refl
queue_answer_again Empty = refl
queue_answer_again Freed = refl

pub own_kind_again : (k : OwnKind) → own_kind_at (tag_of own_kind.the_type k) ≡ k
unfolding own_kind_at
own_kind_again NotHeld = refl
own_kind_again HoldsLock = refl
own_kind_again Holding = refl
own_kind_again NotHolding = refl
