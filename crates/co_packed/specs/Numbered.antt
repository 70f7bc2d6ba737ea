-- The note that sixteen numbers stand for, of which the first four are its head.
use Rattle.std.specs.Prelude.{ℕ, ℤ, pos, negsuc, ◌-◌, ◌/◌, ◌%◌, ◌^◌, ◌==◌, List, [], ◌∷◌, get_or, nat_lt, if◌then◌else◌}
use Rattle.co_object.specs.declared.note.Note.{Note}
use Rattle.co_object.specs.declared.note.OwnKind.{OwnKind}
use Rattle.co_object.specs.declared.note.OwnKind.TheVariants.{NotHeld, HoldsLock, Holding, NotHolding}
use Rattle.co_packed.specs.declared.heads.Head.{Head}
use Rattle.co_packed.specs.declared.kinds.Answer.{Answer}
use Rattle.co_packed.specs.declared.kinds.Answer.TheVariants.{Armed, ArmedOff, NotArmed, NoHandler, Worn, Stopped, StoppedOff, Wait, WaitOff, WaitTook, WaitTookOff, Drained, DrainedOff, Busy, Yes, No, Done, Go, Hold, Skip, Ended, EndedWoke, EndedDrain, EndedDrainWoke, EndedNext, EndedNextWoke, EndedNextDrain, EndedNextDrainWoke, Live, Retired, InUse, InUseArmed, InUseServiced, InUseBoth}
use Rattle.co_packed.specs.declared.kinds.Kind.{Kind}
use Rattle.co_packed.specs.declared.kinds.Kind.TheVariants.{Reset, ResetOn, Schedule, ScheduleOn, Stop, AsyncDrain, Active, Pending, Deactivate, Init, Retire, Drain, DrainTook, Pick, Begin, End}
use Rattle.co_packed.specs.declared.kinds.QAnswer.{QAnswer}
use Rattle.co_packed.specs.declared.kinds.QAnswer.TheVariants.{At, Off, Missing, Count, Got, Empty, Freed}
use Rattle.co_packed.specs.declared.kinds.QKind.{QKind}
use Rattle.co_packed.specs.declared.kinds.QKind.TheVariants.{Insert, Remove, Scan, Pop, Free, PopDirect, FreeDirect}
use Rattle.co_packed.specs.declared.kinds.Sort.{Sort}
use Rattle.co_packed.specs.declared.kinds.Sort.TheVariants as sorts
use Rattle.co_packed.specs.declared.kinds.Whose.{Whose}
use Rattle.co_packed.specs.declared.kinds.Whose.TheVariants as kinds_of
use Rattle.co_packed.specs.declared.words.OpWords.{OpWords}
use Rattle.co_packed.specs.declared.words.ReplyWords.{ReplyWords}
use Rattle.co_packed.specs.Parts.{entry_of, place_of}

-- the kinds by their numbers
abbrev pub kinds : List Kind
kinds = Reset ∷ ResetOn ∷ Schedule ∷ ScheduleOn ∷ Stop ∷ AsyncDrain ∷ Active ∷ Pending ∷ Deactivate ∷ Init ∷ Retire ∷ Drain ∷ DrainTook ∷ Pick ∷ Begin ∷ End ∷ []

abbrev pub answers : List Answer
answers = Armed ∷ ArmedOff ∷ NotArmed ∷ NoHandler ∷ Worn ∷ Stopped ∷ StoppedOff ∷ Wait ∷ WaitOff ∷ WaitTook ∷ WaitTookOff ∷ Drained ∷ DrainedOff ∷ Busy ∷ Yes ∷ No ∷ Done ∷ Go ∷ Hold ∷ Skip ∷ Ended ∷ EndedWoke ∷ EndedDrain ∷ EndedDrainWoke ∷ EndedNext ∷ EndedNextWoke ∷ EndedNextDrain ∷ EndedNextDrainWoke ∷ Live ∷ Retired ∷ InUse ∷ InUseArmed ∷ InUseServiced ∷ InUseBoth ∷ []

abbrev pub queue_kinds : List QKind
queue_kinds = Insert ∷ Remove ∷ Scan ∷ Pop ∷ Free ∷ PopDirect ∷ FreeDirect ∷ []

abbrev pub queue_answers : List QAnswer
queue_answers = At ∷ Off ∷ Missing ∷ Count ∷ Got ∷ Empty ∷ Freed ∷ []

abbrev pub own_kinds : List OwnKind
own_kinds = NotHeld ∷ HoldsLock ∷ Holding ∷ NotHolding ∷ []

unfoldable pub kind_at : ℕ → Kind
kind_at n = get_or kinds n Reset

unfoldable pub answer_at : ℕ → Answer
answer_at n = get_or answers n Armed

unfoldable pub queue_kind_at : ℕ → QKind
queue_kind_at n = get_or queue_kinds n Insert

unfoldable pub queue_answer_at : ℕ → QAnswer
queue_answer_at n = get_or queue_answers n At

unfoldable pub own_kind_at : ℕ → OwnKind
own_kind_at n = get_or own_kinds n NotHeld

-- of operations the first 16 numbers are those on a callout, the next 7 those on a queue
unfoldable pub sort_at : ℕ → ℕ → Sort
sort_at op answer =
    if nat_lt op 16 then sorts.Timer (kind_at op) (answer_at answer)
    else (if nat_lt op 23 then sorts.Cpu (queue_kind_at (op - 16)) (queue_answer_at answer)
    else sorts.Own (own_kind_at (op - 23)))

unfoldable pub whose_at : ℕ → Whose
whose_at n = if n == 0 then kinds_of.Timer else (if n == 1 then kinds_of.Cpu else kinds_of.Actor)

-- twice a code, and one more than twice as far as one that is below 0 is below -1
unfoldable pub code_at : ℕ → ℤ
code_at n = if n % 2 == 0 then pos (n / 2 % 2 ^ 31) else negsuc (n / 2 % 2 ^ 31)

-- a number of 32 bits, and a time
unfoldable pub short_at : ℕ → ℕ
short_at n = n % 2 ^ 32

unfoldable pub time_at : ℕ → ℕ
time_at n = n % 2 ^ 63

unfoldable pub op_words_at : List ℕ → OpWords
op_words_at ns = record { time = time_at (get_or ns 6 0); prec = time_at (get_or ns 7 0); word = get_or ns 8 0; number = short_at (get_or ns 9 0); cpu = short_at (get_or ns 10 0) }

unfoldable pub reply_words_at : List ℕ → ReplyWords
reply_words_at ns = record { time = time_at (get_or ns 11 0); word = get_or ns 12 0; code = code_at (get_or ns 13 0); number = short_at (get_or ns 14 0); off = short_at (get_or ns 15 0) }

-- the first number has both the operation and whose it is
unfoldable pub numbered_head : List ℕ → Head
numbered_head ns = record { place = place_of (whose_at (get_or ns 0 0 / 32)) (short_at (get_or ns 2 0)); pos = get_or ns 1 0; actor = short_at (get_or ns 3 0) }

unfoldable pub numbered_note : List ℕ → Note
numbered_note ns = record {
  place = place_of (whose_at (get_or ns 0 0 / 32)) (short_at (get_or ns 2 0));
  pos = get_or ns 1 0;
  entry = entry_of (sort_at (get_or ns 0 0 % 32) (get_or ns 4 0)) (short_at (get_or ns 3 0)) (get_or ns 5 0) (op_words_at ns) (reply_words_at ns);
}
