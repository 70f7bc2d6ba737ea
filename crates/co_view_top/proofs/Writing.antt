-- What is told of a text that was to be written: its status where all of it was, and else that the sink failed in it.
use Rattle.std.proofs.Common.{◌≡◌, ℕ, List, length, Result, Ok, Err, OnErr, inl, inr, refl}
use Rattle.std.specs.Prelude.{MatchResult, OnOk}
use Rattle.std.specs.Io.KnownBytes.{Appends}
use Rattle.co_io.specs.Counts.{Rose}
use Rattle.co_io.specs.Room.{IsTooSmallFor}
use Rattle.co_io.specs.Writing.{AppendsFront}
use Rattle.co_io.specs.declared.write.WriteEnd.{WriteEnd}
use Rattle.co_io.specs.declared.write.WriteEnd.TheVariants.{Fault, Stalled}
use Rattle.co_view_top.specs.declared.status.Status.{Status}
use Rattle.co_view_top.specs.declared.status.Status.TheVariants.{WriteFault}
use Rattle.co_front.specs.Outside.{Output, Tells}

pub tells : {X : Type 0} (status result : Status) (text : List ℕ) (before after : Output) (end : Result X WriteEnd) →
    MatchResult end (λ _. result ≡ status) (λ _. result ≡ WriteFault) →
    OnOk end (Appends before.held after.held text) → OnErr end (AppendsFront before.held after.held text) →
    (end ≡ Err Fault → Rose before.faults after.faults) → (end ≡ Err Stalled → Rose before.idle after.idle) →
    (end ≡ Err Stalled → IsTooSmallFor (length text) before.room) → Tells WriteFault status text before after result
tells status result text before after (Ok x) is ok err fault stalled full = inl (is, ok)
tells status result text before after (Err Fault) is ok err fault stalled full = inr (is, record { front = err; cause = inl (fault refl) })
tells status result text before after (Err Stalled) is ok err fault stalled full = inr (is, record { front = err; cause = inr (stalled refl, full refl) })
