-- Worked texts, by computation.
use Rattle.std.proofs.Common.{◌≡◌, ◌++◌, refl, Ok}
use Rattle.std.specs.Fmt.{digits}
use Rattle.co_text.specs.declared.Cause.TheVariants as cause
use Rattle.co_batch.proofs.Lines.{line, refused}
use Rattle.co_batch.specs.Reading.{batch_of}
use Rattle.co_batch_text.specs.Itimer.Answers.{itimer_text}

interval : itimer_text (line "itimer 1" ++ line "processes 1" ++ line "set 0 1 2" ++ line "tick 0.5" ++ line "get 0" ++ line "tick 6" ++ line "get 0" ++ line "alarm 0" ++ line "alarm 0" ++ line "set 0 0 5" ++ line "get 0")
    ≡ Ok (line "was u0 u0" ++ line "ticked 0" ++ line "is u2147483648 u8589934592" ++ line "ticked 1" ++ line "is u4294967296 u8589934592" ++ line "alarm 1" ++ line "alarm 0" ++ line "was u4294967296 u8589934592" ++ line "is u0 u0")
unfolding batch_of digits
interval = refl

once : itimer_text (line "itimer 1" ++ line "processes 1" ++ line "set 0 1 0" ++ line "tick 1" ++ line "tick 2")
    ≡ Ok (line "was u0 u0" ++ line "ticked 1" ++ line "ticked 0")
unfolding batch_of digits
once = refl

no_process : itimer_text (line "itimer 1" ++ line "processes 1" ++ line "get 1") ≡ refused 3 cause.Number
unfolding batch_of
no_process = refl

falling : itimer_text (line "itimer 1" ++ line "processes 1" ++ line "tick 2" ++ line "tick 1") ≡ refused 4 cause.Falls
unfolding batch_of
falling = refl
