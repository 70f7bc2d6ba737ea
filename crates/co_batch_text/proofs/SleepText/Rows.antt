-- Worked texts, by computation.
use Rattle.std.proofs.Common.{◌≡◌, ◌++◌, refl, Ok}
use Rattle.std.specs.Fmt.{digits}
use Rattle.co_text.specs.declared.Cause.TheVariants as cause
use Rattle.co_batch.proofs.Lines.{line, refused}
use Rattle.co_batch.specs.Reading.{batch_of}
use Rattle.co_batch_text.specs.Sleep.Answers.{sleep_text}

-- the first of two on a channel is woken before its time is up
woken_in_time : sleep_text (line "sleep 1" ++ line "sleepers 2" ++ line "sleep 0 7 1000" ++ line "sleep 1 7 0" ++ line "wakeup1 7" ++ line "tick 1" ++ line "awake 0" ++ line "awake 1" ++ line "wakeup 7" ++ line "awake 1")
    ≡ Ok (line "began 0" ++ line "began 1" ++ line "one 0" ++ line "ticked 0 1" ++ line "woken" ++ line "asleep" ++ line "woke 1" ++ line "woken")
unfolding batch_of digits
woken_in_time = refl

-- the last sleep is due at 4299262263, exactly the time of the last tick
timed_out_at_last : sleep_text (line "sleep 1" ++ line "sleepers 1" ++ line "awake 0" ++ line "wakeup1 7" ++ line "sleep 0 7 1" ++ line "sleep 0 8 0" ++ line "wakeup 7" ++ line "awake 0" ++ line "sleep 0 7 0" ++ line "tick 1" ++ line "awake 0" ++ line "wakeup 7" ++ line "sleep 0 9 1" ++ line "tick 1.001" ++ line "awake 0")
    ≡ Ok (line "never" ++ line "nobody" ++ line "began 0" ++ line "already" ++ line "woke 1" ++ line "woken" ++ line "began 1" ++ line "ticked 0 0" ++ line "asleep" ++ line "woke 1" ++ line "began 2" ++ line "ticked 1 0" ++ line "timedout")
unfolding batch_of digits
timed_out_at_last = refl

no_sleeper : sleep_text (line "sleep 1" ++ line "sleepers 1" ++ line "awake 1") ≡ refused 3 cause.Number
unfolding batch_of
no_sleeper = refl

no_channel : sleep_text (line "sleep 1" ++ line "sleepers 1" ++ line "wakeup 18446744073709551616") ≡ refused 3 cause.Number
unfolding batch_of
no_channel = refl

too_many_ticks : sleep_text (line "sleep 1" ++ line "sleepers 1" ++ line "sleep 0 7 2147483648") ≡ refused 3 cause.Number
unfolding batch_of
too_many_ticks = refl

falling : sleep_text (line "sleep 1" ++ line "sleepers 1" ++ line "tick 2" ++ line "tick 1") ≡ refused 4 cause.Falls
unfolding batch_of
falling = refl
