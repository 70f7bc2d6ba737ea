-- Worked texts, by computation.
use Rattle.std.proofs.Common.{◌≡◌, ◌++◌, refl, Ok}
use Rattle.std.specs.Fmt.{digits}
use Rattle.co_text.specs.declared.Cause.TheVariants as cause
use Rattle.co_batch.proofs.Lines.{line, refused}
use Rattle.co_batch.specs.Reading.{batch_of}
use Rattle.co_event_text.specs.Answers.{event_text}

end_of_a_window : event_text (line "event 1" ++ line "timers 3" ++ line "arm 0 =1 pr 1" ++ line "arm 1 =1.5 pr 2" ++ line "arm 2 =3 pr 0" ++ line "until 5")
    ≡ Ok (line "armed 0 u4294967296" ++ line "armed 0 u6442450944" ++ line "armed 0 u12884901888" ++ line "event u8589934592 2" ++ line "fired 0" ++ line "fired 1" ++ line "event u12884901888 1" ++ line "fired 2" ++ line "until u21474836480")
unfolding batch_of digits
end_of_a_window = refl

no_earlier_than_now : event_text (line "event 1" ++ line "timers 1" ++ line "until 2" ++ line "arm 0 =1 pr 0" ++ line "until 2" ++ line "stop 0")
    ≡ Ok (line "until u8589934592" ++ line "armed 0 u8589934592" ++ line "event u8589934592 1" ++ line "fired 0" ++ line "until u8589934592" ++ line "stopped -1")
unfolding batch_of digits
no_earlier_than_now = refl

-- the last moment of a window comes by its own time, and a span counts from now
at_its_end : event_text (line "event 1" ++ line "timers 1" ++ line "until 1" ++ line "arm 0 +1 pr 1" ++ line "arm 0 +2 pr 1" ++ line "until 3.9" ++ line "until 4" ++ line "stop 0")
    ≡ Ok (line "until u4294967296" ++ line "armed 0 u8589934592" ++ line "armed 1 u12884901888" ++ line "until u16750372454" ++ line "event u17179869184 1" ++ line "fired 0" ++ line "until u17179869184" ++ line "stopped -1")
unfolding batch_of digits
at_its_end = refl

no_precision : event_text (line "event 1" ++ line "timers 1" ++ line "arm 0 =1") ≡ refused 3 cause.Form
unfolding batch_of
no_precision = refl

no_callout : event_text (line "event 1" ++ line "timers 1" ++ line "arm 1 =1 pr 0") ≡ refused 3 cause.Number
unfolding batch_of
no_callout = refl

falling : event_text (line "event 1" ++ line "timers 1" ++ line "until 2" ++ line "until 1") ≡ refused 4 cause.Falls
unfolding batch_of
falling = refl
