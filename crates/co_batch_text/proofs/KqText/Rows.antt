-- Worked texts, by computation.
use Rattle.std.proofs.Common.{◌≡◌, ◌++◌, refl, Ok}
use Rattle.std.specs.Fmt.{digits}
use Rattle.co_text.specs.declared.Cause.TheVariants as cause
use Rattle.co_batch.proofs.Lines.{line, refused}
use Rattle.co_batch.specs.Reading.{batch_of}
use Rattle.co_batch_text.specs.Kq.Answers.{kq_text}

repeated : kq_text (line "kq 1" ++ line "knotes 2" ++ line "add 7 1500 ms" ++ line "tick 1" ++ line "tick 1.5" ++ line "tick 9" ++ line "events 4" ++ line "events 4")
    ≡ Ok (line "added" ++ line "ticked 0" ++ line "ticked 1" ++ line "ticked 1" ++ line "events 1" ++ line "7 2" ++ line "events 0")
unfolding batch_of digits
repeated = refl

replaced : kq_text (line "kq 1" ++ line "knotes 1" ++ line "add 1 1 s oneshot" ++ line "add 2 1 s" ++ line "add 2 0 s" ++ line "tick 5" ++ line "add 1 2 s" ++ line "delete 1" ++ line "delete 1")
    ≡ Ok (line "added" ++ line "full" ++ line "value" ++ line "ticked 1" ++ line "added" ++ line "deleted 0" ++ line "noentry")
unfolding batch_of digits
replaced = refl

-- events come by rising ident, and what finds no room stays
by_ident : kq_text (line "kq 1" ++ line "knotes 3" ++ line "add 9 1 ns oneshot" ++ line "add 4 1 us" ++ line "add 6 1 s oneshot" ++ line "tick 1" ++ line "events 2" ++ line "events 0" ++ line "events 2" ++ line "delete 6" ++ line "delete 4")
    ≡ Ok (line "added" ++ line "added" ++ line "added" ++ line "ticked 3" ++ line "events 2" ++ line "4 1" ++ line "6 1" ++ line "events 0" ++ line "events 1" ++ line "9 1" ++ line "noentry" ++ line "deleted 0")
unfolding batch_of digits
by_ident = refl

large_ident : kq_text (line "kq 1" ++ line "knotes 1" ++ line "delete 18446744073709551616") ≡ refused 3 cause.Number
unfolding batch_of
large_ident = refl

no_unit : kq_text (line "kq 1" ++ line "knotes 1" ++ line "add 1 1 h") ≡ refused 3 cause.Form
unfolding batch_of
no_unit = refl
