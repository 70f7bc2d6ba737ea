use Rattle.std.proofs.Common.{◌≡◌, ◌<◌, ◌^◌, ◌%◌, take, true}
use Rattle.std.specs.List.{list_all}
use Rattle.std.specs.Char.{is_ascii_digit}
use Rattle.co_sbt.specs.Seconds.{number}
use Rattle.co_notes.proofs.reading.plain.digits_at_front.Given as goal

-- the bytes so far are digits, and what they spell
abbrev pub invariant-loop-c : goal.invariant-loop-c
invariant-loop-c l = record {
  count : l.count ≡ l.c-index;
  digits : list_all is_ascii_digit (take l.c-index l.text) ≡ true;
  value : l.value ≡ number (take l.c-index l.text) % 2 ^ 64;
  below : number (take l.c-index l.text) < 10 ^ l.c-index;
}
