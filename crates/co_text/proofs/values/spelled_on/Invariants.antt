use Rattle.std.proofs.Common.{◌≡◌, ◌<◌, ◌^◌, ◌+◌, ◌-◌, length, take, true}
use Rattle.std.specs.List.{list_all}
use Rattle.std.specs.Char.{is_ascii_digit}
use Rattle.co_text.specs.Values.{spelled_after}
use Rattle.co_text.proofs.values.spelled_on.Given as goal

-- the bytes so far are digits, and what they spell behind the number
abbrev pub invariant-loop-c : goal.invariant-loop-c
invariant-loop-c l = record {
  digits : list_all is_ascii_digit (take l.c-index l.word) ≡ true;
  value : l.value ≡ spelled_after l.fn.value (take l.c-index l.word);
  below : l.value < 10 ^ (19 - length l.word + l.c-index);
}
