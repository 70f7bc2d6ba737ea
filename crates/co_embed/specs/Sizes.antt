-- How large a wheel may be.
use Rattle.std.specs.Prelude.{ℕ, Bool, ◌&&◌, nat_le, nat_lt, List, map}
use Rattle.std.specs.List.{range_with_len}
use Rattle.co_object.specs.Queue.{is_wheel_size}

-- a CPU's number that is no other word, and 1 to 2^20 callouts
abbrev pub are_sizes : (cpu buckets callouts direct : ℕ) → Bool
are_sizes cpu buckets callouts direct =
    nat_lt cpu 4294967294 && is_wheel_size buckets && nat_le 1 callouts && nat_le callouts 1048576 && nat_le direct callouts

-- the numbers from `first` on are direct
abbrev pub directs : (callouts first : ℕ) → List Bool
directs callouts first = map (λ i. nat_le first i) (range_with_len 0 callouts)
