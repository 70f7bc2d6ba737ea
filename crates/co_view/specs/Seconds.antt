-- A time as seconds in decimals, rounded to a microsecond.
use Rattle.std.specs.Prelude.{ℕ, ◌+◌, ◌*◌, ◌/◌, ◌%◌, ◌==◌, [], ◌∷◌, ◌++◌, codes, decimal, if◌then◌else◌}
use Rattle.co_text.specs.Values.{Word}

-- 2^32 units are a second
abbrev pub micros_of : ℕ → ℕ
micros_of t = t / 4294967296 * 1000000 + (t % 4294967296 * 1000000 + 2147483648) / 4294967296

-- a number below 1000 in three digits
abbrev pub three_digits : ℕ → Word
three_digits n = (48 + n / 100) ∷ (48 + n / 10 % 10) ∷ (48 + n % 10) ∷ []

-- millionths behind a point: none, three digits where that is exact, else six
abbrev pub fraction : ℕ → Word
fraction n =
    if n == 0 then []
    else if n % 1000 == 0 then 46 ∷ three_digits (n / 1000)
    else 46 ∷ (three_digits (n / 1000) ++ three_digits (n % 1000))

-- `1s`, `1.500s` or `0.003906s`
abbrev pub seconds_word : ℕ → Word
seconds_word t = decimal (micros_of t / 1000000) ++ (fraction (micros_of t % 1000000) ++ codes "s")
