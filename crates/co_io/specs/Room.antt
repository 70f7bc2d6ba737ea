-- The room of a sink: how many more bytes it takes, where that is told.
use Rattle.std.specs.Prelude.{◌≡◌, ℕ, ◌+◌, ◌<◌, Option, None, Some, Result, MatchResult, IfSome, ⊤}

-- a room that is told loses n bytes
abbrev pub Fills : Option ℕ → Option ℕ → ℕ → Type 0
Fills None after n = ⊤
Fills (Some room) None n = ⊥
Fills (Some room) (Some rest) n = room ≡ n + rest

-- a write fills what it took, and nothing where it failed
abbrev pub WriteFills : {E : Type 0} → Option ℕ → Option ℕ → Result ℕ E → Type 0
WriteFills before after r = MatchResult r (Fills before after) (λ _. Fills before after 0)

-- a room that is told has no place for n bytes
abbrev pub IsTooSmallFor : ℕ → Option ℕ → Type 0
IsTooSmallFor n room = IfSome room (λ bytes. bytes < n)
