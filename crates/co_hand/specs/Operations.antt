-- What an act asks for.
use Rattle.std.specs.Prelude.{◌≡◌, ℕ, ⊤, Bool, true, false, Option, Some, None}
use Rattle.co_program.specs.declared.act.Act.{Act}
use Rattle.co_program.specs.declared.act.Act.TheVariants.{Now, Lock, ReadLock, Unlock, Drain, Tick}

-- the act is no call, or a drain, which waits
abbrev pub asks_nothing : Act → Bool
asks_nothing (Now time) = true
asks_nothing (Lock id) = true
asks_nothing (ReadLock id) = true
asks_nothing Unlock = true
asks_nothing (Drain i) = true
asks_nothing (Tick time) = true
asks_nothing act = false

-- callout i is in service, if any is
abbrev pub IsTheServed : Option ℕ → ℕ → Type 0
IsTheServed None i = ⊤
IsTheServed (Some me) i = me ≡ i
