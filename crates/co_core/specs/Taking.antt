-- The lock that an act takes.
use Rattle.std.specs.Prelude.{true, false, Option, Some, None}
use Rattle.co_lock.specs.declared.held.Held.{Held}
use Rattle.co_program.specs.declared.act.Act.{Act}
use Rattle.co_program.specs.declared.act.Act.TheVariants.{Lock, ReadLock}

abbrev pub lock_taken_by : Act → Option Held
lock_taken_by (Lock id) = Some (record { id = id; exclusive = true })
lock_taken_by (ReadLock id) = Some (record { id = id; exclusive = false })
lock_taken_by act = None
