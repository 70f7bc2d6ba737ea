-- What the core's world has: its script, what has been written, and where the records are.
use Rattle.co_program.specs.declared.script.Script.{Script}
use Rattle.co_core.specs.Stored.{Stored}
use Rattle.co_core.specs.Written.{Written}

pub record Seen : Type 0 where
  pub script : Script
  pub ledger : Written
  pub depot : Stored
