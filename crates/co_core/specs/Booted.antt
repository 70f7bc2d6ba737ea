-- The ledger and the depot before the first step.
use Rattle.std.specs.Prelude.{◌≡◌, ℕ, Bool, List, map, replicate}
use Rattle.co_program.specs.declared.cursor.Cursor.{Cursor}
use Rattle.co_program.specs.declared.script.Script.{Script}
use Rattle.co_program.specs.Scripts.{IsScript}
use Rattle.co_core.specs.declared.ledger.holders.Holders.{Holders}
use Rattle.co_core.specs.Holders.{no_holders}
use Rattle.co_core.specs.Written.{first_cursor}

-- the wheels of a sound script may be made, by what is known of the lanes of its callouts
pub record MayBoot (s : Script) (lanes : List Bool) : Type 0 where
  -- the script is a sound one
  pub script : IsScript s
  -- of each of its callouts, whether it is served by the interrupt
  pub direct : lanes ≡ map (λ spec. spec.direct) s.timers

-- each of these actors stands before its first act and has no note of its own, and nobody holds one of the locks
pub record NobodyActs (actors locks : ℕ) (cursors : List Cursor) (holders : List Holders) (own : List ℕ) : Type 0 where
  pub cursors_are : cursors ≡ replicate actors first_cursor
  pub holders_are : holders ≡ replicate locks no_holders
  pub own_are : own ≡ replicate actors 0

-- no callout and no CPU has an entry, and none of a CPU's is a Scan
pub record HasNoEntries (timers cpus : ℕ) (histories journals scans : List ℕ) : Type 0 where
  pub histories_are : histories ≡ replicate timers 0
  pub journals_are : journals ≡ replicate cpus 0
  pub scans_are : scans ≡ replicate cpus 0
