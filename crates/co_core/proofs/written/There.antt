-- What is there to be read in the ledger.
use Rattle.std.proofs.Common.{ℕ, ◌<◌, ◌≤◌, length, get_or, arith}
use Rattle.co_program.specs.declared.script.Script.{Script}
use Rattle.co_program.specs.Actors.{actor_count}
use Rattle.co_program.specs.Indexed.{IsCounted}
use Rattle.co_world.specs.World.{World}
use Rattle.co_core.specs.Written.{Written, cursor_at}
use Rattle.co_core.specs.Stands.{ShowsWritten}
use Rattle.co_core.proofs.tables.Values.{read, long}
use Rattle.co_core.proofs.written.Counting.{notes_by, own_by, entries_of, turns_of, scans_in, scans_few}

module _ (s : Script) (x : Written) (w : World) (written : ShowsWritten s x w) where
  pub history_there : (i : ℕ) → i < length s.timers → (i < length x.histories) × (get_or x.histories i 0 ≤ x.made)
  history_there i known =
      let l = long x.histories (length s.timers) (entries_of w) written.each_history in
      let e = read x.histories (length s.timers) (entries_of w) i 0 written.each_history known in
      let few = written.few_entries i in
      (omega arith, omega arith)

  pub journal_there : (cpu : ℕ) → cpu < s.cpus → (cpu < length x.journals) × (get_or x.journals cpu 0 ≤ x.made)
  journal_there cpu known =
      let l = long x.journals s.cpus (turns_of w) written.each_journal in
      let e = read x.journals s.cpus (turns_of w) cpu 0 written.each_journal known in
      let few = written.few_turns cpu in
      (omega arith, omega arith)

  pub scan_there : (cpu : ℕ) → cpu < s.cpus → (cpu < length x.scans) × (get_or x.scans cpu 0 ≤ x.made)
  scan_there cpu known =
      let l = long x.scans s.cpus (scans_in w) written.each_scan in
      let e = read x.scans s.cpus (scans_in w) cpu 0 written.each_scan known in
      let few = written.few_turns cpu in
      let fewer = scans_few (w.cpus cpu).journal in
      (omega arith, omega arith)

  pub own_there : (a : ℕ) → a < actor_count s → (a < length x.own) × (get_or x.own a 0 ≤ x.made)
  own_there a known =
      let l = long x.own (actor_count s) (own_by w) written.each_own in
      let e = read x.own (actor_count s) (own_by w) a 0 written.each_own known in
      let few = written.few_own a in
      (omega arith, omega arith)

  pub list_there : (a : ℕ) → a < actor_count s → a < length x.lists
  list_there a known = let l = long x.lists (actor_count s) (notes_by w) written.each_list in omega arith

  pub place_there : (a : ℕ) → a < actor_count s → (a < length x.cursors) × IsCounted (cursor_at x a) x.made
  place_there a known = let l = written.cursors_long in let counts = written.counted a known in (omega arith, counts)
