-- How many actors hold each lock.
use Rattle.std.specs.Prelude.{◌≡◌, ℕ, ◌+◌, ◌-◌, ◌^◌, ◌<◌, ◌==◌, ◌&&◌, ◌||◌, Bool, true, false, not, nat_lt, if◌then◌else◌, List, length, get_or, set}
use Rattle.std.specs.List.{sum_by}
use Rattle.std.specs.declared.option.Option.{Option}
use Rattle.std.specs.declared.option.Option.TheVariants.{Some, None}
use Rattle.co_lock.specs.declared.held.Held.{Held}
use Rattle.co_program.specs.declared.cursor.Cursor.{Cursor}
use Rattle.co_core.specs.declared.ledger.holders.Holders.{Holders}
use Rattle.co_core.specs.Table.{table}

-- 1 where the hold is one that shares lock k
abbrev pub shares : ℕ → Option Held → ℕ
shares k None = 0
shares k (Some h) = if k == h.id && not h.exclusive then 1 else 0

-- 1 where it is one that has lock k alone
abbrev pub has_alone : ℕ → Option Held → ℕ
has_alone k None = 0
has_alone k (Some h) = if k == h.id && h.exclusive then 1 else 0

-- the actors at these cursors that hold lock k
abbrev pub holders_at : List Cursor → ℕ → Holders
holders_at cursors k = record { shared = sum_by (λ place. shares k place.hold) cursors; exclusive = sum_by (λ place. has_alone k place.hold) cursors }

-- the table has of each of its locks the holders among these cursors
abbrev pub AreHolders : List Holders → List Cursor → Type 0
AreHolders holders cursors = holders ≡ table (length holders) (holders_at cursors)

abbrev pub no_holders : Holders
no_holders = record { shared = 0; exclusive = 0 }

-- there may be one holder more of either kind
pub record MayHoldOneMore (h : Holders) : Type 0 where
  -- the count of those that share the lock does not wrap
  pub shared : h.shared < 2 ^ 64 - 1
  -- nor does that of those that have it alone
  pub exclusive : h.exclusive < 2 ^ 64 - 1

-- so it is of each lock in the table
abbrev pub HaveRoom : List Holders → Type 0
HaveRoom holders = (k : ℕ) → k < length holders → MayHoldOneMore (get_or holders k no_holders)

-- one hold more, and one less
abbrev pub one_more_hold : Bool → Holders → Holders
one_more_hold true h = record h { exclusive = h.exclusive + 1 }
one_more_hold false h = record h { shared = h.shared + 1 }

abbrev pub fewer : Bool → Holders → Holders
fewer true h = record h { exclusive = h.exclusive - 1 }
fewer false h = record h { shared = h.shared - 1 }

abbrev pub at_lock : (Holders → Holders) → ℕ → List Holders → List Holders
at_lock change k holders = if nat_lt k (length holders) then set holders k (change (get_or holders k no_holders)) else holders

abbrev pub hold_taken : Option Held → List Holders → List Holders
hold_taken None holders = holders
hold_taken (Some h) holders = at_lock (one_more_hold h.exclusive) h.id holders

abbrev pub released : Option Held → List Holders → List Holders
released None holders = holders
released (Some h) holders = at_lock (fewer h.exclusive) h.id holders

-- a hold excludes these holders
abbrev pub excludes_any : Bool → Holders → Bool
excludes_any exclusive h = nat_lt 0 h.exclusive || (exclusive && nat_lt 0 h.shared)
