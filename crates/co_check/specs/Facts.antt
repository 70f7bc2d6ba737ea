-- What is said of a line besides what it shows, and how the code keeps it in one number.
use Rattle.std.specs.Prelude.{ℕ, ◌/◌, ◌%◌, ◌==◌, Bool}

pub record Fact : Type 0 where
  -- its callout stands in a queue once the note is made
  pub listed : Bool
  -- how many Scans stand above it in its CPU's journal
  pub scans : ℕ

abbrev pub fact_in : ℕ → Fact
fact_in bits = record { listed = bits % 2 == 1; scans = bits / 2 }
