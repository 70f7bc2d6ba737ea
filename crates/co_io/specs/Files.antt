-- What contracts see of a source over a reader and of a sink over a writer.
use Rattle.std.specs.Prelude.{ℕ}

-- the reader, and how many reads failed
pub record OverReader (R : Type 0) : Type 0 where
  pub reader : R
  pub faults : ℕ

-- the writer, how many writes failed, and how many took nothing
pub record OverWriter (W : Type 0) : Type 0 where
  pub writer : W
  pub faults : ℕ
  pub idle : ℕ
