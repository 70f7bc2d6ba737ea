-- What contracts see of sources and sinks in memory.
use Rattle.std.specs.Prelude.{ℕ, List}

-- a source: what is left, the most bytes that a call gives, the numbers of the calls that fail, and how many calls were made and failed
pub record Feed : Type 0 where
  pub left : List ℕ
  pub piece : ℕ
  pub fails : List ℕ
  pub calls : ℕ
  pub faults : ℕ

-- a sink without faults: what it holds, how many bytes more it takes, and how many writes took nothing
pub record Store : Type 0 where
  pub held : List ℕ
  pub room : ℕ
  pub idle : ℕ

-- a sink: the same, the most bytes that a call takes, the numbers of the calls that fail, and how many calls were made and failed
pub record FaultyStore : Type 0 where
  pub held : List ℕ
  pub room : ℕ
  pub idle : ℕ
  pub piece : ℕ
  pub fails : List ℕ
  pub calls : ℕ
  pub faults : ℕ
